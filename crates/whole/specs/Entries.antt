-- The steps of a derivation, for rows of either kind: definitions for the contracts of inner functions alone. Assumes nothing.
use Rattle.std.specs.Prelude.{◌≡◌, ℕ, ◌+◌, ◌<◌, ◌≤◌, min, ◌⊎◌, List, [], ◌∷◌, length, take, drop, Some, Ok, Err, Option, Result, MatchOption}
use Rattle.std.specs.Option.{option_map}
use Rattle.text.specs.Spans.{text_at}
use Rattle.tree.specs.Tree.{Parameter}
use Rattle.tree.specs.declared.rows.LongRow.{LongRow}
use Rattle.tree.specs.declared.rows.LetterRow.{LetterRow}
use Rattle.whole.specs.Places.{Stands, Among}
use Rattle.table.specs.Order.{Key, Ascending}
use Rattle.whole.specs.Shared.{Named, Distinct}
use Rattle.whole.specs.Derived.{Gives}
use Rattle.whole.specs.Inserted.{Inserted}
use Rattle.whole.specs.declared.filled.Filled.{Filled}
use Rattle.whole.specs.declared.derive.NameTwice.{NameTwice}

-- What a row of either kind says: the parameter at a place of a recipe has a name. Here a name is a list of numbers: a long name its bytes, a letter its one code point.
pub record Entry : Type 0 where
  pub recipe : ℕ
  pub place : ℕ
  pub name : List ℕ

abbrev pub entry : ℕ → ℕ → List ℕ → Entry
entry recipe place name = record { recipe = recipe; place = place; name = name }

abbrev pub key_of : Entry → Key
key_of e = e.recipe ∷ e.name

abbrev pub long_entry : List ℕ → LongRow → Entry
long_entry image row = entry row.recipe row.place (text_at image row.text)

abbrev pub letter_entry : List ℕ → LetterRow → Entry
letter_entry image row = entry row.recipe row.place (row.letter ∷ [])

abbrev pub long_name : Parameter → Option (List ℕ)
long_name p = p.long

abbrev pub letter_name : Parameter → Option (List ℕ)
letter_name p = option_map (λ c. c ∷ []) p.letter

module _ {X : Type 0} (said : X → Entry) where
  abbrev pub key_by : X → Key
  key_by x = key_of (said x)

  abbrev pub Says : Entry → X → Type 0
  Says e x = said x ≡ e

  -- the row of a parameter that has a name is inserted; else nothing changes
  abbrev pub Added : List X → ℕ → ℕ → ℕ → Option (List ℕ) → ℕ → List X → Type 0
  Added rows filled recipe place name more after =
      MatchOption name ((more ≡ filled) × (after ≡ rows))
      (λ t. (row : X) × (said row ≡ entry recipe place t) × (more ≡ filled + 1) × Inserted key_by rows filled row after)

  -- the name stands already among the filled rows of the recipe
  abbrev pub Stood : List X → ℕ → Option (List ℕ) → Type 0
  Stood rows recipe name = (t : List ℕ) × (name ≡ Some t) × Among (λ x. key_by x ≡ recipe ∷ t) rows

  -- the names of one recipe's parameters stand among the rows, with what stood before and nothing else
  pub record RecipeListed (name : Parameter → Option (List ℕ)) (recipe : ℕ) (parameters : List Parameter) (before after : List X) : Type 0 where
    pub ascending : Ascending key_by after
    pub distinct : Distinct name parameters
    pub either : (e : Entry) → Among (Says e) after → Among (Says e) before ⊎ ((e.recipe ≡ recipe) × Named name parameters e.place e.name)
    pub kept : (e : Entry) → Among (Says e) before → Among (Says e) after
    pub listed : (e : Entry) → e.recipe ≡ recipe → Named name parameters e.place e.name → Among (Says e) after

  -- the names of all recipes' parameters stand among the rows, and nothing else
  pub record AllListed (name : Parameter → Option (List ℕ)) (recipes : List (List Parameter)) (rows : List X) : Type 0 where
    pub ascending : Ascending key_by rows
    pub distinct : (r : ℕ) → r < length recipes → Stands (Distinct name) recipes r
    pub sound : (e : Entry) → Among (Says e) rows → Gives name recipes e.recipe e.place e.name
    pub complete : (e : Entry) → Gives name recipes e.recipe e.place e.name → Among (Says e) rows

  -- so many rows are filled after a recipe, and what lies behind them is as it was
  pub record RecipeFilled (name : Parameter → Option (List ℕ)) (recipe : ℕ) (parameters : List Parameter) (rows : List X) (filled more : ℕ) (after : List X) : Type 0 where
    pub least : filled ≤ more
    pub most : more ≤ filled + 16
    pub holds : RecipeListed name recipe parameters (take filled rows) (take more after)
    pub behind : drop more after ≡ drop more rows

  -- so many rows are filled, and what lies behind them is as it was
  pub record AllFilled (name : Parameter → Option (List ℕ)) (recipes : List (List Parameter)) (rows : List X) (filled : ℕ) (after : List X) : Type 0 where
    pub within : filled ≤ length rows
    pub holds : AllListed name recipes (take filled after)
    pub behind : drop filled after ≡ drop filled rows

-- the lowest recipe that has one name twice
pub record FirstTwice (name : Parameter → Option (List ℕ)) (recipes : List (List Parameter)) (r : ℕ) : Type 0 where
  pub before : (k : ℕ) → k < r → Stands (Distinct name) recipes k
  pub twice : Stands (λ parameters. Distinct name parameters → ⊥) recipes r

-- the answer from those for long names and for letters
abbrev pub joined : Result ℕ NameTwice → Result ℕ NameTwice → Result Filled NameTwice
joined (Ok longs) (Ok letters) = Ok (record { longs = longs; letters = letters })
joined (Ok longs) (Err r) = Err r
joined (Err r) (Ok letters) = Err r
joined (Err r) (Err s) = Err (record { recipe = min r.recipe s.recipe })
