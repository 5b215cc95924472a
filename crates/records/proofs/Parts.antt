-- The parts of a record, from what was read of it.
use Rattle.std.proofs.Common.{◌≡◌, ℕ, zero, suc, ◌<◌, ◌≤◌, List, [], ◌∷◌, length, take, is_some as option_is_some, Some, None, Option, sym, refl, ap, ◌∙◌, arith}
use Rattle.std.proofs.lemmas.List.{length-map, length-take-le, take-map}
use Rattle.text.specs.Spans.{text_at, texts_at}
use Rattle.text.specs.declared.span.Span.{Span}
use Rattle.format.specs.Format.{Format, KeepsIf, both, rows}
use Rattle.format.specs.Fields.{within, bit, map_of}
use Rattle.format.proofs.Bitwise.{map_is, stands_bit}
use Rattle.tree.specs.Tree.{Parameter}
use Rattle.tree.specs.Rows.{module_at, name_at, parameter_at, recipe_at, pattern_at, listed_at}
use Rattle.tree.specs.declared.rows.ModuleRow.{ModuleRow}
use Rattle.tree.specs.declared.rows.NameRow.{NameRow}
use Rattle.tree.specs.declared.rows.ParameterRow.{ParameterRow}
use Rattle.tree.specs.declared.rows.RecipeRow.{RecipeRow}
use Rattle.tree.specs.declared.rows.PatternRow.{PatternRow}
use Rattle.records.specs.Records.{map_of_parameter, parts_of_recipe, head_of, parts_of_tree}
use Rattle.records.specs.TreeRows.{rows_at, some_rows_at, head_at, tree_at, Filled}
use Rattle.records.specs.declared.counts.Counts.{Counts}

-- a map of one bit
pub map-one : {A : Type 0} (m : ℕ) (f : Format A) (o : Option A) → m < 2 → KeepsIf (bit 0 m) f o → m ≡ map_of (option_is_some o ∷ [])
map-one m f o h k = map_is 1 m h ∙ ap (λ b. map_of (b ∷ [])) (stands_bit (bit 0 m) f o k)

-- a map of two bits
pub map_two : {A B : Type 0} (m : ℕ) (f : Format A) (o : Option A) (g : Format B) (p : Option B) → m < 4 → KeepsIf (bit 0 m) f o → KeepsIf (bit 1 m) g p → m ≡ map_of (option_is_some o ∷ option_is_some p ∷ [])
map_two m f o g p h k l =
    map_is 2 m h ∙ ap (λ b. map_of (b ∷ bit 1 m ∷ [])) (stands_bit (bit 0 m) f o k) ∙ ap (λ b. map_of (option_is_some o ∷ b ∷ [])) (stands_bit (bit 1 m) g p l)

-- the ten bits of a parameter's map
pub map_ten : (m : ℕ) (p : Parameter) → m < 1024
    → bit 0 m ≡ option_is_some p.default → p.flag ≡ bit 1 m → p.multiple ≡ bit 2 m → p.value ≡ bit 3 m → bit 4 m ≡ option_is_some p.kind → bit 5 m ≡ option_is_some p.long
    → bit 6 m ≡ option_is_some p.letter → bit 7 m ≡ option_is_some p.min → bit 8 m ≡ option_is_some p.max → bit 9 m ≡ option_is_some p.pattern → m ≡ map_of_parameter p
map_ten m p h b0 b1 b2 b3 b4 b5 b6 b7 b8 b9 =
    let bits : bit 0 m ∷ bit 1 m ∷ bit 2 m ∷ bit 3 m ∷ bit 4 m ∷ bit 5 m ∷ bit 6 m ∷ bit 7 m ∷ bit 8 m ∷ bit 9 m ∷ []
    ≡ option_is_some p.default ∷ p.flag ∷ p.multiple ∷ p.value ∷ option_is_some p.kind ∷ option_is_some p.long ∷ option_is_some p.letter ∷ option_is_some p.min ∷ option_is_some p.max ∷ option_is_some p.pattern ∷ [] = cc in
    map_is 10 m h ∙ ap map_of bits

-- rows that were counted
pub length_rows : {A V : Type 0} (told : List ℕ → V → A) (rs : List V) (n : ℕ) (image : List ℕ) → n ≤ length rs → n ≡ length (rows_at told rs n image)
length_rows told rs n image h = sym (length-map (take n rs) (told image) ∙ length-take-le n rs h)

pub filled-length : {A V : Type 0} (told : List ℕ → V → A) (places n : ℕ) (before rs : List V) (image : List ℕ) → Filled places n before rs → n ≡ length (rows_at told rs n image)
filled-length told places n before rs image f = length_rows told rs n image (rw f.long f.fits)

-- a count and that many rows, as `counted` takes them apart
abbrev pub with_count : {A : Type 0} → List A → ℕ × List A
with_count rs = (length rs, rs)

abbrev pub counted_parts : {A : Type 0} → ℕ → ℕ → Format A → Format (ℕ × List A)
counted_parts least most f = both (within least most 1) (λ n. rows (λ _. f) None n)

pub recipe_is : (image : List ℕ) (m : ℕ) (f : Format (List Parameter)) (n : ℕ) (rs : List ParameterRow) → n ≤ length rs → m < 2 → KeepsIf (bit 0 m) f (some_rows_at parameter_at rs n image) → (m, some_rows_at parameter_at rs n image) ≡ parts_of_recipe (rows_at parameter_at rs n image)
recipe_is image m f zero rs l h k = ap (λ x. (x, None)) (map-one m f None h k)
recipe_is image m f (suc n) [] l h k = absurd (omega arith)
recipe_is image m f (suc n) (r ∷ rs) l h k =
    ap (λ x. (x, Some (rows_at parameter_at (r ∷ rs) (suc n) image))) (map-one m f (Some (rows_at parameter_at (r ∷ rs) (suc n) image)) h k)

pub listed_is : (image : List ℕ) (n : ℕ) (spans : List Span) → some_rows_at text_at spans n image ≡ listed_at image n (texts_at image spans)
listed_is image zero spans = refl
listed_is image (suc n) spans = ap Some (sym (take-map (text_at image) (suc n) spans))

pub tree_is : (image : List ℕ) (n : Counts) {bm ms : List ModuleRow} {bn ns : List NameRow} {br rs : List RecipeRow} {bp ps : List PatternRow} → Filled 64 n.modules bm ms → Filled 512 n.names bn ns → Filled 64 n.recipes br rs → Filled 256 n.patterns bp ps
    → (head_at image n, ((tree_at ms ns rs ps image n).modules, ((tree_at ms ns rs ps image n).names, ((tree_at ms ns rs ps image n).recipes, (tree_at ms ns rs ps image n).patterns)))) ≡ parts_of_tree (tree_at ms ns rs ps image n)
tree_is image n {bm} {ms} {bn} {ns} {br} {rs} {bp} {ps} fm fn fr fp =
    let t = tree_at ms ns rs ps image n in
    let a : n.modules ≡ length t.modules = filled-length module_at 64 n.modules bm ms image fm in
    let b : n.names ≡ length t.names = filled-length name_at 512 n.names bn ns image fn in
    let d : n.recipes ≡ length t.recipes = filled-length recipe_at 64 n.recipes br rs image fr in
    let e : n.patterns ≡ length t.patterns = filled-length pattern_at 256 n.patterns bp ps image fp in
    let h : head_at image n ≡ head_of t = cc in
    ap (λ x. (x, (t.modules, (t.names, (t.recipes, t.patterns))))) h
