-- The end of options. Assumes nothing.
use Rattle.std.specs.Prelude.{◌≡◌, ℕ, false, List, [], ◌∷◌}
use Rattle.text.specs.Identifier.{Text}
use Rattle.register.specs.Meaning.{ParameterMeaning}
use Rattle.judge.specs.Meaning.{JudgeMeaning}
use Rattle.reading.specs.Signature.{any_option}
use Rattle.reading.specs.Reading.{Given, LawfulOrder}
use Rattle.reading.specs.declared.role.Role.TheVariants.{EndMark, PlainWord}
use Rattle.manual.specs.Orders.{Stands}

-- these words are plain: no switches, no values of switches, no end marks
pub data AllPlain : List Given → Type 0 where
  none : AllPlain []
  more : {gs : List Given} {w : Text} {k : ℕ} → AllPlain gs → AllPlain (record { word = w; role = PlainWord k } ∷ gs)

pub record EndLaws (ps : List ParameterMeaning) (given : List Given) : Type 0 where
  -- behind an end mark no word of the order is a switch: all are plain
  pub no_switch_behind_end_mark : (before after : List Given) (w : Text) → Stands given before w EndMark after → AllPlain after
  -- a recipe without options has neither switches nor end mark: all words are plain
  pub no_options_no_switches : any_option ps ≡ false → AllPlain given

-- of every lawful order
abbrev pub EndsStand : Type 0
EndsStand = (ps : List ParameterMeaning) (judge : JudgeMeaning) (n : ℕ) (words : List Text) (given : List Given) (rest : List Text) → LawfulOrder ps judge n words given rest → EndLaws ps given
