-- Places in an order of a lawful reading. The given words of an order behind its path stand last first. Assumes nothing.
use Rattle.std.specs.Prelude.{◌≡◌, ℕ, not, List, ◌∷◌, ◌++◌, map, Some}
use Rattle.text.specs.Identifier.{Text}
use Rattle.register.specs.Meaning.{ParameterMeaning}
use Rattle.register.specs.Parameters.{parameter_at}
use Rattle.reading.specs.Signature.{is_option, counted}
use Rattle.reading.specs.Reading.{Given, Value, group, values}
use Rattle.reading.specs.declared.role.Role.{Role}

-- the word w has the role r in the order, behind these words and before those
abbrev pub Stands : List Given → List Given → Text → Role → List Given → Type 0
Stands given before w r after = given ≡ after ++ (record { word = w; role = r } ∷ before)

-- the parameter p has the place k
abbrev pub At : List ParameterMeaning → ℕ → ParameterMeaning → Type 0
At ps k p = parameter_at ps k ≡ Some p

abbrev pub text_of : Value → Text
text_of v = v.text

-- the texts of a parameter's group, in sequence
abbrev pub texts_of : List ParameterMeaning → ℕ → List Given → ℕ → List Text
texts_of ps n given k = map text_of (group k (values ps n given))

-- how many parameters are no options
abbrev pub plain_count : List ParameterMeaning → ℕ
plain_count ps = counted (λ p. not (is_option p)) ps
