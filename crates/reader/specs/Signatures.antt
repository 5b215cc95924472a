-- A recipe's parameters, as a register's signatures tell them. Assumes nothing.
use Rattle.std.specs.Prelude.{ℕ, suc, List, [], ◌∷◌, drop}
use Rattle.register.specs.Meaning.{ParameterMeaning, SignatureMeaning}
use Rattle.register.specs.Parameters.{without_texts}
use Rattle.reader.specs.declared.called.Called.{Called}
use Rattle.reader.specs.declared.signature.Signature.{Signature}
use Rattle.reader.specs.declared.signature.Parameters.{Parameters}

abbrev pub parameters_of : {R : Type 0} → (R → SignatureMeaning) → Signature R → List ParameterMeaning
parameters_of signatures s = (signatures s.register.now).parameters s.recipe

-- parameters without their texts, with their places, counted from k
abbrev pub called_from : ℕ → List ParameterMeaning → List Called
called_from k [] = []
called_from k (m ∷ ms) = record { place = k; parameter = without_texts m } ∷ called_from (suc k) ms

-- the parameters from a place on
abbrev pub left_of : {R : Type 0} → (R → SignatureMeaning) → Parameters R → List Called
left_of signatures p = called_from p.place (drop p.place (parameters_of signatures p.signature))
