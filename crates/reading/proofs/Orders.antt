-- One order behind its path: the rules' order is the graph of the model's. Assumes nothing.
use Rattle.std.proofs.Common.{◌≡◌, ℕ, ◌⊎◌, List, [], ◌++◌, Some, None, Option, sym, refl, ap, ◌∙◌, subst, inl, inr}
use Rattle.refusal.specs.declared.Refusal.{Refusal}
use Rattle.text.specs.Identifier.{Text}
use Rattle.register.specs.Meaning.{ParameterMeaning}
use Rattle.judge.specs.Meaning.{JudgeMeaning}
use Rattle.reading.specs.Reading.{Given, values, plains, words_of, Roles, Ends, LawfulOrder}
use Rattle.reading.specs.Faults.{Faulty, Miscounted, FaultyOrder}
use Rattle.reading.specs.Model.{State, state_of, started, Scanned, scan, tally, Ordered, tallied, scanned, read_order}
use Rattle.reading.specs.Model.Scanned.{Stopped, Broken}
use Rattle.reading.specs.Model.Ordered.{Took, Refuses}
use Rattle.reading.proofs.Words.{ends_is, faulty_is, roles_is, Scans, scan_does}
use Rattle.reading.proofs.Counts.{Says, Counted, counted_is, miscounted_is, tally_does}

module _ (ps : List ParameterMeaning) (judge : JudgeMeaning) (n : ℕ) where
  -- the words up to here, and then the rest
  scan_is : (words : List Text) (given : List Given) (rest : List Text) → words_of given ++ rest ≡ words → Roles ps n given → read_order ps judge n words ≡ scanned ps judge (scan ps (state_of ps n given) rest)
  scan_is words given rest cut rs = ap (read_order ps judge n) (sym cut) ∙ ap (scanned ps judge) (roles_is ps n rs rest)

  stop_is : (words : List Text) (given : List Given) (rest : List Text) → words_of given ++ rest ≡ words → Roles ps n given → Ends ps n given rest → read_order ps judge n words ≡ tallied (state_of ps n given) rest (tally ps judge (values ps n given) (plains given))
  stop_is words given rest cut rs e = scan_is words given rest cut rs ∙ ap (scanned ps judge) (ends_is ps n e)

  pub order_is : (words : List Text) (given : List Given) (rest : List Text) → LawfulOrder ps judge n words given rest → read_order ps judge n words ≡ Took (state_of ps n given) rest
  order_is words given rest l =
      stop_is words given rest l.cut l.roles l.ends ∙ ap (tallied (state_of ps n given) rest) (counted_is ps judge n given (record { served = l.served; sound = l.sound }))

  pub fault_is : (words : List Text) (f : Refusal) → FaultyOrder ps judge n words f → read_order ps judge n words ≡ Refuses f
  fault_is words f l = go l.fault
    where
      go : Faulty ps n l.before l.rest f ⊎ (Ends ps n l.before l.rest × Miscounted ps judge n l.before f) → read_order ps judge n words ≡ Refuses f
      go (inl x) = scan_is words l.before l.rest l.cut l.roles ∙ ap (scanned ps judge) (faulty_is ps n x)
      go (inr x) = stop_is words l.before l.rest l.cut l.roles x.0 ∙ ap (tallied (state_of ps n l.before) l.rest) (miscounted_is ps judge n l.before x.1)

  -- a lawful order that leaves this state
  pub record Taking (words : List Text) (st : State) (rest : List Text) : Type 0 where
    pub given : List Given
    pub lawful : LawfulOrder ps judge n words given rest
    pub is : state_of ps n given ≡ st

  abbrev pub Reads : List Text → Ordered → Type 0
  Reads words (Took st rest) = Taking words st rest
  Reads words (Refuses f) = FaultyOrder ps judge n words f

  tallied_does : (words : List Text) (given : List Given) (rest : List Text) → words_of given ++ rest ≡ words → Roles ps n given → Ends ps n given rest → (o : Option Refusal) → Says (Counted ps judge (values ps n given)) (Miscounted ps judge n given) o → Reads words (tallied (state_of ps n given) rest o)
  tallied_does words given rest cut rs e None c = record { given = given; lawful = record { cut = cut; roles = rs; ends = e; served = c.served; sound = c.sound }; is = refl }
  tallied_does words given rest cut rs e (Some f) c = record { before = given; rest = rest; cut = cut; roles = rs; fault = inr (e, c) }

  scanned_does : (words : List Text) (x : Scanned) → Scans ps n words x → Reads words (scanned ps judge x)
  scanned_does words (Stopped st rest) s =
      subst (λ (t : State). Reads words (scanned ps judge (Stopped t rest))) s.is (tallied_does words s.given rest s.cut s.roles s.ends (tally ps judge (values ps n s.given) (plains s.given)) (tally_does ps judge n s.given))
  scanned_does words (Broken f) b = record { before = b.before; rest = b.rest; cut = b.cut; roles = b.roles; fault = inl b.fault }

  pub order_does : (words : List Text) → Reads words (read_order ps judge n words)
  order_does words = scanned_does words (scan ps (started n) words) (scan_does ps n [] words Roles.none)
