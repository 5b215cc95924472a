-- The end of options. Assumes nothing.
use Rattle.std.proofs.Common.{◌≡◌, ℕ, false, List, [], ◌∷◌, ◌++◌, sym, refl, ◌∙◌, subst, arith}
use Rattle.text.specs.Identifier.{Text}
use Rattle.register.specs.Meaning.{ParameterMeaning}
use Rattle.reading.specs.Signature.{any_option}
use Rattle.reading.specs.Reading.{Given, wants, reads_switches, Fits, Roles}
use Rattle.reading.specs.Reading.Waiting.{Nobody}
use Rattle.reading.specs.declared.role.Role.{Role}
use Rattle.reading.specs.declared.role.Role.TheVariants.{EndMark, PlainWord}
use Rattle.reading.proofs.Runs.{split, clash}
use Rattle.manual.specs.Ends.{AllPlain, EndLaws, EndsStand}

module _ (ps : List ParameterMeaning) (n : ℕ) where
  -- where nobody waits and no switches are read, a word that fits is plain
  only_plain : {before : List Given} {w : Text} {r : Role} → wants ps n before ≡ Nobody → reads_switches ps before ≡ false → Fits ps n before w r → (k : ℕ) × (r ≡ PlainWord k)
  only_plain e o (Fits.value f g) = absurd (let z : ◌≡◌ {A = ℕ} 0 1 = cc in omega arith)
  only_plain e o (Fits.end f t d) = absurd (clash (sym t ∙ o))
  only_plain e o (Fits.switch s d r) = absurd (clash (sym s.open! ∙ o))
  only_plain e o (Fits.plain {k} f no! t) = (k, refl)

  -- from words behind which nobody waits and no switches are read, on
  record Shut (before : List Given) : Type 0 where
    nobody : wants ps n before ≡ Nobody
    shut : reads_switches ps before ≡ false

  still_shut : {before : List Given} {w : Text} {k : ℕ} → Shut before → Shut (record { word = w; role = PlainWord k } ∷ before)
  still_shut s = record { nobody = refl; shut = s.shut }

  all_plain : (after before : List Given) → Shut before → Roles ps n (after ++ before) → AllPlain after × Shut (after ++ before)
  all_plain [] before s rs = (AllPlain.none, s)
  all_plain (g ∷ after) before s (Roles.more {w = w} {r = r} rs f) =
      let h = all_plain after before s rs in
      let e = only_plain h.1.nobody h.1.shut f in
      let P : Role → Type 0 = λ x. AllPlain (record { word = w; role = x } ∷ after) × Shut (record { word = w; role = x } ∷ (after ++ before)) in
      subst P (sym e.1) (AllPlain.more h.0, still_shut h.1)

  shut_by_end : (before : List Given) (w : Text) → Shut (record { word = w; role = EndMark } ∷ before)
  shut_by_end before w = record { nobody = refl; shut = split (any_option ps) (λ t. rw t) (λ f. rw f) }

  shut_by_none : any_option ps ≡ false → Shut []
  shut_by_none e = record { nobody = refl; shut = rw e }

  end_laws : (given : List Given) → Roles ps n given → EndLaws ps given
  end_laws given rs = record {
    no_switch_behind_end_mark = λ before after w s. (all_plain after (record { word = w; role = EndMark } ∷ before) (shut_by_end before w) (subst (Roles ps n) s rs)).0;
    no_options_no_switches = λ e. (all_plain given [] (shut_by_none e) (subst (Roles ps n) (sym (mathlib.Core.List.append-nil given)) rs)).0;
  }

pub ends_stand : EndsStand
ends_stand ps judge n words given rest l = end_laws ps n given l.roles
