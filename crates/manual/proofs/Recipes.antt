-- Several recipes in a line. Assumes nothing.
use Rattle.std.proofs.Common.{◌≡◌, ℕ, suc, ◌<◌, true, false, List, [], ◌∷◌, ◌++◌, drop, sym, refl, ap, ◌∙◌, subst, arith}
use mathlib.Core.List.{append_cancel_right}
use Rattle.text.specs.Identifier.{Text}
use Rattle.register.specs.Meaning.{NameMeaning, ParameterMeaning, SignatureMeaning}
use Rattle.judge.specs.Meaning.{JudgeMeaning}
use Rattle.reading.specs.Signature.{Takes, Homeless, is_option, is_variadic}
use Rattle.reading.specs.Reading.{Given, words_of, plains, wants, NoSwitch, Fits, Roles, Ends}
use Rattle.reading.specs.Reading.Waiting.{Nobody}
use Rattle.reading.specs.declared.role.Role.TheVariants.{PlainWord}
use Rattle.reading.specs.Line.{Taken, Begins, Cut}
use Rattle.reading.specs.Model.{state_of, scan}
use Rattle.reading.specs.Model.Scanned.{Stopped}
use Rattle.reading.proofs.Runs.{clash}
use Rattle.reading.proofs.Words.{roles_is, ends_is}
use Rattle.manual.specs.Orders.{Stands, At, plain_count}
use Rattle.manual.specs.Recipes.{AllSingular, Filled, StartsNext, RecipesStand}
use Rattle.manual.proofs.Places.{fits_at, plain_takes, plains_grow}
use Rattle.manual.proofs.Arguments.{takes_up, arguments_stand}

-- Singular parameters take no more plain words than they are
takes_below : {ps : List ParameterMeaning} {i k : ℕ} → Takes ps i k → AllSingular ps → i < plain_count ps
takes_below (Takes.pass e t) h = rw e (takes_below t (λ k p a. h (suc k) p a))
takes_below (Takes.first e) h = rw e (omega arith)
takes_below (Takes.further {p = p} e v) h = absurd (clash (sym v ∙ ap is_variadic (h 0 p refl e)))
takes_below (Takes.next e v t) h = rw e (let g = takes_below t (λ k p a. h (suc k) p a) in omega arith)

filled_homeless : (ps : List ParameterMeaning) (i : ℕ) → AllSingular ps → i ≡ plain_count ps → Homeless ps i
filled_homeless ps i h e k t = let g = takes_below t h in omega arith

-- roles that end somewhere are read so
module _ (ps : List ParameterMeaning) (n : ℕ) where
  stops_at : (gs : List Given) (rest : List Text) → Roles ps n gs → Ends ps n gs rest → scan ps (state_of ps n []) (words_of gs ++ rest) ≡ Stopped (state_of ps n gs) rest
  stops_at gs rest rs e = roles_is ps n rs rest ∙ ends_is ps n e

  one_end : (gs hs : List Given) (rest more : List Text) → Roles ps n gs → Ends ps n gs rest → Roles ps n hs → Ends ps n hs more → words_of gs ++ rest ≡ words_of hs ++ more → rest ≡ more
  one_end gs hs rest more rs e ss f q =
      let h : Stopped (state_of ps n gs) rest ≡ Stopped (state_of ps n hs) more = sym (stops_at gs rest rs e) ∙ ap (scan ps (state_of ps n [])) q ∙ stops_at hs more ss f in
      cc

module _ (names : NameMeaning) (s : SignatureMeaning) (judge : JudgeMeaning) where
  rest-is : (words rest : List Text) (t : Taken) (before : List Given) (w : Text) (behind : List Text) → Begins names s judge words t rest → drop t.path words ≡ words_of before ++ (w ∷ behind) → AllSingular (s.parameters t.recipe) → Filled (s.parameters t.recipe) t.path before w → (rest ≡ w ∷ behind) × (words_of t.given ≡ words_of before)
  rest-is words rest t before w behind b d a f =
      let ps = s.parameters t.recipe in
      let e : Ends ps t.path before (w ∷ behind) = Ends.homeless f.unclaimed f.plain (filled_homeless ps (plains before) a f.filled) in
      let q : words_of t.given ++ rest ≡ words_of before ++ (w ∷ behind) = b.lawful.cut ∙ d in
      let r : rest ≡ w ∷ behind = one_end ps t.path t.given before rest (w ∷ behind) b.lawful.roles b.lawful.ends f.roles e q in
      (r, append_cancel_right (words_of t.given) (words_of before) (w ∷ behind) (ap (λ (x : List Text). words_of t.given ++ x) (sym r) ∙ q))

  starts_next : (words : List Text) (t : Taken) (later : List Taken) (before : List Given) (w : Text) (behind : List Text) → Cut names s judge words (t ∷ later) → drop t.path words ≡ words_of before ++ (w ∷ behind) → AllSingular (s.parameters t.recipe) → Filled (s.parameters t.recipe) t.path before w → StartsNext names s judge t later before w behind
  starts_next words t later before w behind (Cut.last b) d a f =
      let r = (rest-is words [] t before w behind b d a f).0 in absurd (let z : ◌≡◌ {A = ℕ} 0 1 = cc in omega arith)
  starts_next words t later before w behind (Cut.then {rest = rest} {w = u} b c) d a f =
      let r = rest-is words (u ∷ rest) t before w behind b d a f in
      record { ended = r.1; next = subst (λ (x : List Text). Cut names s judge x later) r.0 c }

  last_order : (words : List Text) (t : Taken) (later : List Taken) (k : ℕ) (p : ParameterMeaning) → Cut names s judge words (t ∷ later) → At (s.parameters t.recipe) k p → is_option p ≡ false → is_variadic p.kind ≡ true → later ≡ []
  last_order words t later k p (Cut.last b) a o v = refl
  last_order words t later k p (Cut.then {rest = rest} {w = w} b c) a o v =
      let e : w ∷ rest ≡ [] = (arguments_stand.orders (s.parameters t.recipe) judge t.path (drop t.path words) t.given (w ∷ rest) b.lawful).variadic_to_line_end k p a o v in
      absurd (let z : ◌≡◌ {A = ℕ} 0 1 = cc in omega arith)

any_name : (ps : List ParameterMeaning) (n : ℕ) (before earlier between : List Given) (u w : Text) (k : ℕ) (p : ParameterMeaning) → Roles ps n before → Stands before earlier u (PlainWord k) between → At ps k p → is_variadic p.kind ≡ true → wants ps n before ≡ Nobody → NoSwitch ps before w → Fits ps n before w (PlainWord k)
any_name ps n before earlier between u w k p rs b a v e no! =
    let f = fits_at ps n between earlier u (PlainWord k) (subst (Roles ps n) b rs) in
    let g = plains_grow between (record { word = u; role = PlainWord k } ∷ earlier) in
    let q = ap plains b in
    Fits.plain e no! (takes_up (plain_takes f.1) p a v (plains before) (omega arith))

pub recipes_stand : RecipesStand
recipes_stand = record { next_plain_word_starts_next_order = starts_next; variadic_takes_any_name = any_name; variadic_order_is_last = last_order }
