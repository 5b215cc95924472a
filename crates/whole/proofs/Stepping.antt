-- One more parameter, and one more recipe, is listed. Assumes nothing.
use Rattle.std.proofs.Common.{◌≡◌, ℕ, ◌+◌, ◌-◌, ◌*◌, ◌<◌, ◌≤◌, ◌⊎◌, List, [], ◌∷◌, ◌++◌, length, get_or, take, drop, Some, None, Option, Ok, Err, Result, MatchOption, MatchResult, sym, refl, ap, ◌∙◌, subst, inl, inr, ⊎_elim, arith}
use Rattle.std.specs.List.{insert}
use Rattle.std.specs.Option.{option_map, ok_or}
use Rattle.std.specs.Result.{IsErrAnd}
use Rattle.std.proofs.lemmas.Option.{MatchOption-at_none, MatchOption-at_some}
use Rattle.std.proofs.lemmas.List.{take_more, take_all, length-take-le, length_push, drop-drop}
use Rattle.tree.specs.Tree.{Parameter}
use Rattle.whole.specs.Places.{Stands, Among}
use Rattle.table.specs.Order.{Key, Ascending}
use Rattle.whole.specs.Shared.{Named, Distinct}
use Rattle.whole.specs.Derived.{Gives}
use Rattle.whole.specs.Inserted.{Inserted}
use Rattle.whole.specs.declared.derive.NameTwice.{NameTwice}
use Rattle.whole.specs.Entries.{Entry, entry, key_of, key_by, Says, Added, Stood, RecipeListed, AllListed, RecipeFilled, AllFilled, FirstTwice}
use Rattle.whole.proofs.Places.{here_or_below, stands_within, stands_from, stands_left, stands_last, stands_push, stands_front, among_which, among_weaker, among_inserted, inserted_among}

same_entry : (e f : Entry) → e.recipe ≡ f.recipe → e.place ≡ f.place → e.name ≡ f.name → e ≡ f
same_entry e f p q r = λ i. record { recipe = p i; place = q i; name = r i }

-- names are distinct before a parameter is listed, and with it where its name is new
distinct_push : (name : Parameter → Option (List ℕ)) (qs : List Parameter) (p : Parameter) → Distinct name qs → ((j : ℕ) (t : List ℕ) → Named name qs j t → name p ≡ Some t → ⊥) → Distinct name (qs ++ p ∷ [])
distinct_push name qs p d new i j x h a b = from (stands_push (λ q. name q ≡ Some x) qs p i a) (stands_push (λ q. name q ≡ Some x) qs p j b)
  where
    from : Named name qs i x ⊎ ((i ≡ length qs) × (name p ≡ Some x)) → Named name qs j x ⊎ ((j ≡ length qs) × (name p ≡ Some x)) → ⊥
    from (inl u) (inl v) = d i j x h u v
    from (inl u) (inr v) = new i x u v.1
    from (inr u) (inl v) = let w = stands_within (λ q. name q ≡ Some x) qs j v in absurd (omega (arith, u.0))
    from (inr u) (inr v) = absurd (omega (arith, u.0, v.0))

module _ {X : Type 0} (said : X → Entry) (name : Parameter → Option (List ℕ)) (r : ℕ) where
  -- nothing of the recipe is listed yet
  pub recipe_none : (before : List X) → Ascending (key_by said) before → RecipeListed said name r [] before before
  recipe_none before up = record {
    ascending = up;
    distinct = λ i j x h a b. absurd a;
    either = λ e a. inl a;
    kept = λ e a. a;
    listed = λ e h n. absurd n;
  }

  module _ (qs : List Parameter) (p : Parameter) (before now' : List X) (l : RecipeListed said name r qs before now') where
    unnamed : (x : List ℕ) → name p ≡ None → name p ≡ Some x → ⊥
    unnamed x n s = let z : ◌≡◌ {A = ℕ} 0 1 = cc in omega arith

    -- a parameter without a name
    pub recipe_same : name p ≡ None → RecipeListed said name r (qs ++ p ∷ []) before now'
    recipe_same none = record {
      ascending = l.ascending;
      distinct = distinct_push name qs p l.distinct (λ j t u s. unnamed t none s);
      either = λ e a. ⊎_elim (λ b. inl b) (λ b. inr (b.0, stands_left (λ q. name q ≡ Some e.name) qs (p ∷ []) e.place b.1)) (l.either e a);
      kept = l.kept;
      listed = λ e h n. ⊎_elim (λ b. l.listed e h b) (λ b. absurd (unnamed e.name none b.1)) (stands_push (λ q. name q ≡ Some e.name) qs p e.place n);
    }

    -- a parameter whose name is new, with its row
    module _ (t : List ℕ) (named : name p ≡ Some t) (row : X) (says : said row ≡ entry r (length qs) t) (place : ℕ) (after : List X) (holds : after ≡ insert now' place row) (up : Ascending (key_by said) after) (free : Among (λ x. key_by said x ≡ key_by said row) now' → ⊥) where
      new : (j : ℕ) (x : List ℕ) → Named name qs j x → name p ≡ Some x → ⊥
      new j x n s =
          let same : x ≡ t = cc in
          let a : Among (Says said (entry r j x)) now' = l.listed (entry r j x) refl n in
          free (among_weaker (Says said (entry r j x)) (λ y. key_by said y ≡ key_by said row) (λ y h. ap key_of h ∙ ap (λ z. r ∷ z) same ∙ sym (ap key_of says)) now' a)

      pub recipe_more : RecipeListed said name r (qs ++ p ∷ []) before after
      recipe_more = record {
        ascending = up;
        distinct = distinct_push name qs p l.distinct new;
        either = λ e a. either e (among_inserted (Says said e) now' place row (subst (Among (Says said e)) holds a));
        kept = λ e a. subst (Among (Says said e)) (sym holds) (inserted_among (Says said e) now' place row (inr (l.kept e a)));
        listed = λ e h n. subst (Among (Says said e)) (sym holds) (inserted_among (Says said e) now' place row (listed e h (stands_push (λ q. name q ≡ Some e.name) qs p e.place n)));
      }
        where
          either : (e : Entry) → (said row ≡ e) ⊎ Among (Says said e) now' → Among (Says said e) before ⊎ ((e.recipe ≡ r) × Named name (qs ++ p ∷ []) e.place e.name)
          either e (inl h) =
              let is : entry r (length qs) t ≡ e = sym says ∙ h in
              inr (sym (ap (λ f. f.recipe) is), subst (λ f. Named name (qs ++ p ∷ []) f.place f.name) is (stands_last (λ q. name q ≡ Some t) qs p named))
          either e (inr a) = ⊎_elim (λ b. inl b) (λ b. inr (b.0, stands_left (λ q. name q ≡ Some e.name) qs (p ∷ []) e.place b.1)) (l.either e a)

          listed : (e : Entry) → e.recipe ≡ r → Named name qs e.place e.name ⊎ ((e.place ≡ length qs) × (name p ≡ Some e.name)) → (said row ≡ e) ⊎ Among (Says said e) now'
          listed e h (inl n) = inr (l.listed e h n)
          listed e h (inr n) =
              let s : name p ≡ Some e.name = n.1 in
              let same : t ≡ e.name = cc in
              inl (says ∙ same_entry (entry r (length qs) t) e (sym h) (sym n.0) same)

    -- a parameter whose name stands already
    pub recipe_twice : (Among (λ x. (said x).recipe ≡ r) before → ⊥) → (t : List ℕ) → name p ≡ Some t → Among (λ x. key_by said x ≡ r ∷ t) now' → Distinct name (qs ++ p ∷ []) → ⊥
    recipe_twice fresh t named a d = from (among_which (λ x. key_by said x ≡ r ∷ t) now' a)
      where
        clash : (e : Entry) → key_of e ≡ r ∷ t → Among (Says said e) before ⊎ ((e.recipe ≡ r) × Named name qs e.place e.name) → ⊥
        clash e k (inl b) = fresh (among_weaker (Says said e) (λ x. (said x).recipe ≡ r) (λ x h. let q : e.recipe ≡ r = cc in ap (λ f. f.recipe) h ∙ q) before b)
        clash e k (inr b) =
            let q : e.name ≡ t = cc in
            let n = subst (λ z. Named name qs e.place z) q b.1 in
            d e.place (length qs) t (stands_within (λ u. name u ≡ Some t) qs e.place n) (stands_left (λ u. name u ≡ Some t) qs (p ∷ []) e.place n) (stands_last (λ u. name u ≡ Some t) qs p named)

        from : (x : X) × (key_by said x ≡ r ∷ t) × Among (λ y. y ≡ x) now' → ⊥
        from w = clash (said w.0) w.1 (l.either (said w.0) (among_weaker (λ y. y ≡ w.0) (Says said (said w.0)) (λ y h. ap said h) now' w.2))

-- what a row says comes from the name that was there
pub mapped_some : {A B : Type 0} (f : A → B) (o : Option A) (b : B) → Some b ≡ option_map f o → (a : A) × (o ≡ Some a) × (b ≡ f a)
mapped_some f None b e = let z : ◌≡◌ {A = ℕ} 0 1 = cc in absurd (omega arith)
mapped_some f (Some a) b e = (a, refl, cc)

-- what an insertion says of a parameter's name: it stood already, or its row is added
module _ {X : Type 0} (said : X → Entry) (key : X → Key) (found_by : (x : X) → key x ≡ key_by said x) (rows after : List X) (filled recipe place : ℕ) (row : X) where
  pub listed_by : (name : Option (List ℕ)) → Some (said row) ≡ option_map (entry recipe place) name
      → (r : Option ℕ) → MatchOption r (Among (λ x. key x ≡ key row) (take filled rows)) (λ more. (more ≡ filled + 1) × Inserted key rows filled row after)
      → MatchOption r (Stood said (take filled rows) recipe name) (λ m. Added said rows filled recipe place name m after)
  listed_by name says r h =
      from (mapped_some (entry recipe place) name (said row) says) r
      (subst (λ k. MatchOption r (Among (λ x. k x ≡ k row) (take filled rows)) (λ more. (more ≡ filled + 1) × Inserted k rows filled row after)) (λ i x. found_by x i) h)
    where
      from : (t : List ℕ) × (name ≡ Some t) × (said row ≡ entry recipe place t)
          → (r : Option ℕ) → MatchOption r (Among (λ x. key_by said x ≡ key_by said row) (take filled rows)) (λ more. (more ≡ filled + 1) × Inserted (key_by said) rows filled row after)
          → MatchOption r (Stood said (take filled rows) recipe name) (λ m. Added said rows filled recipe place name m after)
      from (t, n, s) None a = (t, n, among_weaker (λ x. key_by said x ≡ key_by said row) (λ x. key_by said x ≡ recipe ∷ t) (λ x e. e ∙ ap key_of s) (take filled rows) a)
      from (t, n, s) (Some more) i = subst (λ o. Added said rows filled recipe place o more after) (sym n) (row, s, i.0, i.1)

-- ---- the loop over a recipe's parameters

-- so far the names at the places below `place` are listed
module _ {X : Type 0} (said : X → Entry) (name : Parameter → Option (List ℕ)) (r : ℕ) (ps : List Parameter) (rows : List X) (filled : ℕ) where
  pub record Far (place listed : ℕ) (now' : List X) : Type 0 where
    pub least : filled ≤ listed
    pub most : listed ≤ filled + place
    pub long : length now' ≡ length rows
    pub behind : drop listed now' ≡ drop listed rows
    pub holds : RecipeListed said name r (take place ps) (take filled rows) (take listed now')

  pub far_none : Ascending (key_by said) (take filled rows) → Far 0 filled rows
  far_none up = record { least = omega arith; most = omega arith; long = refl; behind = refl; holds = recipe_none said name r (take filled rows) up }

  module _ (place listed : ℕ) (now' : List X) (far : Far place listed now') (p : Parameter) (within : place < length ps) (here : get_or ps place p ≡ p) where
    front : take (place + 1) ps ≡ take place ps ++ p ∷ []
    front = take_more ps place p within ∙ ap (λ q. take place ps ++ q ∷ []) here

    place_is : length (take place ps) ≡ place
    place_is = length-take-le place ps (omega arith)

    pub far_twice : (Among (λ x. (said x).recipe ≡ r) (take filled rows) → ⊥) → Stood said (take listed now') r (name p) → Distinct name ps → ⊥
    far_twice fresh s d =
        recipe_twice said name r (take place ps) p (take filled rows) (take listed now') far.holds fresh s.0 s.1 s.2
        (subst (Distinct name) front (λ i j x h a b. d i j x h (stands_front (λ q. name q ≡ Some x) (place + 1) ps i a) (stands_front (λ q. name q ≡ Some x) (place + 1) ps j b)))

    module _ (more : ℕ) (after : List X) (long : length after ≡ length now') where
      unnamed_more : (more ≡ listed) × (after ≡ now') → name p ≡ None → Far (place + 1) more after
      unnamed_more s none = record {
        least = omega (arith, s.0, far.least);
        most = omega (arith, s.0, far.most);
        long = long ∙ far.long;
        behind = (λ i. drop (s.0 i) (s.1 i)) ∙ far.behind ∙ ap (λ k. drop k rows) (sym s.0);
        holds = subst (λ qs. RecipeListed said name r qs (take filled rows) (take more after)) (sym front)
            (subst (λ xs. RecipeListed said name r (take place ps ++ p ∷ []) (take filled rows) xs) (sym (λ i. take (s.0 i) (s.1 i)))
            (recipe_same said name r (take place ps) p (take filled rows) (take listed now') far.holds none));
      }

      named_more : (t : List ℕ) → name p ≡ Some t → (row : X) → said row ≡ entry r place t → more ≡ listed + 1 → Inserted (key_by said) now' listed row after → Far (place + 1) more after
      named_more t named row says one ins = record {
        least = omega (arith, far.least);
        most = omega (arith, far.most);
        long = long ∙ far.long;
        behind = ap (λ k. drop k after) one ∙ ins.behind ∙ further ∙ ap (λ k. drop k rows) (sym one);
        holds = subst (λ qs. RecipeListed said name r qs (take filled rows) (take more after)) (sym front)
            (recipe_more said name r (take place ps) p (take filled rows) (take listed now') far.holds t named row (says ∙ ap (λ k. entry r k t) (sym place_is)) ins.place (take more after)
            (ap (λ k. take k after) one ∙ ins.holds) (subst (λ k. Ascending (key_by said) (take k after)) (sym one) ins.ascending) ins.free);
      }
        where
          further : drop (listed + 1) now' ≡ drop (listed + 1) rows
          further = sym (drop-drop 1 listed now') ∙ ap (drop 1) far.behind ∙ drop-drop 1 listed rows

      pub far_more : Added said now' listed r place (name p) more after → Far (place + 1) more after
      far_more a = by (name p) refl a
        where
          by : (o : Option (List ℕ)) → name p ≡ o → Added said now' listed r place o more after → Far (place + 1) more after
          by None e s = unnamed_more s e
          by (Some t) e s = named_more t e s.0 s.1 s.2 s.3

  pub far_all : (place listed : ℕ) (now' : List X) → Far place listed now' → length ps ≤ place → place ≤ 16 → RecipeFilled said name r ps rows filled listed now'
  far_all place listed now' far all few = record {
    least = far.least;
    most = omega (arith, far.most);
    holds = subst (λ qs. RecipeListed said name r qs (take filled rows) (take listed now')) (take_all place ps all) far.holds;
    behind = far.behind;
  }

-- ---- the loop over the recipes

-- a recipe that is refused is told, and else the loop goes on
refused : (o : Option ℕ) (e t : NameTwice) → ok_or o e ≡ Err t → (o ≡ None) × (t ≡ e)
refused None e t h = (refl, cc)
refused (Some m) e t h = let z : ◌≡◌ {A = ℕ} 0 1 = cc in absurd (omega arith)

went_on : (o : Option ℕ) (e : NameTwice) (m : ℕ) → ok_or o e ≡ Ok m → o ≡ Some m
went_on None e m h = let z : ◌≡◌ {A = ℕ} 0 1 = cc in absurd (omega arith)
went_on (Some n) e m h = cc

module _ {X : Type 0} (said : X → Entry) (name : Parameter → Option (List ℕ)) where
  pub all_none : (rows : List X) → AllListed said name [] (take 0 rows)
  all_none rows = record {
    ascending = λ i d w. absurd (omega arith);
    distinct = λ r h. absurd (omega arith);
    sound = λ e a. absurd a;
    complete = λ e g. absurd g;
  }

  module _ (recipes : List (List Parameter)) (rows : List X) (all : AllListed said name recipes rows) where
    -- no row is of a recipe still to come
    pub all_fresh : (r : ℕ) → length recipes ≡ r → Among (λ x. (said x).recipe ≡ r) rows → ⊥
    all_fresh r is a = from (among_which (λ x. (said x).recipe ≡ r) rows a)
      where
        from : (x : X) × ((said x).recipe ≡ r) × Among (λ y. y ≡ x) rows → ⊥
        from w =
            let e = said w.0 in
            let g = all.sound e (among_weaker (λ y. y ≡ w.0) (Says said e) (λ y h. ap said h) rows w.2) in
            let b = stands_within (λ qs. Named name qs e.place e.name) recipes e.recipe g in
            absurd (omega (arith, w.1))

    module _ (ps : List Parameter) (after : List X) (l : RecipeListed said name (length recipes) ps rows after) where
      distinct_more : (r : ℕ) → (r < length recipes) ⊎ (r ≡ length recipes) → Stands (Distinct name) (recipes ++ ps ∷ []) r
      distinct_more r (inl h) = stands_left (Distinct name) recipes (ps ∷ []) r (all.distinct r h)
      distinct_more r (inr h) = subst (Stands (Distinct name) (recipes ++ ps ∷ [])) (sym h) (stands_last (Distinct name) recipes ps l.distinct)

      sound_more : (e : Entry) → Among (Says said e) rows ⊎ ((e.recipe ≡ length recipes) × Named name ps e.place e.name) → Gives name (recipes ++ ps ∷ []) e.recipe e.place e.name
      sound_more e (inl a) = stands_left (λ qs. Named name qs e.place e.name) recipes (ps ∷ []) e.recipe (all.sound e a)
      sound_more e (inr n) = subst (λ r. Gives name (recipes ++ ps ∷ []) r e.place e.name) (sym n.0) (stands_last (λ qs. Named name qs e.place e.name) recipes ps n.1)

      complete_more : (e : Entry) → Gives name recipes e.recipe e.place e.name ⊎ ((e.recipe ≡ length recipes) × Named name ps e.place e.name) → Among (Says said e) after
      complete_more e (inl g) = l.kept e (all.complete e g)
      complete_more e (inr n) = l.listed e n.0 n.1

      pub all_more : AllListed said name (recipes ++ ps ∷ []) after
      all_more = record {
        ascending = l.ascending;
        distinct = λ r h. distinct_more r (here_or_below (length recipes) r (omega (arith, length_push recipes ps)));
        sound = λ e a. sound_more e (l.either e a);
        complete = λ e g. complete_more e (stands_push (λ qs. Named name qs e.place e.name) recipes ps e.recipe g);
      }

  module _ (recipes : List (List Parameter)) (rows : List X) where
    -- so far the recipes below a number are listed
    pub record Gone (number filled : ℕ) (now' : List X) : Type 0 where
      pub most : filled ≤ number * 16
      pub long : length now' ≡ length rows
      pub behind : drop filled now' ≡ drop filled rows
      pub holds : AllListed said name (take number recipes) (take filled now')

    pub gone_none : Gone 0 0 rows
    gone_none = record { most = omega arith; long = refl; behind = refl; holds = all_none rows }

    module _ (number filled : ℕ) (now' : List X) (gone : Gone number filled now') where
      number_is : number ≤ length recipes → length (take number recipes) ≡ number
      number_is h = length-take-le number recipes h

      pub gone_fresh : number < length recipes → Among (λ x. (said x).recipe ≡ number) (take filled now') → ⊥
      gone_fresh h = all_fresh (take number recipes) (take filled now') gone.holds number (number_is (omega arith))

      module _ (ps : List Parameter) (within : number < length recipes) (here : get_or recipes number ps ≡ ps) where
        pub gone_twice : (Distinct name ps → ⊥) → FirstTwice name recipes number
        gone_twice n = record {
          before = λ k h. stands_front (Distinct name) number recipes k (gone.holds.distinct k (omega (arith, number_is (omega arith))));
          twice = stands_from (λ qs. Distinct name qs → ⊥) recipes number ps within (subst (λ qs. Distinct name qs → ⊥) (sym here) n);
        }

        pub gone_more : (more : ℕ) (after : List X) → length after ≡ length now' → RecipeFilled said name number ps now' filled more after → Gone (number + 1) more after
        gone_more more after long f = record {
          most = omega (arith, f.most, gone.most);
          long = long ∙ gone.long;
          behind = f.behind ∙ further;
          holds = subst (λ qs. AllListed said name qs (take more after)) (sym front)
              (all_more (take number recipes) (take filled now') gone.holds ps (take more after)
              (subst (λ r. RecipeListed said name r ps (take filled now') (take more after)) (sym (number_is (omega arith))) f.holds));
        }
          where
            front : take (number + 1) recipes ≡ take number recipes ++ ps ∷ []
            front = take_more recipes number ps within ∙ ap (λ q. take number recipes ++ q ∷ []) here

            -- what is the same from the earlier place on is so from the later one
            apart : (k : ℕ) → more ≡ filled + k → drop more now' ≡ drop more rows
            apart k e = ap (λ m. drop m now') e ∙ sym (drop-drop k filled now') ∙ ap (drop k) gone.behind ∙ drop-drop k filled rows ∙ ap (λ m. drop m rows) (sym e)

            further : drop more now' ≡ drop more rows
            further = apart (more - filled) (omega (arith, f.least))

      -- what the loop makes of a recipe's answer: it is told, or the next one follows
      module _ (ps : List Parameter) (within : number < length recipes) (here : get_or recipes number ps ≡ ps) (o : Option ℕ) (after : List X) (h : MatchOption o (Distinct name ps → ⊥) (λ more. RecipeFilled said name number ps now' filled more after)) where
        pub gone_told : (e t : NameTwice) → e.recipe ≡ number → ok_or o e ≡ Err t → (Q : ℕ → Type 0) (r : Result ℕ NameTwice) → IsErrAnd r (λ s. s ≡ t) → MatchResult r Q (λ s. FirstTwice name recipes s.recipe)
        gone_told e t n k Q (Ok m) i = absurd i
        gone_told e t n k Q (Err s) i =
            let w = refused o e t k in
            let at : s.recipe ≡ number = ap (λ u. u.recipe) (i ∙ w.1) ∙ n in
            subst (FirstTwice name recipes) (sym at) (gone_twice ps within here (MatchOption-at_none (Distinct name ps → ⊥) (λ more. RecipeFilled said name number ps now' filled more after) w.0 h))

        pub gone_on : (e : NameTwice) (more : ℕ) → ok_or o e ≡ Ok more → length after ≡ length now' → Gone (number + 1) more after
        gone_on e more k long = gone_more ps within here more after long (MatchOption-at_some (Distinct name ps → ⊥) (λ m. RecipeFilled said name number ps now' filled m after) more (went_on o e more k) h)

      pub gone_all : length recipes ≤ number → number ≤ length recipes → length recipes * 16 ≤ length rows → AllFilled said name recipes rows filled now'
      gone_all h k room = record {
        within = omega (arith, gone.most);
        holds = subst (λ qs. AllListed said name qs (take filled now')) (take_all number recipes h) gone.holds;
        behind = gone.behind;
      }
