-- Questions that are put beside terms, one after the other.
use Rattle.std.proofs.Common.{◌≡◌, ℕ, zero, suc, ◌+◌, ◌<◌, ◌≤◌, Bool, true, false, cond, List, [], ◌∷◌, ◌++◌, map, length, get_or, set, slice_get, Option, Some, None, refl, sym, ap, ◌∙◌, subst, inl, inr, ◌⊎◌, arith}
use Rattle.std.proofs.lemmas.Bool.{cases_lt, false≢true, eqb-true, eq-eqb}
use Rattle.std.proofs.lemmas.List.{length-set, length_push, get_or-set_same, get_or-set_other}
use Rattle.std.proofs.lemmas.Option.{slice_get_within, same_Some}
use Rattle.spv_logic.specs.declared.conditions.TermId.{TermId}
use Rattle.spv_term.specs.Arena.{Arena}
use Rattle.spv_term.proofs.ListLemmas.{slice_get-append_left, slice_get_push}
use Rattle.spv_term.proofs.NodeLemmas.{id_from}
use Rattle.spv_atoms.specs.Order.{same_id}
use Rattle.spv_trail.specs.followers.Followers.{entry, beside, Stands, IsQuestion, AreBeside, AreEmpty, Puts, PutsAt, Adds, IsEarly}

pub same_itself : (t : TermId) → same_id t t ≡ true
same_itself t = eq-eqb t.0 t.0 refl

pub none_some : {A : Type 0} (x : A) → None ≡ Some x → ⊥
none_some x e = cc

module _ {P : Type 0} where
  -- ---- one list

  stands_before : (list : List (TermId × P)) (q r : TermId) (p o : P) → Stands list r o → Stands (list ++ entry q p ∷ []) r o
  stands_before list q r p o s = record {
    place = s.place;
    there = slice_get-append_left list (entry q p ∷ []) s.place (slice_get_within list s.place (entry r o) s.there) ∙ s.there;
  }

  stands_last : (list : List (TermId × P)) (q : TermId) (p : P) → Stands (list ++ entry q p ∷ []) q p
  stands_last list q p = record { place = length list; there = slice_get_push list (entry q p) }

  stands_split : (list : List (TermId × P)) (q r : TermId) (p o : P) → Stands (list ++ entry q p ∷ []) r o → Stands list r o ⊎ (entry q p ≡ entry r o)
  stands_split list q r p o s = elim (cases_lt s.place (length list)) [
    | inl below ↦ inl (record { place = s.place; there = sym (slice_get-append_left list (entry q p ∷ []) s.place below) ∙ s.there })
    | inr above ↦
        let inside = slice_get_within (list ++ entry q p ∷ []) s.place (entry r o) s.there in
        let many = length_push list (entry q p) in
        let last : s.place ≡ length list = omega (arith, inside, many, above) in
        inr (same_Some (entry q p) (entry r o) (sym (slice_get_push list (entry q p)) ∙ (ap (slice_get (list ++ entry q p ∷ [])) (sym last) ∙ s.there)))
  ]

  -- nothing stands in the empty list
  stands_nowhere : (list : List (TermId × P)) (q : TermId) (p : P) → list ≡ [] → Stands list q p → ⊥
  stands_nowhere list q p e s = nothing s.place (ap (λ (l : List (TermId × P)). slice_get l s.place) (sym e) ∙ s.there)
    where
      empty : List (TermId × P)
      empty = []

      nothing : (i : ℕ) → slice_get empty i ≡ Some (entry q p) → ⊥
      nothing i h = cc

  -- ---- lists without a question

  grown_same : (old : List (List (TermId × P))) (i : ℕ) → get_or (old ++ [] ∷ []) i [] ≡ get_or old i []
  grown_same [] zero = refl
  grown_same [] (suc i) = refl
  grown_same (l ∷ old) zero = refl
  grown_same (l ∷ old) (suc i) = grown_same old i

  pub no_lists : (lists : List (List (TermId × P))) → lists ≡ [] → AreEmpty 0 lists
  no_lists lists e = record { many = ap length e; none = λ t. ap (λ (ls : List (List (TermId × P))). beside ls t) e }

  pub one_list_more : (count : ℕ) (old new : List (List (TermId × P))) → AreEmpty count old → new ≡ old ++ [] ∷ [] → AreEmpty (count + 1) new
  one_list_more count old new h e = record {
    many = (let many = length_push old [] in let same : length new ≡ length (old ++ [] ∷ []) = ap length e in let before = h.many in omega (arith, many, same, before));
    none = λ t. ap (λ (ls : List (List (TermId × P))). beside ls t) e ∙ (grown_same old t.0 ∙ h.none t);
  }

  -- ---- a question that is put beside a term

  -- what the write of one list does
  pub puts_from : (old new : List (List (TermId × P))) (t q : TermId) (p : P) (list : List (TermId × P)) → t.0 < length old → new ≡ set old t.0 list → list ≡ beside old t ++ entry q p ∷ [] → Puts t q p old new
  puts_from old new t q p list within e f = record {
    many = ap length e ∙ length-set old t.0 list;
    lists = λ u. ap (λ (ls : List (List (TermId × P))). beside ls u) e ∙ by_case u (same_id t u) refl;
  }
    where
      by_case : (u : TermId) (b : Bool) → same_id t u ≡ b → beside (set old t.0 list) u ≡ cond b (beside old u ++ entry q p ∷ []) (beside old u)
      by_case u true g =
          let same : t.0 ≡ u.0 = eqb-true t.0 u.0 g in
          subst (λ (n : ℕ). get_or (set old t.0 list) n [] ≡ get_or old n [] ++ entry q p ∷ []) same (get_or-set_same old t.0 list [] within ∙ f)
      by_case u false g = get_or-set_other old t.0 u.0 list [] (λ h. false≢true (sym g ∙ eq-eqb t.0 u.0 (sym h)))

  module _ (t q : TermId) (p : P) (old new : List (List (TermId × P))) (puts : Puts t q p old new) where
    put_keeps : (u r : TermId) (o : P) → Stands (beside old u) r o → Stands (beside new u) r o
    put_keeps u r o s = by_case (same_id t u) (puts.lists u)
      where
        by_case : (b : Bool) → beside new u ≡ cond b (beside old u ++ entry q p ∷ []) (beside old u) → Stands (beside new u) r o
        by_case true e = subst (λ (l : List (TermId × P)). Stands l r o) (sym e) (stands_before (beside old u) q r p o s)
        by_case false e = subst (λ (l : List (TermId × P)). Stands l r o) (sym e) s

    put_there : Stands (beside new t) q p
    put_there =
        let is : beside new t ≡ beside old t ++ entry q p ∷ [] = puts.lists t ∙ ap (λ b. cond b (beside old t ++ entry q p ∷ []) (beside old t)) (same_itself t) in
        subst (λ (l : List (TermId × P)). Stands l q p) (sym is) (stands_last (beside old t) q p)

    put_only : (u r : TermId) (o : P) → Stands (beside new u) r o → Stands (beside old u) r o ⊎ ((t ≡ u) × (entry q p ≡ entry r o))
    put_only u r o s = by_case (same_id t u) refl (puts.lists u)
      where
        by_case : (b : Bool) → same_id t u ≡ b → beside new u ≡ cond b (beside old u ++ entry q p ∷ []) (beside old u) → Stands (beside old u) r o ⊎ ((t ≡ u) × (entry q p ≡ entry r o))
        by_case true f e = elim (stands_split (beside old u) q r p o (subst (λ (l : List (TermId × P)). Stands l r o) e s)) [
          | inl before ↦ inl before
          | inr same ↦ inr (id_from t u (eqb-true t.0 u.0 f), same)
        ]
        by_case false f e = inl (subst (λ (l : List (TermId × P)). Stands l r o) e s)

  -- ---- a question that is put beside a term, if there is one

  pub at_many : (o : Option TermId) (q : TermId) (p : P) (old new : List (List (TermId × P))) → PutsAt o q p old new → length new ≡ length old
  at_many None q p old new same = ap length same
  at_many (Some t) q p old new puts = puts.many

  pub at_keeps : (o : Option TermId) (q : TermId) (p : P) (old new : List (List (TermId × P))) → PutsAt o q p old new → (u r : TermId) (x : P) → Stands (beside old u) r x → Stands (beside new u) r x
  at_keeps None q p old new same u r x s = subst (λ (ls : List (List (TermId × P))). Stands (beside ls u) r x) (sym same) s
  at_keeps (Some t) q p old new puts u r x s = put_keeps t q p old new puts u r x s

  pub at_there : (o : Option TermId) (q : TermId) (p : P) (old new : List (List (TermId × P))) → PutsAt o q p old new → (t : TermId) → o ≡ Some t → Stands (beside new t) q p
  at_there None q p old new same t e = absurd (none_some t e)
  at_there (Some v) q p old new puts t e = subst (λ (w : TermId). Stands (beside new w) q p) (same_Some v t e) (put_there v q p old new puts)

  pub at_only : (o : Option TermId) (q : TermId) (p : P) (old new : List (List (TermId × P))) → PutsAt o q p old new → (u r : TermId) (x : P) → Stands (beside new u) r x → Stands (beside old u) r x ⊎ ((o ≡ Some u) × (entry q p ≡ entry r x))
  at_only None q p old new same u r x s = inl (subst (λ (ls : List (List (TermId × P))). Stands (beside ls u) r x) same s)
  at_only (Some t) q p old new puts u r x s = elim (put_only t q p old new puts u r x s) [
    | inl before ↦ inl before
    | inr both ↦ inr (ap Some both.0, both.1)
  ]

  module _ (a : Arena) (Says : TermId → TermId → P → Type 0) where
    -- ---- what is added for one question

    pub says_same : (u q r : TermId) (p o : P) → Says u q p → entry q p ≡ entry r o → (r ≡ q) × Says u q o
    says_same u q r p o says e =
        let ids : q ≡ r = ap (λ (x : TermId × P). x.0) e in
        let parts : p ≡ o = ap (λ (x : TermId × P). x.1) e in
        (sym ids, subst (λ (x : P). Says u q x) parts says)

    pub adds_nothing : (q : TermId) (lists : List (List (TermId × P))) → ((t : TermId) (p : P) → Says t q p → ⊥) → Adds a Says q lists lists
    adds_nothing q lists never = record {
      many = refl;
      keeps = λ t r p s. s;
      comes = λ t r p s. inl s;
      has = λ t p within says. absurd (never t p says);
    }

    pub adds_one : (t q : TermId) (p : P) (old new : List (List (TermId × P))) → Puts t q p old new → Says t q p → ((u : TermId) (o : P) → u.0 < length a.nodes → Says u q o → (t ≡ u) × (p ≡ o)) → Adds a Says q old new
    adds_one t q p old new puts says one = record {
      many = puts.many;
      keeps = put_keeps t q p old new puts;
      comes = λ u r o s. elim (put_only t q p old new puts u r o s) [
        | inl before ↦ inl before
        | inr both ↦ inr (says_same u q r p o (subst (λ (w : TermId). Says w q p) both.0 says) both.1)
      ];
      has = λ u o within other. let same = one u o within other in
          subst (λ (x : P). Stands (beside new u) q x) same.1 (subst (λ (w : TermId). Stands (beside new w) q p) same.0 (put_there t q p old new puts));
    }

    -- ---- the questions one after the other

    module _ (questions : List TermId) where
      pub pass_starts : (lists : List (List (TermId × P))) → AreEmpty (length a.nodes) lists → AreBeside a (IsEarly questions 0) Says lists
      pass_starts lists e = record {
        count = e.many;
        sound = λ t q p s. absurd (stands_nowhere (beside lists t) q p (e.none t) s);
        complete = λ t q p within one says. let none = one.early in absurd (omega (arith, none));
      }

      later : (place : ℕ) (q : TermId) → IsEarly questions place q → IsEarly questions (place + 1) q
      later place q one = record { place = one.place; early = (let h = one.early in omega (arith, h)); there = one.there }

      pub pass_step : (place : ℕ) (q : TermId) (old new : List (List (TermId × P))) → slice_get questions place ≡ Some q → AreBeside a (IsEarly questions place) Says old → Adds a Says q old new
          → AreBeside a (IsEarly questions (place + 1)) Says new
      pass_step place q old new here before adds = record {
        count = adds.many ∙ before.count;
        sound = λ t r p s. elim (adds.comes t r p s) [
          | inl s_before ↦ let both = before.sound t r p s_before in (later place r both.0, both.1)
          | inr both ↦ (record { place = place; early = omega arith; there = here ∙ ap Some (sym both.0) }, subst (λ (x : TermId). Says t x p) (sym both.0) both.1)
        ];
        complete = λ t r p within one says. elim (cases_lt one.place place) [
          | inl below ↦ adds.keeps t r p (before.complete t r p within (record { place = one.place; early = below; there = one.there }) says)
          | inr above ↦
              let early = one.early in
              let last : one.place ≡ place = omega (arith, early, above) in
              let same : r ≡ q = same_Some r q (sym one.there ∙ (ap (slice_get questions) last ∙ here)) in
              subst (λ (x : TermId). Stands (beside new t) x p) (sym same) (adds.has t p within (subst (λ (x : TermId). Says t x p) same says))
        ];
      }

      -- the same, where the lists were lent as a slice
      pub pass_lent : {X : Type 0} (place : ℕ) (q : TermId) (items lent new back : List X) (f : X → List (TermId × P)) → slice_get questions place ≡ Some q → AreBeside a (IsEarly questions place) Says (map f items) → lent ≡ items
          → back ≡ new → Adds a Says q (map f lent) (map f new) → AreBeside a (IsEarly questions (place + 1)) Says (map f back)
      pass_lent {X} place q items lent new back f here before is comes adds =
          subst (λ (ls : List X). AreBeside a (IsEarly questions (place + 1)) Says (map f ls)) (sym comes)
          (pass_step place q (map f items) (map f new) here before (subst (λ (ls : List X). Adds a Says q (map f ls) (map f new)) is adds))

      pub pass_ends : (count : ℕ) (lists : List (List (TermId × P))) → length questions ≤ count → AreBeside a (IsEarly questions count) Says lists → AreBeside a (IsQuestion questions) Says lists
      pass_ends count lists long all = record {
        count = all.count;
        sound = λ t q p s. let both = all.sound t q p s in (record { place = both.0.place; there = both.0.there }, both.1);
        complete = λ t q p within one says. all.complete t q p within (record {
          place = one.place;
          early = (let h = slice_get_within questions one.place q one.there in omega (arith, h, long));
          there = one.there;
        }) says;
      }
