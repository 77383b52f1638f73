-- One type more is told apart from those before it.
use Rattle.std.proofs.Common.{◌≡◌, ℕ, zero, suc, ◌+◌, ◌<◌, ◌≤◌, Bool, true, false, not, nat_lt, nat_eq, List, [], ◌∷◌, ◌++◌, length, get_or, set, replicate, Option, Some, None, is_some, ◌⊎◌, inl, inr, refl, sym, ap, ◌∙◌, subst, arith, length-set}
use Rattle.std.specs.List.{list_all}
use Rattle.std.specs.Cmp.Derive.{both_true}
use Rattle.std.proofs.lemmas.Bool.{false≢true, eqb-true, eq-eqb, cases_lt, ltb-true, ltb-false}
use Rattle.std.proofs.lemmas.List.{length_push, length-replicate}
use Rattle.spv_logic.proofs.list.Tests.{left_true, right_true}
use Rattle.spv_logic.specs.declared.types.TypeId.{TypeId}
use Rattle.spv_program.specs.declared.types.TypeField.{TypeField}
use Rattle.spv_program.specs.declared.types.TypeForm.{TypeForm}
use Rattle.spv_program.specs.declared.types.TypeForm.TheVariants.{Integer, Boolean, Range, Pointer, Array, Record}
use Rattle.spv_program.specs.Lists.{item_at}
use Rattle.spv_environments.specs.Indexed.{built_below, IndexedTo, IsIndexed, noted, is_alone}

-- ---- items

item_got : {X : Type 0} (xs : List X) (i : ℕ) (d : X) → i < length xs → item_at xs i ≡ Some (get_or xs i d)
item_got [] i d h = absurd (omega (arith, h))
item_got (x ∷ xs) zero d h = refl
item_got (x ∷ xs) (suc i) d h = item_got xs i d (omega (arith, h))

item_set_same : {X : Type 0} (xs : List X) (i : ℕ) (y : X) → i < length xs → item_at (set xs i y) i ≡ Some y
item_set_same [] i y h = absurd (omega (arith, h))
item_set_same (x ∷ xs) zero y h = refl
item_set_same (x ∷ xs) (suc i) y h = item_set_same xs i y (omega (arith, h))

item_set_other : {X : Type 0} (xs : List X) (i j : ℕ) (y : X) → nat_eq j i ≡ false → item_at (set xs i y) j ≡ item_at xs j
item_set_other [] i j y h = refl
item_set_other (x ∷ xs) zero zero y h = absurd (false≢true (sym h ∙ eq-eqb 0 0 refl))
item_set_other (x ∷ xs) zero (suc j) y h = refl
item_set_other (x ∷ xs) (suc i) zero y h = refl
item_set_other (x ∷ xs) (suc i) (suc j) y h = item_set_other xs i j y (differ (nat_eq j i) refl)
  where
    differ : (b : Bool) → nat_eq j i ≡ b → nat_eq j i ≡ false
    differ false e = e
    differ true e = absurd (false≢true (sym h ∙ eq-eqb (suc j) (suc i) (ap suc (eqb-true j i e))))

item_front : {X : Type 0} (xs ys : List X) (i : ℕ) (x : X) → item_at xs i ≡ Some x → item_at (xs ++ ys) i ≡ Some x
item_front [] ys i x e = absurd cc
item_front (y ∷ xs) ys zero x e = e
item_front (y ∷ xs) ys (suc i) x e = item_front xs ys i x e

item_kept : {X : Type 0} (xs ys : List X) (i : ℕ) → i < length xs → item_at (xs ++ ys) i ≡ item_at xs i
item_kept [] ys i h = absurd (omega (arith, h))
item_kept (y ∷ xs) ys zero h = refl
item_kept (y ∷ xs) ys (suc i) h = item_kept xs ys i (omega (arith, h))

item_last : {X : Type 0} (xs : List X) (y : X) → item_at (xs ++ y ∷ []) (length xs) ≡ Some y
item_last [] y = refl
item_last (x ∷ xs) y = item_last xs y

-- an item of a list with one more is in the list, or is that one
of_grown : {X : Type 0} (xs : List X) (y : X) (i : ℕ) (x : X) (P : Type 0) → item_at (xs ++ y ∷ []) i ≡ Some x → (item_at xs i ≡ Some x → P) → (y ≡ x → P) → P
of_grown [] y zero x P e front last = let same : y ≡ x = cc in last same
of_grown [] y (suc i) x P e front last = absurd cc
of_grown (z ∷ xs) y zero x P e front last = front e
of_grown (z ∷ xs) y (suc i) x P e front last = of_grown xs y i x P e front last

-- ---- the index begins with nothing

nothing_noted : (n t p : ℕ) → item_at (replicate n (let none : Option ℕ = None in none)) t ≡ Some (Some p) → ⊥
nothing_noted zero t p e = cc
nothing_noted (suc n) zero p e = cc
nothing_noted (suc n) (suc t) p e = nothing_noted n t p e

pub index_begins : (forms : List TypeForm) (pointers : List (Option ℕ)) (count : ℕ) → count ≡ length forms → pointers ≡ replicate count None → IndexedTo 0 forms pointers
index_begins forms pointers count many is = record {
  many = ap length is ∙ (length-replicate count None ∙ many);
  listed = λ i t h e. absurd (nothing_below i h);
  known = λ t p e. absurd (nothing_noted count t p (ap (λ (l : List (Option ℕ)). item_at l t) (sym is) ∙ e));
  before = λ t p e. absurd (nothing_noted count t p (ap (λ (l : List (Option ℕ)). item_at l t) (sym is) ∙ e));
  closed = λ i f h e. absurd (nothing_below i h);
}
  where
    nothing_below : (i : ℕ) → i < 0 → ⊥
    nothing_below i h = omega (arith, h)

-- ---- a further form

next_place : (i place : ℕ) → i < suc place → (i < place) ⊎ (i ≡ place)
next_place i place h = by_case (cases_lt i place)
  where
    by_case : (i < place) ⊎ (place ≤ i) → (i < place) ⊎ (i ≡ place)
    by_case (inl g) = inl g
    by_case (inr g) = inr (omega (arith, g, h))

module _ (place : ℕ) (forms : List TypeForm) (pointers : List (Option ℕ)) (so_far : IndexedTo place forms pointers) where
  later : (p : ℕ) → p < place → p < suc place
  later p h = omega (arith, h)

  no_pointer : (f : TypeForm) → item_at forms place ≡ Some f → built_below (length forms) f ≡ true → ((t : TypeId) → f ≡ Pointer t → ⊥) → IndexedTo (suc place) forms pointers
  no_pointer f at below other = record {
    many = so_far.many;
    listed = λ i t h e. by_place i t e (next_place i place h);
    known = so_far.known;
    before = λ t p e. later p (so_far.before t p e);
    closed = λ i g h e. closed_at i g e (next_place i place h);
  }
    where
      same_form : (o : Option TypeForm) (f g : TypeForm) → o ≡ Some f → o ≡ Some g → f ≡ g
      same_form o f g d e = cc

      by_place : (i : ℕ) (t : TypeId) → item_at forms i ≡ Some (Pointer t) → (i < place) ⊎ (i ≡ place) → item_at pointers t.0 ≡ Some (Some i)
      by_place i t e (inl h) = so_far.listed i t h e
      by_place i t e (inr h) = absurd (other t (same_form (item_at forms place) f (Pointer t) at (ap (item_at forms) (sym h) ∙ e)))

      closed_at : (i : ℕ) (g : TypeForm) → item_at forms i ≡ Some g → (i < place) ⊎ (i ≡ place) → built_below (length forms) g ≡ true
      closed_at i g e (inl h) = so_far.closed i g h e
      closed_at i g e (inr h) = subst (λ (x : TypeForm). built_below (length forms) x ≡ true) (same_form (item_at forms place) f g at (ap (item_at forms) (sym h) ∙ e)) below

  one_pointer : (t : TypeId) → item_at forms place ≡ Some (Pointer t) → t.0 < length forms → item_at pointers t.0 ≡ Some None → IndexedTo (suc place) forms (set pointers t.0 (Some place))
  one_pointer t at within alone = record {
    many = length-set pointers t.0 (Some place) ∙ so_far.many;
    listed = λ i u h e. by_place i u e (next_place i place h);
    known = λ u p e. known_at u p e (nat_eq u t.0) refl;
    before = λ u p e. before_at u p e (nat_eq u t.0) refl;
    closed = λ i g h e. closed_at i g e (next_place i place h);
  }
    where
      there : t.0 < length pointers
      there = subst (λ n. t.0 < n) (sym so_far.many) within

      some_form : (o : Option TypeForm) (t u : TypeId) → o ≡ Some (Pointer t) → o ≡ Some (Pointer u) → t ≡ u
      some_form o t u d e = cc

      not_both : (o : Option (Option ℕ)) (i : ℕ) → o ≡ Some None → o ≡ Some (Some i) → ⊥
      not_both o i d e = cc

      by_place : (i : ℕ) (u : TypeId) → item_at forms i ≡ Some (Pointer u) → (i < place) ⊎ (i ≡ place) → item_at (set pointers t.0 (Some place)) u.0 ≡ Some (Some i)
      by_place i u e (inr h) =
          let same : t ≡ u = some_form (item_at forms place) t u at (ap (item_at forms) (sym h) ∙ e) in
          subst (λ (v : TypeId). item_at (set pointers t.0 (Some place)) v.0 ≡ Some (Some i)) same
          (item_set_same pointers t.0 (Some place) there ∙ ap (λ n. Some (Some n)) (sym h))
      by_place i u e (inl h) = by_target (nat_eq u.0 t.0) refl
        where
          by_target : (b : Bool) → nat_eq u.0 t.0 ≡ b → item_at (set pointers t.0 (Some place)) u.0 ≡ Some (Some i)
          by_target false g = item_set_other pointers t.0 u.0 (Some place) g ∙ so_far.listed i u h e
          by_target true g = absurd (not_both (item_at pointers t.0) i alone (ap (item_at pointers) (sym (eqb-true u.0 t.0 g)) ∙ so_far.listed i u h e))

      placed : (u p : ℕ) → item_at (set pointers t.0 (Some place)) u ≡ Some (Some p) → u ≡ t.0 → place ≡ p
      placed u p e same = some_same (item_at (set pointers t.0 (Some place)) t.0) (item_set_same pointers t.0 (Some place) there) (ap (item_at (set pointers t.0 (Some place))) (sym same) ∙ e)
        where
          some_same : (o : Option (Option ℕ)) → o ≡ Some (Some place) → o ≡ Some (Some p) → place ≡ p
          some_same o d e = cc

      known_at : (u p : ℕ) → item_at (set pointers t.0 (Some place)) u ≡ Some (Some p) → (b : Bool) → nat_eq u t.0 ≡ b → item_at forms p ≡ Some (Pointer (record { 0 = u }))
      known_at u p e false g = so_far.known u p (sym (item_set_other pointers t.0 u (Some place) g) ∙ e)
      known_at u p e true g =
          let same : u ≡ t.0 = eqb-true u t.0 g in
          ap (item_at forms) (sym (placed u p e same)) ∙ (at ∙ ap (λ (n : ℕ). Some (Pointer (record { 0 = n }))) (sym same))

      before_at : (u p : ℕ) → item_at (set pointers t.0 (Some place)) u ≡ Some (Some p) → (b : Bool) → nat_eq u t.0 ≡ b → p < suc place
      before_at u p e false g = later p (so_far.before u p (sym (item_set_other pointers t.0 u (Some place) g) ∙ e))
      before_at u p e true g = let here : place ≡ p = placed u p e (eqb-true u t.0 g) in omega (arith, here)

      less_so : (n m : ℕ) → n < m → nat_lt n m ≡ true
      less_so n m h = by_case (nat_lt n m) refl
        where
          by_case : (b : Bool) → nat_lt n m ≡ b → b ≡ true
          by_case true e = refl
          by_case false e = let past : m ≤ n = ltb-false n m e in absurd (omega (arith, h, past))

      closed_at : (i : ℕ) (g : TypeForm) → item_at forms i ≡ Some g → (i < place) ⊎ (i ≡ place) → built_below (length forms) g ≡ true
      closed_at i g e (inl h) = so_far.closed i g h e
      closed_at i g e (inr h) = subst (λ (x : TypeForm). built_below (length forms) x ≡ true) (same_form (item_at forms place) (Pointer t) g at (ap (item_at forms) (sym h) ∙ e)) (less_so t.0 (length forms) within)
        where
          same_form : (o : Option TypeForm) (f g : TypeForm) → o ≡ Some f → o ≡ Some g → f ≡ g
          same_form o f g d e = cc

  none_there : (t : ℕ) → t < length pointers → not (is_some (get_or pointers t None)) ≡ true → item_at pointers t ≡ Some None
  none_there t h e = item_got pointers t None h ∙ ap Some (none_of (get_or pointers t None) e)
    where
      none_of : (o : Option ℕ) → not (is_some o) ≡ true → o ≡ None
      none_of None h = refl
      none_of (Some x) h = absurd (false≢true h)

  one_noted : (f : TypeForm) → item_at forms place ≡ Some f → built_below (length forms) f ≡ true → is_alone pointers f ≡ true → IndexedTo (suc place) forms (noted pointers place f)
  one_noted (Pointer t) at below alone =
      let within : t.0 < length forms = ltb-true t.0 (length forms) below in
      one_pointer t at within (none_there t.0 (subst (λ n. t.0 < n) (sym so_far.many) within) alone)
  one_noted Integer at below alone = no_pointer Integer at below (λ t e. other t e)
    where
      other : (t : TypeId) → Integer ≡ Pointer t → ⊥
      other t e = cc
  one_noted Boolean at below alone = no_pointer Boolean at below (λ t e. other t e)
    where
      other : (t : TypeId) → Boolean ≡ Pointer t → ⊥
      other t e = cc
  one_noted (Range low high) at below alone = no_pointer (Range low high) at below (λ t e. other t e)
    where
      other : (t : TypeId) → Range low high ≡ Pointer t → ⊥
      other t e = cc
  one_noted (Array index element) at below alone = no_pointer (Array index element) at below (λ t e. other t e)
    where
      other : (t : TypeId) → Array index element ≡ Pointer t → ⊥
      other t e = cc
  one_noted (Record fields) at below alone = no_pointer (Record fields) at below (λ t e. other t e)
    where
      other : (t : TypeId) → Record fields ≡ Pointer t → ⊥
      other t e = cc

  -- as the code has it
  pub noted_next : (f d : TypeForm) (now : List (Option ℕ)) (count : ℕ) → place < length forms → f ≡ get_or forms place d → count ≡ length forms → built_below count f ≡ true
      → is_alone pointers f ≡ true → now ≡ noted pointers place f → IndexedTo (place + 1) forms now
  noted_next f d now count within at many below alone is =
      subst (λ n. IndexedTo n forms now) (next_is place)
      (subst (IndexedTo (suc place) forms) (sym is)
      (one_noted f (item_got forms place d within ∙ ap Some (sym at)) (subst (λ n. built_below n f ≡ true) many below) alone))
    where
      next_is : (n : ℕ) → suc n ≡ n + 1
      next_is n = omega arith

-- ---- a type behind

less_more : (n m : ℕ) → nat_lt n m ≡ true → nat_lt n (suc m) ≡ true
less_more n m h = by_case (nat_lt n (suc m)) refl
  where
    by_case : (b : Bool) → nat_lt n (suc m) ≡ b → b ≡ true
    by_case true e = refl
    by_case false e =
        let past : suc m ≤ n = ltb-false n (suc m) e in
        let within : n < m = ltb-true n m h in
        absurd (omega (arith, past, within))

fields_more : (n : ℕ) (fields : List TypeField) → list_all (λ f. nat_lt f.of.0 n) fields ≡ true → list_all (λ f. nat_lt f.of.0 (suc n)) fields ≡ true
fields_more n [] h = refl
fields_more n (f ∷ fields) h = both_true (less_more f.of.0 n (left_true _ _ h)) (fields_more n fields (right_true (nat_lt f.of.0 n) _ h))

below_more : (n : ℕ) (f : TypeForm) → built_below n f ≡ true → built_below (suc n) f ≡ true
below_more n Integer h = refl
below_more n Boolean h = refl
below_more n (Range low high) h = refl
below_more n (Pointer t) h = less_more t.0 n h
below_more n (Array index element) h = both_true (less_more index.0 n (left_true _ _ h)) (less_more element.0 n (right_true (nat_lt index.0 n) _ h))
below_more n (Record fields) h = fields_more n fields h

module _ (forms : List TypeForm) (pointers : List (Option ℕ)) (index : IsIndexed forms pointers) (f : TypeForm) where
  longer : length (forms ++ f ∷ []) ≡ suc (length forms)
  longer = length_push forms f ∙ next_is (length forms)
    where
      next_is : (n : ℕ) → n + 1 ≡ suc n
      next_is n = omega arith

  grown : IndexedTo (length forms) (forms ++ f ∷ []) (pointers ++ None ∷ [])
  grown = record {
    many = length_push pointers None ∙ (ap (λ n. n + 1) index.many ∙ sym (length_push forms f));
    listed = λ i t h e. item_front pointers (None ∷ []) t.0 (Some i) (index.listed i t h (sym (item_kept forms (f ∷ []) i h) ∙ e));
    known = λ t p e. of_grown pointers None t (Some p) (item_at (forms ++ f ∷ []) p ≡ Some (Pointer (record { 0 = t }))) e
        (λ g. item_front forms (f ∷ []) p (Pointer (record { 0 = t })) (index.known t p g)) (λ g. absurd (no_such p g));
    before = λ t p e. of_grown pointers None t (Some p) (p < length forms) e (λ g. index.before t p g) (λ g. absurd (no_such p g));
    closed = λ i g h e. subst (λ n. built_below n g ≡ true) (sym longer) (below_more (length forms) g (index.closed i g h (sym (item_kept forms (f ∷ []) i h) ∙ e)));
  }
    where
      no_such : (p : ℕ) → (let none : Option ℕ = None in none) ≡ Some p → ⊥
      no_such p e = cc

  pub one_indexed : (middle now : List (Option ℕ)) (count : ℕ) → middle ≡ pointers ++ None ∷ [] → count ≡ length forms + 1 → built_below count f ≡ true → is_alone middle f ≡ true
      → now ≡ noted middle (length forms) f → IsIndexed (forms ++ f ∷ []) now
  one_indexed middle now count put many below alone is =
      subst (λ n. IndexedTo n (forms ++ f ∷ []) now) (sym longer)
      (subst (IndexedTo (suc (length forms)) (forms ++ f ∷ [])) (sym is)
      (one_noted (length forms) (forms ++ f ∷ []) middle (subst (IndexedTo (length forms) (forms ++ f ∷ [])) (sym put) grown) f (item_last forms f)
      (subst (λ n. built_below n f ≡ true) (many ∙ (next_is (length forms) ∙ sym longer)) below) alone))
    where
      next_is : (n : ℕ) → n + 1 ≡ suc n
      next_is n = omega arith
