-- The sorts of the parts of a well sorted term.
use Rattle.std.proofs.Common.{◌≡◌, List, [], ◌∷◌, Option, Some, None, refl, sym, ap, ◌∙◌}
use Rattle.spv_logic.specs.declared.names.names.Symbol.{Symbol}
use Rattle.spv_logic.specs.declared.types.TypeId.{TypeId}
use Rattle.spv_logic.specs.declared.types.Sort.{Sort}
use Rattle.spv_logic.specs.declared.types.Sort.TheVariants as sort
use Rattle.spv_logic.specs.declared.types.Shape.{Shape}
use Rattle.spv_logic.specs.declared.types.Decl.{Decl}
use Rattle.spv_logic.specs.declared.operators.Head.TheVariants as head
use Rattle.spv_logic.specs.Terms.{Term}
use Rattle.spv_logic.specs.Formulas.{negation, equation}
use Rattle.spv_logic.specs.Shapes.{element_sort, fields_of, content_sort, pointer_sort, field_sort_of, sort_of_type}
use Rattle.spv_logic.specs.Sorts.{takes, with_sort, with_sorts, sort_before, result_sort, class_change, membership, term_sort}
use Rattle.spv_logic.proofs.Sorting.{taken}
use Rattle.spv_schemas.specs.Facts.{one, two, three}

-- ---- arguments

one_sort : (o : Option Sort) (go : List Sort → Option Sort) (s : Sort) → with_sorts (sort_before o (Some [])) go ≡ Some s → (x : Sort) × (o ≡ Some x) × (go (x ∷ []) ≡ Some s)
one_sort None go s h = cc
one_sort (Some x) go s h = (x, refl, h)

two_sorts : (o p : Option Sort) (go : List Sort → Option Sort) (s : Sort) → with_sorts (sort_before o (sort_before p (Some []))) go ≡ Some s → (x : Sort) × (y : Sort) × (o ≡ Some x) × (p ≡ Some y) × (go (x ∷ y ∷ []) ≡ Some s)
two_sorts None p go s h = cc
two_sorts (Some x) None go s h = cc
two_sorts (Some x) (Some y) go s h = (x, y, refl, refl, h)

three_sorts : (o p q : Option Sort) (go : List Sort → Option Sort) (s : Sort) → with_sorts (sort_before o (sort_before p (sort_before q (Some [])))) go ≡ Some s → (x : Sort) × (y : Sort) × (z : Sort) × (o ≡ Some x) × (p ≡ Some y) × (q ≡ Some z) × (go (x ∷ y ∷ z ∷ []) ≡ Some s)
three_sorts None p q go s h = cc
three_sorts (Some x) None q go s h = cc
three_sorts (Some x) (Some y) None go s h = cc
three_sorts (Some x) (Some y) (Some z) go s h = (x, y, z, refl, refl, refl, h)

with_some : (o : Option Sort) (go : Sort → Option Sort) (s : Sort) → with_sort o go ≡ Some s → (e : Sort) × (o ≡ Some e) × (go e ≡ Some s)
with_some None go s h = cc
with_some (Some e) go s h = (e, refl, h)

-- what arguments of the wanted sorts tell
taken_one : (a x r s : Sort) → takes (a ∷ []) (x ∷ []) r ≡ Some s → (x ≡ a) × (r ≡ s)
taken_one a x r s h = let t = taken (a ∷ []) (x ∷ []) r s h in (from t.wanted_is, t.result_is)
  where
    from : (a ∷ []) ≡ (x ∷ []) → x ≡ a
    from e = cc

taken_two : (a b x y r s : Sort) → takes (a ∷ b ∷ []) (x ∷ y ∷ []) r ≡ Some s → (x ≡ a) × (y ≡ b) × (r ≡ s)
taken_two a b x y r s h = let t = taken (a ∷ b ∷ []) (x ∷ y ∷ []) r s h in (from_first t.wanted_is, from_second t.wanted_is, t.result_is)
  where
    from_first : (a ∷ b ∷ []) ≡ (x ∷ y ∷ []) → x ≡ a
    from_first e = cc

    from_second : (a ∷ b ∷ []) ≡ (x ∷ y ∷ []) → y ≡ b
    from_second e = cc

taken_three : (a b c x y z r s : Sort) → takes (a ∷ b ∷ c ∷ []) (x ∷ y ∷ z ∷ []) r ≡ Some s → (x ≡ a) × (y ≡ b) × (z ≡ c) × (r ≡ s)
taken_three a b c x y z r s h = let t = taken (a ∷ b ∷ c ∷ []) (x ∷ y ∷ z ∷ []) r s h in (from_first t.wanted_is, from_second t.wanted_is, from_third t.wanted_is, t.result_is)
  where
    from_first : (a ∷ b ∷ c ∷ []) ≡ (x ∷ y ∷ z ∷ []) → x ≡ a
    from_first e = cc

    from_second : (a ∷ b ∷ c ∷ []) ≡ (x ∷ y ∷ z ∷ []) → y ≡ b
    from_second e = cc

    from_third : (a ∷ b ∷ c ∷ []) ≡ (x ∷ y ∷ z ∷ []) → z ≡ c
    from_third e = cc

-- ---- classes

-- a class, its pointers and its contents
changed : (shapes : List Shape) (x y z s : Sort) → class_change shapes x (x ∷ y ∷ z ∷ []) ≡ Some s → (t : TypeId) × (x ≡ sort.Class t) × (y ≡ sort.Ptr t) × (z ≡ sort_of_type shapes t) × (s ≡ sort.Class t)
changed shapes (sort.Class t) y z s h =
    let k = taken_three (sort.Class t) (sort.Ptr t) (sort_of_type shapes t) (sort.Class t) y z (sort.Class t) s h in
    (t, refl, k.1, k.2, sym k.3)
changed shapes _ y z s h = cc

read : (shapes : List Shape) (x y s : Sort) → with_sort (content_sort shapes x) (λ e. takes (x ∷ pointer_sort x ∷ []) (x ∷ y ∷ []) e) ≡ Some s → (t : TypeId) × (x ≡ sort.Class t) × (y ≡ sort.Ptr t)
read shapes (sort.Class t) y s h = (t, refl, (taken_two (sort.Class t) (sort.Ptr t) (sort.Class t) y (sort_of_type shapes t) s h).1)
read shapes _ y s h = cc

asked : (x y s : Sort) → membership x (x ∷ y ∷ []) ≡ Some s → (t : TypeId) × (x ≡ sort.Ptr t) × (y ≡ sort.Class t)
asked (sort.Ptr t) y s h = (t, refl, (taken_two (sort.Ptr t) (sort.Class t) (sort.Ptr t) y sort.Bool s h).1)
asked _ y s h = cc

-- ---- terms

module _ (shapes : List Shape) (decls : List Decl) where
  -- a term has a sort
  abbrev pub Sorted : Term → Sort → Type 0
  Sorted t s = term_sort shapes decls t ≡ Some s

  abbrev sort_of : Term → Option Sort
  sort_of t = term_sort shapes decls t

  pub of_negation : (f : Term) (s : Sort) → Sorted (negation f) s → Sorted f sort.Bool
  of_negation f s h =
      let p = one_sort (sort_of f) (result_sort shapes decls head.Not) s h in
      p.1 ∙ ap Some (taken_one sort.Bool p.0 sort.Bool s p.2).0

  pub of_implication : (f g : Term) (s : Sort) → Sorted (two head.Implies f g) s → Sorted f sort.Bool × Sorted g sort.Bool
  of_implication f g s h =
      let p = two_sorts (sort_of f) (sort_of g) (result_sort shapes decls head.Implies) s h in
      let k = taken_two sort.Bool sort.Bool p.0 p.1 sort.Bool s p.4 in
      (p.2 ∙ ap Some k.0, p.3 ∙ ap Some k.1)

  pub of_equation : (a b : Term) (s : Sort) → Sorted (equation a b) s → (x : Sort) × Sorted a x × Sorted b x
  of_equation a b s h =
      let p = two_sorts (sort_of a) (sort_of b) (result_sort shapes decls head.Eq) s h in
      (p.0, p.2, p.3 ∙ ap Some (taken_two p.0 p.0 p.0 p.1 sort.Bool s p.4).1)

  pub of_sum : (a b : Term) (s : Sort) → Sorted (two head.Add a b) s → s ≡ sort.Int
  of_sum a b s h =
      let p = two_sorts (sort_of a) (sort_of b) (result_sort shapes decls head.Add) s h in
      sym (taken_two sort.Int sort.Int p.0 p.1 sort.Int s p.4).2

  pub of_select : (a i : Term) (s : Sort) → Sorted (two head.Select a i) s → (x : Sort) × Sorted a x × Sorted i sort.Int
  of_select a i s h =
      let p = two_sorts (sort_of a) (sort_of i) (result_sort shapes decls head.Select) s h in
      let e = with_some (element_sort shapes p.0) (λ e. takes (p.0 ∷ sort.Int ∷ []) (p.0 ∷ p.1 ∷ []) e) s p.4 in
      (p.0, p.2, p.3 ∙ ap Some (taken_two p.0 sort.Int p.0 p.1 e.0 s e.2).1)

  pub of_store : (a i w : Term) (s : Sort) → Sorted (three head.Store a i w) s → (e : Sort) × Sorted a s × (element_sort shapes s ≡ Some e) × Sorted i sort.Int × Sorted w e
  of_store a i w s h =
      let p = three_sorts (sort_of a) (sort_of i) (sort_of w) (result_sort shapes decls head.Store) s h in
      let e = with_some (element_sort shapes p.0) (λ e. takes (p.0 ∷ sort.Int ∷ e ∷ []) (p.0 ∷ p.1 ∷ p.2 ∷ []) p.0) s p.6 in
      let k = taken_three p.0 sort.Int e.0 p.0 p.1 p.2 p.0 s e.2 in
      (e.0, p.3 ∙ ap Some k.3, ap (element_sort shapes) (sym k.3) ∙ e.1, p.4 ∙ ap Some k.1, p.5 ∙ ap Some k.2)

  pub of_field : (f : Symbol) (r : Term) (s : Sort) → Sorted (one (head.Field f) r) s → (x : Sort) × (e : Sort) × Sorted r x × (field_sort_of (fields_of shapes x) f.0 ≡ Some e)
  of_field f r s h =
      let p = one_sort (sort_of r) (result_sort shapes decls (head.Field f)) s h in
      let e = with_some (field_sort_of (fields_of shapes p.0) f.0) (λ e. takes (p.0 ∷ []) (p.0 ∷ []) e) s p.2 in
      (p.0, e.0, p.1, e.1)

  pub of_put : (f : Symbol) (r w : Term) (s : Sort) → Sorted (two (head.Put f) r w) s → (e : Sort) × Sorted r s × (field_sort_of (fields_of shapes s) f.0 ≡ Some e) × Sorted w e
  of_put f r w s h =
      let p = two_sorts (sort_of r) (sort_of w) (result_sort shapes decls (head.Put f)) s h in
      let e = with_some (field_sort_of (fields_of shapes p.0) f.0) (λ e. takes (p.0 ∷ e ∷ []) (p.0 ∷ p.1 ∷ []) p.0) s p.4 in
      let k = taken_two p.0 e.0 p.0 p.1 p.0 s e.2 in
      (e.0, p.2 ∙ ap Some k.2, ap (λ r. field_sort_of (fields_of shapes r) f.0) (sym k.2) ∙ e.1, p.3 ∙ ap Some k.1)

  pub of_cell : (c q : Term) (s : Sort) → Sorted (two head.Cell c q) s → (t : TypeId) × Sorted c (sort.Class t) × Sorted q (sort.Ptr t)
  of_cell c q s h =
      let p = two_sorts (sort_of c) (sort_of q) (result_sort shapes decls head.Cell) s h in
      let k = read shapes p.0 p.1 s p.4 in
      (k.0, p.2 ∙ ap Some k.1, p.3 ∙ ap Some k.2)

  pub of_set_cell : (c p w : Term) (s : Sort) → Sorted (three head.SetCell c p w) s → (t : TypeId) × (s ≡ sort.Class t) × Sorted c (sort.Class t) × Sorted p (sort.Ptr t) × Sorted w (sort_of_type shapes t)
  of_set_cell c p w s h =
      let q = three_sorts (sort_of c) (sort_of p) (sort_of w) (result_sort shapes decls head.SetCell) s h in
      let k = changed shapes q.0 q.1 q.2 s q.6 in
      (k.0, k.4, q.3 ∙ ap Some k.1, q.4 ∙ ap Some k.2, q.5 ∙ ap Some k.3)

  pub of_extend : (c p w : Term) (s : Sort) → Sorted (three head.Extend c p w) s → (t : TypeId) × (s ≡ sort.Class t) × Sorted c (sort.Class t) × Sorted p (sort.Ptr t) × Sorted w (sort_of_type shapes t)
  of_extend c p w s h =
      let q = three_sorts (sort_of c) (sort_of p) (sort_of w) (result_sort shapes decls head.Extend) s h in
      let k = changed shapes q.0 q.1 q.2 s q.6 in
      (k.0, k.4, q.3 ∙ ap Some k.1, q.4 ∙ ap Some k.2, q.5 ∙ ap Some k.3)

  pub of_pointer_to : (q c : Term) (s : Sort) → Sorted (two head.PointerTo q c) s → (t : TypeId) × Sorted q (sort.Ptr t) × Sorted c (sort.Class t)
  of_pointer_to q c s h =
      let p = two_sorts (sort_of q) (sort_of c) (result_sort shapes decls head.PointerTo) s h in
      let k = asked p.0 p.1 s p.4 in
      (k.0, p.2 ∙ ap Some k.1, p.3 ∙ ap Some k.2)

  pub of_cons : (x y : Term) (s : Sort) → Sorted (two head.Cons x y) s → (s ≡ sort.List) × Sorted x sort.List × Sorted y sort.List
  of_cons x y s h =
      let p = two_sorts (sort_of x) (sort_of y) (result_sort shapes decls head.Cons) s h in
      let k = taken_two sort.List sort.List p.0 p.1 sort.List s p.4 in
      (sym k.2, p.2 ∙ ap Some k.0, p.3 ∙ ap Some k.1)

  pub of_atom : (x : Term) (s : Sort) → Sorted (one head.Atom x) s → Sorted x sort.List
  of_atom x s h = let p = one_sort (sort_of x) (result_sort shapes decls head.Atom) s h in p.1 ∙ ap Some (taken_one sort.List p.0 sort.Bool s p.2).0

  pub of_car : (x : Term) (s : Sort) → Sorted (one head.Car x) s → Sorted x sort.List
  of_car x s h = let p = one_sort (sort_of x) (result_sort shapes decls head.Car) s h in p.1 ∙ ap Some (taken_one sort.List p.0 sort.List s p.2).0

  pub of_cdr : (x : Term) (s : Sort) → Sorted (one head.Cdr x) s → Sorted x sort.List
  of_cdr x s h = let p = one_sort (sort_of x) (result_sort shapes decls head.Cdr) s h in p.1 ∙ ap Some (taken_one sort.List p.0 sort.List s p.2).0

  pub of_order : (a b : Term) (s : Sort) → Sorted (two head.Le a b) s → Sorted a sort.Int × Sorted b sort.Int
  of_order a b s h =
      let p = two_sorts (sort_of a) (sort_of b) (result_sort shapes decls head.Le) s h in
      let k = taken_two sort.Int sort.Int p.0 p.1 sort.Bool s p.4 in
      (p.2 ∙ ap Some k.0, p.3 ∙ ap Some k.1)
