-- What makes a term well sorted.
use Rattle.std.proofs.Common.{◌≡◌, true, cond, List, [], ◌∷◌, Some, None, refl, ap, ◌∙◌}
use Rattle.std.specs.Cmp.Derive.{both_true}
use Rattle.spv_logic.specs.declared.names.names.Symbol.{Symbol}
use Rattle.spv_logic.specs.declared.types.TypeId.{TypeId}
use Rattle.spv_logic.specs.declared.types.Sort.{Sort}
use Rattle.spv_logic.specs.declared.types.Sort.TheVariants as sort
use Rattle.spv_logic.specs.declared.types.Shape.{Shape}
use Rattle.spv_logic.specs.declared.types.Decl.{Decl}
use Rattle.spv_logic.specs.declared.operators.Head.{Head}
use Rattle.spv_logic.specs.declared.operators.Head.TheVariants as head
use Rattle.spv_logic.specs.Terms.{Term}
use Rattle.spv_logic.specs.Formulas.{negation, equation}
use Rattle.spv_logic.specs.Shapes.{element_sort, fields_of, field_sort_of, sort_of_type}
use Rattle.spv_logic.specs.Sorts.{sorts_eq, takes, with_sort, with_sorts, sort_before, result_sort, term_sort}
use Rattle.spv_logic.proofs.Equality.{sort_eq-refl}
use Rattle.spv_schemas.specs.Facts.{one, two}
use Rattle.spv_schemas.proofs.Sorts.{Sorted}

sorts_same : (ss : List Sort) → sorts_eq ss ss ≡ true
sorts_same [] = refl
sorts_same (s ∷ ss) = both_true (sort_eq-refl s) (sorts_same ss)

takes_same : (ss : List Sort) (r : Sort) → takes ss ss r ≡ Some r
takes_same ss r = ap (λ b. cond b (Some r) None) (sorts_same ss)

module _ (shapes : List Shape) (decls : List Decl) where
  -- ---- results of heads

  pub eq_result : (x : Sort) → result_sort shapes decls head.Eq (x ∷ x ∷ []) ≡ Some sort.Bool
  eq_result x = takes_same (x ∷ x ∷ []) sort.Bool

  pub select_result : (x e : Sort) → element_sort shapes x ≡ Some e → result_sort shapes decls head.Select (x ∷ sort.Int ∷ []) ≡ Some e
  select_result x e g = ap (λ o. with_sort o (λ r. takes (x ∷ sort.Int ∷ []) (x ∷ sort.Int ∷ []) r)) g ∙ takes_same (x ∷ sort.Int ∷ []) e

  pub field_result : (f : Symbol) (x e : Sort) → field_sort_of (fields_of shapes x) f.0 ≡ Some e → result_sort shapes decls (head.Field f) (x ∷ []) ≡ Some e
  field_result f x e g = ap (λ o. with_sort o (λ r. takes (x ∷ []) (x ∷ []) r)) g ∙ takes_same (x ∷ []) e

  pub cell_result : (t : TypeId) → result_sort shapes decls head.Cell (sort.Class t ∷ sort.Ptr t ∷ []) ≡ Some (sort_of_type shapes t)
  cell_result t = takes_same (sort.Class t ∷ sort.Ptr t ∷ []) (sort_of_type shapes t)

  pub pointer_to_result : (t : TypeId) → result_sort shapes decls head.PointerTo (sort.Ptr t ∷ sort.Class t ∷ []) ≡ Some sort.Bool
  pointer_to_result t = takes_same (sort.Ptr t ∷ sort.Class t ∷ []) sort.Bool

  -- ---- terms

  pub sorted_one : (h : Head) (t : Term) (x r : Sort) → Sorted shapes decls t x → result_sort shapes decls h (x ∷ []) ≡ Some r → Sorted shapes decls (one h t) r
  sorted_one h t x r e g = ap (λ o. with_sorts (sort_before o (Some [])) (result_sort shapes decls h)) e ∙ g

  pub sorted_two : (h : Head) (t u : Term) (x y r : Sort) → Sorted shapes decls t x → Sorted shapes decls u y → result_sort shapes decls h (x ∷ y ∷ []) ≡ Some r → Sorted shapes decls (two h t u) r
  sorted_two h t u x y r e f g =
      ap (λ o. with_sorts (sort_before o (sort_before (term_sort shapes decls u) (Some []))) (result_sort shapes decls h)) e
      ∙ (ap (λ o. with_sorts (sort_before (Some x) (sort_before o (Some []))) (result_sort shapes decls h)) f ∙ g)

  pub sorted_negation : (f : Term) → Sorted shapes decls f sort.Bool → Sorted shapes decls (negation f) sort.Bool
  sorted_negation f e = sorted_one head.Not f sort.Bool sort.Bool e refl

  pub sorted_implication : (f g : Term) → Sorted shapes decls f sort.Bool → Sorted shapes decls g sort.Bool → Sorted shapes decls (two head.Implies f g) sort.Bool
  sorted_implication f g e h = sorted_two head.Implies f g sort.Bool sort.Bool sort.Bool e h refl

  pub sorted_equation : (a b : Term) (x : Sort) → Sorted shapes decls a x → Sorted shapes decls b x → Sorted shapes decls (equation a b) sort.Bool
  sorted_equation a b x e h = sorted_two head.Eq a b x x sort.Bool e h (eq_result x)

  pub sorted_select : (a i : Term) (x e : Sort) → element_sort shapes x ≡ Some e → Sorted shapes decls a x → Sorted shapes decls i sort.Int → Sorted shapes decls (two head.Select a i) e
  sorted_select a i x e g k l = sorted_two head.Select a i x sort.Int e k l (select_result x e g)

  pub sorted_field : (f : Symbol) (r : Term) (x e : Sort) → field_sort_of (fields_of shapes x) f.0 ≡ Some e → Sorted shapes decls r x → Sorted shapes decls (one (head.Field f) r) e
  sorted_field f r x e g k = sorted_one (head.Field f) r x e k (field_result f x e g)

  pub sorted_cell : (c q : Term) (t : TypeId) → Sorted shapes decls c (sort.Class t) → Sorted shapes decls q (sort.Ptr t) → Sorted shapes decls (two head.Cell c q) (sort_of_type shapes t)
  sorted_cell c q t k l = sorted_two head.Cell c q (sort.Class t) (sort.Ptr t) (sort_of_type shapes t) k l (cell_result t)

  pub sorted_pointer_to : (q c : Term) (t : TypeId) → Sorted shapes decls q (sort.Ptr t) → Sorted shapes decls c (sort.Class t) → Sorted shapes decls (two head.PointerTo q c) sort.Bool
  sorted_pointer_to q c t k l = sorted_two head.PointerTo q c (sort.Ptr t) (sort.Class t) sort.Bool k l (pointer_to_result t)
