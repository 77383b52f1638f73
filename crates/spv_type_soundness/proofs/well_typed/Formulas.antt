-- Formulas of annotations keep their sorts.
use Rattle.std.proofs.Common.{◌≡◌, Bool, true, false, cond, ◌&&◌, refl, sym, ap, ◌∙◌}
use Rattle.std.specs.Prelude.{Some, None, nat_lt}
use Rattle.std.specs.Cmp.Derive.{both_true}
use Rattle.std.proofs.lemmas.Bool.{false≢true}
use Rattle.std.proofs.lemmas.List.{length-map}
use Rattle.spv_logic.proofs.list.Tests.{and_false}
use Rattle.spv_logic.specs.declared.types.TypeId.{TypeId}
use Rattle.spv_logic.specs.declared.types.Sort.{Sort}
use Rattle.spv_logic.specs.declared.types.Sort.TheVariants as sort
use Rattle.spv_logic.specs.Terms.{sort_eq}
use Rattle.spv_logic.specs.Sorts.{sort_in_range}
use Rattle.spv_logic.proofs.Equality.{sort_eq-refl}
use Rattle.spv_program.specs.declared.operators.Arithmetic.{Arithmetic}
use Rattle.spv_program.specs.declared.operators.Comparison.{Comparison}
use Rattle.spv_program.specs.declared.operators.Comparison.TheVariants as comparison
use Rattle.spv_program.specs.declared.operators.Connective.{Connective}
use Rattle.spv_program.specs.Types.{shape_of_form, type_exists}
use Rattle.spv_program.specs.Programs.{Program, shapes}
use Rattle.spv_program.specs.Scopes as program
use Rattle.spv_program.specs.Formulas.{Formula, Numeral, Boolean, NilOf, Named, ClassOf, Element, FieldOf, Content, Applied, Known, Negative, Calculated, Compared, Negated, Joined, Implied}
use Rattle.spv_program.specs.FormulaTypes.{formula_sort, is_nil, is_sort, sort_if, numbers, truth_values, compared_sort, any_sort}
use Rattle.spv_program.proofs.SortFacts.{sort_told}
use Rattle.spv_type_soundness.proofs.well_typed.Operators.{Fine}

module _ (p : Program) (names : program.Scope) where
  -- a formula of this sort, whose types are there
  pub record Sorted (g : Formula) (s : Sort) : Type 0 where
    pub is : formula_sort p names g ≡ Some s
    pub there : sort_in_range (shapes p) s ≡ true

  abbrev pub Bare : Formula → Type 0
  Bare g = is_nil g ≡ false

  abbrev pub FineFormula : Formula → Sort → Type 0
  FineFormula g s = Fine Sorted Bare g s

  pub fine_is : (g : Formula) (s : Sort) → formula_sort p names g ≡ Some s → sort_in_range (shapes p) s ≡ true → is_nil g ≡ false
      → FineFormula g s
  fine_is g s e there bare = record { good = record { is = e; there = there }; bare = bare }

  -- a type whose pointers are there is there
  pub pointed_there : (t : TypeId) → sort_in_range (shapes p) (sort.Ptr t) ≡ true → type_exists p.forms t ≡ true
  pointed_there t e = sym (ap (nat_lt t.0) (length-map p.forms (shape_of_form p.forms))) ∙ e

  pub nil_sorted : (t : TypeId) (y : Formula) → Sorted y (sort.Ptr t) → Sorted (NilOf t) (sort.Ptr t)
  nil_sorted t y h = record { is = ap (λ b. sort_if b (sort.Ptr t)) (pointed_there t h.there); there = h.there }

  pub negative_fine : (x : Formula) → Sorted x sort.Int → FineFormula (Negative x) sort.Int
  negative_fine x h = fine_is (Negative x) sort.Int (ap (λ o. sort_if (is_sort sort.Int o) sort.Int) h.is) refl refl

  pub calculated_fine : (o : Arithmetic) (x y : Formula) → Sorted x sort.Int → Sorted y sort.Int → FineFormula (Calculated o x y) sort.Int
  calculated_fine o x y g h =
      fine_is (Calculated o x y) sort.Int
      (ap (λ a. numbers a (formula_sort p names y) sort.Int) g.is ∙ ap (λ b. numbers (Some sort.Int) b sort.Int) h.is) refl refl

  pub negated_fine : (x : Formula) → Sorted x sort.Bool → FineFormula (Negated x) sort.Bool
  negated_fine x h = fine_is (Negated x) sort.Bool (ap (λ o. sort_if (is_sort sort.Bool o) sort.Bool) h.is) refl refl

  pub joined_fine : (o : Connective) (x y : Formula) → Sorted x sort.Bool → Sorted y sort.Bool → FineFormula (Joined o x y) sort.Bool
  joined_fine o x y g h =
      fine_is (Joined o x y) sort.Bool
      (ap (λ a. truth_values a (formula_sort p names y)) g.is ∙ ap (λ b. truth_values (Some sort.Bool) b) h.is) refl refl

  pub implied_fine : (x y : Formula) → Sorted x sort.Bool → Sorted y sort.Bool → FineFormula (Implied x y) sort.Bool
  implied_fine x y g h =
      fine_is (Implied x y) sort.Bool
      (ap (λ a. truth_values a (formula_sort p names y)) g.is ∙ ap (λ b. truth_values (Some sort.Bool) b) h.is) refl refl

  -- ---- comparisons

  compared_fine : (o : Comparison) (x y : Formula) (s : Sort) → (is_nil x && is_nil y) ≡ false → Sorted x s → Sorted y s
      → compared_sort any_sort o (Some s) (Some s) ≡ Some sort.Bool → FineFormula (Compared o x y) sort.Bool
  compared_fine o x y s bare g h e =
      fine_is (Compared o x y) sort.Bool
      (ap (λ b. cond b None (compared_sort any_sort o (formula_sort p names x) (formula_sort p names y))) bare
      ∙ (ap (λ a. compared_sort any_sort o a (formula_sort p names y)) g.is ∙ (ap (λ b. compared_sort any_sort o (Some s) b) h.is ∙ e)))
      refl refl

  same_sorts : (s : Sort) → sort_if (sort_eq s s && any_sort s) sort.Bool ≡ Some sort.Bool
  same_sorts s = ap (λ b. sort_if b sort.Bool) (both_true (sort_eq-refl s) refl)

  pub equal_left : (x y : Formula) (s : Sort) → any_sort s ≡ true → FineFormula x s → Sorted y s
      → FineFormula (Compared comparison.Equal x y) sort.Bool
  equal_left x y s any g h = compared_fine comparison.Equal x y s (ap (λ b. b && is_nil y) g.bare) g.good h (same_sorts s)

  pub equal_right : (x y : Formula) (s : Sort) → any_sort s ≡ true → Sorted x s → FineFormula y s
      → FineFormula (Compared comparison.Equal x y) sort.Bool
  equal_right x y s any g h = compared_fine comparison.Equal x y s (and_false (is_nil x) (is_nil y) h.bare) g h.good (same_sorts s)

  pub unequal_left : (x y : Formula) (s : Sort) → any_sort s ≡ true → FineFormula x s → Sorted y s
      → FineFormula (Compared comparison.NotEqual x y) sort.Bool
  unequal_left x y s any g h = compared_fine comparison.NotEqual x y s (ap (λ b. b && is_nil y) g.bare) g.good h (same_sorts s)

  pub unequal_right : (x y : Formula) (s : Sort) → any_sort s ≡ true → Sorted x s → FineFormula y s
      → FineFormula (Compared comparison.NotEqual x y) sort.Bool
  unequal_right x y s any g h = compared_fine comparison.NotEqual x y s (and_false (is_nil x) (is_nil y) h.bare) g h.good (same_sorts s)

  -- a number is not NIL
  number_bare : (x : Formula) → formula_sort p names x ≡ Some sort.Int → is_nil x ≡ false
  number_bare (Numeral z) e = refl
  number_bare (Boolean b) e = refl
  number_bare (NilOf t) e = absurd (false≢true (ap is_pointer_sort (sort_told (type_exists p.forms t) (sort.Ptr t) sort.Int e)))
    where
      is_pointer_sort : Sort → Bool
      is_pointer_sort (sort.Ptr t) = false
      is_pointer_sort _ = true
  number_bare (Named line x) e = refl
  number_bare (ClassOf line t) e = refl
  number_bare (Element a i) e = refl
  number_bare (FieldOf r f) e = refl
  number_bare (Content line t q) e = refl
  number_bare (Applied f fs) e = refl
  number_bare (Known b fs) e = refl
  number_bare (Negative x) e = refl
  number_bare (Calculated o x y) e = refl
  number_bare (Compared o x y) e = refl
  number_bare (Negated x) e = refl
  number_bare (Joined o x y) e = refl
  number_bare (Implied x y) e = refl

  pub less_fine : (x y : Formula) → Sorted x sort.Int → Sorted y sort.Int → FineFormula (Compared comparison.Less x y) sort.Bool
  less_fine x y g h = compared_fine comparison.Less x y sort.Int (ap (λ b. b && is_nil y) (number_bare x g.is)) g h refl

  pub at_most_fine : (x y : Formula) → Sorted x sort.Int → Sorted y sort.Int → FineFormula (Compared comparison.AtMost x y) sort.Bool
  at_most_fine x y g h = compared_fine comparison.AtMost x y sort.Int (ap (λ b. b && is_nil y) (number_bare x g.is)) g h refl

  pub greater_fine : (x y : Formula) → Sorted x sort.Int → Sorted y sort.Int → FineFormula (Compared comparison.Greater x y) sort.Bool
  greater_fine x y g h = compared_fine comparison.Greater x y sort.Int (ap (λ b. b && is_nil y) (number_bare x g.is)) g h refl

  pub at_least_fine : (x y : Formula) → Sorted x sort.Int → Sorted y sort.Int → FineFormula (Compared comparison.AtLeast x y) sort.Bool
  at_least_fine x y g h = compared_fine comparison.AtLeast x y sort.Int (ap (λ b. b && is_nil y) (number_bare x g.is)) g h refl
