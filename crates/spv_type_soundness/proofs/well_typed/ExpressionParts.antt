-- Operators of expressions keep their sorts.
use Rattle.std.proofs.Common.{◌≡◌, Bool, true, false, cond, ◌&&◌, refl, sym, ap, ◌∙◌}
use Rattle.std.specs.Prelude.{Option, Some, None, nat_lt}
use Rattle.std.specs.Cmp.Derive.{both_true}
use Rattle.std.proofs.lemmas.Bool.{false≢true}
use Rattle.std.proofs.lemmas.List.{length-map}
use Rattle.spv_logic.proofs.list.Tests.{and_false}
use Rattle.spv_logic.specs.declared.types.TypeId.{TypeId}
use Rattle.spv_logic.specs.declared.types.Sort.{Sort}
use Rattle.spv_logic.specs.declared.types.Sort.TheVariants as sort
use Rattle.spv_logic.specs.Terms.{sort_eq}
use Rattle.spv_logic.specs.Sorts.{sort_in_range}
use Rattle.spv_logic.proofs.Equality.{sort_eq-refl}
use Rattle.spv_program.specs.declared.operators.Arithmetic.{Arithmetic}
use Rattle.spv_program.specs.declared.operators.Comparison.{Comparison}
use Rattle.spv_program.specs.declared.operators.Comparison.TheVariants as comparison
use Rattle.spv_program.specs.declared.operators.Connective.{Connective}
use Rattle.spv_program.specs.Types.{shape_of_form, type_exists}
use Rattle.spv_program.specs.Programs.{Routine, Program, shapes}
use Rattle.spv_program.specs.Expressions.{Expression, Numeral, Boolean, NilOf, Read, Result, Through, Negative, Calculated, Compared, Negated, Joined}
use Rattle.spv_program.specs.FormulaTypes.{is_sort, sort_if, numbers, truth_values, compared_sort}
use Rattle.spv_program.specs.ExpressionTypes.{comparable, is_nil, expression_sort}
use Rattle.spv_program.proofs.SortFacts.{sort_told}
use Rattle.spv_type_soundness.proofs.well_typed.Operators.{Fine}

module _ (p : Program) (here : Option Routine) where
  -- an expression of this sort, whose types are there
  pub record Typed (e : Expression) (s : Sort) : Type 0 where
    pub is : expression_sort p here e ≡ Some s
    pub there : sort_in_range (shapes p) s ≡ true

  abbrev pub Bare : Expression → Type 0
  Bare e = is_nil e ≡ false

  abbrev pub FineExpression : Expression → Sort → Type 0
  FineExpression e s = Fine Typed Bare e s

  pub fine_is : (e : Expression) (s : Sort) → expression_sort p here e ≡ Some s → sort_in_range (shapes p) s ≡ true → is_nil e ≡ false
      → FineExpression e s
  fine_is e s h there bare = record { good = record { is = h; there = there }; bare = bare }

  -- a type whose pointers are there is there
  pub pointed_there : (t : TypeId) → sort_in_range (shapes p) (sort.Ptr t) ≡ true → type_exists p.forms t ≡ true
  pointed_there t e = sym (ap (nat_lt t.0) (length-map p.forms (shape_of_form p.forms))) ∙ e

  pub nil_typed : (t : TypeId) (y : Expression) → Typed y (sort.Ptr t) → Typed (NilOf t) (sort.Ptr t)
  nil_typed t y h = record { is = ap (λ b. sort_if b (sort.Ptr t)) (pointed_there t h.there); there = h.there }

  pub negative_fine : (x : Expression) → Typed x sort.Int → FineExpression (Negative x) sort.Int
  negative_fine x h = fine_is (Negative x) sort.Int (ap (λ o. sort_if (is_sort sort.Int o) sort.Int) h.is) refl refl

  pub calculated_fine : (o : Arithmetic) (x y : Expression) → Typed x sort.Int → Typed y sort.Int
      → FineExpression (Calculated o x y) sort.Int
  calculated_fine o x y g h =
      fine_is (Calculated o x y) sort.Int
      (ap (λ a. numbers a (expression_sort p here y) sort.Int) g.is ∙ ap (λ b. numbers (Some sort.Int) b sort.Int) h.is) refl refl

  pub negated_fine : (x : Expression) → Typed x sort.Bool → FineExpression (Negated x) sort.Bool
  negated_fine x h = fine_is (Negated x) sort.Bool (ap (λ o. sort_if (is_sort sort.Bool o) sort.Bool) h.is) refl refl

  pub joined_fine : (o : Connective) (x y : Expression) → Typed x sort.Bool → Typed y sort.Bool → FineExpression (Joined o x y) sort.Bool
  joined_fine o x y g h =
      fine_is (Joined o x y) sort.Bool
      (ap (λ a. truth_values a (expression_sort p here y)) g.is ∙ ap (λ b. truth_values (Some sort.Bool) b) h.is) refl refl

  -- ---- comparisons

  compared_fine : (o : Comparison) (x y : Expression) (s : Sort) → (is_nil x && is_nil y) ≡ false → Typed x s → Typed y s
      → compared_sort comparable o (Some s) (Some s) ≡ Some sort.Bool → FineExpression (Compared o x y) sort.Bool
  compared_fine o x y s bare g h e =
      fine_is (Compared o x y) sort.Bool
      (ap (λ b. cond b None (compared_sort comparable o (expression_sort p here x) (expression_sort p here y))) bare
      ∙ (ap (λ a. compared_sort comparable o a (expression_sort p here y)) g.is
      ∙ (ap (λ b. compared_sort comparable o (Some s) b) h.is ∙ e)))
      refl refl

  same_sorts : (s : Sort) → comparable s ≡ true → sort_if (sort_eq s s && comparable s) sort.Bool ≡ Some sort.Bool
  same_sorts s c = ap (λ b. sort_if b sort.Bool) (both_true (sort_eq-refl s) c)

  pub equal_left : (x y : Expression) (s : Sort) → comparable s ≡ true → FineExpression x s → Typed y s
      → FineExpression (Compared comparison.Equal x y) sort.Bool
  equal_left x y s c g h = compared_fine comparison.Equal x y s (ap (λ b. b && is_nil y) g.bare) g.good h (same_sorts s c)

  pub equal_right : (x y : Expression) (s : Sort) → comparable s ≡ true → Typed x s → FineExpression y s
      → FineExpression (Compared comparison.Equal x y) sort.Bool
  equal_right x y s c g h = compared_fine comparison.Equal x y s (and_false (is_nil x) (is_nil y) h.bare) g h.good (same_sorts s c)

  pub unequal_left : (x y : Expression) (s : Sort) → comparable s ≡ true → FineExpression x s → Typed y s
      → FineExpression (Compared comparison.NotEqual x y) sort.Bool
  unequal_left x y s c g h = compared_fine comparison.NotEqual x y s (ap (λ b. b && is_nil y) g.bare) g.good h (same_sorts s c)

  pub unequal_right : (x y : Expression) (s : Sort) → comparable s ≡ true → Typed x s → FineExpression y s
      → FineExpression (Compared comparison.NotEqual x y) sort.Bool
  unequal_right x y s c g h = compared_fine comparison.NotEqual x y s (and_false (is_nil x) (is_nil y) h.bare) g h.good (same_sorts s c)

  -- a number is not NIL
  number_bare : (x : Expression) → expression_sort p here x ≡ Some sort.Int → is_nil x ≡ false
  number_bare (Numeral z) e = refl
  number_bare (Boolean b) e = refl
  number_bare (NilOf t) e = absurd (false≢true (ap is_no_pointer (sort_told (type_exists p.forms t) (sort.Ptr t) sort.Int e)))
    where
      is_no_pointer : Sort → Bool
      is_no_pointer (sort.Ptr t) = false
      is_no_pointer _ = true
  number_bare (Read d) e = refl
  number_bare (Result c) e = refl
  number_bare (Through c line t others) e = refl
  number_bare (Negative x) e = refl
  number_bare (Calculated o x y) e = refl
  number_bare (Compared o x y) e = refl
  number_bare (Negated x) e = refl
  number_bare (Joined o x y) e = refl

  pub less_fine : (x y : Expression) → Typed x sort.Int → Typed y sort.Int → FineExpression (Compared comparison.Less x y) sort.Bool
  less_fine x y g h = compared_fine comparison.Less x y sort.Int (ap (λ b. b && is_nil y) (number_bare x g.is)) g h refl

  pub at_most_fine : (x y : Expression) → Typed x sort.Int → Typed y sort.Int → FineExpression (Compared comparison.AtMost x y) sort.Bool
  at_most_fine x y g h = compared_fine comparison.AtMost x y sort.Int (ap (λ b. b && is_nil y) (number_bare x g.is)) g h refl

  pub greater_fine : (x y : Expression) → Typed x sort.Int → Typed y sort.Int → FineExpression (Compared comparison.Greater x y) sort.Bool
  greater_fine x y g h = compared_fine comparison.Greater x y sort.Int (ap (λ b. b && is_nil y) (number_bare x g.is)) g h refl

  pub at_least_fine : (x y : Expression) → Typed x sort.Int → Typed y sort.Int → FineExpression (Compared comparison.AtLeast x y) sort.Bool
  at_least_fine x y g h = compared_fine comparison.AtLeast x y sort.Int (ap (λ b. b && is_nil y) (number_bare x g.is)) g h refl
