-- The sorts of terms by their parts, and what a sort that is there tells.
use Rattle.std.proofs.Common.{◌≡◌, Bool, true, false, cond, ◌&&◌, List, [], ◌∷◌, ℕ, zero, suc, map, refl, ap, ◌∙◌, Option, Some, None}
use Rattle.std.specs.Option.{option_and_then}
use Rattle.std.specs.Cmp.Derive.{both_true}
use Rattle.std.proofs.lemmas.Bool.{false≢true}
use Rattle.spv_logic.proofs.list.Tests.{left_true, right_true}
use Rattle.spv_logic.specs.declared.types.TypeId.{TypeId}
use Rattle.spv_logic.specs.declared.types.Sort.{Sort}
use Rattle.spv_logic.specs.declared.types.Sort.TheVariants as sort
use Rattle.spv_logic.specs.declared.types.Shape.{Shape}
use Rattle.spv_logic.specs.declared.types.Decl.{Decl}
use Rattle.spv_logic.specs.declared.operators.Head.{Head}
use Rattle.spv_logic.specs.declared.operators.Head.TheVariants as head
use Rattle.spv_logic.specs.Terms.{Term, sort_eq}
use Rattle.spv_logic.specs.Shapes.{shape_at, sort_of_shape, sort_of_type}
use Rattle.spv_logic.specs.Sorts.{with_sorts, sort_before, result_sort, term_sort, takes}
use Rattle.spv_logic.proofs.Equality.{sort_eq-true, sort_eq-refl}
use Rattle.spv_program.specs.declared.types.TypeForm.{TypeForm}
use Rattle.spv_program.specs.declared.types.TypeForm.TheVariants.{Integer, Boolean, Range, Pointer, Array, Record}
use Rattle.spv_program.specs.declared.operators.Arithmetic.{Arithmetic}
use Rattle.spv_program.specs.declared.operators.Arithmetic.TheVariants as arithmetic
use Rattle.spv_program.specs.declared.operators.Comparison.{Comparison}
use Rattle.spv_program.specs.declared.operators.Comparison.TheVariants as comparison
use Rattle.spv_program.specs.declared.operators.Connective.{Connective}
use Rattle.spv_program.specs.declared.operators.Connective.TheVariants as connective
use Rattle.spv_program.specs.Types.{form_at, sort_of, sort_of_form, shape_of_form, shapes_of}
use Rattle.spv_program.specs.Terms.{unary, binary, head_of_arithmetic, comparing, head_of_connective}
use Rattle.spv_program.specs.FormulaTypes.{is_sort, sort_if, two_sorts, numbers, compared_sort}

-- ---- terms by their parts

module _ (shapes : List Shape) (decls : List Decl) where
  pub sort_one : (h : Head) (x : Term) (s r : Sort) → term_sort shapes decls x ≡ Some s → result_sort shapes decls h (s ∷ []) ≡ Some r → term_sort shapes decls (unary h x) ≡ Some r
  sort_one h x s r e given = ap (λ o. with_sorts (sort_before o (Some [])) (result_sort shapes decls h)) e ∙ given

  pub sort_two : (h : Head) (x y : Term) (s t r : Sort) → term_sort shapes decls x ≡ Some s → term_sort shapes decls y ≡ Some t → result_sort shapes decls h (s ∷ t ∷ []) ≡ Some r → term_sort shapes decls (binary h x y) ≡ Some r
  sort_two h x y s t r e f given =
      ap (λ o. with_sorts (sort_before o (sort_before (term_sort shapes decls y) (Some []))) (result_sort shapes decls h)) e
      ∙ (ap (λ o. with_sorts (sort_before (Some s) (sort_before o (Some []))) (result_sort shapes decls h)) f ∙ given)

  pub arithmetic_sort : (o : Arithmetic) (x y : Term) → term_sort shapes decls x ≡ Some sort.Int → term_sort shapes decls y ≡ Some sort.Int → term_sort shapes decls (binary (head_of_arithmetic o) x y) ≡ Some sort.Int
  arithmetic_sort arithmetic.Plus x y e f = sort_two head.Add x y sort.Int sort.Int sort.Int e f refl
  arithmetic_sort arithmetic.Minus x y e f = sort_two head.Sub x y sort.Int sort.Int sort.Int e f refl
  arithmetic_sort arithmetic.Times x y e f = sort_two head.Mul x y sort.Int sort.Int sort.Int e f refl
  arithmetic_sort arithmetic.Div x y e f = sort_two head.Div x y sort.Int sort.Int sort.Int e f refl
  arithmetic_sort arithmetic.Mod x y e f = sort_two head.Mod x y sort.Int sort.Int sort.Int e f refl

  pub connective_sort : (o : Connective) (x y : Term) → term_sort shapes decls x ≡ Some sort.Bool → term_sort shapes decls y ≡ Some sort.Bool → term_sort shapes decls (binary (head_of_connective o) x y) ≡ Some sort.Bool
  connective_sort connective.And x y e f = sort_two head.And x y sort.Bool sort.Bool sort.Bool e f refl
  connective_sort connective.Or x y e f = sort_two head.Or x y sort.Bool sort.Bool sort.Bool e f refl

  pub equation_sort : (x y : Term) (s : Sort) → term_sort shapes decls x ≡ Some s → term_sort shapes decls y ≡ Some s → term_sort shapes decls (binary head.Eq x y) ≡ Some sort.Bool
  equation_sort x y s e f =
      sort_two head.Eq x y s s sort.Bool e f (ap (λ b. cond b (Some sort.Bool) None) (both_true (sort_eq-refl s) (both_true (sort_eq-refl s) refl)))

-- ---- what a sort that is there tells

pub nothing_there : {X : Type 0} {x : X} → None ≡ Some x → ⊥
nothing_there e = false≢true (ap is_there e)
  where
    is_there : {X : Type 0} → Option X → Bool
    is_there None = false
    is_there (Some x) = true

pub some_is : {X : Type 0} {x y : X} → Some x ≡ Some y → x ≡ y
some_is {X} {x} {y} e = cc

pub is_sort-true : (wanted : Sort) (o : Option Sort) → is_sort wanted o ≡ true → o ≡ Some wanted
is_sort-true wanted None h = absurd (false≢true h)
is_sort-true wanted (Some s) h = ap Some (sort_eq-true s wanted h)

pub test_passes : (b : Bool) (s r : Sort) → sort_if b s ≡ Some r → b ≡ true
test_passes true s r e = refl
test_passes false s r e = absurd (nothing_there e)

pub sort_told : (b : Bool) (s r : Sort) → sort_if b s ≡ Some r → s ≡ r
sort_told true s r e = some_is e
sort_told false s r e = absurd (nothing_there e)

-- two sorts that are there, and what they give
pub record TwoSorts (a b : Option Sort) (go : Sort → Sort → Option Sort) (r : Sort) : Type 0 where
  pub left : Sort
  pub right : Sort
  pub left_is : a ≡ Some left
  pub right_is : b ≡ Some right
  pub gives : go left right ≡ Some r

pub two_there : (a b : Option Sort) (go : Sort → Sort → Option Sort) (r : Sort) → two_sorts a b go ≡ Some r → TwoSorts a b go r
two_there None None go r e = absurd (nothing_there e)
two_there None (Some t) go r e = absurd (nothing_there e)
two_there (Some s) None go r e = absurd (nothing_there e)
two_there (Some s) (Some t) go r e = record { left = s; right = t; left_is = refl; right_is = refl; gives = e }

-- what is there behind something that is there
pub record Behind {X Y : Type 0} (f : X → Option Y) (o : Option X) (y : Y) : Type 0 where
  pub item : X
  pub is : o ≡ Some item
  pub gives : f item ≡ Some y

pub behind : {X Y : Type 0} (f : X → Option Y) (o : Option X) (y : Y) → option_and_then f o ≡ Some y → Behind f o y
behind f None y e = absurd (nothing_there e)
behind f (Some x) y e = record { item = x; is = refl; gives = e }

-- where a choice is there only if a test passes
pub passed : {X : Type 0} (b : Bool) (o : Option X) (x : X) → cond b o None ≡ Some x → b ≡ true
passed true o x e = refl
passed false o x e = absurd (nothing_there e)

pub chosen : {X : Type 0} (b : Bool) (o : Option X) (x : X) → cond b o None ≡ Some x → o ≡ Some x
chosen true o x e = e
chosen false o x e = absurd (nothing_there e)

pub failed : {X : Type 0} (b : Bool) (o : Option X) (x : X) → cond b None o ≡ Some x → o ≡ Some x
failed true o x e = absurd (nothing_there e)
failed false o x e = e

-- ---- comparisons

compared_numbers : (shapes : List Shape) (decls : List Decl) (h : Head) (x y : Term) (a b : Option Sort) (r : Sort) → ((s : Sort) → a ≡ Some s → term_sort shapes decls x ≡ Some s) → ((s : Sort) → b ≡ Some s → term_sort shapes decls y ≡ Some s) → result_sort shapes decls h (sort.Int ∷ sort.Int ∷ []) ≡ Some sort.Bool → numbers a b sort.Bool ≡ Some r → term_sort shapes decls (binary h x y) ≡ Some r
compared_numbers shapes decls h x y a b r e f takes given =
    let both = test_passes (is_sort sort.Int a && is_sort sort.Int b) sort.Bool r given in
    let left = is_sort-true sort.Int a (left_true (is_sort sort.Int a) (is_sort sort.Int b) both) in
    let right = is_sort-true sort.Int b (right_true (is_sort sort.Int a) (is_sort sort.Int b) both) in
    sort_two shapes decls h x y sort.Int sort.Int r (e sort.Int left) (f sort.Int right) (takes ∙ ap Some (sort_told (is_sort sort.Int a && is_sort sort.Int b) sort.Bool r given))

record Equated (shapes : List Shape) (decls : List Decl) (x y : Term) (r : Sort) : Type 0 where
  same : term_sort shapes decls (binary head.Eq x y) ≡ Some sort.Bool
  is_truth : sort.Bool ≡ r

equated : (shapes : List Shape) (decls : List Decl) (comparable : Sort → Bool) (x y : Term) (a b : Option Sort) (r : Sort) → ((s : Sort) → a ≡ Some s → term_sort shapes decls x ≡ Some s) → ((s : Sort) → b ≡ Some s → term_sort shapes decls y ≡ Some s) → two_sorts a b (λ s t. sort_if (sort_eq t s && comparable s) sort.Bool) ≡ Some r → Equated shapes decls x y r
equated shapes decls comparable x y a b r e f given =
    let two = two_there a b (λ s t. sort_if (sort_eq t s && comparable s) sort.Bool) r given in
    let passes = test_passes (sort_eq two.right two.left && comparable two.left) sort.Bool r two.gives in
    let same = sort_eq-true two.right two.left (left_true (sort_eq two.right two.left) (comparable two.left) passes) in
    record {
      same = equation_sort shapes decls x y two.left (e two.left two.left_is) (f two.left (two.right_is ∙ ap Some same));
      is_truth = sort_told (sort_eq two.right two.left && comparable two.left) sort.Bool r two.gives;
    }

pub comparison_sort : (shapes : List Shape) (decls : List Decl) (comparable : Sort → Bool) (o : Comparison) (x y : Term) (a b : Option Sort) (r : Sort) → ((s : Sort) → a ≡ Some s → term_sort shapes decls x ≡ Some s) → ((s : Sort) → b ≡ Some s → term_sort shapes decls y ≡ Some s) → compared_sort comparable o a b ≡ Some r → term_sort shapes decls (comparing o x y) ≡ Some r
comparison_sort shapes decls comparable comparison.Equal x y a b r e f given =
    let q = equated shapes decls comparable x y a b r e f given in q.same ∙ ap Some q.is_truth
comparison_sort shapes decls comparable comparison.NotEqual x y a b r e f given =
    let q = equated shapes decls comparable x y a b r e f given in
    sort_one shapes decls head.Not (binary head.Eq x y) sort.Bool r q.same (ap Some q.is_truth)
comparison_sort shapes decls comparable comparison.Less x y a b r e f given = compared_numbers shapes decls head.Lt x y a b r e f refl given
comparison_sort shapes decls comparable comparison.AtMost x y a b r e f given = compared_numbers shapes decls head.Le x y a b r e f refl given
comparison_sort shapes decls comparable comparison.Greater x y a b r e f given = turned head.Lt refl
  where
    turned : (h : Head) → result_sort shapes decls h (sort.Int ∷ sort.Int ∷ []) ≡ Some sort.Bool → term_sort shapes decls (binary h y x) ≡ Some r
    turned h takes =
        let both = test_passes (is_sort sort.Int a && is_sort sort.Int b) sort.Bool r given in
        sort_two shapes decls h y x sort.Int sort.Int r (f sort.Int (is_sort-true sort.Int b (right_true (is_sort sort.Int a) (is_sort sort.Int b) both)))
        (e sort.Int (is_sort-true sort.Int a (left_true (is_sort sort.Int a) (is_sort sort.Int b) both)))
        (takes ∙ ap Some (sort_told (is_sort sort.Int a && is_sort sort.Int b) sort.Bool r given))
comparison_sort shapes decls comparable comparison.AtLeast x y a b r e f given = turned head.Le refl
  where
    turned : (h : Head) → result_sort shapes decls h (sort.Int ∷ sort.Int ∷ []) ≡ Some sort.Bool → term_sort shapes decls (binary h y x) ≡ Some r
    turned h takes =
        let both = test_passes (is_sort sort.Int a && is_sort sort.Int b) sort.Bool r given in
        sort_two shapes decls h y x sort.Int sort.Int r (f sort.Int (is_sort-true sort.Int b (right_true (is_sort sort.Int a) (is_sort sort.Int b) both)))
        (e sort.Int (is_sort-true sort.Int a (left_true (is_sort sort.Int a) (is_sort sort.Int b) both)))
        (takes ∙ ap Some (sort_told (is_sort sort.Int a && is_sort sort.Int b) sort.Bool r given))

-- ---- types and shapes

shape_mapped : (forms all : List TypeForm) (t : ℕ) → shape_at (map (shape_of_form all) forms) t ≡ shape_of_form all (form_at forms t)
shape_mapped [] all t = refl
shape_mapped (f ∷ forms) all zero = refl
shape_mapped (f ∷ forms) all (suc t) = shape_mapped forms all t

-- the shape of a type is that of its form
pub shape_is : (forms : List TypeForm) (t : ℕ) → shape_at (shapes_of forms) t ≡ shape_of_form forms (form_at forms t)
shape_is forms t = shape_mapped forms forms t

-- the sort of a type's values, by its shape
pub sort_is : (forms : List TypeForm) (t : TypeId) → sort_of_type (shapes_of forms) t ≡ sort_of forms t
sort_is forms t = by_form (form_at forms t.0) (shape_is forms t.0)
  where
    by_form : (f : TypeForm) → shape_at (shapes_of forms) t.0 ≡ shape_of_form forms f → sort_of_shape (shape_at (shapes_of forms) t.0) t ≡ sort_of_form f t
    by_form Integer e = ap (λ s. sort_of_shape s t) e
    by_form Boolean e = ap (λ s. sort_of_shape s t) e
    by_form (Range low high) e = ap (λ s. sort_of_shape s t) e
    by_form (Pointer u) e = ap (λ s. sort_of_shape s t) e
    by_form (Array i u) e = ap (λ s. sort_of_shape s t) e
    by_form (Record fields) e = ap (λ s. sort_of_shape s t) e
