-- Which formulas are well typed: the sort of each, from those of its parts.
use Rattle.std.specs.Prelude.{Bool, true, false, ◌&&◌, List, [], ◌∷◌, Option, Some, None, if◌then◌else◌}
use Rattle.std.specs.Option.{option_and_then}
use Rattle.spv_logic.specs.declared.types.Sort.{Sort}
use Rattle.spv_logic.specs.declared.types.Sort.TheVariants as sort
use Rattle.spv_logic.specs.declared.operators.Head.{Head}
use Rattle.spv_logic.specs.declared.operators.Head.TheVariants as head
use Rattle.spv_logic.specs.Terms.{sort_eq}
use Rattle.spv_logic.specs.Shapes.{element_sort, fields_of, field_sort_of}
use Rattle.spv_logic.specs.Sorts.{declared, takes_declared, result_sort}
use Rattle.spv_program.specs.declared.operators.BuiltIn.{BuiltIn}
use Rattle.spv_program.specs.declared.operators.BuiltIn.TheVariants as known
use Rattle.spv_program.specs.declared.operators.Comparison.{Comparison}
use Rattle.spv_program.specs.declared.operators.Comparison.TheVariants.{Equal, NotEqual}
use Rattle.spv_program.specs.Lists.{found}
use Rattle.spv_program.specs.Types.{sort_of, type_exists}
use Rattle.spv_program.specs.Formulas.{Formula, Formulas, Annotation, Numeral, Boolean, NilOf, Named, ClassOf, Element, FieldOf, Content, Applied, Known, Negative, Calculated, Compared, Negated, Joined, Implied, no_formulas, formulas}
use Rattle.spv_program.specs.Programs.{Program, shapes}
use Rattle.spv_program.specs.Scopes.{Scope}

-- ---- sorts that are there and are these

abbrev pub is_sort : Sort → Option Sort → Bool
is_sort wanted None = false
is_sort wanted (Some s) = sort_eq s wanted

abbrev pub same_sort : Option Sort → Option Sort → Bool
same_sort None other = false
same_sort (Some s) other = is_sort s other

-- a sort, where a test passes
abbrev pub sort_if : Bool → Sort → Option Sort
sort_if test s = if test then Some s else None

-- two sorts, where both are there
abbrev pub two_sorts : Option Sort → Option Sort → (Sort → Sort → Option Sort) → Option Sort
two_sorts (Some s) (Some t) go = go s t
two_sorts _ _ go = None

-- sorts in order, where all are there
abbrev pub sorts_from : Option Sort → Option (List Sort) → Option (List Sort)
sorts_from (Some s) (Some sorts) = Some (s ∷ sorts)
sorts_from _ _ = None

abbrev pub numbers : Option Sort → Option Sort → Sort → Option Sort
numbers a b result = sort_if (is_sort sort.Int a && is_sort sort.Int b) result

abbrev pub truth_values : Option Sort → Option Sort → Option Sort
truth_values a b = sort_if (is_sort sort.Bool a && is_sort sort.Bool b) sort.Bool

-- `=` and `<>` compare two values of one sort that may be compared, the others two numbers
abbrev pub compared_sort : (Sort → Bool) → Comparison → Option Sort → Option Sort → Option Sort
compared_sort comparable Equal a b = two_sorts a b (λ s t. sort_if (sort_eq t s && comparable s) sort.Bool)
compared_sort comparable NotEqual a b = two_sorts a b (λ s t. sort_if (sort_eq t s && comparable s) sort.Bool)
compared_sort comparable _ a b = numbers a b sort.Bool

-- ---- formulas

-- the operator of a function that is known from the start
abbrev pub head_of_known : BuiltIn → Head
head_of_known known.Select = head.Select
head_of_known known.Store = head.Store
head_of_known (known.Put f) = head.Put f
head_of_known known.Cell = head.Cell
head_of_known known.SetCell = head.SetCell
head_of_known known.Extend = head.Extend
head_of_known known.PointerTo = head.PointerTo
head_of_known known.Car = head.Car
head_of_known known.Cdr = head.Cdr
head_of_known known.Cons = head.Cons
head_of_known known.Atom = head.Atom

abbrev pub is_nil : Formula → Bool
is_nil (NilOf t) = true
is_nil _ = false

-- a formula may compare values of any sort
abbrev pub any_sort : Sort → Bool
any_sort s = true

abbrev mutual
  -- the sort of a formula whose names have these sorts; none where it is not well typed
  pub formula_sort : Program → Scope → Formula → Option Sort
  formula_sort p names (Numeral z) = Some sort.Int
  formula_sort p names (Boolean b) = Some sort.Bool
  formula_sort p names (NilOf t) = sort_if (type_exists p.forms t) (sort.Ptr t)
  formula_sort p names (Named line x) = found names x
  formula_sort p names (ClassOf line t) = sort_if (type_exists p.forms t) (sort.Class t)
  formula_sort p names (Element a i) =
      two_sorts (formula_sort p names a) (formula_sort p names i) (λ s t. if sort_eq t sort.Int then element_sort (shapes p) s else None)
  formula_sort p names (FieldOf r f) = option_and_then (λ s. field_sort_of (fields_of (shapes p) s) f.0) (formula_sort p names r)
  formula_sort p names (Content line t q) =
      sort_if (type_exists p.forms t && is_sort (sort.Ptr t) (formula_sort p names q)) (sort_of p.forms t)
  formula_sort p names (Applied f fs) = option_and_then (takes_declared (declared p.symbols f.0)) (formula_sorts p names fs)
  formula_sort p names (Known b fs) = option_and_then (result_sort (shapes p) p.symbols (head_of_known b)) (formula_sorts p names fs)
  formula_sort p names (Negative f) = sort_if (is_sort sort.Int (formula_sort p names f)) sort.Int
  formula_sort p names (Calculated o f g) = numbers (formula_sort p names f) (formula_sort p names g) sort.Int
  formula_sort p names (Compared o f g) =
      if is_nil f && is_nil g then None else compared_sort any_sort o (formula_sort p names f) (formula_sort p names g)
  formula_sort p names (Negated f) = sort_if (is_sort sort.Bool (formula_sort p names f)) sort.Bool
  formula_sort p names (Joined o f g) = truth_values (formula_sort p names f) (formula_sort p names g)
  formula_sort p names (Implied f g) = truth_values (formula_sort p names f) (formula_sort p names g)

  pub formula_sorts : Program → Scope → Formulas → Option (List Sort)
  formula_sorts p names no_formulas = Some []
  formula_sorts p names (formulas f fs) = sorts_from (formula_sort p names f) (formula_sorts p names fs)

-- annotations are truth values
abbrev pub annotation_ok : Program → Scope → Option Annotation → Bool
annotation_ok p names None = true
annotation_ok p names (Some a) = is_sort sort.Bool (formula_sort p names a.formula)
