-- Arguments that fit parameters: the terms of what stands for these have their sorts.
use Rattle.std.proofs.Common.{◌≡◌, true, ◌&&◌, List, [], ◌∷◌, Option, Some, None, refl, sym, ap, ◌∙◌}
use Rattle.std.proofs.lemmas.Bool.{false≢true}
use Rattle.spv_logic.proofs.list.Tests.{left_true, right_true}
use Rattle.spv_logic.proofs.Equality.{sort_eq-true}
use Rattle.spv_logic.specs.Terms.{sort_eq}
use Rattle.spv_logic.specs.Sorts.{term_sort}
use Rattle.spv_logic.specs.declared.types.TypeId.{TypeId}
use Rattle.spv_program.specs.Types.{sort_of}
use Rattle.spv_program.specs.Expressions.{Designator, Arguments, no_arguments, by_value, by_place}
use Rattle.spv_program.specs.Programs.{Formal, Routine, Program, shapes}
use Rattle.spv_program.specs.Places.{present}
use Rattle.spv_program.specs.Supplies.{Supply}
use Rattle.spv_program.specs.FormulaTypes.{is_sort}
use Rattle.spv_program.specs.ExpressionTypes.{may_write, stands_for, expression_sort, designator_type, arguments_fit}
use Rattle.spv_program.specs.ExpressionTerms.{valued, placed, argued}
use Rattle.spv_program.proofs.SortFacts.{is_sort-true}
use Rattle.spv_program.proofs.ExpressionSorting.{value_sorted, place_sorted}
use Rattle.spv_flow_parts.specs.calls.Arguments.{FitFormals}

module _ (p : Program) (here : Option Routine) where
  place_fits : (n : Supply) (d : Designator) (t : TypeId) (o : Option TypeId) → designator_type p here d ≡ o → stands_for p t o ≡ true
      → term_sort (shapes p) p.symbols (present (placed p here n d).target) ≡ Some (sort_of p.forms t)
  place_fits n d t None is h = absurd (false≢true h)
  place_fits n d t (Some u) is h =
      let same = sort_eq-true (sort_of p.forms t) (sort_of p.forms u) (left_true (sort_eq (sort_of p.forms t) (sort_of p.forms u)) _ h) in
      place_sorted p here n d u is ∙ ap Some (sym same)

  pub arguments_sorted : (n : Supply) (formals : List Formal) (given : Arguments) → arguments_fit p here formals given ≡ true → FitFormals p formals (argued p here n given).arguments
  arguments_sorted n [] no_arguments h = tt
  arguments_sorted n [] (by_value e others) h = absurd (false≢true h)
  arguments_sorted n [] (by_place d others) h = absurd (false≢true h)
  arguments_sorted n (f ∷ formals) no_arguments h = absurd (false≢true h)
  arguments_sorted n (f ∷ formals) (by_value e others) h =
      let parts = right_true _ (is_sort (sort_of p.forms f.of) (expression_sort p here e) && arguments_fit p here formals others) h in (
        value_sorted p here n e (sort_of p.forms f.of) (is_sort-true (sort_of p.forms f.of) (expression_sort p here e) (left_true _ (arguments_fit p here formals others) parts)),
        arguments_sorted (valued p here n e).supply formals others (right_true _ (arguments_fit p here formals others) parts),
      )
  arguments_sorted n (f ∷ formals) (by_place d others) h =
      let parts = right_true (may_write here d) (stands_for p f.of (designator_type p here d) && arguments_fit p here formals others) (right_true f.by_place _ h) in (
        place_fits n d f.of (designator_type p here d) refl (left_true _ (arguments_fit p here formals others) parts),
        arguments_sorted (placed p here n d).supply formals others (right_true _ (arguments_fit p here formals others) parts),
      )
