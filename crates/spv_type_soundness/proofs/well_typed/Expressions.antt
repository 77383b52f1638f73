-- Expressions and places that the walk answers are well typed.
use Rattle.std.proofs.Common.{◌≡◌, ℕ, true, false, refl, subst}
use Rattle.std.specs.Prelude.{List, [], ◌∷◌, map, Option, Some, None, Ok}
use Rattle.spv_logic.specs.declared.types.Sort.{Sort}
use Rattle.spv_logic.specs.declared.types.Sort.TheVariants as sort
use Rattle.spv_logic.specs.Sorts.{sort_in_range}
use Rattle.spv_logic.specs.declared.names.names.Symbol.{Symbol}
use Rattle.spv_tree.specs.declared.syntax.names.Name.{Name}
use Rattle.spv_tree.specs.syntax.Formulas as tree
use Rattle.spv_program.specs.Types.{sort_of}
use Rattle.spv_program.specs.Expressions.{Expression, Designator, Call, NilOf}
use Rattle.spv_program.specs.ExpressionTypes.{expression_sort, callee}
use Rattle.spv_program.specs.Programs.{Routine, Program, shapes}
use Rattle.spv_typing.specs.Outcomes.{wrong}
use Rattle.spv_typing.specs.Known.{Meaning, OfRoutine, Heading, Scope, meaning, function}
use Rattle.spv_typing.specs.OperatorWalk.{Operand, Of, Argument, settled, argument, formula_line, formula_walk, written_place}
use Rattle.spv_typing.specs.ExpressionWalk.{Reached, expression_at, expression_forms, class_at, operand, expression_of, written, designator_at, call_of}
use Rattle.spv_type_soundness.specs.well_typed.Expressions.{Belongs, ExpressionsAreWellTyped, PlacesAreWellTyped}
use Rattle.spv_type_soundness.proofs.well_typed.Outcomes.{no_fault, went}
use Rattle.spv_type_soundness.proofs.well_typed.Operators.{GoodOperand, of, GoodArguments, no_more, one_more, Selects, Keeps, argument_good, formula_good, designator_good, place_good}
use Rattle.spv_type_soundness.proofs.well_typed.ExpressionParts.{Typed, Bare, fine_is, nil_typed, negative_fine, calculated_fine, negated_fine, joined_fine, equal_left, equal_right, unequal_left, unequal_right, less_fine, at_most_fine, greater_fine, at_least_fine}
use Rattle.spv_type_soundness.proofs.well_typed.Reached.{ReadOk, WrittenOk, finish_fine, IsPlaceOf, place_fine}
use Rattle.spv_type_soundness.proofs.well_typed.Calls.{settled_here, indexed_ok, field_ok, content_ok, name_read_ok, name_written_ok, call_ok, applied_by}

module _ (s : Scope) (p : Program) (here : Option Routine) (b : Belongs s p here) where
  abbrev ReadHere : Reached → Type 0
  ReadHere r = ReadOk p here b.forms_right b.first r

  abbrev WrittenHere : Reached → Type 0
  WrittenHere r = WrittenOk p here b.forms_right b.first r

  reads : Selects (expression_forms s) (Typed p here) (Bare p here) WrittenHere ReadHere
  reads = record {
    indexed = λ line r z given h g e. indexed_ok s p here b false line r z given h g e;
    field_of = λ line r z x h e. field_ok s p here b false line r z x h e;
    content_of = λ line at r z h e. content_ok s p here b false line at r z h e;
  }

  writes : Selects (expression_forms s) (Typed p here) (Bare p here) WrittenHere WrittenHere
  writes = record {
    indexed = λ line r z given h g e. indexed_ok s p here b true line r z given h g e;
    field_of = λ line r z x h e. field_ok s p here b true line r z x h e;
    content_of = λ line at r z h e. content_ok s p here b true line at r z h e;
  }

  class_good : (line : ℕ) (x : Name) (m : Option Meaning) (o : Operand Expression) → class_at s x line m ≡ Ok o
      → GoodOperand (Typed p here) (Bare p here) o
  class_good line x None o e = absurd (no_fault e)
  class_good line x (Some m) o e = absurd (no_fault e)

  finished : (r : Reached) → ReadHere r
      → GoodOperand (Typed p here) (Bare p here) (Of (expression_at r) (sort_of s.known.program.forms r.type))
  finished r h =
      subst (λ f. GoodOperand (Typed p here) (Bare p here) (Of (expression_at r) (sort_of f r.type))) b.forms
      (of (expression_at r) (sort_of p.forms r.type) (finish_fine p here b.forms_right b.first r h))

  keeps : Keeps (expression_forms s) (Typed p here) (Bare p here) ReadHere WrittenHere
  keeps = record {
    numeral = λ z. fine_is p here _ sort.Int refl refl refl;
    boolean = λ c. fine_is p here _ sort.Bool refl refl refl;
    nil_of = nil_typed p here;
    negative_of = negative_fine p here;
    calculated = calculated_fine p here;
    equal_left = equal_left p here;
    equal_right = equal_right p here;
    unequal_left = unequal_left p here;
    unequal_right = unequal_right p here;
    less = less_fine p here;
    at_most = at_most_fine p here;
    greater = greater_fine p here;
    at_least = at_least_fine p here;
    negated = negated_fine p here;
    joined = joined_fine p here;
    implied = λ x y may g h. absurd (no_implication may);
    class_of = λ line x o e. class_good line x (meaning s x.symbol) o e;
    begin = λ line x z e. name_read_ok s p here b line x (meaning s x.symbol) z refl e;
    begin_written = λ line x z e. name_written_ok s p here b line x (meaning s x.symbol) z refl e;
    apply = λ line x z given g e. applied_by s p here b line x (function s x.symbol) given z g e;
    reads = reads;
    writes = writes;
    finish = finished;
  }
    where
      no_implication : false ≡ true → ⊥
      no_implication e = Rattle.std.proofs.lemmas.Bool.false≢true e

  expression_typed : (wanted : Sort) → sort_in_range (shapes p) wanted ≡ true → (f : tree.Formula) (e : Expression)
      → expression_of s wanted f ≡ Ok e → expression_sort p here e ≡ Some wanted
  expression_typed wanted there f e k =
      let one = went (operand s f) (settled NilOf (wrong (formula_line f)) wanted) e k in
      let good = formula_good (expression_forms s) (Typed p here) (Bare p here) ReadHere WrittenHere keeps f one.value one.first in
      (settled_here s p here b (wrong (formula_line f)) wanted there one.value e good one.rest).is

  place_typed : (d : tree.Designator) (r : Reached) → written s d ≡ Ok r → (place : Designator) → designator_at r ≡ Some place
      → IsPlaceOf p here b.forms_right b.first place r.type
  place_typed d r k place e =
      place_fine p here b.forms_right b.first r place
      (designator_good (expression_forms s) (Typed p here) (Bare p here) ReadHere WrittenHere keeps true
      (expression_forms s).begin_written keeps.begin_written d r k) e

  abbrev as_argument : tree.Formula → Argument Expression Reached
  as_argument f = argument f (formula_walk (expression_forms s) f) (written_place (expression_forms s) f)

  -- formulas as arguments of a call
  all_good : (fs : List tree.Formula) → GoodArguments (Typed p here) (Bare p here) WrittenHere (map as_argument fs)
  all_good [] = no_more
  all_good (f ∷ fs) =
      one_more (as_argument f) (map as_argument fs)
      (argument_good (expression_forms s) (Typed p here) (Bare p here) ReadHere WrittenHere keeps f
      (formula_good (expression_forms s) (Typed p here) (Bare p here) ReadHere WrittenHere keeps f)
      (place_good (expression_forms s) (Typed p here) (Bare p here) ReadHere WrittenHere keeps f)) (all_good fs)

  -- a call that the walk answers is one of the routine that its name stands for
  pub call_typed : (line at : ℕ) (h : Heading) (x : Symbol) (m : meaning s x ≡ Some (OfRoutine h)) (fs : List tree.Formula) (c : Call)
      → call_of s line at h (map as_argument fs) ≡ Ok c → callee p here c ≡ Some (b.routines x h m).routine
  call_typed line at h x m fs c e = call_ok s p here b line at h x m (map as_argument fs) c (all_good fs) e

pub expressions_are_well_typed : ExpressionsAreWellTyped
expressions_are_well_typed s p here b wanted there f e k = expression_typed s p here b wanted there f e k

pub places_are_well_typed : PlacesAreWellTyped
places_are_well_typed s p here b d r k place e =
    let h = place_typed s p here b d r k place e in (h.type, h.may)
