use Rattle.std.proofs.Common.{◌≡◌, ◌≤◌, ◌<◌, ◌+◌, ◌*◌, List, length, get_or, Some, Ok, rules, refl, subst, sym, ap, ◌∙◌, arith}
use Rattle.std.specs.Option.{option_copied}
use Rattle.spv_tree.specs.syntax.Formulas.{Formula, Term, Factor, Selector, term}
use Rattle.spv_tree.specs.declared.syntax.operators.Multiplying.{Multiplying}
use Rattle.spv_tree.specs.syntax.Lines.{factor_line}
use Rattle.spv_tree.specs.syntax.Model.FormulaSizes.{more_formulas_of, more_factors_of, selectors_of, factor_size, term_size, formula_size, more_formulas_size, selectors_size, selector_size}
use Rattle.spv_typing.specs.Outcomes.{after}
use Rattle.spv_typing.specs.OperatorWalk.{designator_alone}
use Rattle.spv_environments.specs.Answers.{Stops}
use Rattle.spv_formula_typing.specs.declared.forms.Way.TheVariants.{Place}
use Rattle.spv_formula_typing.proofs.Exits.{stops_after}
use Rattle.spv_formula_typing.proofs.Places.{place_given}
use Rattle.spv_formula_typing.proofs.Loops.{found_pushed, given_begun, given_pushed, given_stopped, given_all}
use Rattle.spv_formula_typing.proofs.Sizes.{formula_within, factor_within, selector_within}
use Rattle.spv_formula_typing.specs.Arguments.{AsPlace, all_given, given_one, given_as, argument_of, arguments_of}
use Rattle.spv_formula_typing.proofs.walk.+formulas.Goals as goal

pub selectors-selector-requires : goal.selectors-selector-requires
selectors-selector-requires g t c =
    let within : selector_size c.one-item.result ≤ selectors_size (selectors_of c.args.behind.now) =
    subst (λ (s : Selector). selector_size s ≤ selectors_size (selectors_of c.args.behind.now)) (sym c.one-item.is)
    (selector_within c.args.behind.now c.loop-one.one-index c.one-item.result c.loop-one-test.true) in
    let falls : 5 * selector_size c.one-item.result < 5 * selectors_size (selectors_of c.args.behind.now) + 1 = omega (arith, within) in
    search rules

pub operands-loop-other-preserved : goal.operands-loop-other-preserved
operands-loop-other-preserved g t c =
    found_pushed (g.F.Forms.forms c.args.forms.now) c.args.first.now c.args.more.now c.loop-other.other-index c.loop-other.found.items c.push-in-loop-other.new.items.items
    c.other-item.result c.line-in-loop-other.result c.in_ok-next.next c.loop-other-test.true c.other-item.is c.line-in-loop-other.ensures c.in_ok-next.ensures.ok
    c.in_ok-push-2.ensures c.loop-other.invariant

pub arguments-loop-other-init : goal.arguments-loop-other-init
arguments-loop-other-init g t c = (
  refl,
  given_begun (g.F.Forms.forms c.args.forms.now) c.args.first.now c.args.more.now (g.F.Forms.way_of c.args.forms.now c.args.callee.now) c.new-given.result.items
      c.push.new.items.items c.line.result c.in_ok-one.one c.line.ensures c.in_ok-one.ensures.ok c.new-given.ensures.items c.in_ok-push.ensures,
)

pub arguments-loop-other-preserved : goal.arguments-loop-other-preserved
arguments-loop-other-preserved g t c =
    given_pushed (g.F.Forms.forms c.args.forms.now) c.args.first.now c.args.more.now (g.F.Forms.way_of c.args.forms.now c.args.callee.now) c.loop-other.other-index c.loop-other.place
    c.loop-other.given.items c.push-in-loop-other.new.items.items c.other-item.result c.line-in-loop-other.result c.in_ok-next.next c.loop-other.invariant.0 c.loop-other-test.true
    c.other-item.is c.line-in-loop-other.ensures c.in_ok-next.ensures.ok c.in_ok-push-2.ensures c.loop-other.invariant.1

pub arguments-overflow_add-place : goal.arguments-overflow_add-place
arguments-overflow_add-place g t c =
    let here : c.loop-other.place ≡ c.loop-other.other-index = c.loop-other.invariant.0 in
    let within : c.loop-other.other-index < length c.args.more.now = c.loop-other-test.true in
    search rules

pub arguments-argument-requires-in-loop-other : goal.arguments-argument-requires-in-loop-other
arguments-argument-requires-in-loop-other g t c =
    let within : formula_size c.other-item.result ≤ more_formulas_size (more_formulas_of c.args.more.now) =
    subst (λ (f : Formula). formula_size f ≤ more_formulas_size (more_formulas_of c.args.more.now)) (sym c.other-item.is)
    (formula_within c.args.more.now c.loop-other.other-index c.other-item.result c.loop-other-test.true) in
    let falls : 5 * formula_size c.other-item.result + 2 < 5 * (formula_size c.args.first.now + more_formulas_size (more_formulas_of c.args.more.now)) + 3 = omega (arith, within) in
    search rules

pub operands-formula-requires-in-loop-other : goal.operands-formula-requires-in-loop-other
operands-formula-requires-in-loop-other g t c =
    let within : formula_size c.other-item.result ≤ more_formulas_size (more_formulas_of c.args.more.now) =
    subst (λ (f : Formula). formula_size f ≤ more_formulas_size (more_formulas_of c.args.more.now)) (sym c.other-item.is)
    (formula_within c.args.more.now c.loop-other.other-index c.other-item.result c.loop-other-test.true) in
    let falls : 5 * formula_size c.other-item.result < 5 * (formula_size c.args.first.now + more_formulas_size (more_formulas_of c.args.more.now)) + 1 = omega (arith, within) in
    search rules

pub arguments-returns-in_err-next-clause-err : goal.arguments-returns-in_err-next-clause-err
arguments-returns-in_err-next-clause-err g t c =
    let stopped : Stops c.in_err-next.field-0.0 (given_as (g.F.Forms.way_of c.args.forms.now c.args.callee.now) 0 (arguments_of (g.F.Forms.forms c.args.forms.now) c.args.first.now c.args.more.now)) =
    given_stopped (g.F.Forms.forms c.args.forms.now) c.args.first.now c.args.more.now (g.F.Forms.way_of c.args.forms.now c.args.callee.now) c.loop-other.other-index c.loop-other.place
    c.loop-other.given.items c.other-item.result c.in_err-next.field-0.0 c.loop-other.invariant.0 c.loop-other-test.true c.other-item.is c.in_err-next.ensures.err c.loop-other.invariant.1 in
    search rules

pub arguments-returns-clause-ok : goal.arguments-returns-clause-ok
arguments-returns-clause-ok g t c =
    given_all (g.F.Forms.forms c.args.forms.now) c.args.first.now c.args.more.now (g.F.Forms.way_of c.args.forms.now c.args.callee.now) c.loop-other.other-index
    (all_given c.loop-other.given.items) c.loop-other-test.false c.loop-other.invariant.1

pub as_place-returns-in_ok-written-in-Some-clause-ok : goal.as_place-returns-in_ok-written-in-Some-clause-ok
as_place-returns-in_ok-written-in-Some-clause-ok g t c =
    let alone : designator_alone c.args.tree.now ≡ Some c.in-Some.place.now = sym c.designator_alone.ensures ∙ ap option_copied c.in-Some.is in
    place_given (g.F.Forms.forms c.args.forms.now) c.args.tree.now c.in-Some.place.now alone ∙ ap (λ o. after o (λ s. Ok (AsPlace s))) c.in_ok-written-in-Some.ensures.ok

pub as_place-returns-in_err-written-in-Some-clause-err : goal.as_place-returns-in_err-written-in-Some-clause-err
as_place-returns-in_err-written-in-Some-clause-err g t c =
    let alone : designator_alone c.args.tree.now ≡ Some c.in-Some.place.now = sym c.designator_alone.ensures ∙ ap option_copied c.in-Some.is in
    let stopped : Stops c.in_err-written-in-Some.field-0.0 (given_one Place (argument_of (g.F.Forms.forms c.args.forms.now) c.args.tree.now)) =
    subst (Stops c.in_err-written-in-Some.field-0.0) (sym (place_given (g.F.Forms.forms c.args.forms.now) c.args.tree.now c.in-Some.place.now alone))
    (stops_after c.in_err-written-in-Some.field-0.0 _ (λ s. Ok (AsPlace s)) c.in_err-written-in-Some.ensures.err) in
    search rules

pub term-factor-requires-in-loop-operator : goal.term-factor-requires-in-loop-operator
term-factor-requires-in-loop-operator g t c =
    let same : c.deref-operator-items.result.now ≡ c.tree.inside.more.items = c.deref-operator-items.ensures.value in
    let within : factor_size c.loop-operator-item.result.1 < term_size c.args.tree.now =
    subst (λ (x : Multiplying × Factor). factor_size x.1 < term_size c.args.tree.now) (sym c.loop-operator-item.is)
    (subst (λ (x : Term). factor_size (get_or c.deref-operator-items.result.now c.loop-operator.operator-index c.loop-operator-item.result).1 < term_size x) c.tree.view_is
    (subst (λ (fs : List (Multiplying × Factor)). factor_size (get_or fs c.loop-operator.operator-index c.loop-operator-item.result).1 < term_size (term (factor_line c.tree.inside.first) c.tree.inside.first (more_factors_of c.tree.inside.more.items))) (sym same)
    (factor_within (factor_line c.tree.inside.first) c.tree.inside.first c.tree.inside.more.items c.loop-operator.operator-index c.loop-operator-item.result
    (subst (λ (fs : List (Multiplying × Factor)). c.loop-operator.operator-index < length fs) same c.loop-operator-test.true)))) in
    let falls : 5 * factor_size c.loop-operator-item.result.1 < 5 * term_size c.args.tree.now = omega (arith, within) in
    search rules
