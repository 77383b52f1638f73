use Rattle.std.proofs.Common.{ℕ, List, map, ap, refl, arith, rules, subst}
use Rattle.std.specs.Vec.Iter.{into_iter_items, into_iter_len}
use Rattle.spv_typing.specs.ExpressionWalk.{Given, fitted}
use Rattle.spv_program.specs.typed.ProgramViews.{formal_of}
use Rattle.spv_environments.specs.Answers.{Stops}
use Rattle.spv_formula_typing.specs.declared.forms.Given.{Given as GivenText}
use Rattle.spv_formula_typing.specs.Arguments.{given_of, all_given}
use Rattle.spv_program.specs.Expressions.{Expression}
use Rattle.spv_typing.specs.ExpressionWalk.{Reached}
use Rattle.spv_expression_typing.specs.Applied.{seen, all_seen}
use Rattle.spv_expression_typing.proofs.FittedLoops.{FittedSoFar, fitted_more, fitted_stops, fitted_full, fitted_end, none_left}
use Rattle.spv_expression_typing.proofs.fitting.fitted.Goals as goal

abbrev shown : List (ℕ × GivenText Expression Reached) → List (ℕ × Given)
shown gs = all_seen (all_given gs)

pub loop-line-preserved : goal.loop-line-preserved
loop-line-preserved c = (
  fitted_more c.args.known.now.program.forms c.args.formals.now (shown c.args.given.items) c.loop-line.place c.in-Some.line (seen (given_of c.in-Some.one))
      (shown (into_iter_items c.next.new.self)) c.loop-line.made.items c.push.new.items.items _ _ c.in_ok-fits.fits
      (omega (arith, c.if-place-formals.false, c.loop-line.invariant.0.within)) refl c.in_ok-fits.ensures.ok c.in_ok-push.ensures
      (subst (λ (w : List (ℕ × Given)). FittedSoFar c.args.known.now.program.forms c.args.formals.now (shown c.args.given.items) c.loop-line.place w c.loop-line.made.items) (ap shown c.in-Some.ensures.steps.0) c.loop-line.invariant.0),
  (let steps = c.in-Some.ensures.steps in let before = c.loop-line.invariant.1 in search rules),
)

pub returns-clause-ok : goal.returns-clause-ok
returns-clause-ok c =
    fitted_end c.args.known.now.program.forms c.args.formals.now (shown c.args.given.items) c.loop-line.place c.loop-line.made.items
    (subst (λ (w : List (ℕ × Given)). FittedSoFar c.args.known.now.program.forms c.args.formals.now (shown c.args.given.items) c.loop-line.place w c.loop-line.made.items) (ap shown (none_left (into_iter_items c.loop-line.line-iterator) (into_iter_len c.loop-line.line-iterator) c.loop-line.invariant.1 c.in-None.ensures.steps.0)) c.loop-line.invariant.0)

pub returns-then-place-formals-clause-ok : goal.returns-then-place-formals-clause-ok
returns-then-place-formals-clause-ok c =
    fitted_full c.args.known.now.program.forms c.args.formals.now (shown c.args.given.items) c.loop-line.place _ c.loop-line.made.items c.if-place-formals.true c.loop-line.invariant.0

pub returns-in_err-fits-clause-err : goal.returns-in_err-fits-clause-err
returns-in_err-fits-clause-err c =
    let stopped : Stops c.in_err-fits.field-0.0 (fitted c.args.known.now.program.forms (map formal_of c.args.formals.now) (shown c.args.given.items)) =
    fitted_stops c.args.known.now.program.forms c.args.formals.now (shown c.args.given.items) c.loop-line.place c.in-Some.line (seen (given_of c.in-Some.one))
    (shown (into_iter_items c.next.new.self)) c.loop-line.made.items _ _ c.in_err-fits.field-0.0
    (omega (arith, c.if-place-formals.false, c.loop-line.invariant.0.within)) refl c.in_err-fits.ensures.err
    (subst (λ (w : List (ℕ × Given)). FittedSoFar c.args.known.now.program.forms c.args.formals.now (shown c.args.given.items) c.loop-line.place w c.loop-line.made.items) (ap shown c.in-Some.ensures.steps.0) c.loop-line.invariant.0) in
    search rules
