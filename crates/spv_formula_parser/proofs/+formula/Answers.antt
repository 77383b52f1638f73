use Rattle.std.proofs.Common.{arith, refl, sym, ◌∙◌}
use Rattle.spv_grammar.specs.reading.FormulaReaders.{read_inner, read_factor, read_term}
use Rattle.spv_formula_parser.proofs.primitives.Exits.{same_fault}
use Rattle.spv_formula_parser.proofs.primitives.Turns.{turn, stopped, failed, over, when_absent, when_there}
use Rattle.spv_formula_parser.proofs.FormulaLists.{put-more_terms, put-more_factors, put-more_formulas, put-selectors, read_list, no_operator, an_operator, no_operand, a_selector, no_selector, same_factor, one_lower}
use Rattle.spv_formula_parser.proofs.+formula.Goals as goal

-- ---- levels

pub factors::factor-returns-clause-read : goal.factors::factor-returns-clause-read
factors::factor-returns-clause-read t c = rw (same_factor c.args.levels) c.any_factor.ensures.read

pub factors::factor-returns-clause-absent : goal.factors::factor-returns-clause-absent
factors::factor-returns-clause-absent t c = rw (same_factor c.args.levels) c.any_factor.ensures.absent

pub formulas::inner-returns-clause-read : goal.formulas::inner-returns-clause-read
formulas::inner-returns-clause-read t c = rw (one_lower c.args.levels c.args.tokens.now c.if-levels-eq0.false) c.formula.ensures.read

pub formulas::inner-returns-clause-absent : goal.formulas::inner-returns-clause-absent
formulas::inner-returns-clause-absent t c = rw (one_lower c.args.levels c.args.tokens.now c.if-levels-eq0.false) c.formula.ensures.absent

-- ---- formulas behind commas

pub factors::further_formulas-returns-then-not-is_sign-clause-read : goal.factors::further_formulas-returns-then-not-is_sign-clause-read
factors::further_formulas-returns-then-not-is_sign-clause-read t c = read_list (stopped c.loop.invariant (when_absent _ c.if-not-is_sign.ensures)) (put-more_formulas c.loop.more.items)

pub factors::further_formulas-returns-in_err-read-clause-absent : goal.factors::further_formulas-returns-in_err-read-clause-absent
factors::further_formulas-returns-in_err-read-clause-absent t c s h = failed c.loop.invariant c.loop-test.true (when_there (read_inner c.args.levels) c.if-not-is_sign.ensures c.after.ensures (c.in_err-read.ensures.absent s (same_fault s _ c.from_residual.result c.from_residual.ensures.1 h)))

pub factors::further_formulas-loop-preserved : goal.factors::further_formulas-loop-preserved
factors::further_formulas-loop-preserved t c = turn c.loop.invariant c.loop-test.true (when_there (read_inner c.args.levels) c.if-not-is_sign.ensures c.after.ensures c.in_ok-read.ensures.read) c.in_ok-push.ensures

pub factors::further_formulas-returns-clause-read : goal.factors::further_formulas-returns-clause-read
factors::further_formulas-returns-clause-read t c = read_list (over c.loop.invariant (omega (arith, c.loop-test.false))) (put-more_formulas c.loop.more.items)

-- ---- selectors

pub factors::further_selectors-returns-then-not-begins_selector-clause-read : goal.factors::further_selectors-returns-then-not-begins_selector-clause-read
factors::further_selectors-returns-then-not-begins_selector-clause-read t c = read_list (stopped c.loop.invariant (no_selector (read_inner c.args.levels) _ c.loop.rest.now (sym c.if-not-begins_selector.ensures))) (put-selectors c.loop.behind.items)

pub factors::further_selectors-returns-in_err-read-clause-absent : goal.factors::further_selectors-returns-in_err-read-clause-absent
factors::further_selectors-returns-in_err-read-clause-absent t c s h = failed c.loop.invariant c.loop-test.true (rw (a_selector (read_inner c.args.levels) _ c.loop.rest.now (sym c.if-not-begins_selector.ensures), c.in_err-read.ensures.absent s (same_fault s _ c.from_residual.result c.from_residual.ensures.1 h)) refl)

pub factors::further_selectors-loop-preserved : goal.factors::further_selectors-loop-preserved
factors::further_selectors-loop-preserved t c = turn c.loop.invariant c.loop-test.true (rw (a_selector (read_inner c.args.levels) _ c.loop.rest.now (sym c.if-not-begins_selector.ensures), c.in_ok-read.ensures.read) refl) c.in_ok-push.ensures

pub factors::further_selectors-returns-clause-read : goal.factors::further_selectors-returns-clause-read
factors::further_selectors-returns-clause-read t c = read_list (over c.loop.invariant (omega (arith, c.loop-test.false))) (put-selectors c.loop.behind.items)

-- ---- factors behind operators

pub formulas::further_factors-returns-in_default-clause-read : goal.formulas::further_factors-returns-in_default-clause-read
formulas::further_factors-returns-in_default-clause-read t c = read_list (stopped c.loop.invariant (no_operator (read_factor c.args.levels) c.loop.rest.now (sym c.multiplying.ensures ∙ c.in_default.is))) (put-more_factors c.loop.more.items)

pub formulas::further_factors-returns-in_err-read-clause-absent : goal.formulas::further_factors-returns-in_err-read-clause-absent
formulas::further_factors-returns-in_err-read-clause-absent t c s h = failed c.loop.invariant c.loop-test.true (no_operand (read_factor c.args.levels) c.loop.rest.now (sym c.multiplying.ensures ∙ c.in-Some.is) c.after.ensures (c.in_err-read.ensures.absent s (same_fault s _ c.from_residual.result c.from_residual.ensures.1 h)))

pub formulas::further_factors-loop-preserved : goal.formulas::further_factors-loop-preserved
formulas::further_factors-loop-preserved t c = turn c.loop.invariant c.loop-test.true (an_operator (read_factor c.args.levels) c.loop.rest.now (sym c.multiplying.ensures ∙ c.in-Some.is) c.after.ensures c.in_ok-read.ensures.read) c.in_ok-push.ensures

pub formulas::further_factors-returns-clause-read : goal.formulas::further_factors-returns-clause-read
formulas::further_factors-returns-clause-read t c = read_list (over c.loop.invariant (omega (arith, c.loop-test.false))) (put-more_factors c.loop.more.items)

-- ---- terms behind operators

pub formulas::further_terms-returns-clause-read : goal.formulas::further_terms-returns-clause-read
formulas::further_terms-returns-clause-read t c = read_list (over c.loop.invariant (omega (arith, c.loop-test.false))) (put-more_terms c.loop.more.items)

pub formulas::further_terms-returns-in_err-read-clause-absent : goal.formulas::further_terms-returns-in_err-read-clause-absent
formulas::further_terms-returns-in_err-read-clause-absent t c s h = failed c.loop.invariant c.loop-test.true (no_operand (read_term (read_factor c.args.levels)) c.loop.rest.now (sym c.adding.ensures ∙ c.in-Some.is) c.after.ensures (c.in_err-read.ensures.absent s (same_fault s _ c.from_residual.result c.from_residual.ensures.1 h)))

pub formulas::further_terms-loop-preserved : goal.formulas::further_terms-loop-preserved
formulas::further_terms-loop-preserved t c = turn c.loop.invariant c.loop-test.true (an_operator (read_term (read_factor c.args.levels)) c.loop.rest.now (sym c.adding.ensures ∙ c.in-Some.is) c.after.ensures c.in_ok-read.ensures.read) c.in_ok-push.ensures

pub formulas::further_terms-returns-in_default-clause-read : goal.formulas::further_terms-returns-in_default-clause-read
formulas::further_terms-returns-in_default-clause-read t c = read_list (stopped c.loop.invariant (no_operator (read_term (read_factor c.args.levels)) c.loop.rest.now (sym c.adding.ensures ∙ c.in_default.is))) (put-more_terms c.loop.more.items)
