use Rattle.std.proofs.Common.{arith}
use Rattle.spv_grammar.specs.reading.StatementReaders.{read_lower, read_arm}
use Rattle.spv_formula_parser.proofs.primitives.Exits.{same_fault}
use Rattle.spv_formula_parser.proofs.primitives.Turns.{turn, stopped, failed, over, when_absent, when_there}
use Rattle.spv_formula_parser.proofs.FormulaLists.{read_list}
use Rattle.spv_parser.proofs.statement_parser.StatementLists.{put-more_statements, put-more_arms, one_lower}
use Rattle.spv_parser.proofs.statement_parser.+statement.Goals as goal

-- ---- levels

pub statements::lower-returns-clause-read : goal.statements::lower-returns-clause-read
statements::lower-returns-clause-read t c = rw (one_lower c.args.levels c.args.tokens.now c.if-levels-eq0.false) c.statement.ensures.read

pub statements::lower-returns-clause-absent : goal.statements::lower-returns-clause-absent
statements::lower-returns-clause-absent t c = rw (one_lower c.args.levels c.args.tokens.now c.if-levels-eq0.false) c.statement.ensures.absent

-- ---- statements behind semicolons

pub statements::more_statements-returns-then-not-is_sign-clause-read : goal.statements::more_statements-returns-then-not-is_sign-clause-read
statements::more_statements-returns-then-not-is_sign-clause-read t c = read_list (stopped c.loop.invariant (when_absent _ c.if-not-is_sign.ensures)) (put-more_statements c.loop.more.items)

pub statements::more_statements-returns-in_err-read-clause-absent : goal.statements::more_statements-returns-in_err-read-clause-absent
statements::more_statements-returns-in_err-read-clause-absent t c s h = failed c.loop.invariant c.loop-test.true (when_there (read_lower c.args.levels) c.if-not-is_sign.ensures c.after.ensures (c.in_err-read.ensures.absent s (same_fault s _ c.from_residual.result c.from_residual.ensures.1 h)))

pub statements::more_statements-loop-preserved : goal.statements::more_statements-loop-preserved
statements::more_statements-loop-preserved t c = turn c.loop.invariant c.loop-test.true (when_there (read_lower c.args.levels) c.if-not-is_sign.ensures c.after.ensures c.in_ok-read.ensures.read) c.in_ok-push.ensures

pub statements::more_statements-returns-clause-read : goal.statements::more_statements-returns-clause-read
statements::more_statements-returns-clause-read t c = read_list (over c.loop.invariant (omega (arith, c.loop-test.false))) (put-more_statements c.loop.more.items)

-- ---- arms behind semicolons

pub statements::more_arms-returns-then-not-is_sign-clause-read : goal.statements::more_arms-returns-then-not-is_sign-clause-read
statements::more_arms-returns-then-not-is_sign-clause-read t c = read_list (stopped c.loop.invariant (when_absent _ c.if-not-is_sign.ensures)) (put-more_arms c.loop.more.items)

pub statements::more_arms-returns-in_err-read-clause-absent : goal.statements::more_arms-returns-in_err-read-clause-absent
statements::more_arms-returns-in_err-read-clause-absent t c s h = failed c.loop.invariant c.loop-test.true (when_there (read_arm (read_lower c.args.levels)) c.if-not-is_sign.ensures c.after.ensures (c.in_err-read.ensures.absent s (same_fault s _ c.from_residual.result c.from_residual.ensures.1 h)))

pub statements::more_arms-loop-preserved : goal.statements::more_arms-loop-preserved
statements::more_arms-loop-preserved t c = turn c.loop.invariant c.loop-test.true (when_there (read_arm (read_lower c.args.levels)) c.if-not-is_sign.ensures c.after.ensures c.in_ok-read.ensures.read) c.in_ok-push.ensures

pub statements::more_arms-returns-clause-read : goal.statements::more_arms-returns-clause-read
statements::more_arms-returns-clause-read t c = read_list (over c.loop.invariant (omega (arith, c.loop-test.false))) (put-more_arms c.loop.more.items)
