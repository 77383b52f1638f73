use Rattle.std.proofs.Common.{arith, ap, ◌∙◌}
use Rattle.spv_grammar.specs.reading.Readers.{Read}
use Rattle.spv_formula_parser.proofs.primitives.Exits.{same_fault}
use Rattle.spv_formula_parser.proofs.primitives.Turns.{going, stopped, turn, failed, over, when_absent, when_there, put-list}
use Rattle.spv_formula_parser.proofs.primitives.lists.further.Goals as goal

pub loop-init : goal.loop-init
loop-init g c = going c.new-parts.ensures.items

pub returns-then-not-is_sign-clause-read : goal.returns-then-not-is_sign-clause-read
returns-then-not-is_sign-clause-read g c = stopped c.loop.invariant (when_absent _ c.if-not-is_sign.ensures) ∙ ap (λ xs. Read (xs, c.loop.rest.now)) (put-list c.loop.parts.items)

pub returns-clause-read : goal.returns-clause-read
returns-clause-read g c = over c.loop.invariant (omega (arith, c.loop-test.false)) ∙ ap (λ xs. Read (xs, c.loop.rest.now)) (put-list c.loop.parts.items)

pub returns-in_err-part-clause-absent : goal.returns-in_err-part-clause-absent
returns-in_err-part-clause-absent g c s h = failed c.loop.invariant c.loop-test.true (when_there (g.R.PartReader.reader c.args.levels) c.if-not-is_sign.ensures c.after.ensures (c.in_err-part.ensures.absent s (same_fault s _ c.from_residual.result c.from_residual.ensures.1 h)))

pub loop-preserved : goal.loop-preserved
loop-preserved g c = turn c.loop.invariant c.loop-test.true (when_there (g.R.PartReader.reader c.args.levels) c.if-not-is_sign.ensures c.after.ensures c.in_ok-part.ensures.read) c.in_ok-push.ensures
