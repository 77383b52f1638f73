use Rattle.std.proofs.Common.{arith, refl, ap, ◌∙◌}
use Rattle.spv_grammar.specs.reading.Readers.{Read}
use Rattle.spv_formula_parser.proofs.primitives.Exits.{same_fault}
use Rattle.spv_formula_parser.proofs.primitives.Turns.{stopped, turn, failed, over, when_absent, when_there, put-list}
use Rattle.spv_formula_parser.proofs.primitives.lists.others.Goals as goal

pub returns-then-not-is_name-clause-read : goal.returns-then-not-is_name-clause-read
returns-then-not-is_name-clause-read g c = stopped c.loop.invariant (when_absent _ c.if-not-is_name.ensures) ∙ ap (λ xs. Read (xs, c.loop.rest.now)) (put-list c.loop.parts.items)

pub returns-clause-read : goal.returns-clause-read
returns-clause-read g c = over c.loop.invariant (omega (arith, c.loop-test.false)) ∙ ap (λ xs. Read (xs, c.loop.rest.now)) (put-list c.loop.parts.items)

pub returns-in_err-part-clause-absent : goal.returns-in_err-part-clause-absent
returns-in_err-part-clause-absent g c s h = failed c.loop.invariant c.loop-test.true (when_there (g.R.PartReader.reader c.args.levels) c.if-not-is_name.ensures refl (c.in_err-part.ensures.absent s (same_fault s _ c.from_residual-in_err-part.result c.from_residual-in_err-part.ensures.1 h)))

pub loop-preserved : goal.loop-preserved
loop-preserved g c = turn c.loop.invariant c.loop-test.true (when_there (g.R.PartReader.reader c.args.levels) c.if-not-is_name.ensures refl c.in_ok-part.ensures.read) c.in_ok-push-2.ensures.items
