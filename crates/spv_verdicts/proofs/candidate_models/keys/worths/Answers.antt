use Rattle.std.proofs.Common.{arith}
use Rattle.spv_table.specs.Kept.{listed_over}
use Rattle.spv_verdicts.proofs.candidate_models.Worths.{all_worth, one_worth}
use Rattle.spv_verdicts.proofs.candidate_models.keys.worths.Goals as goal

pub loop-t-preserved : goal.loop-t-preserved
loop-t-preserved c =
    one_worth (listed_over c.args.terms.now c.args.table.now.values) c.args.terms.now c.args.ids.now c.loop-t.t-index (record { 0 = 0 }) (omega (arith, c.loop-t-test.true)) c.loop-t.numbers c.push_worth.new.numbers c.loop-t.invariant
    (c.in_ok-pushed.ensures c.if-not-pushed.false)

pub returns : goal.returns
returns c = all_worth (listed_over c.args.terms.now c.args.table.now.values) c.args.terms.now c.args.ids.now c.loop-t.t-index (omega (arith, c.loop-t-test.false)) c.loop-t.numbers c.loop-t.invariant
