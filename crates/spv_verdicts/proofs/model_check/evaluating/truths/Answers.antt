use Rattle.std.proofs.Common.{length, arith}
use Rattle.spv_table.specs.Kept.{listed_over}
use Rattle.spv_verdicts.specs.model_check.Surviving.{IsFaultAmong}
use Rattle.spv_verdicts.proofs.model_check.LoopLemmas.{item_in, item_there, one_truth}
use Rattle.spv_verdicts.proofs.model_check.ShownLemmas.{among_of, err_same}
use Rattle.spv_verdicts.proofs.model_check.evaluating.truths.Goals as goal

pub holds-requires-clause-f : goal.holds-requires-clause-f
holds-requires-clause-f c = item_in (length c.args.terms.now.nodes) c.args.fs.now c.loop-f.f-index (record { 0 = 0 }) c.requires.fs (omega (arith, c.loop-f-test.true))

pub returns-in_err-truth-clause-fault : goal.returns-in_err-truth-clause-fault
returns-in_err-truth-clause-fault c =
    err_same c.from_residual.result c.in_err-truth.field-0.0 (IsFaultAmong c.args.terms.now (listed_over c.args.terms.now c.args.table.now.values) c.args.fs.now) c.from_residual.ensures.1
    (among_of c.args.terms.now (listed_over c.args.terms.now c.args.table.now.values) c.args.fs.now _ c.in_err-truth.field-0.0 (item_there c.args.fs.now c.loop-f.f-index (record { 0 = 0 }) (omega (arith, c.loop-f-test.true))) c.in_err-truth.ensures.fault)

pub loop-f-preserved : goal.loop-f-preserved
loop-f-preserved c =
    one_truth c.args.terms.now (listed_over c.args.terms.now c.args.table.now.values) c.args.fs.now c.loop-f.f-index (record { 0 = 0 }) (omega (arith, c.loop-f-test.true)) c.loop-f.branch.items c.push_case.new.branch.items c.in_ok-truth.truth
    c.loop-f.invariant c.in_ok-truth.ensures.value c.in_ok-push_case.ensures
