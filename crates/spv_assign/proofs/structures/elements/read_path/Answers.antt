use Rattle.std.proofs.lemmas.List.{drop_more, drop_all}
use Rattle.spv_assign.proofs.structures.Paths.{read_sorts, read_next, read_stopped, read_done}
use Rattle.spv_assign.proofs.structures.elements.read_path.Goals as goal

pub part-requires-clause-sorts : goal.part-requires-clause-sorts
part-requires-clause-sorts c =
    read_sorts c.args.terms.now c.loop-step.terms _ c.loop-step.t _ _ _ (drop_more c.args.path.now c.loop-step.step-index _ c.loop-step-test.true) c.loop-step.invariant c.requires.sorts

pub returns-in_err-t : goal.returns-in_err-t
returns-in_err-t c =
    read_stopped c.args.terms.now c.loop-step.terms _ c.loop-step.t _ _ _ (drop_more c.args.path.now c.loop-step.step-index _ c.loop-step-test.true) c.loop-step.invariant
    c.part.new.terms c.from_residual.result c.in_err-t.field-0.0 c.from_residual.ensures.1 c.in_err-t.ensures

pub loop-step-preserved : goal.loop-step-preserved
loop-step-preserved c =
    read_next c.args.terms.now c.loop-step.terms _ c.loop-step.t _ _ _ (drop_more c.args.path.now c.loop-step.step-index _ c.loop-step-test.true) c.loop-step.invariant
    c.part.new.terms c.in_ok-t.t c.in_ok-t.ensures

pub returns : goal.returns
returns c = read_done c.args.terms.now c.loop-step.terms _ c.loop-step.t _ (drop_all c.loop-step.step-index c.args.path.now c.loop-step-test.false) c.loop-step.invariant c.law_arena.ensures
