use Rattle.std.proofs.Common.{refl}
use Rattle.std.proofs.lemmas.List.{drop_more, drop_all}
use Rattle.spv_assign.proofs.structures.Paths.{read_sorts, find_next, find_stopped, find_done}
use Rattle.spv_assign.proofs.structures.elements.structures.Goals as goal

pub part-requires-clause-sorts : goal.part-requires-clause-sorts
part-requires-clause-sorts c =
    read_sorts c.args.terms.now c.loop-step.terms _ c.loop-step.t _ _ _ (drop_more c.args.path.now c.loop-step.step-index _ c.loop-step-test.true) c.loop-step.invariant.reads c.requires.sorts

pub returns-in_err-t : goal.returns-in_err-t
returns-in_err-t c =
    find_stopped c.args.terms.now c.loop-step.terms _ _ c.loop-step.found.items c.loop-step.t _ _ _ (drop_more c.args.path.now c.loop-step.step-index _ c.loop-step-test.true) c.loop-step.invariant
    c.part.new.terms c.from_residual-in_err-t.result _ c.in_err-t.field-0.0 c.from_residual-in_err-t.ensures.1 c.in_err-t.ensures

pub loop-step-preserved : goal.loop-step-preserved
loop-step-preserved c =
    find_next c.args.terms.now c.loop-step.terms _ _ c.loop-step.found.items c.loop-step.t _ _ _ (drop_more c.args.path.now c.loop-step.step-index _ c.loop-step-test.true) c.loop-step.invariant
    c.part.new.terms c.in_ok-t.t c.push.new.found.items c.in_ok-push.ensures c.in_ok-t.ensures

pub returns : goal.returns
returns c =
    find_done c.args.terms.now c.loop-step.terms _ _ c.loop-step.found.items c.push-2.new.found.items c.loop-step.t _ (drop_all c.loop-step.step-index c.args.path.now c.loop-step-test.false)
    c.in_ok-push-2.ensures c.loop-step.invariant c.push-2.new.found _ refl
