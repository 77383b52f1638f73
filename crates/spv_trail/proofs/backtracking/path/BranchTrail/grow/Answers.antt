use Rattle.spv_trail.proofs.backtracking.Following.{step_done, step_more, step_ended, step_fewer}
use Rattle.spv_trail.proofs.backtracking.Going.{goes_on_then}
use Rattle.spv_trail.proofs.backtracking.path.BranchTrail.grow.Goals as goal

pub returns-in-Done-clause-told : goal.returns-in-Done-clause-told
returns-in-Done-clause-told c =
    λ cases h. let p = c.loop-end.invariant.path_told cases h in
    step_done c.args.terms.now c.args.condition.now c.args.ground.now.questions.items cases c.loop-end.self c.grow_once.new.self c.in_ok-grow_once.field-0 c.in-Done.is (c.in_ok-grow_once.ensures.told cases p) p

pub returns-in-Done-clause-goes : goal.returns-in-Done-clause-goes
returns-in-Done-clause-goes c = goes_on_then c.args.terms.now c.args.self.now c.loop-end.self c.grow_once.new.self c.loop-end.invariant.goes c.in_ok-grow_once.ensures.goes

pub loop-end-smaller : goal.loop-end-smaller
loop-end-smaller c =
    let p = c.loop-end.invariant.path_told c.requires.told.cases c.requires.told.path_told in
    step_fewer c.args.terms.now c.args.condition.now c.args.ground.now.questions.items c.requires.told.cases c.loop-end.self c.grow_once.new.self c.in_ok-grow_once.field-0 c.in-More.is (c.in_ok-grow_once.ensures.told c.requires.told.cases p)

pub loop-end-preserved : goal.loop-end-preserved
loop-end-preserved c = record {
  path_told = λ cases h. step_more c.args.terms.now c.args.condition.now c.args.ground.now.questions.items cases c.loop-end.self c.grow_once.new.self c.in_ok-grow_once.field-0 c.in-More.is (c.in_ok-grow_once.ensures.told cases (c.loop-end.invariant.path_told cases h));
  goes = goes_on_then c.args.terms.now c.args.self.now c.loop-end.self c.grow_once.new.self c.loop-end.invariant.goes c.in_ok-grow_once.ensures.goes;
}

pub returns-in-Ended-clause-told : goal.returns-in-Ended-clause-told
returns-in-Ended-clause-told c =
    λ cases h. step_ended c.args.terms.now c.args.condition.now c.args.ground.now.questions.items cases c.loop-end.self c.grow_once.new.self c.in_ok-grow_once.field-0 c.in-Ended.end c.in-Ended.is (c.in_ok-grow_once.ensures.told cases (c.loop-end.invariant.path_told cases h))

pub returns-in-Ended-clause-goes : goal.returns-in-Ended-clause-goes
returns-in-Ended-clause-goes c = goes_on_then c.args.terms.now c.args.self.now c.loop-end.self c.grow_once.new.self c.loop-end.invariant.goes c.in_ok-grow_once.ensures.goes

pub grow_once-requires-clause-told : goal.grow_once-requires-clause-told
grow_once-requires-clause-told c = record { cases = c.requires.told.cases; path_told = c.loop-end.invariant.path_told c.requires.told.cases c.requires.told.path_told }
