use Rattle.std.proofs.Common.{List, sym, subst}
use Rattle.spv_trail.specs.declared.backtracking.marks.TrailMark.{TrailMark}
use Rattle.spv_search.specs.Searching.{IsArrived, IsRunning}
use Rattle.spv_search.proofs.walking.turn.Goals as goal

pub advance-requires-clause-running : goal.advance-requires-clause-running
advance-requires-clause-running c =
    subst (λ (ms : List TrailMark). IsRunning c.args.terms.now c.args.condition.now c.args.atoms.now c.args.ground.now c.args.limits.now c.args.path.now c.args.branches.now ms) (sym c.as_slice.ensures.value) c.requires.running

pub take_branch-requires-clause-arrived : goal.take_branch-requires-clause-arrived
take_branch-requires-clause-arrived c =
    subst (λ (ms : List TrailMark). IsArrived c.args.terms.now c.args.condition.now c.args.atoms.now c.args.ground.now c.args.limits.now c.advance.new.path c.args.branches.now ms c.in_ok-end.end) c.as_slice.ensures.value c.in_ok-end.ensures
