use Rattle.std.proofs.Common.{◌∙◌}
use Rattle.spv_environments.specs.Scopes.{scope_of}
use Rattle.spv_expression_typing.proofs.counter_changes.Stacks.{turn_falls, turn_wrote, turn_called}
use Rattle.spv_expression_typing.proofs.counter_changes.works.first_changed.Goals as goal

pub loop-work-smaller : goal.loop-work-smaller
loop-work-smaller c =
    turn_falls (scope_of c.args.scope.now) c.args.counted.now c.loop-work.works.items c.pop.new.self.items c.step.new.works.items c.in-Some.work c.loop-work.found c.in_ok-found.found
    c.in-Some.ensures.items c.in_ok-found.ensures

pub loop-work-preserved : goal.loop-work-preserved
loop-work-preserved c = (
  turn_wrote (scope_of c.args.scope.now) c.args.counted.now c.loop-work.works.items c.pop.new.self.items c.step.new.works.items c.in-Some.work c.loop-work.found c.in_ok-found.found
      c.in-Some.ensures.items c.in_ok-found.ensures ∙ c.loop-work.invariant.0,
  turn_called (scope_of c.args.scope.now) c.args.counted.now c.loop-work.works.items c.pop.new.self.items c.step.new.works.items c.in-Some.work c.loop-work.found c.in_ok-found.found
      c.in-Some.ensures.items c.in_ok-found.ensures ∙ c.loop-work.invariant.1,
)
