use Rattle.std.proofs.Common.{map}
use Rattle.spv_term.specs.substitution.Images.{head_at}
use Rattle.spv_rules.specs.making.Sketching as spec
use Rattle.spv_rules.proofs.making.Sketched.{popped_in, turn_less, turn_same}
use Rattle.spv_rules.proofs.making.sketching.sketch.Goals as goal

pub step-requires-clause-work : goal.step-requires-clause-work
step-requires-clause-work c = (popped_in (spec.id_for (map (head_at c.args.from.now) c.args.variables.now) c.args.values.now) c.args.from.now c.law_arena.ensures c.loop-work.works.items c.pop.new.self.items c.in-Some.work c.in-Some.ensures.items c.loop-work.invariant.works_in).1

pub step-requires-clause-works : goal.step-requires-clause-works
step-requires-clause-works c = (popped_in (spec.id_for (map (head_at c.args.from.now) c.args.variables.now) c.args.values.now) c.args.from.now c.law_arena.ensures c.loop-work.works.items c.pop.new.self.items c.in-Some.work c.in-Some.ensures.items c.loop-work.invariant.works_in).0

pub loop-work-smaller : goal.loop-work-smaller
loop-work-smaller c =
    turn_less _ c.args.from.now c.law_arena.ensures c.loop-work.works.items c.pop.new.self.items c.step.new.works.items c.in-Some.work c.loop-work.out.items c.step.new.out.items c.in-Some.ensures.items c.in_ok-step.ensures

pub loop-work-preserved : goal.loop-work-preserved
loop-work-preserved c = record {
  same = turn_same _ c.args.from.now c.law_arena.ensures c.loop-work.works.items c.pop.new.self.items c.step.new.works.items c.in-Some.work c.loop-work.out.items c.step.new.out.items c.in-Some.ensures.items c.in_ok-step.ensures _ c.loop-work.invariant.same;
  works_in = c.in_ok-step.ensures.works_in;
}
