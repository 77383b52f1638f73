use Rattle.std.proofs.Common.{arith}
use Rattle.spv_union_find.proofs.classes.Steps.{collect_more, collect_all, all_members, members_within}
use Rattle.spv_union_find.proofs.classes.classes.Classes.members.Goals as goal

pub loop-preserved : goal.loop-preserved
loop-preserved c = record {
  at = c.next-at.ensures.within;
  whole = collect_more c.args.self.now.joins _ _ c.loop.at _ _ _ _ (omega (arith, c.loop-test.true, c.size-end.ensures)) c.next-at.ensures.next c.in_ok-push.ensures.items c.loop.invariant.whole;
}

pub returns-clause-ring : goal.returns-clause-ring
returns-clause-ring c = collect_all c.args.self.now.joins _ c.loop.at _ _ _ (omega (arith, c.loop-test.false, c.size-end.ensures)) c.loop.invariant.whole

pub returns-clause-within : goal.returns-clause-within
returns-clause-within c = members_within _ c.law_joins.ensures _ c.requires.within c.requires.label _
    (collect_all c.args.self.now.joins _ c.loop.at _ _ _ (omega (arith, c.loop-test.false, c.size-end.ensures)) c.loop.invariant.whole)

pub returns-clause-all : goal.returns-clause-all
returns-clause-all c = all_members _ c.law_joins.ensures _ c.requires.label _
    (collect_all c.args.self.now.joins _ c.loop.at _ _ _ (omega (arith, c.loop-test.false, c.size-end.ensures)) c.loop.invariant.whole)
