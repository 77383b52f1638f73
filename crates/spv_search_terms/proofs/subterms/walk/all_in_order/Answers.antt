use Rattle.spv_search_terms.proofs.subterms.WalkLemmas.{popped_in, starts_with, turn_less, turn_same}
use Rattle.spv_search_terms.proofs.subterms.walk.all_in_order.Goals as goal

pub step-requires-clause-work : goal.step-requires-clause-work
step-requires-clause-work c = (popped_in c.args.terms.now c.law_arena.ensures c.loop-work.works.items c.pop.new.self.items c.in-Some.work c.in-Some.ensures.items c.loop-work.invariant.works_in).1

pub step-requires-clause-works : goal.step-requires-clause-works
step-requires-clause-works c = (popped_in c.args.terms.now c.law_arena.ensures c.loop-work.works.items c.pop.new.self.items c.in-Some.work c.in-Some.ensures.items c.loop-work.invariant.works_in).0

pub loop-work-smaller : goal.loop-work-smaller
loop-work-smaller c =
    turn_less c.args.terms.now c.law_arena.ensures c.loop-work.works.items c.pop.new.self.items c.step.new.works.items c.in-Some.work c.loop-work.done c.step.new.done c.in-Some.ensures.items c.in_ok-step.ensures

pub loop-work-preserved : goal.loop-work-preserved
loop-work-preserved c = record {
  same = turn_same c.args.terms.now c.law_arena.ensures c.loop-work.works.items c.pop.new.self.items c.step.new.works.items c.in-Some.work c.loop-work.done c.step.new.done c.in-Some.ensures.items c.in_ok-step.ensures _ c.loop-work.invariant.same;
  works_in = c.in_ok-step.ensures.works_in;
  done_in = c.in_ok-step.ensures.done_in;
}

pub loop-work-init : goal.loop-work-init
loop-work-init c =
    let s = starts_with c.args.terms.now c.law_arena.ensures c.args.roots.now c.push_visits.new.works.items c.new-works.result.items c.new-done.result c.in_ok-push_visits.ensures c.new-works.ensures.items c.new-done.ensures c.requires in
    record { same = s.same; works_in = s.works_in; done_in = s.done_in }
