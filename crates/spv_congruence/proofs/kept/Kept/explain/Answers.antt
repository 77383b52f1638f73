use Rattle.std.proofs.Common.{◌<◌, sym, subst}
use Rattle.spv_congruence.specs.Keep.{graph}
use Rattle.spv_congruence.specs.Explained.{AreWorks, Owes, costs}
use Rattle.spv_congruence.proofs.Splits.{works_last, done_cheaper, done_works, done_leads}
use Rattle.spv_congruence.proofs.kept.Kept.explain.Goals as goal

pub explain_one-requires-clause-work : goal.explain_one-requires-clause-work
explain_one-requires-clause-work c = works_last (graph c.args.self.now) c.pop.new.self.items c.in-Some.work (subst (AreWorks (graph c.args.self.now)) c.in-Some.ensures.items c.loop-work.invariant.works)

pub loop-work-smaller : goal.loop-work-smaller
loop-work-smaller c = subst (λ ws. costs (graph c.args.self.now) c.explain_one.new.works.items < costs (graph c.args.self.now) ws) (sym c.in-Some.ensures.items)
    (done_cheaper (graph c.args.self.now) c.in-Some.work _ _ _ _ c.in_ok-explain_one.ensures)

pub loop-work-preserved : goal.loop-work-preserved
loop-work-preserved c =
    let i = c.loop-work.invariant in
    record {
      works = done_works (graph c.args.self.now) c.in-Some.work _ _ _ _ c.in_ok-explain_one.ensures (subst (AreWorks (graph c.args.self.now)) c.in-Some.ensures.items i.works);
      leads = λ k lim same. done_leads (graph c.args.self.now) c.in-Some.work _ _ _ _ c.in_ok-explain_one.ensures c.args.s c.args.t k lim
          (let h = i.leads k lim same in (h.0, h.1, subst (λ ws. Owes (graph c.args.self.now) k h.0 ws c.args.t) c.in-Some.ensures.items h.2));
    }
