use Rattle.std.proofs.Common.{sym, subst, OnOk}
use Rattle.spv_search_terms.specs.declared.subterms.walk.Work.{Work}
use Rattle.spv_search_terms.specs.subterms.Walk.{WorkIn, IsStep}
use Rattle.spv_search_terms.proofs.subterms.WalkLemmas.{on_ok, step_finish}
use Rattle.spv_search_terms.proofs.subterms.walk.step.Goals as goal

pub returns-in-Finish : goal.returns-in-Finish
returns-in-Finish c =
    let t_in = subst (WorkIn c.args.terms.now) c.in-Finish.is c.requires.work in
    subst (λ (w : Work). OnOk c.add.result (IsStep c.args.terms.now w c.args.works.now.items c.args.done.now c.args.works.now.items c.add.new.self)) (sym c.in-Finish.is)
    (on_ok c.add.result _ _ c.add.ensures (step_finish c.args.terms.now c.law_arena.ensures c.args.works.now.items c.args.done.now c.requires.works c.requires.done c.in-Finish.t t_in c.add.new.self))
