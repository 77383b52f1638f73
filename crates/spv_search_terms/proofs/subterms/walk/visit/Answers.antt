use Rattle.std.proofs.Common.{sym, ◌∙◌}
use Rattle.spv_search_terms.proofs.subterms.WalkLemmas.{on_ok, step_known, step_inside}
use Rattle.spv_search_terms.proofs.subterms.walk.visit.Goals as goal

pub returns-then-has : goal.returns-then-has
returns-then-has c = step_known c.args.terms.now c.law_arena.ensures c.args.works.now.items c.args.done.now c.requires.works c.requires.done c.args.t c.requires.t (sym c.has.ensures ∙ c.if-has.true)

pub returns : goal.returns
returns c =
    on_ok c.push_inside.result _ _ c.push_inside.ensures
    (step_inside c.args.terms.now c.law_arena.ensures c.args.works.now.items c.args.done.now c.requires.works c.requires.done c.args.t c.requires.t c.push_inside.new.works.items (sym c.has.ensures ∙ c.if-has.false))
