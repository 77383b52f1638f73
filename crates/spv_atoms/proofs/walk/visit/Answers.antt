use Rattle.std.proofs.Common.{sym, ◌∙◌}
use Rattle.spv_atoms.proofs.Walks.{on_ok, step_known, step_leaf, step_finish, step_inside}
use Rattle.spv_atoms.proofs.walk.visit.Goals as goal

pub returns-then-has : goal.returns-then-has
returns-then-has c =
    step_known c.args.terms.now c.law_arena.ensures c.args.through c.args.works.now.items c.args.done.now c.requires.works c.requires.done c.args.t c.requires.t (sym c.has.ensures ∙ c.if-has.true)

pub returns-then-enters : goal.returns-then-enters
returns-then-enters c =
    on_ok c.push_inside.result _ _ c.push_inside.ensures
    (step_inside c.args.terms.now c.law_arena.ensures c.args.through c.args.works.now.items c.args.done.now c.requires.works c.requires.done c.args.t c.requires.t c.push_inside.new.works.items (sym c.has.ensures ∙ c.if-has.false) (sym c.enters.ensures ∙ c.if-enters.true))

pub returns-else-enters : goal.returns-else-enters
returns-else-enters c =
    on_ok c.add.result _ _ c.add.ensures
    (λ e. step_leaf c.args.terms.now c.law_arena.ensures c.args.through c.args.works.now.items c.args.done.now c.requires.works c.requires.done c.args.t c.requires.t c.add.new.self (sym c.has.ensures ∙ c.if-has.false) (sym c.enters.ensures ∙ c.if-enters.false)
    (step_finish c.args.terms.now c.law_arena.ensures c.args.through c.args.works.now.items c.args.done.now c.requires.works c.requires.done c.args.t c.requires.t c.add.new.self e))
