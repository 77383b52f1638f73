use Rattle.std.proofs.Common.{sym, map}
use Rattle.spv_term.specs.substitution.Images.{head_at}
use Rattle.spv_rules.specs.making.Sketching as spec
use Rattle.spv_rules.proofs.making.Sketched.{on_ok, step_known, step_inside}
use Rattle.spv_rules.proofs.making.sketching.visit.Goals as goal

pub returns-in-Some : goal.returns-in-Some
returns-in-Some c =
    on_ok c.write.result _ _ c.write.ensures
    (step_known (spec.id_for (map (head_at c.args.from.now) c.args.variables.now) c.args.values.now) c.args.from.now c.law_arena.ensures c.args.works.now.items c.args.out.now.items c.requires.works c.args.t c.in-Some.u c.node.result.now c.write.new.out.items c.node.ensures (sym c.in-Some.ensures))

pub returns-in-None : goal.returns-in-None
returns-in-None c =
    on_ok c.open.result _ _ c.open.ensures
    (step_inside (spec.id_for (map (head_at c.args.from.now) c.args.variables.now) c.args.values.now) c.args.from.now c.law_arena.ensures c.args.works.now.items c.args.out.now.items c.requires.works c.args.t c.node.result.now c.open.new.works.items c.node.ensures (sym c.in-None.ensures))
