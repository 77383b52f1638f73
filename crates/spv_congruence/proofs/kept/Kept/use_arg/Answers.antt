use Rattle.std.proofs.Common.{OnOk, length, map, sym, ap, ◌∙◌, subst}
use Rattle.spv_union_find.proofs.classes.Steps.{written}
use Rattle.spv_congruence.specs.Graph.{Waits}
use Rattle.spv_congruence.specs.Keep.{Kept, KeepsUses, uses_at}
use Rattle.spv_congruence.proofs.kept.Kept.use_arg.Goals as goal

pub returns-clause-keeps : goal.returns-clause-keeps
returns-clause-keeps c =
    let w = written c.self.inside.uses.len c.add_use.new.uses c.self.inside.uses.items (sym c.as_mut_slice.ensures.len ∙ ap length c.as_mut_slice.ensures.value) (c.add_use.ensures.many ∙ ap length c.as_mut_slice.ensures.value) in
    subst (λ us. KeepsUses c.args.self.now.uses (map (λ v. v.items) us)) (sym w)
    (subst (λ us. KeepsUses us (map (λ v. v.items) c.add_use.new.uses)) (ap (map (λ v. v.items)) c.as_mut_slice.ensures.value ∙ ap (λ (k : Kept). k.uses) c.self.view_is) c.add_use.ensures.keeps)

pub returns-clause-ok : goal.returns-clause-ok
returns-clause-ok c =
    let w = written c.self.inside.uses.len c.add_use.new.uses c.self.inside.uses.items (sym c.as_mut_slice.ensures.len ∙ ap length c.as_mut_slice.ensures.value) (c.add_use.ensures.many ∙ ap length c.as_mut_slice.ensures.value) in
    subst (λ us. OnOk c.add_use.result (Waits (uses_at (map (λ v. v.items) us) c.args.u.0) c.args.t)) (sym w) c.add_use.ensures.ok
