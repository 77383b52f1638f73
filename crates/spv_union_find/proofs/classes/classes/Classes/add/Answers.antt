use Rattle.std.proofs.Common.{ℕ, List, is_ok, if◌then◌else◌, ◌++◌, ◌∷◌, [], ◌≡◌, length, ap, sym, subst, ◌∙◌, arith}
use Rattle.spv_union_find.specs.declared.classes.joins.Join.{Join}
use Rattle.spv_union_find.specs.classes.Classes as spec
use Rattle.spv_union_find.proofs.classes.Steps.{written, nexts_in, fit, few, added}
use Rattle.spv_union_find.proofs.classes.classes.Classes.add.Goals as goal

is_join : (s : spec.Classes) (n : ℕ) (js : List Join) (j : Join) → s ≡ record { count = n; joins = js } → spec.IsJoin s.count s.joins j → spec.IsJoin n js j
is_join s n js j e h = subst (λ (r : spec.Classes). spec.IsJoin r.count r.joins j) e h

pub link-requires-clause-next : goal.link-requires-clause-next
link-requires-clause-next c = nexts_in _ _ _ c.self.invariant.points c.self.invariant.joins c.as_mut_slice.ensures.value

pub link-requires-clause-fits : goal.link-requires-clause-fits
link-requires-clause-fits c = fit _ _ _ c.self.invariant.points c.self.invariant.joins c.as_mut_slice.ensures.value c.args.join (is_join _ _ _ c.args.join (sym c.self.view_is) c.requires)

pub unwrap-requires : goal.unwrap-requires
unwrap-requires c = (
    let f = few _ _ _ c.self.invariant.points c.self.invariant.joins c.as_mut_slice.ensures.value c.args.join (is_join _ _ _ c.args.join (sym c.self.view_is) c.requires) in
    let v = ap length c.as_slice-place.ensures.value in
    c.push.ensures.succeeds (omega (arith, f, v, c.as_slice-place.ensures.len, c.self.invariant.room)))

pub invariant_of-self : goal.invariant_of-self
invariant_of-self c =
    let k = added _ _ _ c.self.invariant.points c.self.invariant.joins c.as_mut_slice.ensures.value c.args.join (is_join _ _ _ c.args.join (sym c.self.view_is) c.requires) _ _ _ _ c.link.ensures (ap length c.as_slice-place.ensures.value) (c.push.ensures.items ∙ ap (λ r. if is_ok r then c.self.inside.joins.items ++ c.args.join ∷ [] else c.self.inside.joins.items) c.unwrap.ensures) (λ e. written _ _ _ (sym c.as_mut_slice.ensures.len ∙ ap length c.as_mut_slice.ensures.value) e) in
    record { points = k.points; joins = k.joins; room = omega (arith, k.many, c.push.ensures.capacity, c.self.invariant.room) }
