use Rattle.std.proofs.Common.{◌++◌, ◌≡◌, length, ap, sym, subst, ◌∙◌, arith}
use Rattle.std.specs.Option.{option_to_list}
use Rattle.spv_union_find.specs.classes.Classes as spec
use Rattle.spv_union_find.proofs.classes.Steps.{written, last_lower, last_upper, last_size, last_next, taken_back}
use Rattle.spv_union_find.proofs.classes.classes.Classes.pop.Goals as goal

pub unlink-requires-clause-lower : goal.unlink-requires-clause-lower
unlink-requires-clause-lower c = last_lower _ _ _ _ _ (c.pop.ensures.items ∙ ap (λ o. c.pop.new.self.items ++ option_to_list o) c.unwrap-join.ensures) c.self.invariant.points c.self.invariant.joins c.as_mut_slice.ensures.value

pub unlink-requires-clause-upper : goal.unlink-requires-clause-upper
unlink-requires-clause-upper c = last_upper _ _ _ _ _ (c.pop.ensures.items ∙ ap (λ o. c.pop.new.self.items ++ option_to_list o) c.unwrap-join.ensures) c.self.invariant.points c.self.invariant.joins c.as_mut_slice.ensures.value

pub unlink-requires-clause-size : goal.unlink-requires-clause-size
unlink-requires-clause-size c = last_size _ _ _ _ _ (c.pop.ensures.items ∙ ap (λ o. c.pop.new.self.items ++ option_to_list o) c.unwrap-join.ensures) c.self.invariant.points c.self.invariant.joins c.as_mut_slice.ensures.value

pub unlink-requires-clause-next : goal.unlink-requires-clause-next
unlink-requires-clause-next c = last_next _ _ _ _ _ (c.pop.ensures.items ∙ ap (λ o. c.pop.new.self.items ++ option_to_list o) c.unwrap-join.ensures) c.self.invariant.points c.self.invariant.joins c.as_mut_slice.ensures.value

pub invariant_of-self : goal.invariant_of-self
invariant_of-self c =
    let k = taken_back _ _ _ _ _ (c.pop.ensures.items ∙ ap (λ o. c.pop.new.self.items ++ option_to_list o) c.unwrap-join.ensures) c.self.invariant.points c.self.invariant.joins c.as_mut_slice.ensures.value _ _ c.unlink.ensures (λ e. written _ _ _ (sym c.as_mut_slice.ensures.len ∙ ap length c.as_mut_slice.ensures.value) e) in
    record { points = k.points; joins = k.joins; room = omega (arith, k.many, c.pop.ensures.capacity, c.self.invariant.room) }
