use Rattle.std.proofs.Common.{◌≡◌, List, ℕ, length, sym, ap, ◌∙◌, subst}
use Rattle.spv_typing.specs.Merging.{alike_from}
use Rattle.spv_declaration_typing.specs.pointer_types.Rounds.{IsWithin}
use Rattle.spv_declaration_typing.proofs.pointer_types.Places.{same_numbers}
use Rattle.spv_declaration_typing.proofs.pointer_types.Alike.{after_within, stays_at_end}
use Rattle.spv_declaration_typing.proofs.pointer_types.firsts.all_rounds.Goals as goal

pub alike-requires : goal.alike-requires
alike-requires c = subst (IsWithin (length c.args.targets.now)) (sym (c.as_slice.ensures.value ∙ c.loop-round.invariant)) (after_within c.args.targets.now c.loop-round.round)

pub returns-then-eq : goal.returns-then-eq
returns-then-eq c =
    let same : c.in_ok-next.next.items ≡ c.loop-round.now.items =
    sym c.as_slice-in-loop-round.ensures.value
    ∙ (same_numbers c.as_slice-in-loop-round.result.now c.as_slice-in-loop-round-2.result.now (sym c.eq.ensures ∙ c.if-eq.true) ∙ c.as_slice-in-loop-round-2.ensures.value) in
    stays_at_end c.args.targets.now c.loop-round.round c.loop-round.now.items c.in_ok-next.next.items c.loop-round-test.true c.loop-round.invariant
    (c.in_ok-next.ensures ∙ ap (λ (known : List ℕ). alike_from c.args.targets.now known 0 c.args.targets.now) c.as_slice.ensures.value) same
