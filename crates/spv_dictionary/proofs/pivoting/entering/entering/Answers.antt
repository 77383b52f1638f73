use Rattle.std.proofs.Common.{ℕ, ◌≡◌, length, subst, arith}
use Rattle.spv_dictionary.specs.updates.Shifts.{value_in}
use Rattle.spv_dictionary.specs.pivoting.Choosing.{limits_of, EntersFirst}
use Rattle.spv_dictionary.proofs.pivoting.Choices.{enters_more, none_enters, least_enters, if_some, if_none}
use Rattle.spv_dictionary.proofs.pivoting.entering.entering.Goals as goal

pub loop-slot-preserved : goal.loop-slot-preserved
loop-slot-preserved c =
    enters_more (limits_of (length c.args.dictionary.now.outside) c.args.trail.now.bounds) c.args.dictionary.now c.law_dictionary.ensures (value_in c.args.values.now) c.args.row c.args.side
    c.loop-slot.slot _ c.loop-slot.found c.in-Ok.next c.loop-slot.invariant c.in-Ok.ensures.value (omega arith)

pub returns-clause-some : goal.returns-clause-some
returns-clause-some c =
    let last : c.loop-slot.slot ≡ length c.args.dictionary.now.outside = omega (arith, c.loop-slot-test.false, c.loop-slot.auto.slot-end, c.slots-slot-end.ensures) in
    if_some c.loop-slot.found _
    (least_enters (limits_of (length c.args.dictionary.now.outside) c.args.trail.now.bounds) c.args.dictionary.now c.law_dictionary.ensures (value_in c.args.values.now) c.args.row c.args.side c.loop-slot.found
    (subst (λ (n : ℕ). EntersFirst (limits_of (length c.args.dictionary.now.outside) c.args.trail.now.bounds) c.args.dictionary.now (value_in c.args.values.now) c.args.row c.args.side n c.loop-slot.found) last c.loop-slot.invariant))

pub returns-clause-none : goal.returns-clause-none
returns-clause-none c =
    let last : c.loop-slot.slot ≡ length c.args.dictionary.now.outside = omega (arith, c.loop-slot-test.false, c.loop-slot.auto.slot-end, c.slots-slot-end.ensures) in
    if_none c.loop-slot.found _
    (none_enters (limits_of (length c.args.dictionary.now.outside) c.args.trail.now.bounds) c.args.dictionary.now c.law_dictionary.ensures (value_in c.args.values.now) c.args.row c.args.side c.loop-slot.found
    (subst (λ (n : ℕ). EntersFirst (limits_of (length c.args.dictionary.now.outside) c.args.trail.now.bounds) c.args.dictionary.now (value_in c.args.values.now) c.args.row c.args.side n c.loop-slot.found) last c.loop-slot.invariant))
