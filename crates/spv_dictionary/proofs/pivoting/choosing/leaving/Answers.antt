use Rattle.std.proofs.Common.{rules, ℕ, ◌≡◌, ◌<◌, length, subst, arith}
use Rattle.spv_dictionary.specs.updates.Shifts.{value_in}
use Rattle.spv_dictionary.specs.pivoting.Choosing.{limits_of, LeavesFirst}
use Rattle.spv_dictionary.proofs.pivoting.Choices.{leaves_more, none_leaves, least_leaves, if_some, if_none}
use Rattle.spv_dictionary.proofs.pivoting.choosing.leaving.Goals as goal

pub loop-place-preserved : goal.loop-place-preserved
loop-place-preserved c =
    let inside : c.loop-place.place < length c.args.trail.now.bounds = search rules in
    leaves_more c.args.dictionary.now (value_in c.args.values.now) c.args.trail.now.bounds c.loop-place.place _ c.loop-place.found c.in-Ok.next c.loop-place.invariant inside c.in-Ok.ensures.value (omega arith)

pub returns-clause-some : goal.returns-clause-some
returns-clause-some c =
    let last : c.loop-place.place ≡ length c.args.trail.now.bounds = omega (arith, c.loop-place-test.false, c.loop-place.auto.place-end, c.len-place-end.ensures) in
    if_some c.loop-place.found _
    (least_leaves c.args.dictionary.now (value_in c.args.values.now) c.args.trail.now.bounds c.loop-place.found
    (subst (λ (n : ℕ). LeavesFirst (limits_of (length c.args.dictionary.now.outside) c.args.trail.now.bounds) c.args.dictionary.now (value_in c.args.values.now) c.args.trail.now.bounds n c.loop-place.found) last c.loop-place.invariant))

pub returns-clause-none : goal.returns-clause-none
returns-clause-none c =
    let last : c.loop-place.place ≡ length c.args.trail.now.bounds = omega (arith, c.loop-place-test.false, c.loop-place.auto.place-end, c.len-place-end.ensures) in
    if_none c.loop-place.found _
    (none_leaves c.args.dictionary.now (value_in c.args.values.now) c.args.trail.now.bounds c.loop-place.found
    (subst (λ (n : ℕ). LeavesFirst (limits_of (length c.args.dictionary.now.outside) c.args.trail.now.bounds) c.args.dictionary.now (value_in c.args.values.now) c.args.trail.now.bounds n c.loop-place.found) last c.loop-place.invariant))
