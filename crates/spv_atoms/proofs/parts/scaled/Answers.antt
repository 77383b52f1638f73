use Rattle.std.proofs.Common.{rules, ◌<◌, length, refl, pos, arith}
use Rattle.std.proofs.lemmas.Int.{to_z-of_z}
use mir.Val.{to_z, of_z}
use mir.Syntax.{w128}
use Rattle.spv_atoms.proofs.Sums.{refused, part-narrow, scaling_turn, scaling_turn_wide, scaling_done}
use Rattle.spv_atoms.proofs.parts.scaled.Goals as goal

pub returns-in_default : goal.returns-in_default
returns-in_default c =
    let below : c.loop-part.part-index < length c.args.from.now = omega (arith, c.loop-part-test.true) in
    scaling_turn_wide (to_z w128 (of_z w128 c.args.factor)) c.args.from.now c.loop-part.parts.items c.loop-part.part-index (record { 0 = 0 }, pos 0) below c.loop-part.invariant c.args.factor _
    (to_z-of_z w128 c.args.factor (search rules))
    (part-narrow (to_z w128 (of_z w128 c.args.factor)) c.args.from.now c.loop-part.parts.items c.loop-part.part-index (record { 0 = 0 }, pos 0) below c.loop-part.invariant)
    (refused _ c.in_default.ensures.fits.1)

pub loop-part-preserved : goal.loop-part-preserved
loop-part-preserved c =
    let below : c.loop-part.part-index < length c.args.from.now = omega (arith, c.loop-part-test.true) in
    scaling_turn (to_z w128 (of_z w128 c.args.factor)) c.args.from.now c.loop-part.parts.items c.loop-part.part-index (record { 0 = 0 }, pos 0) below c.loop-part.invariant _
    c.in-Ok.number c.push_number.new.parts.items
    (part-narrow (to_z w128 (of_z w128 c.args.factor)) c.args.from.now c.loop-part.parts.items c.loop-part.part-index (record { 0 = 0 }, pos 0) below c.loop-part.invariant)
    c.in-Ok.ensures.value (c.in-Ok.ensures.fits.0 refl) c.in_ok-push_number.ensures

pub returns : goal.returns
returns c =
    scaling_done (to_z w128 (of_z w128 c.args.factor)) c.args.factor c.args.from.now c.loop-part.parts.items c.loop-part.part-index
    (to_z-of_z w128 c.args.factor (search rules)) (omega (arith, c.loop-part-test.false)) c.loop-part.invariant
