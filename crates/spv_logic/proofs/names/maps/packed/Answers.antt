use Rattle.std.proofs.Common.{◌≡◌, ◌<◌, ◌*◌, ◌^◌, drop, rules, arith}
use Rattle.spv_logic.specs.names.Names.{AreBytes, packed}
use Rattle.spv_logic.proofs.names.Packed.{has_room}
use Rattle.spv_logic.proofs.names.maps.packed.Goals as goal

pub overflow_mul-number : goal.overflow_mul-number
overflow_mul-number c =
    let bytes : AreBytes c.args.text.now = record { each = λ k. (c.type_inv.text k).fits } in
    let room = has_room c.args.text.now c.loop-left.left bytes c.requires c.loop-left-test.true c.loop-left.invariant.0 in
    let same : c.loop-left.number ≡ packed (drop c.loop-left.left c.args.text.now) = c.loop-left.invariant.1 in
    omega (arith, room, same)

pub overflow_add-number : goal.overflow_add-number
overflow_add-number c =
    let bytes : AreBytes c.args.text.now = record { each = λ k. (c.type_inv.text k).fits } in
    let room = has_room c.args.text.now c.loop-left.left bytes c.requires c.loop-left-test.true c.loop-left.invariant.0 in
    let same : c.loop-left.number ≡ packed (drop c.loop-left.left c.args.text.now) = c.loop-left.invariant.1 in
    let digit : c.from.result < 256 = search rules in
    omega (arith, room, same, digit)
