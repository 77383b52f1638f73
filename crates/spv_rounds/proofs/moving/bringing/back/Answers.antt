use Rattle.std.proofs.Common.{◌<◌, length, arith}
use Rattle.spv_logic.specs.declared.conditions.TermId.{TermId}
use Rattle.spv_rounds.proofs.moving.Brought.{back-more}
use Rattle.spv_rounds.proofs.moving.bringing.back.Goals as goal

pub loop-id-preserved : goal.loop-id-preserved
loop-id-preserved c =
    let t : TermId = record { 0 = c.loop-id.id } in
    let test = c.loop-id-test.true in
    let many = c.len-id-end.ensures.len in
    let there : c.loop-id.id < length c.args.from.now.nodes = omega (arith, test, many) in
    back-more c.args.own.now c.args.from.now c.loop-id.found.items c.put.new.places.items c.in_ok-u.u t there (c.requires.each t c.in_ok-u.u c.in_ok-u.ensures) c.loop-id.invariant c.put.ensures
