use Rattle.std.proofs.Common.{◌<◌, length, arith, sym, ◌∙◌}
use Rattle.spv_explanations.proofs.equalities.Shown.{numbers-more}
use Rattle.spv_explanations.proofs.equalities.works.argument_numbers.Goals as goal

pub loop-place-preserved : goal.loop-place-preserved
loop-place-preserved c =
    let right : c.loop-place.place < length c.args.right.now = omega (arith, c.requires.many, c.loop-place-test.true) in
    numbers-more c.args.known.now c.args.left.now c.args.right.now c.loop-place.numbers c.push.new.self c.loop-place.place c.in-Some.number (record { 0 = 0 }) c.loop-place-test.true right c.loop-place.invariant
    (sym c.number.ensures ∙ c.in-Some.is) c.in_ok-push-in-Some.ensures.ok
