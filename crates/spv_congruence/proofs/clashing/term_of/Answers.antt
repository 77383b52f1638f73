use Rattle.std.proofs.Common.{arith}
use Rattle.spv_union_find.proofs.classes.Lists.{get_within}
use Rattle.spv_congruence.proofs.clashing.term_of.Goals as goal

pub unreachable-requires : goal.unreachable-requires
unreachable-requires c =
    let t = c.requires in
    let w = get_within c.args.terms.now t.0 t.1.0 t.1.1.0 in
    let e = c.loop-t-test.false in
    c.loop-t.invariant.none t.0 t.1.0 (omega (arith, w, e)) t.1.1.0 t.1.1.1
