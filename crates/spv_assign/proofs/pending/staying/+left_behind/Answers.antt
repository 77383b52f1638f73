use Rattle.std.proofs.Common.{rules, ◌<◌, ◌≤◌, length, slice_index_or, refl, sym, ◌∙◌, arith}
use Rattle.spv_assign.proofs.pending.Unchanged.{arg_there, args_all, stays_over}
use Rattle.spv_assign.proofs.pending.staying.+left_behind.Goals as goal

pub left_behind-requires : goal.left_behind-requires
left_behind-requires t c =
    let there : (slice_index_or c.as_slice-args.result.now c.loop-arg.arg-index (record { 0 = 0 })).0 < length c.args.terms.now.nodes =
    arg_there c.args.terms.now c.law_arena.ensures c.args.t c.node.result.now c.as_slice-args.result.now c.loop-arg.arg-index _ _ c.node.ensures c.as_slice-args.ensures c.loop-arg-test.true refl in
    let falls : c.loop-arg.left < c.args.most = c.loop-arg.invariant.0 in
    search rules

pub returns-clause-stays : goal.returns-clause-stays
returns-clause-stays t c =
    let past : length c.as_slice-args.result.now ≤ c.loop-arg.arg-index = omega (arith, c.loop-arg-test.false) in
    stays_over c.args.terms.now c.args.pairs.now c.law_arena.ensures c.args.t c.node.result.now c.requires.pairs c.node.ensures (sym c.is_first.ensures ∙ c.if-is_first.false)
    (args_all c.args.terms.now c.args.pairs.now c.as_slice-args.result.now c.node.result.now.args c.loop-arg.arg-index c.as_slice-args.ensures past c.loop-arg.invariant.1)
