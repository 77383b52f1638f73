use Rattle.std.proofs.Common.{◌∙◌}
use Rattle.spv_search_terms.proofs.condition_copy.Exits.{on_ok, if_ok}
use Rattle.spv_search_terms.proofs.condition_copy.CopyLemmas.{one_args, one_sorts, one_types, one_numeral, one_tree, gains_as, stops_as}
use Rattle.spv_search_terms.proofs.condition_copy.copying.copy_one.Goals as goal

pub made-requires-clause-args : goal.made-requires-clause-args
made-requires-clause-args c =
    one_args c.args.terms.now c.law_arena.ensures c.args.new.now c.law_arena-2.ensures c.args.order.now c.args.images.now c.requires.images c.args.t c.node-node.result.now c.node-node.ensures
    (c.requires.ready c.node-node.result.now c.node-node.ensures) c.as_slice.result.now c.as_slice-2.result.now c.as_slice.ensures (c.as_slice-2.ensures.value ∙ c.in_ok-args.ensures)

pub made-requires-clause-sorts : goal.made-requires-clause-sorts
made-requires-clause-sorts c =
    one_sorts c.args.terms.now c.law_arena.ensures c.args.new.now c.law_arena-2.ensures c.args.order.now c.args.images.now c.requires.images c.args.t c.node-node.result.now c.node-node.ensures
    (c.requires.ready c.node-node.result.now c.node-node.ensures) c.as_slice.result.now c.as_slice-2.result.now c.as_slice.ensures (c.as_slice-2.ensures.value ∙ c.in_ok-args.ensures)

pub made-requires-clause-types : goal.made-requires-clause-types
made-requires-clause-types c =
    one_types c.args.terms.now c.law_arena.ensures c.args.new.now c.law_arena-2.ensures c.args.order.now c.args.images.now c.requires.images c.args.t c.node-node.result.now c.node-node.ensures
    (c.requires.ready c.node-node.result.now c.node-node.ensures) c.as_slice.result.now c.as_slice-2.result.now c.as_slice.ensures (c.as_slice-2.ensures.value ∙ c.in_ok-args.ensures)

pub made-requires-clause-numeral : goal.made-requires-clause-numeral
made-requires-clause-numeral c =
    one_numeral c.args.terms.now c.law_arena.ensures c.args.new.now c.law_arena-2.ensures c.args.order.now c.args.images.now c.requires.images c.args.t c.node-node.result.now c.node-node.ensures
    (c.requires.ready c.node-node.result.now c.node-node.ensures) c.as_slice.result.now c.as_slice-2.result.now c.as_slice.ensures (c.as_slice-2.ensures.value ∙ c.in_ok-args.ensures)

pub returns-clause-gains : goal.returns-clause-gains
returns-clause-gains c =
    on_ok c.made.result _ _ c.made.ensures.gains
    (gains_as c.args.new.now c.made.new.terms _ _
    (one_tree c.args.terms.now c.law_arena.ensures c.args.new.now c.law_arena-2.ensures c.args.order.now c.args.images.now c.requires.images c.args.t c.node-node.result.now c.node-node.ensures
    (c.requires.ready c.node-node.result.now c.node-node.ensures) c.as_slice.result.now c.as_slice-2.result.now c.as_slice.ensures (c.as_slice-2.ensures.value ∙ c.in_ok-args.ensures)))

pub returns-clause-tree : goal.returns-clause-tree
returns-clause-tree c =
    if_ok c.made.result _ _ c.made.ensures.tree
    (λ u e. e
    ∙ one_tree c.args.terms.now c.law_arena.ensures c.args.new.now c.law_arena-2.ensures c.args.order.now c.args.images.now c.requires.images c.args.t c.node-node.result.now c.node-node.ensures
    (c.requires.ready c.node-node.result.now c.node-node.ensures) c.as_slice.result.now c.as_slice-2.result.now c.as_slice.ensures (c.as_slice-2.ensures.value ∙ c.in_ok-args.ensures))

pub returns-clause-size : goal.returns-clause-size
returns-clause-size c =
    λ is.
    stops_as c.args.new.now _ _
    (one_tree c.args.terms.now c.law_arena.ensures c.args.new.now c.law_arena-2.ensures c.args.order.now c.args.images.now c.requires.images c.args.t c.node-node.result.now c.node-node.ensures
    (c.requires.ready c.node-node.result.now c.node-node.ensures) c.as_slice.result.now c.as_slice-2.result.now c.as_slice.ensures (c.as_slice-2.ensures.value ∙ c.in_ok-args.ensures))
    (c.made.ensures.size is)
