use Rattle.spv_atoms.proofs.Walks.{args_at}
use Rattle.spv_atoms.proofs.Values.{computed_at, inside_at}
use Rattle.spv_atoms.proofs.valued.computed.Goals as goal

pub computed_over-requires-clause-args : goal.computed_over-requires-clause-args
computed_over-requires-clause-args c = args_at c.args.terms.now c.law_arena.ensures c.args.t c.node-node.result.now c.node-node.ensures c.as_slice.result.now c.as_slice.ensures

pub computed_over-requires-clause-inside : goal.computed_over-requires-clause-inside
computed_over-requires-clause-inside c =
    inside_at c.args.terms.now c.law_arena.ensures c.args.order.now c.args.found.now c.args.t c.node-node.result.now c.as_slice.result.now c.node-node.ensures c.as_slice.ensures c.requires.inside

pub returns : goal.returns
returns c given valued =
    computed_at c.args.terms.now c.law_arena.ensures c.args.t c.node-node.result.now c.as_slice.result.now given c.computed_over.result c.node-node.ensures c.as_slice.ensures (c.computed_over.ensures given valued)
