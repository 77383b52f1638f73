use Rattle.std.proofs.Common.{map}
use Rattle.spv_term.specs.Arena.{tree}
use Rattle.spv_term.proofs.ArenaLemmas.{args_in_range}
use Rattle.spv_proof_steps.proofs.Congruences.{congruent_nodes, other_heads}
use Rattle.spv_proof_steps.proofs.congruence.is_congruent.Goals as goal

pub all_equal-requires-clause-left : goal.all_equal-requires-clause-left
all_equal-requires-clause-left c = rw c.as_slice.ensures (args_in_range c.args.terms.now c.law_arena.ensures c.args.t c.node-left.result.now c.node-left.ensures)

pub all_equal-requires-clause-right : goal.all_equal-requires-clause-right
all_equal-requires-clause-right c = rw c.as_slice-then-same_head.ensures (args_in_range c.args.terms.now c.law_arena.ensures c.args.u c.node-right.result.now c.node-right.ensures)

pub returns-then-same_head : goal.returns-then-same_head
returns-then-same_head c =
    congruent_nodes c.args.terms.now c.law_arena.ensures c.args.t c.args.u c.node-left.result.now c.node-right.result.now c.node-left.ensures c.node-right.ensures (map (tree c.args.terms.now) c.args.facts.now) c.args.numbers.now
    c.as_slice.result.now c.as_slice-then-same_head.result.now c.as_slice.ensures c.as_slice-then-same_head.ensures c.same_head.result c.same_head.ensures c.all_equal.result c.all_equal.ensures c.if-same_head.true

pub returns-else-same_head : goal.returns-else-same_head
returns-else-same_head c =
    other_heads c.args.terms.now c.law_arena.ensures c.args.t c.args.u c.node-left.result.now c.node-right.result.now c.node-left.ensures c.node-right.ensures (map (tree c.args.terms.now) c.args.facts.now) c.args.numbers.now
    c.same_head.result c.same_head.ensures c.if-same_head.false
