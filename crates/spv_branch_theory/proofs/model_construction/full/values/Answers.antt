use Rattle.std.proofs.Common.{length, arith}
use Rattle.std.specs.Prelude.{false}
use Rattle.spv_branch_theory.proofs.model_construction.NumberLemmas.{node_at, item_in}
use Rattle.spv_branch_theory.proofs.model_construction.full.values.Goals as goal

pub push_if-requires-clause-t : goal.push_if-requires-clause-t
push_if-requires-clause-t c = item_in (length c.args.terms.now.nodes) c.args.ids.now c.loop-place.place (record { 0 = 0 }) c.requires.in_range (omega (arith, c.loop-place-test.true))

pub push_if-requires-clause-node : goal.push_if-requires-clause-node
push_if-requires-clause-node c =
    λ is. node_at c.args.both.now.trail.graph.nodes c.args.ids.now c.args.flags.now c.loop-place.place (record { 0 = 0 }) false c.requires.nodes (omega (arith, c.loop-place-test.true)) c.requires.flags is
