use Rattle.std.proofs.Common.{sym}
use Rattle.spv_proof_steps.proofs.Looks.{equation_node, sides-equation, two_len, two_len_first, two_in, two_are, two_sorts, no_sides}
use Rattle.spv_proof_steps.proofs.Shown.{some_in, none_in}
use Rattle.spv_proof_steps.proofs.candidates.sides.Goals as goal

pub get-requires : goal.get-requires
get-requires c =
    let a = c.args.terms.now in
    two_len_first a c.law_arena.ensures c.args.t c.node-node.result.now c.node-node.ensures (equation_node a c.law_arena.ensures c.args.t c.node-node.result.now c.node-node.ensures c.in-Eq.is)

pub get-requires-in-Eq : goal.get-requires-in-Eq
get-requires-in-Eq c =
    let a = c.args.terms.now in
    two_len a c.law_arena.ensures c.args.t c.node-node.result.now c.node-node.ensures (equation_node a c.law_arena.ensures c.args.t c.node-node.result.now c.node-node.ensures c.in-Eq.is)

pub returns-in-Eq-clause-value : goal.returns-in-Eq-clause-value
returns-in-Eq-clause-value c =
    let a = c.args.terms.now in
    let o = equation_node a c.law_arena.ensures c.args.t c.node-node.result.now c.node-node.ensures c.in-Eq.is in
    sym (sides-equation a c.law_arena.ensures c.args.t c.node-node.result.now c.node-node.ensures c.get.result c.get-in-Eq.result c.in-Eq.is
    (two_are a c.law_arena.ensures c.args.t c.node-node.result.now c.node-node.ensures o c.get.result c.get-in-Eq.result c.get.ensures c.get-in-Eq.ensures))

pub returns-in-Eq-clause-in_range : goal.returns-in-Eq-clause-in_range
returns-in-Eq-clause-in_range c =
    let a = c.args.terms.now in
    let o = equation_node a c.law_arena.ensures c.args.t c.node-node.result.now c.node-node.ensures c.in-Eq.is in
    some_in _ (c.get.result, c.get-in-Eq.result) (two_in a c.law_arena.ensures c.args.t c.node-node.result.now c.node-node.ensures o c.get.result c.get-in-Eq.result c.get.ensures c.get-in-Eq.ensures)

pub returns-in-Eq-clause-sorted : goal.returns-in-Eq-clause-sorted
returns-in-Eq-clause-sorted c =
    let a = c.args.terms.now in
    let o = equation_node a c.law_arena.ensures c.args.t c.node-node.result.now c.node-node.ensures c.in-Eq.is in
    some_in _ (c.get.result, c.get-in-Eq.result) (two_sorts a c.law_arena.ensures c.args.t c.node-node.result.now c.node-node.ensures o c.get.result c.get-in-Eq.result c.get.ensures c.get-in-Eq.ensures)

pub returns-in_default : goal.returns-in_default
returns-in_default c = record {
  value = no_sides c.args.terms.now c.law_arena.ensures c.args.t c.node-node.result.now c.node-node.ensures c.in_default.not-Eq;
  in_range = none_in _;
  sorted = none_in _;
}
