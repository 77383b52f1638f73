use Rattle.spv_proof.proofs.sums.Pairs.{args-below, none_in}
use Rattle.spv_proof.proofs.sums.Relations.{nothing-true, no-truth, eq-true, lt-true, le-true}
use Rattle.spv_proof.proofs.sums.reading.read_true.Goals as goal

pub number_pair-requires : goal.number_pair-requires
number_pair-requires c = args-below c.args.terms.now c.law_arena.ensures c.args.relation c.node-node.result.now c.node-node.ensures c.as_slice.result.now c.as_slice.ensures

pub returns-in-Eq-clause-value : goal.returns-in-Eq-clause-value
returns-in-Eq-clause-value c most shown =
    eq-true c.args.terms.now c.law_arena.ensures c.args.relation c.node-node.result.now c.node-node.ensures c.as_slice.result.now c.as_slice.ensures c.in-Some.left c.in-Some.right c.in-Some.ensures.value
    most shown c.new.result c.in-Eq.is c.new.ensures

pub returns-in-Lt-clause-value : goal.returns-in-Lt-clause-value
returns-in-Lt-clause-value c most shown =
    lt-true c.args.terms.now c.law_arena.ensures c.args.relation c.node-node.result.now c.node-node.ensures c.as_slice.result.now c.as_slice.ensures c.in-Some.left c.in-Some.right c.in-Some.ensures.value
    most shown c.new-in-Lt.result c.in-Lt.is c.new-in-Lt.ensures

pub returns-in-Le-clause-value : goal.returns-in-Le-clause-value
returns-in-Le-clause-value c most shown =
    le-true c.args.terms.now c.law_arena.ensures c.args.relation c.node-node.result.now c.node-node.ensures c.as_slice.result.now c.as_slice.ensures c.in-Some.left c.in-Some.right c.in-Some.ensures.value
    most shown c.new-in-Le.result c.in-Le.is c.new-in-Le.ensures

pub returns-in_default : goal.returns-in_default
returns-in_default c = record {
  value = λ most shown. nothing-true c.args.terms.now c.law_arena.ensures c.args.relation c.node-node.result.now c.node-node.ensures c.as_slice.result.now c.as_slice.ensures c.in_default.ensures.value;
  in_range = none_in _;
}

pub returns-in_default-head : goal.returns-in_default-head
returns-in_default-head c = record {
  value = λ most shown. no-truth c.args.terms.now c.law_arena.ensures c.args.relation c.node-node.result.now c.node-node.ensures c.as_slice.result.now c.as_slice.ensures c.in_default-head.not-Eq c.in_default-head.not-Lt c.in_default-head.not-Le;
  in_range = none_in _;
}
