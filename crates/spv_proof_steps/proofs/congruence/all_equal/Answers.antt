use Rattle.std.proofs.Common.{length, map, arith, ◌<◌}
use Rattle.spv_term.specs.Arena.{tree}
use Rattle.spv_proof_steps.proofs.StepLemmas.{AllBelow-read}
use Rattle.spv_proof_steps.proofs.Congruences.{other_lengths, other_count}
use Rattle.spv_proof_steps.proofs.congruence.all_equal.Goals as goal

pub returns-then-left-right : goal.returns-then-left-right
returns-then-left-right c = other_lengths (map (tree c.args.terms.now) c.args.facts.now) c.args.terms.now c.args.left.now c.args.right.now c.args.numbers.now c.if-left-right.true

pub returns-then-left-numbers : goal.returns-then-left-numbers
returns-then-left-numbers c = other_count (map (tree c.args.terms.now) c.args.facts.now) c.args.terms.now c.args.left.now c.args.right.now c.args.numbers.now c.if-left-numbers.true

pub says_equal-requires-clause-s : goal.says_equal-requires-clause-s
says_equal-requires-clause-s c = AllBelow-read (length c.args.terms.now.nodes) c.args.left.now c.loop-i.i _ c.requires.left c.loop-i-test.true

pub says_equal-requires-clause-t : goal.says_equal-requires-clause-t
says_equal-requires-clause-t c =
    let below : c.loop-i.i < length c.args.right.now = omega (arith, c.if-left-right.false, c.loop-i-test.true) in
    AllBelow-read (length c.args.terms.now.nodes) c.args.right.now c.loop-i.i _ c.requires.right below
