use Rattle.spv_trimming.proofs.Decided.{given-there, goal-there, proof-there, stays-decided}
use Rattle.spv_trimming.proofs.deciding.with_shorter_proof.Goals as goal

pub trimmed-requires : goal.trimmed-requires
trimmed-requires c = record {
  given = given-there c.args.decided c.requires.decided;
  goal = goal-there c.args.decided c.requires.decided;
  proof = proof-there c.args.decided.terms c.args.decided.condition c.args.decided.verdict c.in-Proved.proof c.in-Proved.is c.requires.decided;
}

pub returns-in_ok-shorter-in-Proved : goal.returns-in_ok-shorter-in-Proved
returns-in_ok-shorter-in-Proved c = record {
  decided = stays-decided c.args.decided.terms c.trimmed.new.terms c.args.decided.condition c.args.decided.verdict c.in_ok-shorter-in-Proved.shorter c.trimmed.ensures.grows
      c.in_ok-shorter-in-Proved.ensures.proof;
}
