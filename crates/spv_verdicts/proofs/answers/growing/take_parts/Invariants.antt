use Rattle.spv_verdicts.proofs.answers.GrownTrees.{Taking}
use Rattle.spv_verdicts.proofs.answers.growing.take_parts.Given as goal

abbrev pub invariant-loop : goal.invariant-loop
invariant-loop l = Taking l.fn.roots.items l.roots.items l.parts l.counter
