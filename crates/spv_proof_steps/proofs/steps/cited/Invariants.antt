use Rattle.std.proofs.Common.{◌≡◌, ℕ, drop, map}
use Rattle.spv_logic.specs.declared.conditions.TermId.{TermId}
use Rattle.spv_logic.specs.Terms.{Term}
use Rattle.spv_term.specs.Arena.{AllBelow}
use Rattle.spv_proof_rules.specs.Effects as spec
use Rattle.spv_proof_steps.proofs.StepLemmas.{before_all}
use Rattle.spv_proof_steps.proofs.steps.cited.Given as goal

abbrev pub invariant-loop-number : goal.invariant-loop-number
invariant-loop-number l = record {
  value : (at : TermId → Term) → before_all (map at l.list.items) (spec.cited (map at l.facts) (drop l.number-index l.numbers)) ≡ spec.cited (map at l.facts) l.numbers;
  in_range : (count : ℕ) → AllBelow count l.facts → AllBelow count l.list.items;
}
