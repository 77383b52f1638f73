-- Relations that sums show, over an arena.
use Rattle.std.specs.Prelude.{◌≡◌, ℕ, List, map, Option, Some, IfSome}
use Rattle.spv_whole.specs.Fraction.{Fraction}
use Rattle.spv_logic.specs.declared.conditions.TermId.{TermId}
use Rattle.spv_logic.specs.Conditions.{Sequent}
use Rattle.spv_term.specs.Arena.{Arena, tree, trees_of}
use Rattle.spv_atoms.specs.declared.proofs.Relation.{Relation}
use Rattle.spv_proof_rules.specs.Effects as effects
use Rattle.spv_proof_rules.specs.Stops.{Halt}
use Rattle.spv_proof_rules.specs.Outcomes.{Trial, does_unless, halt_of_sums}
use Rattle.spv_proof_steps.specs.Steps.{asked}
use Rattle.spv_proof.specs.declared.checker.stops.CheckStop.{CheckStop}
use Rattle.spv_proof.specs.declared.checker.stops.CheckStop.TheVariants.{Memory}
use Rattle.spv_proof.specs.checker.Ends.{halt_at, FormIn}

-- what a step comes to that adds a relation by sums
abbrev pub linear_trial : Arena → Sequent → List TermId → Relation → List (Fraction × ℕ) → List (Fraction × ℕ) → Trial
linear_trial a c facts r first second =
    does_unless (halt_of_sums a.most (asked a c) (trees_of a.nodes) (map (tree a) facts) r first second) (effects.linear (asked a c) (map (tree a) facts) r first second)

-- an error is how a sum halts; for want of memory the arena is as it was
pub record IsSumStop (old new : Arena) (e : CheckStop) (o : Option Halt) : Type 0 where
  pub told : IfSome (halt_at new e) (λ h. o ≡ Some h)
  pub form : FormIn new e
  pub unchanged : e ≡ Memory → new ≡ old
