-- Proofs in which other steps stand where hypotheses were cited.
use Rattle.std.specs.Prelude.{◌≡◌, ℕ, List, map, slice_index_or}
use Rattle.spv_logic.specs.Terms.{Term}
use Rattle.spv_atoms.specs.declared.proofs.Step.{Step}
use Rattle.spv_atoms.specs.declared.proofs.Step.TheVariants as step
use Rattle.spv_atoms.specs.declared.proofs.ProofNode.{ProofNode}
use Rattle.spv_proof_rules.specs.Effects.{Question, effect}

-- a table has a step for each number of a hypothesis, from 0, which takes its place; a hypothesis of a number behind the table stays
abbrev pub exchanged_step : List Step → Step → Step
exchanged_step table (step.Given k) = slice_index_or table k (step.Given k)
exchanged_step table s = s

abbrev pub exchanged_steps : List Step → List Step → List Step
exchanged_steps table steps = map (exchanged_step table) steps

abbrev pub exchanged_node : List Step → ProofNode → ProofNode
exchanged_node table n = record { steps = exchanged_steps table n.steps; split = n.split }

abbrev pub exchanged_nodes : List Step → List ProofNode → List ProofNode
exchanged_nodes table nodes = map (exchanged_node table) nodes

-- where one question has a hypothesis, the step that takes its place does the same for the other; all else that steps look at is the same
-- for both
pub record Exchanges (e q : Question) (table : List Step) : Type 0 where
  pub shapes : e.shapes ≡ q.shapes
  pub decls : e.decls ≡ q.decls
  pub at : e.at ≡ q.at
  pub rules : e.rules ≡ q.rules
  pub effects : (k : ℕ) (facts : List Term) → effect e facts (step.Given k) ≡ effect q facts (exchanged_step table (step.Given k))
