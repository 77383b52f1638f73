-- A proof over an arena as a listing says it.
use Rattle.std.specs.Prelude.{ℕ, true, false, List, map, length}
use Rattle.std.specs.Option.{option_map}
use Rattle.spv_logic.specs.declared.conditions.TermId.{TermId}
use Rattle.spv_logic.specs.Terms.{Term}
use Rattle.spv_logic.specs.Formulas.{negation, equation}
use Rattle.spv_atoms.specs.declared.proofs.Relation.{Relation}
use Rattle.spv_atoms.specs.declared.proofs.Relation.TheVariants.{AtMost, Equal}
use Rattle.spv_atoms.specs.declared.proofs.Stated.{Stated}
use Rattle.spv_atoms.specs.declared.proofs.Stated.TheVariants.{Is, Same}
use Rattle.spv_atoms.specs.declared.proofs.Step as own
use Rattle.spv_atoms.specs.declared.proofs.Step.TheVariants as step
use Rattle.spv_atoms.specs.declared.proofs.Split as own_split
use Rattle.spv_atoms.specs.declared.proofs.ProofNode as own_node
use Rattle.spv_proof_rules.specs.Effects.{at_most}
use Rattle.spv_listing_values.specs.declared.data.Step.{Step}
use Rattle.spv_listing_values.specs.declared.data.Step.TheVariants as says
use Rattle.spv_listing_values.specs.declared.data.Split.{Split}
use Rattle.spv_listing_values.specs.declared.data.ProofNode.{ProofNode}
use Rattle.spv_listing_values.specs.Places.{name_at}

-- a relation of two whole numbers
abbrev pub relation_at : (TermId → Term) → Relation → Term
relation_at at (AtMost s t) = at_most (at s) (at t)
relation_at at (Equal s t) = equation (at s) (at t)

-- what an evaluation states
abbrev pub stated_at : (TermId → Term) → Stated → Term
stated_at at (Is t true) = at t
stated_at at (Is t false) = negation (at t)
stated_at at (Same s t) = equation (at s) (at t)

-- a step, where ids stand for terms
abbrev pub listed_step : List (List ℕ) → (TermId → Term) → own.Step → Step Term
listed_step names at (step.Given k) = says.Given k
listed_step names at (step.Refl t) = says.Refl (at t)
listed_step names at (step.Symm i) = says.Symm i
listed_step names at (step.Trans i j) = says.Trans i j
listed_step names at (step.Cong t u facts) = says.Cong (at t) (at u) facts
listed_step names at (step.Linear r first second) = says.Linear (relation_at at r) first second
listed_step names at (step.Schema k ts field) = says.Schema k (map at ts) (option_map (name_at names) field)
listed_step names at (step.Rule r ts) = says.Rule r (map at ts)
listed_step names at (step.Eval s facts) = says.Eval (stated_at at s) facts
listed_step names at (step.Contra i j) = says.Contra i j

abbrev pub listed_split : (TermId → Term) → own_split.Split → Split Term
listed_split at s = record { cases = length s.parts; atom = at s.atom }

abbrev pub listed_node : List (List ℕ) → (TermId → Term) → own_node.ProofNode → ProofNode Term
listed_node names at n = record { steps = map (listed_step names at) n.steps; split = option_map (listed_split at) n.split }

-- the nodes of a proof
abbrev pub listed_nodes : List (List ℕ) → (TermId → Term) → List own_node.ProofNode → List (ProofNode Term)
listed_nodes names at nodes = map (listed_node names at) nodes
