-- Where the terms of a proof and of the steps that take the place of hypotheses are in an arena, so are those of what comes of both.
use Rattle.std.proofs.Common.{ℕ, zero, suc, List, [], ◌∷◌, ◌++◌, take}
use Rattle.std.specs.Prelude.{Bool, slice_index_or}
use Rattle.spv_logic.specs.declared.conditions.TermId.{TermId}
use Rattle.spv_term.specs.Arena.{Arena}
use Rattle.spv_atoms.specs.declared.proofs.Step.{Step}
use Rattle.spv_atoms.specs.declared.proofs.Step.TheVariants as step
use Rattle.spv_atoms.specs.declared.proofs.ProofNode.{ProofNode}
use Rattle.spv_proof_rules.specs.Stand.{In, StepIn, StepsIn, NodesIn}
use Rattle.spv_verdicts.specs.declared.answers.trees.SplitNode.{SplitNode}
use Rattle.spv_verdicts.specs.declared.answers.trees.SplitNode.TheVariants as node
use Rattle.spv_verdicts.specs.answers.Views.{SplitNodesIn, CasesIn}
use Rattle.spv_verdicts.specs.translation.Exchanged.{exchanged_step, exchanged_steps, exchanged_nodes}
use Rattle.spv_verdicts.specs.translation.ExchangedTrees.{exchanged_split_nodes}
use Rattle.spv_verdicts.specs.translation.Replacements.{given_behind, replacements}

-- ---- exchanged steps

step-at : (a : Arena) (table : List Step) (k : ℕ) (s : Step) → StepsIn a table → StepIn a s → StepIn a (slice_index_or table k s)
step-at a [] k s h own = own
step-at a (r ∷ table) zero s h own = h.0
step-at a (r ∷ table) (suc k) s h own = step-at a table k s h.1 own

step-in : (a : Arena) (table : List Step) (s : Step) → StepsIn a table → StepIn a s → StepIn a (exchanged_step table s)
step-in a table (step.Given k) h own = step-at a table k (step.Given k) h own
step-in a table _ h own = own

steps-in : (a : Arena) (table steps : List Step) → StepsIn a table → StepsIn a steps → StepsIn a (exchanged_steps table steps)
steps-in a table [] h own = tt
steps-in a table (s ∷ steps) h own = (step-in a table s h own.0, steps-in a table steps h own.1)

pub nodes-in : (a : Arena) (table : List Step) (nodes : List ProofNode) → StepsIn a table → NodesIn a nodes → NodesIn a (exchanged_nodes table nodes)
nodes-in a table [] h own = tt
nodes-in a table (n ∷ nodes) h own = (steps-in a table n.steps h own.0, own.1, nodes-in a table nodes h own.2)

pub split-nodes-in : (a : Arena) (table : List Step) (nodes : List SplitNode) → StepsIn a table → SplitNodesIn a nodes → SplitNodesIn a (exchanged_split_nodes table nodes)
split-nodes-in a table [] h own = tt
split-nodes-in a table (node.Open ∷ nodes) h own = (own.0, split-nodes-in a table nodes h own.1)
split-nodes-in a table (node.Closed steps ∷ nodes) h own = (steps-in a table steps h own.0, split-nodes-in a table nodes h own.1)
split-nodes-in a table (node.Split t parts ∷ nodes) h own = (own.0, split-nodes-in a table nodes h own.1)

-- ---- the table

given-in : (a : Arena) (place n : ℕ) (steps : List Step) → StepsIn a steps → StepsIn a (given_behind place n ++ steps)
given-in a place zero steps h = h
given-in a place (suc n) steps h = (tt, given-in a (suc place) n steps h)

pub replacements-in : (a : Arena) (hypotheses : ℕ) (falsity : TermId) (steps : List Step) → In a falsity → StepsIn a steps → StepsIn a (replacements hypotheses falsity steps)
replacements-in a hypotheses falsity steps there h = (there, given-in a 0 hypotheses (step.Given 0 ∷ steps) (tt, h))

-- ---- branches

pub taken-in : (a : Arena) (n : ℕ) (branch : List (TermId × Bool)) → CasesIn a branch → CasesIn a (take n branch)
taken-in a zero branch h = tt
taken-in a (suc n) [] h = tt
taken-in a (suc n) (p ∷ branch) h = (h.0, taken-in a n branch h.1)
