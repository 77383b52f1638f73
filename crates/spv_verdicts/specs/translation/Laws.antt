-- What is true of what is refuted together with facts of schemas.
use Rattle.std.specs.Prelude.{◌≡◌, ℕ, ◌+◌, ◌≤◌, Bool, true, List, take, length}
use Rattle.spv_whole.specs.Fraction.{Fraction}
use Rattle.spv_logic.specs.declared.conditions.TermId.{TermId}
use Rattle.spv_logic.specs.declared.operators.Head.TheVariants.{False}
use Rattle.spv_logic.specs.Terms.{Term, term, no_terms}
use Rattle.spv_logic.specs.Formulas.{negation}
use Rattle.spv_atoms.specs.declared.proofs.Step.{Step}
use Rattle.spv_atoms.specs.declared.proofs.ProofNode.{ProofNode}
use Rattle.spv_atoms.specs.Atoms.{with_term}
use Rattle.spv_proof_rules.specs.Effects.{Question}
use Rattle.spv_proof_rules.specs.Accepted.{walk, closes, accepts}
use Rattle.spv_models.specs.leaf_models.Subterms.{is_among}
use Rattle.spv_models.specs.split_trees.Trees.{Tree}
use Rattle.spv_models.specs.split_trees.Kept.{IsKept}
use Rattle.spv_verdicts.specs.Verdicts.{condition_atoms, search_terms, Survives}
use Rattle.spv_verdicts.specs.Schemas.{enlarged, counted_terms, IsKeptOn, SurvivesFacts}
use Rattle.spv_verdicts.specs.translation.Exchanged.{Exchanges, exchanged_steps, exchanged_nodes}
use Rattle.spv_verdicts.specs.translation.ExchangedTrees.{exchanged_tree}
use Rattle.spv_verdicts.specs.translation.Replacements.{StateFacts, replacements}

-- ---- proofs

-- steps lead to where those with others in the place of hypotheses do
abbrev pub ExchangedLeads : Type 0
ExchangedLeads = (e q : Question) (table : List Step) → Exchanges e q table → (facts : List Term) (steps : List Step) → walk e facts steps ≡ walk q facts (exchanged_steps table steps)

-- nodes close the same paths
abbrev pub ExchangedCloses : Type 0
ExchangedCloses = (e q : Question) (table : List Step) → Exchanges e q table → (paths : List (List Term)) (nodes : List ProofNode) → closes e paths nodes ≡ closes q paths (exchanged_nodes table nodes)

-- so a proof of one question is one of the other
abbrev pub ExchangedIsAccepted : Type 0
ExchangedIsAccepted = (e q : Question) (table : List Step) → Exchanges e q table → (nodes : List ProofNode) → accepts e nodes ≡ true → accepts q (exchanged_nodes table nodes) ≡ true

-- ---- trees

-- a tree that is kept where all is refuted together is kept for the condition
abbrev pub ExchangedIsKept : Type 0
ExchangedIsKept = (q : Question) (table : List Step) → Exchanges (enlarged q) q table → (limit : ℕ) (tree : Tree) → IsKept (enlarged q) limit tree → IsKeptOn q limit (exchanged_tree table tree)

-- ---- the table

-- each hypothesis of what claims that all is refuted together is replaced by what does the same for the condition
abbrev pub ReplacementsExchange : Type 0
ReplacementsExchange = (q : Question) (falsity : TermId) (steps : List Step) → q.at falsity ≡ term False no_terms → StateFacts q steps → Exchanges (enlarged q) q (replacements (length q.sequent.given) falsity steps)

-- ---- branches

-- where a table survives with the truth of each atom of what is refuted together, the first ones are those of the condition's atoms
abbrev pub BranchSurvives : Type 0
BranchSurvives = (q : Question) (branch : List (Term × Bool)) (table : List (Term × Fraction)) → Survives (enlarged q) branch table → SurvivesFacts q (take (length (condition_atoms q)) branch) table

-- ---- terms

-- a search that refutes all together has no more terms than those that count and the negation of the goal
abbrev pub CountsAreClose : Type 0
CountsAreClose = (q : Question) → length (search_terms (enlarged q)) ≤ length (with_term (counted_terms q) (negation q.sequent.goal))

-- so it has at most one more than those that count
abbrev pub AtMostOneMore : Type 0
AtMostOneMore = (q : Question) → length (search_terms (enlarged q)) ≤ length (counted_terms q) + 1

-- and none where that negation counts
abbrev pub NoneMore : Type 0
NoneMore = (q : Question) → is_among (counted_terms q) (negation q.sequent.goal) ≡ true → length (search_terms (enlarged q)) ≤ length (counted_terms q)
