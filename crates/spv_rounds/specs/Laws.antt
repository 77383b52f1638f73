-- What is true of rounds.
use Rattle.std.specs.Prelude.{◌≡◌, ℕ, ◌^◌, ◌<◌, Bool, true, List, [], map, length, Option, Some, None}
use Rattle.spv_whole.specs.Fraction.{Fraction}
use Rattle.spv_logic.specs.declared.conditions.TermId.{TermId}
use Rattle.spv_logic.specs.declared.operators.Head.TheVariants.{False}
use Rattle.spv_logic.specs.Terms.{Term, term, no_terms}
use Rattle.spv_atoms.specs.Order.{passing}
use Rattle.spv_atoms.specs.declared.proofs.Step.{Step}
use Rattle.spv_atoms.specs.declared.proofs.Step.TheVariants as step
use Rattle.spv_atoms.specs.declared.proofs.ProofNode.{ProofNode}
use Rattle.spv_proof_rules.specs.Accepted.{accepts}
use Rattle.spv_proof_rules.specs.Effects.{Question, is_truth, rule_stated}
use Rattle.spv_term.specs.Arena.{Arena}
use Rattle.spv_table.specs.Tables.{IsTable}
use Rattle.spv_table.specs.Values.{listed_in}
use Rattle.spv_models.specs.leaf_models.Subterms.{is_among, is_listed, subterms}
use Rattle.spv_models.specs.leaf_models.Tables.{formulas_of, Falsifies}
use Rattle.spv_verdicts.specs.Exact.{is_exactly_true}
use Rattle.spv_verdicts.specs.Verdicts.{Limits, Instance, Round, Splits, Unproved, with_all_atoms}
use Rattle.spv_models.specs.split_trees.Trees.{Tree}
use Rattle.spv_models.specs.split_trees.Paths.{atoms}
use Rattle.spv_verdicts.specs.Schemas.{IsKeptOn, IsReachedWith, IsRightWith, enlarged, further_facts}
use Rattle.spv_verdicts.specs.translation.ExchangedTrees.{exchanged_tree}
use Rattle.spv_rounds.specs.Right.{IsKeptUnder, IsReachedUnder, IsRightUnder}
use Rattle.spv_verdicts.specs.translation.Exchanged.{exchanged_nodes}
use Rattle.spv_verdicts.specs.translation.Replacements.{replacements}
use Rattle.spv_rounds.specs.Atoms.{facts_with, stated_with, atoms_with, listed_with, IsFailureIn}
use Rattle.spv_rounds.specs.Claims.{claim, formulas, FalsifiesWith}
use Rattle.spv_rounds.specs.Rounds.{AreRounds}

-- without rules no round is made
abbrev pub NoRoundsWithoutRules : Type 0
NoRoundsWithoutRules = (q : Question) → q.rules ≡ [] → (rounds : List Round) → AreRounds q [] rounds → rounds ≡ []

-- ---- proofs

-- what a step of a rule says
abbrev pub said_by : Question → Step → Option Term
said_by q (step.Rule number ts) = rule_stated q number ts
said_by q _ = None

-- these steps say these formulas, one by one
abbrev pub StepsSay : Question → List Step → List Term → Type 0
StepsSay q steps fs = map (said_by q) steps ≡ map Some fs

-- a proof that all is refuted, without rules, is one of the condition under the rules, where steps of rules take the place of what they say
abbrev pub AnsweredUnder : Type 0
AnsweredUnder = (q : Question) (fs : List Term) (falsity : TermId) (steps : List Step) → q.at falsity ≡ term False no_terms → StepsSay q steps fs
    → (nodes : List ProofNode) → accepts (claim q fs) nodes ≡ true → accepts q (exchanged_nodes (replacements (length q.sequent.given) falsity steps) nodes) ≡ true

-- ---- trees

-- and a tree that is kept then is kept for the condition
abbrev pub KeptUnder : Type 0
KeptUnder = (q : Question) (fs : List Term) (falsity : TermId) (steps : List Step) → q.at falsity ≡ term False no_terms → StepsSay q steps fs
    → (limit : ℕ) (tree : Tree) → IsKeptOn (claim q fs) limit tree → IsKeptUnder q fs limit (exchanged_tree (replacements (length q.sequent.given) falsity steps) tree)

-- ---- splits

-- where facts of schemas are at hand, a search that gave up for want of splits was allowed fewer than 3 to the power of the number of atoms of
-- the condition and these facts: allowed as many, it decides or meets another limit
abbrev pub SplitsAreFewWith : Type 0
SplitsAreFewWith = (a : Arena) (q : Question) (limits : Limits) (tree : Tree) → IsReachedWith a q limits (Splits tree) → limits.splits < 3 ^ length (atoms_with q [])

-- and under rules, where these instances were added, of the atoms of what they say too
abbrev pub SplitsAreFewUnder : Type 0
SplitsAreFewUnder = (a : Arena) (q : Question) (limits : Limits) (instances : List Instance) (tree : Tree) → IsReachedUnder a q limits instances (Splits tree)
    → limits.splits < 3 ^ length (atoms_with q (formulas q instances))

-- ---- tables

-- in each table in which the hypotheses are true, by exact numbers, the goal is
abbrev pub IsTrueInEachTable : Question → Type 0
IsTrueInEachTable q = (table : List (Term × Fraction)) → IsTable q.shapes q.decls table → ((f : Term) → is_among q.sequent.given f ≡ true → is_exactly_true (listed_in table) f ≡ true)
    → is_exactly_true (listed_in table) q.sequent.goal ≡ true

-- such a condition is never Unproved, where facts of schemas are at hand
abbrev pub TrueIsNotUnproved : Type 0
TrueIsNotUnproved = (a : Arena) (q : Question) (limits : Limits) (branch : List (Term × Bool)) (table : List (Term × Fraction)) (instances : List Instance) → IsTrueInEachTable q
    → IsRightWith a q limits (Unproved branch table instances) → ⊥

-- and under rules, whatever they are
abbrev pub TrueIsNotUnprovedUnder : Type 0
TrueIsNotUnprovedUnder = (a : Arena) (q : Question) (limits : Limits) (branch : List (Term × Bool)) (table : List (Term × Fraction)) (instances : List Instance) → IsTrueInEachTable q
    → IsRightUnder a q limits (Unproved branch table instances) → ⊥

-- ---- atoms and tables

-- the facts of schemas that are refuted together with what instances say are those about the terms that the condition and these formulas use
abbrev pub FactsAreOfUsed : Type 0
FactsAreOfUsed = (q : Question) (fs : List Term) → further_facts (claim q fs) ≡ facts_with q fs

-- the atoms of all that is refuted where facts of schemas are at hand, as a list, are those of the condition and of the facts
abbrev pub AtomsAreDefinedWith : Type 0
AtomsAreDefinedWith = (q : Question) → atoms (enlarged q) ≡ atoms_with q []

-- and under rules those of the condition, of what instances say and of the facts
abbrev pub AtomsAreDefinedUnder : Type 0
AtomsAreDefinedUnder = (q : Question) (fs : List Term) → atoms (enlarged (claim q fs)) ≡ atoms_with q fs

-- so are the terms that a table has to list
abbrev pub ListedAreDefinedWith : Type 0
ListedAreDefinedWith = (q : Question) → passing is_listed (subterms (formulas_of (enlarged q).sequent)) ≡ listed_with q []

abbrev pub ListedAreDefinedUnder : Type 0
ListedAreDefinedUnder = (q : Question) (fs : List Term) → passing is_listed (subterms (formulas_of (enlarged (claim q fs)).sequent)) ≡ listed_with q fs

-- no atom of a formula, nor of an argument of sort Bool, is missing
abbrev pub AllAtomsAreThere : Type 0
AllAtomsAreThere = (q : Question) (fs : List Term) (t : Term) → is_among (with_all_atoms (is_truth q) [] (stated_with q fs)) t ≡ true → is_among (atoms_with q fs) t ≡ true

-- a table falsifies all that is refuted exactly where the condition fails in it: with the facts of schemas true
abbrev pub FailuresWith : Type 0
FailuresWith = (q : Question) (table : List (Term × Fraction))
    → (Falsifies q.shapes q.decls (enlarged q).sequent table → IsFailureIn q [] table) × (IsFailureIn q [] table → Falsifies q.shapes q.decls (enlarged q).sequent table)

-- and under rules with what instances say true
abbrev pub FailuresUnder : Type 0
FailuresUnder = (q : Question) (instances : List Instance) (table : List (Term × Fraction))
    → (FalsifiesWith q instances table → IsFailureIn q (formulas q instances) table) × (IsFailureIn q (formulas q instances) table → FalsifiesWith q instances table)
