-- What a term and its core say.
use Rattle.std.specs.Prelude.{◌≡◌, ℕ, ◌<◌, Bool, true, false, [], ◌∷◌}
use Rattle.spv_logic.specs.declared.names.names.Symbol.{Symbol}
use Rattle.spv_logic.specs.declared.conditions.TermId.{TermId}
use Rattle.spv_logic.specs.declared.types.Sort.{Sort}
use Rattle.spv_logic.specs.declared.operators.Head.TheVariants.{Var}
use Rattle.spv_logic.specs.Terms.{Term, term, no_terms}
use Rattle.spv_term.specs.Arena.{Arena, tree}
use Rattle.spv_atoms.specs.Atoms as atoms
use Rattle.spv_proof_rules.specs.Evaluation.{evaluates}
use Rattle.spv_tableau_rules.specs.constraints.Sayings.{literal}
use Rattle.spv_assignments.specs.polarity.Cores.{denials, is_even, IsCore, SayTheSame}

-- a term says the same as its core, or as the negation of its core where the number of negations is odd
abbrev pub CoresSayTheSame : Type 0
CoresSayTheSame = (a : Arena) (t u : TermId) (even : Bool) → IsCore a t u even → (is_truth : Term → Bool) → SayTheSame is_truth (tree a t) (literal even (tree a u))

-- where the term is of sort Bool, its core is
abbrev pub CoresAreTruths : Type 0
CoresAreTruths = (a : Arena) (t u : TermId) (even : Bool) → IsCore a t u even → atoms.is_truth a.shapes a.decls (tree a t) ≡ true → atoms.is_truth a.shapes a.decls (tree a u) ≡ true

-- under one negation or none, the two are one formula
abbrev pub CoresStandAlone : Type 0
CoresStandAlone = (k : ℕ) (u : Term) → k < 2 → denials k u ≡ literal (is_even k) u

-- and a formula need not evaluate from itself: a variable does not
abbrev pub NothingFollowsFromItself : Type 0
NothingFollowsFromItself = (is_truth : Term → Bool) (x : Symbol) (s : Sort) (n : ℕ) → evaluates is_truth (term (Var x s n) no_terms ∷ []) (term (Var x s n) no_terms) ≡ false
