-- What a formula says of its core.
use Rattle.std.specs.Prelude.{◌≡◌, ℕ, ◌<◌, Bool, true, false, [], ◌∷◌, length, Option, None, Some, is_some}
use Rattle.spv_logic.specs.declared.conditions.TermId.{TermId}
use Rattle.spv_logic.specs.Terms.{Term}
use Rattle.spv_term.specs.Arena.{Arena, tree}
use Rattle.spv_proof_rules.specs.Sums.{negated}
use Rattle.spv_proof_rules.specs.Evaluation.{evaluates}
use Rattle.spv_tableau_rules.specs.constraints.Sayings.{literal}
use Rattle.spv_assignments.specs.declared.polarity.saying.Standing.{Standing}
use Rattle.spv_assignments.specs.polarity.Cores.{denials, is_even}

abbrev pub is_negation : Term → Bool
is_negation t = is_some (negated t)

abbrev pub are_negations : Option Term → Bool
are_negations None = false
are_negations (Some t) = is_negation t

-- whether a term is the negation of a negation
abbrev pub is_double_negation : Term → Bool
is_double_negation t = are_negations (negated t)

-- that a term is true, or false, is another term under so many negations; that one is no negation, and it is true where their number is even.
-- What is said of it is the formula itself, or each of the two evaluates from the other
pub record IsStanding (a : Arena) (t : TermId) (truth : Bool) (s : Standing) : Type 0 where
  pub inside : s.core.0 < length a.nodes
  pub bare : negated (tree a s.core) ≡ None
  pub count : ℕ
  pub under : literal truth (tree a t) ≡ denials count (tree a s.core)
  pub parity : s.truth ≡ is_even count
  pub same : s.is_same ≡ true → literal truth (tree a t) ≡ literal s.truth (tree a s.core)
  pub follows : s.is_same ≡ false → (is_truth : Term → Bool) → evaluates is_truth (literal truth (tree a t) ∷ []) (literal s.truth (tree a s.core)) ≡ true
  pub back : s.is_same ≡ false → (is_truth : Term → Bool) → evaluates is_truth (literal s.truth (tree a s.core) ∷ []) (literal truth (tree a t)) ≡ true
