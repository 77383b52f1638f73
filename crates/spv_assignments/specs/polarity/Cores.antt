-- Terms under negations.
use Rattle.std.specs.Prelude.{◌≡◌, ℕ, zero, suc, ◌<◌, Bool, true, not, [], ◌∷◌, length, None}
use Rattle.spv_logic.specs.declared.conditions.TermId.{TermId}
use Rattle.spv_logic.specs.Terms.{Term}
use Rattle.spv_logic.specs.Formulas.{negation}
use Rattle.spv_term.specs.Arena.{Arena, tree}
use Rattle.spv_proof_rules.specs.Sums.{negated}
use Rattle.spv_proof_rules.specs.Evaluation.{evaluates}

-- a term under so many negations
abbrev pub denials : ℕ → Term → Term
denials zero t = t
denials (suc k) t = negation (denials k t)

abbrev pub is_even : ℕ → Bool
is_even zero = true
is_even (suc k) = not (is_even k)

-- a term is another one under so many negations, whose number is even or not, and that one is no negation
pub record IsCore (a : Arena) (t u : TermId) (even : Bool) : Type 0 where
  pub inside : u.0 < length a.nodes
  pub count : ℕ
  pub under : tree a t ≡ denials count (tree a u)
  pub parity : even ≡ is_even count
  pub bare : negated (tree a u) ≡ None

-- two formulas are one, or each evaluates from the other
pub data SayTheSame (is_truth : Term → Bool) (s t : Term) : Type 0 where
  are_one : s ≡ t → SayTheSame is_truth s t
  follow : evaluates is_truth (s ∷ []) t ≡ true → evaluates is_truth (t ∷ []) s ≡ true → SayTheSame is_truth s t
