-- Pairs of terms with the numbers of their equations.
use Rattle.std.specs.Prelude.{◌≡◌, ℕ, Bool, ◌&&◌, List, [], ◌∷◌, Option, Some, slice_get}
use Rattle.std.specs.Map.{lookup}
use Rattle.spv_logic.specs.declared.conditions.TermId.{TermId}
use Rattle.spv_term.specs.Arena.{Arena}
use Rattle.spv_atoms.specs.Order.{same_id}
use Rattle.spv_derivations.specs.declared.derivation.entries.Entry.{Entry}
use Rattle.spv_explanations.specs.declared.equalities.known.Pair.{Pair}
use Rattle.spv_explanations.specs.equalities.Reasons.{Equates}

abbrev pub pair : TermId → TermId → Pair
pair s t = record { left = s; right = t }

abbrev pub same_pair : Pair → Pair → Bool
same_pair p q = same_id p.left q.left && same_id p.right q.right

-- the number that a pair has
abbrev pub number_of : List (Pair × ℕ) → TermId → TermId → Option ℕ
number_of known s t = lookup (same_pair (pair s t)) known

-- a pair has a number
abbrev pub HasNumber : List (Pair × ℕ) → TermId → TermId → Type 0
HasNumber known s t = (n : ℕ) × (number_of known s t ≡ Some n)

-- each pair has the number of its equation
abbrev pub AreShown : Arena → List Entry → List (Pair × ℕ) → Type 0
AreShown a es [] = Unit {0}
AreShown a es (p ∷ known) = Equates a es p.1 p.0.left p.0.right × AreShown a es known

-- the numbers of the pairs of two lists of terms, one by one
abbrev pub NumbersOf : List (Pair × ℕ) → List TermId → List TermId → List ℕ → Type 0
NumbersOf known [] [] [] = Unit {0}
NumbersOf known (s ∷ ss) (t ∷ ts) (n ∷ ns) = (number_of known s t ≡ Some n) × NumbersOf known ss ts ns
NumbersOf known _ _ _ = ⊥

-- two terms that stand at one place of two lists
pub record AreBeside (ss ts : List TermId) (s t : TermId) : Type 0 where
  pub place : ℕ
  pub left : slice_get ss place ≡ Some s
  pub right : slice_get ts place ≡ Some t
