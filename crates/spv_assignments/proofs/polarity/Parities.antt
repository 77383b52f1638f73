-- Truth values under negations.
use Rattle.std.proofs.Common.{◌≡◌, ℕ, zero, suc, Bool, true, false, not, refl, ap, ◌∙◌}
use Rattle.spv_assignments.specs.polarity.Cores.{is_even}

pub twice_not : (b : Bool) → not (not b) ≡ b
twice_not true = refl
twice_not false = refl

-- a truth value under so many negations
abbrev pub turned : ℕ → Bool → Bool
turned zero b = b
turned (suc k) b = not (turned k b)

turned_not : (k : ℕ) (b : Bool) → turned k (not b) ≡ not (turned k b)
turned_not zero b = refl
turned_not (suc k) b = ap not (turned_not k b)

-- what is true where a number is even comes out true under so many negations
pub turned_even : (k : ℕ) → turned k (is_even k) ≡ true
turned_even zero = refl
turned_even (suc k) = ap not (turned_not k (is_even k)) ∙ (twice_not (turned k (is_even k)) ∙ turned_even k)

pub turned_odd : (k : ℕ) → turned k (not (is_even k)) ≡ false
turned_odd k = turned_not k (is_even k) ∙ ap not (turned_even k)
