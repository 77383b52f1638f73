-- The numbers of facts that a step cites, where these are others.
use Rattle.std.specs.Prelude.{◌≡◌, ℕ, List, [], ◌∷◌, Option, Some, None}
use Rattle.spv_whole.specs.Fraction.{Fraction}
use Rattle.spv_logic.specs.Terms.{Term}
use Rattle.spv_atoms.specs.declared.proofs.Step.{Step}
use Rattle.spv_atoms.specs.Steps.{Part, Fact, OtherFact, Facts, Sums, OfCiting}
use Rattle.spv_proof_rules.specs.Effects.{numbered}

-- ---- the numbers that a step cites

abbrev pub OfAll : (ℕ → Type 0) → List ℕ → Type 0
OfAll P [] = Unit {0}
OfAll P (k ∷ ks) = P k × OfAll P ks

abbrev pub OfMultiples : (ℕ → Type 0) → List (Fraction × ℕ) → Type 0
OfMultiples P [] = Unit {0}
OfMultiples P (m ∷ ms) = P m.1 × OfMultiples P ms

abbrev pub OfOptional : (ℕ → Type 0) → Option ℕ → Type 0
OfOptional P None = Unit {0}
OfOptional P (Some k) = P k

abbrev pub OfPart : (ℕ → Type 0) → Part → Type 0
OfPart P (Fact k) = P k
OfPart P (OtherFact k) = OfOptional P k
OfPart P (Facts ks) = OfAll P ks
OfPart P (Sums r first second) = OfMultiples P first × OfMultiples P second
OfPart P _ = Unit {0}

-- something holds of each number of a fact that a step cites
abbrev pub OfCited : (ℕ → Type 0) → Step → Type 0
OfCited P s = OfCiting (OfPart P) s

-- among other facts, the fact of this number has another number; 0, which numbers no fact, stays
pub record Moves (old new : List Term) (f : ℕ → ℕ) (k : ℕ) : Type 0 where
  pub same : numbered new (f k) ≡ numbered old k
  pub zero_stays : k ≡ 0 → f k ≡ 0
  pub only_zero : f k ≡ 0 → k ≡ 0
