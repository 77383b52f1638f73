-- Loops that add what parts spell.
use Rattle.std.proofs.Common.{◌≡◌, ◌++◌, ℕ, List, drop}

-- a loop that adds what these parts spell has come to this one of them
abbrev pub ComeTo : {X A : Type 0} → (List X → List A → List A) → List X → ℕ → List A → List A → Type 0
ComeTo {X} {A} spelled xs i old new = (rest : List A) → new ++ spelled (drop i xs) rest ≡ old ++ spelled xs rest
