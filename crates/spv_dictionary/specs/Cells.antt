-- Rows of numbers, by their slots.
use Rattle.std.specs.Prelude.{ℕ, zero, suc, ◌+◌, List, [], ◌∷◌, ◌++◌, slice_index_or}
use Rattle.spv_frac.specs.rational.Rational.{Rational}
use Rattle.spv_tableau_rules.specs.tableaux.Numbers.{nothing}

-- a row's number at a slot, 0 behind its end
abbrev pub cell : List Rational → ℕ → Rational
cell row slot = slice_index_or row slot nothing

-- the first n values of a function
abbrev pub listed : {A : Type 0} → (ℕ → A) → ℕ → List A
listed f zero = []
listed f (suc n) = listed f n ++ f n ∷ []

-- the numbers from low on
abbrev pub numbers_from : ℕ → ℕ → List ℕ
numbers_from low n = listed (λ k. low + k) n
