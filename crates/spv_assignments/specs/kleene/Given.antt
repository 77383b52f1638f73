-- Ways to give truth values to terms, and when two of them come to the same values.
use Rattle.std.specs.Prelude.{◌≡◌, Bool, Option}
use Rattle.spv_logic.specs.Terms.{Term}
use Rattle.spv_atoms.specs.Tables.{or_else, computed}

-- the value of a term: the given one, else the computed one
abbrev pub valued : (Term → Bool) → (Term → Option Bool) → Term → Option Bool
valued is_truth given t = or_else (given t) (computed is_truth given t)

-- what is given to a term is what is computed for it, or nothing
abbrev pub IsComputed : (Term → Bool) → (Term → Option Bool) → Term → Type 0
IsComputed is_truth given t = valued is_truth given t ≡ computed is_truth given t

-- two ways give the same to a term, or each no more than it computes
pub data AgreeAt (is_truth : Term → Bool) (first second : Term → Option Bool) (t : Term) : Type 0 where
  same : first t ≡ second t → AgreeAt is_truth first second t
  computed_by_both : IsComputed is_truth first t → IsComputed is_truth second t → AgreeAt is_truth first second t

abbrev pub Agree : (Term → Bool) → (Term → Option Bool) → (Term → Option Bool) → Type 0
Agree is_truth first second = (t : Term) → AgreeAt is_truth first second t
