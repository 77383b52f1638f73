-- A number as a text spells it: a whole number from 0 up, in two halves.
use Rattle.std.specs.Prelude.{ℕ, ◌+◌, ◌*◌, ◌<◌, ◌/◌, ◌%◌, ◌≡◌}
use Rattle.std.proofs.lemmas.Nat.{div-mul-add, mod-mul-add}

-- the halves are those of the number
pub halves_back : (high low : ℕ) → low < 4294967296 → ((high * 4294967296 + low) / 4294967296 ≡ high) × ((high * 4294967296 + low) % 4294967296 ≡ low)
halves_back high low h = (div-mul-add high 4294967296 low h, mod-mul-add high 4294967296 low h)
