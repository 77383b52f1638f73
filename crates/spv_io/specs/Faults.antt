-- A count of faults, which stays at the top of 64 bits.
use Rattle.std.specs.Prelude.{ℕ, ◌+◌, ◌-◌, ◌^◌, ◌<◌, ◌≤◌, min}

-- the count one fault later
abbrev pub raised : ℕ → ℕ
raised faults = min (faults + 1) (2 ^ 64 - 1)

-- it rose, or stands at the top
abbrev pub Rose : ℕ → ℕ → Type 0
Rose old new = raised old ≤ new

-- it did not rise, and stands below the top
abbrev pub DidNotRise : ℕ → ℕ → Type 0
DidNotRise old new = (new ≤ old) × (new < 2 ^ 64 - 1)
