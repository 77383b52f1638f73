-- A sink in memory, and the writes that fail.
use Rattle.std.specs.Prelude.{ℕ, ◌+◌, ◌-◌, ◌==◌, List, [], ◌∷◌, length, Option, Some, None, is_some, Bool, ◌||◌, nat_lt, if◌then◌else◌, min, unwrap_or}

-- how many bytes it holds at most, the numbers of the writes that fail and after how many bytes each does,
-- how many writes there were up to the top of 64 bits, the bytes written so far and the count of faults
pub record SinkValue : Type 0 where
  pub capacity : ℕ
  pub fails : List (ℕ × ℕ)
  pub calls : ℕ
  pub bytes : List ℕ
  pub faults : ℕ

-- after how many bytes the write of that number fails, where it is listed
abbrev pub cut_of : List (ℕ × ℕ) → ℕ → Option ℕ
cut_of [] number = None
cut_of (entry ∷ entries) number = if entry.0 == number then Some entry.1 else cut_of entries number

-- the next write of these bytes fails: its number is listed, or it passes the capacity
abbrev pub write_fails : SinkValue → List ℕ → Bool
write_fails sink bytes = is_some (cut_of sink.fails (sink.calls + 1)) || nat_lt sink.capacity (length sink.bytes + length bytes)

-- how many of these bytes the next write adds
abbrev pub taken : SinkValue → List ℕ → ℕ
taken sink bytes = min (unwrap_or (cut_of sink.fails (sink.calls + 1)) (length bytes)) (min (length bytes) (sink.capacity - length sink.bytes))
