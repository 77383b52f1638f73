-- A round of putting pointer types together, in the steps of the code.
use Rattle.std.specs.Prelude.{◌≡◌, ℕ, suc, ◌≤◌, ◌<◌, ◌-◌, List, Option, Some, None, length, slice_set, slice_index}
use Rattle.spv_program.specs.Lists.{item_at}
use Rattle.spv_typing.specs.Merging.{first_where, same_number}

-- the first type that is the same as a pointer's target
abbrev pub target_first : List ℕ → Option ℕ → Option ℕ
target_first firsts None = None
target_first firsts (Some t) = item_at firsts t

-- the place is noted for what leads there
abbrev pub marked : List ℕ → Option ℕ → ℕ → List ℕ
marked leaders None place = leaders
marked leaders (Some f) place = slice_set leaders f place

-- for each type the first pointer whose target's first it is
pub record IsLed (seen : List (Option ℕ)) (leaders : List ℕ) : Type 0 where
  pub many : length leaders ≡ suc (length seen)
  pub led : (f : ℕ) → f ≤ length seen → slice_index leaders f ≡ first_where (same_number (Some f)) seen

-- no item is larger
pub record IsWithin (most : ℕ) (firsts : List ℕ) : Type 0 where
  pub within : (i f : ℕ) → item_at firsts i ≡ Some f → f ≤ most

-- what leads to a pointer's kind, by the first type of its target
abbrev pub leader_of : List ℕ → Option ℕ → ℕ
leader_of leaders None = length leaders - 1
leader_of leaders (Some f) = slice_index leaders f

abbrev pub next_of : List ℕ → ℕ → Option ℕ → Option ℕ → ℕ
next_of leaders place None seen = place
next_of leaders place (Some t) seen = leader_of leaders seen

abbrev pub Below : ℕ → Option ℕ → Type 0
Below count None = 0 < count
Below count (Some f) = f < count
