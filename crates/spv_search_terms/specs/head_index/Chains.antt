-- Terms of one head, each with the next one behind it.
use Rattle.std.specs.Prelude.{◌≡◌, ℕ, suc, ◌<◌, ◌≤◌, Bool, List, map, length, Option, Some, slice_get, unwrap_or, if◌then◌else◌}
use Rattle.std.specs.Map.{lookup}
use Rattle.std.specs.Ordering.{is_eq}
use Rattle.spv_logic.specs.declared.conditions.TermId.{TermId}
use Rattle.spv_logic.specs.declared.operators.Head.{Head}
use Rattle.spv_logic.specs.contracts.operators.HeadOrd.TheImpl as of_heads
use Rattle.spv_logic.specs.Terms.{Term, term}
use Rattle.spv_term.specs.Arena.{Arena, tree}

abbrev pub head_of : Term → Head
head_of (term h ts) = h

-- the heads of terms
abbrev pub heads : Arena → List TermId → List Head
heads a ids = map (λ t. head_of (tree a t)) ids

-- the first place from one on that has a head; how many there are, where none has
pub record IsFirstFrom (hs : List Head) (from : ℕ) (h : Head) (place : ℕ) : Type 0 where
  pub behind : from ≤ place
  pub within : place ≤ length hs
  pub is : (g : Head) → slice_get hs place ≡ Some g → g ≡ h
  pub skips : (k : ℕ) → from ≤ k → k < place → slice_get hs k ≡ Some h → ⊥

-- beside each head stands the next place that has it
pub record AreChained (hs : List Head) (next : List ℕ) : Type 0 where
  pub count : length next ≡ length hs
  pub each : (i place : ℕ) (h : Head) → slice_get hs i ≡ Some h → slice_get next i ≡ Some place → IsFirstFrom hs (suc i) h place

-- ---- on the way

-- whether the program's order does not tell two heads apart
abbrev pub same : Head → Head → Bool
same h k = is_eq (of_heads.ghosts.cmp h k)

abbrev pub place_in : List (Head × ℕ) → Head → Option ℕ
place_in entries h = lookup (same h) entries

-- one more place, instead of an older one of the same head
pub record PutsPlace (h : Head) (place : ℕ) (old new : List (Head × ℕ)) : Type 0 where
  pub get : (k : Head) → place_in new k ≡ (if same h k then Some place else place_in old k)

-- beside each head from a place on stands the next one, and the first one of each head is known
pub record IsChaining (hs : List Head) (left : ℕ) (next : List ℕ) (entries : List (Head × ℕ)) : Type 0 where
  pub within : left ≤ length hs
  pub count : length next ≡ length hs
  pub each : (i place : ℕ) (h : Head) → left ≤ i → slice_get hs i ≡ Some h → slice_get next i ≡ Some place → IsFirstFrom hs (suc i) h place
  pub first : (h : Head) → IsFirstFrom hs left h (unwrap_or (place_in entries h) (length hs))
