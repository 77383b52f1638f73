-- The first of the terms that are the same.
use Rattle.std.specs.Prelude.{◌≡◌, ℕ, ◌<◌, Bool, true, List, length, nat_eq, Option, Some, None, slice_get, if◌then◌else◌}
use Rattle.std.specs.Map.{lookup}
use Rattle.spv_logic.specs.declared.conditions.TermId.{TermId}
use Rattle.spv_term.specs.declared.nodes.Node.{Node}
use Rattle.spv_congruence.specs.Keep.{IsNode}

-- each flagged term was added to the graph
pub record HasNodes (nodes : List (Option Node)) (ids : List TermId) (flags : List Bool) : Type 0 where
  pub each : (i : ℕ) (t : TermId) → slice_get ids i ≡ Some t → slice_get flags i ≡ Some true → IsNode nodes t

-- a term that is flagged and has a label stands at a place
pub record IsOneAt (label : TermId → ℕ) (ids : List TermId) (flags : List Bool) (n place : ℕ) : Type 0 where
  pub term : TermId
  pub there : slice_get ids place ≡ Some term
  pub flagged : slice_get flags place ≡ Some true
  pub is : label term ≡ n

-- and none stands before
pub record IsFirstOne (label : TermId → ℕ) (ids : List TermId) (flags : List Bool) (n place : ℕ) : Type 0 where
  pub one : IsOneAt label ids flags n place
  pub none : (k : ℕ) → k < place → IsOneAt label ids flags n k → ⊥

-- beside each of the first terms that is flagged stands the first place of its label
pub record AreFirsts (label : TermId → ℕ) (ids : List TermId) (flags : List Bool) (count : ℕ) (places : List ℕ) : Type 0 where
  pub count_is : length places ≡ count
  pub each : (i k : ℕ) (t : TermId) → slice_get places i ≡ Some k → slice_get ids i ≡ Some t → slice_get flags i ≡ Some true → IsFirstOne label ids flags (label t) k

-- ---- on the way

abbrev pub place_in : List (ℕ × ℕ) → ℕ → Option ℕ
place_in entries n = lookup (nat_eq n) entries

-- one more place, instead of an older one of the same class
pub record PutsPlace (n place : ℕ) (old new : List (ℕ × ℕ)) : Type 0 where
  pub get : (m : ℕ) → place_in new m ≡ (if nat_eq n m then Some place else place_in old m)

-- the place that a class had, or this one, which it has from then on
pub data IsFirstSeen (n place : ℕ) (old new : List (ℕ × ℕ)) (first : ℕ) : Type 0 where
  had : place_in old n ≡ Some first → new ≡ old → IsFirstSeen n place old new first
  gets : place_in old n ≡ None → first ≡ place → PutsPlace n place old new → IsFirstSeen n place old new first

-- the classes of the first terms, with their first places
pub record AreSeen (label : TermId → ℕ) (ids : List TermId) (flags : List Bool) (count : ℕ) (entries : List (ℕ × ℕ)) : Type 0 where
  pub known : (n k : ℕ) → place_in entries n ≡ Some k → IsFirstOne label ids flags n k
  pub missing : (n : ℕ) → place_in entries n ≡ None → (k : ℕ) → k < count → IsOneAt label ids flags n k → ⊥
