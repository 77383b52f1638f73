-- What is kept by numbers that respect equalities and congruence.
use Rattle.std.specs.Prelude.{◌≡◌, ℕ, ◌<◌, List, map, length, Some, slice_get}
use Rattle.spv_logic.specs.declared.conditions.TermId.{TermId}
use Rattle.spv_term.specs.declared.nodes.Node.{Node}
use Rattle.spv_term.specs.Arena.{Arena}
use Rattle.spv_term.specs.closure.Joined.{JoinedIn}

-- a number for each term: equal for terms that were told to be equal, and for added terms of one head whose arguments have equal numbers
pub record Respects (a : Arena) (Added : TermId → Type 0) (Told : TermId → TermId → Type 0) (f : TermId → ℕ) : Type 0 where
  pub within : (t : TermId) → Added t → t.0 < length a.nodes
  pub sides : (s t : TermId) → Told s t → (s.0 < length a.nodes) × (t.0 < length a.nodes)
  pub told : (s t : TermId) → Told s t → f s ≡ f t
  pub congruent : (s t : TermId) (m n : Node) → Added s → Added t → slice_get a.nodes s.0 ≡ Some m → slice_get a.nodes t.0 ≡ Some n → m.head ≡ n.head → map f m.args ≡ map f n.args → f s ≡ f t

-- such numbers are equal wherever there is a derivation
abbrev pub KeepsJoined : Arena → (TermId → Type 0) → (TermId → TermId → Type 0) → Type 0
KeepsJoined a Added Told =
    (f : TermId → ℕ) → Respects a Added Told f → (s t : TermId) → s.0 < length a.nodes → t.0 < length a.nodes → JoinedIn a Added Told s t → f s ≡ f t

abbrev pub Listed : List TermId → TermId → Type 0
Listed ids t = (i : ℕ) × (slice_get ids i ≡ Some t)
