-- What a graph says of the terms of an arena.
use Rattle.std.specs.Prelude.{◌≡◌, ℕ, ◌*◌, ◌<◌, ◌≤◌, ◌↔◌, ◌⊎◌, IsTrue, List, [], ◌∷◌, ◌++◌, take, slice_get, Some, length}
use Rattle.spv_logic.specs.declared.conditions.TermId.{TermId}
use Rattle.spv_term.specs.declared.nodes.Node.{Node}
use Rattle.spv_term.specs.Arena.{Arena, IsArena}
use Rattle.spv_union_find.specs.classes.Classes.{size}
use Rattle.spv_term.specs.closure.Joined.{JoinedIn}
use Rattle.spv_congruence.specs.declared.facts.Fact.{Fact}
use Rattle.spv_congruence.specs.Graph.{Graph, HasNode, IsEarly, IsFact, are_same, label_of, joins_at, level_at}

-- the graph's nodes are those of an arena
pub record IsOf (a : Arena) (g : Graph) : Type 0 where
  pub node : (t : TermId) (n : Node) → HasNode g.nodes t n → slice_get a.nodes t.0 ≡ Some n

-- the terms that were added
abbrev pub IsAdded : Graph → TermId → Type 0
IsAdded g t = (i : ℕ) × (slice_get g.added i ≡ Some t)

-- the equalities that were told
abbrev pub IsTold : Graph → TermId → TermId → Type 0
IsTold g s t = (place : ℕ) × IsFact g.told place s t

-- two terms are equal by a derivation from what was told
abbrev pub Joined : Arena → Graph → TermId → TermId → Type 0
Joined a g s t = JoinedIn a (IsAdded g) (IsTold g) s t

-- a term is a part of another one, or it itself
pub data IsPart (a : Arena) (t : TermId) : TermId → Type 0 where
  whole : IsPart a t t
  argument : (x : TermId) (n : Node) (i : ℕ) (u : TermId) → IsPart a t x → slice_get a.nodes x.0 ≡ Some n → slice_get n.args i ≡ Some u → IsPart a t u

-- terms that are parts of a term were added
pub record AddsParts (a : Arena) (t : TermId) (old new : Graph) : Type 0 where
  pub kept : (u : TermId) (n : Node) → HasNode old.nodes u n → HasNode new.nodes u n
  pub parts : (u : TermId) (n : Node) → HasNode new.nodes u n → (HasNode old.nodes u n) ⊎ IsPart a t u
  pub more : List TermId
  pub added : new.added ≡ old.added ++ more
  pub told : new.told ≡ old.told
  pub levels : new.levels ≡ old.levels
  pub labels_stay : (u : TermId) → IsEarly old.added (length old.added) u → label_of new.joins u ≡ label_of old.joins u
  pub past : (m : ℕ) → m < length old.told → joins_at new m ≡ joins_at old m

abbrev pub empty : Graph
empty = record { nodes = []; added = []; told = []; levels = []; joins = []; rows = [] }

-- two terms have one class exactly where they are joined
abbrev pub IsExact : Graph → Type 0
IsExact g = (a : Arena) → IsArena a → IsOf a g → (s t : TermId) (m n : Node) → HasNode g.nodes s m → HasNode g.nodes t n → IsTrue (are_same g s t) ↔ Joined a g s t

-- one more fact was told
pub record Joins (old : Graph) (x : Fact) (new : Graph) : Type 0 where
  pub nodes : new.nodes ≡ old.nodes
  pub added : new.added ≡ old.added
  pub told : new.told ≡ old.told ++ x ∷ []
  pub here : joins_at new (length old.told) ≡ old.joins
  pub past : (m : ℕ) → m < length old.told → joins_at new m ≡ joins_at old m
  pub terms_here : (level_at new (length old.told)).added ≡ length old.added
  pub terms_past : (m : ℕ) → m < length old.told → (level_at new m).added ≡ (level_at old m).added
  pub doubled : (t : TermId) → (label_of new.joins t ≡ label_of old.joins t) ⊎ (2 * size old.joins (label_of old.joins t) ≤ size new.joins (label_of new.joins t))

-- what was told since there were so many facts was taken back
pub record Undone (old : Graph) (n : ℕ) (new : Graph) : Type 0 where
  pub nodes : new.nodes ≡ old.nodes
  pub added : new.added ≡ old.added
  pub told : new.told ≡ take n old.told
  pub same : n ≡ length old.told → new ≡ old
  pub classes : (t : TermId) → n < length old.told → IsEarly old.added (level_at old n).added t → label_of new.joins t ≡ label_of (joins_at old n) t
  pub past : (m : ℕ) → m < n → n ≤ length old.told → joins_at new m ≡ joins_at old m
  pub terms_past : (m : ℕ) → m < n → n ≤ length old.told → (level_at new m).added ≡ (level_at old m).added
