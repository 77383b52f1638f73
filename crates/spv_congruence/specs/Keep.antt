-- What is kept for a graph, and how it changes.
use Rattle.std.specs.Prelude.{◌≡◌, ◌≢◌, ℕ, suc, ◌+◌, ◌<◌, ◌≤◌, List, [], ◌∷◌, ◌++◌, take, length, slice_get, slice_index_or, Option, Some, None, if◌then◌else◌, ◌⊎◌}
use Rattle.spv_logic.specs.declared.conditions.TermId.{TermId}
use Rattle.spv_logic.specs.declared.operators.Head.{Head}
use Rattle.spv_term.specs.declared.nodes.Node.{Node}
use Rattle.spv_term.specs.Arena.{AllBelow}
use Rattle.spv_union_find.specs.declared.classes.joins.Cause.TheVariants.{Told}
use Rattle.spv_union_find.specs.declared.classes.joins.Join.{Join}
use Rattle.spv_union_find.specs.classes.Classes.{Classes}
use Rattle.spv_union_find.specs.signatures.Signatures.{Signature, Table, held, cells_of}
use Rattle.spv_congruence.specs.declared.facts.Fact.{Fact}
use Rattle.spv_congruence.specs.declared.facts.Level.{Level}
use Rattle.spv_congruence.specs.declared.facts.Equal.{Equal}
use Rattle.spv_congruence.specs.Graph.{Graph, IsUpTo, IsGraph, now_at, level_at, joins_at, rows_at, HasNode, IsEarly, label_of, labels, HasLabel, Waits, AreTerms, IsLevel}

-- all that is kept: the graph, the terms that use each term, and for how long lists of arguments there is memory
pub record Kept : Type 0 where
  pub nodes : List (Option Node)
  pub added : List TermId
  pub told : List Fact
  pub levels : List Level
  pub classes : Classes
  pub table : Table
  pub uses : List (List TermId)
  pub room : ℕ

abbrev pub graph : Kept → Graph
graph k = record { nodes = k.nodes; added = k.added; told = k.told; levels = k.levels; joins = k.classes.joins; rows = k.table.rows }

abbrev pub IsNode : List (Option Node) → TermId → Type 0
IsNode nodes t = (n : Node) × HasNode nodes t n

abbrev pub uses_at : List (List TermId) → ℕ → List TermId
uses_at uses x = slice_index_or uses x []

-- the lists go with the terms
pub record Fits (k : Kept) : Type 0 where
  pub count : (t : TermId) (n : Node) → HasNode k.nodes t n → t.0 < k.classes.count
  pub args : (t : TermId) (n : Node) → HasNode k.nodes t n → AllBelow k.classes.count n.args
  pub room : (t : TermId) (n : Node) → HasNode k.nodes t n → length n.args ≤ k.room
  pub uses : (t : TermId) (n : Node) → HasNode k.nodes t n → (i : ℕ) (u : TermId) → slice_get n.args i ≡ Some u → Waits (uses_at k.uses u.0) t
  pub terms : AreTerms k.nodes k.added
  pub facts : (i : ℕ) (x : Fact) → slice_get k.told i ≡ Some x → IsNode k.nodes x.left × IsNode k.nodes x.right

-- ---- entering a term

abbrev pub signed : Head → List ℕ → TermId → Signature
signed h ls t = record { head = h; labels = ls; term = t }

-- the one that is held, else the term itself
abbrev pub first_for : Option TermId → TermId → TermId
first_for None t = t
first_for (Some q) t = q

pub record Enters (old new : Kept) (t q : TermId) : Type 0 where
  pub node : Node
  pub is : HasNode old.nodes t node
  pub first : q ≡ first_for (held old.table.rows node.head (labels old.classes.joins node)) t
  pub rows : new.table.rows ≡ old.table.rows ++ signed node.head (labels old.classes.joins node) q ∷ []

-- a graph with another table, which has as much room
pub record OtherTable (old new : Kept) : Type 0 where
  pub is : new ≡ record old { table = new.table; room = new.room }
  pub table : old.table.room ≤ new.table.room
  pub room : old.room ≤ new.room

-- a graph that goes on from another one by joins and signatures alone
pub record GoesOn (old new : Kept) : Type 0 where
  pub is : new ≡ record old { table = new.table; classes = new.classes; room = new.room }
  pub count : new.classes.count ≡ old.classes.count
  pub joins : List Join
  pub joins_are : new.classes.joins ≡ old.classes.joins ++ joins
  pub rows : List Signature
  pub rows_are : new.table.rows ≡ old.table.rows ++ rows
  pub table : old.table.room ≤ new.table.room
  pub room : old.room ≤ new.room

-- the graph as it is now, with so many terms entered, and what is still to be joined and entered
abbrev pub IsNow : Kept → ℕ → List Equal → List TermId → Type 0
IsNow k count es ws = IsLevel k.nodes k.added count k.told (length k.told) k.classes.joins k.table.rows es ws

-- each term with an argument of this label is among these
abbrev pub HasUsers : Kept → ℕ → List TermId → Type 0
HasUsers k l ws = (t : TermId) (n : Node) → HasNode k.nodes t n → HasLabel k.classes.joins l n.args → Waits ws t

-- the graph with one more join
abbrev pub with_join : Kept → Join → Kept
with_join k j = record k { classes = record k.classes { joins = k.classes.joins ++ j ∷ [] } }

-- the graph with one more fact, which is not joined yet
abbrev pub with_fact : Kept → Fact → Kept
with_fact k x = record k { told = k.told ++ x ∷ []; levels = k.levels ++ now_at (graph k) ∷ [] }

-- the equality that a fact tells, which has this place
abbrev pub equal_of : Fact → ℕ → List Equal
equal_of x place = if x.equal then record { left = x.left; right = x.right; cause = Told place } ∷ [] else []

-- the graph as it was before a fact, but for the terms that were added since
pub record IsRewound (old : Kept) (n : ℕ) (new : Kept) : Type 0 where
  pub is : new ≡ record old { told = take n old.told; levels = take n old.levels; classes = record old.classes { joins = joins_at (graph old) n }; table = new.table }
  pub rows : new.table.rows ≡ rows_at (graph old) n
  pub table : old.table.room ≤ new.table.room

-- one more fact is told
pub record Tells (old new : Kept) (x : Fact) : Type 0 where
  pub goes : GoesOn (with_fact old x) new
  pub now : IsNow new (length new.added) [] []

-- nothing was done, or something after a fact was written
abbrev pub IsStopped : Kept → Kept → Fact → Type 0
IsStopped old new x = (new ≡ old) ⊎ GoesOn (with_fact old x) new

-- the next term of the list is entered
pub record EntersNext (old new : Kept) (place : ℕ) : Type 0 where
  pub goes : GoesOn old new
  pub upto : IsUpTo (graph new) (suc place)
  pub labels_stay : (u : TermId) → IsEarly old.added place u → label_of new.classes.joins u ≡ label_of old.classes.joins u
  pub cells : (t : TermId) (n : Node) → slice_get old.added place ≡ Some t → HasNode old.nodes t n → cells_of new.table.rows ≡ cells_of old.table.rows + suc (length n.args)

-- the terms of the list from a place on are entered
pub record EntersRest (old new : Kept) (from : ℕ) : Type 0 where
  pub goes : GoesOn old new
  pub graph_is : IsGraph (graph new)
  pub labels_stay : (u : TermId) → IsEarly old.added from u → label_of new.classes.joins u ≡ label_of old.classes.joins u

-- what was told is taken back but for so many facts; the labels are those of then
pub record Undoes (old : Kept) (n : ℕ) (new : Kept) : Type 0 where
  pub nodes : new.nodes ≡ old.nodes
  pub added : new.added ≡ old.added
  pub told : new.told ≡ take n old.told
  pub graph_is : IsGraph (graph new)
  pub labels_are : (u : TermId) → IsEarly old.added (level_at (graph old) n).added u → label_of new.classes.joins u ≡ label_of (joins_at (graph old) n) u
  pub past : (m : ℕ) → m < n → (level_at (graph new) m ≡ level_at (graph old) m) × (joins_at (graph new) m ≡ joins_at (graph old) m)

-- a node is put at a place
pub record HasPut (old : List (Option Node)) (x : ℕ) (n : Node) (new : List (Option Node)) : Type 0 where
  pub there : slice_get new x ≡ Some (Some n)
  pub kept : (t : TermId) (m : Node) → t.0 ≢ x → HasNode old t m → HasNode new t m
  pub back : (t : TermId) (m : Node) → t.0 ≢ x → HasNode new t m → HasNode old t m
  pub places : length old ≤ length new
  pub stays : (y : ℕ) → y < length old → y ≢ x → slice_get new y ≡ slice_get old y

-- what uses a term still does
abbrev pub KeepsUses : List (List TermId) → List (List TermId) → Type 0
KeepsUses old new = (x : ℕ) (t : TermId) → Waits (uses_at old x) t → Waits (uses_at new x) t

-- there is memory for one more term, over arguments of which there are so many
pub record MakesRoom (old new : Kept) : Type 0 where
  pub is : new ≡ record old { classes = record old.classes { count = new.classes.count }; table = new.table; uses = new.uses; room = new.room }
  pub count : old.classes.count ≤ new.classes.count
  pub rows : new.table.rows ≡ old.table.rows
  pub table : old.table.room ≤ new.table.room
  pub uses : KeepsUses old.uses new.uses
  pub room : old.room ≤ new.room

-- a term and its node are put behind the others, and the term is not entered yet
pub record Puts (old : Kept) (t : TermId) (n : Node) (new : Kept) : Type 0 where
  pub is : new ≡ record old { nodes = new.nodes; added = old.added ++ t ∷ [] }
  pub node : HasPut old.nodes t.0 n new.nodes

-- one more term is added
pub record Adds (old new : Graph) (t : TermId) (n : Node) : Type 0 where
  pub added : new.added ≡ old.added ++ t ∷ []
  pub node : HasPut old.nodes t.0 n new.nodes
  pub told : new.told ≡ old.told
  pub levels : new.levels ≡ old.levels
  pub labels_stay : (u : TermId) → IsEarly old.added (length old.added) u → label_of new.joins u ≡ label_of old.joins u
  pub past : (m : ℕ) → m < length old.told → joins_at new m ≡ joins_at old m
  pub joins : List Join
  pub joins_are : new.joins ≡ old.joins ++ joins
  pub rows : List Signature
  pub rows_are : new.rows ≡ old.rows ++ rows

-- all room is there for a term over arguments
pub record IsPrepared (k : Kept) (t : TermId) (args : List TermId) : Type 0 where
  pub count : t.0 < k.classes.count
  pub room : length args ≤ k.room
  pub cells : cells_of k.table.rows + suc (length args) ≤ k.table.room
  pub uses : (i : ℕ) (u : TermId) → slice_get args i ≡ Some u → Waits (uses_at k.uses u.0) t

abbrev pub IsMissing : List (Option Node) → TermId → Type 0
IsMissing nodes t = (n : Node) → HasNode nodes t n → ⊥

abbrev pub AreNodes : List (Option Node) → List TermId → Type 0
AreNodes nodes args = (i : ℕ) (u : TermId) → slice_get args i ≡ Some u → IsNode nodes u

-- ---- taking terms away

-- a graph is another one with further terms
pub record HasGrown (old new : Graph) : Type 0 where
  pub told : new.told ≡ old.told
  pub levels : new.levels ≡ old.levels
  pub terms : List TermId
  pub added : new.added ≡ old.added ++ terms
  pub joins : List Join
  pub joins_are : new.joins ≡ old.joins ++ joins
  pub rows : List Signature
  pub rows_are : new.rows ≡ old.rows ++ rows
  pub places : length old.nodes ≤ length new.nodes
  pub kept : (t : TermId) (n : Node) → HasNode old.nodes t n → HasNode new.nodes t n
  pub fresh : (i : ℕ) (t : TermId) → length old.added ≤ i → slice_get new.added i ≡ Some t → t.0 < length old.nodes → slice_get old.nodes t.0 ≡ Some None
  pub stays : (x : ℕ) → x < length old.nodes → ((i : ℕ) (t : TermId) → length old.added ≤ i → slice_get new.added i ≡ Some t → t.0 ≢ x) → slice_get new.nodes x ≡ slice_get old.nodes x

-- the places of terms are empty, of those in a list from a place on and before another one
pub record AreEmptied (old : List (Option Node)) (added : List TermId) (from to : ℕ) (new : List (Option Node)) : Type 0 where
  pub many : length new ≡ length old
  pub gone : (i : ℕ) (t : TermId) → from ≤ i → i < to → slice_get added i ≡ Some t → t.0 < length old → slice_get new t.0 ≡ Some None
  pub stays : (x : ℕ) → ((i : ℕ) (t : TermId) → from ≤ i → i < to → slice_get added i ≡ Some t → t.0 ≢ x) → slice_get new x ≡ slice_get old x

-- the terms are taken away that were added since a level, when there were so many places
pub record IsTakenBack (old : Kept) (level : Level) (places : ℕ) (new : Kept) : Type 0 where
  pub emptied : List (Option Node)
  pub emptied_are : AreEmptied old.nodes old.added level.added (length old.added) emptied
  pub is : new ≡ record old { nodes = take places emptied; added = take level.added old.added; classes = record old.classes { joins = take level.joins old.classes.joins }; table = new.table }
  pub rows : new.table.rows ≡ take level.rows old.table.rows
