-- The congruence graph: what contracts see of it, and what is kept true of it.
use Rattle.std.specs.Prelude.{◌≡◌, ℕ, suc, ◌+◌, ◌<◌, ◌≤◌, Bool, true, List, [], ◌∷◌, map, take, length, slice_get, slice_index_or, Option, Some, None, nat_eq, ◌⊎◌}
use Rattle.spv_logic.specs.declared.conditions.TermId.{TermId}
use Rattle.spv_term.specs.declared.nodes.Node.{Node}
use Rattle.spv_union_find.specs.declared.classes.joins.Cause.{Cause}
use Rattle.spv_union_find.specs.declared.classes.joins.Cause.TheVariants.{Told, Congruent}
use Rattle.spv_union_find.specs.declared.classes.joins.Join.{Join}
use Rattle.spv_union_find.specs.classes.Classes.{label}
use Rattle.spv_union_find.specs.signatures.Signatures.{Signature, held, cells_of}
use Rattle.spv_congruence.specs.declared.facts.Fact.{Fact}
use Rattle.spv_congruence.specs.declared.facts.Level.{Level}
use Rattle.spv_congruence.specs.declared.facts.Equal.{Equal}

-- what contracts see of a graph: the nodes of the terms that were added, by their ids; these terms in order; the facts that were told; how far
-- the graph was when each of them was told; and what was joined and entered
pub record Graph : Type 0 where
  pub nodes : List (Option Node)
  pub added : List TermId
  pub told : List Fact
  pub levels : List Level
  pub joins : List Join
  pub rows : List Signature

abbrev pub id : ℕ → TermId
id x = record { 0 = x }

-- a term that was added, with its node
abbrev pub HasNode : List (Option Node) → TermId → Node → Type 0
HasNode nodes t n = slice_get nodes t.0 ≡ Some (Some n)

-- a term among the first ones that were added
pub record IsEarly (added : List TermId) (count : ℕ) (t : TermId) : Type 0 where
  pub place : ℕ
  pub early : place < count
  pub there : slice_get added place ≡ Some t

-- ---- labels

abbrev pub label_of : List Join → TermId → ℕ
label_of joins t = label joins t.0

-- the labels of a term's arguments
abbrev pub labels : List Join → Node → List ℕ
labels joins n = map (label_of joins) n.args

-- whether two terms are in one class
abbrev pub are_same : Graph → TermId → TermId → Bool
are_same g s t = nat_eq (label_of g.joins s) (label_of g.joins t)

-- one of these terms has this label
pub record HasLabel (js : List Join) (l : ℕ) (us : List TermId) : Type 0 where
  pub place : ℕ
  pub term : TermId
  pub there : slice_get us place ≡ Some term
  pub is : label_of js term ≡ l

-- ---- causes

-- two terms of one head whose arguments have equal labels
pub record AreCongruent (nodes : List (Option Node)) (joins : List Join) (s t : TermId) : Type 0 where
  pub left : Node
  pub right : Node
  pub left_is : HasNode nodes s left
  pub right_is : HasNode nodes t right
  pub heads : left.head ≡ right.head
  pub args : labels joins left ≡ labels joins right

-- an equality that is the fact at a place
pub record IsFact (told : List Fact) (place : ℕ) (s t : TermId) : Type 0 where
  pub fact : Fact
  pub there : slice_get told place ≡ Some fact
  pub equal : fact.equal ≡ true
  pub left : fact.left ≡ s
  pub right : fact.right ≡ t

abbrev pub IsCause : List (Option Node) → List Fact → ℕ → List Join → TermId → TermId → Cause → Type 0
IsCause nodes told n joins s t (Told place) = (place < n) × IsFact told place s t
IsCause nodes told n joins s t Congruent = AreCongruent nodes joins s t

-- ---- equalities that are still to be joined

-- numbers of labels that agree on these equalities
abbrev pub Agrees : (ℕ → ℕ) → List Join → List Equal → Type 0
Agrees f joins [] = Unit {0}
Agrees f joins (e ∷ es) = (f (label_of joins e.left) ≡ f (label_of joins e.right)) × Agrees f joins es

-- two terms are the same as soon as these equalities are joined
abbrev pub Due : List Join → List Equal → TermId → TermId → Type 0
Due joins es s t = (f : ℕ → ℕ) → Agrees f joins es → f (label_of joins s) ≡ f (label_of joins t)

-- a term whose signature is entered
pub record IsEntered (joins : List Join) (rows : List Signature) (es : List Equal) (t : TermId) (n : Node) : Type 0 where
  pub first : TermId
  pub found : held rows n.head (labels joins n) ≡ Some first
  pub due : Due joins es first t

abbrev pub Waits : List TermId → TermId → Type 0
Waits ws t = (i : ℕ) × (slice_get ws i ≡ Some t)

-- a signature of a term, as it was when it was entered
pub record IsRow (nodes : List (Option Node)) (added : List TermId) (count : ℕ) (joins : List Join) (r : Signature) : Type 0 where
  pub node : Node
  pub is : HasNode nodes r.term node
  pub early : IsEarly added count r.term
  pub head : r.head ≡ node.head
  pub labels_are : map (label joins) r.labels ≡ labels joins node

pub record IsLink (nodes : List (Option Node)) (added : List TermId) (count : ℕ) (told : List Fact) (n : ℕ) (before : List Join) (j : Join) : Type 0 where
  pub left : IsEarly added count (id j.left)
  pub right : IsEarly added count (id j.right)
  pub lower : IsEarly added count (id j.lower)
  pub upper : IsEarly added count (id j.upper)
  pub cause : IsCause nodes told n before (id j.left) (id j.right) j.cause

pub record IsDue (nodes : List (Option Node)) (added : List TermId) (count : ℕ) (told : List Fact) (n : ℕ) (joins : List Join) (e : Equal) : Type 0 where
  pub left : IsEarly added count e.left
  pub right : IsEarly added count e.right
  pub cause : IsCause nodes told n joins e.left e.right e.cause

-- the graph after so many facts, with so many terms: what is still to be joined or entered stands in the two lists
pub record IsLevel (nodes : List (Option Node)) (added : List TermId) (count : ℕ) (told : List Fact) (n : ℕ) (joins : List Join) (rows : List Signature) (es : List Equal) (ws : List TermId) : Type 0 where
  pub told_due : (i : ℕ) (x : Fact) → i < n → slice_get told i ≡ Some x → x.equal ≡ true → Due joins es x.left x.right
  pub entered : (t : TermId) (m : Node) → IsEarly added count t → HasNode nodes t m → Waits ws t ⊎ IsEntered joins rows es t m
  pub rows_are : (i : ℕ) (r : Signature) → slice_get rows i ≡ Some r → IsRow nodes added count joins r
  pub joins_are : (i : ℕ) (j : Join) → slice_get joins i ≡ Some j → IsLink nodes added count told n (take i joins) j
  pub equals_are : (i : ℕ) (e : Equal) → slice_get es i ≡ Some e → IsDue nodes added count told n joins e

-- ---- terms

pub record AreTerms (nodes : List (Option Node)) (added : List TermId) : Type 0 where
  pub noded : (i : ℕ) (t : TermId) → slice_get added i ≡ Some t → (n : Node) × HasNode nodes t n
  pub listed : (t : TermId) (n : Node) → HasNode nodes t n → IsEarly added (length added) t
  pub apart : (i k : ℕ) (t : TermId) → slice_get added i ≡ Some t → slice_get added k ≡ Some t → i ≡ k
  pub args : (i : ℕ) (t : TermId) (n : Node) → slice_get added i ≡ Some t → HasNode nodes t n → (k : ℕ) (u : TermId) → slice_get n.args k ≡ Some u → IsEarly added i u

-- ---- levels

-- how far a graph is
abbrev pub now_at : Graph → Level
now_at g = record { added = length g.added; joins = length g.joins; rows = length g.rows }

abbrev pub nowhere : Level
nowhere = record { added = 0; joins = 0; rows = 0 }

-- how far it was when it had so many facts
abbrev pub level_at : Graph → ℕ → Level
level_at g n = slice_index_or g.levels n nowhere

abbrev pub joins_at : Graph → ℕ → List Join
joins_at g n = take (level_at g n).joins g.joins

abbrev pub rows_at : Graph → ℕ → List Signature
rows_at g n = take (level_at g n).rows g.rows

abbrev pub terms_at : Graph → ℕ → List TermId
terms_at g n = take (level_at g n).added g.added

-- how many cells the signatures of terms take
abbrev pub weight : Option (Option Node) → ℕ
weight None = 0
weight (Some None) = 0
weight (Some (Some n)) = suc (length n.args)

abbrev pub weight_of : List (Option Node) → List TermId → ℕ
weight_of nodes [] = 0
weight_of nodes (t ∷ ts) = weight (slice_get nodes t.0) + weight_of nodes ts

-- from one level to another one, the graph grew; and each further term has brought its signature
pub record Rises (nodes : List (Option Node)) (m n : Level) (first more : List Signature) (terms further : List TermId) : Type 0 where
  pub added : m.added ≤ n.added
  pub joins : m.joins ≤ n.joins
  pub rows : m.rows ≤ n.rows
  pub cells : cells_of first + weight_of nodes further ≤ cells_of more + weight_of nodes terms

-- the graph with so many of its terms entered
pub record IsUpTo (g : Graph) (count : ℕ) : Type 0 where
  pub terms : AreTerms g.nodes g.added
  pub many : length g.levels ≡ length g.told
  pub few : count ≤ length g.added
  pub past : (n : ℕ) → n < length g.told → IsLevel g.nodes g.added (level_at g n).added g.told n (joins_at g n) (rows_at g n) [] []
  pub now : IsLevel g.nodes g.added count g.told (length g.told) g.joins g.rows [] []
  pub rises : (m n : ℕ) → m ≤ n → n < length g.told → Rises g.nodes (level_at g m) (level_at g n) (rows_at g m) (rows_at g n) (terms_at g m) (terms_at g n)
  pub up : (m : ℕ) → m < length g.told → Rises g.nodes (level_at g m) (record { added = count; joins = length g.joins; rows = length g.rows }) (rows_at g m) g.rows (terms_at g m) (take count g.added)

abbrev pub IsGraph : Graph → Type 0
IsGraph g = IsUpTo g (length g.added)
