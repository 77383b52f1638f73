-- A search between two branches of its tree: the path that was told, the marks of its cases, and the tree so far.
use Rattle.std.specs.Prelude.{◌≡◌, ◌<◌, ◌≤◌, ℕ, true, List, [], ◌∷◌, ◌++◌, map, take, length, Option, Some, slice_get}
use Rattle.spv_logic.specs.declared.conditions.TermId.{TermId}
use Rattle.spv_logic.specs.Terms.{Term}
use Rattle.spv_term.specs.declared.nodes.Condition.{Condition}
use Rattle.spv_term.specs.Arena.{Arena, tree}
use Rattle.spv_proof_rules.specs.Stand.{question}
use Rattle.spv_verdicts.specs.Verdicts.{Limits}
use Rattle.spv_share.specs.declared.both.Both.{Both}
use Rattle.spv_share.specs.Both.{IsBoth}
use Rattle.spv_search.specs.declared.branches.cases.Case.{Case}
use Rattle.spv_search.specs.branches.Counts.{room}
use Rattle.spv_search.specs.branches.Growth.{Growth, IsGrowing, IsIn, case_in, left}
use Rattle.spv_trail.specs.trail_states.Laws.{IsOpenedFor}
use Rattle.spv_trail.specs.declared.propagation.ending.End.{End}
use Rattle.spv_trail.specs.declared.backtracking.path.Ground.{Ground}
use Rattle.spv_trail.specs.declared.backtracking.path.BranchTrail.{BranchTrail}
use Rattle.spv_trail.specs.declared.backtracking.marks.TrailMark.{TrailMark}
use Rattle.spv_trail.specs.backtracking.Paths.{IsAskedOf, IsEarlier, IsMark, IsToldOrEnded}

-- ---- what does not change

-- both sides were opened for the atoms and the questions of a condition, with these limits
pub record IsSetUp (a : Arena) (c : Condition) (ids : List TermId) (g : Ground) (limits : Limits) (b : Both) : Type 0 where
  pub opened : IsOpenedFor a c b ids
  pub asked : IsAskedOf a c g b
  pub pivots : b.standing.tableau.pivots ≡ limits.pivots

-- ---- cases

-- the formulas of cases
abbrev pub formulas_in : Arena → List Case → List Term
formulas_in a cs = map (case_in (tree a)) cs

-- there is a last case
pub record HasLast (cs : List Case) : Type 0 where
  pub front : List Case
  pub last : Case
  pub is : cs ≡ front ++ last ∷ []

-- of these cases the first ones are those of others, fewer than so many, and the last one is not
pub record KeepsFewer (count : ℕ) (old new : List Case) : Type 0 where
  pub kept : ℕ
  pub last : Case
  pub within : kept ≤ length old
  pub fewer : kept < count
  pub cases_are : new ≡ take kept old ++ last ∷ []

-- ---- marks

-- the first so many marks are those of the path with none of these cases, with the first one, and so on
pub record AreMarks (a : Arena) (c : Condition) (p : BranchTrail) (ms : List TrailMark) (cs : List Case) (count : ℕ) : Type 0 where
  pub many : count ≤ length ms
  pub each : (i : ℕ) (m : TrailMark) → i < count → slice_get ms i ≡ Some m → IsMark a c (formulas_in a (take i cs)) p m
  pub rising : (i j : ℕ) (m n : TrailMark) → i ≤ j → j < count → slice_get ms i ≡ Some m → slice_get ms j ≡ Some n → IsEarlier m n

-- ---- the tree

-- a tree that grows, with at most the splits that are allowed; it is open only where all of these were made
pub record IsWithin (a : Arena) (c : Condition) (limits : Limits) (s : Growth) : Type 0 where
  pub grows : IsGrowing (question a c) s
  pub terms_in : IsIn a s
  pub few : s.splits ≤ limits.splits
  pub spent : s.is_open ≡ true → s.splits ≡ limits.splits

-- how many nodes may come yet
abbrev pub room_left : Arena → Condition → Growth → ℕ
room_left a c s = room (question a c) (left (tree a) s)

-- a node took the branch that comes next; the one that comes then keeps fewer than so many cases of it
pub record HasTaken (a : Arena) (c : Condition) (limits : Limits) (count : ℕ) (old new : Growth) : Type 0 where
  pub within : IsWithin a c limits new
  pub less : room_left a c new < room_left a c old
  pub back : new.is_left ≡ true → KeepsFewer count old.cases new.cases

-- ---- the search

-- a node has taken a branch: where another one comes next, the path was marked at each number of its cases but the last one
pub record IsRunning (a : Arena) (c : Condition) (ids : List TermId) (g : Ground) (limits : Limits) (p : BranchTrail) (s : Growth) (ms : List TrailMark) : Type 0 where
  pub set_up : IsSetUp a c ids g limits p.both
  pub both : IsBoth a p.both
  pub within : IsWithin a c limits s
  pub comes : s.is_left ≡ true → HasLast s.cases
  pub marks : s.is_left ≡ true → AreMarks a c p ms s.cases (length s.cases)

-- the path with the cases of the branch that comes next is told, or these facts end it
pub record IsArrived (a : Arena) (c : Condition) (ids : List TermId) (g : Ground) (limits : Limits) (p : BranchTrail) (s : Growth) (ms : List TrailMark) (o : Option End) : Type 0 where
  pub set_up : IsSetUp a c ids g limits p.both
  pub within : IsWithin a c limits s
  pub comes : s.is_left ≡ true
  pub path : IsToldOrEnded a c (formulas_in a s.cases) p o
  pub marks : AreMarks a c p ms s.cases (length s.cases)
