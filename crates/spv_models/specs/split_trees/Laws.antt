-- What is true of the trees of a search, and of its paths.
use Rattle.std.specs.Prelude.{◌≡◌, ℕ, ◌^◌, ◌<◌, ◌⊎◌, Bool, true, List, [], length, Option, Some, Ok, IsTrue}
use Rattle.std.specs.List.{list_all}
use Rattle.spv_logic.specs.Terms.{Term}
use Rattle.spv_logic.specs.Shapes.{shapes_ok}
use Rattle.spv_logic.specs.Conditions.{Meaning, Valuation, IsValuation, answers, holds}
use Rattle.spv_term.specs.closure.Joined.{Joined}
use Rattle.spv_proof_rules.specs.Effects.{Question, is_number}
use Rattle.spv_models.specs.leaf_models.Subterms.{is_among, subterms}
use Rattle.spv_models.specs.leaf_models.Leaves.{IsTold, IsPoint, IsLeaf}
use Rattle.spv_models.specs.leaf_models.Laws.{AreFormulas, listed_at}
use Rattle.spv_models.specs.leaf_models.Tables as tables
use Rattle.spv_models.specs.leaf_models.Tables.{formulas_of, Falsifies}
use Rattle.spv_table.specs.Values as table
use Rattle.spv_models.specs.split_trees.Trees.{Tree, splits, splits_once}
use Rattle.spv_models.specs.split_trees.Paths.{atoms, questions, facts, Known, Gives, Told, IsAdded, Linked, Shared, IsLive}
use Rattle.spv_models.specs.split_trees.Shown.{IsFinished, ShowsLive}
use Rattle.spv_models.specs.split_trees.Leaves.{IsFull, leaf_of}
use Rattle.spv_models.specs.split_trees.Kept.{IsKept}

-- ---- trees

-- a tree that splits on some of these atoms, none of them twice on a path, has fewer splits than 3 to the power of their number
abbrev pub FewSplits : Type 0
FewSplits = (atoms : List Term) (tree : Tree) → splits_once atoms [] tree ≡ true → splits tree < 3 ^ length atoms

-- a kept tree is such a tree
abbrev pub KeptSplitsOnce : Type 0
KeptSplitsOnce = (q : Question) (limit : ℕ) (tree : Tree) → IsKept q limit tree → splits_once (atoms q) [] tree ≡ true

-- so no kept tree has as many splits
abbrev pub KeptIsSmall : Type 0
KeptIsSmall = (q : Question) (limit : ℕ) (tree : Tree) → IsKept q limit tree → limit < 3 ^ length (atoms q)

-- ---- paths

-- values that have the facts, and to which evaluations add nothing more, have all that is known
abbrev pub KnownIsLeast : Type 0
KnownIsLeast = (q : Question) (fs : List Term) (value : Term → Option Bool) → IsFinished q fs value → (t : Term) (b : Bool) → Gives q fs t b → value t ≡ Some b

-- two terms are told the same or shared
abbrev pub IsToldOrShared : Question → List Term → Term → Term → Type 0
IsToldOrShared q fs s t = Told q fs s t ⊎ Shared q fs s t

-- what is joined on a path is what has a derivation by congruence from what is told and what is shared
abbrev pub LinkedIsJoined : Type 0
LinkedIsJoined = (q : Question) (fs : List Term) (s t : Term) → Linked q fs s t → Joined (IsAdded q) (IsToldOrShared q fs) s t

abbrev pub JoinedIsLinked : Type 0
JoinedIsLinked = (q : Question) (fs : List Term) (s t : Term) → Joined (IsAdded q) (IsToldOrShared q fs) s t → Linked q fs s t

-- each equivalence that holds what is told, and in which all others have an order, holds what is joined, so also what is shared
abbrev pub LinkedIsSame : Type 0
LinkedIsSame = (q : Question) (fs : List Term) (same : Term → Term → Bool) → ShowsLive q fs same → (s t : Term) → Linked q fs s t → same s t ≡ true

abbrev pub ShownIsLive : Type 0
ShownIsLive = (q : Question) (fs : List Term) (same : Term → Term → Bool) → ShowsLive q fs same → IsLive q fs

-- ---- worlds

abbrev pub AllHold : Question → Meaning → Valuation → List Term → Type 0
AllHold q world v fs = list_all (holds (answers q.shapes q.decls world) v) fs ≡ true

-- where the facts of a path are true, all that is known is
abbrev pub KnownIsTrue : Type 0
KnownIsTrue = (q : Question) → IsTrue (shapes_ok q.shapes) → (world : Meaning) (v : Valuation) → IsValuation q.shapes v → (fs : List Term) → AllHold q world v fs
    → (t : Term) → Known q fs t → holds (answers q.shapes q.decls world) v t ≡ true

-- and the path is live
abbrev pub TrueIsLive : Type 0
TrueIsLive = (q : Question) → IsTrue (shapes_ok q.shapes) → AreFormulas q.shapes q.decls (formulas_of q.sequent) → (world : Meaning) (v : Valuation) → IsValuation q.shapes v
    → (fs : List Term) → AllHold q world v fs → IsLive q fs

-- ---- full paths

-- where a full path is live, it joins and separates as a leaf wants it
abbrev pub FullIsTold : Type 0
FullIsTold = (q : Question) (fs : List Term) → IsLive q fs → (given : Term → Option Bool) (same : Term → Term → Bool) → IsFull q fs given same → IsTold (questions q) (atoms q) given same

-- its point is one of a leaf
abbrev pub FullHasPoint : Type 0
FullHasPoint = (q : Question) (fs : List Term) (live : IsLive q fs) (given : Term → Option Bool) (same : Term → Term → Bool) → IsFull q fs given same
    → IsPoint (is_number q) (subterms (formulas_of q.sequent)) (atoms q) (leaf_of q fs live given same)

-- and it is a leaf
abbrev pub FullIsLeaf : Type 0
FullIsLeaf = (q : Question) → AreFormulas q.shapes q.decls (formulas_of q.sequent) → (fs : List Term) (live : IsLive q fs) (given : Term → Option Bool) (same : Term → Term → Bool) → IsFull q fs given same
    → IsLeaf q.shapes q.decls (formulas_of q.sequent) (leaf_of q fs live given same)

-- there the hypotheses are true and the goal is false: its table falsifies the condition, where no operation is too wide
abbrev pub FullSurvives : Type 0
FullSurvives = (q : Question) → AreFormulas q.shapes q.decls (formulas_of q.sequent) → (cases : List Term) (live : IsLive q (facts q cases)) (given : Term → Option Bool) (same : Term → Term → Bool)
    → IsFull q (facts q cases) given same
    → ((f : Term) → is_among (formulas_of q.sequent) f ≡ true → (b : Bool) × (table.holds (listed_at q.shapes q.decls (formulas_of q.sequent) (leaf_of q (facts q cases) live given same)) f ≡ Ok b))
    → Falsifies q.shapes q.decls q.sequent (tables.table q.shapes q.decls (formulas_of q.sequent) (leaf_of q (facts q cases) live given same))
