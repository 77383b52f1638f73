-- What a search finds.
use Rattle.std.specs.Prelude.{◌≡◌, ◌<◌, ⊤, List, Bool, true, false, Option, Some, None}
use Rattle.spv_whole.specs.Fraction.{Fraction}
use Rattle.spv_logic.specs.declared.conditions.TermId.{TermId}
use Rattle.spv_logic.specs.Terms.{Term}
use Rattle.spv_term.specs.declared.nodes.Condition.{Condition}
use Rattle.spv_term.specs.Arena.{Arena, tree}
use Rattle.spv_proof_rules.specs.Stand.{question}
use Rattle.spv_simplex.specs.declared.checked.Checked.{Checked}
use Rattle.spv_simplex.specs.declared.checked.Checked.TheVariants.{Wide, Pivots}
use Rattle.spv_simplex.specs.Evidence.{EvidenceValue}
use Rattle.spv_verdicts.specs.Verdicts.{Limits, IsRight}
use Rattle.spv_verdicts.specs.declared.answers.verdicts.Verdict.{Verdict}
use Rattle.spv_verdicts.specs.declared.answers.verdicts.Verdict.TheVariants as verdict
use Rattle.spv_verdicts.specs.answers.Views.{VerdictIn, verdict_in}
use Rattle.spv_share.specs.declared.both.Both.{Both}
use Rattle.spv_share.specs.Both.{IsBoth, KeepsLevels, Stays, told}
use Rattle.spv_share.specs.States.{IsOpen}
use Rattle.spv_search.specs.branches.Growth.{Growth}
use Rattle.spv_assignments.specs.partial_assignment.Facts.{facts_of}
use Rattle.spv_assignments.specs.partial_assignment.Following.{IsStill}
use Rattle.spv_branch_theory.specs.saturation.States.{IsFullState}
use Rattle.spv_branch_theory.specs.consistency.Laws.{IsOpenState}
use Rattle.spv_decisions.specs.heuristic.Guiding.{MayBeSplit}
use Rattle.spv_table.specs.declared.table.Table.{Table}
use Rattle.spv_table.specs.Kept.{PairsIn}
use Rattle.spv_verdicts.specs.candidate_models.Trying.{ListsSubterms}
use Rattle.spv_search.specs.declared.consulting.Next.{Next}
use Rattle.spv_search.specs.declared.consulting.Next.TheVariants as next
use Rattle.spv_trail.specs.declared.backtracking.path.Ground.{Ground}
use Rattle.spv_trail.specs.declared.backtracking.path.BranchTrail.{BranchTrail}
use Rattle.spv_trail.specs.declared.backtracking.marks.TrailMark.{TrailMark}
use Rattle.spv_search.specs.Searching.{IsArrived, IsRunning, room_left}

-- the term of an entry of a table
abbrev pub term_of : Arena → TermId × Fraction → Term
term_of a p = tree a p.0

-- ---- verdicts

-- a verdict is right of a condition within limits, and its terms are in the arena
pub record IsFound (a : Arena) (c : Condition) (limits : Limits) (v : Verdict) : Type 0 where
  pub terms_in : VerdictIn a v
  pub right : IsRight a (question a c) limits (verdict_in a v)

-- within any limits
abbrev pub IsFoundAlways : Arena → Condition → Verdict → Type 0
IsFoundAlways a c v = (limits : Limits) → IsFound a c limits v

-- ---- one branch

-- a verdict was found at the branch that came next, or a node took it
abbrev pub IsVisited : Arena → Condition → List TermId → Ground → Limits → BranchTrail → Growth → Growth → List TrailMark → Option Verdict → Type 0
IsVisited a c ids g limits p old new ms None = IsRunning a c ids g limits p new ms × (room_left a c new < room_left a c old)
IsVisited a c ids g limits p old new ms (Some v) = IsFound a c limits v

-- ---- on the way

-- the path with the cases of the branch that comes next is told, and evaluations add nothing
pub record IsQuiet (a : Arena) (c : Condition) (ids : List TermId) (g : Ground) (limits : Limits) (p : BranchTrail) (s : Growth) (ms : List TrailMark) : Type 0 where
  pub arrived : IsArrived a c ids g limits p s ms None
  pub still : IsStill a (facts_of a p.known.items) g.questions.items

-- and both sides are open
pub record IsResting (a : Arena) (c : Condition) (ids : List TermId) (g : Ground) (limits : Limits) (p : BranchTrail) (s : Growth) (ms : List TrailMark) : Type 0 where
  pub quiet : IsQuiet a c ids g limits p s ms
  pub agree : IsOpen p.both

-- both sides exchanged what they were told, and all else is as it was
pub record HasStated (a : Arena) (old new : BranchTrail) : Type 0 where
  pub course_is : new.derivation ≡ old.derivation
  pub known_is : new.known.items ≡ old.known.items
  pub lists_are : new.lists ≡ old.lists
  pub both : IsBoth a new.both
  pub told_is : told new.both ≡ told old.both
  pub levels : KeepsLevels a old.both new.both
  pub stays : Stays old.both new.both

-- both sides are those of an open state
pub record HasOpenState (a : Arena) (c : Condition) (b : Both) : Type 0 where
  pub facts : List Term
  pub value : Term → Option Bool
  pub state : IsOpenState a c b facts value

-- both sides are those of a full state
pub record HasFullState (a : Arena) (c : Condition) (b : Both) : Type 0 where
  pub facts : List Term
  pub value : Term → Option Bool
  pub state : IsFullState a c b facts value

-- the limit at which a check stops: a number that is too wide, or the steps
abbrev pub stop_of : Bool → Checked
stop_of true = Wide
stop_of false = Pivots

-- whether a check met a number that is too wide
abbrev pub is_too_wide : Option Checked → Bool
is_too_wide (Some Wide) = true
is_too_wide _ = false

-- why the last check of the tableau stopped, and at which limit
pub record IsStoppedBy (b : Both) (is_wide : Bool) (evidence : EvidenceValue) : Type 0 where
  pub answer_is : b.standing.tableau.answer ≡ Some (stop_of is_wide)
  pub evidence_is : evidence ≡ b.standing.tableau.evidence

-- what a search does with a path at rest: a table of its both sides falsifies the condition, or this atom may be split on; or nothing is said
abbrev pub IsNext : Arena → Condition → List TermId → BranchTrail → Next → Type 0
IsNext a c ids p (next.Found u) = IsFoundAlways a c (verdict.Unproved u)
IsNext a c ids p (next.Split t) = MayBeSplit a ids p.lists.all.items p.known.items t
IsNext a c ids p next.Nothing = ⊤

-- the same, where an atom was found or not
abbrev pub MayBeSplitIf : Arena → List TermId → BranchTrail → Option TermId → Type 0
MayBeSplitIf a ids p None = ⊤
MayBeSplitIf a ids p (Some t) = MayBeSplit a ids p.lists.all.items p.known.items t

-- a table lists the subterms of a condition that it has to list
pub record IsTableFor (a : Arena) (c : Condition) (table : Table) : Type 0 where
  pub within : PairsIn a table.values
  pub lists : ListsSubterms a c table.values
