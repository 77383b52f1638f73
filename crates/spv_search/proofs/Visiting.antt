-- A branch that a node has taken.
use Rattle.std.proofs.Common.{◌≡◌, ℕ, List, length, take, Option, None, Some, sym, subst}
use Rattle.spv_logic.specs.declared.conditions.TermId.{TermId}
use Rattle.spv_term.specs.declared.nodes.Condition.{Condition}
use Rattle.spv_term.specs.Arena.{Arena}
use Rattle.spv_verdicts.specs.Verdicts.{Limits}
use Rattle.spv_share.specs.Both.{IsBoth}
use Rattle.spv_search.specs.branches.Growth.{Growth}
use Rattle.spv_trail.specs.declared.propagation.ending.End.{End}
use Rattle.spv_trail.specs.declared.backtracking.path.Ground.{Ground}
use Rattle.spv_trail.specs.declared.backtracking.path.BranchTrail.{BranchTrail}
use Rattle.spv_trail.specs.declared.backtracking.marks.TrailMark.{TrailMark}
use Rattle.spv_trail.specs.backtracking.Paths.{GoesOn, IsEnded, IsGrownOrEnded, IsBranchTrail}
use Rattle.spv_search.specs.Searching.{AreMarks, formulas_in, HasLast, HasTaken, IsArrived, IsSetUp, KeepsFewer}
use Rattle.spv_search.specs.Finding.{HasStated, IsQuiet, IsVisited}
use Rattle.spv_search.proofs.Marks.{marks_back}
use Rattle.spv_search.proofs.Staying.{set_stays, goes_stated, told_stated, still_stated, goes_same, marks_on}

-- ---- a node took the branch

pub visited : (a : Arena) (c : Condition) (ids : List TermId) (g : Ground) (limits : Limits) (p : BranchTrail) (old new : Growth) (ms : List TrailMark) (count : ℕ)
    → IsSetUp a c ids g limits p.both → IsBoth a p.both → AreMarks a c p ms old.cases count → HasTaken a c limits count old new → IsVisited a c ids g limits p old new ms None
visited a c ids g limits p old new ms count set both marks taken = (
  record {
    set_up = set;
    both = both;
    within = taken.within;
    comes = λ e. last (taken.back e);
    marks = λ e. marks_back a c p ms count old.cases new.cases (taken.back e) marks;
  },
  taken.less,
)
  where
    last : KeepsFewer count old.cases new.cases → HasLast new.cases
    last k = record { front = take k.kept old.cases; last = k.last; is = k.cases_are }

-- also where only the facts of the path were touched, and are as they were
pub visited_same : (a : Arena) (c : Condition) (ids : List TermId) (g : Ground) (limits : Limits) (p now : BranchTrail) (old new : Growth) (ms : List TrailMark) (o : Option End)
    → now.derivation ≡ p.derivation → now.known.items ≡ p.known.items → now.both ≡ p.both → IsBoth a p.both → IsArrived a c ids g limits p old ms o
    → HasTaken a c limits (length old.cases) old new → IsVisited a c ids g limits now old new ms None
visited_same a c ids g limits p now old new ms o derivation known same both h taken =
    let goes = goes_same a p now derivation known same in
    visited a c ids g limits now old new ms (length old.cases) (set_stays a c ids g limits p.both now.both goes.both.stays h.set_up) (subst (IsBoth a) (sym same) both) (marks_on a c p now ms old.cases (length old.cases) goes both h.marks)
    taken

-- ---- an arrival at a path that goes on

-- the path with these cases is told, or it ends
pub arrived_on : (a : Arena) (c : Condition) (ids : List TermId) (g : Ground) (limits : Limits) (p now : BranchTrail) (s : Growth) (ms : List TrailMark) (e : End)
    → GoesOn a p now → IsArrived a c ids g limits p s ms None → IsEnded a c (formulas_in a s.cases) now e → IsArrived a c ids g limits now s ms (Some e)
arrived_on a c ids g limits p now s ms e goes h ended = record {
  set_up = set_stays a c ids g limits p.both now.both goes.both.stays h.set_up;
  within = h.within;
  comes = h.comes;
  path = ended;
  marks = marks_on a c p now ms s.cases (length s.cases) goes h.path.both h.marks;
}

told_on : (a : Arena) (c : Condition) (ids : List TermId) (g : Ground) (limits : Limits) (p now : BranchTrail) (s : Growth) (ms : List TrailMark)
    → GoesOn a p now → IsArrived a c ids g limits p s ms None → IsBranchTrail a c (formulas_in a s.cases) now → IsArrived a c ids g limits now s ms None
told_on a c ids g limits p now s ms goes h told = record {
  set_up = set_stays a c ids g limits p.both now.both goes.both.stays h.set_up;
  within = h.within;
  comes = h.comes;
  path = told;
  marks = marks_on a c p now ms s.cases (length s.cases) goes h.path.both h.marks;
}

-- evaluations add nothing
pub quiet_on : (a : Arena) (c : Condition) (ids : List TermId) (g : Ground) (limits : Limits) (p now : BranchTrail) (s : Growth) (ms : List TrailMark)
    → GoesOn a p now → IsArrived a c ids g limits p s ms None → IsGrownOrEnded a c g.questions.items (formulas_in a s.cases) now None → IsQuiet a c ids g limits now s ms
quiet_on a c ids g limits p now s ms goes h grown = record { arrived = told_on a c ids g limits p now s ms goes h grown.0; still = grown.1 }

-- both sides exchanged what they were told
pub quiet_stated : (a : Arena) (c : Condition) (ids : List TermId) (g : Ground) (limits : Limits) (p now : BranchTrail) (s : Growth) (ms : List TrailMark)
    → HasStated a p now → IsQuiet a c ids g limits p s ms → IsQuiet a c ids g limits now s ms
quiet_stated a c ids g limits p now s ms stated h = record {
  arrived = told_on a c ids g limits p now s ms (goes_stated a p now stated) h.arrived (told_stated a c (formulas_in a s.cases) p now stated h.arrived.path);
  still = still_stated a g p now stated h.still;
}
