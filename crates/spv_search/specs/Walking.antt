-- From branch to branch, and what is left in the end.
use Rattle.std.specs.Prelude.{◌≡◌, true, false, List, length, Option, Some, None}
use Rattle.spv_logic.specs.declared.conditions.TermId.{TermId}
use Rattle.spv_term.specs.declared.nodes.Condition.{Condition}
use Rattle.spv_term.specs.Arena.{Arena}
use Rattle.spv_verdicts.specs.Verdicts.{Limits}
use Rattle.spv_verdicts.specs.declared.answers.verdicts.Verdict.{Verdict}
use Rattle.spv_search.specs.branches.Growth.{Growth}
use Rattle.spv_trail.specs.declared.backtracking.path.Ground.{Ground}
use Rattle.spv_trail.specs.declared.backtracking.path.BranchTrail.{BranchTrail}
use Rattle.spv_trail.specs.declared.backtracking.marks.TrailMark.{TrailMark}
use Rattle.spv_trail.specs.backtracking.Paths.{IsBranchTrail}
use Rattle.spv_search.specs.Searching.{AreMarks, formulas_in, HasLast, IsSetUp, IsWithin}
use Rattle.spv_search.specs.Finding.{IsFound}

-- the path is told with the cases of the branch that comes next, but the last one
pub record IsBefore (a : Arena) (c : Condition) (ids : List TermId) (g : Ground) (limits : Limits) (p : BranchTrail) (s : Growth) (ms : List TrailMark) : Type 0 where
  pub set_up : IsSetUp a c ids g limits p.both
  pub within : IsWithin a c limits s
  pub comes : s.is_left ≡ true
  pub cases_are : HasLast s.cases
  pub path : IsBranchTrail a c (formulas_in a cases_are.front) p
  pub marks : AreMarks a c p ms s.cases (length s.cases)

-- a verdict was found, or no branch is left
abbrev pub IsWalked : Arena → Condition → Limits → Growth → Option Verdict → Type 0
IsWalked a c limits s None = IsWithin a c limits s × (s.is_left ≡ false)
IsWalked a c limits s (Some v) = IsFound a c limits v
