-- The outcomes of the calls for one branch.
use Rattle.std.proofs.Common.{◌≡◌, inl, inr, ℕ, ◌+◌, ◌<◌, ◌≤◌, Bool, List, length, sym, ap, subst, Option, Some, None}
use Rattle.spv_logic.specs.declared.conditions.TermId.{TermId}
use Rattle.spv_term.specs.declared.nodes.Condition.{Condition}
use Rattle.spv_term.specs.Arena.{Arena, tree}
use Rattle.spv_atoms.specs.declared.proofs.Step.{Step}
use Rattle.spv_proof_rules.specs.Accepted.{Closed, walk, cases_of}
use Rattle.spv_proof_rules.specs.Stand.{question, StepsIn}
use Rattle.spv_verdicts.specs.Verdicts.{Limits}
use Rattle.spv_verdicts.specs.declared.answers.growing.Grown.TheVariants as grown
use Rattle.spv_share.specs.declared.both.Both.{Both}
use Rattle.spv_share.specs.declared.stating.Shared.{Shared}
use Rattle.spv_share.specs.States.{Closes, IsAnswer, IsLimit, IsOpen}
use Rattle.spv_search.specs.declared.branches.cases.Case.{Case}
use Rattle.spv_search.specs.branches.Growth.{Growth, IsIn, Takes}
use Rattle.spv_branch_theory.specs.evidence.Laws.{IsStoppedFor}
use Rattle.spv_derivations.specs.branches.Paths.{facts_in, IsPath}
use Rattle.spv_assignments.specs.declared.partial_assignment.facts.Known.{Known}
use Rattle.spv_decisions.specs.literal_lookup.Facts.{AreThere}
use Rattle.spv_decisions.specs.declared.decision.choosing.Choice.{Choice}
use Rattle.spv_decisions.specs.decision.Choosing.{IsChoice, IsSplit}
use Rattle.spv_decisions.specs.heuristic.Guiding.{MayBeSplit}
use Rattle.spv_trail.specs.trail_states.Laws.{IsAtRest}
use Rattle.spv_trail.specs.declared.propagation.ending.End.{End}
use Rattle.spv_trail.specs.declared.backtracking.path.Ground.{Ground}
use Rattle.spv_trail.specs.declared.backtracking.path.BranchTrail.{BranchTrail}
use Rattle.spv_trail.specs.declared.backtracking.marks.TrailMark.{TrailMark}
use Rattle.spv_trail.specs.backtracking.Paths.{GoesOn, IsEnded, IsGrownOrEnded, IsBranchTrail, WasTold}
use Rattle.spv_search.specs.Searching.{AreMarks, formulas_in, HasTaken, IsArrived}
use Rattle.spv_search.specs.Finding.{HasStated, IsQuiet, IsResting, IsVisited}
use Rattle.spv_search.proofs.Ended.{shared_closes}
use Rattle.spv_search.proofs.Splitting.{rest_live, rest_splits}
use Rattle.spv_search.proofs.Stops.{stopped_for}
use Rattle.spv_search.proofs.Taking.{taken_open, taken_split}
use Rattle.spv_search.proofs.Visiting.{visited, visited_same, arrived_on, quiet_stated}

-- ---- a node that stays open, or splits

module _ (a : Arena) (c : Condition) (ids : List TermId) (g : Ground) (limits : Limits) (p : BranchTrail) (s : Growth) (ms : List TrailMark) (h : IsResting a c ids g limits p s ms)
    (r : IsAtRest a c p.both ids g.questions.items p.derivation p.known.items (formulas_in a s.cases)) (new : Growth) where
  pub open_visited : (IsIn a s → IsIn a new) → Takes (question a c) s new grown.Open → limits.splits ≤ s.splits → IsVisited a c ids g limits p s new ms None
  open_visited within takes spent =
      visited a c ids g limits p s new ms (length s.cases) h.quiet.arrived.set_up h.quiet.arrived.path.both h.quiet.arrived.marks
      (taken_open a c limits s new h.quiet.arrived.comes h.quiet.arrived.within (within h.quiet.arrived.within.terms_in) takes (rest_live a c ids g limits p s ms h r) spent)

  pub split_visited : (more : List TrailMark) (count : ℕ) (t : TermId) → count ≡ length s.cases
      → ((cs : List Case) → count ≡ length cs → IsBranchTrail a c (formulas_in a cs) p → AreMarks a c p ms cs count → AreMarks a c p more cs (count + 1))
      → (IsIn a s → IsIn a new) → Takes (question a c) s new (grown.Split t (length (cases_of (question a c) (tree a t)))) → MayBeSplit a ids p.lists.all.items p.known.items t → s.splits < limits.splits
      → IsVisited a c ids g limits p s new more None
  split_visited more count t many pushed within takes choice some_left =
      let marks : AreMarks a c p more s.cases (count + 1) = pushed s.cases many h.quiet.arrived.path (subst (AreMarks a c p ms s.cases) (sym many) h.quiet.arrived.marks) in
      visited a c ids g limits p s new more (length s.cases + 1) h.quiet.arrived.set_up h.quiet.arrived.path.both (subst (λ (n : ℕ). AreMarks a c p more s.cases (n + 1)) many marks)
      (taken_split a c limits s new h.quiet.arrived.comes h.quiet.arrived.within (within h.quiet.arrived.within.terms_in) t (length (cases_of (question a c) (tree a t))) takes (rest_splits a c ids g limits p s ms h r t choice) some_left)

-- how many marks there are at least
pub marks_many : (a : Arena) (c : Condition) (ids : List TermId) (g : Ground) (limits : Limits) (p : BranchTrail) (s : Growth) (ms : List TrailMark) (count : ℕ) → IsResting a c ids g limits p s ms → count ≡ length s.cases → count ≤ length ms
marks_many a c ids g limits p s ms count h many = subst (λ (n : ℕ). n ≤ length ms) (sym many) h.quiet.arrived.marks.many

-- ---- what is chosen

pub there_in : (a : Arena) (ks seen : List Known) → seen ≡ ks → AreThere a ks → AreThere a seen
there_in a ks seen e h = subst (AreThere a) (sym e) h

pub chosen : (a : Arena) (ids : List TermId) (values seen : List (Option Bool)) (ks known : List Known) (x y : Choice) → seen ≡ values → known ≡ ks → x ≡ y → IsChoice a ids seen known x → IsChoice a ids values ks y
chosen a ids values seen ks known x y e f k h =
    subst (IsChoice a ids values ks) k (subst (λ (vs : List (Option Bool)). IsChoice a ids vs ks x) e (subst (λ (ls : List Known). IsChoice a ids seen ls x) f h))

-- what is chosen may be split on
pub chosen_may : (a : Arena) (ids : List TermId) (values : List (Option Bool)) (ks : List Known) (t : TermId) → IsSplit a ids values ks t → MayBeSplit a ids values ks t
chosen_may a ids values ks t (there, inl e) = (there, inl e)
chosen_may a ids values ks t (there, inr e) = (there, inr e.1)

-- ---- what both sides came to

pub answered : (a : Arena) (b : Both) (count : ℕ) (x y : Shared) → x ≡ y → IsAnswer a b count x → IsAnswer a b count y
answered a b count x y e h = subst (IsAnswer a b count) e h

module _ (a : Arena) (c : Condition) (ids : List TermId) (g : Ground) (limits : Limits) (p now : BranchTrail) (s : Growth) (ms : List TrailMark) (h : IsQuiet a c ids g limits p s ms) (stated : HasStated a p now) where
  now_quiet : IsQuiet a c ids g limits now s ms
  now_quiet = quiet_stated a c ids g limits p now s ms stated h

  pub now_rests : IsOpen now.both → IsResting a c ids g limits now s ms
  now_rests is = record { quiet = now_quiet; agree = is }

  pub now_path : IsPath (question a c) (formulas_in a s.cases) now.derivation
  now_path = now_quiet.arrived.path.settled.path

  pub now_closes : (steps : List Step) → Closes a now.both (length p.derivation) steps → walk (question a c) (facts_in (question a c) now.derivation) steps ≡ Closed
  now_closes steps closes = shared_closes a c now.both now.derivation now.known.items (length p.derivation) steps (sym (ap length stated.course_is)) now_quiet.arrived.path.settled.stored closes

  pub now_within : (steps : List Step) → Closes a now.both (length p.derivation) steps → StepsIn a steps
  now_within steps closes = closes.within

  pub now_visited : (after : BranchTrail) (new : Growth) → after.derivation ≡ now.derivation → after.known.items ≡ now.known.items → after.both ≡ now.both → HasTaken a c limits (length s.cases) s new → IsVisited a c ids g limits after s new ms None
  now_visited after new derivation known same taken = visited_same a c ids g limits now after s new ms None derivation known same stated.both now_quiet.arrived taken

  pub now_stopped : IsLimit now.both → IsStoppedFor a c now.both
  now_stopped halt = stopped_for a c ids g limits now.both now_quiet.arrived.set_up stated.both halt

  pub now_pivots : now.both.standing.tableau.pivots ≡ limits.pivots
  now_pivots = now_quiet.arrived.set_up.pivots

-- ---- a path that was grown

pub was_told : (a : Arena) (c : Condition) (ids : List TermId) (g : Ground) (limits : Limits) (p : BranchTrail) (s : Growth) (ms : List TrailMark) → IsArrived a c ids g limits p s ms None → WasTold a c p
was_told a c ids g limits p s ms h = record { cases = formulas_in a s.cases; path_told = h.path }

pub ended_visited : (a : Arena) (c : Condition) (ids : List TermId) (g : Ground) (limits : Limits) (p now after : BranchTrail) (s new : Growth) (ms : List TrailMark) (e : End) → IsArrived a c ids g limits p s ms None → GoesOn a p now
    → IsEnded a c (formulas_in a s.cases) now e → after.derivation ≡ now.derivation → after.known.items ≡ now.known.items → after.both ≡ now.both → HasTaken a c limits (length s.cases) s new → IsVisited a c ids g limits after s new ms None
ended_visited a c ids g limits p now after s new ms e h goes ended derivation known same taken =
    visited_same a c ids g limits now after s new ms (Some e) derivation known same ended.both (arrived_on a c ids g limits p now s ms e goes h ended) taken

-- ---- a path that is told or ends

pub arrived_as : (a : Arena) (c : Condition) (ids : List TermId) (g : Ground) (limits : Limits) (p : BranchTrail) (s : Growth) (ms : List TrailMark) (o x : Option End) → o ≡ x → IsArrived a c ids g limits p s ms o → IsArrived a c ids g limits p s ms x
arrived_as a c ids g limits p s ms o x e h = subst (λ (y : Option End). IsArrived a c ids g limits p s ms y) e h

-- the path with the cases of the branch that comes next, after what followed was added
pub grown_as : (a : Arena) (c : Condition) (g : Ground) (s : Growth) (now : BranchTrail) (o x : Option End) → o ≡ x → IsGrownOrEnded a c g.questions.items (formulas_in a s.cases) now o → IsGrownOrEnded a c g.questions.items (formulas_in a s.cases) now x
grown_as a c g s now o x e h = subst (λ (y : Option End). IsGrownOrEnded a c g.questions.items (formulas_in a s.cases) now y) e h
