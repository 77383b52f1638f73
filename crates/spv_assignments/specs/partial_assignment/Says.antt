-- What the code answers of facts.
use Rattle.std.specs.Prelude.{◌≡◌, ℕ, Bool, List, Option, Some, slice_get}
use Rattle.spv_logic.specs.declared.conditions.TermId.{TermId}
use Rattle.spv_logic.specs.Terms.{Term}
use Rattle.spv_term.specs.Arena.{Arena}
use Rattle.spv_assignments.specs.kleene.Passes.{at, StandsAt}
use Rattle.spv_assignments.specs.declared.partial_assignment.following.Following.{Following}
use Rattle.spv_assignments.specs.declared.partial_assignment.following.Following.TheVariants.{Nothing, Question, Clash}
use Rattle.spv_assignments.specs.partial_assignment.Following.{Follows, Contradicts, MayBeEither, IsStill}

-- a term clashes that has this truth by a fact
abbrev pub IsClash : List (Option Bool) → TermId → Following → Type 0
IsClash direct t Nothing = ⊥
IsClash direct t (Question u b) = ⊥
IsClash direct t (Clash u b) = (u ≡ t) × (at direct u.0 ≡ Some b)

-- the truth of one of these questions follows, or each that has no value may have either
abbrev pub FollowsAmong : Arena → List Term → List TermId → Following → Type 0
FollowsAmong a facts questions Nothing = (i : ℕ) (t : TermId) → slice_get questions i ≡ Some t → MayBeEither a facts t
FollowsAmong a facts questions (Question t b) = StandsAt questions t × Follows a facts t b
FollowsAmong a facts questions (Clash t b) = ⊥

-- nothing follows, the truth of a question does, or the facts contradict each other
abbrev pub Says : Arena → List Term → List TermId → Following → Type 0
Says a facts questions Nothing = IsStill a facts questions
Says a facts questions (Question t b) = StandsAt questions t × Follows a facts t b
Says a facts questions (Clash t b) = Contradicts a facts t b
