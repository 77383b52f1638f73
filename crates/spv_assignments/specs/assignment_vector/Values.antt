-- Values that facts give, listed beside ids.
use Rattle.std.specs.Prelude.{◌≡◌, ℕ, ◌<◌, Bool, true, false, ◌||◌, List, length, Option, Some, None, if◌then◌else◌}
use Rattle.spv_logic.specs.declared.conditions.TermId.{TermId}
use Rattle.spv_logic.specs.Terms.{Term}
use Rattle.spv_term.specs.Arena.{Arena, tree}
use Rattle.spv_proof_rules.specs.Sums.{negated}
use Rattle.spv_proof_rules.specs.Evaluation.{sides, apart}
use Rattle.spv_assignments.specs.kleene.Passes.{at}
use Rattle.spv_assignments.specs.partial_assignment.Values.{told, core_value, unless_negation}
use Rattle.spv_assignments.specs.declared.assignment_vector.sayings.Sayings.{Sayings}
use Rattle.spv_assignments.specs.assignment_vector.Sayings.{AreSaid}

-- a truth, from whether a term is said to be true, and to be false
abbrev pub truth_of : Bool → Bool → Option Bool
truth_of affirmed denied = if affirmed then Some true else (if denied then Some false else None)

-- the truth of an equation, from whether one side is said to be below the other
abbrev pub ordered : Bool → Bool → Option Bool
ordered up down = if up || down then Some false else None

-- the truth that facts give by themselves to a term that is no negation
abbrev pub direct_value : List Term → Term → Option Bool
direct_value facts t = unless_negation (negated t) (told facts t)

-- the truth that facts give to a term by an order of its sides
abbrev pub apart_value : List Term → Term → Option Bool
apart_value facts t = apart facts (sides t)

-- this is what facts say
abbrev pub Said : Arena → Sayings → List Term → Type 0
Said a given facts = AreSaid a facts given

-- the values that facts give to terms that are no negations are listed
abbrev pub CoresAre : Arena → List (Option Bool) → List Term → Type 0
CoresAre a cores facts = (t : TermId) → t.0 < length a.nodes → at cores t.0 ≡ core_value facts (tree a t)

-- a value is that of a term, whatever the facts are of which something holds
pub record IsFor (a : Arena) (Holds : List Term → Type 0) (value : List Term → Term → Option Bool) (t : TermId) (o : Option Bool) : Type 0 where
  pub is : (facts : List Term) → Holds facts → o ≡ value facts (tree a t)

-- the values of the first terms are listed, whatever the facts are of which something holds
pub record ListedFor (a : Arena) (Holds : List Term → Type 0) (value : List Term → Term → Option Bool) (n : ℕ) (values : List (Option Bool)) : Type 0 where
  pub count : length values ≡ n
  pub each : (facts : List Term) → Holds facts → (t : TermId) → t.0 < n → at values t.0 ≡ value facts (tree a t)
