-- What the code answers of a question.
use Rattle.std.specs.Prelude.{◌≡◌, ◌<◌, Bool, true, false, List, Option, Some, None, length}
use Rattle.spv_logic.specs.declared.conditions.TermId.{TermId}
use Rattle.spv_logic.specs.Terms.{Term}
use Rattle.spv_term.specs.Arena.{Arena, tree}
use Rattle.spv_proof_rules.specs.Evaluation.{bare}
use Rattle.spv_assignments.specs.kleene.Passes.{Clashes, NoneClashes}
use Rattle.spv_assignments.specs.declared.partial_assignment.answering.Supposition.{Supposition}
use Rattle.spv_assignments.specs.partial_assignment.Values.{supposed_value}
use Rattle.spv_assignments.specs.partial_assignment.Following.{Follows, MayBeEither}

-- the term that has a value where a term is supposed to be false, and this value
pub record IsSupposition (a : Arena) (t : TermId) (s : Supposition) : Type 0 where
  pub in_range : s.term.0 < length a.nodes
  pub is : tree a s.term ≡ bare (tree a t)
  pub truth : s.value ≡ supposed_value (tree a t)

-- a term clashes where this is supposed
pub record SomeClashes (a : Arena) (own : List (Option Bool)) (s : Supposition) : Type 0 where
  pub term : TermId
  pub clash : Clashes a own s.term s.value term

abbrev pub TellsClash : Arena → List (Option Bool) → Supposition → Bool → Type 0
TellsClash a own s true = SomeClashes a own s
TellsClash a own s false = NoneClashes a own s.term s.value

-- what is said of a question: that a truth follows, or that it may have either
abbrev pub Say : Arena → List Term → TermId → Option Bool → Type 0
Say a facts t None = MayBeEither a facts t
Say a facts t (Some b) = Follows a facts t b
