-- What follows from facts by evaluation, over an arena.
use Rattle.std.specs.Prelude.{◌≡◌, ℕ, ◌<◌, Bool, true, false, not, List, Option, Some, None, length, slice_get}
use Rattle.spv_logic.specs.declared.conditions.TermId.{TermId}
use Rattle.spv_logic.specs.Terms.{Term}
use Rattle.spv_term.specs.Arena.{Arena, tree}
use Rattle.spv_atoms.specs.Atoms as atoms
use Rattle.spv_proof_rules.specs.Sums.{negated}
use Rattle.spv_proof_rules.specs.Evaluation.{clashes, evaluates}
use Rattle.spv_tableau_rules.specs.constraints.Sayings.{literal}
use Rattle.spv_models.specs.split_trees.Shown.{supposing_false}
use Rattle.spv_assignments.specs.kleene.Passes.{at}
use Rattle.spv_assignments.specs.partial_assignment.Values.{told, value_by, core_value, unless_negation, AreLiterals, AreOver}

abbrev pub is_truth : Arena → Term → Bool
is_truth a = atoms.is_truth a.shapes a.decls

-- beside each id: the truth that facts give to its term by itself, the value that they give to it, where it is no negation, and its value
pub record AreListed (a : Arena) (facts : List Term) (direct cores all : List (Option Bool)) : Type 0 where
  pub told_ones : (t : TermId) → t.0 < length a.nodes → at direct t.0 ≡ unless_negation (negated (tree a t)) (told facts (tree a t))
  pub core_ones : (t : TermId) → t.0 < length a.nodes → at cores t.0 ≡ core_value facts (tree a t)
  pub all_ones : (t : TermId) → t.0 < length a.nodes → at all t.0 ≡ value_by facts (tree a t)

-- a term that has no value has this truth: were it opposite, what the facts say would clash
pub record Follows (a : Arena) (facts : List Term) (t : TermId) (b : Bool) : Type 0 where
  pub in_range : t.0 < length a.nodes
  pub has_none : value_by facts (tree a t) ≡ None
  pub follows : evaluates (is_truth a) facts (literal b (tree a t)) ≡ true

-- the facts contradict each other: a term has this truth by a fact, and the opposite one follows
pub record Contradicts (a : Arena) (facts : List Term) (t : TermId) (b : Bool) : Type 0 where
  pub in_range : t.0 < length a.nodes
  pub is_told : told facts (tree a t) ≡ Some b
  pub follows : evaluates (is_truth a) facts (literal (not b) (tree a t)) ≡ true

-- a term that has no value may have either truth, as far as connectives go
pub record MayBeEither (a : Arena) (facts : List Term) (t : TermId) : Type 0 where
  pub quiet : value_by facts (tree a t) ≡ None → (b : Bool) (u : Term) → clashes (is_truth a) (supposing_false (value_by facts) (literal b (tree a t))) u ≡ false

-- nothing follows: no value that facts give is opposite to what connectives make of others, and questions without a value may have either
pub record IsStill (a : Arena) (facts : List Term) (questions : List TermId) : Type 0 where
  pub agree : (u : Term) → clashes (is_truth a) (value_by facts) u ≡ false
  pub still : (i : ℕ) (t : TermId) → slice_get questions i ≡ Some t → MayBeEither a facts t

-- what is known: literals over an arena
pub record IsKnowledge (a : Arena) (facts : List Term) : Type 0 where
  pub literals : AreLiterals facts
  pub over : AreOver a facts
