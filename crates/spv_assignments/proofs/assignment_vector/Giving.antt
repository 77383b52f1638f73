-- The value of one term.
use Rattle.std.proofs.Common.{◌≡◌, ◌<◌, Bool, List, [], ◌∷◌, length, slice_get, refl, sym, ap, subst, ◌∙◌, Option, Some, None}
use mathlib.Core.Path.{ap₂}
use Rattle.spv_logic.specs.declared.conditions.TermId.{TermId}
use Rattle.spv_logic.specs.Terms.{Term, term}
use Rattle.spv_logic.specs.Formulas.{negation}
use Rattle.spv_term.specs.declared.nodes.Node.{Node}
use Rattle.spv_term.specs.Arena.{Arena, IsArena, AllBelow, tree, trees}
use Rattle.spv_term.proofs.ArenaLemmas.{node_of, args_before, args_in_range, tree-node, HasOneId-arena}
use Rattle.spv_atoms.specs.Tables.{or_else, not_of}
use Rattle.spv_proof_rules.specs.Sums.{negated}
use Rattle.spv_proof_rules.specs.Evaluation.{sides, cites, apart}
use Rattle.spv_assignments.specs.kleene.Passes.{at}
use Rattle.spv_assignments.specs.partial_assignment.Values.{told, told_or_apart, value_by, core_value, unless_negation}
use Rattle.spv_assignments.proofs.partial_assignment.Told.{negated_is, core_of, core_value_of}
use Rattle.spv_assignments.specs.declared.assignment_vector.sayings.RowConstraint.{RowConstraint}
use Rattle.spv_assignments.specs.declared.assignment_vector.sayings.RowConstraint.TheVariants.{Denies, Orders}
use Rattle.spv_assignments.specs.declared.assignment_vector.sayings.Sayings.{Sayings}
use Rattle.spv_assignments.specs.assignment_vector.Sayings.{says, IsRowConstraint}
use Rattle.spv_assignments.specs.assignment_vector.Values.{truth_of, ordered, direct_value, apart_value, Said, CoresAre, IsFor, ListedFor}

-- ---- what a negation negates stands before it

module _ (a : Arena) (ok : IsArena a) where
  pub negated_before : (t u : TermId) → t.0 < length a.nodes → u.0 < length a.nodes → Some (tree a u) ≡ negated (tree a t) → u.0 < t.0
  negated_before t u h k e =
      let n = node_of a ok t h in
      by_args n.0 n.1 n.0.args (args_before a ok t n.0 n.1) (args_in_range a ok t n.0 n.1) (sym (tree-node a ok t n.0 n.1) ∙ negated_is (tree a t) (tree a u) (sym e))
    where
      by_args : (n : Node) → slice_get a.nodes t.0 ≡ Some n → (args : List TermId) → AllBelow t.0 args → AllBelow (length a.nodes) args → term n.head (trees a args) ≡ negation (tree a u) → u.0 < t.0
      by_args n at [] before inside f = absurd cc
      by_args n at (w ∷ args) before inside f =
          let same : tree a w ≡ tree a u = cc in
          let one : w ≡ u = HasOneId-arena a ok w u inside.0 k same in
          subst (λ (x : TermId). x.0 < t.0) one before.0

-- ---- the truth by a fact

module _ (a : Arena) (given : Sayings) where
  pub direct_negation : (t u : TermId) → Some (tree a u) ≡ negated (tree a t) → IsFor a (Said a given) direct_value t None
  direct_negation t u e = record { is = λ facts said. ap (λ o. unless_negation o (told facts (tree a t))) e }

  pub direct_core : (t : TermId) (s : RowConstraint) (o : Option Bool) → t.0 < length a.nodes → None ≡ negated (tree a t) → IsRowConstraint a (tree a t) s → o ≡ truth_of (says given s) (says given (Denies t))
      → IsFor a (Said a given) direct_value t o
  direct_core t s o h none is e = record {
    is = λ facts said.
        e
        ∙ (ap₂ truth_of (said.each s is.fits ∙ ap (cites facts) is.is) (said.each (Denies t) h)
        ∙ ap (λ x. unless_negation x (told facts (tree a t))) none);
  }

  -- ---- the truth by an order of sides

  pub apart_sides : (t left right : TermId) (o : Option Bool) → left.0 < length a.nodes → right.0 < length a.nodes → Some (tree a left, tree a right) ≡ sides (tree a t)
      → o ≡ ordered (says given (Orders left right)) (says given (Orders right left)) → IsFor a (Said a given) apart_value t o
  apart_sides t left right o h k some e = record {
    is = λ facts said. e ∙ (ap₂ ordered (said.each (Orders left right) (h, k)) (said.each (Orders right left) (k, h)) ∙ ap (apart facts) some);
  }

  pub apart_none : (t : TermId) → None ≡ sides (tree a t) → IsFor a (Said a given) apart_value t None
  apart_none t none = record { is = λ facts said. ap (apart facts) none }

  -- ---- the value of a term that is no negation

  pub core_parts : (facts : List Term) (t : Term) → or_else (direct_value facts t) (apart_value facts t) ≡ core_value facts t
  core_parts facts t = by_negated (negated t) refl
    where
      by_negated : (o : Option Term) → negated t ≡ o → or_else (direct_value facts t) (apart_value facts t) ≡ core_value facts t
      by_negated None n = ap (λ o. or_else (unless_negation o (told facts t)) (apart facts (sides t))) n ∙ sym (core_value_of facts t n)
      by_negated (Some w) n =
          ap (λ o. or_else (unless_negation o (told facts t)) (apart facts (sides t))) n
          ∙ (ap (λ x. apart facts (sides x)) (negated_is t w n) ∙ sym (ap (λ o. unless_negation o (told_or_apart facts t)) n))

  pub core_is : (direct : List (Option Bool)) (t : TermId) (x y o : Option Bool) → t.0 < length a.nodes → ListedFor a (Said a given) direct_value (length a.nodes) direct → x ≡ at direct t.0
      → IsFor a (Said a given) apart_value t y → o ≡ or_else x y → IsFor a (Said a given) core_value t o
  core_is direct t x y o h listed e by_sides f = record {
    is = λ facts said. f ∙ (ap₂ or_else (e ∙ listed.each facts said t h) (by_sides.is facts said) ∙ core_parts facts (tree a t));
  }

-- ---- the value of any term

pub value_core : (a : Arena) (cores : List (Option Bool)) (t : TermId) (o : Option Bool) → t.0 < length a.nodes → None ≡ negated (tree a t) → o ≡ at cores t.0 → IsFor a (CoresAre a cores) value_by t o
value_core a cores t o h none e = record {
  is = λ facts are. e ∙ (are t h ∙ (core_value_of facts (tree a t) (sym none) ∙ sym (core_of facts (tree a t) (sym none))));
}

pub value_negation : (a : Arena) → IsArena a → (cores before : List (Option Bool)) (t u : TermId) (x o : Option Bool) → t.0 < length a.nodes → u.0 < length a.nodes → Some (tree a u) ≡ negated (tree a t)
    → ListedFor a (CoresAre a cores) value_by t.0 before → x ≡ at before u.0 → o ≡ not_of x → IsFor a (CoresAre a cores) value_by t o
value_negation a ok cores before t u x o h k some listed e f = record {
  is = λ facts are.
      f
      ∙ (ap not_of (e ∙ listed.each facts are u (negated_before a ok t u h k some)) ∙ sym (ap (value_by facts) (negated_is (tree a t) (tree a u) (sym some))));
}
