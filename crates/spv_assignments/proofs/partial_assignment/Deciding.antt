-- What is answered of a question that has no value.
use Rattle.std.proofs.Common.{◌≡◌, ◌<◌, Bool, true, false, List, length, refl, sym, ap, subst, ◌∙◌, Option, Some, None}
use Rattle.std.specs.Prelude.{is_some}
use Rattle.std.specs.Option.{option_map}
use Rattle.std.proofs.lemmas.Bool.{false≢true}
use Rattle.spv_logic.specs.declared.conditions.TermId.{TermId}
use Rattle.spv_logic.specs.Terms.{Term}
use Rattle.spv_logic.specs.Formulas.{negation}
use Rattle.spv_term.specs.Arena.{Arena, IsArena, tree}
use Rattle.spv_atoms.specs.Tables.{not_of}
use Rattle.spv_proof_rules.specs.Sums.{negated}
use Rattle.spv_proof_rules.specs.Evaluation.{bare, bare_or, clashes}
use Rattle.spv_tableau_rules.specs.constraints.Sayings.{literal}
use Rattle.spv_models.specs.split_trees.Shown.{supposing_false}
use Rattle.spv_assignments.specs.kleene.Passes.{at, AreQuiet, NoneClashes}
use Rattle.spv_assignments.specs.declared.partial_assignment.answering.Supposition.{Supposition}
use Rattle.spv_assignments.specs.partial_assignment.Values.{value_by, is_negation}
use Rattle.spv_assignments.specs.partial_assignment.Following.{is_truth, AreListed, Follows, MayBeEither, IsKnowledge}
use Rattle.spv_assignments.specs.partial_assignment.Answers.{IsSupposition, SomeClashes, TellsClash}
use Rattle.spv_assignments.proofs.partial_assignment.Told.{negated_is}
use Rattle.spv_assignments.proofs.partial_assignment.Supposing.{open_one}
use Rattle.spv_assignments.proofs.partial_assignment.Places.{clash_follows, supposed_quiet}

module _ (a : Arena) (t : TermId) (inside : t.0 < length a.nodes) where
  abbrev negates : Option TermId → Option Term
  negates o = option_map (tree a) o

  -- a term that negates another, and one that negates none
  pub supposes_some : (o : Option TermId) (u : TermId) → o ≡ Some u → negates o ≡ negated (tree a t) → u.0 < length a.nodes → IsSupposition a t (record { term = u; value = true })
  supposes_some o u e f h =
      let n : negated (tree a t) ≡ Some (tree a u) = sym f ∙ ap negates e in
      record { in_range = h; is = sym (ap (λ x. bare_or x (tree a t)) n); truth = sym (ap is_negation n) }

  pub supposes_none : (o : Option TermId) → o ≡ None → negates o ≡ negated (tree a t) → IsSupposition a t (record { term = t; value = false })
  supposes_none o e f =
      let n : negated (tree a t) ≡ None = sym f ∙ ap negates e in
      record { in_range = inside; is = sym (ap (λ x. bare_or x (tree a t)) n); truth = sym (ap is_negation n) }

  module _ (ok : IsArena a) (direct cores all : List (Option Bool)) (facts : List Term) (is : IsKnowledge a facts) (lists : AreListed a facts direct cores all) (quiet : AreQuiet a direct) where
    -- what a term negates has no value where it has none
    bare_none : value_by facts (tree a t) ≡ None → value_by facts (bare (tree a t)) ≡ None
    bare_none e = by_negated (negated (tree a t)) refl
      where
        not_none : (o : Option Bool) → not_of o ≡ None → o ≡ None
        not_none None h = refl
        not_none (Some b) h = absurd cc

        by_negated : (o : Option Term) → negated (tree a t) ≡ o → value_by facts (bare_or o (tree a t)) ≡ None
        by_negated None n = e
        by_negated (Some w) n = not_none (value_by facts w) (sym (ap (value_by facts) (negated_is (tree a t) w n)) ∙ e)

    some_is : (o : Option Bool) → is_some o ≡ true → o ≡ None → ⊥
    some_is None h e = false≢true h
    some_is (Some b) h e = cc

    is_none : (o : Option Bool) → is_some o ≡ false → o ≡ None
    is_none None h = refl
    is_none (Some b) h = absurd (false≢true (sym h))

    pub answered_known : is_some (at all t.0) ≡ true → MayBeEither a facts t
    answered_known h = record { quiet = λ e b u. absurd (some_is (at all t.0) h (lists.all_ones t inside ∙ e)) }

    has_none : is_some (at all t.0) ≡ false → value_by facts (tree a t) ≡ None
    has_none h = sym (lists.all_ones t inside) ∙ is_none (at all t.0) h

    pub answered_true : is_some (at all t.0) ≡ false → (s : Supposition) → IsSupposition a t s → SomeClashes a cores s → Follows a facts t true
    answered_true h s supposed clash = record {
      in_range = inside;
      has_none = has_none h;
      follows = clash_follows a ok facts is.literals is.over direct cores all lists quiet s.term supposed.in_range (tree a t) supposed.is s.value supposed.truth (open_one (bare_none (has_none h))) clash.term clash.clash;
    }

    abbrev affirmed : Supposition
    affirmed = record { term = t; value = true }

    pub answered_false : is_some (at all t.0) ≡ false → SomeClashes a cores affirmed → Follows a facts t false
    answered_false h clash = record {
      in_range = inside;
      has_none = has_none h;
      follows = clash_follows a ok facts is.literals is.over direct cores all lists quiet t inside (negation (tree a t)) refl true refl (open_one (has_none h)) clash.term clash.clash;
    }

    pub answered_none : (s : Supposition) → IsSupposition a t s → NoneClashes a cores s.term s.value → NoneClashes a cores t true → MayBeEither a facts t
    answered_none s supposed first second = record { quiet = either }
      where
        either : value_by facts (tree a t) ≡ None → (b : Bool) (u : Term) → clashes (is_truth a) (supposing_false (value_by facts) (literal b (tree a t))) u ≡ false
        either e true u = supposed_quiet a ok facts is.literals is.over direct cores all lists quiet s.term supposed.in_range (tree a t) supposed.is s.value supposed.truth (bare_none e) first u
        either e false u = supposed_quiet a ok facts is.literals is.over direct cores all lists quiet t inside (negation (tree a t)) refl true refl e second u

-- ---- what a pass tells

pub told_some : (a : Arena) (own cores : List (Option Bool)) (s : Supposition) (b : Bool) → own ≡ cores → b ≡ true → TellsClash a own s b → SomeClashes a cores s
told_some a own cores s true e h t = subst (λ (xs : List (Option Bool)). SomeClashes a xs s) e t
told_some a own cores s false e h t = absurd (false≢true h)

pub told_none : (a : Arena) (own cores : List (Option Bool)) (s : Supposition) (b : Bool) → own ≡ cores → b ≡ false → TellsClash a own s b → NoneClashes a cores s.term s.value
told_none a own cores s true e h t = absurd (false≢true (sym h))
told_none a own cores s false e h t = subst (λ (xs : List (Option Bool)). NoneClashes a xs s.term s.value) e t
