-- A path on which all is told, and whose sides are open, is an open state of a search.
use Rattle.std.proofs.Common.{◌≡◌, ℕ, Bool, true, false, cond, List, ◌∷◌, map, refl, sym, ap, ◌∙◌, subst, Option, Some, None}
use Rattle.std.specs.Prelude.{slice_get}
use Rattle.spv_logic.specs.declared.conditions.TermId.{TermId}
use Rattle.spv_logic.specs.Terms.{Term, term_eq}
use Rattle.spv_logic.specs.Formulas.{negation}
use Rattle.spv_term.specs.declared.nodes.Condition.{Condition}
use Rattle.spv_term.specs.Arena.{Arena, tree}
use Rattle.spv_atoms.proofs.Members.{has, has-left, has-right, has-parts, or_cases, or_left, or_right}
use Rattle.spv_proof_rules.specs.Stand.{question}
use Rattle.spv_derivations.specs.declared.derivation.entries.Part.TheVariants.{True, False, Below, Above}
use Rattle.spv_derivations.specs.declared.derivation.entries.Part.{Part}
use Rattle.spv_derivations.specs.declared.derivation.entries.Entry.{Entry}
use Rattle.spv_derivations.specs.derivation.Derivation.{literal}
use Rattle.spv_tableau_rules.specs.constraints.Sayings as readings
use Rattle.spv_models.specs.leaf_models.Tables.{formulas_of}
use Rattle.spv_models.specs.split_trees.Paths.{atoms, questions, facts, Known, given, lower, upper, IsLive}
use Rattle.spv_models.proofs.split_trees.Showing.{shown-live}
use Rattle.spv_share.specs.declared.both.Both.{Both}
use Rattle.spv_share.specs.Both.{told}
use Rattle.spv_share.specs.Relations.{AreRelationsAmong}
use Rattle.spv_share.proofs.combination_laws.Enough.{search_enough}
use Rattle.spv_branch_theory.specs.consistency.States.{same_in}
use Rattle.spv_branch_theory.specs.consistency.Laws.{IsOpenState}
use Rattle.spv_branch_theory.proofs.consistency.Showing.{open_shows}
use Rattle.spv_assignments.specs.declared.partial_assignment.facts.Known as known
use Rattle.spv_assignments.specs.partial_assignment.Facts.{fact_of, facts_of}
use Rattle.spv_assignments.specs.partial_assignment.Following.{AreListed}
use Rattle.spv_assignments.proofs.partial_assignment.Ending.{still_finished}
use Rattle.spv_branch_theory.proofs.search_invariant.Adding.{subterms_added}
use Rattle.spv_branch_theory.proofs.search_invariant.Relations.{relations_are_told}
use Rattle.spv_branch_theory.proofs.search_invariant.Fewer.{fewer_are_live}
use Rattle.spv_decisions.specs.decision.Choosing.{HaveValues, HaveOrders}
use Rattle.spv_decisions.specs.decision.Laws.{IsFilledBy}
use Rattle.spv_decisions.proofs.decision.Filled.{nothing_left}
use Rattle.spv_branch_theory.specs.saturation.Filled.{on_questions}
use Rattle.spv_branch_theory.specs.saturation.States.{IsFullState}
use Rattle.spv_trail.specs.trail_states.Told.{meaning, meanings, IsToldIn, IsDeniedIn, by_itself, by_below, by_above, values_of, said_on}
use Rattle.spv_trail.specs.trail_states.Laws.{IsAtRest}
use Rattle.spv_trail.proofs.trail_states.RowConstraint.{found_from, told_as, denied_as, said_facts, facts_true}

module _ (a : Arena) (c : Condition) (b : Both) (ids asked : List TermId) (es : List Entry) (ks : List known.Known) (cases : List Term) (r : IsAtRest a c b ids asked es ks cases) where
  -- what is said on the path
  abbrev all_said : List Term
  all_said = said_on a ks (told b)

  abbrev value : Term → Option Bool
  value = values_of a ks

  atom_id : (t : Term) → has (atoms (question a c)) t ≡ true → has (map (tree a) ids) t ≡ true
  atom_id t m = ap (λ ts. has ts t) r.opened.atoms_are ∙ m

  pub rest_opened : IsOpenState a c b all_said value
  rest_opened = record {
    ok = r.ok;
    both = r.both;
    agree = r.agree;
    exact = r.exact;
    terms_are = r.terms_are;
    tableau = r.tableau;
    enough = search_enough a r.ok b r.both ids (formulas_of (question a c).sequent) (record { listed = r.opened.listed; parts = r.opened.parts }) (record {
      formulas = r.formulas;
      atoms_in = atom_id;
      atoms_only = λ i t at. ap (λ ts. has ts (tree a t)) (sym r.opened.atoms_are) ∙ found_from (tree a) ids i t at;
      asked = λ i l at. (r.settled.stored.asked i l at).asked;
    });
    formulas = r.formulas;
    of_atoms = subst (λ ts. AreRelationsAmong a ts b.relations.items) r.opened.atoms_are r.opened.of_atoms;
    parts = subterms_added a c b ids r.ok r.both.sound.trail.of r.terms_are r.opened.nodes atom_id;
    finished = still_finished a (question a c).sequent (facts_of a ks) asked r.questions_are r.still r.settled.stored.uncrossed (facts (question a c) all_said) (facts_true a c es ks (told b) cases r.settled);
    answered = record {
      affirmed = λ t m e. told_as a c b r.formulas t True (r.settled.answered.each t true m e);
      denied = λ t m e. denied_as a c b r.formulas t (r.settled.answered.each t false m e);
    };
    known = relations_are_told a c b all_said r.formulas (said_facts a c b r.formulas es ks r.settled.stored);
  }

  -- ---- the path is live

  no_other : (t : Term) → has (facts (question a c) cases) t ≡ true → has (facts (question a c) all_said) t ≡ true
  no_other t m =
      has-parts hypotheses (negation goal ∷ cases) t m (λ k. has-left hypotheses (negation goal ∷ all_said) t k)
      (λ k. has-right hypotheses (negation goal ∷ all_said) t
      (or_cases (term_eq t (negation goal)) (has cases t) k (λ e. or_left (term_eq t (negation goal)) (has all_said t) e)
      (λ e. or_right (term_eq t (negation goal)) (has all_said t) (has-left (facts_of a ks) (meanings a (told b)) t (r.settled.cases_known t e)))))
    where
      hypotheses : List Term
      hypotheses = (question a c).sequent.given

      goal : Term
      goal = (question a c).sequent.goal

  pub rest_live : IsLive (question a c) (facts (question a c) cases)
  rest_live =
      shown-live (question a c) (facts (question a c) cases) (same_in a b)
      (fewer_are_live (question a c) (facts (question a c) all_said) (facts (question a c) cases) (same_in a b) (open_shows a c b all_said value rest_opened) no_other)

  -- ---- all that is said is known

  among_facts : (t : Term) → has all_said t ≡ true → has (facts (question a c) all_said) t ≡ true
  among_facts t m = has-right (question a c).sequent.given (negation (question a c).sequent.goal ∷ all_said) t (or_right (term_eq t (negation (question a c).sequent.goal)) (has all_said t) m)

  fact_known : (i : ℕ) (k : known.Known) → slice_get ks i ≡ Some k → Known (question a c) (facts (question a c) all_said) (fact_of a k)
  fact_known i k at = given (fact_of a k) (among_facts (fact_of a k) (has-left (facts_of a ks) (meanings a (told b)) (fact_of a k) (found_from (fact_of a) ks i k at)))

  told_known : (t : Term) (p : Part) → IsToldIn a (told b) t p → Known (question a c) (facts (question a c) all_said) (literal t p)
  told_known t p k =
      let here = found_from (meaning a) (told b) k.place k.told_one k.there in
      subst (Known (question a c) (facts (question a c) all_said)) (said_is k.told_one.part k.part_is)
      (given (meaning a k.told_one) (among_facts (meaning a k.told_one) (has-right (facts_of a ks) (meanings a (told b)) (meaning a k.told_one) here)))
    where
      said_is : (o : Part) → o ≡ p → literal (tree a k.told_one.atom) o ≡ literal t p
      said_is o e = ap (literal (tree a k.told_one.atom)) e ∙ ap (λ (u : Term). literal u p) k.atom

  -- so is the truth of each question that has a value
  value_known : (t : Term) (d : Bool) → has (questions (question a c)) t ≡ true → value t ≡ Some d → Known (question a c) (facts (question a c) all_said) (readings.literal d t)
  value_known t true m e = told_known t True (r.settled.answered.each t true m e)
  value_known t false m e = by_denied (r.settled.answered.each t false m e)
    where
      by_denied : IsDeniedIn a (told b) t → Known (question a c) (facts (question a c) all_said) (negation t)
      by_denied (by_itself k) = told_known t False k
      by_denied (by_below x y f k) =
          subst (λ (u : Term). Known (question a c) (facts (question a c) all_said) (negation u)) (sym f)
          (lower x y (ap (has (questions (question a c))) (sym f) ∙ m) (subst (λ (u : Term). Known (question a c) (facts (question a c) all_said) (literal u Below)) f (told_known t Below k)))
      by_denied (by_above x y f k) =
          subst (λ (u : Term). Known (question a c) (facts (question a c) all_said) (negation u)) (sym f)
          (upper x y (ap (has (questions (question a c))) (sym f) ∙ m) (subst (λ (u : Term). Known (question a c) (facts (question a c) all_said) (literal u Above)) f (told_known t Above k)))

  -- ---- full paths

  record IsQuestionWith (t : Term) (d : Bool) : Type 0 where
    asked_one : has (questions (question a c)) t ≡ true
    value_is : value t ≡ Some d

  question_with : (t : Term) (d : Bool) → on_questions (question a c) value t ≡ Some d → IsQuestionWith t d
  question_with t d e = by_case (has (questions (question a c)) t) refl e
    where
      by_case : (m : Bool) → has (questions (question a c)) t ≡ m → cond m (value t) None ≡ Some d → IsQuestionWith t d
      by_case true h f = record { asked_one = h; value_is = f }
      by_case false h f = absurd (cc)

  module _ (direct cores all : List (Option Bool)) (lists : AreListed a (facts_of a ks) direct cores all) (full : HaveValues all ids × HaveOrders a all ks ids) where
    filled_by : IsFilledBy (question a c) (facts (question a c) all_said) (on_questions (question a c) value)
    filled_by =
        nothing_left a (question a c).sequent r.formulas ids r.opened.atoms_are r.opened.within value all lists.all_ones ks full (facts (question a c) all_said) rest_opened.finished fact_known (on_questions (question a c) value)
        (λ t m. ap (λ x. cond x (value t) None) m)

    rest_full : IsFullState a c b all_said value
    rest_full = record {
      opened = rest_opened;
      filled = record {
        known = λ t d e. let k = question_with t d e in value_known t d k.asked_one k.value_is;
        asked = λ t d e. (question_with t d e).asked_one;
        full = filled_by.full;
        ordered = filled_by.ordered;
      };
    }

pub rest_is_open : (a : Arena) (c : Condition) (b : Both) (ids asked : List TermId) (es : List Entry) (ks : List known.Known) (cases : List Term) → IsAtRest a c b ids asked es ks cases
    → IsOpenState a c b (said_on a ks (told b)) (values_of a ks)
rest_is_open = rest_opened

pub rest_is_live : (a : Arena) (c : Condition) (b : Both) (ids asked : List TermId) (es : List Entry) (ks : List known.Known) (cases : List Term) → IsAtRest a c b ids asked es ks cases
    → IsLive (question a c) (facts (question a c) cases)
rest_is_live = rest_live

pub full_rest : (a : Arena) (c : Condition) (b : Both) (ids asked : List TermId) (es : List Entry) (ks : List known.Known) (cases : List Term) → IsAtRest a c b ids asked es ks cases
    → (direct cores all : List (Option Bool)) → AreListed a (facts_of a ks) direct cores all → HaveValues all ids × HaveOrders a all ks ids → IsFullState a c b (said_on a ks (told b)) (values_of a ks)
full_rest a c b ids asked es ks cases r direct cores all lists full = rest_full a c b ids asked es ks cases r direct cores all lists full
