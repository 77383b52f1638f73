-- A table falsifies all that is refuted exactly where the condition fails in it.
use Rattle.std.proofs.Common.{◌≡◌, Bool, true, false, not, List, [], ◌∷◌, ◌++◌, Ok, Err, refl, sym, ap, ◌∙◌}
use Rattle.std.proofs.lemmas.Bool.{false≢true}
use Rattle.spv_whole.specs.Fraction.{Fraction}
use Rattle.spv_logic.specs.declared.operators.Head.TheVariants.{False}
use Rattle.spv_logic.specs.Terms.{Term, term, no_terms, term_eq}
use Rattle.spv_logic.specs.Formulas as formulas_by
use Rattle.spv_logic.proofs.Equality.{term_eq-true, term_eq-refl}
use Rattle.spv_atoms.proofs.Members.{has, or_cases, or_left, or_right, has-left, has-right, has-parts}
use Rattle.spv_table.specs.Values.{Outcome, is_true, truth_value, negation, holding, value, holds, listed_in}
use Rattle.spv_proof_rules.specs.Effects.{Question}
use Rattle.spv_models.specs.leaf_models.Tables.{Falsifies}
use Rattle.spv_verdicts.specs.Schemas.{further_facts, enlarged}
use Rattle.spv_rounds.specs.Claims.{claim, formulas}
use Rattle.spv_rounds.specs.Atoms.{facts_with, IsFailureIn}
use Rattle.spv_rounds.proofs.RefutedTerms.{facts-alone}
use Rattle.spv_rounds.specs.Laws.{FactsAreOfUsed, ListedAreDefinedWith, ListedAreDefinedUnder, FailuresWith, FailuresUnder}

-- ---- negations

truth_denied : (b : Bool) → holding (Ok (truth_value (not b))) ≡ Ok true → b ≡ false
truth_denied true e = cc
truth_denied false e = refl

denied : (o : Outcome) → holding (negation o) ≡ Ok true → holding o ≡ Ok false
denied (Err w) e = cc
denied (Ok x) e = ap Ok (truth_denied (is_true x) e)

truth_refused : (b : Bool) → b ≡ false → holding (Ok (truth_value (not b))) ≡ Ok true
truth_refused true e = cc
truth_refused false e = refl

refused : (o : Outcome) → holding o ≡ Ok false → holding (negation o) ≡ Ok true
refused (Err w) e = cc
refused (Ok x) e = truth_refused (is_true x) (same e)
  where
    same : holding (Ok x) ≡ Ok false → is_true x ≡ false
    same k = cc

-- a negation is true exactly where what it negates is false
negation_false : (listed : Term → Fraction) (g : Term) → holds listed (formulas_by.negation g) ≡ Ok true → holds listed g ≡ Ok false
negation_false listed g e = denied (value listed g) e

negation_true : (listed : Term → Fraction) (g : Term) → holds listed g ≡ Ok false → holds listed (formulas_by.negation g) ≡ Ok true
negation_true listed g e = refused (value listed g) e

-- ---- what holds

abbrev AllHold : (Term → Fraction) → List Term → Type 0
AllHold listed fs = (f : Term) → has fs f ≡ true → holds listed f ≡ Ok true

left_hold : (listed : Term → Fraction) (fs gs : List Term) → AllHold listed (fs ++ gs) → AllHold listed fs
left_hold listed fs gs h f m = h f (has-left fs gs f m)

right_hold : (listed : Term → Fraction) (fs gs : List Term) → AllHold listed (fs ++ gs) → AllHold listed gs
right_hold listed fs gs h f m = h f (has-right fs gs f m)

both_hold : (listed : Term → Fraction) (fs gs : List Term) → AllHold listed fs → AllHold listed gs → AllHold listed (fs ++ gs)
both_hold listed fs gs h k f m = has-parts fs gs f m (h f) (k f)

first_holds : (listed : Term → Fraction) (g : Term) (fs : List Term) → AllHold listed (g ∷ fs) → holds listed g ≡ Ok true
first_holds listed g fs h = h g (or_left (term_eq g g) (has fs g) (term_eq-refl g))

others_hold : (listed : Term → Fraction) (g : Term) (fs : List Term) → AllHold listed (g ∷ fs) → AllHold listed fs
others_hold listed g fs h f m = h f (or_right (term_eq f g) (has fs f) m)

one_more_holds : (listed : Term → Fraction) (g : Term) (fs : List Term) → holds listed g ≡ Ok true → AllHold listed fs → AllHold listed (g ∷ fs)
one_more_holds listed g fs own h f m = or_cases (term_eq f g) (has fs f) m (λ e. ap (holds listed) (term_eq-true f g e) ∙ own) (h f)

same_hold : (listed : Term → Fraction) (fs gs : List Term) → fs ≡ gs → AllHold listed fs → AllHold listed gs
same_hold listed fs gs e h f m = h f (ap (λ us. has us f) e ∙ m)

-- ---- a condition alone

module _ (listed : ListedAreDefinedWith) where
  fails : (q : Question) (table : List (Term × Fraction)) → Falsifies q.shapes q.decls (enlarged q).sequent table → IsFailureIn q [] table
  fails q table f =
      let goal = q.sequent.goal in
      let behind = right_hold (listed_in table) q.sequent.given (formulas_by.negation goal ∷ further_facts q) f.given_true in
      record {
        lists = f.lists ∙ listed q;
        is_table = f.is_table;
        given_true = left_hold (listed_in table) q.sequent.given (formulas_by.negation goal ∷ further_facts q) f.given_true;
        said_true = λ g m. absurd (false≢true m);
        facts_true = same_hold (listed_in table) (further_facts q) (facts_with q []) (facts-alone q) (others_hold (listed_in table) (formulas_by.negation goal) (further_facts q) behind);
        goal_false = negation_false (listed_in table) goal (first_holds (listed_in table) (formulas_by.negation goal) (further_facts q) behind);
      }

  falsifies : (q : Question) (table : List (Term × Fraction)) → IsFailureIn q [] table → Falsifies q.shapes q.decls (enlarged q).sequent table
  falsifies q table f =
      let goal = q.sequent.goal in
      record {
        lists = f.lists ∙ sym (listed q);
        is_table = f.is_table;
        given_true = both_hold (listed_in table) q.sequent.given (formulas_by.negation goal ∷ further_facts q) f.given_true
            (one_more_holds (listed_in table) (formulas_by.negation goal) (further_facts q) (negation_true (listed_in table) goal f.goal_false)
            (same_hold (listed_in table) (facts_with q []) (further_facts q) (sym (facts-alone q)) f.facts_true));
        goal_false = refl;
      }

  pub failures-with : FailuresWith
  failures-with q table = (fails q table, falsifies q table)

-- ---- with what instances say

module _ (facts : FactsAreOfUsed) (listed : ListedAreDefinedUnder) where
  fails_under : (q : Question) (fs : List Term) (table : List (Term × Fraction)) → Falsifies q.shapes q.decls (enlarged (claim q fs)).sequent table → IsFailureIn q fs table
  fails_under q fs table f =
      let goal = q.sequent.goal in
      let denied_goal = formulas_by.negation goal in
      let falsity = term False no_terms in
      let own = q.sequent.given ++ denied_goal ∷ fs in
      let others = formulas_by.negation falsity ∷ further_facts (claim q fs) in
      let stated = left_hold (listed_in table) own others f.given_true in
      let behind = right_hold (listed_in table) q.sequent.given (denied_goal ∷ fs) stated in
      record {
        lists = f.lists ∙ listed q fs;
        is_table = f.is_table;
        given_true = left_hold (listed_in table) q.sequent.given (denied_goal ∷ fs) stated;
        said_true = others_hold (listed_in table) denied_goal fs behind;
        facts_true = same_hold (listed_in table) (further_facts (claim q fs)) (facts_with q fs) (facts q fs)
            (others_hold (listed_in table) (formulas_by.negation falsity) (further_facts (claim q fs)) (right_hold (listed_in table) own others f.given_true));
        goal_false = negation_false (listed_in table) goal (first_holds (listed_in table) denied_goal fs behind);
      }

  falsifies_under : (q : Question) (fs : List Term) (table : List (Term × Fraction)) → IsFailureIn q fs table → Falsifies q.shapes q.decls (enlarged (claim q fs)).sequent table
  falsifies_under q fs table f =
      let goal = q.sequent.goal in
      let denied_goal = formulas_by.negation goal in
      let falsity = term False no_terms in
      record {
        lists = f.lists ∙ sym (listed q fs);
        is_table = f.is_table;
        given_true = both_hold (listed_in table) (q.sequent.given ++ denied_goal ∷ fs) (formulas_by.negation falsity ∷ further_facts (claim q fs))
            (both_hold (listed_in table) q.sequent.given (denied_goal ∷ fs) f.given_true (one_more_holds (listed_in table) denied_goal fs (negation_true (listed_in table) goal f.goal_false) f.said_true))
            (one_more_holds (listed_in table) (formulas_by.negation falsity) (further_facts (claim q fs)) refl
            (same_hold (listed_in table) (facts_with q fs) (further_facts (claim q fs)) (sym (facts q fs)) f.facts_true));
        goal_false = refl;
      }

  pub failures-under : FailuresUnder
  failures-under q instances table = (fails_under q (formulas q instances) table, falsifies_under q (formulas q instances) table)
