-- The table of a full state shows the condition false, where no operation is too wide.
use Rattle.std.proofs.Common.{◌≡◌, ℕ, Bool, true, false, List, [], ◌∷◌, map, refl, sym, ap, ◌∙◌, subst, Option, Some, None, Ok, inl, inr}
use Rattle.std.specs.Prelude.{slice_get}
use Rattle.std.specs.Option.{option_map}
use Rattle.std.proofs.lemmas.Option.{same_Some, slice_get-map}
use Rattle.spv_whole.specs.Fraction.{Fraction}
use Rattle.spv_logic.specs.declared.conditions.TermId.{TermId}
use Rattle.spv_logic.specs.Terms.{Term}
use Rattle.spv_term.specs.declared.nodes.Condition.{Condition}
use Rattle.spv_term.specs.Arena.{Arena, tree}
use Rattle.spv_atoms.specs.Order.{passing}
use Rattle.spv_atoms.proofs.Members.{has, has-left, has-last}
use Rattle.spv_proof_rules.specs.Stand.{question}
use Rattle.spv_derivations.specs.derivation.Derived.{is_truth}
use Rattle.spv_table.specs.Kept.{listed_over}
use Rattle.spv_table.specs.Tables.{IsTable}
use Rattle.spv_table.specs.Values.{holds, listed_in}
use Rattle.spv_models.specs.leaf_models.Leaves.{truth_at}
use Rattle.spv_models.specs.leaf_models.Subterms.{is_among, subterms, is_listed}
use Rattle.spv_models.specs.leaf_models.Tables.{formulas_of, table, Falsifies}
use Rattle.spv_models.proofs.leaf_models.Falsifying.{table-terms, is-table, formula-holds}
use Rattle.spv_share.specs.declared.both.Both.{Both}
use Rattle.spv_branch_theory.specs.model_construction.Laws.{IsTableOfLeaf}
use Rattle.spv_branch_theory.proofs.consistency.Sameness.{found_id}
use Rattle.spv_verdicts.specs.model_check.Surviving.{IsNotShown, IsShown, ShowsFalse, SomeFails}
use Rattle.spv_verdicts.specs.Verdicts.{Survives}
use Rattle.spv_verdicts.specs.answers.Views.{branch_in, case_in, pairs_in}
use Rattle.spv_branch_theory.specs.consistency.States.{same_in}
use Rattle.spv_branch_theory.specs.saturation.Filled.{on_questions}
use Rattle.spv_branch_theory.specs.saturation.States.{IsTableOf}
use Rattle.spv_branch_theory.proofs.saturation.Filling.{HasFacts, filled_facts, filled_survives}
use Rattle.spv_branch_theory.proofs.saturation.StateLeaf.{leaf_in, is_leaf, shows, table_in}

other_truth : (o : Option Bool) → o ≡ Some true → o ≡ Some false → ⊥
other_truth o e f = cc

-- ---- branches

cases_first : (a : Arena) (branch : List (TermId × Bool)) → map (λ (p : Term × Bool). p.0) (branch_in a branch) ≡ map (λ (p : TermId × Bool). tree a p.0) branch
cases_first a [] = refl
cases_first a (p ∷ branch) = ap (λ ts. tree a p.0 ∷ ts) (cases_first a branch)

-- a case of a branch is that of an id
record IsCaseOf (a : Arena) (branch : List (TermId × Bool)) (i : ℕ) (p : Term × Bool) : Type 0 where
  id : TermId × Bool
  there : slice_get branch i ≡ Some id
  is : case_in a id ≡ p

case_of : (a : Arena) (branch : List (TermId × Bool)) (i : ℕ) (p : Term × Bool) → slice_get (branch_in a branch) i ≡ Some p → IsCaseOf a branch i p
case_of a branch i p e = by_option (slice_get branch i) refl (sym (slice_get-map (case_in a) branch i) ∙ e)
  where
    by_option : (o : Option (TermId × Bool)) → slice_get branch i ≡ o → option_map (case_in a) o ≡ Some p → IsCaseOf a branch i p
    by_option None f g = absurd (cc)
    by_option (Some id) f g = record { id = id; there = f; is = same_Some (case_in a id) p g }

module _ (tables : IsTableOfLeaf) (a : Arena) (c : Condition) (b : Both) (cases : List Term) (value : Term → Option Bool) (values : List (TermId × Fraction)) (h : IsTableOf a c b cases value values) where
  pub table_same : pairs_in a values ≡ table a.shapes a.decls (formulas_of (question a c).sequent) (leaf_in a c b cases value h.state)
  table_same = table_in tables a c b cases value values h

  pub state_facts : HasFacts (question a c) (on_questions (question a c) value)
  state_facts = filled_facts (question a c) h.state.opened.formulas cases (same_in a b) (shows a c b cases value h.state) (on_questions (question a c) value) h.state.filled

  -- a formula that no operation stops has its truth
  formula_truth : (f : Term) (d : Bool) → has (formulas_of (question a c).sequent) f ≡ true → holds (listed_over a values) f ≡ Ok d → truth_at (is_truth a) (on_questions (question a c) value) f ≡ Some d
  formula_truth f d m e =
      formula-holds a.shapes a.decls (formulas_of (question a c).sequent) (leaf_in a c b cases value h.state) (is_leaf a c b cases value h.state) f d m
      (ap (λ ps. holds (listed_in ps) f) (sym table_same) ∙ e)

  none_fails : SomeFails a (listed_over a values) c.given → ⊥
  none_fails s =
      let m : has (question a c).sequent.given (tree a s.formula) ≡ true = found_id a c.given (tree a s.formula) (record { id = s.formula; listed = (s.place, s.there); is = refl }) in
      other_truth (truth_at (is_truth a) (on_questions (question a c) value) (tree a s.formula)) (state_facts.given_true (tree a s.formula) m)
      (formula_truth (tree a s.formula) false (has-left (question a c).sequent.given ((question a c).sequent.goal ∷ []) (tree a s.formula) m) s.fails)

  goal_fails : holds (listed_over a values) (tree a c.goal) ≡ Ok true → ⊥
  goal_fails e =
      other_truth (truth_at (is_truth a) (on_questions (question a c) value) (tree a c.goal))
      (formula_truth (tree a c.goal) true (has-last (question a c).sequent.given (question a c).sequent.goal) e) state_facts.goal_false

  pub never_not_shown : IsNotShown a c (listed_over a values) → ⊥
  never_not_shown (inl f) = none_fails f
  never_not_shown (inr e) = goal_fails e

  pub is_shown : ((f : Term) → is_among (formulas_of (question a c).sequent) f ≡ true → (d : Bool) × (holds (listed_over a values) f ≡ Ok d)) → IsShown a c (listed_over a values)
  is_shown fits =
      let falsifies : Falsifies a.shapes a.decls (question a c).sequent (table a.shapes a.decls (formulas_of (question a c).sequent) (leaf_in a c b cases value h.state)) =
      filled_survives (question a c) h.state.opened.formulas cases (same_in a b) (shows a c b cases value h.state) (on_questions (question a c) value) h.state.filled
      (λ f m. let known = fits f m in (known.0, ap (λ ps. holds (listed_in ps) f) (sym table_same) ∙ known.1)) in
      record {
        given_true = λ f m. ap (λ ps. holds (listed_in ps) f) table_same ∙ falsifies.given_true f m;
        goal_false = ap (λ ps. holds (listed_in ps) (tree a c.goal)) table_same ∙ falsifies.goal_false;
      }

  pub lists_subterms : map (λ (p : Term × Fraction). p.0) (pairs_in a values) ≡ passing is_listed (subterms (formulas_of (question a c).sequent))
  lists_subterms = ap (map (λ (p : Term × Fraction). p.0)) table_same ∙ table-terms a.shapes a.decls (formulas_of (question a c).sequent) (leaf_in a c b cases value h.state)

  pub is_table : IsTable a.shapes a.decls (pairs_in a values)
  is_table =
      subst (λ (ps : List (Term × Fraction)). IsTable a.shapes a.decls ps) (sym table_same)
      (is-table a.shapes a.decls (formulas_of (question a c).sequent) (leaf_in a c b cases value h.state) (is_leaf a c b cases value h.state))

  pub survives : (branch : List (TermId × Bool)) → ShowsFalse a c (listed_over a values) branch → Survives (question a c) (branch_in a branch) (pairs_in a values)
  survives branch s = record {
    falsifies = record { lists = lists_subterms; is_table = is_table; given_true = s.shown.given_true; goal_false = s.shown.goal_false };
    atoms = cases_first a branch ∙ s.branch_is.atoms;
    truths = λ i p e. let k = case_of a branch i p e in
        subst (λ (q : Term × Bool). holds (listed_in (pairs_in a values)) q.0 ≡ Ok q.1) k.is (s.branch_is.truths i k.id k.there);
  }
