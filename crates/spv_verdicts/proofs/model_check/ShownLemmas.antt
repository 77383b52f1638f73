-- Formulas in a table, over plain variables.
use Rattle.std.proofs.Common.{◌≡◌, ℕ, zero, suc, ◌<◌, Bool, true, false, List, [], ◌∷◌, map, length, refl, sym, ap, ◌∙◌, subst, Some, inr}
use Rattle.std.specs.Prelude.{slice_get, Result, Ok, Err, IsErrAnd, IfErr, is_some, not}
use Rattle.std.proofs.lemmas.Bool.{false≢true}
use Rattle.std.proofs.lemmas.Option.{same_Some}
use Rattle.spv_whole.specs.Fraction.{Fraction}
use Rattle.spv_logic.specs.declared.conditions.TermId.{TermId}
use Rattle.spv_logic.specs.Terms.{Term, term_eq}
use Rattle.spv_logic.specs.Sorts.{term_sort}
use Rattle.spv_logic.proofs.Equality.{term_eq-true, term_eq-refl}
use Rattle.spv_term.specs.declared.nodes.Condition.{Condition}
use Rattle.spv_term.specs.Arena.{Arena, IsArena, AllBelow, tree, sequent}
use Rattle.spv_term.proofs.ArenaLemmas.{term_sort-tree}
use Rattle.spv_term.proofs.TreeLemmas.{AllBelow-at}
use Rattle.spv_atoms.specs.Atoms.{is_truth}
use Rattle.spv_atoms.proofs.Members.{has, or_left, or_right, or_cases, has-parts, has-left, has-last, has_one}
use Rattle.spv_table.specs.declared.operations.WideValue.{WideValue}
use Rattle.spv_table.specs.Values.{Outcome, holding, holds}
use Rattle.spv_proof_rules.specs.Stand.{question}
use Rattle.spv_models.specs.leaf_models.Subterms.{subterms}
use Rattle.spv_models.specs.leaf_models.Tables.{formulas_of}
use Rattle.spv_models.proofs.leaf_models.Closed.{subterms-has, subterms-closed}
use Rattle.spv_verdicts.specs.Verdicts.{condition_atoms}
use Rattle.spv_verdicts.specs.declared.model_check.faults.SurvivingFault.{SurvivingFault}
use Rattle.spv_verdicts.specs.declared.model_check.faults.SurvivingFault.TheVariants.{Wide, Memory}
use Rattle.spv_verdicts.specs.model_check.Surviving.{IsShown, IsBranch, IsFaultFor, IsFaultOf, IsFaultAmong, IsListedAt, AllHold, IsNotShown, AreTruths}
use Rattle.spv_verdicts.proofs.model_check.AtomLemmas.{atoms_inside}

-- a formula whose evaluation stops has no value
pub value_stops : (o : Outcome) (w : WideValue) → holding o ≡ Err w → o ≡ Err w
value_stops (Ok x) w e = absurd (cc)
value_stops (Err v) w e = cc

-- ---- ids and trees

pub has_tree : (a : Arena) (ids : List TermId) (i : ℕ) (t : TermId) → slice_get ids i ≡ Some t → has (map (tree a) ids) (tree a t) ≡ true
has_tree a [] i t e = absurd (cc)
has_tree a (u ∷ ids) zero t e =
    let same : u ≡ t = same_Some u t e in
    or_left (term_eq (tree a t) (tree a u)) (has (map (tree a) ids) (tree a t)) (ap (λ x. term_eq (tree a t) (tree a x)) same ∙ term_eq-refl (tree a t))
has_tree a (u ∷ ids) (suc i) t e = or_right (term_eq (tree a t) (tree a u)) (has (map (tree a) ids) (tree a t)) (has_tree a ids i t e)

module _ (a : Arena) (listed : Term → Fraction) where
  trees_hold : (ids : List TermId) → ((i : ℕ) (t : TermId) → slice_get ids i ≡ Some t → holds listed (tree a t) ≡ Ok true) → (f : Term) → has (map (tree a) ids) f ≡ true → holds listed f ≡ Ok true
  trees_hold [] h f m = absurd (false≢true m)
  trees_hold (t ∷ ids) h f m =
      or_cases (term_eq f (tree a t)) (has (map (tree a) ids) f) m (λ e. ap (holds listed) (term_eq-true f (tree a t) e) ∙ h 0 t refl) (trees_hold ids (λ i u at. h (suc i) u at) f)

  pub shown : (c : Condition) → AllHold a listed c.given → holds listed (tree a c.goal) ≡ Ok false → IsShown a c listed
  shown c h e = record { given_true = trees_hold c.given h.each; goal_false = e }

  pub goal_true : (c : Condition) (b : Bool) → holds listed (tree a c.goal) ≡ Ok b → not b ≡ false → IsNotShown a c listed
  goal_true c true e is = inr e
  goal_true c false e is = absurd (false≢true (sym is))

-- ---- faults

abbrev formulas : Arena → Condition → List Term
formulas a c = formulas_of (sequent a c)

-- the formulas of a condition have sorts
module _ (a : Arena) (ok : IsArena a) (c : Condition) (given_in : AllBelow (length a.nodes) c.given) (goal_in : c.goal.0 < length a.nodes) where
  sorted_one : (t : TermId) → t.0 < length a.nodes → is_some (term_sort a.shapes a.decls (tree a t)) ≡ true
  sorted_one t h = ap is_some (term_sort-tree a ok (tree a t) t h refl)

  sorted_ids : (ids : List TermId) → AllBelow (length a.nodes) ids → (f : Term) → has (map (tree a) ids) f ≡ true → is_some (term_sort a.shapes a.decls f) ≡ true
  sorted_ids [] h f m = absurd (false≢true m)
  sorted_ids (t ∷ ids) h f m =
      or_cases (term_eq f (tree a t)) (has (map (tree a) ids) f) m (λ e. ap (λ x. is_some (term_sort a.shapes a.decls x)) (term_eq-true f (tree a t) e) ∙ sorted_one t h.0) (sorted_ids ids h.1 f)

  sorted : (f : Term) → has (formulas a c) f ≡ true → is_some (term_sort a.shapes a.decls f) ≡ true
  sorted f m =
      has-parts (map (tree a) c.given) (tree a c.goal ∷ []) f m (sorted_ids c.given given_in f)
      (λ k. ap (λ x. is_some (term_sort a.shapes a.decls x)) (has_one f (tree a c.goal) k) ∙ sorted_one c.goal goal_in)

  formula_part : (f : Term) → has (formulas a c) f ≡ true → has (subterms (formulas a c)) f ≡ true
  formula_part f m = subterms-has (formulas a c) f m

  atom_part : (u : Term) → has (condition_atoms (question a c)) u ≡ true → has (subterms (formulas a c)) u ≡ true
  atom_part u m =
      atoms_inside (is_truth a.shapes a.decls) (subterms (formulas a c)) (subterms-closed a.shapes a.decls (formulas a c) sorted).inside [] (formulas a c) (λ v k. absurd (false≢true k)) formula_part u m

  module _ (listed : Term → Fraction) where
    pub given_fault : (e : SurvivingFault) → IsFaultAmong a listed c.given e → IsFaultFor a c listed e
    given_fault (Wide t w) h = (
      AllBelow-at (length a.nodes) c.given h.0.place t given_in h.0.there,
      formula_part (tree a t) (has-left (map (tree a) c.given) (tree a c.goal ∷ []) (tree a t) (has_tree a c.given h.0.place t h.0.there)),
      h.1,
    )
    given_fault Memory h = tt

    pub goal_fault : (e : SurvivingFault) → IsFaultOf a listed c.goal e → IsFaultFor a c listed e
    goal_fault (Wide t w) h =
        let same : c.goal ≡ t = sym h.0 in (
          subst (λ (x : TermId). x.0 < length a.nodes) same goal_in,
          formula_part (tree a t) (ap (λ (x : TermId). has (formulas a c) (tree a x)) h.0 ∙ has-last (map (tree a) c.given) (tree a c.goal)),
          h.1,
        )
    goal_fault Memory h = tt

    pub atom_fault : (found : List TermId) → map (tree a) found ≡ condition_atoms (question a c) → AllBelow (length a.nodes) found → (e : SurvivingFault) → IsFaultAmong a listed found e → IsFaultFor a c listed e
    atom_fault found are below (Wide t w) h = (
      AllBelow-at (length a.nodes) found h.0.place t below h.0.there,
      atom_part (tree a t) (sym (ap (λ xs. has xs (tree a t)) are) ∙ has_tree a found h.0.place t h.0.there),
      h.1,
    )
    atom_fault found are below Memory h = tt

-- ---- the branch

pub branch_is : (a : Arena) (c : Condition) (listed : Term → Fraction) (found : List TermId) (branch : List (TermId × Bool)) → map (tree a) found ≡ condition_atoms (question a c) → AllBelow (length a.nodes) found → AreTruths a listed found branch
    → IsBranch a c listed branch
branch_is a c listed found branch are below h = record {
  atoms = through branch ∙ (ap (map (tree a)) h.terms ∙ are);
  truths = h.truths;
  in_range = λ i p at. AllBelow-at (length a.nodes) found i p.0 below (sym (ap (λ ids. slice_get ids i) h.terms) ∙ first_at branch i p at);
}
  where
    through : (ps : List (TermId × Bool)) → map (λ p. tree a p.0) ps ≡ map (tree a) (map (λ p. p.0) ps)
    through [] = refl
    through (p ∷ ps) = ap (λ xs. tree a p.0 ∷ xs) (through ps)

    first_at : (ps : List (TermId × Bool)) (i : ℕ) (p : TermId × Bool) → slice_get ps i ≡ Some p → slice_get (map (λ q. q.0) ps) i ≡ Some p.0
    first_at [] i p e = absurd (cc)
    first_at (q ∷ ps) zero p e = ap (λ (x : TermId × Bool). Some x.0) (same_Some q p e)
    first_at (q ∷ ps) (suc i) p e = first_at ps i p e

-- ---- exits

pub err_same : {T E : Type 0} (r : Result T E) (e : E) (Q : E → Type 0) → IsErrAnd r (λ f. f ≡ e) → Q e → IfErr r Q
err_same (Ok x) e Q h k = tt
err_same (Err f) e Q h k = subst Q (sym h) k

pub not_true : (b : Bool) → not b ≡ true → b ≡ false
not_true true h = sym h
not_true false h = refl

pub among_of : (a : Arena) (listed : Term → Fraction) (fs : List TermId) (f : TermId) (e : SurvivingFault) → IsListedAt fs f → IsFaultOf a listed f e → IsFaultAmong a listed fs e
among_of a listed fs f (Wide t w) k h = (subst (λ (x : TermId). IsListedAt fs x) (sym h.0) k, h.1)
among_of a listed fs f Memory k h = tt
