-- Cores of formulas of a search.
use Rattle.std.proofs.Common.{◌≡◌, ℕ, zero, suc, Bool, true, false, cond, List, sym, ap, ◌∙◌, subst, Option, Some, None, refl}
use Rattle.std.proofs.lemmas.Bool.{false≢true}
use Rattle.spv_logic.proofs.list.Tests.{right_true}
use Rattle.spv_logic.specs.declared.conditions.TermId.{TermId}
use Rattle.spv_logic.specs.Terms.{Term, term_eq}
use Rattle.spv_logic.specs.Formulas.{negation}
use Rattle.spv_logic.proofs.Equality.{term_eq-refl}
use Rattle.spv_term.specs.declared.nodes.Condition.{Condition}
use Rattle.spv_term.specs.Arena.{Arena, tree}
use Rattle.spv_atoms.specs.Atoms.{is_truth}
use Rattle.spv_atoms.specs.Tables.{not_of}
use Rattle.spv_atoms.proofs.Members.{has, or_left}
use Rattle.spv_proof_rules.specs.Sums.{negated}
use Rattle.spv_proof_rules.specs.Effects.{Question}
use Rattle.spv_proof_rules.specs.Stand.{question}
use Rattle.spv_tableau_rules.specs.constraints.Sayings.{literal}
use Rattle.spv_models.specs.leaf_models.Subterms.{subterms}
use Rattle.spv_models.specs.leaf_models.Laws.{AreFormulas}
use Rattle.spv_models.specs.leaf_models.Tables.{formulas_of}
use Rattle.spv_models.proofs.leaf_models.Covering.{atoms-are, part-arguments}
use Rattle.spv_models.specs.split_trees.Paths.{atoms}
use Rattle.spv_assignments.specs.declared.polarity.saying.Standing.{Standing}
use Rattle.spv_assignments.specs.polarity.Cores.{denials, is_even, IsCore}
use Rattle.spv_assignments.specs.polarity.Standings.{IsStanding}
use Rattle.spv_assignments.proofs.polarity.Denials.{core_truth}
use Rattle.spv_assignments.specs.partial_assignment.Values.{value_by}
use Rattle.spv_assignments.proofs.partial_assignment.Told.{negated_is}
use Rattle.spv_assignments.proofs.monotonicity.Valued.{value_under, values_give_literals}
use Rattle.spv_branch_theory.specs.search_invariant.Facts.{IsFormula, of_atoms, of_parts}
use Rattle.spv_trail.proofs.trail_states.Growing.{formula_truth}

-- ---- the core of a term

pub record HasCore (a : Arena) (t : TermId) (s : Standing) : Type 0 where
  pub even : Bool
  pub core : IsCore a t s.core even

negated_same : (u v : Term) → negation u ≡ negation v → u ≡ v
negated_same u v e = cc

no_negation : (u v : Term) → negated v ≡ None → negation u ≡ v → ⊥
no_negation u v bare e = let h : Some u ≡ None = ap negated e ∙ bare in cc

pub core_of : (a : Arena) (t : TermId) (truth : Bool) (s : Standing) → IsStanding a t truth s → HasCore a t s
core_of a t true s st = record { even = is_even st.count; core = record { inside = st.inside; count = st.count; under = st.under; parity = refl; bare = st.bare } }
core_of a t false s st = by_count st.count st.under
  where
    by_count : (k : ℕ) → negation (tree a t) ≡ denials k (tree a s.core) → HasCore a t s
    by_count zero e = absurd (no_negation (tree a t) (tree a s.core) st.bare e)
    by_count (suc k) e = record {
      even = is_even k;
      core = record { inside = st.inside; count = k; under = negated_same (tree a t) (denials k (tree a s.core)) e; parity = refl; bare = st.bare };
    }

pub standing_truth : (a : Arena) (t : TermId) (truth : Bool) (s : Standing) → IsStanding a t truth s → is_truth a.shapes a.decls (tree a t) ≡ true → is_truth a.shapes a.decls (tree a s.core) ≡ true
standing_truth a t truth s st e = let k = core_of a t truth s st in core_truth a t s.core k.even k.core e

-- ---- formulas

module _ (q : Question) (are : AreFormulas q.shapes q.decls (formulas_of q.sequent)) where
  abbrev parts : List Term
  parts = subterms (formulas_of q.sequent)

  -- what is negated in a part is a part
  inside : (k : ℕ) (u : Term) → has parts (denials k u) ≡ true → has parts u ≡ true
  inside zero u m = m
  inside (suc k) u m =
      inside k u
      (part-arguments q.shapes q.decls (formulas_of q.sequent) are (negation (denials k u)) (denials k u) m (or_left (term_eq (denials k u) (denials k u)) false (term_eq-refl (denials k u))))

  -- an atom is no negation
  no_atom : (u : Term) → has (atoms q) (negation u) ≡ true → ⊥
  no_atom u m = false≢true (right_true (is_truth q.shapes q.decls (negation u)) false (atoms-are q.shapes q.decls (formulas_of q.sequent) are (negation u) m))

  pub atom_bare : (t : Term) → has (atoms q) t ≡ true → negated t ≡ None
  atom_bare t m = by_option (negated t) refl
    where
      by_option : (o : Option Term) → negated t ≡ o → o ≡ None
      by_option None e = refl
      by_option (Some u) e = absurd (no_atom u (ap (has (atoms q)) (sym (negated_is t u e)) ∙ m))

  core_part : (t u : Term) (k : ℕ) → t ≡ denials k u → is_truth q.shapes q.decls u ≡ true → IsFormula q t → IsFormula q u
  core_part t u zero e truth f = subst (IsFormula q) e f
  core_part t u (suc k) e truth (of_atoms m) = absurd (no_atom (denials k u) (ap (has (atoms q)) (sym e) ∙ m))
  core_part t u (suc k) e truth (of_parts m n) = of_parts (inside (suc k) u (ap (has parts) (sym e) ∙ m)) truth

-- the core of a formula of a search is one
pub core_formula : (a : Arena) (c : Condition) → AreFormulas a.shapes a.decls (formulas_of (question a c).sequent) → (t : TermId) (truth : Bool) (s : Standing) → IsStanding a t truth s → IsFormula (question a c) (tree a t) → IsFormula (question a c) (tree a s.core)
core_formula a c are t truth s st f =
    let k = core_of a t truth s st in
    core_part (question a c) are (tree a t) (tree a s.core) k.core.count k.core.under (standing_truth a t truth s st (formula_truth (question a c) are (tree a t) f)) f

-- ---- values

value_inside : (b : Bool) (v : Option Bool) → cond b v (not_of v) ≡ Some true → v ≡ Some b
value_inside true v e = e
value_inside false (Some true) e = absurd (false≢true (same e))
  where
    same : Some false ≡ Some true → false ≡ true
    same h = cc
value_inside false (Some false) e = refl
value_inside false None e = absurd (cc)

value_outside : (b : Bool) (v : Option Bool) → v ≡ Some b → cond b v (not_of v) ≡ Some true
value_outside true v e = e
value_outside false v e = ap not_of e

-- the core of a term with a value has one
pub core_value : (a : Arena) (facts : List Term) (t : TermId) (truth : Bool) (s : Standing) → IsStanding a t truth s → value_by facts (tree a t) ≡ Some truth → value_by facts (tree a s.core) ≡ Some s.truth
core_value a facts t truth s st e =
    let says : value_by facts (denials st.count (tree a s.core)) ≡ Some true = ap (value_by facts) (sym st.under) ∙ values_give_literals facts (tree a t) truth e in
    value_inside (is_even st.count) (value_by facts (tree a s.core)) (sym (value_under facts st.count (tree a s.core)) ∙ says) ∙ ap (λ (b : Bool). Some b) (sym st.parity)

-- and where the core has it, what is said of the term is true
pub core_says : (a : Arena) (facts : List Term) (t : TermId) (truth : Bool) (s : Standing) → IsStanding a t truth s → value_by facts (tree a s.core) ≡ Some s.truth → value_by facts (literal truth (tree a t)) ≡ Some true
core_says a facts t truth s st e =
    ap (value_by facts) st.under
    ∙ (value_under facts st.count (tree a s.core) ∙ value_outside (is_even st.count) (value_by facts (tree a s.core)) (e ∙ ap (λ (b : Bool). Some b) st.parity))
