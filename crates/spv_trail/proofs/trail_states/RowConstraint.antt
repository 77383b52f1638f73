-- What is said on a path: facts of it, each of which has the value true.
use Rattle.std.proofs.Common.{◌≡◌, ℕ, zero, suc, true, false, List, [], ◌∷◌, map, refl, sym, ap, ◌∙◌, subst, Option, Some, None}
use Rattle.std.specs.Prelude.{slice_get}
use Rattle.std.proofs.lemmas.Bool.{false≢true}
use Rattle.std.proofs.lemmas.Option.{same_Some}
use Rattle.spv_logic.proofs.list.Tests.{left_true, right_true}
use Rattle.spv_logic.specs.declared.operators.Head.TheVariants.{Eq}
use Rattle.spv_logic.specs.Terms.{Term, term, no_terms, terms, term_eq}
use Rattle.spv_logic.specs.Formulas.{negation, equation, below}
use Rattle.spv_logic.proofs.Equality.{term_eq-true, term_eq-refl}
use Rattle.spv_term.specs.declared.nodes.Condition.{Condition}
use Rattle.spv_term.specs.Arena.{Arena, tree}
use Rattle.spv_atoms.specs.Atoms.{is_number}
use Rattle.spv_atoms.proofs.Members.{has, has-left, has-right, has-parts, or_cases, or_left, or_right}
use Rattle.spv_proof_rules.specs.Evaluation.{sides}
use Rattle.spv_proof_rules.specs.Stand.{question}
use Rattle.spv_derivations.specs.declared.derivation.entries.Part.{Part}
use Rattle.spv_derivations.specs.declared.derivation.entries.Entry.{Entry}
use Rattle.spv_derivations.specs.declared.derivation.entries.Part.TheVariants.{True, False, Below, Above}
use Rattle.spv_derivations.specs.derivation.Derivation.{literal, are_numbers, PartFits}
use Rattle.spv_derivations.specs.derivation.Literals.{Literal}
use Rattle.spv_models.specs.leaf_models.Laws.{AreFormulas}
use Rattle.spv_models.specs.leaf_models.Tables.{formulas_of}
use Rattle.spv_models.specs.split_trees.Paths.{facts}
use Rattle.spv_share.specs.declared.both.Both.{Both}
use Rattle.spv_share.specs.Both.{told}
use Rattle.spv_branch_theory.specs.consistency.States as states
use Rattle.spv_branch_theory.specs.consistency.States.{IsToldAs, IsDenied}
use Rattle.spv_assignments.specs.declared.partial_assignment.facts.Known.{Known}
use Rattle.spv_assignments.specs.partial_assignment.Facts.{fact_of, facts_of}
use Rattle.spv_assignments.proofs.partial_assignment.Told.{facts_are_true}
use Rattle.spv_branch_theory.specs.search_invariant.Facts.{IsFormula, IsFact, said, ordered, AreFacts}
use Rattle.spv_branch_theory.proofs.search_invariant.Relations.{question_formula, formula_atom}
use Rattle.spv_trail.specs.trail_states.Told.{meaning, meanings, IsToldIn, IsDeniedIn, by_itself, by_below, by_above, IsAsked, IsOrderToldIn, IsFounded, values_of, IsStored, IsSettled, said_on}

-- ---- members of lists that are made of others

-- a term is made of one of these
pub record IsFrom {A : Type 0} (f : A → Term) (xs : List A) (t : Term) : Type 0 where
  pub place : ℕ
  pub item : A
  pub there : slice_get xs place ≡ Some item
  pub is : f item ≡ t

pub from_found : {A : Type 0} (f : A → Term) (xs : List A) (t : Term) → has (map f xs) t ≡ true → IsFrom f xs t
from_found f [] t h = absurd (false≢true h)
from_found f (x ∷ xs) t h = or_cases (term_eq t (f x)) (has (map f xs) t) h here (λ k. behind (from_found f xs t k))
  where
    here : term_eq t (f x) ≡ true → IsFrom f (x ∷ xs) t
    here e = record { place = 0; item = x; there = refl; is = sym (term_eq-true t (f x) e) }

    behind : IsFrom f xs t → IsFrom f (x ∷ xs) t
    behind k = record { place = suc k.place; item = k.item; there = k.there; is = k.is }

pub found_from : {A : Type 0} (f : A → Term) (xs : List A) (i : ℕ) (x : A) → slice_get xs i ≡ Some x → has (map f xs) (f x) ≡ true
found_from f [] i x at = absurd (cc)
found_from f (y ∷ xs) zero x at =
    let same : y ≡ x = same_Some y x at in
    or_left (term_eq (f x) (f y)) (has (map f xs) (f x)) (ap (λ z. term_eq (f x) (f z)) same ∙ term_eq-refl (f x))
found_from f (y ∷ xs) (suc i) x at = or_right (term_eq (f x) (f y)) (has (map f xs) (f x)) (found_from f xs i x at)

-- ---- equations of numbers

pub record IsCompared (a : Arena) (t : Term) : Type 0 where
  pub left : Term
  pub right : Term
  pub is : t ≡ equation left right
  pub left_number : is_number a.shapes a.decls left ≡ true
  pub right_number : is_number a.shapes a.decls right ≡ true

equation_is : (t : Term) (st : Term × Term) → sides t ≡ Some st → t ≡ equation st.0 st.1
equation_is (term Eq (terms s (terms u no_terms))) st e = let same : (s, u) ≡ st = cc in ap (λ (r : Term × Term). equation r.0 r.1) same
equation_is _ st e = absurd (cc)

pub compared : (a : Arena) (t : Term) → are_numbers (is_number a.shapes a.decls) (sides t) ≡ true → IsCompared a t
compared a t e = by_sides (sides t) refl e
  where
    by_sides : (o : Option (Term × Term)) → sides t ≡ o → are_numbers (is_number a.shapes a.decls) o ≡ true → IsCompared a t
    by_sides None s h = absurd (false≢true h)
    by_sides (Some st) s h = record {
      left = st.0;
      right = st.1;
      is = equation_is t st s;
      left_number = left_true (is_number a.shapes a.decls st.0) (is_number a.shapes a.decls st.1) h;
      right_number = right_true (is_number a.shapes a.decls st.0) (is_number a.shapes a.decls st.1) h;
    }

-- ---- facts

module _ (a : Arena) (c : Condition) (b : Both) (are : AreFormulas a.shapes a.decls (formulas_of (question a c).sequent)) where
  pub told_as : (t : Term) (p : Part) → IsToldIn a (told b) t p → IsToldAs a b t p
  told_as t p k = record { place = k.place; told_one = k.told_one; there = k.there; atom = k.atom; part_is = k.part_is }

  pub denied_as : (t : Term) → IsDeniedIn a (told b) t → IsDenied a b t
  denied_as t (by_itself k) = states.by_itself (told_as t False k)
  denied_as t (by_below x y e k) = states.by_below x y e (told_as t Below k)
  denied_as t (by_above x y e k) = states.by_above x y e (told_as t Above k)

  -- an order that was told of a formula
  below_fact : (t : Term) → IsFormula (question a c) t → are_numbers (is_number a.shapes a.decls) (sides t) ≡ true → IsToldIn a (told b) t Below → IsFact a b (question a c) (literal t Below)
  below_fact t f e k =
      let m = compared a t e in
      subst (λ (u : Term). IsFact a b (question a c) (literal u Below)) (sym m.is)
      (ordered (below m.left m.right) (states.below_it m.left m.right (formula_atom (question a c) are Eq m.left m.right m.left_number m.right_number true t f m.is)
      (subst (λ (u : Term). IsToldAs a b u Below) m.is (told_as t Below k))))

  above_fact : (t : Term) → IsFormula (question a c) t → are_numbers (is_number a.shapes a.decls) (sides t) ≡ true → IsToldIn a (told b) t Above → IsFact a b (question a c) (literal t Above)
  above_fact t f e k =
      let m = compared a t e in
      subst (λ (u : Term). IsFact a b (question a c) (literal u Above)) (sym m.is)
      (ordered (below m.right m.left) (states.above_it m.left m.right (formula_atom (question a c) are Eq m.left m.right m.left_number m.right_number true t f m.is)
      (subst (λ (u : Term). IsToldAs a b u Above) m.is (told_as t Above k))))

  known_fact : (k : Known) → IsFounded a (question a c) (told b) k → IsFact a b (question a c) (fact_of a k)
  known_fact k f = by_part k.part f.fits f.order
    where
      by_part : (p : Part) → PartFits a k.term p → IsOrderToldIn a (told b) k.term p → IsFact a b (question a c) (literal (tree a k.term) p)
      by_part True h o = said true (tree a k.term) f.formula
      by_part False h o = said false (tree a k.term) f.formula
      by_part Below h o = below_fact (tree a k.term) f.formula h o
      by_part Above h o = above_fact (tree a k.term) f.formula h o

  literal_fact : (i : ℕ) (l : Literal) → slice_get (told b) i ≡ Some l → IsAsked a (question a c) l → IsFact a b (question a c) (meaning a l)
  literal_fact i l at s = by_part l.part refl s.fits
    where
      formula : IsFormula (question a c) (tree a l.atom)
      formula = question_formula (question a c) are (tree a l.atom) s.asked

      told_with : (p : Part) → l.part ≡ p → IsToldIn a (told b) (tree a l.atom) p
      told_with p e = record { place = i; told_one = l; there = at; atom = refl; part_is = e }

      by_part : (p : Part) → l.part ≡ p → PartFits a l.atom p → IsFact a b (question a c) (literal (tree a l.atom) p)
      by_part True e h = said true (tree a l.atom) formula
      by_part False e h = said false (tree a l.atom) formula
      by_part Below e h = below_fact (tree a l.atom) formula h (told_with Below e)
      by_part Above e h = above_fact (tree a l.atom) formula h (told_with Above e)

  -- all that is said on a path are facts of it
  pub said_facts : (es : List Entry) (ks : List Known) → IsStored a c es ks (told b) → AreFacts a b (question a c) (said_on a ks (told b))
  said_facts es ks stored = record { each = λ t m. has-parts (facts_of a ks) (meanings a (told b)) t m (λ k. of_known t (from_found (fact_of a) ks t k)) (λ k. of_literal t (from_found (meaning a) (told b) t k)) }
    where
      of_known : (t : Term) → IsFrom (fact_of a) ks t → IsFact a b (question a c) t
      of_known t f = subst (IsFact a b (question a c)) f.is (known_fact f.item (stored.founded f.place f.item f.there))

      of_literal : (t : Term) → IsFrom (meaning a) (told b) t → IsFact a b (question a c) t
      of_literal t f = subst (IsFact a b (question a c)) f.is (literal_fact f.place f.item f.there (stored.asked f.place f.item f.there))

-- ---- values

-- each fact of a path has the value true
pub facts_true : (a : Arena) (c : Condition) (es : List Entry) (ks : List Known) (ls : List Literal) (cases : List Term) → IsSettled a c es ks ls cases → (t : Term) → has (facts (question a c) (said_on a ks ls)) t ≡ true
    → values_of a ks t ≡ Some true
facts_true a c es ks ls cases s t m =
    has-parts given (negation goal ∷ said_on a ks ls) t m (λ k. s.begun t (has-left given (negation goal ∷ []) t k))
    (λ k. or_cases (term_eq t (negation goal)) (has (said_on a ks ls) t) k (λ e. s.begun t (has-right given (negation goal ∷ []) t (or_left (term_eq t (negation goal)) false e)))
    (λ e. has-parts (facts_of a ks) (meanings a ls) t e (λ n. facts_are_true (facts_of a ks) s.stored.knowledge.literals t n) (λ n. of_literal (from_found (meaning a) ls t n))))
  where
    given : List Term
    given = (question a c).sequent.given

    goal : Term
    goal = (question a c).sequent.goal

    of_literal : IsFrom (meaning a) ls t → values_of a ks t ≡ Some true
    of_literal f = ap (values_of a ks) (sym f.is) ∙ s.stored.true_ones f.place f.item f.there
