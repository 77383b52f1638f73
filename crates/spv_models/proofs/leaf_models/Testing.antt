-- What Boolean tests of a leaf show of it.
use Rattle.std.proofs.Common.{◌≡◌, ℕ, Bool, true, false, ◌&&◌, ◌||◌, not, List, [], ◌∷◌, refl, sym, ap, ◌∙◌, Option, Some, None, nat_eq}
use Rattle.std.specs.Prelude.{is_some}
use Rattle.std.specs.List.{list_all}
use Rattle.std.specs.Cmp.Derive.{both_true}
use Rattle.std.proofs.lemmas.Bool.{false≢true, eqb-true, eq-eqb}
use Rattle.spv_logic.proofs.list.Tests.{left_true, right_true}
use Rattle.spv_frac.specs.rational.Rational.{Rational}
use Rattle.spv_frac.proofs.rational.Field.{same}
use Rattle.spv_logic.specs.declared.types.Shape.{Shape}
use Rattle.spv_logic.specs.declared.types.Decl.{Decl}
use Rattle.spv_logic.specs.Values.{bool_eq}
use Rattle.spv_logic.specs.Terms.{Term, term, term_eq, head_eq}
use Rattle.spv_logic.specs.Formulas.{equation, below}
use Rattle.spv_logic.proofs.Equality.{term_eq-true, head_eq-refl, bool_eq-true}
use Rattle.spv_atoms.specs.Atoms.{is_truth, is_number}
use Rattle.spv_atoms.proofs.Members.{has, or_cases}
use Rattle.spv_proof_rules.specs.Evaluation.{sides, clashes}
use Rattle.spv_tableau_rules.specs.constraints.Sayings.{literal}
use Rattle.spv_table.specs.Values.{is_same}
use Rattle.spv_models.specs.leaf_models.Subterms.{subterms, uncomputed}
use Rattle.spv_models.specs.leaf_models.Atoms.{atoms, questions}
use Rattle.spv_models.specs.leaf_models.Leaves.{Leaf, IsLeaf, IsSameness, IsTold, IsPoint, all_same, truth_term, worth_at, is_met}
use Rattle.spv_models.proofs.leaf_models.Comparisons.{same-true}

each_of : (test : Term → Bool) (ts : List Term) → list_all test ts ≡ true → (t : Term) → has ts t ≡ true → test t ≡ true
each_of test [] h t k = absurd (false≢true k)
each_of test (u ∷ us) h t k = or_cases (term_eq t u) (has us t) k (λ e. ap test (term_eq-true t u e) ∙ left_true _ _ h) (λ e. each_of test us (right_true (test u) _ h) t e)

-- a test of each two terms
abbrev each_two : (Term → Term → Bool) → List Term → Bool
each_two test ts = list_all (λ s. list_all (test s) ts) ts

two_of : (test : Term → Term → Bool) (ts : List Term) → each_two test ts ≡ true → (s t : Term) → has ts s ≡ true → has ts t ≡ true → test s t ≡ true
two_of test ts h s t ms mt = each_of (test s) ts (each_of (λ u. list_all (test u) ts) ts h s ms) t mt

-- what follows from a test that is true, where its premise is
from_premise : (a b : Bool) → (not a || b) ≡ true → a ≡ true → b ≡ true
from_premise true b h e = h
from_premise false b h e = absurd (false≢true e)

is_false : (a : Bool) → not a ≡ true → a ≡ false
is_false true h = sym h
is_false false h = refl

abbrev if_given : Option Bool → (Bool → Bool) → Bool
if_given None test = true
if_given (Some b) test = test b

given-test : (o : Option Bool) (test : Bool → Bool) (b : Bool) → if_given o test ≡ true → o ≡ Some b → test b ≡ true
given-test o test b h e = sym (ap (λ p. if_given p test) e) ∙ h

abbrev if_sides : Option (Term × Term) → (Term → Term → Bool) → Bool
if_sides None test = true
if_sides (Some st) test = test st.0 st.1

-- ---- the tests

module _ (shapes : List Shape) (decls : List Decl) (fs : List Term) (given : Term → Option Bool) (class : Term → ℕ) (point : Term → Rational) where
  abbrev number : Term → Bool
  number = is_number shapes decls

  abbrev truth : Term → Bool
  truth = is_truth shapes decls

  abbrev same_class : Term → Term → Bool
  same_class s t = nat_eq (class s) (class t)

  abbrev pub tested : Leaf
  tested = record { given = given; same = same_class; point = point }

  abbrev pub congruent_test : Term → Term → Bool
  congruent_test (term h ss) (term k us) = not (head_eq h k && all_same same_class ss us) || same_class (term h ss) (term k us)

  abbrev pub truth_test : Term → Bool
  truth_test t = if_given (given t) (λ b. same_class t (truth_term b))

  abbrev pub sides_test : Term → Bool
  sides_test t = if_given (given t) (λ b. if_sides (sides t) (λ s u. bool_eq (same_class s u) b))

  abbrev pub relation_test : Term → Bool
  relation_test t = if_given (given t) (λ b. is_met number point (literal b t))

  abbrev pub order_test : Term → Bool
  order_test t = if_given (given t) (λ b. if_sides (sides t) (λ s u. b || (not (number s) || (is_met number point (below s u) || is_met number point (below u s)))))

  abbrev pub value_test : Term → Term → Bool
  value_test s t = not (same_class s t && (number s && number t)) || is_same (worth_at point s).fraction (worth_at point t).fraction

  abbrev pub acting : List Term
  acting = uncomputed truth (subterms fs)

  sameness : each_two congruent_test acting ≡ true → IsSameness acting same_class
  sameness h = record {
    itself = λ s. eq-eqb (class s) (class s) refl;
    turned = λ s t e. eq-eqb (class t) (class s) (sym (eqb-true (class s) (class t) e));
    through = λ s t u e f. eq-eqb (class s) (class u) (eqb-true (class s) (class t) e ∙ eqb-true (class t) (class u) f);
    congruent = λ k ss us m n e. from_premise (head_eq k k && all_same same_class ss us) (same_class (term k ss) (term k us)) (two_of congruent_test acting h (term k ss) (term k us) m n) (both_true (head_eq-refl k) e);
  }

  told : list_all truth_test (questions shapes decls fs) ≡ true → list_all sides_test (atoms shapes decls fs) ≡ true → same_class (truth_term true) (truth_term false) ≡ false
      → IsTold (questions shapes decls fs) (atoms shapes decls fs) given same_class
  told h k apart = record {
    truths = λ t b m e. given-test (given t) (λ c. same_class t (truth_term c)) b (each_of truth_test (questions shapes decls fs) h t m) e;
    sides = λ s t b m e. bool_eq-true (same_class s t) b
        (given-test (given (equation s t)) (λ c. if_sides (sides (equation s t)) (λ u v. bool_eq (same_class u v) c)) b (each_of sides_test (atoms shapes decls fs) k (equation s t) m) e);
    apart = apart;
  }

  at_point : list_all relation_test (atoms shapes decls fs) ≡ true → list_all order_test (atoms shapes decls fs) ≡ true → each_two value_test (subterms fs) ≡ true
      → IsPoint number (subterms fs) (atoms shapes decls fs) tested
  at_point h k l = record {
    relations = λ t b m e. given-test (given t) (λ c. is_met number point (literal c t)) b (each_of relation_test (atoms shapes decls fs) h t m) e;
    orders = λ s t m e n. from_premise (number s) (is_met number point (below s t) || is_met number point (below t s))
        (given-test (given (equation s t)) (λ b. if_sides (sides (equation s t)) (λ u v. b || (not (number u) || (is_met number point (below u v) || is_met number point (below v u))))) false
        (each_of order_test (atoms shapes decls fs) k (equation s t) m) e) n;
    same = λ s t ms mt ns nt e. same (worth_at point s) (worth_at point t)
        (same-true (worth_at point s).fraction (worth_at point t).fraction
        (from_premise (same_class s t && (number s && number t)) (is_same (worth_at point s).fraction (worth_at point t).fraction) (two_of value_test (subterms fs) l s t ms mt) (both_true e (both_true ns nt))));
  }

  pub tests-show : list_all truth fs ≡ true → list_all (λ t. is_some (given t)) (questions shapes decls fs) ≡ true → list_all (λ t. not (clashes truth given t)) (subterms fs) ≡ true
      → each_two congruent_test acting ≡ true → list_all truth_test (questions shapes decls fs) ≡ true → list_all sides_test (atoms shapes decls fs) ≡ true
      → same_class (truth_term true) (truth_term false) ≡ false → list_all relation_test (atoms shapes decls fs) ≡ true → list_all order_test (atoms shapes decls fs) ≡ true
      → each_two value_test (subterms fs) ≡ true → IsLeaf shapes decls fs tested
  tests-show formulas full agrees congruence truths sides_same apart relations orders values = record {
    formulas = each_of truth fs formulas;
    full = each_of (λ t. is_some (given t)) (questions shapes decls fs) full;
    agrees = λ t m. is_false (clashes truth given t) (each_of (λ u. not (clashes truth given u)) (subterms fs) agrees t m);
    sameness = sameness congruence;
    told = told truths sides_same apart;
    point = at_point relations orders values;
  }
