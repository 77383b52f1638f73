-- Tables of the example of an array, in which each term is worth the same.
use Rattle.std.proofs.Common.{◌≡◌, ◌⊎◌, ℕ, zero, suc, Bool, true, false, List, [], ◌∷◌, map, slice_get, ℤ, pos, Some, Ok, inl, inr, refl, sym, ap, ◌∙◌, subst}
use Rattle.std.proofs.lemmas.Bool.{false≢true}
use Rattle.std.proofs.lemmas.Option.{same_Some}
use Rattle.spv_whole.specs.Fraction.{Fraction, whole}
use Rattle.spv_logic.specs.declared.types.Shape.{Shape}
use Rattle.spv_logic.specs.declared.types.Decl.{Decl}
use Rattle.spv_logic.specs.Terms.{Term, term_eq}
use Rattle.spv_logic.specs.Formulas.{negation}
use Rattle.spv_logic.proofs.Equality.{term_eq-true}
use Rattle.spv_schemas.specs.Facts.{numeral, select_store_same, select_store_other}
use Rattle.spv_atoms.proofs.Members.{has, or_cases}
use Rattle.spv_table.specs.Tables.{IsTable}
use Rattle.spv_table.specs.Values.{holds, listed_in}
use Rattle.spv_models.specs.leaf_models.Subterms.{is_among}
use Rattle.spv_models.proofs.leaf_models.Lookups.{beside-at}
use Rattle.spv_verdicts.specs.Schemas.{refuted, SurvivesFacts}
use Rattle.spv_verdicts.specs.Verdicts.{Survives}
use Rattle.spv_rounds.specs.Examples.{i, array, claim, has_now, own_terms, all_terms}

abbrev pub worth : List Term → Fraction → List (Term × Fraction)
worth ts x = map (λ t. (t, x)) ts

-- numbers that are all 0, or all 1, make a table
table-of : (shapes : List Shape) (decls : List Decl) (ts : List Term) (x : Fraction) → (x ≡ whole (pos 0)) ⊎ (x ≡ whole (pos 1)) → IsTable shapes decls (worth ts x)
table-of shapes decls ts x h = record {
  alike = λ j k p q at_p at_q same. (beside-at (λ t. x) ts j p at_p).is ∙ sym (beside-at (λ t. x) ts k q at_q).is;
  truths = λ j p at_p truth. subst (λ y. (y ≡ whole (pos 0)) ⊎ (y ≡ whole (pos 1))) (sym (beside-at (λ t. x) ts j p at_p).is) h;
}

-- what the facts say
abbrev pub written : Term
written = select_store_same array i (numeral (pos 1)) i

abbrev pub left : Term
left = select_store_other array i (numeral (pos 1)) i

-- all is refuted together: that the claim is false, and the facts
abbrev all_refuted : ℤ → List Term
all_refuted z = negation (claim z) ∷ written ∷ left ∷ []

abbrev ones : Term → Fraction
ones = listed_in (worth all_terms (whole (pos 1)))

all_hold : (f : Term) → has (all_refuted (pos 2)) f ≡ true → holds ones f ≡ Ok true
all_hold f m =
    or_cases (term_eq f (negation (claim (pos 2)))) (has (written ∷ left ∷ []) f) m (λ e. ap (holds ones) (term_eq-true f (negation (claim (pos 2))) e) ∙ refl)
    (λ k. or_cases (term_eq f written) (has (left ∷ []) f) k (λ e. ap (holds ones) (term_eq-true f written e) ∙ refl)
    (λ l. or_cases (term_eq f left) false l (λ e. ap (holds ones) (term_eq-true f left e) ∙ refl) (λ n. absurd (false≢true n))))

one_row : {A : Type 0} (x : A) (j : ℕ) (y : A) → slice_get (x ∷ []) j ≡ Some y → x ≡ y
one_row x zero y e = same_Some x y e
one_row x (suc j) y e = absurd (cc)

-- 1 at each place keeps the facts, and is not 2
pub facts-kept : SurvivesFacts (has_now (pos 2)) ((claim (pos 2), false) ∷ []) (worth all_terms (whole (pos 1)))
facts-kept = record {
  falsifies = record {
    lists = refl;
    is_table = table-of (has_now (pos 2)).shapes [] all_terms (whole (pos 1)) (inr refl);
    given_true = λ f m. all_hold f m;
    goal_false = refl;
  };
  atoms = refl;
  truths = λ j p at. subst (λ (x : Term × Bool). holds ones x.0 ≡ Ok x.1) (one_row (claim (pos 2), false) j p at) refl;
}

abbrev zeros : Term → Fraction
zeros = listed_in (worth own_terms (whole (pos 0)))

-- without facts 0 at each place is a table in which there is no 1
pub without-facts : Survives (has_now (pos 1)) ((claim (pos 1), false) ∷ []) (worth own_terms (whole (pos 0)))
without-facts = record {
  falsifies = record {
    lists = refl;
    is_table = table-of (has_now (pos 1)).shapes [] own_terms (whole (pos 0)) (inl refl);
    given_true = λ f m. absurd (false≢true m);
    goal_false = refl;
  };
  atoms = refl;
  truths = λ j p at. subst (λ (x : Term × Bool). holds zeros x.0 ≡ Ok x.1) (one_row (claim (pos 1), false) j p at) refl;
}

-- 0 at each place breaks the first fact
pub fact-broken : (z : ℤ) (branch : List (Term × Bool)) → SurvivesFacts (has_now z) branch (worth all_terms (whole (pos 0))) → is_among (refuted (has_now z)) written ≡ true → ⊥
fact-broken z branch s m = false_is (s.falsifies.given_true written m)
  where
    false_is : holds (listed_in (worth all_terms (whole (pos 0)))) written ≡ Ok true → ⊥
    false_is e = cc
