-- When formulas are the same, as their ids show it.
use Rattle.std.proofs.Common.{◌≡◌, Bool, true, false, ◌&&◌, refl, sym, ap, ◌∙◌, Some}
use Rattle.std.proofs.lemmas.Bool.{false≢true}
use Rattle.spv_logic.specs.declared.operators.Head.TheVariants.{Not, Eq, Lt}
use Rattle.spv_logic.specs.Terms.{Term, term, no_terms, terms, term_eq}
use Rattle.spv_logic.specs.Formulas.{negation, equation, below}
use Rattle.spv_logic.proofs.Equality.{term_eq-true, term_eq-refl}
use Rattle.spv_proof_rules.specs.Sums.{negated}
use Rattle.spv_proof_rules.specs.Evaluation.{sides}
use Rattle.spv_proof_steps.specs.Candidates.{lower}
use Rattle.spv_proof_steps.proofs.Looks.{term_eq-ids}

pub and-true : (a : Bool) → (a && true) ≡ a
and-true true = refl
and-true false = refl

-- the test of sameness is symmetric
pub term_eq-sym : (x y : Term) → term_eq x y ≡ term_eq y x
term_eq-sym x y = by_case (term_eq x y) refl (term_eq y x) refl
  where
    turned : (x y : Term) → term_eq x y ≡ true → term_eq y x ≡ true
    turned x y e = ap (λ z. term_eq y z) (term_eq-true x y e) ∙ term_eq-refl y

    by_case : (b : Bool) → term_eq x y ≡ b → (d : Bool) → term_eq y x ≡ d → b ≡ d
    by_case true e true f = refl
    by_case true e false f = absurd (false≢true (sym f ∙ turned x y e))
    by_case false e true f = absurd (false≢true (sym e ∙ turned y x f))
    by_case false e false f = refl

pub negation_some : (x y z : Term) → Some y ≡ negated z → term_eq x y ≡ term_eq (negation x) z
negation_some x y (term Not (terms w no_terms)) e =
    let same : y ≡ w = cc in
    ap (term_eq x) same ∙ sym (and-true (term_eq x w))
negation_some x y _ e = absurd (cc)

pair_parts : (x y : Term × Term) → Some x ≡ Some y → (x.0 ≡ y.0) × (x.1 ≡ y.1)
pair_parts x y e = let same : x ≡ y = cc in (ap (λ r. r.0) same, ap (λ r. r.1) same)

pub equation_some : (s t p q z : Term) → Some (p, q) ≡ sides z → (term_eq s p && term_eq t q) ≡ term_eq (equation s t) z
equation_some s t p q (term Eq (terms v (terms w no_terms))) e =
    let both = pair_parts (p, q) (v, w) e in
    let first = both.0 in
    let second = both.1 in
    (λ i. term_eq s (first i) && term_eq t (second i)) ∙ ap (λ b. term_eq s v && b) (sym (and-true (term_eq t w)))
equation_some s t p q _ e = absurd (cc)

pub below_some : (s t p q z : Term) → Some (p, q) ≡ lower z → (term_eq s p && term_eq t q) ≡ term_eq (below s t) z
below_some s t p q (term Lt (terms v (terms w no_terms))) e =
    let both = pair_parts (p, q) (v, w) e in
    let first = both.0 in
    let second = both.1 in
    (λ i. term_eq s (first i) && term_eq t (second i)) ∙ ap (λ b. term_eq s v && b) (sym (and-true (term_eq t w)))
below_some s t p q _ e = absurd (cc)

pub ruleset sameness = (and-true, term_eq-sym, term_eq-ids, negation_some, equation_some, below_some)
