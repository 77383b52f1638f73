-- Terms that are not the same, and what is told of a term.
use Rattle.std.proofs.Common.{◌≡◌, Bool, true, false, refl, sym, ap, ◌∙◌, Option, Some, None}
use Rattle.spv_logic.specs.Terms.{Term, term_eq}
use Rattle.spv_logic.specs.Formulas.{below}
use Rattle.spv_logic.proofs.Equality.{term_eq-true}
use Rattle.spv_proof_rules.specs.Sums.{negated}
use Rattle.spv_proof_rules.specs.Evaluation.{sides}
use Rattle.spv_derivations.specs.declared.derivation.entries.Part.{Part}
use Rattle.spv_derivations.specs.declared.derivation.entries.Part.TheVariants.{True, False, Below, Above}
use Rattle.spv_derivations.specs.derivation.Derivation.{by_sides, literal}

pub none_some : {X : Type 0} (o : Option X) (x : X) → o ≡ None → o ≡ Some x → ⊥
none_some o x e f = cc

-- terms of which the first has something and the second has not are not the same
pub only_first : {X : Type 0} (part : Term → Option X) (p q : Term) (x : X) → part p ≡ Some x → part q ≡ None → term_eq p q ≡ false
only_first part p q x some none = by_case (term_eq p q) refl
  where
    by_case : (b : Bool) → term_eq p q ≡ b → b ≡ false
    by_case true e = absurd (none_some (part q) x none (sym (ap part (term_eq-true p q e)) ∙ some))
    by_case false e = refl

-- the same where the second has it
pub only_second : {X : Type 0} (part : Term → Option X) (p q : Term) (x : X) → part p ≡ None → part q ≡ Some x → term_eq p q ≡ false
only_second part p q x none some = by_case (term_eq p q) refl
  where
    by_case : (b : Bool) → term_eq p q ≡ b → b ≡ false
    by_case true e = absurd (none_some (part q) x (sym (ap part (term_eq-true p q e)) ∙ none) some)
    by_case false e = refl

-- ---- what is told of a term that is no negation

-- nothing that is told of it but that it is false is a negation
module _ (make : Term → Term → Term) where
  bare_sides : ((x y : Term) → negated (make x y) ≡ None) → (t : Term) (o : Option (Term × Term)) → negated t ≡ None → negated (by_sides make o t) ≡ None
  bare_sides bare t None n = n
  bare_sides bare t (Some st) n = bare st.0 st.1

  sides_none : ((x y : Term) → sides (make x y) ≡ None) → (t : Term) (o : Option (Term × Term)) → sides t ≡ o → sides (by_sides make o t) ≡ None
  sides_none other t None e = e
  sides_none other t (Some st) e = other st.0 st.1

pub bare_part : (t : Term) (p : Part) → negated t ≡ None → (p ≡ False → ⊥) → negated (literal t p) ≡ None
bare_part t True n h = n
bare_part t False n h = absurd (h refl)
bare_part t Below n h = bare_sides below (λ x y. refl) t (sides t) n
bare_part t Above n h = bare_sides (λ x y. below y x) (λ x y. refl) t (sides t) n

-- nothing that is told of a term but that it is true is an equation
pub no_sides : (t : Term) (p : Part) → (p ≡ True → ⊥) → sides (literal t p) ≡ None
no_sides t True h = absurd (h refl)
no_sides t False h = refl
no_sides t Below h = sides_none below (λ x y. refl) t (sides t) refl
no_sides t Above h = sides_none (λ x y. below y x) (λ x y. refl) t (sides t) refl
