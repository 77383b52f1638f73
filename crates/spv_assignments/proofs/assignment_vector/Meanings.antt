-- Two sayings are the same where they mean the same.
use Rattle.std.proofs.Common.{◌≡◌, Bool, true, false, ◌&&◌, refl, sym, ap, ◌∙◌, Option, Some, None}
use mathlib.Core.Path.{ap₂}
use Rattle.std.proofs.Math.Bool.{and-true}
use Rattle.spv_logic.specs.Terms.{Term, term_eq}
use Rattle.spv_logic.specs.Formulas.{negation, below}
use Rattle.spv_logic.proofs.Equality.{term_eq-true}
use Rattle.spv_term.specs.Arena.{Arena, IsArena, tree}
use Rattle.spv_atoms.proofs.Walks.{term_eq-ids}
use Rattle.spv_proof_rules.specs.Sums.{negated}
use Rattle.spv_proof_steps.specs.Candidates.{lower}
use Rattle.spv_assignments.proofs.partial_assignment.Told.{term_eq_sym}
use Rattle.spv_assignments.specs.declared.assignment_vector.sayings.RowConstraint.{RowConstraint}
use Rattle.spv_assignments.specs.declared.assignment_vector.sayings.RowConstraint.TheVariants.{Affirms, Denies, Orders}
use Rattle.spv_assignments.specs.assignment_vector.Sayings.{meaning, Fits, same_saying}

none_some : {X : Type 0} (o : Option X) (x : X) → o ≡ None → o ≡ Some x → ⊥
none_some o x e f = cc

-- terms of which one has something and the other has not are not the same
never : {X : Type 0} (part : Term → Option X) (p q : Term) (x : X) → part p ≡ None → part q ≡ Some x → term_eq p q ≡ false
never part p q x none some = by_case (term_eq p q) refl
  where
    by_case : (b : Bool) → term_eq p q ≡ b → b ≡ false
    by_case true e = absurd (none_some (part q) x (sym (ap part (term_eq-true p q e)) ∙ none) some)
    by_case false e = refl

module _ (a : Arena) (ok : IsArena a) where
  pub same_meaning : (s u : RowConstraint) → Fits a s → Fits a u → same_saying s u ≡ term_eq (meaning a s) (meaning a u)
  same_meaning (Affirms t) (Affirms u) h k = term_eq-ids a ok t u h.0 k.0
  same_meaning (Affirms t) (Denies u) h k = sym (never negated (tree a t) (negation (tree a u)) (tree a u) h.1.0 refl)
  same_meaning (Affirms t) (Orders u v) h k = sym (never lower (tree a t) (below (tree a u) (tree a v)) (tree a u, tree a v) h.1.1 refl)
  same_meaning (Denies t) (Affirms u) h k = sym (term_eq_sym (negation (tree a t)) (tree a u) ∙ never negated (tree a u) (negation (tree a t)) (tree a t) k.1.0 refl)
  same_meaning (Denies t) (Denies u) h k = term_eq-ids a ok t u h k ∙ sym (and-true (term_eq (tree a t) (tree a u)))
  same_meaning (Denies t) (Orders u v) h k = refl
  same_meaning (Orders s t) (Affirms u) h k =
      sym (term_eq_sym (below (tree a s) (tree a t)) (tree a u) ∙ never lower (tree a u) (below (tree a s) (tree a t)) (tree a s, tree a t) k.1.1 refl)
  same_meaning (Orders s t) (Denies u) h k = refl
  same_meaning (Orders s t) (Orders u v) h k =
      ap₂ (λ b c. b && c) (term_eq-ids a ok s u h.0 k.0) (term_eq-ids a ok t v h.1 k.1 ∙ sym (and-true (term_eq (tree a t) (tree a v))))
