-- What is an order of two terms.
use Rattle.std.proofs.Common.{◌≡◌, ℕ, ◌+◌, ◌<◌, Bool, true, false, cond, ◌&&◌, ◌||◌, List, [], ◌∷◌, length, get_or, refl, sym, ap, ◌∙◌, Option, Some, None, inl, inr, ◌⊎◌}
use Rattle.std.specs.Prelude.{is_some}
use Rattle.std.proofs.lemmas.Bool.{false≢true}
use Rattle.std.proofs.lemmas.Option.{slice_get-get_or}
use Rattle.spv_logic.specs.declared.conditions.TermId.{TermId}
use Rattle.spv_logic.specs.Terms.{Term, term_eq}
use Rattle.spv_logic.specs.Formulas.{below}
use Rattle.spv_logic.proofs.Equality.{term_eq-true, term_eq-refl}
use Rattle.spv_term.specs.Arena.{Arena, tree}
use Rattle.spv_proof_rules.specs.Evaluation.{sides, apart}
use Rattle.spv_proof_steps.specs.Candidates.{lower}
use Rattle.spv_proof_steps.proofs.Same.{below_some}
use Rattle.spv_derivations.specs.declared.derivation.entries.Part.TheVariants.{Below, Above}
use Rattle.spv_derivations.specs.derivation.Derivation.{by_sides, literal}
use Rattle.spv_assignments.specs.declared.partial_assignment.facts.Known.{Known}
use Rattle.spv_assignments.specs.partial_assignment.Facts.{fact_of}
use Rattle.spv_decisions.specs.literal_lookup.Facts.{IsAmong}
use Rattle.spv_decisions.specs.literal_lookup.Orders.{crosses, orders, has_order}
use Rattle.spv_decisions.proofs.literal_lookup.Turns.{AreBefore, one_more}
use Rattle.spv_decisions.proofs.literal_lookup.Among.{one_passes}
use Rattle.spv_decisions.proofs.literal_lookup.Differing.{only_first}

-- ---- the order that a fact gives

pub left_of_sides : (t l r : Term) → Some (l, r) ≡ sides t → Some (l, r) ≡ lower (literal t Below)
left_of_sides t l r e = ap (λ o. lower (by_sides below o t)) e

pub left_of_none : (t : Term) (o : Option (Term × Term)) → None ≡ sides t → o ≡ lower t → o ≡ lower (literal t Below)
left_of_none t o e f = f ∙ ap (λ x. lower (by_sides below x t)) e

pub right_of_sides : (t l r : Term) → Some (l, r) ≡ sides t → Some (r, l) ≡ lower (literal t Above)
right_of_sides t l r e = ap (λ o. lower (by_sides (λ x y. below y x) o t)) e

pub right_of_none : (t : Term) (o : Option (Term × Term)) → None ≡ sides t → o ≡ lower t → o ≡ lower (literal t Above)
right_of_none t o e f = f ∙ ap (λ x. lower (by_sides (λ x y. below y x) x t)) e

-- ---- whether a formula puts a term below another

pub put_some : (s t p q f : Term) (b : Bool) → Some (p, q) ≡ lower f → b ≡ (term_eq s p && term_eq t q) → b ≡ term_eq (below s t) f
put_some s t p q f b e g = g ∙ below_some s t p q f e

pub put_none : (s t f : Term) → None ≡ lower f → false ≡ term_eq (below s t) f
put_none s t f e = sym (only_first lower (below s t) f (s, t) refl (sym e))

-- ---- whether it is an order of the sides of a term

either : (x y : Bool) → (x || y) ≡ is_some (cond ((x || false) || (y || false)) (Some false) None)
either true y = refl
either false true = refl
either false false = refl

pub crosses_some : (t f l r : Term) (b : Bool) → Some (l, r) ≡ sides t → b ≡ (term_eq (below l r) f || term_eq (below r l) f) → b ≡ crosses t f
crosses_some t f l r b e g =
    g ∙ (either (term_eq (below l r) f) (term_eq (below r l) f) ∙ ap (λ o. is_some (apart (f ∷ []) o)) e)

pub crosses_none : (t f : Term) → None ≡ sides t → false ≡ crosses t f
crosses_none t f e = ap (λ o. is_some (apart (f ∷ []) o)) e

-- an order of the sides of an equation puts one below the other
pub order_is : (t f l r : Term) → Some (l, r) ≡ sides t → crosses t f ≡ true → (f ≡ below l r) ⊎ (f ≡ below r l)
order_is t f l r e h =
    by_case (term_eq (below l r) f) refl (term_eq (below r l) f) refl (crosses_some t f l r (term_eq (below l r) f || term_eq (below r l) f) e refl ∙ h)
  where
    by_case : (b : Bool) → term_eq (below l r) f ≡ b → (d : Bool) → term_eq (below r l) f ≡ d → (b || d) ≡ true → (f ≡ below l r) ⊎ (f ≡ below r l)
    by_case true g d k both = inl (sym (term_eq-true (below l r) f g))
    by_case false g true k both = inr (sym (term_eq-true (below r l) f k))
    by_case false g false k both = absurd (false≢true both)

-- how it is told
pub below_part : (a : Arena) (t : TermId) (k : Known) (l r : Term) (b : Bool) → Some (l, r) ≡ sides (tree a t) → b ≡ term_eq (below l r) (fact_of a k) → b ≡ true → literal (tree a t) Below ≡ fact_of a k
below_part a t k l r b e g h = ap (λ o. by_sides below o (tree a t)) (sym e) ∙ term_eq-true (below l r) (fact_of a k) (sym g ∙ h)

pub above_part : (a : Arena) (t : TermId) (k : Known) (l r : Term) (b : Bool) → Some (l, r) ≡ sides (tree a t) → b ≡ term_eq (below l r) (fact_of a k) → b ≡ false → crosses (tree a t) (fact_of a k) ≡ true → literal (tree a t) Above ≡ fact_of a k
above_part a t k l r b e g h crossed = ap (λ o. by_sides (λ x y. below y x) o (tree a t)) (sym e) ∙ by_order (order_is (tree a t) (fact_of a k) l r e crossed)
  where
    by_order : (fact_of a k ≡ below l r) ⊎ (fact_of a k ≡ below r l) → below r l ≡ fact_of a k
    by_order (inl f) = absurd (false≢true (sym h ∙ (g ∙ (ap (term_eq (below l r)) f ∙ term_eq-refl (below l r)))))
    by_order (inr f) = sym f

pub has_sides : (a : Arena) (t : TermId) (k : Known) → None ≡ sides (tree a t) → orders a t k ≡ true → ⊥
has_sides a t k e h = false≢true (crosses_none (tree a t) (fact_of a k) e ∙ h)

-- ---- the facts one by one

-- a fact is no order of the sides of a term
abbrev pub NoOrder : Arena → TermId → Known → Type 0
NoOrder a t k = orders a t k ≡ false

pub no_order_more : (a : Arena) (t : TermId) (known : List Known) (i : ℕ) (d : Known) (b : Bool) → AreBefore (NoOrder a t) known i → i < length known → b ≡ orders a t (get_or known i d) → b ≡ false → AreBefore (NoOrder a t) known (i + 1)
no_order_more a t known i d b so_far inside e f = one_more (NoOrder a t) known i d so_far inside (sym e ∙ f)

pub order_found : (a : Arena) (t : TermId) (known : List Known) (i : ℕ) (d : Known) (b : Bool) → i < length known → b ≡ orders a t (get_or known i d) → b ≡ true
    → IsAmong known (get_or known i d) × (orders a t (get_or known i d) ≡ true)
order_found a t known i d b inside e f = (record { place = i; is = slice_get-get_or known i d inside }, sym e ∙ f)

-- a fact that is found is one that there is
pub order_there : (a : Arena) (t : TermId) (known : List Known) (k : Known) → IsAmong known k × (orders a t k ≡ true) → has_order a known t ≡ true
order_there a t known k h = let among = h.0 in one_passes (orders a t) known among.place k among.is h.1
