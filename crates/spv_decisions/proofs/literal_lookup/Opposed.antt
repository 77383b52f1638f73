-- Two facts that are never both true.
use Rattle.std.proofs.Common.{◌≡◌, ℕ, ◌+◌, ◌<◌, Bool, true, false, ◌||◌, List, [], ◌∷◌, length, get_or, refl, sym, ap, ◌∙◌, None, inl, inr}
use Rattle.std.specs.Prelude.{is_some}
use Rattle.std.proofs.lemmas.Bool.{false≢true}
use Rattle.std.proofs.lemmas.Option.{slice_get-get_or}
use Rattle.spv_logic.specs.Terms.{Term, term_eq}
use Rattle.spv_term.specs.Arena.{Arena, tree}
use Rattle.spv_proof_rules.specs.Sums.{negated}
use Rattle.spv_proof_rules.specs.Evaluation.{apart}
use Rattle.spv_proof_rules.specs.Effects.{is_negation_of, contrary}
use Rattle.spv_derivations.specs.declared.derivation.entries.Part.{Part}
use Rattle.spv_derivations.specs.declared.derivation.entries.Part.TheVariants.{True, False, Below, Above}
use Rattle.spv_derivations.specs.derivation.Derivation.{literal}
use Rattle.spv_assignments.specs.declared.partial_assignment.facts.Known.{Known}
use Rattle.spv_assignments.specs.partial_assignment.Facts.{fact_of}
use Rattle.spv_decisions.specs.declared.literal_lookup.clashing.Clash.{Clash}
use Rattle.spv_decisions.specs.declared.literal_lookup.clashing.Clash.TheVariants.{Opposite, Crossed}
use Rattle.spv_decisions.specs.literal_lookup.Orders.{crosses}
use Rattle.spv_decisions.specs.literal_lookup.Clashes.{clash, IsClashWith, IsClash}
use Rattle.spv_decisions.proofs.literal_lookup.Turns.{AreBefore, one_more}
use Rattle.spv_decisions.proofs.literal_lookup.Differing.{bare_part, no_sides}

-- ---- a negation

pub negates_false : (t g : Term) (p : Part) (b : Bool) → p ≡ False → b ≡ term_eq t g → b ≡ is_negation_of (negated (literal t p)) g
negates_false t g p b e h = h ∙ ap (λ q. is_negation_of (negated (literal t q)) g) (sym e)

pub negates_other : (t g : Term) (p : Part) → negated t ≡ None → (p ≡ False → ⊥) → false ≡ is_negation_of (negated (literal t p)) g
negates_other t g p n h = ap (λ o. is_negation_of o g) (sym (bare_part t p n h))

-- ---- an equation, and an order of its sides

pub crosses_true : (t g : Term) (p : Part) (b : Bool) → p ≡ True → b ≡ crosses t g → b ≡ crosses (literal t p) g
crosses_true t g p b e h = h ∙ ap (λ q. crosses (literal t q) g) (sym e)

pub crosses_other : (t g : Term) (p : Part) → (p ≡ True → ⊥) → false ≡ crosses (literal t p) g
crosses_other t g p h = ap (λ o. is_some (apart (g ∷ []) o)) (sym (no_sides t p h))

below_true : Below ≡ True → ⊥
below_true e = cc

above_true : Above ≡ True → ⊥
above_true e = cc

crossed : (t g : Term) (p : Part) → crosses (literal t p) g ≡ true → (p ≡ True) × (crosses t g ≡ true)
crossed t g True e = (refl, e)
crossed t g False e = absurd (false≢true e)
crossed t g Below e = absurd (false≢true (crosses_other t g Below below_true ∙ e))
crossed t g Above e = absurd (false≢true (crosses_other t g Above above_true ∙ e))

-- ---- why two facts are never both true

pub opposed : (a : Arena) (new k : Known) (b : Bool) → b ≡ contrary (fact_of a new) (fact_of a k) → b ≡ true → IsClashWith a new k (Opposite k.fact)
opposed a new k b e h = (refl, sym e ∙ h)

pub new_crossed : (a : Arena) (new k : Known) (b : Bool) → b ≡ crosses (fact_of a new) (fact_of a k) → b ≡ true → IsClashWith a new k (Crossed new k)
new_crossed a new k b e h =
    let both = crossed (tree a new.term) (fact_of a k) new.part (sym e ∙ h) in
    (both.0, both.1, inl (refl, refl))

pub old_crossed : (a : Arena) (new k : Known) (b : Bool) → b ≡ crosses (fact_of a k) (fact_of a new) → b ≡ true → IsClashWith a new k (Crossed k new)
old_crossed a new k b e h =
    let both = crossed (tree a k.term) (fact_of a new) k.part (sym e ∙ h) in
    (both.0, both.1, inr (refl, refl))

none_of : (x y z : Bool) → x ≡ false → y ≡ false → z ≡ false → (x || (y || z)) ≡ false
none_of true y z e f g = e
none_of false true z e f g = f
none_of false false z e f g = g

pub no_clash : (a : Arena) (new k : Known) (x y z : Bool) → x ≡ contrary (fact_of a new) (fact_of a k) → x ≡ false → y ≡ crosses (fact_of a new) (fact_of a k) → y ≡ false → z ≡ crosses (fact_of a k) (fact_of a new) → z ≡ false
    → clash (fact_of a new) (fact_of a k) ≡ false
no_clash a new k x y z e x_is f y_is g z_is =
    none_of (contrary (fact_of a new) (fact_of a k)) (crosses (fact_of a new) (fact_of a k)) (crosses (fact_of a k) (fact_of a new)) (sym e ∙ x_is) (sym f ∙ y_is) (sym g ∙ z_is)

-- ---- the facts one by one

-- a new fact does not clash with this one
abbrev pub NoClash : Arena → Known → Known → Type 0
NoClash a new k = clash (fact_of a new) (fact_of a k) ≡ false

pub no_clash_more : (a : Arena) (known : List Known) (new : Known) (i : ℕ) (d : Known) → AreBefore (NoClash a new) known i → i < length known → NoClash a new (get_or known i d) → AreBefore (NoClash a new) known (i + 1)
no_clash_more a known new i d so_far inside now = one_more (NoClash a new) known i d so_far inside now

pub clash_found : (a : Arena) (known : List Known) (new : Known) (i : ℕ) (d : Known) (c : Clash) → i < length known → IsClashWith a new (get_or known i d) c → IsClash a known new c
clash_found a known new i d c inside h = record { place = i; other = get_or known i d; here = slice_get-get_or known i d inside; between = h }
