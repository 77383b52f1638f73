-- One literal more is told, and with it the value of a question.
use Rattle.std.proofs.Common.{◌≡◌, ℕ, Bool, true, false, List, [], ◌∷◌, ◌++◌, refl, sym, ap, ◌∙◌, subst, Some}
use Rattle.spv_logic.specs.declared.conditions.TermId.{TermId}
use Rattle.spv_logic.specs.Terms.{Term}
use Rattle.spv_term.specs.declared.nodes.Condition.{Condition}
use Rattle.spv_term.specs.Arena.{Arena, tree}
use Rattle.spv_proof_rules.specs.Stand.{question}
use Rattle.spv_tableau_rules.specs.constraints.Sayings as sayings
use Rattle.spv_derivations.specs.declared.derivation.entries.Part.{Part}
use Rattle.spv_derivations.specs.declared.derivation.entries.Part.TheVariants.{True, False, Below, Above}
use Rattle.spv_derivations.specs.declared.derivation.entries.Entry.{Entry}
use Rattle.spv_derivations.specs.derivation.Derivation.{literal, IsComparison, PartFits}
use Rattle.spv_derivations.specs.derivation.Literals.{Literal}
use Rattle.spv_share.specs.declared.both.Both.{Both}
use Rattle.spv_share.specs.Both.{told}
use Rattle.spv_explanations.specs.congruence_side.Holding.{MayTell}
use Rattle.spv_assignments.specs.declared.partial_assignment.facts.Known.{Known}
use Rattle.spv_assignments.specs.partial_assignment.Facts.{fact_of, facts_of}
use Rattle.spv_assignments.proofs.partial_assignment.Told.{facts_are_true}
use Rattle.spv_assignments.proofs.monotonicity.Valued.{values_give_literals}
use Rattle.spv_decisions.specs.literal_lookup.Facts.{IsAmong}
use Rattle.spv_decisions.specs.literal_lookup.Orders.{orders, IsOrderPart}
use Rattle.spv_trail.specs.trail_states.Told.{by_itself, by_below, by_above, IsAsked, IsStored, IsToldIn, IsToldWith, values_of}
use Rattle.spv_trail.proofs.trail_states.RowConstraint.{compared, found_from}
use Rattle.spv_trail.proofs.trail_states.Growing.{at_last, stored_longer, stored_told}
use Rattle.spv_trail.specs.asserted_steps.Steps.{HasNumber}
use Rattle.spv_trail.specs.propagation.Learning.{part_of, MayCite}
use Rattle.spv_trail.specs.propagation.Telling.{AreSound, Goes, IsTellable, IsTelling, TellsFact, TellsLiteral, TellsTruth, TellsValue}
use Rattle.spv_trail.proofs.propagation.Citing.{same_number, stored_citable}
use Rattle.spv_trail.proofs.propagation.Learned.{literal_part, fits_part}
use Rattle.spv_trail.proofs.propagation.Values.{ordered_truth}
use Rattle.spv_derivations.specs.derivation.Derived.{IsFalseTerm}

-- ---- parts

-- how an order is told
pub order_says : (a : Arena) (t : TermId) (k : Known) (p : Part) → IsOrderPart a t k p → literal (tree a t) p ≡ fact_of a k
order_says a t k True h = absurd h
order_says a t k False h = absurd h
order_says a t k Below h = h
order_says a t k Above h = h

pub order_fits : (a : Arena) (t : TermId) (k : Known) (p : Part) → IsOrderPart a t k p → IsComparison a t → PartFits a t p
order_fits a t k True h compares = absurd h
order_fits a t k False h compares = absurd h
order_fits a t k Below h compares = compares
order_fits a t k Above h compares = compares

pub order_tells : (a : Arena) (t : TermId) (k : Known) (p : Part) → IsOrderPart a t k p → TellsTruth p false
order_tells a t k True h = absurd h
order_tells a t k False h = absurd h
order_tells a t k Below h = tt
order_tells a t k Above h = tt

pub truth_tells : (b : Bool) → TellsTruth (part_of b) b
truth_tells true = tt
truth_tells false = tt

-- a term is told with the truth that a part tells
answered_by : (a : Arena) (ls : List Literal) (t : TermId) (p : Part) (b : Bool) → TellsTruth p b → PartFits a t p → IsToldIn a ls (tree a t) p → IsToldWith a ls (tree a t) b
answered_by a ls t True true h fits k = k
answered_by a ls t True false h fits k = absurd h
answered_by a ls t False true h fits k = absurd h
answered_by a ls t False false h fits k = by_itself k
answered_by a ls t Below true h fits k = absurd h
answered_by a ls t Below false h fits k = let m = compared a (tree a t) fits in by_below m.left m.right m.is k
answered_by a ls t Above true h fits k = absurd h
answered_by a ls t Above false h fits k = let m = compared a (tree a t) fits in by_above m.left m.right m.is k

-- ---- literals

pub may_tell : (a : Arena) (c : Condition) (b : Both) (t : TermId) (p : Part) → IsTellable a c b t → PartFits a t p → MayTell a b.trail t p
may_tell a c b t p h fits = record { formula = h.formula; part_fits = fits; node = h.node }

pub goes_by : (a : Arena) (old new : Both) (l : Literal) → TellsLiteral a old new l → Goes a old new
goes_by a old new l h = record { longer = record { more = l ∷ []; is = h.told_is }; levels = h.levels; stays = h.stays }

pub order_told : (a : Arena) (old new : Both) (t : TermId) (order : Known) (p : Part) → IsOrderPart a t order p → IsComparison a t → TellsLiteral a old new (record { atom = t; part = p; why = order.fact }) → TellsFact a old new t false (fact_of a order) order.fact
order_told a old new t order p h compares l = record {
  part = p;
  literal_told = l;
  says = order_says a t order p h;
  fits = order_fits a t order p h compares;
  tells = order_tells a t order p h;
}

pub truth_told : (a : Arena) (old new : Both) (t : TermId) (truth : Bool) (p : Part) (n : ℕ) → p ≡ part_of truth → TellsLiteral a old new (record { atom = t; part = p; why = n }) → TellsFact a old new t truth (sayings.literal truth (tree a t)) n
truth_told a old new t truth p n is l = record {
  part = p;
  literal_told = l;
  says = ap (literal (tree a t)) is ∙ literal_part truth (tree a t);
  fits = subst (PartFits a t) (sym is) (fits_part a t truth);
  tells = subst (λ (q : Part). TellsTruth q truth) (sym is) (truth_tells truth);
}

-- ---- a question and its value

module _ (a : Arena) (c : Condition) (cases : List Term) (es es2 : List Entry) (ks : List Known) (old new : Both) (t : TermId) (truth : Bool) (f : Term) (n : ℕ)
    (tellable : IsTellable a c old t) (fact : TellsFact a old new t truth f n) (telling : IsTelling a c cases es ks old) (number : HasNumber (question a c) cases es es2 n f) (value : values_of a ks f ≡ Some true) where
  abbrev new_one : Literal
  new_one = record { atom = t; part = fact.part; why = n }

  last_told : IsToldIn a (told old ++ new_one ∷ []) (tree a t) fact.part
  last_told = let k = at_last (told old) new_one in record { place = k.0; told_one = new_one; there = k.1; atom = refl; part_is = refl }

  asked_one : IsAsked a (question a c) new_one
  asked_one = record { asked = tellable.asked; fits = fact.fits }

  stored_more : IsStored a c es2 ks (told old ++ new_one ∷ [])
  stored_more =
      stored_told a c es2 ks (told old) new_one (stored_longer a c es es2 ks (told old) number.more number.facts_are telling.stored)
      (number.number ∙ ap (λ (g : Term). Some g) (sym fact.says)) asked_one (ap (values_of a ks) fact.says ∙ value)

  pub fact_told : TellsValue a c cases es es2 ks new t truth
  fact_told = record {
    telling = record { path = number.path; stored = subst (λ (ls : List Literal). IsStored a c es2 ks ls) (sym fact.literal_told.told_is) stored_more };
    grown = number.grown;
    answered = subst (λ (ls : List Literal). IsToldWith a ls (tree a t) truth) (sym fact.literal_told.told_is) (answered_by a (told old ++ new_one ∷ []) t fact.part truth fact.tells fact.fits last_told);
  }

-- that it has its value
pub value_told : (a : Arena) (c : Condition) (falsity : TermId) (cases : List Term) (es es2 : List Entry) (ks : List Known) (old new : Both) (t : TermId) (truth : Bool) (n : ℕ) (p : Part) → AreSound a c ks → IsFalseTerm a falsity → IsTellable a c old t → values_of a ks (tree a t) ≡ Some truth
    → (MayCite a c falsity cases es ks → HasNumber (question a c) cases es es2 n (sayings.literal truth (tree a t)))
    → p ≡ part_of truth → TellsLiteral a old new (record { atom = t; part = p; why = n }) → IsTelling a c cases es ks old → TellsValue a c cases es es2 ks new t truth
value_told a c falsity cases es es2 ks old new t truth n p sound false_is tellable value numbers is l telling =
    fact_told a c cases es es2 ks old new t truth (sayings.literal truth (tree a t)) n tellable (truth_told a old new t truth p n is l) telling
    (numbers (record { falsity_is = false_is; path = telling.path; citable = stored_citable a c es ks (told old) sound.formulas telling.stored }))
    (values_give_literals (facts_of a ks) (tree a t) truth value)

-- or an order of its sides
pub ordered_told : (a : Arena) (c : Condition) (cases : List Term) (es : List Entry) (ks : List Known) (old new : Both) (t : TermId) (truth : Bool) (order : Known) → AreSound a c ks → IsTellable a c old t → values_of a ks (tree a t) ≡ Some truth
    → IsAmong ks order × (orders a t order ≡ true) → TellsFact a old new t false (fact_of a order) order.fact → IsTelling a c cases es ks old → TellsValue a c cases es es ks new t truth
ordered_told a c cases es ks old new t truth order sound tellable value found fact telling =
    let is : truth ≡ false = ordered_truth a ks sound.knowledge sound.uncrossed t order found.0 found.1 truth value in
    subst (λ (b : Bool). TellsValue a c cases es es ks new t b) (sym is)
    (fact_told a c cases es es ks old new t false (fact_of a order) order.fact tellable fact telling
    (same_number (question a c) cases es order.fact (fact_of a order) telling.path ((stored_citable a c es ks (told old) sound.formulas telling.stored).each found.0.place order found.0.is).number)
    (facts_are_true (facts_of a ks) sound.knowledge.literals (fact_of a order) (found_from (fact_of a) ks found.0.place order found.0.is)))
