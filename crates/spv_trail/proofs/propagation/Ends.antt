-- Two facts that end a path.
use Rattle.std.proofs.Common.{◌≡◌, ℕ, Bool, true, false, List, [], ◌∷◌, ◌++◌, refl, sym, ap, ◌∙◌, subst, Option, Some, None, inl, inr, ◌⊎◌}
use mathlib.Core.Path.{ap₂}
use Rattle.spv_logic.specs.declared.conditions.TermId.{TermId}
use Rattle.spv_logic.specs.declared.operators.Head.TheVariants.{Lt, False}
use Rattle.spv_logic.specs.declared.operators.Head.TheVariants.{True as TruthHead}
use Rattle.spv_logic.specs.Terms.{Term, term, no_terms, terms, term_eq}
use Rattle.spv_logic.specs.Formulas.{negation, below}
use Rattle.spv_logic.proofs.Equality.{term_eq-refl}
use Rattle.spv_term.specs.declared.nodes.Condition.{Condition}
use Rattle.spv_term.specs.Arena.{Arena, tree}
use Rattle.spv_atoms.proofs.Members.{or_right}
use Rattle.spv_atoms.specs.declared.proofs.Step.TheVariants.{Contra}
use Rattle.std.proofs.lemmas.Bool.{false≢true}
use Rattle.spv_atoms.specs.Tables.{numeral_relation}
use Rattle.spv_proof_rules.specs.Sums.{negated}
use Rattle.spv_proof_steps.specs.Candidates.{lower}
use Rattle.spv_proof_rules.specs.Effects.{Question, contrary, end_of_one, end_of_two, ends_if, impossible, is_false, is_negation_of, numbered}
use Rattle.spv_proof_rules.specs.Accepted.{Closed, on_effect, walk}
use Rattle.spv_proof_rules.specs.Stand.{question}
use Rattle.spv_derivations.specs.declared.derivation.entries.Part.{Part}
use Rattle.spv_derivations.specs.declared.derivation.entries.Part.TheVariants.{True}
use Rattle.spv_derivations.specs.declared.derivation.entries.Entry.{Entry}
use Rattle.spv_derivations.specs.derivation.Derivation as derivation
use Rattle.spv_derivations.specs.branches.Paths.{facts_in}
use Rattle.spv_assignments.specs.declared.partial_assignment.facts.Known.{Known}
use Rattle.spv_assignments.specs.partial_assignment.Facts.{fact_of}
use Rattle.spv_decisions.specs.declared.literal_lookup.clashing.Clash.{Clash}
use Rattle.spv_decisions.specs.declared.literal_lookup.clashing.Clash.TheVariants.{Opposite, Crossed}
use Rattle.spv_decisions.specs.literal_lookup.Orders.{orders}
use Rattle.spv_decisions.specs.literal_lookup.Clashes.{IsClash}
use Rattle.spv_trail.specs.asserted_steps.Steps.{HasNumber}
use Rattle.spv_trail.proofs.asserted_steps.Numbers.{number_stays}
use Rattle.spv_trail.specs.propagation.Learning.{IsCitable, MayCite, EndsNow, is_downward, is_refuted}
use Rattle.spv_trail.proofs.propagation.Citing.{not_grown}

pub ends_two : (q : Question) (facts : List Term) (i j : ℕ) (f g : Term) → numbered facts i ≡ Some f → numbered facts j ≡ Some g → contrary f g ≡ true → walk q facts (Contra i (Some j) ∷ []) ≡ Closed
ends_two q facts i j f g e h k =
    ap₂ (λ (s t : Option Term). on_effect (end_of_two s t) (λ (u : Term). walk q (facts ++ u ∷ []) []) Closed) e h
    ∙ ap (λ (b : Bool). on_effect (ends_if b) (λ (u : Term). walk q (facts ++ u ∷ []) []) Closed) k

-- an order of two numerals that does not hold
lower_is : (t : Term) (st : Term × Term) → lower t ≡ Some st → t ≡ below st.0 st.1
lower_is (term Lt (terms s (terms u no_terms))) st e = let same : (s, u) ≡ st = cc in ap (λ (r : Term × Term). below r.0 r.1) same
lower_is _ st e = absurd (cc)

refuted_impossible : (f : Term) → is_refuted f ≡ true → impossible f ≡ true
refuted_impossible f e = by_sides (lower f) refl e
  where
    by_sides : (o : Option (Term × Term)) → lower f ≡ o → is_downward o ≡ true → impossible f ≡ true
    by_sides None s h = absurd (false≢true h)
    by_sides (Some st) s h =
        or_right (term_eq f (term False no_terms)) _ (or_right (term_eq f (negation (term TruthHead no_terms))) _ (ap (λ (g : Term). is_false (numeral_relation g)) (lower_is f st s) ∙ h))

pub refuted_ends : (a : Arena) (c : Condition) (falsity : TermId) (cases : List Term) (es : List Entry) (ks : List Known) (added : Known) → MayCite a c falsity cases es ks → IsCitable a c es added → is_refuted (fact_of a added) ≡ true
    → EndsNow a c cases es es (record { first = added.fact; second = None })
refuted_ends a c falsity cases es ks added may cite e = record {
  ends = record {
    path = may.path;
    closes =
        ap (λ (s : Option Term). on_effect (end_of_one s) (λ (u : Term). walk (question a c) (facts_in (question a c) es ++ u ∷ []) []) Closed) cite.number
        ∙ ap (λ (b : Bool). on_effect (ends_if b) (λ (u : Term). walk (question a c) (facts_in (question a c) es ++ u ∷ []) []) Closed) (refuted_impossible (fact_of a added) e);
  };
  grown = not_grown es;
}

pub refuted_none : (f : Term) (o : Option (Term × Term)) → o ≡ lower f → o ≡ None → false ≡ is_refuted f
refuted_none f o e none = sym (ap is_downward (sym e ∙ none))

pub refuted_some : (f : Term) (s t : Term) (b : Bool) → Some (s, t) ≡ lower f → b ≡ is_false (numeral_relation (below s t)) → b ≡ is_refuted f
refuted_some f s t b e h = h ∙ ap is_downward e

-- a formula and its negation
pub contrary_negation : (t : Term) → contrary t (negation t) ≡ true
contrary_negation t = or_right (is_negation_of (negated t) (negation t)) (term_eq t t) (term_eq-refl t)

-- what is cited of an equation and an order of its sides
pub record IsCrossing (a : Arena) (c : Condition) (es : List Entry) (equal order : Known) : Type 0 where
  pub equation : IsCitable a c es equal
  pub ordering : IsCitable a c es order
  pub part_is : equal.part ≡ True
  pub orders_it : orders a equal.term order ≡ true

module _ (a : Arena) (c : Condition) (falsity : TermId) (cases : List Term) (es : List Entry) (ks : List Known) (may : MayCite a c falsity cases es ks) (added : Known) (cite : IsCitable a c es added) (x : Clash) (clash : IsClash a ks added x) where
  -- a known fact is the negation of the new one, or the other way round
  pub opposite_ends : (n : ℕ) → x ≡ Opposite n → EndsNow a c cases es es (record { first = added.fact; second = Some n })
  opposite_ends n e =
      let found = subst (λ (y : Clash). IsClash a ks added y) e clash in
      record {
        ends = record {
          path = may.path;
          closes =
              ends_two (question a c) (facts_in (question a c) es) added.fact n (fact_of a added) (fact_of a found.other) cite.number
              (ap (numbered (facts_in (question a c) es)) (sym found.between.0) ∙ (may.citable.each found.place found.other found.here).number) found.between.1;
        };
        grown = not_grown es;
      }

  pub crossing : (equal order : Known) → x ≡ Crossed equal order → IsCrossing a c es equal order
  crossing equal order e = by_place found.between.2
    where
      found : IsClash a ks added (Crossed equal order)
      found = subst (λ (y : Clash). IsClash a ks added y) e clash

      other : IsCitable a c es found.other
      other = may.citable.each found.place found.other found.here

      by_place : ((equal ≡ added) × (order ≡ found.other)) ⊎ ((equal ≡ found.other) × (order ≡ added)) → IsCrossing a c es equal order
      by_place (inl h) = record {
        equation = subst (IsCitable a c es) (sym h.0) cite;
        ordering = subst (IsCitable a c es) (sym h.1) other;
        part_is = found.between.0;
        orders_it = found.between.1;
      }
      by_place (inr h) = record {
        equation = subst (IsCitable a c es) (sym h.0) other;
        ordering = subst (IsCitable a c es) (sym h.1) cite;
        part_is = found.between.0;
        orders_it = found.between.1;
      }

  -- the negation of the equation ends the path
  pub crossed_ends : (equal order : Known) → x ≡ Crossed equal order → (es2 : List Entry) (n : ℕ) → HasNumber (question a c) cases es es2 n (negation (tree a equal.term)) → EndsNow a c cases es es2 (record { first = equal.fact; second = Some n })
  crossed_ends equal order e es2 n h =
      let k = crossing equal order e in
      let says : fact_of a equal ≡ tree a equal.term = ap (λ (p : Part). derivation.literal (tree a equal.term) p) k.part_is in
      record {
        ends = record {
          path = h.path;
          closes =
              ends_two (question a c) (facts_in (question a c) es2) equal.fact n (tree a equal.term) (negation (tree a equal.term))
              (number_stays (question a c) cases es es2 equal.fact n (tree a equal.term) (negation (tree a equal.term)) h (k.equation.number ∙ ap (λ (t : Term). Some t) says)) h.number
              (contrary_negation (tree a equal.term));
        };
        grown = h.grown;
      }
