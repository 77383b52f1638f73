-- A fact becomes known.
use Rattle.std.proofs.Common.{◌≡◌, ℕ, Bool, true, false, List, [], ◌∷◌, ◌++◌, refl, sym, ap, ◌∙◌, subst, Option, Some, None}
use mathlib.Core.List.{append_assoc}
use Rattle.spv_logic.specs.declared.conditions.TermId.{TermId}
use Rattle.spv_logic.specs.Terms.{Term}
use Rattle.spv_term.specs.declared.nodes.Condition.{Condition}
use Rattle.spv_term.specs.Arena.{Arena, tree}
use Rattle.spv_proof_rules.specs.Evaluation.{cites}
use Rattle.spv_proof_rules.specs.Effects.{numbered}
use Rattle.spv_proof_rules.specs.Stand.{question}
use Rattle.spv_tableau_rules.specs.constraints.Sayings.{literal}
use Rattle.spv_derivations.specs.declared.derivation.entries.Part.{Part}
use Rattle.spv_derivations.specs.declared.derivation.entries.Entry.{Entry}
use Rattle.spv_derivations.specs.derivation.Derivation as derivation
use Rattle.spv_derivations.specs.derivation.Derivation.{PartFits}
use Rattle.spv_derivations.specs.derivation.Literals.{Literal}
use Rattle.spv_derivations.specs.branches.Paths.{facts_in, IsGrown}
use Rattle.spv_assignments.specs.declared.polarity.saying.Standing.{Standing}
use Rattle.spv_assignments.specs.polarity.Standings.{IsStanding}
use Rattle.spv_assignments.specs.declared.partial_assignment.facts.Known.{Known}
use Rattle.spv_assignments.specs.partial_assignment.Facts.{fact_of, facts_of}
use Rattle.spv_assignments.proofs.partial_assignment.Told.{facts_are_true}
use Rattle.spv_assignments.proofs.monotonicity.Valued.{literals_give_values}
use Rattle.spv_decisions.specs.literal_lookup.Clashes.{clash, NoneClashes}
use Rattle.spv_trail.specs.trail_states.Told.{IsFounded, IsOrderToldIn, IsStored, values_of}
use Rattle.spv_trail.proofs.trail_states.RowConstraint.{from_found}
use Rattle.spv_trail.proofs.trail_states.Growing.{IsUnrefuted, stored_longer, stored_known, values_keep, cited_now}
use Rattle.spv_trail.specs.asserted_steps.Steps.{HasNumber}
use Rattle.spv_trail.specs.declared.propagation.ending.End.{End}
use Rattle.spv_trail.specs.propagation.Learning.{part_of, is_refuted, ContradictsIf, EndsNow, HasLearned, IsCitable, MayCite, MayLearn}
use Rattle.spv_trail.proofs.propagation.Citing.{all_cite_more, stored_citable}
use Rattle.spv_trail.proofs.propagation.Cores.{core_formula, core_says, standing_truth}
use Rattle.spv_trail.proofs.trail_states.Growing.{formula_truth}

-- ---- a part that is a truth

pub literal_part : (b : Bool) (t : Term) → derivation.literal t (part_of b) ≡ literal b t
literal_part true t = refl
literal_part false t = refl

pub fits_part : (a : Arena) (t : TermId) (b : Bool) → PartFits a t (part_of b)
fits_part a t true = tt
fits_part a t false = tt

ordered_part : (a : Arena) (ls : List Literal) (t : TermId) (b : Bool) → IsOrderToldIn a ls t (part_of b)
ordered_part a ls t true = tt
ordered_part a ls t false = tt

unrefuted_part : (a : Arena) (t : TermId) (b : Bool) → IsUnrefuted a t (part_of b)
unrefuted_part a t true = tt
unrefuted_part a t false = tt

-- ---- a fact that contradicts none

pub quiet_among : (a : Arena) (ks : List Known) (k : Known) → NoneClashes a ks k → (t : Term) → cites (facts_of a ks) t ≡ true → clash (fact_of a k) t ≡ false
quiet_among a ks k none t m = let f = from_found (fact_of a) ks t m in subst (λ (g : Term). clash (fact_of a k) g ≡ false) f.is (none.each f.place f.item f.there)

pub grown_then : (es mid new : List Entry) → IsGrown es mid → IsGrown mid new → IsGrown es new
grown_then es mid new g h = record { more = g.more ++ h.more; is = h.is ∙ (ap (λ xs. xs ++ h.more) g.is ∙ append_assoc es g.more h.more) }

-- ---- learning

module _ (a : Arena) (c : Condition) (falsity : TermId) (cases : List Term) (es mid : List Entry) (ks : List Known) (ls : List Literal) (t : TermId) (truth : Bool) (number : ℕ) (s : Standing) (n : ℕ)
    (may : MayLearn a c falsity cases es ks ls t truth number) (st : IsStanding a t truth s) (h : HasNumber (question a c) cases es mid n (literal s.truth (tree a s.core))) where
  -- what is known of the core
  abbrev core_fact : Known
  core_fact = record { term = s.core; part = part_of s.truth; fact = n }

  says : fact_of a core_fact ≡ literal s.truth (tree a s.core)
  says = literal_part s.truth (tree a s.core)

  founded : IsFounded a (question a c) ls core_fact
  founded = record {
    within = st.inside;
    bare = st.bare;
    formula = core_formula a c may.formulas t truth s st may.formula;
    fits = fits_part a s.core s.truth;
    order = ordered_part a ls s.core s.truth;
  }

  here : numbered (facts_in (question a c) mid) n ≡ Some (fact_of a core_fact)
  here = h.number ∙ ap (λ (f : Term). Some f) (sym says)

  pub core_citable : IsCitable a c mid core_fact
  core_citable = record { number = here; truth = standing_truth a t truth s st (formula_truth (question a c) may.formulas (tree a t) may.formula) }

  pub learned : (ks2 : List Known) → NoneClashes a ks core_fact → ks2 ≡ ks ++ core_fact ∷ [] → HasLearned a c cases ls es mid ks ks2 (literal truth (tree a t))
  learned ks2 none grows = record {
    path = h.path;
    stored = subst (λ (xs : List Known). IsStored a c mid xs ls) (sym grows) stored_now;
    grown = h.grown;
    longer = record { more = core_fact ∷ []; is = grows };
    keeps = λ u b e. ap (λ (xs : List Known). values_of a xs u) grows ∙ values_keep a c may.formulas ls core_fact founded ks may.stored.knowledge may.stored.uncrossed quiet unrefuted u b e;
    true_now = ap (λ (xs : List Known). values_of a xs (literal truth (tree a t))) grows ∙ core_says a (facts_of a (ks ++ core_fact ∷ [])) t truth s st known_now;
  }
    where
      quiet : (u : Term) → cites (facts_of a ks) u ≡ true → clash (fact_of a core_fact) u ≡ false
      quiet = quiet_among a ks core_fact none

      unrefuted : IsUnrefuted a s.core (part_of s.truth)
      unrefuted = unrefuted_part a s.core s.truth

      stored_now : IsStored a c mid (ks ++ core_fact ∷ []) ls
      stored_now = stored_known a c may.formulas ls core_fact founded mid ks (stored_longer a c es mid ks ls h.more h.facts_are may.stored) here quiet unrefuted

      cited : cites (facts_of a (ks ++ core_fact ∷ [])) (fact_of a core_fact) ≡ true
      cited = cited_now a c may.formulas ls core_fact founded ks may.stored.knowledge may.stored.uncrossed quiet unrefuted

      known_now : values_of a (ks ++ core_fact ∷ []) (tree a s.core) ≡ Some s.truth
      known_now =
          literals_give_values (facts_of a (ks ++ core_fact ∷ [])) (tree a s.core) s.truth
          (ap (values_of a (ks ++ core_fact ∷ [])) (sym says) ∙ facts_are_true (facts_of a (ks ++ core_fact ∷ [])) stored_now.knowledge.literals (fact_of a core_fact) cited)

  -- the path ends
  pub ended : (es2 : List Entry) (e : End) → (MayCite a c falsity cases mid ks → IsCitable a c mid core_fact → EndsNow a c cases mid es2 e) → EndsNow a c cases es es2 e
  ended es2 e ends =
      let now = ends (record { falsity_is = may.falsity_is; path = h.path; citable = all_cite_more a c es mid h.more ks h.facts_are (stored_citable a c es ks ls may.formulas may.stored) }) core_citable in
      record { ends = now.ends; grown = grown_then es mid es2 h.grown now.grown }

-- ---- what a new fact contradicts

pub contradicts_some : (a : Arena) (c : Condition) (falsity : TermId) (ks : List Known) (k : Known) (old new : List Entry) (o : Option End) (e : End) → o ≡ Some e → ContradictsIf a c falsity ks k old new o
    → (cs : List Term) → MayCite a c falsity cs old ks → IsCitable a c old k → EndsNow a c cs old new e
contradicts_some a c falsity ks k old new o e is h = subst (λ (x : Option End). ContradictsIf a c falsity ks k old new x) is h

pub contradicts_none : (a : Arena) (c : Condition) (falsity : TermId) (ks : List Known) (k : Known) (old new : List Entry) (o : Option End) → o ≡ None → ContradictsIf a c falsity ks k old new o
    → (NoneClashes a ks k × (is_refuted (fact_of a k) ≡ false)) × (new ≡ old)
contradicts_none a c falsity ks k old new o is h = subst (λ (x : Option End). ContradictsIf a c falsity ks k old new x) is h

-- what comes of a new fact of a core: it is learned, or the path ends
module _ (a : Arena) (c : Condition) (falsity : TermId) (cases : List Term) (es mid es2 : List Entry) (ks : List Known) (ls : List Literal) (t : TermId) (truth : Bool) (number : ℕ) (s : Standing) (n : ℕ) (p : Part) (is : p ≡ part_of s.truth)
    (st : IsStanding a t truth s) (numbers : MayLearn a c falsity cases es ks ls t truth number → HasNumber (question a c) cases es mid n (literal s.truth (tree a s.core))) (may : MayLearn a c falsity cases es ks ls t truth number) where
  abbrev fact_by : Part → Known
  fact_by q = record { term = s.core; part = q; fact = n }

  pub learned_by : (ks2 : List Known) → NoneClashes a ks (fact_by p) → ks2 ≡ ks ++ fact_by p ∷ [] → es2 ≡ mid → HasLearned a c cases ls es es2 ks ks2 (literal truth (tree a t))
  learned_by ks2 none grows same =
      subst (λ (xs : List Entry). HasLearned a c cases ls es xs ks ks2 (literal truth (tree a t))) (sym same)
      (learned a c falsity cases es mid ks ls t truth number s n may st (numbers may) ks2 (subst (λ (q : Part). NoneClashes a ks (fact_by q)) is none) (subst (λ (q : Part). ks2 ≡ ks ++ fact_by q ∷ []) is grows))

  pub ended_by : (e : End) → ((cs : List Term) → MayCite a c falsity cs mid ks → IsCitable a c mid (fact_by p) → EndsNow a c cs mid es2 e) → EndsNow a c cases es es2 e
  ended_by e ends = ended a c falsity cases es mid ks ls t truth number s n may st (numbers may) es2 e (λ m k. ends cases m (subst (λ (q : Part). IsCitable a c mid (fact_by q)) (sym is) k))
