-- Derivations that go on, that are taken back, and over arenas that grow.
use Rattle.std.proofs.Common.{◌≡◌, ℕ, zero, suc, ◌+◌, ◌<◌, true, false, ◌&&◌, List, [], ◌∷◌, ◌++◌, take, length, Some, None, slice_get, if◌then◌else◌, refl, sym, ap, ◌∙◌, subst, arith}
use Rattle.std.proofs.lemmas.List.{append_assoc, length_push}
use Rattle.std.proofs.lemmas.Option.{slice_get_within}
use Rattle.spv_logic.specs.declared.conditions.TermId.{TermId}
use Rattle.spv_logic.specs.Terms.{Term}
use Rattle.spv_term.specs.Arena.{Arena, Extends}
use Rattle.spv_term.proofs.ListLemmas.{slice_get-append_left, slice_get_push}
use Rattle.spv_term.proofs.ArenaLemmas.{tree-Extends}
use Rattle.spv_atoms.specs.Atoms as atoms
use Rattle.spv_atoms.specs.declared.proofs.Step.{Step}
use Rattle.spv_proof_rules.specs.Evaluation.{sides}
use Rattle.spv_proof_rules.specs.Effects.{numbered}
use Rattle.spv_proof_rules.proofs.Staying.{below-Extends, StepIn-Extends, effect-Extends}
use Rattle.spv_derivations.specs.declared.derivation.entries.Part.{Part}
use Rattle.spv_derivations.specs.declared.derivation.entries.Part.TheVariants.{True, False, Below, Above}
use Rattle.spv_derivations.specs.declared.derivation.entries.Entry.{Entry}
use Rattle.spv_derivations.specs.declared.derivation.entries.Entry.TheVariants.{Told, Derived}
use Rattle.spv_derivations.specs.derivation.Derivation.{Adding, Follow, Gains, IsComparison, IsDerivation, MayFollow, PartFits, added_by, any_sequent, are_numbers, asked, fact_at, fact_of, facts, facts_from, literal}
use Rattle.spv_derivations.specs.derivation.Laws.{Stays}

-- ---- numbers

pub numbered-more : (xs ys : List Term) (n : ℕ) (t : Term) → numbered xs n ≡ Some t → numbered (xs ++ ys) n ≡ Some t
numbered-more xs ys zero t h = absurd (cc)
numbered-more xs ys (suc k) t h = let within = slice_get_within xs k t h in slice_get-append_left xs ys k within ∙ h

pub numbered-push : (xs : List Term) (t : Term) (n : ℕ) → n ≡ length xs + 1 → numbered (xs ++ t ∷ []) n ≡ Some t
numbered-push xs t zero e = absurd (omega arith)
numbered-push xs t (suc k) e =
    let at : k ≡ length xs = omega arith in
    ap (slice_get (xs ++ t ∷ [])) at ∙ slice_get_push xs t

-- ---- entries that come behind

module _ (a : Arena) where
  pub facts_from-append : (before : List Term) (es more : List Entry) → facts_from a before (es ++ more) ≡ facts_from a (facts_from a before es) more
  facts_from-append before [] more = refl
  facts_from-append before (e ∷ es) more = facts_from-append (before ++ fact_of a before e ∷ []) es more

  pub length-facts_from : (before : List Term) (es : List Entry) → length (facts_from a before es) ≡ length before + length es
  length-facts_from before [] = omega arith
  length-facts_from before (e ∷ es) =
      let rest = length-facts_from (before ++ fact_of a before e ∷ []) es in
      let one = length_push before (fact_of a before e) in
      omega arith

  pub facts-length : (es : List Entry) → length (facts a es) ≡ length es
  facts-length es = let h = length-facts_from [] es in omega arith

  pub facts_from-keeps : (before : List Term) (es : List Entry) (n : ℕ) (t : Term) → numbered before n ≡ Some t → numbered (facts_from a before es) n ≡ Some t
  facts_from-keeps before [] n t h = h
  facts_from-keeps before (e ∷ es) n t h = facts_from-keeps (before ++ fact_of a before e ∷ []) es n t (numbered-more before (fact_of a before e ∷ []) n t h)

  -- facts stay
  pub fact_at-more : (es more : List Entry) (n : ℕ) (t : Term) → fact_at a es n ≡ Some t → fact_at a (es ++ more) n ≡ Some t
  fact_at-more es more n t h = ap (λ ts. numbered ts n) (facts_from-append [] es more) ∙ facts_from-keeps (facts a es) more n t h

  -- the last fact
  pub fact_at-last : (es : List Entry) (e : Entry) (n : ℕ) → n ≡ length es + 1 → fact_at a (es ++ e ∷ []) n ≡ Some (fact_of a (facts a es) e)
  fact_at-last es e n at =
      ap (λ ts. numbered ts n) (facts_from-append [] es (e ∷ []))
      ∙ numbered-push (facts a es) (fact_of a (facts a es) e) n (let h = facts-length es in omega arith)

  follow-push : (before : List Term) (es : List Entry) (e : Entry) → Follow a before es → MayFollow a (facts_from a before es) e → Follow a before (es ++ e ∷ [])
  follow-push before [] e f m = (m, tt)
  follow-push before (x ∷ es) e f m = (f.0, follow-push (before ++ fact_of a before x ∷ []) es e f.1 m)

  follow-take : (before : List Term) (es : List Entry) (n : ℕ) → Follow a before es → Follow a before (take n es)
  follow-take before [] zero f = tt
  follow-take before [] (suc n) f = tt
  follow-take before (x ∷ es) zero f = tt
  follow-take before (x ∷ es) (suc n) f = (f.0, follow-take (before ++ fact_of a before x ∷ []) es n f.1)

  pub derivation-push : (es : List Entry) (e : Entry) → IsDerivation a es → MayFollow a (facts a es) e → IsDerivation a (es ++ e ∷ [])
  derivation-push es e f m = record { follow = follow-push [] es e f.follow m }

  -- the first entries of a derivation are one
  pub derivation-take : (es : List Entry) (n : ℕ) → IsDerivation a es → IsDerivation a (take n es)
  derivation-take es n f = record { follow = follow-take [] es n f.follow }

  pub gains-push : (old new : List Entry) (e : Entry) (n : ℕ) (t : Term) → new ≡ old ++ e ∷ [] → n ≡ length new → IsDerivation a old → MayFollow a (facts a old) e → fact_of a (facts a old) e ≡ t
      → Gains a old new n t
  gains-push old new e n t is at f m same = record {
    more = e ∷ [];
    goes_on = is;
    derivation = subst (λ es. IsDerivation a es) (sym is) (derivation-push old e f m);
    fact = ap (λ es. fact_at a es n) is ∙ fact_at-last old e n (at ∙ ap length is ∙ length_push old e) ∙ ap Some same;
  }

  -- what a step adds
  pub adding-fact : (before : List Term) (s : Step) (t : Term) → Adding a before s t → fact_of a before (Derived s) ≡ t
  adding-fact before s t h = ap added_by (h.adds any_sequent)

  pub gains-derived : (old new : List Entry) (s : Step) (n : ℕ) (t : Term) → new ≡ old ++ Derived s ∷ [] → n ≡ length new → IsDerivation a old → Adding a (facts a old) s t → Gains a old new n t
  gains-derived old new s n t is at f h = gains-push old new (Derived s) n t is at f (t, h) (adding-fact (facts a old) s t h)

  -- one gain after another
  pub gains-then : (es more all : List Entry) (k n : ℕ) (s t : Term) → Gains a es more k s → Gains a more all n t → Gains a es all n t
  gains-then es more all k n s t g h = record {
    more = g.more ++ h.more;
    goes_on = h.goes_on ∙ ap (λ xs. xs ++ h.more) g.goes_on ∙ append_assoc es g.more h.more;
    derivation = h.derivation;
    fact = h.fact;
  }

  pub gains-keeps : (old new : List Entry) (n k : ℕ) (t u : Term) → Gains a old new n t → fact_at a old k ≡ Some u → fact_at a new k ≡ Some u
  gains-keeps old new n k t u g h = ap (λ es. fact_at a es k) g.goes_on ∙ fact_at-more old g.more k u h

-- ---- arenas that grow

module _ {old new : Arena} (more : Extends old new) where
  comparison-Extends : (t : TermId) → t.0 < length old.nodes → IsComparison old t → IsComparison new t
  comparison-Extends t h p = (λ i. are_numbers (atoms.is_number (more.shapes i) (more.decls i)) (sides (tree-Extends more t h i))) ∙ p

  part-Extends : (t : TermId) (p : Part) → t.0 < length old.nodes → PartFits old t p → PartFits new t p
  part-Extends t True h f = tt
  part-Extends t False h f = tt
  part-Extends t Below h f = comparison-Extends t h f
  part-Extends t Above h f = comparison-Extends t h f

  adding-Extends : (before : List Term) (s : Step) (t : Term) → Adding old before s t → Adding new before s t
  adding-Extends before s t h = record { terms = StepIn-Extends more s h.terms; adds = λ c. effect-Extends more c c refl [] before s h.terms ∙ h.adds c }

  may_follow-Extends : (before : List Term) (e : Entry) → MayFollow old before e → MayFollow new before e
  may_follow-Extends before (Told t part why) h = (below-Extends more t.0 h.0, part-Extends t part h.0 h.1)
  may_follow-Extends before (Derived s) h = (h.0, adding-Extends before s h.0 h.1)

  fact-Extends : (before : List Term) (e : Entry) → MayFollow old before e → fact_of new before e ≡ fact_of old before e
  fact-Extends before (Told t part why) h = ap (λ x. literal x part) (tree-Extends more t h.0)
  fact-Extends before (Derived s) h = ap added_by (effect-Extends more any_sequent any_sequent refl [] before s h.1.terms)

  follow-Extends : (before : List Term) (es : List Entry) → Follow old before es → Follow new before es
  follow-Extends before [] f = tt
  follow-Extends before (e ∷ es) f =
      (may_follow-Extends before e f.0, subst (λ t. Follow new (before ++ t ∷ []) es) (sym (fact-Extends before e f.0)) (follow-Extends (before ++ fact_of old before e ∷ []) es f.1))

  facts-Extends : (before : List Term) (es : List Entry) → Follow old before es → facts_from new before es ≡ facts_from old before es
  facts-Extends before [] f = refl
  facts-Extends before (e ∷ es) f =
      ap (λ t. facts_from new (before ++ t ∷ []) es) (fact-Extends before e f.0) ∙ facts-Extends (before ++ fact_of old before e ∷ []) es f.1

  -- a derivation stays one, with the same facts
  pub derivation-Extends : (es : List Entry) → IsDerivation old es → Stays old new es
  derivation-Extends es f = record { derivation = record { follow = follow-Extends [] es f.follow }; facts_same = facts-Extends [] es f.follow }
