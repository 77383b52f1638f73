-- Facts that come one behind the other.
use Rattle.std.proofs.Common.{◌≡◌, ℕ, zero, suc, ◌+◌, ◌<◌, ◌≤◌, List, [], ◌∷◌, ◌++◌, take, length, refl, sym, ap, ◌∙◌, subst, Some, arith, inl, inr}
use Rattle.std.specs.Prelude.{slice_get}
use Rattle.std.proofs.lemmas.Bool.{cases_lt}
use Rattle.std.proofs.lemmas.List.{length_push}
use Rattle.std.proofs.lemmas.Option.{slice_get_within, same_Some}
use Rattle.spv_logic.specs.declared.conditions.TermId.{TermId}
use Rattle.spv_logic.specs.Terms.{Term}
use Rattle.spv_term.proofs.ListLemmas.{slice_get-append_left, slice_get_push, slice_get-take}
use Rattle.spv_atoms.specs.declared.proofs.Step.{Step}
use Rattle.spv_proof_rules.specs.Effects.{Question, Effect, Adds, effect, numbered}
use Rattle.spv_derivations.specs.declared.derivation.entries.Part.{Part}
use Rattle.spv_derivations.specs.declared.derivation.entries.Entry.{Entry}
use Rattle.spv_derivations.specs.declared.derivation.entries.Entry.TheVariants.{Told, Derived}
use Rattle.spv_derivations.specs.derivation.Derivation.{added_by, literal}
use Rattle.spv_derivations.proofs.derivation.Growth.{numbered-more, numbered-push}
use Rattle.spv_derivations.specs.branches.Paths.{fact_in, facts_from, facts_in, Follow, AreCases, AreSearchSteps, IsPath, IsSearchStep}
use Rattle.spv_derivations.specs.branches.Laws.{GoesOn}

abbrev entries_of : List Entry → List Entry
entries_of es = es

search-append : (es more : List Entry) → AreSearchSteps es → AreSearchSteps more → AreSearchSteps (es ++ more)
search-append [] more h k = k
search-append (e ∷ es) more h k = (h.0, search-append es more h.1 k)

search-take : (es : List Entry) (count : ℕ) → AreSearchSteps es → AreSearchSteps (take count es)
search-take [] zero h = tt
search-take [] (suc count) h = tt
search-take (e ∷ es) zero h = tt
search-take (e ∷ es) (suc count) h = (h.0, search-take es count h.1)

module _ (q : Question) where
  facts-append : (before : List Term) (es more : List Entry) → facts_from q before (es ++ more) ≡ facts_from q (facts_from q before es) more
  facts-append before [] more = refl
  facts-append before (e ∷ es) more = facts-append (before ++ fact_in q before e ∷ []) es more

  pub follow-append : (before : List Term) (es more : List Entry) → Follow q before es → Follow q (facts_from q before es) more → Follow q before (es ++ more)
  follow-append before [] more h k = k
  follow-append before (e ∷ es) more h k = (h.0, follow-append (before ++ fact_in q before e ∷ []) es more h.1 k)

  follow-take : (before : List Term) (es : List Entry) (count : ℕ) → Follow q before es → Follow q before (take count es)
  follow-take before [] zero h = tt
  follow-take before [] (suc count) h = tt
  follow-take before (e ∷ es) zero h = tt
  follow-take before (e ∷ es) (suc count) h = (h.0, follow-take (before ++ fact_in q before e ∷ []) es count h.1)

  no_entry : (i : ℕ) (e : Entry) → slice_get (entries_of []) i ≡ Some e → ⊥
  no_entry i e h = cc

  pub begins : IsPath q [] []
  begins = record { follow = tt; steps = tt; cases_are = record { each = λ i t part why at. absurd (no_entry i (Told t part why) at) } }

  -- one entry more, where it is a case if it is told
  cases-push : (cases : List Term) (es : List Entry) (e : Entry) → AreCases q cases es → ((t : TermId) (part : Part) (why : ℕ) → e ≡ Told t part why → numbered cases why ≡ Some (literal (q.at t) part)) → AreCases q cases (es ++ e ∷ [])
  cases-push cases es e h k = record { each = each }
    where
      each : (i : ℕ) (t : TermId) (part : Part) (why : ℕ) → slice_get (es ++ e ∷ []) i ≡ Some (Told t part why) → numbered cases why ≡ Some (literal (q.at t) part)
      each i t part why at = elim (cases_lt i (length es)) [
        | inl below ↦ h.each i t part why (sym (slice_get-append_left es (e ∷ []) i below) ∙ at)
        | inr above ↦
            let inside = slice_get_within (es ++ e ∷ []) i (Told t part why) at in
            let many = length_push es e in
            let last : i ≡ length es = omega (arith, inside, many, above) in
            k t part why (same_Some e (Told t part why) (sym (slice_get_push es e) ∙ (ap (slice_get (es ++ e ∷ [])) (sym last) ∙ at)))
      ]

  cases-more : (cases more : List Term) (es : List Entry) → AreCases q cases es → AreCases q (cases ++ more) es
  cases-more cases more es h = record { each = λ i t part why at. numbered-more cases more why (literal (q.at t) part) (h.each i t part why at) }

  told_same : (t u : TermId) (p r : Part) (m n : ℕ) → Told t p m ≡ Told u r n → (t ≡ u) × (p ≡ r) × (m ≡ n)
  told_same t u p r m n e = let one : t ≡ u = cc in let two : p ≡ r = cc in let three : m ≡ n = cc in (one, two, three)

  pub case_behind : (cases : List Term) (es : List Entry) (t : TermId) (part : Part) → IsPath q cases es → GoesOn q (cases ++ literal (q.at t) part ∷ []) es (es ++ Told t part (length cases + 1) ∷ []) (literal (q.at t) part)
  case_behind cases es t part h = record {
    path = record {
      follow = follow-append [] es (Told t part (length cases + 1) ∷ []) h.follow (tt, tt);
      steps = search-append es (Told t part (length cases + 1) ∷ []) h.steps (tt, tt);
      cases_are = cases-push (cases ++ literal (q.at t) part ∷ []) es (Told t part (length cases + 1)) (cases-more cases (literal (q.at t) part ∷ []) es h.cases_are) last;
    };
    facts_are = facts-append [] es (Told t part (length cases + 1) ∷ []);
  }
    where
      last : (u : TermId) (r : Part) (why : ℕ) → Told t part (length cases + 1) ≡ Told u r why → numbered (cases ++ literal (q.at t) part ∷ []) why ≡ Some (literal (q.at u) r)
      last u r why e =
          let same = told_same t u part r (length cases + 1) why e in
          subst (λ (v : TermId). numbered (cases ++ literal (q.at t) part ∷ []) why ≡ Some (literal (q.at v) r)) same.0
          (subst (λ (p : Part). numbered (cases ++ literal (q.at t) part ∷ []) why ≡ Some (literal (q.at t) p)) same.1
          (numbered-push cases (literal (q.at t) part) why (sym same.2)))

  no_told : (s : Step) (t : TermId) (part : Part) (why : ℕ) → Derived s ≡ Told t part why → ⊥
  no_told s t part why e = cc

  pub step_behind : (cases : List Term) (es : List Entry) (s : Step) (t : Term) → IsPath q cases es → IsSearchStep s → effect q (facts_in q es) s ≡ Adds t → GoesOn q cases es (es ++ Derived s ∷ []) t
  step_behind cases es s t h own adds = record {
    path = record {
      follow = follow-append [] es (Derived s ∷ []) h.follow ((t, adds), tt);
      steps = search-append es (Derived s ∷ []) h.steps (own, tt);
      cases_are = cases-push cases es (Derived s) h.cases_are (λ u part why e. absurd (no_told s u part why e));
    };
    facts_are = facts-append [] es (Derived s ∷ []) ∙ ap (λ (x : Effect). facts_in q es ++ added_by x ∷ []) adds;
  }

  -- the first facts, with the first cases
  front_numbered : (cases more : List Term) (n : ℕ) (t : Term) → n ≤ length cases → numbered (cases ++ more) n ≡ Some t → numbered cases n ≡ Some t
  front_numbered cases more zero t h e = e
  front_numbered cases more (suc n) t h e = sym (slice_get-append_left cases more n (omega (arith, h))) ∙ e

  take-at : (es : List Entry) (i count : ℕ) (e : Entry) → slice_get (take count es) i ≡ Some e → (i < count) × (slice_get es i ≡ Some e)
  take-at es i count e at = elim (cases_lt i count) [
    | inl below ↦ (below, sym (slice_get-take es i count below) ∙ at)
    | inr above ↦ absurd (past es i count above at)
  ]
    where
      past : (xs : List Entry) (j n : ℕ) → n ≤ j → slice_get (take n xs) j ≡ Some e → ⊥
      past [] j zero h f = cc
      past [] j (suc n) h f = cc
      past (x ∷ xs) j zero h f = cc
      past (x ∷ xs) zero (suc n) h f = omega (arith, h)
      past (x ∷ xs) (suc j) (suc n) h f = past xs j n (omega (arith, h)) f

  pub first_path : (cases more : List Term) (es : List Entry) (count : ℕ) → IsPath q (cases ++ more) es
      → ((i : ℕ) (t : TermId) (part : Part) (why : ℕ) → i < count → slice_get es i ≡ Some (Told t part why) → why ≤ length cases) → IsPath q cases (take count es)
  first_path cases more es count h own = record {
    follow = follow-take [] es count h.follow;
    steps = search-take es count h.steps;
    cases_are = record {
      each = λ i t part why at.
          let k = take-at es i count (Told t part why) at in
          front_numbered cases more why (literal (q.at t) part) (own i t part why k.0 k.1) (h.cases_are.each i t part why k.1);
    };
  }
