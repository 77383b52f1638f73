-- The first terms of classes, one term after the other.
use Rattle.std.proofs.Common.{◌≡◌, ℕ, ◌+◌, ◌<◌, Bool, true, false, cond, List, [], ◌∷◌, ◌++◌, length, refl, sym, ap, ◌∙◌, subst, Option, Some, None, arith, inl, inr}
use Rattle.std.specs.Prelude.{slice_get, nat_eq}
use Rattle.std.proofs.lemmas.Bool.{cases_lt, false≢true}
use Rattle.std.proofs.lemmas.Bool.Decides.{nat_tests}
use Rattle.std.proofs.lemmas.List.{length_push}
use Rattle.std.proofs.lemmas.Option.{slice_get_within, same_Some}
use Rattle.spv_logic.specs.declared.conditions.TermId.{TermId}
use Rattle.spv_term.proofs.ListLemmas.{slice_get-append_left, slice_get_push}
use Rattle.spv_branch_theory.specs.model_construction.Firsts.{IsOneAt, IsFirstOne, AreFirsts, AreSeen, place_in, PutsPlace, IsFirstSeen, had, gets}

equal_of : (m n : ℕ) → nat_eq m n ≡ true → m ≡ n
equal_of m n h = grind (arith, nat_tests)

same_number : (n : ℕ) → nat_eq n n ≡ true
same_number n = grind (arith, nat_tests)

none_some : {A : Type 0} (o : Option A) (x : A) → o ≡ None → o ≡ Some x → ⊥
none_some o x e f = cc

pub record Firsting (label : TermId → ℕ) (ids : List TermId) (flags : List Bool) (count : ℕ) (entries : List (ℕ × ℕ)) (places : List ℕ) : Type 0 where
  pub seen : AreSeen label ids flags count entries
  pub firsts : AreFirsts label ids flags count places

pub starts : (label : TermId → ℕ) (ids : List TermId) (flags : List Bool) (entries : List (ℕ × ℕ)) (places : List ℕ) → entries ≡ [] → places ≡ [] → Firsting label ids flags 0 entries places
starts label ids flags entries places e f = record {
  seen = record {
    known = λ n k at. absurd (none_some (place_in entries n) k (ap (λ es. place_in es n) e) at);
    missing = λ n at k below one. absurd (omega (arith, below));
  };
  firsts = record { count_is = ap length f; each = λ i k t at_place at_id flagged. absurd (nothing i k (ap (λ ps. slice_get ps i) (sym f) ∙ at_place)) };
}
  where
    numbers : List ℕ
    numbers = []

    nothing : (i k : ℕ) → slice_get numbers i ≡ Some k → ⊥
    nothing i k h = cc

module _ (label : TermId → ℕ) (ids : List TermId) (flags : List Bool) (place : ℕ) (t : TermId) (here : slice_get ids place ≡ Some t) (entries : List (ℕ × ℕ)) (places : List ℕ) (h : Firsting label ids flags place entries places) where
  -- the label of a term that stands here
  label_here : (n : ℕ) → IsOneAt label ids flags n place → label t ≡ n
  label_here n one = ap label (same_Some t one.term (sym here ∙ one.there)) ∙ one.is

  push_firsts : (first : ℕ) (more : List ℕ) → more ≡ places ++ first ∷ [] → (slice_get flags place ≡ Some true → IsFirstOne label ids flags (label t) first) → AreFirsts label ids flags (place + 1) more
  push_firsts first more e is = record {
    count_is = let many = length_push places first in let same : length more ≡ length (places ++ first ∷ []) = ap length e in let old = h.firsts.count_is in omega (arith, many, same, old);
    each = λ i k u at_place at_id flagged. each i k u (ap (λ ps. slice_get ps i) (sym e) ∙ at_place) at_id flagged;
  }
    where
      each : (i k : ℕ) (u : TermId) → slice_get (places ++ first ∷ []) i ≡ Some k → slice_get ids i ≡ Some u → slice_get flags i ≡ Some true → IsFirstOne label ids flags (label u) k
      each i k u at_place at_id flagged = elim (cases_lt i (length places)) [
        | inl below ↦ h.firsts.each i k u (sym (slice_get-append_left places (first ∷ []) i below) ∙ at_place) at_id flagged
        | inr above ↦
            let inside = slice_get_within (places ++ first ∷ []) i k at_place in
            let many = length_push places first in
            let last : i ≡ length places = omega (arith, inside, many, above) in
            let is_place : i ≡ place = last ∙ h.firsts.count_is in
            let same_k : first ≡ k = same_Some first k (sym (slice_get_push places first) ∙ (ap (slice_get (places ++ first ∷ [])) (sym last) ∙ at_place)) in
            let same_t : t ≡ u = same_Some t u (sym here ∙ (ap (slice_get ids) (sym is_place) ∙ at_id)) in
            let found = is (ap (slice_get flags) (sym is_place) ∙ flagged) in
            subst (λ (m : ℕ). IsFirstOne label ids flags (label u) m) same_k (subst (λ (v : TermId). IsFirstOne label ids flags (label v) first) same_t found)
      ]

  -- what is missing behind this place too
  missing_on : (n : ℕ) → place_in entries n ≡ None → (IsOneAt label ids flags n place → ⊥) → (k : ℕ) → k < place + 1 → IsOneAt label ids flags n k → ⊥
  missing_on n at not_here k below one = elim (cases_lt k place) [
    | inl before ↦ h.seen.missing n at k before one
    | inr above ↦ let last : k ≡ place = omega (arith, below, above) in not_here (subst (λ (m : ℕ). IsOneAt label ids flags n m) last one)
  ]

  with_had : (first : ℕ) (after : List (ℕ × ℕ)) (more : List ℕ) → place_in entries (label t) ≡ Some first → after ≡ entries → more ≡ places ++ first ∷ [] → Firsting label ids flags (place + 1) after more
  with_had first after more at same e = subst (λ (es : List (ℕ × ℕ)). Firsting label ids flags (place + 1) es more) (sym same) (record {
    seen = record {
      known = h.seen.known;
      missing = λ n none. missing_on n none (λ one. none_some (place_in entries n) first none (ap (place_in entries) (sym (label_here n one)) ∙ at));
    };
    firsts = push_firsts first more e (λ flagged. h.seen.known (label t) first at);
  })

  first_here : place_in entries (label t) ≡ None → slice_get flags place ≡ Some true → IsFirstOne label ids flags (label t) place
  first_here none flagged = record { one = record { term = t; there = here; flagged = flagged; is = refl }; none = λ k below one. h.seen.missing (label t) none k below one }

  with_new : (first : ℕ) (after : List (ℕ × ℕ)) (more : List ℕ) → slice_get flags place ≡ Some true → place_in entries (label t) ≡ None → first ≡ place → PutsPlace (label t) place entries after → more ≡ places ++ first ∷ [] → Firsting label ids flags (place + 1) after more
  with_new first after more flagged none is puts e = record {
    seen = record { known = known; missing = missing };
    firsts = push_firsts first more e (λ f. subst (λ (m : ℕ). IsFirstOne label ids flags (label t) m) (sym is) (first_here none flagged));
  }
    where
      known : (n k : ℕ) → place_in after n ≡ Some k → IsFirstOne label ids flags n k
      known n k at = by_case (nat_eq (label t) n) refl (sym (puts.get n) ∙ at)
        where
          by_case : (b : Bool) → nat_eq (label t) n ≡ b → cond b (Some place) (place_in entries n) ≡ Some k → IsFirstOne label ids flags n k
          by_case true same f =
              subst (λ (m : ℕ). IsFirstOne label ids flags n m) (same_Some place k f) (subst (λ (m : ℕ). IsFirstOne label ids flags m place) (equal_of (label t) n same) (first_here none flagged))
          by_case false same f = h.seen.known n k f

      missing : (n : ℕ) → place_in after n ≡ None → (k : ℕ) → k < place + 1 → IsOneAt label ids flags n k → ⊥
      missing n at = by_case (nat_eq (label t) n) refl (sym (puts.get n) ∙ at)
        where
          other : (m : ℕ) → nat_eq (label t) m ≡ false → label t ≡ m → ⊥
          other m differs same = false≢true (sym differs ∙ (ap (nat_eq (label t)) (sym same) ∙ same_number (label t)))

          by_case : (b : Bool) → nat_eq (label t) n ≡ b → cond b (Some place) (place_in entries n) ≡ None → (k : ℕ) → k < place + 1 → IsOneAt label ids flags n k → ⊥
          by_case true same f = absurd (none_some (Some place) place f refl)
          by_case false same f = missing_on n f (λ one. other n same (label_here n one))

  with_none : (first : ℕ) (after : List (ℕ × ℕ)) (more : List ℕ) → (slice_get flags place ≡ Some true → ⊥) → after ≡ entries → more ≡ places ++ first ∷ [] → Firsting label ids flags (place + 1) after more
  with_none first after more unflagged same e = subst (λ (es : List (ℕ × ℕ)). Firsting label ids flags (place + 1) es more) (sym same) (record {
    seen = record { known = h.seen.known; missing = λ n none. missing_on n none (λ one. unflagged one.flagged) };
    firsts = push_firsts first more e (λ flagged. absurd (unflagged flagged));
  })

  pub one_more : (flag : Bool) → slice_get flags place ≡ Some flag → (first : ℕ) (after : List (ℕ × ℕ)) (more : List ℕ) → (flag ≡ true → IsFirstSeen (label t) place entries after first) → (flag ≡ false → after ≡ entries) → more ≡ places ++ first ∷ []
      → Firsting label ids flags (place + 1) after more
  one_more true at first after more is other e = by_seen (is refl)
    where
      by_seen : IsFirstSeen (label t) place entries after first → Firsting label ids flags (place + 1) after more
      by_seen (had f same) = with_had first after more f same e
      by_seen (gets none same puts) = with_new first after more at none same puts e
  one_more false at first after more is other e = with_none first after more (λ f. false≢true (same_Some false true (sym at ∙ f))) (other refl) e
