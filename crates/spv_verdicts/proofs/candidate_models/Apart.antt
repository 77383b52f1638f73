-- Loops over entries.
use Rattle.std.proofs.Common.{◌≡◌, ℕ, ◌+◌, ◌<◌, ◌≤◌, Bool, true, false, List, length, get_or, sym, ap, ◌∙◌, subst, Some, arith, inl, inr}
use Rattle.std.specs.Prelude.{slice_get}
use Rattle.std.proofs.lemmas.Bool.{cases_lt}
use Rattle.std.proofs.lemmas.Option.{slice_get-get_or, slice_get_within, same_Some}
use Rattle.spv_whole.specs.Fraction.{Fraction}
use Rattle.spv_logic.specs.declared.conditions.TermId.{TermId}
use Rattle.spv_term.specs.Arena.{Arena}
use Rattle.spv_verdicts.specs.candidate_models.Trying.{AreNotApart, AreTruthful, IsApartFromNone, are_apart, entry_at, is_truthful}

-- ---- entries that are not apart

pub apart_from_nothing : (a : Arena) (pairs : List (TermId × Fraction)) (keys : List (List Fraction)) (i : ℕ) → IsApartFromNone a pairs keys i 0
apart_from_nothing a pairs keys i = record { each = λ j below. absurd (omega (arith, below)) }

pub apart_from_one : (a : Arena) (pairs : List (TermId × Fraction)) (keys : List (List Fraction)) (i n : ℕ) → IsApartFromNone a pairs keys i n → are_apart a (entry_at pairs keys i) (entry_at pairs keys n) ≡ false → IsApartFromNone a pairs keys i (n + 1)
apart_from_one a pairs keys i n h k = record { each = each }
  where
    each : (j : ℕ) → j < n + 1 → are_apart a (entry_at pairs keys i) (entry_at pairs keys j) ≡ false
    each j below = elim (cases_lt j n) [
      | inl l ↦ h.each j l
      | inr l ↦
          let last : n ≡ j = omega (arith, below, l) in
          subst (λ (m : ℕ). are_apart a (entry_at pairs keys i) (entry_at pairs keys m) ≡ false) last k
    ]

pub apart_from_all : (a : Arena) (pairs : List (TermId × Fraction)) (keys : List (List Fraction)) (i n : ℕ) → i ≤ n → IsApartFromNone a pairs keys i n → IsApartFromNone a pairs keys i i
apart_from_all a pairs keys i n past h = record { each = λ j below. h.each j (omega (arith, below, past)) }

pub none_apart : (a : Arena) (pairs : List (TermId × Fraction)) (keys : List (List Fraction)) → AreNotApart a pairs keys 0
none_apart a pairs keys = record { each = λ i below. absurd (omega (arith, below)) }

pub one_not_apart : (a : Arena) (pairs : List (TermId × Fraction)) (keys : List (List Fraction)) (n : ℕ) → AreNotApart a pairs keys n → IsApartFromNone a pairs keys n n → AreNotApart a pairs keys (n + 1)
one_not_apart a pairs keys n h k = record { each = each }
  where
    each : (i : ℕ) → i < n + 1 → IsApartFromNone a pairs keys i i
    each i below = elim (cases_lt i n) [
      | inl l ↦ h.each i l
      | inr l ↦
          let last : n ≡ i = omega (arith, below, l) in
          subst (λ (m : ℕ). IsApartFromNone a pairs keys m m) last k
    ]

pub all_not_apart : (a : Arena) (pairs : List (TermId × Fraction)) (keys : List (List Fraction)) (m n : ℕ) → m ≤ n → AreNotApart a pairs keys n → AreNotApart a pairs keys m
all_not_apart a pairs keys m n past h = record { each = λ i below. h.each i (omega (arith, below, past)) }

-- ---- truth values

pub none_truthful : (a : Arena) (pairs : List (TermId × Fraction)) → AreTruthful a pairs 0
none_truthful a pairs = record { each = λ i p below at. absurd (omega (arith, below)) }

pub one_truthful : (a : Arena) (pairs : List (TermId × Fraction)) (n : ℕ) (d : TermId × Fraction) → n < length pairs → AreTruthful a pairs n → is_truthful a (get_or pairs n d) ≡ true → AreTruthful a pairs (n + 1)
one_truthful a pairs n d within h k = record { each = each }
  where
    each : (i : ℕ) (p : TermId × Fraction) → i < n + 1 → slice_get pairs i ≡ Some p → is_truthful a p ≡ true
    each i p below at = elim (cases_lt i n) [
      | inl l ↦ h.each i p l at
      | inr l ↦
          let last : n ≡ i = omega (arith, below, l) in
          let here : get_or pairs n d ≡ p = same_Some (get_or pairs n d) p (sym (slice_get-get_or pairs n d within) ∙ (ap (slice_get pairs) last ∙ at)) in
          subst (λ (q : TermId × Fraction). is_truthful a q ≡ true) here k
    ]

pub all_truthful : (a : Arena) (pairs : List (TermId × Fraction)) (m n : ℕ) → m ≤ n → AreTruthful a pairs n → AreTruthful a pairs m
all_truthful a pairs m n past h = record { each = λ i p below at. h.each i p (omega (arith, below, past)) at }
