-- Bounds that come and go.
use Rattle.std.proofs.Common.{◌≡◌, ℕ, ◌+◌, ◌<◌, ◌≤◌, Bool, true, false, ◌&&◌, List, [], ◌∷◌, ◌++◌, length, Option, Some, None, nat_eq, nat_lt, slice_index_or, refl, sym, ap, ◌∙◌, subst, arith, if◌then◌else◌}
use Rattle.std.specs.List.{list_all}
use Rattle.std.proofs.lemmas.Bool.{false≢true}
use Rattle.std.proofs.lemmas.Bool.Decides.{nat_tests}
use Rattle.std.proofs.lemmas.List.{get_or-set_same, get_or-set_other, length-set, length-append}
use mathlib.Core.Path.{ap₂}
use Rattle.spv_frac.specs.rational.Rational.{Rational}
use Rattle.spv_tableau_rules.specs.declared.tableaux.side.Side.{Side}
use Rattle.spv_tableau_rules.specs.declared.tableaux.side.Side.TheVariants.{Lower, Upper}
use Rattle.spv_tableau_rules.specs.tableaux.Bounds.{Bound, same_side, bound_on, is_none, are_apart}
use Rattle.spv_tableau_rules.proofs.pivots.Sums.{eq_is, eq_self, eq_flip}
use Rattle.spv_tableau_rules.proofs.pivots.Tests.{and_left, and_right, and_both, all_append}
use Rattle.spv_dictionary.proofs.Exchanging.{differ_of}
use Rattle.spv_dictionary.specs.pivoting.Trail.{Trail, bound_of, written, IsTrail}

-- ---- looking for a bound

abbrev pub or_else : Option Rational → Option Rational → Option Rational
or_else None y = y
or_else (Some x) y = Some x

abbrev pub is_on : Bound → ℕ → Side → Bool
is_on b i side = nat_eq b.row i && same_side b.side side

abbrev pub if_on : Bound → ℕ → Side → Option Rational
if_on b i side = if is_on b i side then Some b.value else None

found_push : (bounds : List Bound) (b : Bound) (i : ℕ) (side : Side) → bound_on (bounds ++ b ∷ []) i side ≡ or_else (bound_on bounds i side) (if_on b i side)
found_push [] b i side = refl
found_push (x ∷ bounds) b i side = by_case (found_push bounds b i side) (is_on x i side)
  where
    by_case : bound_on (bounds ++ b ∷ []) i side ≡ or_else (bound_on bounds i side) (if_on b i side) → (here : Bool)
        → (if here then Some x.value else bound_on (bounds ++ b ∷ []) i side) ≡ or_else (if here then Some x.value else bound_on bounds i side) (if_on b i side)
    by_case rest true = refl
    by_case rest false = rest

none_of : (o : Option Rational) → is_none o ≡ true → o ≡ None
none_of None h = refl
none_of (Some x) h = absurd (false≢true h)

no_else : (o : Option Rational) → or_else o None ≡ o
no_else None = refl
no_else (Some x) = refl

-- another bound does not count
pub found_other : (bounds : List Bound) (b : Bound) (i : ℕ) (side : Side) → is_on b i side ≡ false → bound_on (bounds ++ b ∷ []) i side ≡ bound_on bounds i side
found_other bounds b i side h = found_push bounds b i side ∙ ap (or_else (bound_on bounds i side)) (rw h refl) ∙ no_else (bound_on bounds i side)

pub found_here : (bounds : List Bound) (b : Bound) → bound_on bounds b.row b.side ≡ None → bound_on (bounds ++ b ∷ []) b.row b.side ≡ Some b.value
found_here bounds b h = found_push bounds b b.row b.side ∙ ap (λ o. or_else o (if_on b b.row b.side)) h ∙ rw (eq_self b.row, side_self b.side) refl
  where
    side_self : (side : Side) → same_side side side ≡ true
    side_self Lower = refl
    side_self Upper = refl

-- ---- no two on one side

side_flip : (a b : Side) → same_side a b ≡ same_side b a
side_flip Lower Lower = refl
side_flip Lower Upper = refl
side_flip Upper Lower = refl
side_flip Upper Upper = refl

eq_sym : (a b : ℕ) → nat_eq a b ≡ nat_eq b a
eq_sym a b = by_case (nat_eq a b) refl
  where
    by_case : (x : Bool) → nat_eq a b ≡ x → x ≡ nat_eq b a
    by_case true e = sym (eq_self b) ∙ ap (nat_eq b) (sym (eq_is a b e))
    by_case false e = sym (eq_flip a b e)

on_flip : (x b : Bound) → is_on x b.row b.side ≡ is_on b x.row x.side
on_flip x b = ap₂ (λ (p q : Bool). p && q) (eq_sym x.row b.row) (side_flip x.side b.side)

-- what is not found at the front and behind it
not_here : (x : Bound) (bounds : List Bound) (i : ℕ) (side : Side) → bound_on (x ∷ bounds) i side ≡ None → is_on x i side ≡ false
not_here x bounds i side h = by_case (is_on x i side) refl h
  where
    some≢none : Some x.value ≡ None → ⊥
    some≢none e = false≢true (ap is_none e)

    by_case : (b : Bool) → is_on x i side ≡ b → (if b then Some x.value else bound_on bounds i side) ≡ None → b ≡ false
    by_case true e k = absurd (some≢none k)
    by_case false e k = refl

not_behind : (x : Bound) (bounds : List Bound) (i : ℕ) (side : Side) → bound_on (x ∷ bounds) i side ≡ None → bound_on bounds i side ≡ None
not_behind x bounds i side h = sym (rw (not_here x bounds i side h) refl) ∙ h

apart_push : (bounds : List Bound) (b : Bound) → are_apart bounds ≡ true → bound_on bounds b.row b.side ≡ None → are_apart (bounds ++ b ∷ []) ≡ true
apart_push [] b h k = refl
apart_push (x ∷ bounds) b h k =
    and_both _ _ (ap is_none (found_other bounds b x.row x.side (sym (on_flip x b) ∙ not_here x bounds b.row b.side k)) ∙ and_left _ _ h)
    (apart_push bounds b (and_right _ _ h) (not_behind x bounds b.row b.side k))

apart_front : (bounds : List Bound) (b : Bound) → are_apart (bounds ++ b ∷ []) ≡ true → are_apart bounds ≡ true
apart_front [] b h = refl
apart_front (x ∷ bounds) b h =
    and_both _ _ (front_none (bound_on bounds x.row x.side) (if_on b x.row x.side) (ap is_none (sym (found_push bounds b x.row x.side)) ∙ and_left _ _ h))
    (apart_front bounds b (and_right _ _ h))
  where
    front_none : (o p : Option Rational) → is_none (or_else o p) ≡ true → is_none o ≡ true
    front_none None p h = refl
    front_none (Some y) p h = h

apart_last : (bounds : List Bound) (b : Bound) → are_apart (bounds ++ b ∷ []) ≡ true → bound_on bounds b.row b.side ≡ None
apart_last [] b h = refl
apart_last (x ∷ bounds) b h = rw (sym (on_flip b x) ∙ off) (apart_last bounds b (and_right _ _ h))
  where
    back_none : (o p : Option Rational) → is_none (or_else o p) ≡ true → is_none p ≡ true
    back_none None p h = h
    back_none (Some y) p h = absurd (false≢true h)

    is_off : (here : Bool) → is_none (if here then Some b.value else None) ≡ true → here ≡ false
    is_off true h = absurd (false≢true h)
    is_off false h = refl

    off : is_on b x.row x.side ≡ false
    off = is_off (is_on b x.row x.side) (back_none (bound_on bounds x.row x.side) (if_on b x.row x.side) (ap is_none (sym (found_push bounds b x.row x.side)) ∙ and_left _ _ h))

range_front : (n : ℕ) (bounds : List Bound) (b : Bound) → list_all (λ x. nat_lt x.row n) (bounds ++ b ∷ []) ≡ true → list_all (λ x. nat_lt x.row n) bounds ≡ true
range_front n [] b h = refl
range_front n (x ∷ bounds) b h = and_both _ _ (and_left _ _ h) (range_front n bounds b (and_right _ _ h))

pub range_last : (n : ℕ) (bounds : List Bound) (b : Bound) → list_all (λ x. nat_lt x.row n) (bounds ++ b ∷ []) ≡ true → nat_lt b.row n ≡ true
range_last n [] b h = and_left _ _ h
range_last n (x ∷ bounds) b h = range_last n bounds b (and_right _ _ h)

-- ---- what is at hand

written_length : (here side : Side) (values : List (Option Rational)) (row : ℕ) (value : Option Rational) → length (written here side values row value) ≡ length values
written_length here side values row value = by_case (same_side side here) refl
  where
    by_case : (b : Bool) → same_side side here ≡ b → length (written here side values row value) ≡ length values
    by_case true e = rw e (length-set values row value)
    by_case false e = rw e refl

-- at hand is what is found, before and after a bound comes or goes
written_is : (here : Side) (b : Bound) (values : List (Option Rational)) (value : Option Rational) (before after : ℕ → Option Rational)
    → b.row < length values → (after_here : same_side b.side here ≡ true → value ≡ after b.row) → (after_other : (i : ℕ) → is_on b i here ≡ false → before i ≡ after i)
    → (i : ℕ) → slice_index_or values i None ≡ before i → slice_index_or (written here b.side values b.row value) i None ≡ after i
written_is here b values value before after inside after_here after_other i h = by_cases (same_side b.side here) refl (nat_eq b.row i) refl
  where
    by_cases : (s : Bool) → same_side b.side here ≡ s → (e : Bool) → nat_eq b.row i ≡ e → slice_index_or (written here b.side values b.row value) i None ≡ after i
    by_cases true s true e =
        ap (λ k. slice_index_or (written here b.side values b.row value) k None) (sym (eq_is b.row i e)) ∙ rw s (get_or-set_same values b.row value None inside) ∙ after_here s ∙ ap after (eq_is b.row i e)
    by_cases true s false e =
        rw s (get_or-set_other values b.row i value None (differ_of i b.row (eq_flip b.row i e))) ∙ h ∙ after_other i (rw e refl)
    by_cases false s e k = rw s h ∙ after_other i (off k)
      where
        no_and : (x : Bool) → (x && false) ≡ false
        no_and true = refl
        no_and false = refl

        off : nat_eq b.row i ≡ e → is_on b i here ≡ false
        off k = rw s (no_and (nat_eq b.row i))

abbrev pub trail_of : ℕ → List Bound → List (Option Rational) → Trail
trail_of most bounds lower = record { rows = length lower; most = most; bounds = bounds }

pub push_keeps : (most : ℕ) (bounds : List Bound) (lower upper : List (Option Rational)) (row : ℕ) (side : Side) (value : Rational) → IsTrail (trail_of most bounds lower) lower upper
    → row < length lower → length bounds < most → bound_on bounds row side ≡ None
    → IsTrail (trail_of most (bounds ++ bound_of row side value ∷ []) (written Lower side lower row (Some value))) (written Lower side lower row (Some value)) (written Upper side upper row (Some value))
push_keeps most bounds lower upper row side value t inside room free = record {
  in_range = all_append _ bounds (b ∷ []) (ap (λ n. list_all (λ x. nat_lt x.row n) bounds) count ∙ t.in_range) (and_both _ _ (ap (nat_lt row) count ∙ below row (length lower) inside) refl);
  apart = apart_push bounds b t.apart free;
  few = few_more (length bounds) most (length-append bounds (b ∷ [])) room;
  lower_count = refl;
  upper_count = written_length Upper side upper row (Some value) ∙ t.upper_count ∙ sym count;
  lower_is = λ i h. written_is Lower b lower (Some value) (λ k. bound_on bounds k Lower) (λ k. bound_on (bounds ++ b ∷ []) k Lower) inside (here Lower) (others Lower) i (t.lower_is i (subst (λ (n : ℕ). i < n) count h));
  upper_is = λ i h. written_is Upper b upper (Some value) (λ k. bound_on bounds k Upper) (λ k. bound_on (bounds ++ b ∷ []) k Upper) (subst (λ (n : ℕ). row < n) (sym t.upper_count) inside) (here Upper) (others Upper) i (t.upper_is i (subst (λ (n : ℕ). i < n) count h));
}
  where
    b : Bound
    b = bound_of row side value

    count : length (written Lower side lower row (Some value)) ≡ length lower
    count = written_length Lower side lower row (Some value)

    below : (x y : ℕ) → x < y → nat_lt x y ≡ true
    below x y h = grind (arith, nat_tests)

    few_more : (n m : ℕ) → length (bounds ++ b ∷ []) ≡ n + 1 → n < m → length (bounds ++ b ∷ []) ≤ m
    few_more n m e h = omega (arith, e)

    same_is : (x y : Side) → same_side x y ≡ true → x ≡ y
    same_is Lower Lower h = refl
    same_is Lower Upper h = absurd (false≢true h)
    same_is Upper Lower h = absurd (false≢true h)
    same_is Upper Upper h = refl

    here : (s : Side) → same_side side s ≡ true → Some value ≡ bound_on (bounds ++ b ∷ []) row s
    here s h = sym (ap (bound_on (bounds ++ b ∷ []) row) (sym (same_is side s h)) ∙ found_here bounds b free)

    others : (s : Side) (i : ℕ) → is_on b i s ≡ false → bound_on bounds i s ≡ bound_on (bounds ++ b ∷ []) i s
    others s i h = sym (found_other bounds b i s h)

pub pop_keeps : (most : ℕ) (bounds : List Bound) (b : Bound) (lower upper : List (Option Rational)) → IsTrail (trail_of most (bounds ++ b ∷ []) lower) lower upper
    → IsTrail (trail_of most bounds (written Lower b.side lower b.row None)) (written Lower b.side lower b.row None) (written Upper b.side upper b.row None)
pop_keeps most bounds b lower upper t = record {
  in_range = ap (λ n. list_all (λ x. nat_lt x.row n) bounds) count ∙ range_front (length lower) bounds b t.in_range;
  apart = apart_front bounds b t.apart;
  few = few_less (length bounds) most (length-append bounds (b ∷ [])) t.few;
  lower_count = refl;
  upper_count = written_length Upper b.side upper b.row None ∙ t.upper_count ∙ sym count;
  lower_is = λ i h. written_is Lower b lower None (λ k. bound_on (bounds ++ b ∷ []) k Lower) (λ k. bound_on bounds k Lower) inside (here Lower) (others Lower) i (t.lower_is i (subst (λ (n : ℕ). i < n) count h));
  upper_is = λ i h. written_is Upper b upper None (λ k. bound_on (bounds ++ b ∷ []) k Upper) (λ k. bound_on bounds k Upper) (subst (λ (n : ℕ). b.row < n) (sym t.upper_count) inside) (here Upper) (others Upper) i (t.upper_is i (subst (λ (n : ℕ). i < n) count h));
}
  where
    count : length (written Lower b.side lower b.row None) ≡ length lower
    count = written_length Lower b.side lower b.row None

    above : (x y : ℕ) → nat_lt x y ≡ true → x < y
    above x y h = grind (arith, nat_tests)

    inside : b.row < length lower
    inside = above b.row (length lower) (range_last (length lower) bounds b t.in_range)

    few_less : (n m : ℕ) → length (bounds ++ b ∷ []) ≡ n + 1 → length (bounds ++ b ∷ []) ≤ m → n ≤ m
    few_less n m e h = omega (arith, e)

    same_is : (x y : Side) → same_side x y ≡ true → x ≡ y
    same_is Lower Lower h = refl
    same_is Lower Upper h = absurd (false≢true h)
    same_is Upper Lower h = absurd (false≢true h)
    same_is Upper Upper h = refl

    here : (s : Side) → same_side b.side s ≡ true → None ≡ bound_on bounds b.row s
    here s h = sym (ap (bound_on bounds b.row) (sym (same_is b.side s h)) ∙ apart_last bounds b t.apart)

    others : (s : Side) (i : ℕ) → is_on b i s ≡ false → bound_on (bounds ++ b ∷ []) i s ≡ bound_on bounds i s
    others s i h = found_other bounds b i s h
