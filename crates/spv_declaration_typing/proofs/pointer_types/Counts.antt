-- Counting the types that are the first of their kind.
use Rattle.std.proofs.Common.{◌≡◌, ℕ, zero, suc, ◌<◌, ◌≤◌, ◌+◌, ◌-◌, ◌^◌, Bool, true, false, cond, nat_eq, List, [], ◌∷◌, ◌++◌, length, get_or, Some, None, refl, sym, ap, ◌∙◌, subst, arith, inl, inr, ◌⊎◌}
use Rattle.std.proofs.lemmas.List.{get_or_push, get_or_append_left, length_push}
use Rattle.std.proofs.lemmas.Bool.{cases_lt, eq-eqb}
use Rattle.spv_program.specs.Lists.{item_at}
use Rattle.spv_typing.specs.Merging.{kinds_before}
use Rattle.spv_declaration_typing.specs.pointer_types.Counting.{IsCounted, counting, one_more_if}
use Rattle.spv_declaration_typing.proofs.pointer_types.Places.{item_there, item_missing}

pub kinds_few : (n place : ℕ) (firsts : List ℕ) → kinds_before n place firsts ≤ n
kinds_few zero place firsts = omega arith
kinds_few (suc n) place [] = omega arith
kinds_few (suc n) place (f ∷ firsts) = by_case (nat_eq f place) (kinds_few n (suc place) firsts)
  where
    by_case : (b : Bool) → kinds_before n (suc place) firsts ≤ n → cond b (suc (kinds_before n (suc place) firsts)) (kinds_before n (suc place) firsts) ≤ suc n
    by_case true h = omega (arith, h)
    by_case false h = omega (arith, h)

-- one place more
kinds_next : (n place : ℕ) (firsts : List ℕ) → n < length firsts
    → kinds_before (suc n) place firsts ≡ one_more_if (nat_eq (get_or firsts n 0) (place + n)) (kinds_before n place firsts)
kinds_next n place [] h = absurd (omega (arith, h))
kinds_next zero place (f ∷ firsts) h = ap (λ m. cond (nat_eq f m) 1 0) (none place)
  where
    none : (n : ℕ) → n ≡ n + 0
    none n = omega arith
kinds_next (suc n) place (f ∷ firsts) h =
    ap (λ k. cond (nat_eq f place) (suc k) k) (kinds_next n (suc place) firsts (omega (arith, h)))
    ∙ (both (nat_eq f place) (nat_eq (get_or firsts n 0) (suc place + n)) (kinds_before n (suc place) firsts)
    ∙ ap (λ m. one_more_if (nat_eq (get_or firsts n 0) m) (cond (nat_eq f place) (suc (kinds_before n (suc place) firsts)) (kinds_before n (suc place) firsts))) (moved place n))
  where
    moved : (n m : ℕ) → suc n + m ≡ n + suc m
    moved n m = omega arith

    both : (a b : Bool) (k : ℕ) → cond a (suc (one_more_if b k)) (one_more_if b k) ≡ one_more_if b (cond a (suc k) k)
    both true true k = refl
    both true false k = refl
    both false true k = refl
    both false false k = refl

pub kinds_past : (n place : ℕ) (firsts : List ℕ) → length firsts ≤ n → kinds_before n place firsts ≡ kinds_before (length firsts) place firsts
kinds_past zero place [] h = refl
kinds_past (suc n) place [] h = refl
kinds_past zero place (f ∷ firsts) h = absurd (omega (arith, h))
kinds_past (suc n) place (f ∷ firsts) h = ap (λ k. cond (nat_eq f place) (suc k) k) (kinds_past n (suc place) firsts (omega (arith, h)))

pub record CountedSoFar (base : ℕ) (firsts : List ℕ) (place : ℕ) (before : List ℕ) (count : ℕ) : Type 0 where
  pub many : length before ≡ suc place
  pub counted : (n : ℕ) → n ≤ place → get_or before n 0 ≡ base + kinds_before n base firsts
  pub last : count ≡ base + kinds_before place base firsts

pub counted_none : (base : ℕ) (firsts before : List ℕ) (count : ℕ) → count ≡ base → before ≡ count ∷ [] → CountedSoFar base firsts 0 before count
counted_none base firsts before count begun is = record {
  many = ap length is;
  counted = λ n h. ap (λ (l : List ℕ). get_or l n 0) is ∙ at n h;
  last = begun ∙ none base;
}
  where
    none : (n : ℕ) → n ≡ n + 0
    none n = omega arith

    at : (n : ℕ) → n ≤ 0 → get_or (count ∷ []) n 0 ≡ base + kinds_before n base firsts
    at zero h = begun ∙ none base
    at (suc n) h = absurd (omega (arith, h))

pub counted_more : (base : ℕ) (firsts : List ℕ) (place : ℕ) (before new : List ℕ) (count next : ℕ) → place < length firsts
    → next ≡ one_more_if (nat_eq (get_or firsts place 0) (base + place)) count → new ≡ before ++ next ∷ []
    → CountedSoFar base firsts place before count → CountedSoFar base firsts (place + 1) new next
counted_more base firsts place before new count next within is pushed so_far = record {
  many = ap length pushed ∙ (length_push before next ∙ (ap (λ n. n + 1) so_far.many ∙ one_more place));
  counted = λ n h. ap (λ (l : List ℕ). get_or l n 0) pushed ∙ by_place n (cases_lt n (suc place)) h;
  last = counts;
}
  where
    one_more : (n : ℕ) → suc n + 1 ≡ suc (n + 1)
    one_more n = omega arith

    moved : (b : Bool) (n m : ℕ) → one_more_if b (n + m) ≡ n + one_more_if b m
    moved true n m = omega arith
    moved false n m = refl

    counts : next ≡ base + kinds_before (place + 1) base firsts
    counts =
        is ∙ (ap (one_more_if (nat_eq (get_or firsts place 0) (base + place))) so_far.last
        ∙ (moved (nat_eq (get_or firsts place 0) (base + place)) base (kinds_before place base firsts)
        ∙ (ap (λ k. base + k) (sym (kinds_next place base firsts within)) ∙ ap (λ m. base + kinds_before m base firsts) (next_is place))))
      where
        next_is : (n : ℕ) → suc n ≡ n + 1
        next_is n = omega arith

    by_place : (n : ℕ) → (n < suc place) ⊎ (suc place ≤ n) → n ≤ place + 1 → get_or (before ++ next ∷ []) n 0 ≡ base + kinds_before n base firsts
    by_place n (inl g) h =
        get_or_append_left before (next ∷ []) 0 n (subst (λ m. n < m) (sym so_far.many) g) ∙ so_far.counted n (below n place g)
      where
        below : (n m : ℕ) → n < suc m → n ≤ m
        below n m h = omega (arith, h)
    by_place n (inr g) h =
        let same : n ≡ place + 1 = omega (arith, g, h) in
        get_or_push before next 0 n (so_far.many ∙ at n place g h) ∙ (counts ∙ ap (λ m. base + kinds_before m base firsts) (sym same))
      where
        at : (n m : ℕ) → suc m ≤ n → n ≤ m + 1 → suc m ≡ n
        at n m g h = omega (arith, g, h)

pub counted_all : (base : ℕ) (firsts before : List ℕ) (place count : ℕ) → base + length firsts < 2 ^ 32 → place ≡ length firsts → CountedSoFar base firsts place before count
    → IsCounted base firsts before
counted_all base firsts before place count small end so_far = record {
  many = so_far.many ∙ ap suc end;
  counted = λ n h. so_far.counted n (subst (λ m. n ≤ m) (sym end) h);
  small = small;
}

-- ---- types that keep their numbers, and those behind

kept_from : (place base i : ℕ) (firsts : List ℕ) → i < base → item_at (counting place base ++ firsts) i ≡ Some (place + i)
kept_from place zero i firsts h = absurd (omega (arith, h))
kept_from place (suc base) zero firsts h = ap Some (none_more place)
  where
    none_more : (n : ℕ) → n ≡ n + 0
    none_more n = omega arith
kept_from place (suc base) (suc i) firsts h = kept_from (suc place) base i firsts (omega (arith, h)) ∙ ap Some (moved place i)
  where
    moved : (n m : ℕ) → suc n + m ≡ n + suc m
    moved n m = omega arith

pub item_kept : (base i : ℕ) (firsts : List ℕ) → i < base → item_at (counting 0 base ++ firsts) i ≡ Some i
item_kept base i firsts h = kept_from 0 base i firsts h ∙ ap Some (none i)
  where
    none : (n : ℕ) → 0 + n ≡ n
    none n = omega arith

behind_from : (place base i k : ℕ) (firsts : List ℕ) → base ≤ i → k ≡ i - base → item_at (counting place base ++ firsts) i ≡ item_at firsts k
behind_from place zero i k firsts h e = ap (item_at firsts) (none i k e)
  where
    none : (i k : ℕ) → k ≡ i - 0 → i ≡ k
    none i k e = omega (arith, e)
behind_from place (suc base) zero k firsts h e = absurd (omega (arith, h))
behind_from place (suc base) (suc i) k firsts h e = behind_from (suc place) base i k firsts (omega (arith, h)) (omega (arith, e))

pub item_behind : (base i : ℕ) (firsts : List ℕ) → base ≤ i → i - base < length firsts → item_at (counting 0 base ++ firsts) i ≡ Some (get_or firsts (i - base) 0)
item_behind base i firsts h g = behind_from 0 base i (i - base) firsts h refl ∙ item_there firsts (i - base) g

pub item_past : (base i : ℕ) (firsts : List ℕ) → base ≤ i → length firsts ≤ i - base → item_at (counting 0 base ++ firsts) i ≡ None
item_past base i firsts h g = behind_from 0 base i (i - base) firsts h refl ∙ item_missing firsts (i - base) g

kinds_kept_from : (n place base : ℕ) (firsts : List ℕ) → n ≤ base → kinds_before n place (counting place base ++ firsts) ≡ n
kinds_kept_from zero place base firsts h = refl
kinds_kept_from (suc n) place zero firsts h = absurd (omega (arith, h))
kinds_kept_from (suc n) place (suc base) firsts h =
    ap (λ b. cond b (suc (kinds_before n (suc place) (counting (suc place) base ++ firsts))) (kinds_before n (suc place) (counting (suc place) base ++ firsts))) (eq-eqb place place refl)
    ∙ ap suc (kinds_kept_from n (suc place) base firsts (omega (arith, h)))

pub kinds_kept : (n base : ℕ) (firsts : List ℕ) → n ≤ base → kinds_before n 0 (counting 0 base ++ firsts) ≡ n
kinds_kept n base firsts h = kinds_kept_from n 0 base firsts h

kinds_behind_from : (n place base k : ℕ) (firsts : List ℕ) → base ≤ n → k ≡ n - base → kinds_before n place (counting place base ++ firsts) ≡ base + kinds_before k (place + base) firsts
kinds_behind_from n place zero k firsts h e = ap (λ m. kinds_before m place firsts) (none n k e) ∙ (ap (λ m. kinds_before k m firsts) (none_more place) ∙ zero_more (kinds_before k (place + 0) firsts))
  where
    none : (i k : ℕ) → k ≡ i - 0 → i ≡ k
    none i k e = omega (arith, e)

    none_more : (n : ℕ) → n ≡ n + 0
    none_more n = omega arith

    zero_more : (n : ℕ) → n ≡ 0 + n
    zero_more n = omega arith
kinds_behind_from zero place (suc base) k firsts h e = absurd (omega (arith, h))
kinds_behind_from (suc n) place (suc base) k firsts h e =
    ap (λ b. cond b (suc (kinds_before n (suc place) (counting (suc place) base ++ firsts))) (kinds_before n (suc place) (counting (suc place) base ++ firsts))) (eq-eqb place place refl)
    ∙ (ap suc (kinds_behind_from n (suc place) base k firsts (omega (arith, h)) (omega (arith, e)))
    ∙ (further base (kinds_before k (suc place + base) firsts) ∙ ap (λ m. suc base + kinds_before k m firsts) (moved place base)))
  where
    further : (n m : ℕ) → suc (n + m) ≡ suc n + m
    further n m = omega arith

    moved : (n m : ℕ) → suc n + m ≡ n + suc m
    moved n m = omega arith

kinds_behind : (n base : ℕ) (firsts : List ℕ) → base ≤ n → kinds_before n 0 (counting 0 base ++ firsts) ≡ base + kinds_before (n - base) base firsts
kinds_behind n base firsts h = kinds_behind_from n 0 base (n - base) firsts h refl ∙ ap (λ m. base + kinds_before (n - base) m firsts) (none base)
  where
    none : (n : ℕ) → 0 + n ≡ n
    none n = omega arith

pub counted_there : (base : ℕ) (firsts before : List ℕ) (n : ℕ) → IsCounted base firsts before → base ≤ n → n - base < length firsts
    → get_or before (n - base) 0 ≡ kinds_before n 0 (counting 0 base ++ firsts)
counted_there base firsts before n c h g = c.counted (n - base) (below (n - base) (length firsts) g) ∙ sym (kinds_behind n base firsts h)
  where
    below : (n m : ℕ) → n < m → n ≤ m
    below n m h = omega (arith, h)

pub counted_past : (base : ℕ) (firsts before : List ℕ) (n count : ℕ) → IsCounted base firsts before → count ≡ length firsts → base ≤ n → count ≤ n - base
    → get_or before count 0 ≡ kinds_before n 0 (counting 0 base ++ firsts)
counted_past base firsts before n count c end h past =
    ap (λ m. get_or before m 0) end
    ∙ (c.counted (length firsts) (same (length firsts))
    ∙ (ap (λ k. base + k) (sym (kinds_past (n - base) base firsts (subst (λ m. m ≤ n - base) end past))) ∙ sym (kinds_behind n base firsts h)))
  where
    same : (n : ℕ) → n ≤ n
    same n = omega arith
