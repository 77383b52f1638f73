-- How many members classes have.
use Rattle.std.proofs.Common.{◌≡◌, ◌≢◌, ℕ, zero, suc, ◌+◌, ◌<◌, ◌≤◌, Bool, true, false, nat_eq, List, [], ◌∷◌, ◌++◌, length, refl, sym, ap, subst, ◌∙◌, arith, inl, inr, ◌⊎◌, if◌then◌else◌}
use Rattle.std.proofs.lemmas.List.{length_push}
use Rattle.std.proofs.lemmas.Bool.{false≢true}
use Rattle.spv_union_find.specs.declared.classes.joins.Join.{Join}
use Rattle.spv_union_find.specs.classes.Classes.{label, size, count_of, members, IsJoin, AreJoins}
use Rattle.spv_union_find.proofs.classes.Lists.{same_or_apart, nat_same, nat_apart}
use Rattle.spv_union_find.proofs.classes.Labels.{label_was_lower, label_stays, by_joins}
use Rattle.spv_union_find.proofs.classes.Circles.{upper_stays, lower_gone, not_lower, was_label, size_upper, size_other}

pub count_within : (p : ℕ → Bool) (n : ℕ) → count_of p n ≤ n
count_within p zero = omega arith
count_within p (suc n) = by (p n) (count_within p n)
  where
    by : (b : Bool) → count_of p n ≤ n → (if b then suc (count_of p n) else count_of p n) ≤ suc n
    by true h = omega arith
    by false h = omega arith

pub count_same : (p q : ℕ → Bool) (n : ℕ) → ((x : ℕ) → x < n → p x ≡ q x) → count_of p n ≡ count_of q n
count_same p q zero same = refl
count_same p q (suc n) same =
    ap (λ b. if b then suc (count_of p n) else count_of p n) (same n (omega arith))
    ∙ ap (λ k. if q n then suc k else k) (count_same p q n (λ x h. same x (omega arith)))

-- one counts more, by one
pub count_less : (p q : ℕ → Bool) (n k : ℕ) → k < n → p k ≡ true → q k ≡ false → ((x : ℕ) → x ≢ k → p x ≡ q x) → count_of p n ≡ suc (count_of q n)
count_less p q zero k h holds none same = absurd (omega arith)
count_less p q (suc n) k h holds none same = by (same_or_apart k n) (λ less. count_less p q n k less holds none same)
  where
    cases : (a b : Bool) (c d : ℕ) → a ≡ b → c ≡ suc d → (if a then suc c else c) ≡ suc (if b then suc d else d)
    cases true true c d e f = ap suc f
    cases false false c d e f = f
    cases true false c d e f = absurd (false≢true (sym e))
    cases false true c d e f = absurd (false≢true e)

    ends : (a b : Bool) (c d : ℕ) → a ≡ true → b ≡ false → c ≡ d → (if a then suc c else c) ≡ suc (if b then suc d else d)
    ends true false c d e f g = ap suc g
    ends true true c d e f g = absurd (false≢true (sym f))
    ends false b c d e f g = absurd (false≢true e)

    by : (k ≡ n) ⊎ (k ≢ n) → (k < n → count_of p n ≡ suc (count_of q n)) → count_of p (suc n) ≡ suc (count_of q (suc n))
    by (inl e) rest = ends (p n) (q n) (count_of p n) (count_of q n) (subst (λ x. p x ≡ true) e holds) (subst (λ x. q x ≡ false) e none)
        (count_same p q n (λ x less. same x (λ f. no x less (f ∙ e))))
      where
        no : (x : ℕ) → x < n → x ≡ n → ⊥
        no x less f = omega (arith, less, f)
    by (inr a) rest = cases (p n) (q n) (count_of p n) (count_of q n) (same n (λ e. a (sym e))) (rest (omega arith))

-- what is either counts as both
pub count_sum : (p q r : ℕ → Bool) (n : ℕ) → ((x : ℕ) → x < n → ((p x ≡ q x) × (r x ≡ false)) ⊎ ((p x ≡ r x) × (q x ≡ false))) → count_of p n ≡ count_of q n + count_of r n
count_sum p q r zero h = omega arith
count_sum p q r (suc n) h = by (p n) (q n) (r n) (count_of p n) (count_of q n) (count_of r n) (h n (omega arith)) (count_sum p q r n (λ x less. h x (omega arith)))
  where
    by : (a b c : Bool) (i j k : ℕ) → ((a ≡ b) × (c ≡ false)) ⊎ ((a ≡ c) × (b ≡ false)) → i ≡ j + k
        → (if a then suc i else i) ≡ (if b then suc j else j) + (if c then suc k else k)
    by true true false i j k (inl e) g = omega arith
    by false false false i j k (inl e) g = omega arith
    by true false false i j k (inl e) g = absurd (false≢true (sym e.0))
    by false true false i j k (inl e) g = absurd (false≢true e.0)
    by a b true i j k (inl e) g = absurd (false≢true (sym e.1))
    by true false true i j k (inr e) g = omega arith
    by false false false i j k (inr e) g = omega arith
    by true false false i j k (inr e) g = absurd (false≢true (sym e.0))
    by false false true i j k (inr e) g = absurd (false≢true e.0)
    by a true c i j k (inr e) g = absurd (false≢true (sym e.1))

-- a class counts its members
pub members_size : (count : ℕ) (js : List Join) → AreJoins count js → (l : ℕ) → l < count → label js l ≡ l → members js count l ≡ size js l
members_size count = by_joins count (λ js. (l : ℕ) → l < count → label js l ≡ l → members js count l ≡ size js l) start step
  where
    start : (l : ℕ) → l < count → l ≡ l → members [] count l ≡ 1
    start l within e = count_less (λ x. nat_eq x l) (λ x. false) count l within (nat_same l) refl (λ x h. nat_apart x l h) ∙ ap suc (none count)
      where
        none : (n : ℕ) → count_of (λ x. false) n ≡ 0
        none zero = refl
        none (suc n) = none n

    step : (js : List Join) (j : Join) → AreJoins count js → IsJoin count js j → ((l : ℕ) → l < count → label js l ≡ l → members js count l ≡ size js l)
        → (l : ℕ) → l < count → label (js ++ j ∷ []) l ≡ l → members (js ++ j ∷ []) count l ≡ size (js ++ j ∷ []) l
    step js j are is old l within alive = by (same_or_apart l j.upper)
      where
        upper_in : (x : ℕ) → x < count → ((nat_eq (label (js ++ j ∷ []) x) j.upper ≡ nat_eq (label js x) j.upper) × (nat_eq (label js x) j.lower ≡ false))
            ⊎ ((nat_eq (label (js ++ j ∷ []) x) j.upper ≡ nat_eq (label js x) j.lower) × (nat_eq (label js x) j.upper ≡ false))
        upper_in x h = cases (same_or_apart (label js x) j.lower)
          where
            cases : (label js x ≡ j.lower) ⊎ (label js x ≢ j.lower) → ((nat_eq (label (js ++ j ∷ []) x) j.upper ≡ nat_eq (label js x) j.upper) × (nat_eq (label js x) j.lower ≡ false))
                ⊎ ((nat_eq (label (js ++ j ∷ []) x) j.upper ≡ nat_eq (label js x) j.lower) × (nat_eq (label js x) j.upper ≡ false))
            cases (inl e) = inr (
              (ap (λ k. nat_eq k j.upper) (label_was_lower js j x e) ∙ (nat_same j.upper ∙ sym (ap (λ k. nat_eq k j.lower) e ∙ nat_same j.lower))),
              nat_apart (label js x) j.upper (λ f. is.apart (sym e ∙ f)),
            )
            cases (inr a) = inl (ap (λ k. nat_eq k j.upper) (label_stays js j x a), nat_apart (label js x) j.lower a)

        by : (l ≡ j.upper) ⊎ (l ≢ j.upper) → members (js ++ j ∷ []) count l ≡ size (js ++ j ∷ []) l
        by (inl e) = subst (λ k. members (js ++ j ∷ []) count k ≡ size (js ++ j ∷ []) k) (sym e)
            (count_sum (λ x. nat_eq (label (js ++ j ∷ []) x) j.upper) (λ x. nat_eq (label js x) j.upper) (λ x. nat_eq (label js x) j.lower) count upper_in
            ∙ (ap (λ k. k + members js count j.lower) (old j.upper is.upper_in is.upper_is)
            ∙ (ap (λ k. size js j.upper + k) (old j.lower is.lower_in is.lower_is) ∙ sym (size_upper count js j are is))))
        by (inr other) =
            count_same (λ x. nat_eq (label (js ++ j ∷ []) x) l) (λ x. nat_eq (label js x) l) count (λ x h. cases x (same_or_apart (label js x) j.lower))
            ∙ (old l within (was_label count js j are is l alive other) ∙ sym (size_other count js j are is l other))
          where
            cases : (x : ℕ) → (label js x ≡ j.lower) ⊎ (label js x ≢ j.lower) → nat_eq (label (js ++ j ∷ []) x) l ≡ nat_eq (label js x) l
            cases x (inl e) =
                ap (λ k. nat_eq k l) (label_was_lower js j x e) ∙ (nat_apart j.upper l (λ f. other (sym f))
                ∙ sym (ap (λ k. nat_eq k l) e ∙ nat_apart j.lower l (λ f. not_lower count js j are is l alive (sym f))))
            cases x (inr a) = ap (λ k. nat_eq k l) (label_stays js j x a)

-- each join takes one label away
pub labels_left : (count : ℕ) (js : List Join) → AreJoins count js → count_of (λ x. nat_eq (label js x) x) count + length js ≡ count
labels_left count = by_joins count (λ js. count_of (λ x. nat_eq (label js x) x) count + length js ≡ count) (start count) step
  where
    start : (n : ℕ) → count_of (λ x. nat_eq x x) n + 0 ≡ n
    start zero = refl
    start (suc n) =
        let h = start n in
        let e : count_of (λ x. nat_eq x x) (suc n) ≡ suc (count_of (λ x. nat_eq x x) n) = ap (λ b. if b then suc (count_of (λ x. nat_eq x x) n) else count_of (λ x. nat_eq x x) n) (nat_same n) in
        omega (arith, h, e)

    step : (js : List Join) (j : Join) → AreJoins count js → IsJoin count js j → count_of (λ x. nat_eq (label js x) x) count + length js ≡ count
        → count_of (λ x. nat_eq (label (js ++ j ∷ []) x) x) count + length (js ++ j ∷ []) ≡ count
    step js j are is old =
        let e = count_less (λ x. nat_eq (label js x) x) (λ x. nat_eq (label (js ++ j ∷ []) x) x) count j.lower is.lower_in
        (ap (λ k. nat_eq k j.lower) is.lower_is ∙ nat_same j.lower)
        (ap (λ k. nat_eq k j.lower) (lower_gone count js j are is) ∙ nat_apart j.upper j.lower (λ f. is.apart (sym f)))
        (λ x h. cases x h (same_or_apart (label js x) j.lower)) in
        omega (arith, e, old, length_push js j)
      where
        cases : (x : ℕ) → x ≢ j.lower → (label js x ≡ j.lower) ⊎ (label js x ≢ j.lower) → nat_eq (label js x) x ≡ nat_eq (label (js ++ j ∷ []) x) x
        cases x h (inl e) =
            (ap (λ k. nat_eq k x) e ∙ nat_apart j.lower x (λ f. h (sym f)))
            ∙ sym (ap (λ k. nat_eq k x) (label_was_lower js j x e) ∙ nat_apart j.upper x (λ f. is.apart (sym e ∙ (ap (label js) (sym f) ∙ is.upper_is))))
        cases x h (inr a) = ap (λ k. nat_eq k x) (sym (label_stays js j x a))

count_some : (p : ℕ → Bool) (n k : ℕ) → k < n → p k ≡ true → 0 < count_of p n
count_some p zero k h holds = absurd (omega arith)
count_some p (suc n) k h holds = by (same_or_apart k n) (λ less. count_some p n k less holds)
  where
    first : (b : Bool) (c : ℕ) → b ≡ true → 0 < (if b then suc c else c)
    first true c e = omega arith
    first false c e = absurd (false≢true e)

    rest : (b : Bool) (c : ℕ) → 0 < c → 0 < (if b then suc c else c)
    rest true c h = omega arith
    rest false c h = h

    by : (k ≡ n) ⊎ (k ≢ n) → (k < n → 0 < count_of p n) → 0 < count_of p (suc n)
    by (inl e) more = first (p n) (count_of p n) (subst (λ x. p x ≡ true) e holds)
    by (inr a) more = rest (p n) (count_of p n) (more (omega arith))

-- where two labels are left, there are fewer joins than numbers
pub joins_few : (count : ℕ) (js : List Join) → AreJoins count js → (l : ℕ) → l < count → label js l ≡ l → length js < count
joins_few count js are l within alive =
    let e = labels_left count js are in
    let p = count_some (λ x. nat_eq (label js x) x) count l within (ap (λ k. nat_eq k l) alive ∙ nat_same l) in
    omega (arith, e, p)
