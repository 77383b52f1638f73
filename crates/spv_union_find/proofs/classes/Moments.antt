-- When labels were taken away.
use Rattle.std.proofs.Common.{◌≡◌, ◌≢◌, ℕ, zero, suc, ◌+◌, ◌-◌, ◌<◌, ◌≤◌, Bool, true, false, nat_eq, nat_lt, List, [], ◌∷◌, ◌++◌, take, length, slice_get, Option, Some, None, refl, sym, ap, subst, ◌∙◌, arith, inl, inr, ◌⊎◌, if◌then◌else◌}
use Rattle.std.proofs.lemmas.Bool.{false≢true}
use Rattle.std.proofs.lemmas.Bool.Decides.{nat_tests}
use Rattle.std.proofs.lemmas.List.{take_all, take-take}
use Rattle.spv_union_find.specs.declared.classes.joins.Join.{Join}
use Rattle.spv_union_find.specs.classes.Classes.{label, one_label, taken_from, taken_at, before_time, IsJoin, AreJoins, IsLatest, IsNextTaken}
use Rattle.spv_union_find.proofs.classes.Lists.{same_or_apart, nat_same, nat_apart, get_within, get_take, got}
use Rattle.spv_union_find.proofs.classes.Labels.{label_push, one_label-lower, one_label-other, label_of_label, label_in, taken_label}

-- the first so many joins are joins
pub are_taken : (count : ℕ) (js : List Join) (n : ℕ) → AreJoins count js → AreJoins count (take n js)
are_taken count js n are = record {
  each = λ i j at.
      let w = taken_less js n i j at in
      subst (λ ks. IsJoin count ks j) (sym (take-take i n js (omega (arith, w)))) (are.each i j (sym (get_take js i n w) ∙ at));
}
  where
    taken_less : (ks : List Join) (n i : ℕ) (j : Join) → slice_get (take n ks) i ≡ Some j → i < n
    taken_less [] zero i j at = absurd (cc)
    taken_less [] (suc n) i j at = absurd (cc)
    taken_less (k ∷ ks) zero i j at = absurd (cc)
    taken_less (k ∷ ks) (suc n) zero j at = omega arith
    taken_less (k ∷ ks) (suc n) (suc i) j at = let h = taken_less ks n i j at in omega (arith, h)

pub take_one : (js : List Join) (n : ℕ) (j : Join) → slice_get js n ≡ Some j → take (suc n) js ≡ take n js ++ j ∷ []
take_one [] n j at = absurd (cc)
take_one (k ∷ js) zero j at = ap (λ y. y ∷ []) (one k j at)
  where
    one : (k j : Join) → Some k ≡ Some j → k ≡ j
    one k j e = cc
take_one (k ∷ js) (suc n) j at = ap (λ ys. k ∷ ys) (take_one js n j at)

pub label_next : (js : List Join) (n : ℕ) (j : Join) (x : ℕ) → slice_get js n ≡ Some j → label (take (suc n) js) x ≡ one_label (label (take n js) x) j
label_next js n j x at = ap (λ ks. label ks x) (take_one js n j at) ∙ label_push (take n js) j x

-- what is the same at a time stays so
pub same_later : (js : List Join) (x y : ℕ) (m n : ℕ) → m ≤ n → n ≤ length js → label (take m js) x ≡ label (take m js) y → label (take n js) x ≡ label (take n js) y
same_later js x y m zero le lim e = subst (λ k. label (take k js) x ≡ label (take k js) y) zero_is e
  where
    zero_is : m ≡ 0
    zero_is = omega (arith, le)
same_later js x y m (suc n) le lim e = by (same_or_apart m (suc n)) (λ h. same_later js x y m n h (omega (arith, lim)) e)
  where
    next : label (take n js) x ≡ label (take n js) y → label (take (suc n) js) x ≡ label (take (suc n) js) y
    next h = let j = got js n (omega (arith, lim)) in label_next js n j.0 x j.1 ∙ (ap (λ l. one_label l j.0) h ∙ sym (label_next js n j.0 y j.1))

    by : (m ≡ suc n) ⊎ (m ≢ suc n) → (m ≤ n → label (take n js) x ≡ label (take n js) y) → label (take (suc n) js) x ≡ label (take (suc n) js) y
    by (inl f) earlier = subst (λ k. label (take k js) x ≡ label (take k js) y) f e
    by (inr a) earlier = next (earlier (omega (arith, le, a)))

-- ---- where a label was taken away

pub record IsTaken (js : List Join) (l p : ℕ) : Type 0 where
  pub join : Join
  pub there : slice_get js p ≡ Some join
  pub lower : join.lower ≡ l
  pub before : (i : ℕ) (j : Join) → i < p → slice_get js i ≡ Some j → j.lower ≢ l

taken_is : (js : List Join) (k l p : ℕ) → taken_from k js l ≡ Some p → (i : ℕ) × (p ≡ k + i) × IsTaken js l i
taken_is [] k l p e = absurd (cc)
taken_is (j ∷ js) k l p e = by (same_or_apart l j.lower) (λ h. taken_is js (suc k) l p h)
  where
    one : (m n : ℕ) → Some m ≡ Some n → m ≡ n
    one m n e = cc

    later : l ≢ j.lower → (i : ℕ) × (p ≡ suc k + i) × IsTaken js l i → (i : ℕ) × (p ≡ k + i) × IsTaken (j ∷ js) l i
    later a (i, f, t) = (suc i, omega (arith, f), record { join = t.join; there = t.there; lower = t.lower; before = λ m q less at. before m q less at })
      where
        before : (m : ℕ) (q : Join) → m < suc i → slice_get (j ∷ js) m ≡ Some q → q.lower ≢ l
        before zero q less at g = a (sym g ∙ ap (λ x. x.lower) (sym (one_join j q at)))
          where
            one_join : (j q : Join) → Some j ≡ Some q → j ≡ q
            one_join j q e = cc
        before (suc m) q less at g = t.before m q (omega (arith, less)) at g

    by : (l ≡ j.lower) ⊎ (l ≢ j.lower) → (taken_from (suc k) js l ≡ Some p → (i : ℕ) × (p ≡ suc k + i) × IsTaken js l i) → (i : ℕ) × (p ≡ k + i) × IsTaken (j ∷ js) l i
    by (inl f) rest =
        let t : nat_eq l j.lower ≡ true = ap (λ z. nat_eq l z) (sym f) ∙ nat_same l in
        let g : k ≡ p = one k p (sym (ap (λ b. if b then Some k else taken_from (suc k) js l) t) ∙ e) in
        (0, omega (arith, g), record { join = j; there = refl; lower = sym f; before = λ i q less at. absurd (omega (arith, less)) })
    by (inr a) rest = later a (rest (sym (ap (λ b. if b then Some k else taken_from (suc k) js l) (nat_apart l j.lower a)) ∙ e))

pub taken_some : (js : List Join) (l p : ℕ) → taken_at js l ≡ Some p → IsTaken js l p
taken_some js l p e = let t = taken_is js 0 l p e in subst (IsTaken js l) (let f = t.1 in omega (arith, f)) t.2

never : (js : List Join) (k l : ℕ) → taken_from k js l ≡ None → (i : ℕ) (j : Join) → slice_get js i ≡ Some j → j.lower ≢ l
never [] k l e i j at = absurd (cc)
never (q ∷ js) k l e i j at = by (same_or_apart l q.lower) i at (λ h m b. never js (suc k) l h m j b)
  where
    no : Some k ≡ None → ⊥
    no e = cc

    one_join : (j q : Join) → Some j ≡ Some q → j ≡ q
    one_join j q e = cc

    by : (l ≡ q.lower) ⊎ (l ≢ q.lower) → (i : ℕ) → slice_get (q ∷ js) i ≡ Some j → (taken_from (suc k) js l ≡ None → (m : ℕ) → slice_get js m ≡ Some j → j.lower ≢ l) → j.lower ≢ l
    by (inl f) i at rest g = no (sym (ap (λ b. if b then Some k else taken_from (suc k) js l) (ap (λ z. nat_eq l z) (sym f) ∙ nat_same l)) ∙ e)
    by (inr a) zero at rest g = a (sym g ∙ ap (λ x. x.lower) (sym (one_join q j at)))
    by (inr a) (suc i) at rest g = rest (sym (ap (λ b. if b then Some k else taken_from (suc k) js l) (nat_apart l q.lower a)) ∙ e) i at g

pub taken_none : (js : List Join) (l : ℕ) → taken_at js l ≡ None → (i : ℕ) (j : Join) → slice_get js i ≡ Some j → j.lower ≢ l
taken_none js l e = never js 0 l e

-- ---- a label stays until it is taken away

pub stays_until : (js : List Join) (x l t p : ℕ) → t ≤ p → p ≤ length js → label (take t js) x ≡ l → ((i : ℕ) (j : Join) → i < p → slice_get js i ≡ Some j → j.lower ≢ l) → label (take p js) x ≡ l
stays_until js x l t zero le lim e before = subst (λ k. label (take k js) x ≡ l) zero_is e
  where
    zero_is : t ≡ 0
    zero_is = omega (arith, le)
stays_until js x l t (suc p) le lim e before = by (same_or_apart t (suc p)) (λ h. stays_until js x l t p h (omega (arith, lim)) e (λ i j less at. before i j (omega (arith, less)) at))
  where
    next : label (take p js) x ≡ l → label (take (suc p) js) x ≡ l
    next h =
        let j = got js p (omega (arith, lim)) in
        label_next js p j.0 x j.1 ∙ (ap (λ m. one_label m j.0) h ∙ one_label-other l j.0 (λ g. before p j.0 (omega arith) j.1 (sym g)))

    by : (t ≡ suc p) ⊎ (t ≢ suc p) → (t ≤ p → label (take p js) x ≡ l) → label (take (suc p) js) x ≡ l
    by (inl f) earlier = subst (λ k. label (take k js) x ≡ l) f e
    by (inr a) earlier = next (earlier (omega (arith, le, a)))

module _ (count : ℕ) (js : List Join) (are : AreJoins count js) where
  -- a label that is one at a time was not taken away before
  pub not_before : (x l t p : ℕ) → label (take t js) x ≡ l → IsTaken js l p → t ≤ p
  not_before x l t p e taken = by (nat_lt p t) refl
    where
      alive : label (take t js) l ≡ l
      alive = subst (λ m. label (take t js) m ≡ m) e (label_of_label count (take t js) (are_taken count js t are) x)

      none : taken_at (take t js) l ≡ None
      none = taken_label count (take t js) (are_taken count js t are) l alive

      less : (b : Bool) → nat_lt p t ≡ b → b ≡ true → p < t
      less b e f = test p t (e ∙ f)
        where
          test : (m n : ℕ) → nat_lt m n ≡ true → m < n
          test m n h = grind (arith, nat_tests)

      by : (b : Bool) → nat_lt p t ≡ b → t ≤ p
      by true f = absurd (taken_none (take t js) l none p taken.join (get_take js p t (less true f refl) ∙ taken.there) taken.lower)
      by false f = test p t f
        where
          test : (m n : ℕ) → nat_lt m n ≡ false → n ≤ m
          test m n h = grind (arith, nat_tests)

-- ---- the next of two labels that is taken away

pub next_first : (js : List Join) (a b i j : ℕ) → taken_at js a ≡ Some i → taken_at js b ≡ Some j → i ≤ j → IsNextTaken js a b i
next_first js a b i j ai bj le =
    let s = taken_some js a i ai in
    let t = taken_some js b j bj in
    record {
      within = get_within js i s.join s.there;
      before = λ m q less at. (s.before m q less at, t.before m q (omega (arith, less, le)) at);
      here = λ q at. inl (ap (λ x. x.lower) (one q s.join (sym at ∙ s.there)) ∙ s.lower);
    }
  where
    one : (q r : Join) → Some q ≡ Some r → q ≡ r
    one q r e = cc

pub next_alone : (js : List Join) (a b i : ℕ) → taken_at js a ≡ Some i → taken_at js b ≡ None → IsNextTaken js a b i
next_alone js a b i ai bn =
    let s = taken_some js a i ai in
    record {
      within = get_within js i s.join s.there;
      before = λ m q less at. (s.before m q less at, taken_none js b bn m q at);
      here = λ q at. inl (ap (λ x. x.lower) (one q s.join (sym at ∙ s.there)) ∙ s.lower);
    }
  where
    one : (q r : Join) → Some q ≡ Some r → q ≡ r
    one q r e = cc

pub next_turned : (js : List Join) (a b i : ℕ) → IsNextTaken js a b i → IsNextTaken js b a i
next_turned js a b i n = record {
  within = n.within;
  before = λ m q less at. ((n.before m q less at).1, (n.before m q less at).0);
  here = λ q at. turn (n.here q at);
}
  where
    turn : {A B : Type 0} → A ⊎ B → B ⊎ A
    turn (inl h) = inr h
    turn (inr h) = inl h

-- ---- going up with two labels

module _ (count : ℕ) (js : List Join) (are : AreJoins count js) (x y a b t : ℕ) (lim : t ≤ length js) (a_is : a ≡ label (take t js) x) (b_is : b ≡ label (take t js) y) (apart : a ≢ b) where
  pub up_in : (z c : ℕ) → c ≡ label (take t js) z → z < count → c < count
  up_in z c e h = subst (λ k. k < count) (sym e) (label_in count (take t js) (are_taken count js t are) z h)

  pub up_some : label js x ≡ label js y → (taken_at js a ≢ None) ⊎ (taken_at js b ≢ None)
  up_some same = by (taken_at js a) refl (taken_at js b) refl
    where
      whole : (z c : ℕ) → c ≡ label (take t js) z → taken_at js c ≡ None → label js z ≡ c
      whole z c e n = sym (ap (λ ks. label ks z) (take_all (length js) js (omega arith))) ∙ stays_until js z c t (length js) lim (omega arith) (sym e) (λ i j less at. taken_none js c n i j at)

      some : (o : Option ℕ) (i : ℕ) → o ≡ Some i → o ≢ None
      some o i e f = no i (sym e ∙ f)
        where
          no : (i : ℕ) → Some i ≡ None → ⊥
          no i e = cc

      by : (o : Option ℕ) → taken_at js a ≡ o → (p : Option ℕ) → taken_at js b ≡ p → (taken_at js a ≢ None) ⊎ (taken_at js b ≢ None)
      by (Some i) e p f = inl (some (taken_at js a) i e)
      by None e (Some i) f = inr (some (taken_at js b) i f)
      by None e None f = absurd (apart (sym (whole x a a_is e) ∙ (same ∙ whole y b b_is f)))

  module _ (p : ℕ) (n : IsNextTaken js a b p) (j : Join) (at : slice_get js p ≡ Some j) where
    pub not_earlier : t ≤ p
    not_earlier = by (n.here j at)
      where
        by : (j.lower ≡ a) ⊎ (j.lower ≡ b) → t ≤ p
        by (inl e) = not_before count js are x a t p (sym a_is) (record { join = j; there = at; lower = e; before = λ i q less there. (n.before i q less there).0 })
        by (inr e) = not_before count js are y b t p (sym b_is) (record { join = j; there = at; lower = e; before = λ i q less there. (n.before i q less there).1 })

    before_lim : p ≤ length js
    before_lim = let w = n.within in omega (arith, w)

    pub here_first : label (take p js) x ≡ a
    here_first = stays_until js x a t p not_earlier before_lim (sym a_is) (λ i q less there. (n.before i q less there).0)

    pub here_second : label (take p js) y ≡ b
    here_second = stays_until js y b t p not_earlier before_lim (sym b_is) (λ i q less there. (n.before i q less there).1)

    pub next_label : (next : ℕ) → next ≡ suc p → (z c d : ℕ) → label (take p js) z ≡ c → d ≡ one_label c j → d ≡ label (take next js) z
    next_label next f z c d e g = g ∙ (ap (λ l. one_label l j) (sym e) ∙ (sym (label_next js p j z at) ∙ ap (λ k. label (take k js) z) (sym f)))

    pub still_apart : label (take p js) x ≢ label (take p js) y
    still_apart e = apart (sym here_first ∙ (e ∙ here_second))

-- ---- going up with one

abbrev pub place_or : Option ℕ → ℕ → ℕ
place_or None n = n
place_or (Some p) n = p

module _ (count : ℕ) (js : List Join) (are : AreJoins count js) (at p : ℕ) (taken : taken_at js at ≡ Some p) (j : Join) (there : slice_get js p ≡ Some j) where
  is : IsJoin count (take p js) j
  is = are.each p j there

  is_lower : j.lower ≡ at
  is_lower = let t = taken_some js at p taken in ap (λ q. q.lower) (one j t.join (sym there ∙ t.there)) ∙ t.lower
    where
      one : (q r : Join) → Some q ≡ Some r → q ≡ r
      one q r e = cc

  pub upper_in : j.upper < count
  upper_in = is.upper_in

  upper_then : label (take (suc p) js) j.upper ≡ j.upper
  upper_then = label_next js p j j.upper there ∙ (ap (λ l. one_label l j) is.upper_is ∙ one_label-other j.upper j (λ e. is.apart (sym e)))

  lower_then : label (take (suc p) js) at ≡ j.upper
  lower_then = label_next js p j at there ∙ (ap (λ l. one_label l j) (ap (label (take p js)) (sym is_lower) ∙ is.lower_is) ∙ one_label-lower j)

  pub up_same : (time : ℕ) → p < time → time ≤ length js → label (take time js) at ≡ label (take time js) j.upper
  up_same time less lim = same_later js at j.upper (suc p) time (omega (arith, less)) lim (lower_then ∙ sym upper_then)

  pub up_later : suc (length js) - place_or (taken_at js j.upper) (length js) < suc (length js) - place_or (taken_at js at) (length js)
  up_later = by (taken_at js j.upper) refl
    where
      w : p < length js
      w = get_within js p j there

      by : (o : Option ℕ) → taken_at js j.upper ≡ o → suc (length js) - place_or (taken_at js j.upper) (length js) < suc (length js) - place_or (taken_at js at) (length js)
      by None e =
          let a = ap (λ o. place_or o (length js)) e in
          let b = ap (λ o. place_or o (length js)) taken in
          let v = w in
          omega (arith, a, b, v)
      by (Some q) e =
          let a = ap (λ o. place_or o (length js)) e in
          let b = ap (λ o. place_or o (length js)) taken in
          let t = taken_some js j.upper q e in
          let g = not_before count js are j.upper j.upper (suc p) q upper_then t in
          let v = get_within js q t.join t.there in
          omega (arith, a, b, g, v)

-- a label that is not taken before a time is its own then
pub own_label : (js : List Join) (l time : ℕ) → time ≤ length js → before_time time (taken_at js l) ≡ None → label (take time js) l ≡ l
own_label js l time lim none = stays_until js l l 0 time (omega arith) lim refl (λ i j less at. by (taken_at js l) refl i j less at)
  where
    no : (p : ℕ) → Some p ≡ None → ⊥
    no p e = cc

    test : (m n : ℕ) → nat_lt m n ≡ false → n ≤ m
    test m n h = grind (arith, nat_tests)

    late : (p : ℕ) → taken_at js l ≡ Some p → (b : Bool) → nat_lt p time ≡ b → time ≤ p
    late p e true f = absurd (no p (sym (ap (λ b. if b then Some p else None) f) ∙ (sym (ap (before_time time) e) ∙ none)))
    late p e false f = test p time f

    by : (o : Option ℕ) → taken_at js l ≡ o → (i : ℕ) (j : Join) → i < time → slice_get js i ≡ Some j → j.lower ≢ l
    by None e i j less at = taken_none js l e i j at
    by (Some p) e i j less at = let t = taken_some js l p e in (t.before i j (let g = late p e (nat_lt p time) refl in omega (arith, less, g)) at)

pub before_is : (time p : ℕ) (o : Option ℕ) → before_time time o ≡ Some p → (o ≡ Some p) × (p < time)
before_is time p None e = absurd (cc)
before_is time p (Some q) e = by (nat_lt q time) refl
  where
    one : (m n : ℕ) → Some m ≡ Some n → m ≡ n
    one m n e = cc

    no : None ≡ Some p → ⊥
    no e = cc

    test : (m n : ℕ) → nat_lt m n ≡ true → m < n
    test m n h = grind (arith, nat_tests)

    by : (b : Bool) → nat_lt q time ≡ b → (Some q ≡ Some p) × (p < time)
    by true f =
        let g : q ≡ p = one q p (sym (ap (λ b. if b then Some q else None) f) ∙ e) in
        (ap Some g, subst (λ k. k < time) g (test q time f))
    by false f = absurd (no (sym (ap (λ b. if b then Some q else None) f) ∙ e))

-- the last join was found
pub latest_is : (js : List Join) (x y a b t : ℕ) → t ≤ length js → a ≡ label (take t js) x → b ≡ label (take t js) y → a ≡ b → x ≢ y
    → (t ≡ 0) ⊎ ((0 < t) × (label (take (t - 1) js) x ≢ label (take (t - 1) js) y)) → IsLatest js x y (t - 1)
latest_is js x y a b t lim a_is b_is same apart (inl e) = absurd (apart (sym (start x) ∙ (sym a_is ∙ (same ∙ (b_is ∙ start y)))))
  where
    start : (z : ℕ) → label (take t js) z ≡ z
    start z = ap (λ k. label (take k js) z) e ∙ zero_is js
      where
        zero_is : (ks : List Join) → label (take 0 ks) z ≡ z
        zero_is [] = refl
        zero_is (k ∷ ks) = refl
latest_is js x y a b t lim a_is b_is same apart (inr h) =
    let p = h.0 in
    let e : t ≡ suc (t - 1) = omega (arith, p) in
    record {
      within = omega (arith, p, lim);
      apart = h.1;
      same = subst (λ k. label (take k js) x ≡ label (take k js) y) e (sym a_is ∙ (same ∙ b_is));
    }
