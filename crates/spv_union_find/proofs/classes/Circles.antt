-- The members of a class stand on a ring.
use Rattle.std.proofs.Common.{◌≡◌, ◌≢◌, ℕ, zero, suc, ◌+◌, ◌<◌, ◌≤◌, Bool, true, false, nat_eq, List, [], ◌∷◌, ◌++◌, length, fold, refl, sym, ap, subst, ◌∙◌, arith, inl, inr, ◌⊎◌, if◌then◌else◌}
use Rattle.std.proofs.lemmas.List.{length-append}
use Rattle.std.proofs.lemmas.List.Sums.{fold_push}
use Rattle.spv_union_find.specs.declared.classes.joins.Join.{Join}
use Rattle.spv_union_find.specs.classes.Classes.{label, size, next, with_size, with_next, IsJoin, AreJoins}
use Rattle.spv_union_find.proofs.classes.Lists.{same_or_apart, nat_same, nat_apart}
use Rattle.spv_union_find.proofs.classes.Labels.{size_push, next_push, label_was_lower, label_stays, by_joins, label_past}

-- from a number, from each to the next one through these, to a number
abbrev pub Walk : (ℕ → ℕ) → ℕ → List ℕ → ℕ → Type 0
Walk f x [] y = x ≡ y
Walk f x (z ∷ zs) y = (x ≡ z) × Walk f (f z) zs y

abbrev pub In : ℕ → List ℕ → Type 0
In x [] = ⊥
In x (z ∷ zs) = (x ≡ z) ⊎ In x zs

pub in_or_not : (x : ℕ) (zs : List ℕ) → In x zs ⊎ (In x zs → ⊥)
in_or_not x [] = inr (λ h. h)
in_or_not x (z ∷ zs) = by (same_or_apart x z) (in_or_not x zs)
  where
    by : (x ≡ z) ⊎ (x ≢ z) → In x zs ⊎ (In x zs → ⊥) → In x (z ∷ zs) ⊎ (In x (z ∷ zs) → ⊥)
    by (inl e) rest = inl (inl e)
    by (inr h) (inl i) = inl (inr i)
    by (inr h) (inr n) = inr none
      where
        none : In x (z ∷ zs) → ⊥
        none (inl e) = h e
        none (inr i) = n i

pub in_left : (x : ℕ) (zs ws : List ℕ) → In x zs → In x (zs ++ ws)
in_left x [] ws h = absurd h
in_left x (z ∷ zs) ws (inl e) = inl e
in_left x (z ∷ zs) ws (inr h) = inr (in_left x zs ws h)

pub in_right : (x : ℕ) (zs ws : List ℕ) → In x ws → In x (zs ++ ws)
in_right x [] ws h = h
in_right x (z ∷ zs) ws h = inr (in_right x zs ws h)

pub in_append : (x : ℕ) (zs ws : List ℕ) → In x (zs ++ ws) → In x zs ⊎ In x ws
in_append x [] ws h = inr h
in_append x (z ∷ zs) ws (inl e) = inl (inl e)
in_append x (z ∷ zs) ws (inr h) = by (in_append x zs ws h)
  where
    by : In x zs ⊎ In x ws → In x (z ∷ zs) ⊎ In x ws
    by (inl i) = inl (inr i)
    by (inr i) = inr i

pub walk_append : (f : ℕ → ℕ) (x : ℕ) (zs : List ℕ) (y : ℕ) (ws : List ℕ) (v : ℕ) → Walk f x zs y → Walk f y ws v → Walk f x (zs ++ ws) v
walk_append f x [] y ws v e w = subst (λ u. Walk f u ws v) (sym e) w
walk_append f x (z ∷ zs) y ws v h w = (h.0, walk_append f (f z) zs y ws v h.1 w)

pub walk_agrees : (f g : ℕ → ℕ) (x : ℕ) (zs : List ℕ) (y : ℕ) → Walk f x zs y → ((z : ℕ) → In z zs → g z ≡ f z) → Walk g x zs y
walk_agrees f g x [] y e same = e
walk_agrees f g x (z ∷ zs) y h same =
    (h.0, subst (λ u. Walk g u zs y) (sym (same z (inl refl))) (walk_agrees f g (f z) zs y h.1 (λ w i. same w (inr i))))

-- the members of a class but for its label, in the order of the ring
abbrev pub with_others : (ℕ → List ℕ) → Join → ℕ → List ℕ
with_others f j l = if nat_eq l j.upper then f j.lower ++ j.lower ∷ f j.upper else f l

abbrev pub others : List Join → ℕ → List ℕ
others joins = fold with_others (λ l. []) joins

others_push : (js : List Join) (j : Join) (l : ℕ) → others (js ++ j ∷ []) l ≡ with_others (others js) j l
others_push js j l = ap (λ f. f l) (fold_push with_others (λ l. []) js j)

pub record IsRing (count : ℕ) (js : List Join) (l : ℕ) : Type 0 where
  pub walk : Walk (next js) (next js l) (others js l) l
  pub many : size js l ≡ suc (length (others js l))
  pub labels : (x : ℕ) → In x (others js l) → label js x ≡ l
  pub apart : (x : ℕ) → In x (others js l) → x ≢ l
  pub within : (x : ℕ) → In x (others js l) → x < count
  pub all : (x : ℕ) → label js x ≡ l → (x ≡ l) ⊎ In x (others js l)

module _ (count : ℕ) (js : List Join) (j : Join) (are : AreJoins count js) (is : IsJoin count js j) where
  pub next_lower : next (js ++ j ∷ []) j.lower ≡ next js j.upper
  next_lower = next_push js j j.lower ∙ ap (λ b. if b then next js j.upper else (if nat_eq j.lower j.upper then next js j.lower else next js j.lower)) (nat_same j.lower)

  pub next_upper : next (js ++ j ∷ []) j.upper ≡ next js j.lower
  next_upper =
      next_push js j j.upper
      ∙ (ap (λ b. if b then next js j.upper else (if nat_eq j.upper j.upper then next js j.lower else next js j.upper)) (nat_apart j.upper j.lower (λ e. is.apart (sym e)))
      ∙ ap (λ b. if b then next js j.lower else next js j.upper) (nat_same j.upper))

  pub next_other : (x : ℕ) → x ≢ j.lower → x ≢ j.upper → next (js ++ j ∷ []) x ≡ next js x
  next_other x h k =
      next_push js j x
      ∙ (ap (λ b. if b then next js j.upper else (if nat_eq x j.upper then next js j.lower else next js x)) (nat_apart x j.lower h)
      ∙ ap (λ b. if b then next js j.lower else next js x) (nat_apart x j.upper k))

  pub size_upper : size (js ++ j ∷ []) j.upper ≡ size js j.upper + size js j.lower
  size_upper = size_push js j j.upper ∙ ap (λ b. if b then size js j.upper + size js j.lower else size js j.upper) (nat_same j.upper)

  pub size_other : (x : ℕ) → x ≢ j.upper → size (js ++ j ∷ []) x ≡ size js x
  size_other x h = size_push js j x ∙ ap (λ b. if b then size js j.upper + size js j.lower else size js x) (nat_apart x j.upper h)

  others_upper : others (js ++ j ∷ []) j.upper ≡ others js j.lower ++ j.lower ∷ others js j.upper
  others_upper = others_push js j j.upper ∙ ap (λ b. if b then others js j.lower ++ j.lower ∷ others js j.upper else others js j.upper) (nat_same j.upper)

  others_other : (x : ℕ) → x ≢ j.upper → others (js ++ j ∷ []) x ≡ others js x
  others_other x h = others_push js j x ∙ ap (λ b. if b then others js j.lower ++ j.lower ∷ others js j.upper else others js x) (nat_apart x j.upper h)

  pub upper_stays : label (js ++ j ∷ []) j.upper ≡ j.upper
  upper_stays = label_stays js j j.upper (λ e. is.apart (sym e ∙ is.upper_is)) ∙ is.upper_is

  pub lower_gone : label (js ++ j ∷ []) j.lower ≡ j.upper
  lower_gone = label_was_lower js j j.lower is.lower_is

  -- another label that is one after the join was one before, and neither of the two
  pub not_lower : (l : ℕ) → label (js ++ j ∷ []) l ≡ l → l ≢ j.lower
  not_lower l alive e = is.apart (sym (sym lower_gone ∙ (ap (label (js ++ j ∷ [])) (sym e) ∙ (alive ∙ e))))

  pub was_label : (l : ℕ) → label (js ++ j ∷ []) l ≡ l → l ≢ j.upper → label js l ≡ l
  was_label l alive other = by (same_or_apart (label js l) j.lower)
    where
      by : (label js l ≡ j.lower) ⊎ (label js l ≢ j.lower) → label js l ≡ l
      by (inl e) = absurd (other (sym alive ∙ label_was_lower js j l e))
      by (inr h) = sym (label_stays js j l h) ∙ alive

  module _ (low : IsRing count js j.lower) (high : IsRing count js j.upper) where
    agrees_low : (z : ℕ) → In z (others js j.lower) → next (js ++ j ∷ []) z ≡ next js z
    agrees_low z i = next_other z (low.apart z i) (λ e. is.apart (sym (low.labels z i) ∙ (ap (label js) e ∙ is.upper_is)))

    agrees_high : (z : ℕ) → In z (others js j.upper) → next (js ++ j ∷ []) z ≡ next js z
    agrees_high z i = next_other z (λ e. is.apart (sym (sym (high.labels z i) ∙ (ap (label js) e ∙ is.lower_is)))) (high.apart z i)

    whole_walk : Walk (next (js ++ j ∷ [])) (next (js ++ j ∷ []) j.upper) (others (js ++ j ∷ []) j.upper) j.upper
    whole_walk =
        let f = next (js ++ j ∷ []) in
        let first = walk_agrees (next js) f (next js j.lower) (others js j.lower) j.lower low.walk agrees_low in
        let second = walk_agrees (next js) f (next js j.upper) (others js j.upper) j.upper high.walk agrees_high in
        let behind : Walk f j.lower (j.lower ∷ others js j.upper) j.upper = (refl, subst (λ u. Walk f u (others js j.upper) j.upper) (sym next_lower) second) in
        subst (λ zs. Walk f (f j.upper) zs j.upper) (sym others_upper)
        (subst (λ u. Walk f u (others js j.lower ++ j.lower ∷ others js j.upper) j.upper) (sym next_upper)
        (walk_append f (next js j.lower) (others js j.lower) j.lower (j.lower ∷ others js j.upper) j.upper first behind))

    parts : (x : ℕ) → In x (others (js ++ j ∷ []) j.upper) → In x (others js j.lower) ⊎ ((x ≡ j.lower) ⊎ In x (others js j.upper))
    parts x i = in_append x (others js j.lower) (j.lower ∷ others js j.upper) (subst (In x) others_upper i)

    ring_upper : IsRing count (js ++ j ∷ []) j.upper
    ring_upper = record {
      walk = whole_walk;
      many = (let e = ap length others_upper in let n = length-append (others js j.lower) (j.lower ∷ others js j.upper) in let a = low.many in let b = high.many in let s = size_upper in omega (arith, e, n, a, b, s));
      labels = λ x i. labels x (parts x i);
      apart = λ x i. apart x (parts x i);
      within = λ x i. within x (parts x i);
      all = λ x e. all x e (same_or_apart (label js x) j.lower);
    }
      where
        labels : (x : ℕ) → In x (others js j.lower) ⊎ ((x ≡ j.lower) ⊎ In x (others js j.upper)) → label (js ++ j ∷ []) x ≡ j.upper
        labels x (inl i) = label_was_lower js j x (low.labels x i)
        labels x (inr (inl e)) = ap (label (js ++ j ∷ [])) e ∙ lower_gone
        labels x (inr (inr i)) = label_stays js j x (λ e. is.apart (sym e ∙ high.labels x i)) ∙ high.labels x i

        apart : (x : ℕ) → In x (others js j.lower) ⊎ ((x ≡ j.lower) ⊎ In x (others js j.upper)) → x ≢ j.upper
        apart x (inl i) e = is.apart (sym (low.labels x i) ∙ (ap (label js) e ∙ is.upper_is))
        apart x (inr (inl e)) f = is.apart (sym e ∙ f)
        apart x (inr (inr i)) e = high.apart x i e

        within : (x : ℕ) → In x (others js j.lower) ⊎ ((x ≡ j.lower) ⊎ In x (others js j.upper)) → x < count
        within x (inl i) = low.within x i
        within x (inr (inl e)) = subst (λ y. y < count) (sym e) is.lower_in
        within x (inr (inr i)) = high.within x i

        inside : (x : ℕ) → In x (others js j.lower ++ j.lower ∷ others js j.upper) → In x (others (js ++ j ∷ []) j.upper)
        inside x i = subst (In x) (sym others_upper) i

        from_low : (x : ℕ) → (x ≡ j.lower) ⊎ In x (others js j.lower) → (x ≡ j.upper) ⊎ In x (others (js ++ j ∷ []) j.upper)
        from_low x (inl e) = inr (inside x (in_right x (others js j.lower) (j.lower ∷ others js j.upper) (inl e)))
        from_low x (inr i) = inr (inside x (in_left x (others js j.lower) (j.lower ∷ others js j.upper) i))

        from_high : (x : ℕ) → (x ≡ j.upper) ⊎ In x (others js j.upper) → (x ≡ j.upper) ⊎ In x (others (js ++ j ∷ []) j.upper)
        from_high x (inl e) = inl e
        from_high x (inr i) = inr (inside x (in_right x (others js j.lower) (j.lower ∷ others js j.upper) (inr i)))

        all : (x : ℕ) → label (js ++ j ∷ []) x ≡ j.upper → (label js x ≡ j.lower) ⊎ (label js x ≢ j.lower) → (x ≡ j.upper) ⊎ In x (others (js ++ j ∷ []) j.upper)
        all x e (inl h) = from_low x (low.all x h)
        all x e (inr h) = from_high x (high.all x (sym (label_stays js j x h) ∙ e))

  ring_other : (l : ℕ) → label (js ++ j ∷ []) l ≡ l → l ≢ j.upper → IsRing count js l → IsRing count (js ++ j ∷ []) l
  ring_other l alive other old =
      let before = was_label l alive other in
      let f = next (js ++ j ∷ []) in
      let lower = not_lower l alive in
      let agrees : (z : ℕ) → In z (others js l) → f z ≡ next js z = λ z i. next_other z
      (λ e. lower (sym (old.labels z i) ∙ (ap (label js) e ∙ is.lower_is)))
      (λ e. other (sym (old.labels z i) ∙ (ap (label js) e ∙ is.upper_is))) in
      let same = others_other l other in
      let back : (x : ℕ) → In x (others (js ++ j ∷ []) l) → In x (others js l) = λ x i. subst (In x) same i in
      record {
        walk = subst (λ zs. Walk f (f l) zs l) (sym same)
            (subst (λ u. Walk f u (others js l) l) (sym (next_other l lower other)) (walk_agrees (next js) f (next js l) (others js l) l old.walk agrees));
        many = size_other l other ∙ (old.many ∙ ap (λ zs. suc (length zs)) (sym same));
        labels = λ x i. label_stays js j x (λ e. lower (sym (old.labels x (back x i)) ∙ e)) ∙ old.labels x (back x i);
        apart = λ x i. old.apart x (back x i);
        within = λ x i. old.within x (back x i);
        all = λ x e. all x e (same_or_apart (label js x) j.lower);
      }
    where
      forth : (x : ℕ) → (x ≡ l) ⊎ In x (others js l) → (x ≡ l) ⊎ In x (others (js ++ j ∷ []) l)
      forth x (inl e) = inl e
      forth x (inr i) = inr (subst (In x) (sym (others_other l other)) i)

      all : (x : ℕ) → label (js ++ j ∷ []) x ≡ l → (label js x ≡ j.lower) ⊎ (label js x ≢ j.lower) → (x ≡ l) ⊎ In x (others (js ++ j ∷ []) l)
      all x e (inl h) = absurd (other (sym e ∙ label_was_lower js j x h))
      all x e (inr h) = forth x (old.all x (sym (label_stays js j x h) ∙ e))

-- each class stands on a ring
pub ring : (count : ℕ) (js : List Join) → AreJoins count js → (l : ℕ) → label js l ≡ l → IsRing count js l
ring count = by_joins count (λ js. (l : ℕ) → label js l ≡ l → IsRing count js l)
    (λ l e. record { walk = refl; many = refl; labels = λ x i. absurd i; apart = λ x i. absurd i; within = λ x i. absurd i; all = λ x h. inl h })
    step
  where
    step : (js : List Join) (j : Join) → AreJoins count js → IsJoin count js j → ((l : ℕ) → label js l ≡ l → IsRing count js l)
        → (l : ℕ) → label (js ++ j ∷ []) l ≡ l → IsRing count (js ++ j ∷ []) l
    step js j are is old l alive = by (same_or_apart l j.upper)
      where
        by : (l ≡ j.upper) ⊎ (l ≢ j.upper) → IsRing count (js ++ j ∷ []) l
        by (inl e) = subst (λ k. IsRing count (js ++ j ∷ []) k) (sym e) (ring_upper count js j are is (old j.lower is.lower_is) (old j.upper is.upper_is))
        by (inr h) = ring_other count js j are is l alive h (old l (was_label count js j are is l alive h))

-- the next member of a number below the count is below it
pub next_in : (count : ℕ) (js : List Join) → AreJoins count js → (x : ℕ) → x < count → next js x < count
next_in count = by_joins count (λ js. (x : ℕ) → x < count → next js x < count) (λ x h. h) step
  where
    step : (js : List Join) (j : Join) → AreJoins count js → IsJoin count js j → ((x : ℕ) → x < count → next js x < count)
        → (x : ℕ) → x < count → next (js ++ j ∷ []) x < count
    step js j are is old x within = by (same_or_apart x j.lower) (same_or_apart x j.upper)
      where
        by : (x ≡ j.lower) ⊎ (x ≢ j.lower) → (x ≡ j.upper) ⊎ (x ≢ j.upper) → next (js ++ j ∷ []) x < count
        by (inl e) d = subst (λ y. y < count) (sym (ap (next (js ++ j ∷ [])) e ∙ next_lower count js j are is)) (old j.upper is.upper_in)
        by (inr h) (inl e) = subst (λ y. y < count) (sym (ap (next (js ++ j ∷ [])) e ∙ next_upper count js j are is)) (old j.lower is.lower_in)
        by (inr h) (inr k) = subst (λ y. y < count) (sym (next_other count js j are is x h k)) (old x within)
