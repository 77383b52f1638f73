-- Labels, sizes and rings after joins.
use Rattle.std.proofs.Common.{◌≡◌, ◌≢◌, ℕ, zero, suc, ◌+◌, ◌<◌, ◌≤◌, Bool, true, false, nat_eq, List, [], ◌∷◌, ◌++◌, take, drop, length, slice_get, fold, Option, Some, None, refl, sym, ap, subst, ◌∙◌, arith, inl, inr, ◌⊎◌, if◌then◌else◌}
use Rattle.std.proofs.lemmas.List.Sums.{fold_push}
use Rattle.spv_union_find.specs.declared.classes.joins.Join.{Join}
use Rattle.spv_union_find.specs.classes.Classes.{taken_from, taken_at, one_label, label, with_size, size, with_next, next, IsJoin, AreJoins}
use Rattle.spv_union_find.proofs.classes.Lists.{by_last, same_or_apart, nat_same, nat_apart, get_push, get_left, get_within, of_push, take_push, take_whole}

-- ---- one join more

pub label_push : (js : List Join) (j : Join) (x : ℕ) → label (js ++ j ∷ []) x ≡ one_label (label js x) j
label_push js j x = fold_push one_label x js j

pub size_push : (js : List Join) (j : Join) (l : ℕ) → size (js ++ j ∷ []) l ≡ with_size (size js) j l
size_push js j l = ap (λ f. f l) (fold_push with_size (λ l. 1) js j)

pub next_push : (js : List Join) (j : Join) (x : ℕ) → next (js ++ j ∷ []) x ≡ with_next (next js) j x
next_push js j x = ap (λ f. f x) (fold_push with_next (λ x. x) js j)

-- the first of two that is there
abbrev pub first_of : Option ℕ → Option ℕ → Option ℕ
first_of None o = o
first_of (Some k) o = Some k

pub taken_from-push : (js : List Join) (j : Join) (k x : ℕ) → taken_from k (js ++ j ∷ []) x ≡ first_of (taken_from k js x) (if nat_eq x j.lower then Some (k + length js) else None)
taken_from-push [] j k x = ap (λ n. if nat_eq x j.lower then Some n else None) plus
  where
    plus : k ≡ k + 0
    plus = omega arith
taken_from-push (i ∷ js) j k x = by (nat_eq x i.lower) (taken_from-push js j (suc k) x)
  where
    plus : suc k + length js ≡ k + suc (length js)
    plus = omega arith

    by : (b : Bool) → taken_from (suc k) (js ++ j ∷ []) x ≡ first_of (taken_from (suc k) js x) (if nat_eq x j.lower then Some (suc k + length js) else None)
        → (if b then Some k else taken_from (suc k) (js ++ j ∷ []) x) ≡ first_of (if b then Some k else taken_from (suc k) js x) (if nat_eq x j.lower then Some (k + suc (length js)) else None)
    by true h = refl
    by false h = h ∙ ap (λ n. first_of (taken_from (suc k) js x) (if nat_eq x j.lower then Some n else None)) plus

pub taken_push : (js : List Join) (j : Join) (x : ℕ) → taken_at (js ++ j ∷ []) x ≡ first_of (taken_at js x) (if nat_eq x j.lower then Some (length js) else None)
taken_push js j x = taken_from-push js j 0 x ∙ ap (λ n. first_of (taken_at js x) (if nat_eq x j.lower then Some n else None)) plus
  where
    plus : 0 + length js ≡ length js
    plus = omega arith

pub one_label-lower : (j : Join) → one_label j.lower j ≡ j.upper
one_label-lower j = ap (λ b. if b then j.upper else j.lower) (nat_same j.lower)

pub one_label-other : (l : ℕ) (j : Join) → l ≢ j.lower → one_label l j ≡ l
one_label-other l j h = ap (λ b. if b then j.upper else l) (nat_apart l j.lower h)

pub label_was_lower : (js : List Join) (j : Join) (x : ℕ) → label js x ≡ j.lower → label (js ++ j ∷ []) x ≡ j.upper
label_was_lower js j x e = label_push js j x ∙ (ap (λ l. one_label l j) e ∙ one_label-lower j)

pub label_stays : (js : List Join) (j : Join) (x : ℕ) → label js x ≢ j.lower → label (js ++ j ∷ []) x ≡ label js x
label_stays js j x h = label_push js j x ∙ one_label-other (label js x) j h

-- what was equal stays equal
pub same_stays : (js : List Join) (j : Join) (x y : ℕ) → label js x ≡ label js y → label (js ++ j ∷ []) x ≡ label (js ++ j ∷ []) y
same_stays js j x y e = label_push js j x ∙ (ap (λ l. one_label l j) e ∙ sym (label_push js j y))

-- ---- joins one by one

module _ (count : ℕ) where
  pub all_but_last : (js : List Join) (j : Join) → AreJoins count (js ++ j ∷ []) → AreJoins count js
  all_but_last js j are = record {
    each = λ i k at.
        let within : i < length js = get_within js i k at in
        subst (λ before. IsJoin count before k) (take_push i js j (omega arith)) (are.each i k (get_left js (j ∷ []) i within ∙ at));
  }

  pub last_join : (js : List Join) (j : Join) → AreJoins count (js ++ j ∷ []) → IsJoin count js j
  last_join js j are = subst (λ before. IsJoin count before j) (take_whole js (j ∷ [])) (are.each (length js) j (get_push js j))

  pub one_more : (js : List Join) (j : Join) → AreJoins count js → IsJoin count js j → AreJoins count (js ++ j ∷ [])
  one_more js j are is = record {
    each = of_push (λ i k. IsJoin count (take i (js ++ j ∷ [])) k) js j
        (λ i k at. subst (λ before. IsJoin count before k) (sym (take_push i js j (omega (arith, get_within js i k at)))) (are.each i k at))
        (subst (λ before. IsJoin count before j) (sym (take_whole js (j ∷ []))) is);
  }

  -- induction over joins
  pub by_joins : (P : List Join → Type 0) → P [] → ((js : List Join) (j : Join) → AreJoins count js → IsJoin count js j → P js → P (js ++ j ∷ [])) → (js : List Join) → AreJoins count js → P js
  by_joins P start step js are = by_last (λ ks. AreJoins count ks → P ks)
      (λ ks k h more. step ks k (all_but_last ks k more) (last_join ks k more) (h (all_but_last ks k more)))
      (λ h. start) js are

  -- a label is a number of its own class, and below the count
  pub label_of_label : (js : List Join) → AreJoins count js → (x : ℕ) → label js (label js x) ≡ label js x
  label_of_label = by_joins (λ js. (x : ℕ) → label js (label js x) ≡ label js x) (λ x. refl) step
    where
      step : (js : List Join) (j : Join) → AreJoins count js → IsJoin count js j → ((x : ℕ) → label js (label js x) ≡ label js x)
          → (x : ℕ) → label (js ++ j ∷ []) (label (js ++ j ∷ []) x) ≡ label (js ++ j ∷ []) x
      step js j are is old x = by (same_or_apart (label js x) j.lower)
        where
          upper_stays : label (js ++ j ∷ []) j.upper ≡ j.upper
          upper_stays = label_stays js j j.upper (λ e. is.apart (sym (sym is.upper_is ∙ e))) ∙ is.upper_is

          by : (label js x ≡ j.lower) ⊎ (label js x ≢ j.lower) → label (js ++ j ∷ []) (label (js ++ j ∷ []) x) ≡ label (js ++ j ∷ []) x
          by (inl e) = let f = label_was_lower js j x e in ap (label (js ++ j ∷ [])) f ∙ (upper_stays ∙ sym f)
          by (inr h) =
              let f = label_stays js j x h in
              ap (label (js ++ j ∷ [])) f ∙ (label_stays js j (label js x) (λ e. h (sym (old x) ∙ e)) ∙ (old x ∙ sym f))

  pub label_in : (js : List Join) → AreJoins count js → (x : ℕ) → x < count → label js x < count
  label_in = by_joins (λ js. (x : ℕ) → x < count → label js x < count) (λ x h. h) step
    where
      step : (js : List Join) (j : Join) → AreJoins count js → IsJoin count js j → ((x : ℕ) → x < count → label js x < count)
          → (x : ℕ) → x < count → label (js ++ j ∷ []) x < count
      step js j are is old x within = by (same_or_apart (label js x) j.lower)
        where
          by : (label js x ≡ j.lower) ⊎ (label js x ≢ j.lower) → label (js ++ j ∷ []) x < count
          by (inl e) = subst (λ l. l < count) (sym (label_was_lower js j x e)) is.upper_in
          by (inr h) = subst (λ l. l < count) (sym (label_stays js j x h)) (old x within)

  -- a number past the count is alone
  pub label_past : (js : List Join) → AreJoins count js → (x : ℕ) → count ≤ x → label js x ≡ x
  label_past = by_joins (λ js. (x : ℕ) → count ≤ x → label js x ≡ x) (λ x h. refl) step
    where
      step : (js : List Join) (j : Join) → AreJoins count js → IsJoin count js j → ((x : ℕ) → count ≤ x → label js x ≡ x)
          → (x : ℕ) → count ≤ x → label (js ++ j ∷ []) x ≡ x
      step js j are is old x past = label_stays js j x (λ e. no (sym (old x past) ∙ e)) ∙ old x past
        where
          no : x ≡ j.lower → ⊥
          no e = let h = is.lower_in in omega (arith, e, h, past)

  -- a label was not taken away
  pub taken_label : (js : List Join) → AreJoins count js → (x : ℕ) → label js x ≡ x → taken_at js x ≡ None
  taken_label = by_joins (λ js. (x : ℕ) → label js x ≡ x → taken_at js x ≡ None) (λ x h. refl) step
    where
      step : (js : List Join) (j : Join) → AreJoins count js → IsJoin count js j → ((x : ℕ) → label js x ≡ x → taken_at js x ≡ None)
          → (x : ℕ) → label (js ++ j ∷ []) x ≡ x → taken_at (js ++ j ∷ []) x ≡ None
      step js j are is old x alone = by (same_or_apart (label js x) j.lower)
        where
          by : (label js x ≡ j.lower) ⊎ (label js x ≢ j.lower) → taken_at (js ++ j ∷ []) x ≡ None
          by (inl e) =
              let f : x ≡ j.upper = sym alone ∙ label_was_lower js j x e in
              absurd (is.apart (sym e ∙ (ap (label js) f ∙ is.upper_is)))
          by (inr h) =
              let f : label js x ≡ x = sym (label_stays js j x h) ∙ alone in
              taken_push js j x
              ∙ (ap (λ o. first_of o (if nat_eq x j.lower then Some (length js) else None)) (old x f)
              ∙ ap (λ b. if b then Some (length js) else None) (nat_apart x j.lower (λ e. h (f ∙ e))))
