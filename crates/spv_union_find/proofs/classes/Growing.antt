-- One number more.
use Rattle.std.proofs.Common.{◌≡◌, ◌≢◌, ℕ, zero, suc, ◌+◌, ◌<◌, ◌≤◌, Bool, true, false, nat_eq, List, [], ◌∷◌, ◌++◌, length, slice_get, slice_index_or, fold, Option, Some, None, refl, sym, ap, subst, ◌∙◌, arith, inl, inr, ◌⊎◌, if◌then◌else◌}
use Rattle.std.proofs.lemmas.List.{get_or_append_left, get_or_push, length_push}
use Rattle.spv_union_find.specs.declared.classes.joins.Join.{Join}
use Rattle.spv_union_find.specs.declared.classes.joins.Point.{Point}
use Rattle.spv_union_find.specs.classes.Classes.{label, size, next, with_size, with_next, taken_at, made, point, point_at, ArePoints, IsJoin, AreJoins}
use Rattle.spv_union_find.proofs.classes.Lists.{by_last, same_or_apart, nat_same, nat_apart, get_push, get_left, get_within, of_push, take_push, take_whole}
use Rattle.spv_union_find.proofs.classes.Labels.{label_push, size_push, next_push, by_joins, label_past, taken_label}

module _ (count : ℕ) where
  pub size_past : (js : List Join) → AreJoins count js → (x : ℕ) → count ≤ x → size js x ≡ 1
  size_past = by_joins count (λ js. (x : ℕ) → count ≤ x → size js x ≡ 1) (λ x h. refl) step
    where
      step : (js : List Join) (j : Join) → AreJoins count js → IsJoin count js j → ((x : ℕ) → count ≤ x → size js x ≡ 1)
          → (x : ℕ) → count ≤ x → size (js ++ j ∷ []) x ≡ 1
      step js j are is old x past =
          let e = ap (λ b. if b then size js j.upper + size js j.lower else size js x) (nat_apart x j.upper no) in
          size_push js j x ∙ (e ∙ old x past)
        where
          no : x ≡ j.upper → ⊥
          no e = let h = is.upper_in in omega (arith, e, h, past)

  pub next_past : (js : List Join) → AreJoins count js → (x : ℕ) → count ≤ x → next js x ≡ x
  next_past = by_joins count (λ js. (x : ℕ) → count ≤ x → next js x ≡ x) (λ x h. refl) step
    where
      step : (js : List Join) (j : Join) → AreJoins count js → IsJoin count js j → ((x : ℕ) → count ≤ x → next js x ≡ x)
          → (x : ℕ) → count ≤ x → next (js ++ j ∷ []) x ≡ x
      step js j are is old x past =
          next_push js j x
          ∙ (ap (λ b. if b then next js j.upper else (if nat_eq x j.upper then next js j.lower else next js x)) (nat_apart x j.lower not_lower)
          ∙ (ap (λ b. if b then next js j.lower else next js x) (nat_apart x j.upper not_upper) ∙ old x past))
        where
          not_upper : x ≡ j.upper → ⊥
          not_upper e = let h = is.upper_in in omega (arith, e, h, past)

          not_lower : x ≡ j.lower → ⊥
          not_lower e = let h = is.lower_in in omega (arith, e, h, past)

  pub more_in : (js : List Join) → AreJoins count js → AreJoins (count + 1) js
  more_in js are = record {
    each = λ i j at.
        let is = are.each i j at in
        record {
          lower_in = (let h = is.lower_in in omega (arith, h));
          upper_in = (let h = is.upper_in in omega (arith, h));
          left_in = (let h = is.left_in in omega (arith, h));
          right_in = (let h = is.right_in in omega (arith, h));
          apart = is.apart;
          lower_is = is.lower_is;
          upper_is = is.upper_is;
          sides = is.sides;
          smaller = is.smaller;
        };
  }

  pub point_past : (js : List Join) → AreJoins count js → (x : ℕ) → count ≤ x → point js x ≡ made x 1 x None
  point_past js are x past =
      let l = label_past count js are x past in
      let s = size_past js are x past in
      let n = next_past js are x past in
      let t = taken_label count js are x l in
      four _ _ _ _ _ l s n t
    where
      four : (l s n : ℕ) (o : Option ℕ) (x : ℕ) → l ≡ x → s ≡ 1 → n ≡ x → o ≡ None → made l s n o ≡ made x 1 x None
      four l s n o x e f g h = cc

-- what is kept when there is one number more
pub record Grown (js : List Join) (ps : List Point) : Type 0 where
  pub points : ArePoints js ps
  pub joins : AreJoins (length ps) js

grown_by : (js ks : List Join) (ps qs : List Point) (p : Point) → ks ≡ js → qs ≡ ps ++ p ∷ [] → ArePoints js ps → AreJoins (length ps) js
    → p ≡ made (length ps) 1 (length ps) None → Grown ks qs
grown_by js ks ps qs p e f points joins is = subst (λ k. Grown k qs) (sym e) (subst (λ q. Grown js q) (sym f) (record {
  points = record { each = λ x within. by x within (same_or_apart x (length ps)) };
  joins = subst (λ n. AreJoins n js) (sym (length_push ps p)) (more_in (length ps) js joins);
}))
  where
    by : (x : ℕ) → x < length (ps ++ p ∷ []) → (x ≡ length ps) ⊎ (x ≢ length ps) → point_at (ps ++ p ∷ []) x ≡ point js x
    by x within (inl g) =
        get_or_push ps p (point [] 0) x (sym g)
        ∙ (is ∙ sym (subst (λ n. point js x ≡ made n 1 n None) g (point_past (length ps) js joins x (omega (arith, g)))))
    by x within (inr h) =
        let less : x < length ps = omega (arith, length_push ps p, h, within) in
        get_or_append_left ps (p ∷ []) (point [] 0) x less ∙ points.each x less

pub grown : (js ks : List Join) (ps qs : List Point) (n : ℕ) → ks ≡ js → qs ≡ ps ++ made n 1 n None ∷ [] → ArePoints js ps → AreJoins (length ps) js → n ≡ length ps → Grown ks qs
grown js ks ps qs n e f points joins m = grown_by js ks ps qs (made n 1 n None) e f points joins (ap (λ k. made k 1 k None) m)
