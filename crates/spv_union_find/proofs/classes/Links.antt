-- The points after one more join, and after the last join is taken back.
use Rattle.std.proofs.Common.{◌≡◌, ◌≢◌, ℕ, zero, suc, ◌+◌, ◌-◌, ◌<◌, ◌≤◌, Bool, true, false, nat_eq, List, [], ◌∷◌, ◌++◌, length, slice_get, slice_set, slice_index_or, Option, Some, None, refl, sym, ap, subst, ◌∙◌, arith, inl, inr, ◌⊎◌, if◌then◌else◌}
use Rattle.std.proofs.lemmas.List.{length-set, get_or-set_same, get_or-set_other}
use Rattle.spv_union_find.specs.declared.classes.joins.Join.{Join}
use Rattle.spv_union_find.specs.declared.classes.joins.Point.{Point}
use Rattle.spv_union_find.specs.classes.Classes.{label, size, next, taken_at, made, point, point_at, with_label, relabelled, ArePoints, IsJoin, AreJoins, linked, parted, unlinked}
use Rattle.spv_union_find.proofs.classes.Lists.{same_or_apart, nat_same, nat_apart}
use Rattle.spv_union_find.proofs.classes.Labels.{label_was_lower, label_stays, taken_push, taken_label, first_of, label_in, one_more, all_but_last, last_join}
use Rattle.spv_union_find.proofs.classes.RingLemmas.{next-labelled, length-labelled}
use Rattle.spv_union_find.proofs.classes.Circles.{Walk, In, in_or_not, IsRing, ring, next_in, others, walk_agrees, next_lower, next_upper, next_other, size_upper, size_other, upper_stays, lower_gone}
use Rattle.spv_union_find.proofs.classes.Counts.{members_size, count_within}

nowhere : Point
nowhere = point [] 0

-- ---- labels put to a ring

pub length-relabelled : (n : ℕ) (points : List Point) (at to : ℕ) → length (relabelled points at n to) ≡ length points
length-relabelled zero points at to = refl
length-relabelled (suc n) points at to = length-relabelled n (slice_set points at (with_label (point_at points at) to)) (point_at points at).next to ∙ length-labelled points at (with_label (point_at points at) to)

-- the points of the numbers that are walked through get the label, the others stay
pub record IsPut (points qs : List Point) (zs : List ℕ) (to : ℕ) : Type 0 where
  pub inside : (x : ℕ) → In x zs → point_at qs x ≡ with_label (point_at points x) to
  pub outside : (x : ℕ) → (In x zs → ⊥) → point_at qs x ≡ point_at points x

put : (zs : List ℕ) (points : List Point) (f : ℕ → ℕ) (at y to : ℕ) → Walk f at zs y → ((z : ℕ) → In z zs → f z ≡ (point_at points z).next) → ((z : ℕ) → In z zs → z < length points)
    → IsPut points (relabelled points at (length zs) to) zs to
put [] points f at y to walk next_is within = record { inside = λ x i. absurd i; outside = λ x h. refl }
put (z ∷ zs) points f at y to walk next_is within =
    let ps = slice_set points at (with_label (point_at points at) to) in
    let at_in : at < length points = subst (λ w. w < length points) (sym walk.0) (within z (inl refl)) in
    let goes : f z ≡ (point_at points at).next = next_is z (inl refl) ∙ ap (λ w. (point_at points w).next) (sym walk.0) in
    let rest = put zs ps f (point_at points at).next y to (subst (λ u. Walk f u zs y) goes walk.1)
    (λ w i. next_is w (inr i) ∙ sym (next-labelled points at to w at_in))
    (λ w i. subst (λ n. w < n) (sym (length-labelled points at (with_label (point_at points at) to))) (within w (inr i))) in
    record {
      inside = λ x i. inside rest at_in x (in_or_not x zs) (same_or_apart x at) (by_head x i);
      outside = λ x h. rest.outside x (λ i. h (inr i)) ∙ get_or-set_other points at x (with_label (point_at points at) to) (point [] 0) (λ e. h (inl (e ∙ walk.0)));
    }
  where
    by_head : (x : ℕ) → In x (z ∷ zs) → (x ≡ at) ⊎ In x zs
    by_head x (inl e) = inl (e ∙ sym walk.0)
    by_head x (inr i) = inr i

    twice : (x : ℕ) → point_at (slice_set points at (with_label (point_at points at) to)) x ≡ with_label (point_at points x) to
        → with_label (point_at (slice_set points at (with_label (point_at points at) to)) x) to ≡ with_label (point_at points x) to
    twice x e = ap (λ p. with_label p to) e

    at_head : at < length points → (x : ℕ) → x ≡ at → point_at (slice_set points at (with_label (point_at points at) to)) x ≡ with_label (point_at points x) to
    at_head at_in x e = subst (λ w. point_at (slice_set points at (with_label (point_at points at) to)) w ≡ with_label (point_at points w) to) (sym e)
        (get_or-set_same points at (with_label (point_at points at) to) (point [] 0) at_in)

    inside : IsPut (slice_set points at (with_label (point_at points at) to)) (relabelled (slice_set points at (with_label (point_at points at) to)) (point_at points at).next (length zs) to) zs to
        → at < length points → (x : ℕ) → In x zs ⊎ (In x zs → ⊥) → (x ≡ at) ⊎ (x ≢ at) → (x ≡ at) ⊎ In x zs
        → point_at (relabelled (slice_set points at (with_label (point_at points at) to)) (point_at points at).next (length zs) to) x ≡ with_label (point_at points x) to
    inside rest at_in x (inl i) (inl e) h = rest.inside x i ∙ twice x (at_head at_in x e)
    inside rest at_in x (inl i) (inr a) h = rest.inside x i ∙ ap (λ p. with_label p to) (get_or-set_other points at x (with_label (point_at points at) to) (point [] 0) a)
    inside rest at_in x (inr n) (inl e) h = rest.outside x n ∙ at_head at_in x e
    inside rest at_in x (inr n) (inr a) (inl e) = absurd (a e)
    inside rest at_in x (inr n) (inr a) (inr i) = absurd (n i)

-- a whole class gets a label
pub class_put : (count : ℕ) (js : List Join) (points : List Point) (l to : ℕ) → AreJoins count js → label js l ≡ l → l < length points → count ≡ length points
    → ((x : ℕ) → x < length points → (point_at points x).next ≡ next js x) → IsPut points (relabelled points l (size js l) to) (l ∷ others js l) to
class_put count js points l to are alive l_in count_is next_is =
    let r = ring count js are l alive in
    let within : (z : ℕ) → In z (l ∷ others js l) → z < length points = λ z i. inside z i in
    subst (λ n. IsPut points (relabelled points l n to) (l ∷ others js l) to) (sym r.many)
    (put (l ∷ others js l) points (next js) l l to (refl, r.walk) (λ z i. sym (next_is z (within z i))) within)
  where
    inside : (z : ℕ) → In z (l ∷ others js l) → z < length points
    inside z (inl e) = subst (λ w. w < length points) (sym e) l_in
    inside z (inr i) = let h = (ring count js are l alive).within z i in omega (arith, h, count_is)

four : (l k s t n m : ℕ) (o p : Option ℕ) → l ≡ k → s ≡ t → n ≡ m → o ≡ p → made l s n o ≡ made k t m p
four l k s t n m o p e f g h = cc

taken_other : (js : List Join) (j : Join) (x : ℕ) → x ≢ j.lower → taken_at (js ++ j ∷ []) x ≡ taken_at js x
taken_other js j x h = taken_push js j x ∙ (ap (λ b. first_of (taken_at js x) (if b then Some (length js) else None)) (nat_apart x j.lower h) ∙ none (taken_at js x))
  where
    none : (o : Option ℕ) → first_of o None ≡ o
    none None = refl
    none (Some k) = refl

module _ (js : List Join) (j : Join) (points : List Point) (points_are : ArePoints js points) (are : AreJoins (length points) js) (is : IsJoin (length points) js j) where
  low_is : point_at points j.lower ≡ point js j.lower
  low_is = points_are.each j.lower is.lower_in

  high_is : point_at points j.upper ≡ point js j.upper
  high_is = points_are.each j.upper is.upper_in

  pub next_points : (x : ℕ) → x < length points → (point_at points x).next ≡ next js x
  next_points x h = ap (λ p. p.next) (points_are.each x h)

  taken_lower : taken_at (js ++ j ∷ []) j.lower ≡ Some (length js)
  taken_lower =
      taken_push js j j.lower
      ∙ (ap (λ o. first_of o (if nat_eq j.lower j.lower then Some (length js) else None)) (taken_label (length points) js are j.lower is.lower_is)
      ∙ ap (λ b. if b then Some (length js) else None) (nat_same j.lower))

  lower_point : point (js ++ j ∷ []) j.lower ≡ made j.upper (size js j.lower) (next js j.upper) (Some (length js))
  lower_point = four _ _ _ _ _ _ _ _ (lower_gone (length points) js j are is) (size_other (length points) js j are is j.lower is.apart) (next_lower (length points) js j are is) taken_lower

  upper_point : point (js ++ j ∷ []) j.upper ≡ made j.upper (size js j.upper + size js j.lower) (next js j.lower) (taken_at js j.upper)
  upper_point = four _ _ _ _ _ _ _ _ (upper_stays (length points) js j are is) (size_upper (length points) js j are is) (next_upper (length points) js j are is) (taken_other js j j.upper (λ e. is.apart (sym e)))

  other_point : (x : ℕ) → x ≢ j.lower → x ≢ j.upper → point (js ++ j ∷ []) x ≡ made (label (js ++ j ∷ []) x) (size js x) (next js x) (taken_at js x)
  other_point x h k = four _ _ _ _ _ _ _ _ refl (size_other (length points) js j are is x k) (next_other (length points) js j are is x h k) (taken_other js j x h)

  -- ---- one join more

  put_upper : IsPut points (relabelled points j.lower (point_at points j.lower).size j.upper) (j.lower ∷ others js j.lower) j.upper
  put_upper = subst (λ n. IsPut points (relabelled points j.lower n j.upper) (j.lower ∷ others js j.lower) j.upper) (sym (ap (λ p. p.size) low_is))
      (class_put (length points) js points j.lower j.upper are is.lower_is is.lower_in refl next_points)

  pub length-linked : (place : ℕ) → length (linked points j.lower j.upper place) ≡ length points
  length-linked place =
      length-set (slice_set (relabelled points j.lower (point_at points j.lower).size j.upper) j.lower (made j.upper (point_at points j.lower).size (point_at points j.upper).next (Some place))) j.upper _
      ∙ (length-set (relabelled points j.lower (point_at points j.lower).size j.upper) j.lower _ ∙ length-relabelled (point_at points j.lower).size points j.lower j.upper)

  pub linked_points : ArePoints (js ++ j ∷ []) (linked points j.lower j.upper (length js))
  linked_points = record { each = λ x within. by x (subst (λ n. x < n) (length-linked (length js)) within) (same_or_apart x j.upper) (same_or_apart x j.lower) }
    where
      ps : List Point
      ps = relabelled points j.lower (point_at points j.lower).size j.upper

      low : Point
      low = made j.upper (point_at points j.lower).size (point_at points j.upper).next (Some (length js))

      high : Point
      high = made j.upper ((point_at points j.upper).size + (point_at points j.lower).size) (point_at points j.lower).next (point_at points j.upper).taken

      other : (x : ℕ) → x < length points → x ≢ j.lower → x ≢ j.upper → In x (j.lower ∷ others js j.lower) ⊎ (In x (j.lower ∷ others js j.lower) → ⊥)
          → point_at (relabelled points j.lower (point_at points j.lower).size j.upper) x ≡ point (js ++ j ∷ []) x
      other x within h k (inl (inl e)) = absurd (h e)
      other x within h k (inl (inr i)) =
          put_upper.inside x (inr i)
          ∙ (ap (λ p. with_label p j.upper) (points_are.each x within)
          ∙ (four _ _ _ _ _ _ _ _ (sym (label_was_lower js j x ((ring (length points) js are j.lower is.lower_is).labels x i))) refl refl refl ∙ sym (other_point x h k)))
      other x within h k (inr n) =
          put_upper.outside x n
          ∙ (points_are.each x within
          ∙ (four _ _ _ _ _ _ _ _ (sym (label_stays js j x (λ e. n ((ring (length points) js are j.lower is.lower_is).all x e)))) refl refl refl ∙ sym (other_point x h k)))

      by : (x : ℕ) → x < length points → (x ≡ j.upper) ⊎ (x ≢ j.upper) → (x ≡ j.lower) ⊎ (x ≢ j.lower) → point_at (linked points j.lower j.upper (length js)) x ≡ point (js ++ j ∷ []) x
      by x within (inl e) d = subst (λ w. point_at (linked points j.lower j.upper (length js)) w ≡ point (js ++ j ∷ []) w) (sym e)
          (get_or-set_same (slice_set (relabelled points j.lower (point_at points j.lower).size j.upper) j.lower _) j.upper _ (point [] 0)
          (subst (λ n. j.upper < n) (sym (length-set (relabelled points j.lower (point_at points j.lower).size j.upper) j.lower _ ∙ length-relabelled (point_at points j.lower).size points j.lower j.upper)) is.upper_in)
          ∙ (four _ _ _ _ _ _ _ _ refl (ap (λ p. p.size + (point_at points j.lower).size) high_is ∙ ap (λ p. size js j.upper + p.size) low_is) (ap (λ p. p.next) low_is) (ap (λ p. p.taken) high_is) ∙ sym upper_point))
      by x within (inr k) (inl e) = get_or-set_other (slice_set (relabelled points j.lower (point_at points j.lower).size j.upper) j.lower _) j.upper x _ (point [] 0) k
          ∙ subst (λ w. point_at (slice_set (relabelled points j.lower (point_at points j.lower).size j.upper) j.lower (made j.upper (point_at points j.lower).size (point_at points j.upper).next (Some (length js)))) w ≡ point (js ++ j ∷ []) w) (sym e)
          (get_or-set_same (relabelled points j.lower (point_at points j.lower).size j.upper) j.lower _ (point [] 0)
          (subst (λ n. j.lower < n) (sym (length-relabelled (point_at points j.lower).size points j.lower j.upper)) is.lower_in)
          ∙ (four _ _ _ _ _ _ _ _ refl (ap (λ p. p.size) low_is) (ap (λ p. p.next) high_is) refl ∙ sym lower_point))
      by x within (inr k) (inr h) =
          get_or-set_other (slice_set (relabelled points j.lower (point_at points j.lower).size j.upper) j.lower _) j.upper x _ (point [] 0) k
          ∙ (get_or-set_other (relabelled points j.lower (point_at points j.lower).size j.upper) j.lower x _ (point [] 0) h
          ∙ other x within h k (in_or_not x (j.lower ∷ others js j.lower)))

  -- two classes have no more members than there are numbers
  pub sizes_fit : (point_at points j.upper).size + (point_at points j.lower).size ≤ length points
  sizes_fit =
      let e = ap (λ p. p.size) low_is in
      let f = ap (λ p. p.size) high_is in
      let s = size_upper (length points) js j are is in
      let m = members_size (length points) (js ++ j ∷ []) (one_more (length points) js j are is) j.upper is.upper_in (upper_stays (length points) js j are is) in
      let w = count_within (λ x. nat_eq (label (js ++ j ∷ []) x) j.upper) (length points) in
      omega (arith, e, f, s, m, w)

-- ---- the last join is taken back

module _ (js : List Join) (j : Join) (points : List Point) (points_are : ArePoints (js ++ j ∷ []) points) (more : AreJoins (length points) (js ++ j ∷ [])) where
  are : AreJoins (length points) js
  are = all_but_last (length points) js j more

  is : IsJoin (length points) js j
  is = last_join (length points) js j more

  low_was : point_at points j.lower ≡ point (js ++ j ∷ []) j.lower
  low_was = points_are.each j.lower is.lower_in

  high_was : point_at points j.upper ≡ point (js ++ j ∷ []) j.upper
  high_was = points_are.each j.upper is.upper_in

  pub low_size : (point_at points j.lower).size ≡ size js j.lower
  low_size = ap (λ p. p.size) low_was ∙ size_other (length points) js j are is j.lower is.apart

  pub high_size : (point_at points j.upper).size ≡ size js j.upper + size js j.lower
  high_size = ap (λ p. p.size) high_was ∙ size_upper (length points) js j are is

  pub size_less : (point_at points j.lower).size ≤ (point_at points j.upper).size
  size_less = let e = low_size in let f = high_size in omega (arith, e, f)

  pub length-parted : length (parted points j.lower j.upper) ≡ length points
  length-parted = length-set (slice_set points j.lower _) j.upper _ ∙ length-set points j.lower _

  -- the points without the join, but with the labels after it
  parted_point : (x : ℕ) → x < length points → point_at (parted points j.lower j.upper) x ≡ made (label (js ++ j ∷ []) x) (size js x) (next js x) (taken_at js x)
  parted_point x within = by (same_or_apart x j.upper) (same_or_apart x j.lower)
    where
      by : (x ≡ j.upper) ⊎ (x ≢ j.upper) → (x ≡ j.lower) ⊎ (x ≢ j.lower) → point_at (parted points j.lower j.upper) x ≡ made (label (js ++ j ∷ []) x) (size js x) (next js x) (taken_at js x)
      by (inl e) d = subst (λ w. point_at (parted points j.lower j.upper) w ≡ made (label (js ++ j ∷ []) w) (size js w) (next js w) (taken_at js w)) (sym e)
          (get_or-set_same (slice_set points j.lower _) j.upper _ (point [] 0) (subst (λ n. j.upper < n) (sym (length-set points j.lower _)) is.upper_in)
          ∙ four _ _ _ _ _ _ _ _ (ap (λ p. p.label) high_was)
          (let e = low_size in let f = high_size in omega (arith, e, f))
          (ap (λ p. p.next) low_was ∙ next_lower (length points) js j are is)
          (ap (λ p. p.taken) high_was ∙ taken_other js j j.upper (λ e. is.apart (sym e))))
      by (inr k) (inl e) = get_or-set_other (slice_set points j.lower _) j.upper x _ (point [] 0) k
          ∙ subst (λ w. point_at (slice_set points j.lower (made (point_at points j.lower).label (point_at points j.lower).size (point_at points j.upper).next None)) w ≡ made (label (js ++ j ∷ []) w) (size js w) (next js w) (taken_at js w)) (sym e)
          (get_or-set_same points j.lower _ (point [] 0) is.lower_in
          ∙ four _ _ _ _ _ _ _ _ (ap (λ p. p.label) low_was) low_size
          (ap (λ p. p.next) high_was ∙ next_upper (length points) js j are is)
          (sym (taken_label (length points) js are j.lower is.lower_is)))
      by (inr k) (inr h) = get_or-set_other (slice_set points j.lower _) j.upper x _ (point [] 0) k
          ∙ (get_or-set_other points j.lower x _ (point [] 0) h
          ∙ (points_are.each x within ∙ four _ _ _ _ _ _ _ _ refl (size_other (length points) js j are is x k) (next_other (length points) js j are is x h k) (taken_other js j x h)))

  pub parted_next : (x : ℕ) → x < length (parted points j.lower j.upper) → (point_at (parted points j.lower j.upper) x).next ≡ next js x
  parted_next x within = ap (λ p. p.next) (parted_point x (subst (λ n. x < n) length-parted within))

  put_back : IsPut (parted points j.lower j.upper) (unlinked points j.lower j.upper) (j.lower ∷ others js j.lower) j.lower
  put_back = subst (λ n. IsPut (parted points j.lower j.upper) (relabelled (parted points j.lower j.upper) j.lower n j.lower) (j.lower ∷ others js j.lower) j.lower) (sym low_size)
      (class_put (length points) js (parted points j.lower j.upper) j.lower j.lower are is.lower_is (subst (λ n. j.lower < n) (sym length-parted) is.lower_in) (sym length-parted) parted_next)

  pub length-unlinked : length (unlinked points j.lower j.upper) ≡ length points
  length-unlinked = length-relabelled (point_at points j.lower).size (parted points j.lower j.upper) j.lower j.lower ∙ length-parted

  pub unlinked_points : ArePoints js (unlinked points j.lower j.upper)
  unlinked_points = record { each = λ x within. by x (subst (λ n. x < n) length-unlinked within) (in_or_not x (j.lower ∷ others js j.lower)) }
    where
      label_inside : (x : ℕ) → In x (j.lower ∷ others js j.lower) → label js x ≡ j.lower
      label_inside x (inl e) = ap (label js) e ∙ is.lower_is
      label_inside x (inr i) = (ring (length points) js are j.lower is.lower_is).labels x i

      by : (x : ℕ) → x < length points → In x (j.lower ∷ others js j.lower) ⊎ (In x (j.lower ∷ others js j.lower) → ⊥) → point_at (unlinked points j.lower j.upper) x ≡ point js x
      by x within (inl i) = put_back.inside x i ∙ (ap (λ p. with_label p j.lower) (parted_point x within) ∙ four _ _ _ _ _ _ _ _ (sym (label_inside x i)) refl refl refl)
      by x within (inr n) = put_back.outside x n ∙ (parted_point x within ∙ four _ _ _ _ _ _ _ _ (label_stays js j x (λ e. n ((ring (length points) js are j.lower is.lower_is).all x e))) refl refl refl)

  -- each point leads to another one
  pub parted_next_in : (x : ℕ) → x < length (parted points j.lower j.upper) → (point_at (parted points j.lower j.upper) x).next < length (parted points j.lower j.upper)
  parted_next_in x within =
      let e = parted_next x within in
      let h = next_in (length points) js are x (subst (λ n. x < n) length-parted within) in
      omega (arith, e, h, length-parted)
