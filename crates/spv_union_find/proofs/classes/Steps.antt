-- What the functions of classes keep.
use Rattle.std.proofs.Common.{◌≡◌, ◌≢◌, ℕ, zero, suc, ◌+◌, ◌-◌, ◌<◌, ◌≤◌, Bool, true, false, nat_eq, nat_le, List, [], ◌∷◌, ◌++◌, take, drop, length, slice_get, Option, Some, None, refl, sym, ap, subst, ◌∙◌, arith, inl, inr, ◌⊎◌, if◌then◌else◌}
use Rattle.std.proofs.lemmas.List.{append_assoc, append-nil, take_all, drop_all, length_push}
use Rattle.std.proofs.lemmas.Bool.Decides.{nat_tests}
use Rattle.spv_union_find.specs.declared.classes.joins.Cause.{Cause}
use Rattle.spv_union_find.specs.declared.classes.joins.Join.{Join}
use Rattle.spv_union_find.specs.declared.classes.joins.Point.{Point}
use Rattle.spv_union_find.specs.classes.Classes.{Classes, ring_from, AreWithin, HasMembers, label, size, next, point, point_at, ArePoints, IsJoin, AreJoins, linked, parted, unlinked, join_of}
use Rattle.spv_union_find.proofs.classes.Labels.{label_of_label, label_in, one_more, all_but_last, last_join}
use Rattle.spv_union_find.proofs.classes.Circles.{next_in, Walk, In, ring, others}
use Rattle.spv_union_find.proofs.classes.Counts.{joins_few}
use Rattle.spv_union_find.proofs.classes.Links.{linked_points, length-linked, sizes_fit, next_points, unlinked_points, length-unlinked, size_less, parted_next_in, length-parted}

-- a whole list that is written back
pub written : {X : Type 0} (n : ℕ) (ws xs : List X) → n ≡ length xs → length ws ≡ length xs → take n (ws ++ drop (length ws) xs) ≡ ws
written n ws xs e f = ap (λ zs. take n (ws ++ zs)) (drop_all (length ws) xs (omega (arith, f))) ∙ (ap (take n) (append-nil ws) ∙ take_all n ws (omega (arith, e, f)))

-- the points and joins that are kept
pub record AreKept (js : List Join) (ps : List Point) (n : ℕ) : Type 0 where
  pub points : ArePoints js ps
  pub joins : AreJoins (length ps) js
  pub many : length ps ≡ n

module _ (js : List Join) (points ps : List Point) (points_are : ArePoints js points) (are : AreJoins (length points) js) (now : ps ≡ points) where
  pub nexts_in : (x : ℕ) → x < length ps → (point_at ps x).next < length ps
  nexts_in x within = subst (λ qs. x < length qs → (point_at qs x).next < length qs) (sym now) old within
    where
      old : x < length points → (point_at points x).next < length points
      old h = subst (λ p. p.next < length points) (sym (points_are.each x h)) (next_in (length points) js are x h)

  pub labels_in : (x : ℕ) → x < length points → (p : Point) → p ≡ point_at ps x → p.label < length ps
  labels_in x within p e =
      let f = ap (λ q. q.label) (e ∙ (ap (λ qs. point_at qs x) now ∙ points_are.each x within)) in
      let h = label_in (length points) js are x within in
      let g = ap length now in
      omega (arith, f, h, g)

  module _ (j : Join) (is : IsJoin (length points) js j) where
    pub fit : (point_at ps j.upper).size + (point_at ps j.lower).size ≤ length ps
    fit = subst (λ qs. (point_at qs j.upper).size + (point_at qs j.lower).size ≤ length qs) (sym now) (sizes_fit js j points points_are are is)

    pub few : length js < length points
    few = joins_few (length points) js are j.lower is.lower_in is.lower_is

    pub added : (new ws : List Point) (ks : List Join) (place : ℕ) → new ≡ linked ps j.lower j.upper place → place ≡ length js → ks ≡ js ++ j ∷ [] → (length new ≡ length points → ws ≡ new)
        → AreKept ks ws (length points)
    added new ws ks place e p k w =
        let f : new ≡ linked points j.lower j.upper (length js) = e ∙ (ap (λ qs. linked qs j.lower j.upper place) now ∙ ap (λ n. linked points j.lower j.upper n) p) in
        let len : length new ≡ length points = ap length f ∙ length-linked js j points points_are are is (length js) in
        let g : ws ≡ linked points j.lower j.upper (length js) = w len ∙ f in
        let many : length ws ≡ length points = ap length (w len) ∙ len in
        record {
          points = subst (λ ls. ArePoints ls ws) (sym k) (subst (λ qs. ArePoints (js ++ j ∷ []) qs) (sym g) (linked_points js j points points_are are is));
          joins = subst (λ ls. AreJoins (length ws) ls) (sym k) (subst (λ n. AreJoins n (js ++ j ∷ [])) (sym many) (one_more (length points) js j are is));
          many = many;
        }

-- the last join is taken back
module _ (all js : List Join) (j : Join) (points ps : List Point) (all_are : all ≡ js ++ j ∷ []) (points_are : ArePoints all points) (are : AreJoins (length points) all) (now : ps ≡ points) where
  here : ArePoints (js ++ j ∷ []) points
  here = subst (λ ls. ArePoints ls points) all_are points_are

  these : AreJoins (length points) (js ++ j ∷ [])
  these = subst (λ ls. AreJoins (length points) ls) all_are are

  pub last_lower : j.lower < length ps
  last_lower = subst (λ qs. j.lower < length qs) (sym now) (last_join (length points) js j these).lower_in

  pub last_upper : j.upper < length ps
  last_upper = subst (λ qs. j.upper < length qs) (sym now) (last_join (length points) js j these).upper_in

  pub last_size : (point_at ps j.lower).size ≤ (point_at ps j.upper).size
  last_size = subst (λ qs. (point_at qs j.lower).size ≤ (point_at qs j.upper).size) (sym now) (size_less js j points here these)

  pub last_next : (x : ℕ) → x < length ps → (point_at (parted ps j.lower j.upper) x).next < length ps
  last_next x = subst (λ qs. x < length qs → (point_at (parted qs j.lower j.upper) x).next < length qs) (sym now) (λ h. old h)
    where
      old : x < length points → (point_at (parted points j.lower j.upper) x).next < length points
      old h =
          let e = length-parted js j points here these in
          let k = parted_next_in js j points here these x (omega (arith, h, e)) in
          omega (arith, k, e)

  pub taken_back : (new ws : List Point) → new ≡ unlinked ps j.lower j.upper → (length new ≡ length points → ws ≡ new) → AreKept js ws (length points)
  taken_back new ws e w =
      let f : new ≡ unlinked points j.lower j.upper = e ∙ ap (λ qs. unlinked qs j.lower j.upper) now in
      let len : length new ≡ length points = ap length f ∙ length-unlinked js j points here these in
      let g : ws ≡ unlinked points j.lower j.upper = w len ∙ f in
      let many : length ws ≡ length points = ap length (w len) ∙ len in
      record {
        points = subst (λ qs. ArePoints js qs) (sym g) (unlinked_points js j points here these);
        joins = subst (λ n. AreJoins n js) (sym many) (all_but_last (length points) js j these);
        many = many;
      }

abbrev pub five : ℕ → ℕ → ℕ → ℕ → Cause → Join
five l k left right cause = record { lower = l; upper = k; left = left; right = right; cause = cause }

two : (l k m n left right : ℕ) (cause : Cause) → l ≡ m → k ≡ n → five l k left right cause ≡ five m n left right cause
two l k m n left right cause e f = cc

tested : (m n : ℕ) → m ≤ n → nat_le m n ≡ true
tested m n h = grind (arith, nat_tests)

not_tested : (m n : ℕ) → n < m → nat_le m n ≡ false
not_tested m n h = grind (arith, nat_tests)

-- the join of two classes
pub join_of-is : (count : ℕ) (js : List Join) (left right : ℕ) (cause : Cause) → AreJoins count js → left < count → right < count → label js left ≢ label js right → IsJoin count js (join_of js left right cause)
join_of-is count js left right cause are l r apart = by (nat_le (size js (label js left)) (size js (label js right))) refl
  where
    low_first : size js (label js left) ≤ size js (label js right) → IsJoin count js (record { lower = label js left; upper = label js right; left = left; right = right; cause = cause })
    low_first h = record {
      lower_in = label_in count js are left l;
      upper_in = label_in count js are right r;
      left_in = l;
      right_in = r;
      apart = apart;
      lower_is = label_of_label count js are left;
      upper_is = label_of_label count js are right;
      sides = inl (refl, refl);
      smaller = h;
    }

    high_first : size js (label js right) ≤ size js (label js left) → IsJoin count js (record { lower = label js right; upper = label js left; left = left; right = right; cause = cause })
    high_first h = record {
      lower_in = label_in count js are right r;
      upper_in = label_in count js are left l;
      left_in = l;
      right_in = r;
      apart = λ e. apart (sym e);
      lower_is = label_of_label count js are right;
      upper_is = label_of_label count js are left;
      sides = inr (refl, refl);
      smaller = h;
    }

    by : (b : Bool) → nat_le (size js (label js left)) (size js (label js right)) ≡ b
        → IsJoin count js (if b then record { lower = label js left; upper = label js right; left = left; right = right; cause = cause } else record { lower = label js right; upper = label js left; left = left; right = right; cause = cause })
    by true e = low_first (grind (arith, nat_tests))
    by false e = high_first (grind (arith, nat_tests))

module _ (js : List Join) (points ps : List Point) (points_are : ArePoints js points) (are : AreJoins (length points) js) (now : ps ≡ points) (left right : ℕ) (left_in : left < length points) (right_in : right < length points) where
  label_is : (x : ℕ) → x < length points → (p : Point) → p ≡ point_at ps x → p.label ≡ label js x
  label_is x within p e = ap (λ q. q.label) (e ∙ (ap (λ qs. point_at qs x) now ∙ points_are.each x within))

  size_is : (x : ℕ) → x < length points → (p q : Point) → p ≡ point_at ps x → q ≡ point_at ps p.label → q.size ≡ size js (label js x)
  size_is x within p q e f =
      let l = label_is x within p e in
      let in_points = label_in (length points) js are x within in
      ap (λ r. r.size) (f ∙ (ap (λ qs. point_at qs p.label) now ∙ (ap (λ k. point_at points k) l ∙ points_are.each (label js x) in_points)))

  module _ (cause : Cause) (first second high low : Point) (first_is : first ≡ point_at ps left) (second_is : second ≡ point_at ps right) (a_is : low ≡ point_at ps first.label) (b_is : high ≡ point_at ps second.label) where
    low_size : low.size ≡ size js (label js left)
    low_size = size_is left left_in first low first_is a_is

    high_size : high.size ≡ size js (label js right)
    high_size = size_is right right_in second high second_is b_is

    pub first_is_low : low.size ≤ high.size → five first.label second.label left right cause ≡ join_of js left right cause
    first_is_low h =
        let e = low_size in
        let f = high_size in
        let less : size js (label js left) ≤ size js (label js right) = omega (arith, e, f, h) in
        let t : nat_le (size js (label js left)) (size js (label js right)) ≡ true = tested _ _ less in
        two _ _ _ _ left right cause (label_is left left_in first first_is) (label_is right right_in second second_is)
        ∙ sym (ap (λ b. if b then five (label js left) (label js right) left right cause else five (label js right) (label js left) left right cause) t)

    pub second_is_low : high.size < low.size → five second.label first.label left right cause ≡ join_of js left right cause
    second_is_low h =
        let e = low_size in
        let f = high_size in
        let less : size js (label js right) < size js (label js left) = omega (arith, e, f, h) in
        let t : nat_le (size js (label js left)) (size js (label js right)) ≡ false = not_tested _ _ less in
        two _ _ _ _ left right cause (label_is right right_in second second_is) (label_is left left_in first first_is)
        ∙ sym (ap (λ b. if b then five (label js left) (label js right) left right cause else five (label js right) (label js left) left right cause) t)

-- ---- the members of a class

collected : (js : List Join) (x : ℕ) (zs : List ℕ) (y : ℕ) → Walk (next js) x zs y → ring_from js x (length zs) ≡ zs
collected js x [] y w = refl
collected js x (z ∷ zs) y w = ap (λ u. u ∷ ring_from js (next js u) (length zs)) w.0 ∙ ap (λ us. z ∷ us) (collected js (next js z) zs y w.1)

pub ring_is : (count : ℕ) (js : List Join) → AreJoins count js → (l : ℕ) → label js l ≡ l → ring_from js l (size js l) ≡ l ∷ others js l
ring_is count js are l alive =
    let r = ring count js are l alive in
    ap (λ n. ring_from js l n) r.many ∙ collected js l (l ∷ others js l) l (refl, r.walk)

at_place : (x : ℕ) (zs : List ℕ) → In x zs → (i : ℕ) × (slice_get zs i ≡ Some x)
at_place x [] h = absurd h
at_place x (z ∷ zs) (inl e) = (0, ap Some (sym e))
at_place x (z ∷ zs) (inr h) = let r = at_place x zs h in (suc r.0, r.1)

pub all_members : (c : Classes) → AreJoins c.count c.joins → (l : ℕ) → label c.joins l ≡ l → (xs : List ℕ) → xs ≡ ring_from c.joins l (size c.joins l) → HasMembers c l xs
all_members c are l alive xs e x same =
    let r = ring c.count c.joins are l alive in
    subst (λ ys. (i : ℕ) × (slice_get ys i ≡ Some x)) (sym (e ∙ ring_is c.count c.joins are l alive)) (at_place x (l ∷ others c.joins l) (r.all x same))

in_place : (zs : List ℕ) (i x : ℕ) → slice_get zs i ≡ Some x → In x zs
in_place [] i x h = absurd (cc)
in_place (z ∷ zs) zero x h = inl (one z x h)
  where
    one : (z x : ℕ) → Some z ≡ Some x → x ≡ z
    one z x h = cc
in_place (z ∷ zs) (suc i) x h = inr (in_place zs i x h)

pub members_within : (c : Classes) → AreJoins c.count c.joins → (l : ℕ) → l < c.count → label c.joins l ≡ l → (xs : List ℕ) → xs ≡ ring_from c.joins l (size c.joins l) → AreWithin c.count xs
members_within c are l l_in alive xs e i x at =
    by (in_place (l ∷ others c.joins l) i x (sym (ap (λ ys. slice_get ys i) (e ∙ ring_is c.count c.joins are l alive)) ∙ at))
  where
    by : (x ≡ l) ⊎ In x (others c.joins l) → x < c.count
    by (inl f) = subst (λ y. y < c.count) (sym f) l_in
    by (inr h) = (ring c.count c.joins are l alive).within x h

-- ---- the loop that collects them
pub ring_more : (js : List Join) (at n m : ℕ) → n ≡ suc m → ring_from js at n ≡ at ∷ ring_from js (next js at) m
ring_more js at n m e = ap (λ k. ring_from js at k) e

pub collect_more : (js : List Join) (xs ys : List ℕ) (at after n i : ℕ) (whole : List ℕ) → i < n → after ≡ next js at → ys ≡ xs ++ at ∷ []
    → xs ++ ring_from js at (n - i) ≡ whole → ys ++ ring_from js after (n - (i + 1)) ≡ whole
collect_more js xs ys at after n i whole less e f h =
    ap (λ zs. zs ++ ring_from js after (n - (i + 1))) f
    ∙ (append_assoc xs (at ∷ []) (ring_from js after (n - (i + 1)))
    ∙ (ap (λ k. xs ++ at ∷ ring_from js k (n - (i + 1))) e
    ∙ (ap (λ zs. xs ++ zs) (sym (ring_more js at (n - i) (n - (i + 1)) (omega arith))) ∙ h)))

pub collect_all : (js : List Join) (xs : List ℕ) (at n i : ℕ) (whole : List ℕ) → n ≤ i → xs ++ ring_from js at (n - i) ≡ whole → xs ≡ whole
collect_all js xs at n i whole past h =
    let z : n - i ≡ 0 = omega arith in
    sym (append-nil xs) ∙ (ap (λ k. xs ++ ring_from js at k) (sym z) ∙ h)
