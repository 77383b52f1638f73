-- Rings, and labels put to them.
use Rattle.std.proofs.Common.{◌≡◌, ◌≢◌, ℕ, zero, suc, ◌+◌, ◌-◌, ◌<◌, ◌≤◌, Bool, true, false, nat_eq, List, [], ◌∷◌, ◌++◌, length, slice_get, slice_set, slice_index_or, refl, sym, ap, subst, ◌∙◌, arith, inl, inr, ◌⊎◌}
use Rattle.std.proofs.lemmas.List.{length-set, get_or-set_same, get_or-set_other}
use Rattle.spv_union_find.specs.declared.classes.joins.Join.{Join}
use Rattle.spv_union_find.specs.declared.classes.joins.Point.{Point}
use Rattle.spv_union_find.specs.classes.Classes.{point, point_at, with_label, relabelled}
use Rattle.spv_union_find.proofs.classes.Lists.{same_or_apart}

-- one point more of a ring
pub relabelled_more : (points : List Point) (at to n m : ℕ) → n ≡ suc m
    → relabelled points at n to ≡ relabelled (slice_set points at (with_label (point_at points at) to)) (point_at points at).next m to
relabelled_more points at to n m e = ap (λ k. relabelled points at k to) e

pub length-labelled : (points : List Point) (at : ℕ) (p : Point) → length (slice_set points at p) ≡ length points
length-labelled points at p = length-set points at p

pub next-labelled : (points : List Point) (at to x : ℕ) → at < length points
    → (point_at (slice_set points at (with_label (point_at points at) to)) x).next ≡ (point_at points x).next
next-labelled points at to x within = by (same_or_apart x at)
  where
    by : (x ≡ at) ⊎ (x ≢ at) → (point_at (slice_set points at (with_label (point_at points at) to)) x).next ≡ (point_at points x).next
    by (inl e) = subst (λ y. (point_at (slice_set points at (with_label (point_at points at) to)) y).next ≡ (point_at points y).next) (sym e)
        (ap (λ p. p.next) (get_or-set_same points at (with_label (point_at points at) to) (point [] 0) within))
    by (inr h) = ap (λ p. p.next) (get_or-set_other points at x (with_label (point_at points at) to) (point [] 0) h)

-- a turn of the loop that puts the label
pub turn_whole : (points : List Point) (at to count counter : ℕ) (here p : Point) (whole : List Point) → counter < count → here ≡ point_at points at → p ≡ with_label here to
    → relabelled points at (count - counter) to ≡ whole → relabelled (slice_set points at p) here.next (count - (counter + 1)) to ≡ whole
turn_whole points at to count counter here p whole less h e w =
    let f : p ≡ with_label (point_at points at) to = e ∙ ap (λ q. with_label q to) h in
    ap (λ q. relabelled (slice_set points at q) here.next (count - (counter + 1)) to) f
    ∙ (ap (λ q. relabelled (slice_set points at (with_label (point_at points at) to)) q.next (count - (counter + 1)) to) h
    ∙ (sym (relabelled_more points at to (count - counter) (count - (counter + 1)) (omega arith)) ∙ w))

pub turn_next : (points : List Point) (at to : ℕ) (here p : Point) → at < length points → here ≡ point_at points at → p ≡ with_label here to
    → ((x : ℕ) → x < length points → (point_at points x).next < length points)
    → (x : ℕ) → x < length (slice_set points at p) → (point_at (slice_set points at p) x).next < length (slice_set points at p)
turn_next points at to here p within h e old x less =
    let f : p ≡ with_label (point_at points at) to = e ∙ ap (λ q. with_label q to) h in
    let len : length (slice_set points at p) ≡ length points = length-labelled points at p in
    let n = ap (λ q. (point_at (slice_set points at q) x).next) f ∙ next-labelled points at to x within in
    let o : (point_at points x).next < length points = old x (omega (arith, len, less)) in
    omega (arith, len, n, o)

pub turn_at : (points : List Point) (at : ℕ) (here p : Point) → at < length points → here ≡ point_at points at
    → ((x : ℕ) → x < length points → (point_at points x).next < length points) → here.next < length (slice_set points at p)
turn_at points at here p within h old =
    let len : length (slice_set points at p) ≡ length points = length-labelled points at p in
    let n = ap (λ q. q.next) h in
    let o : (point_at points at).next < length points = old at within in
    omega (arith, len, n, o)
