-- Tests taken apart.
use Rattle.std.proofs.Common.{◌≡◌, ℕ, zero, suc, ◌+◌, ◌-◌, ◌<◌, Bool, true, false, ◌&&◌, ◌||◌, not, List, [], ◌∷◌, ◌++◌, None, nat_eq, nat_lt, refl, sym, ap, ◌∙◌, arith}
use Rattle.std.specs.List.{list_all}
use Rattle.std.proofs.lemmas.Bool.{false≢true}
use Rattle.spv_tableau_rules.specs.declared.tableaux.side.Side.{Side}
use Rattle.spv_tableau_rules.specs.declared.tableaux.side.Side.TheVariants.{Lower, Upper}
use Rattle.spv_tableau_rules.specs.tableaux.Rows.{Rows, Point}
use Rattle.spv_tableau_rules.specs.tableaux.Bounds.{Bound, bound_on, Limits, limit_from, limits, breaks_limit, Meets}
use Rattle.spv_tableau_rules.specs.tableaux.Steps.{none_to}
use Rattle.spv_tableau_rules.proofs.pivots.Starting.{above_is}
use Rattle.spv_tableau_rules.proofs.pivots.Sums.{eq_is}

pub and_left : (a b : Bool) → (a && b) ≡ true → a ≡ true
and_left true b h = refl
and_left false b h = h

pub and_right : (a b : Bool) → (a && b) ≡ true → b ≡ true
and_right true b h = h
and_right false b h = absurd (false≢true h)

pub and_both : (a b : Bool) → a ≡ true → b ≡ true → (a && b) ≡ true
and_both a b h k = rw (h, k) refl

pub or_left : (a b : Bool) → (a || b) ≡ false → a ≡ false
or_left true b h = h
or_left false b h = refl

pub or_right : (a b : Bool) → (a || b) ≡ false → b ≡ false
or_right true b h = absurd (false≢true (sym h))
or_right false b h = h

pub not_true : (b : Bool) → not b ≡ true → b ≡ false
not_true true h = absurd (false≢true h)
not_true false h = refl

pub not_false : (b : Bool) → b ≡ false → not b ≡ true
not_false b h = rw h refl

pub all_append : {A : Type 0} (p : A → Bool) (xs ys : List A) → list_all p xs ≡ true → list_all p ys ≡ true → list_all p (xs ++ ys) ≡ true
all_append p [] ys h k = k
all_append p (x ∷ xs) ys h k = and_both (p x) (list_all p (xs ++ ys)) (and_left (p x) (list_all p xs) h) (all_append p xs ys (and_right (p x) (list_all p xs) h) k)

pub none_below : (n : ℕ) (test : ℕ → Bool) → none_to n test ≡ true → (c : ℕ) → c < n → test c ≡ false
none_below zero test h c below = absurd (omega arith)
none_below (suc n) test h c below = by_case (none_below n test (and_left (none_to n test) (not (test n)) h) c) (nat_eq c n) refl
  where
    by_case : (c < n → test c ≡ false) → (e : Bool) → nat_eq c n ≡ e → test c ≡ false
    by_case before true e = ap test (eq_is c n e) ∙ not_true (test n) (and_right (none_to n test) (not (test n)) h)
    by_case before false e = before (nearer n c below e)
      where
        nearer : (n c : ℕ) → c < suc n → nat_eq c n ≡ false → c < n
        nearer n c h e = grind arith

-- ---- limits

-- the limit of a row's column is the bound on the row
pub limit_row : (rows : Rows) (bounds : List Bound) (i : ℕ) (side : Side) → limits rows bounds (rows.parts + i) side ≡ bound_on bounds i side
limit_row rows bounds i side = ap (λ b. limit_from b bounds (rows.parts + i - rows.parts) side) (above_is rows.parts i) ∙ ap (λ k. bound_on bounds k side) (back rows.parts i)
  where
    back : (p i : ℕ) → p + i - p ≡ i
    back p i = omega arith

pub limit_part : (rows : Rows) (bounds : List Bound) (c : ℕ) (side : Side) → nat_lt c rows.parts ≡ true → limits rows bounds c side ≡ None
limit_part rows bounds c side h = ap (λ b. limit_from b bounds (c - rows.parts) side) h

-- a point that meets all bounds breaks none
pub meets_side : (limits : Limits) (v : Point) → Meets limits v → (c : ℕ) (side : Side) → breaks_limit side (limits c side) (v c) ≡ false
meets_side limits v m c Lower = or_left (breaks_limit Lower (limits c Lower) (v c)) (breaks_limit Upper (limits c Upper) (v c)) (m c)
meets_side limits v m c Upper = or_right (breaks_limit Lower (limits c Lower) (v c)) (breaks_limit Upper (limits c Upper) (v c)) (m c)
