-- Columns with bounds, and what a value at its bound breaks.
use Rattle.std.proofs.Common.{◌≡◌, ℕ, zero, suc, ◌+◌, ◌-◌, ◌<◌, Bool, true, false, ◌||◌, List, [], ◌∷◌, Option, Some, None, nat_lt, slice_get, refl, sym, ap, ◌∙◌, arith}
use Rattle.std.specs.List.{list_all}
use Rattle.std.proofs.lemmas.Bool.Decides.{nat_tests}
use Rattle.std.proofs.lemmas.Option.{slice_get_within}
use mathlib.Core.Path.{ap₂}
use Rattle.spv_frac.specs.rational.Rational.{Rational, is_positive}
use Rattle.spv_frac.proofs.rational.Field.{plus_opposite}
use Rattle.spv_tableau_rules.specs.declared.tableaux.side.Side.{Side}
use Rattle.spv_tableau_rules.specs.declared.tableaux.side.Side.TheVariants.{Lower, Upper}
use Rattle.spv_tableau_rules.specs.tableaux.Numbers.{is_less}
use Rattle.spv_tableau_rules.specs.tableaux.Rows.{Rows, columns, Point}
use Rattle.spv_tableau_rules.specs.tableaux.Bounds.{Bound, AreBounds, Limits, limits, breaks_limit, is_out}
use Rattle.spv_tableau_rules.proofs.pivots.Algebra.{less_is}
use Rattle.spv_tableau_rules.proofs.pivots.Tests.{and_left, and_right}
use Rattle.spv_dictionary.proofs.pivoting.Choices.{is_rows, is_in}

-- a number is not less than itself
pub not_below : (a : Rational) → is_less a a ≡ false
not_below a = less_is a a ∙ ap is_positive (plus_opposite a)

all_at : (p : Bound → Bool) (bounds : List Bound) (k : ℕ) (b : Bound) → list_all p bounds ≡ true → slice_get bounds k ≡ Some b → p b ≡ true
all_at p [] k b h e = absurd (no_less k (slice_get_within [] k b e))
  where
    no_less : (i : ℕ) → i < 0 → ⊥
    no_less i h = omega arith
all_at p (x ∷ bounds) zero b h e = ap p (sym (one_of x b e)) ∙ and_left _ _ h
  where
    one_of : (x y : Bound) → Some x ≡ Some y → x ≡ y
    one_of x y e = ap (value x) e
      where
        value : Bound → Option Bound → Bound
        value d None = d
        value d (Some z) = z
all_at p (x ∷ bounds) (suc k) b h e = all_at p bounds k b (and_right _ _ h) e

module _ (rows : Rows) (bounds : List Bound) (known : AreBounds rows bounds) where
  abbrev l : Limits
  l = limits rows bounds

  -- a column with a bound is one of the columns
  pub limit_in : (c : ℕ) (side : Side) (x : Rational) → l c side ≡ Some x → c < columns rows
  limit_in c side x h =
      let r = is_rows rows.parts bounds c side x h in
      let i = is_in bounds (c - rows.parts) side x r.bound in
      let below : nat_lt i.bound.row rows.count ≡ true = all_at (λ b. nat_lt b.row rows.count) bounds i.place i.bound known.in_range i.there in
      inside rows.parts i.bound.row rows.count c (ap (λ n. rows.parts + n) i.row ∙ r.at) below
    where
      inside : (p i n c : ℕ) → p + i ≡ c → nat_lt i n ≡ true → c < p + n
      inside p i n c e h = grind (arith, nat_tests)

  pub ordered : (c : ℕ) (low high : Rational) → l c Lower ≡ Some low → l c Upper ≡ Some high → is_less high low ≡ false
  ordered c low high h g = known.ordered (c - rows.parts) low high (is_rows rows.parts bounds c Lower low h).bound (is_rows rows.parts bounds c Upper high g).bound

  -- a value that is at a bound is not out of its bounds
  pub bound_inside : (v : Point) (c : ℕ) (side : Side) (x : Rational) → l c side ≡ Some x → v c ≡ x → is_out l v c ≡ false
  bound_inside v c Lower x h e =
      ap₂ (λ (o : Option Rational) (y : Rational). breaks_limit Lower o y || breaks_limit Upper (l c Upper) y) h e
      ∙ ap (λ b. b || breaks_limit Upper (l c Upper) x) (not_below x) ∙ by_upper (l c Upper) refl
    where
      by_upper : (o : Option Rational) → l c Upper ≡ o → breaks_limit Upper o x ≡ false
      by_upper None k = refl
      by_upper (Some high) k = ordered c x high h k
  bound_inside v c Upper x h e =
      ap₂ (λ (o : Option Rational) (y : Rational). breaks_limit Lower (l c Lower) y || breaks_limit Upper o y) h e
      ∙ ap (λ b. breaks_limit Lower (l c Lower) x || b) (not_below x) ∙ or_false (breaks_limit Lower (l c Lower) x) (by_lower (l c Lower) refl)
    where
      or_false : (b : Bool) → b ≡ false → (b || false) ≡ false
      or_false b k = rw k refl

      by_lower : (o : Option Rational) → l c Lower ≡ o → breaks_limit Lower o x ≡ false
      by_lower None k = refl
      by_lower (Some low) k = ordered c low x k h
