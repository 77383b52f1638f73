-- Terms of sort Int, and signs of numbers.
use Rattle.std.proofs.Common.{◌≡◌, ℕ, ◌<◌, ◌^◌, nat_lt, true, false, not, length, ℤ, pos, negsuc, unsigned_abs, refl, sym, ap, ◌∙◌, arith}
use Rattle.std.proofs.lemmas.Bool.Decides.{nat_tests}
use Rattle.std.specs.Int.RustNames.{int_lt}
use lib.Signed.{le_z}
use mir.Val.{to_z, of_z}
use mir.Syntax.{w128}
use Rattle.spv_atoms.proofs.Sums.{narrow}
use Rattle.spv_whole.specs.Fraction.{Fraction, IsLowest, whole}
use Rattle.spv_whole.proofs.Units.{whole-IsLowest}
use Rattle.spv_frac.specs.rational.Rational.{number, is_negative}
use Rattle.spv_frac.proofs.rational.Field.{number_is}
use Rattle.spv_frac.specs.Range.{fits, IsFrac}
use Rattle.spv_logic.specs.declared.conditions.TermId.{TermId}
use Rattle.spv_logic.specs.declared.types.Sort.{Sort}
use Rattle.spv_logic.specs.declared.types.Sort.TheVariants as sort
use Rattle.spv_logic.specs.Terms.{sort_eq}
use Rattle.spv_term.specs.Arena.{Arena, IsArena, tree, sort_at}
use Rattle.spv_term.proofs.ArenaLemmas.{IsWellSorted-arena}
use Rattle.spv_atoms.specs.Atoms.{has_sort, is_number}

pub number-at : (a : Arena) → IsArena a → (t : TermId) → t.0 < length a.nodes → is_number a.shapes a.decls (tree a t) ≡ sort_eq (sort_at a t) sort.Int
number-at a ok t h = ap (has_sort sort.Int) (IsWellSorted-arena a ok t h)

pub sort_eq-other : (s : Sort) → (s ≡ sort.Int → ⊥) → false ≡ sort_eq s sort.Int
sort_eq-other sort.Int e = absurd (e refl)
sort_eq-other _ e = refl

-- ---- fractions

pub whole-IsFrac : (n : ℤ) → fits n ≡ true → IsFrac (whole n)
whole-IsFrac n h = record {
  is_lowest = whole-IsLowest n;
  num_fits = below (unsigned_abs n) (2 ^ 127) h;
  den_fits = omega arith;
}
  where
    below : (n m : ℕ) → nat_lt n m ≡ true → n < m
    below n m e = grind (arith, nat_tests)

-- a fraction in lowest terms that is not below 0
pub not-negative : (m : Fraction) → IsLowest m → (z : ℤ) → z ≡ m.num → le_z (pos 0) z ≡ not (is_negative (number m))
not-negative m h z e = ap (le_z (pos 0)) e ∙ (by_sign m.num ∙ ap (λ (f : Fraction). not (int_lt f.num (pos 0))) (sym (number_is m h)))
  where
    by_sign : (z : ℤ) → le_z (pos 0) z ≡ not (int_lt z (pos 0))
    by_sign (pos n) = natural n ∙ sym (ap not (not_below n))
      where
        natural : (n : ℕ) → le_z (pos 0) (pos n) ≡ true
        natural n = grind (arith, nat_tests)

        not_below : (n : ℕ) → int_lt (pos n) (pos 0) ≡ false
        not_below n = grind (arith, nat_tests)
    by_sign (negsuc n) = refl

-- the numerator of a fraction, as it is handed on
pub numerator : (m : Fraction) → IsFrac m → (z : ℤ) → z ≡ m.num → to_z w128 (of_z w128 z) ≡ m.num
numerator m h z e = narrow z (ap fits e ∙ within (unsigned_abs m.num) (2 ^ 127) h.num_fits) ∙ e
  where
    within : (n m : ℕ) → n < m → nat_lt n m ≡ true
    within n m e = grind (arith, nat_tests)
