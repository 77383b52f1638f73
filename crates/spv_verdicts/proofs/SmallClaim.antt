-- The verdict of a small condition is right.
use Rattle.std.proofs.Common.{◌≡◌, ℕ, zero, suc, Bool, false, [], ◌∷◌, slice_get, pos, refl, sym, ap, ◌∙◌, subst, inl, Some, Ok}
use Rattle.std.proofs.lemmas.Bool.{false≢true}
use Rattle.std.proofs.lemmas.Option.{same_Some}
use Rattle.spv_whole.specs.Fraction.{Fraction, whole}
use Rattle.spv_logic.specs.Terms.{Term}
use Rattle.spv_table.specs.Tables.{IsTable}
use Rattle.spv_table.specs.Values.{holds, listed_in}
use Rattle.spv_verdicts.specs.Examples as example
use Rattle.spv_verdicts.specs.Verdicts.{Survives}

-- the one row of a list
one_row : {A : Type 0} (x : A) (i : ℕ) (y : A) → slice_get (x ∷ []) i ≡ Some y → x ≡ y
one_row x zero y e = same_Some x y e
one_row x (suc i) y e = absurd (cc)

abbrev row : Term × Fraction
row = (example.p, whole (pos 0))

pub table-of : IsTable [] [] example.untrue
table-of = record {
  alike = λ i j r s at_r at_s same. ap (λ (x : Term × Fraction). x.1) (sym (one_row row i r at_r) ∙ one_row row j s at_s);
  truths = λ i r at_r truth. inl (ap (λ (x : Term × Fraction). x.1) (sym (one_row row i r at_r)));
}

abbrev pair : Term × Bool
pair = (example.p, false)

pub survives-here : Survives example.claim ((example.p, false) ∷ []) example.untrue
survives-here = record {
  falsifies = record { lists = refl; is_table = table-of; given_true = λ f m. absurd (false≢true m); goal_false = refl };
  atoms = refl;
  truths = λ i r at. subst (λ (x : Term × Bool). holds (listed_in example.untrue) x.0 ≡ Ok x.1) (one_row pair i r at) refl;
}
