-- The value of a term at the kept point.
use Rattle.std.proofs.Common.{◌≡◌, ℕ, ◌+◌, ◌<◌, true, List, length, Option, Some, slice_index_or, sym, ap, ◌∙◌, arith}
use Rattle.std.specs.List.{list_any, position}
use Rattle.std.specs.Option.{IsSome}
use Rattle.std.proofs.lemmas.List.{take_all, get_or_default}
use Rattle.std.proofs.lemmas.List.Quantifiers.{position-Some}
use Rattle.spv_logic.specs.declared.conditions.TermId.{TermId}
use Rattle.spv_whole.specs.Fraction.{Fraction}
use Rattle.spv_frac.specs.rational.Rational.{Rational, number}
use Rattle.spv_frac.proofs.rational.Field.{same, number_is}
use Rattle.spv_atoms.specs.Order.{same_id}
use Rattle.spv_atoms.proofs.Places.{place_there}
use Rattle.spv_tableau_rules.specs.tableaux.Numbers.{nothing}
use Rattle.spv_tableau_rules.specs.tableaux.Rows.{column_of}
use Rattle.spv_simplex.specs.State.{State, IsKept, kept_point, rows_in, value_from, value_of}
use Rattle.spv_dictionary.specs.pivoting.Trail.{Trail}

pub is_there : (t : TermId) (ids : List TermId) (o : Option ℕ) → list_any (same_id t) ids ≡ true → o ≡ position (same_id t) ids → IsSome o
is_there t ids o h at = place_there t ids (length ids) o (ap (list_any (same_id t)) (take_all (length ids) ids (omega arith)) ∙ h) at

pub has_value : (s : State) (ids : List TermId) (trail : Trail) (met capacity : ℕ) → IsKept s ids trail met capacity → (t : TermId) (o : Option ℕ) (place : ℕ) → o ≡ position (same_id t) ids → o ≡ Some place → place < length s.values
has_value s ids trail met capacity k t o place at e =
    let below : place < length ids = (position-Some (same_id t) ids place t (sym at ∙ e)).0 in
    inside place (length ids) (length s.values) (rows_in s).count below (ap (λ i. length i) k.ids_are) k.tableau.count
  where
    inside : (p n m c : ℕ) → p < n → n ≡ (rows_in s).parts → m ≡ (rows_in s).parts + c → p < m
    inside p n m c h e f = omega (arith, e, f)

pub value_is : (s : State) (ids : List TermId) (trail : Trail) (met capacity : ℕ) → IsKept s ids trail met capacity → (t : TermId) (o : Option ℕ) (place : ℕ) → o ≡ position (same_id t) ids → o ≡ Some place
    → (r : Rational) (f : Fraction) → r ≡ slice_index_or s.values place r → f ≡ r.fraction → number f ≡ value_of s t
value_is s ids trail met capacity k t o place at e r f read is =
    ap number is ∙ same (number r.fraction) r (number_is r.fraction r.is_lowest) ∙ read
    ∙ get_or_default s.values place r nothing (has_value s ids trail met capacity k t o place at e)
    ∙ ap (value_from s) (sym e ∙ at ∙ ap (position (same_id t)) k.ids_are)

-- the value of a row's column
pub row_value_is : (s : State) (ids : List TermId) (trail : Trail) (met capacity : ℕ) → IsKept s ids trail met capacity → (row count : ℕ) → row < length s.forms → count ≡ length ids
    → (r : Rational) (f : Fraction) → r ≡ slice_index_or s.values (count + row) r → f ≡ r.fraction → number f ≡ kept_point s (column_of (rows_in s) row)
row_value_is s ids trail met capacity k row count below many r f read is =
    let parts : count ≡ (rows_in s).parts = many ∙ ap (λ i. length i) k.ids_are in
    ap number is ∙ same (number r.fraction) r (number_is r.fraction r.is_lowest) ∙ read
    ∙ get_or_default s.values (count + row) r nothing (inside count row (length s.values) (length s.forms) below parts k.tableau.count)
    ∙ ap (λ p. slice_index_or s.values (p + row) nothing) parts
  where
    inside : (p i n m : ℕ) → i < m → p ≡ (rows_in s).parts → n ≡ (rows_in s).parts + m → p + i < n
    inside p i n m h e f = omega (arith, e, f)
