-- Rows as they begin are the solved form for their own columns.
use Rattle.std.proofs.Common.{◌≡◌, ℕ, ◌+◌, ◌-◌, ◌<◌, Bool, true, false, List, [], length, nat_eq, nat_lt, slice_index_or, refl, sym, ap, ◌∙◌, subst, arith, if◌then◌else◌}
use Rattle.std.proofs.lemmas.Bool.{false≢true}
use Rattle.std.proofs.lemmas.Bool.Decides.{nat_tests}
use mathlib.Core.Path.{ap₂}
use Rattle.spv_frac.specs.rational.Rational.{Rational}
use Rattle.spv_tableau_rules.specs.tableaux.Numbers.{nothing, minus_one}
use Rattle.spv_tableau_rules.specs.tableaux.Rows.{Rows, columns}
use Rattle.spv_tableau_rules.specs.tableaux.Solved.{is_basic, row_places, row_entries}
use Rattle.spv_dictionary.specs.declared.spot.Spot.TheVariants as spot
use Rattle.spv_dictionary.specs.Cells.{cell}
use Rattle.spv_dictionary.specs.Dictionary.{Dictionary, first, spot_of, entry_between, entries, place_of, places}
use Rattle.spv_dictionary.specs.Laws.{IsFirstForm}
use Rattle.spv_dictionary.proofs.First.{slot_spot, row_spot}

module _ (rows : Rows) (cells : List (List Rational)) (count : length cells ≡ rows.count)
    (same : (i c : ℕ) → i < rows.count → c < rows.parts → cell (slice_index_or cells i []) c ≡ rows.coefficient i c) where
  abbrev d : Dictionary
  d = first rows.parts cells

  p : ℕ
  p = rows.parts

  slot_at : (c : ℕ) → nat_lt c rows.parts ≡ true → spot_of d c ≡ spot.Slot c
  slot_at c h = slot_spot rows.parts cells c (below c rows.parts h)
    where
      below : (a b : ℕ) → nat_lt a b ≡ true → a < b
      below a b e = grind (arith, nat_tests)

  row_below : (c q n : ℕ) → c < q + n → nat_lt c q ≡ false → c - q < n
  row_below c q n h e = grind (arith, nat_tests)

  whole : (c q : ℕ) → nat_lt c q ≡ false → q + (c - q) ≡ c
  whole c q e = grind (arith, nat_tests)

  row_spot_at : (c : ℕ) → c < columns rows → nat_lt c rows.parts ≡ false → spot_of d c ≡ spot.Row (c - rows.parts)
  row_spot_at c h e =
      ap (spot_of d) (sym (whole c rows.parts e)) ∙ row_spot rows.parts cells (c - rows.parts) (subst (λ (n : ℕ). c - rows.parts < n) (sym count) (row_below c rows.parts rows.count h e))

  own_entry : (b c : ℕ) → nat_eq b c ≡ true → row_entries rows b c ≡ minus_one
  own_entry b c h = rw h refl

  part_entry : (b c : ℕ) → nat_eq b c ≡ false → nat_lt c rows.parts ≡ true → row_entries rows b c ≡ rows.coefficient (b - rows.parts) c
  part_entry b c h k = rw (h, k) refl

  other_entry : (b c : ℕ) → nat_eq b c ≡ false → nat_lt c rows.parts ≡ false → row_entries rows b c ≡ nothing
  other_entry b c h k = rw (h, k) refl

  rows_entry : (i k : ℕ) (h : Bool) → nat_eq i k ≡ h → entry_between d (spot.Row i) (spot.Row k) ≡ (if h then minus_one else nothing)
  rows_entry i k h e = rw e refl

  form_at : (b c : ℕ) → b < columns rows → nat_lt b rows.parts ≡ false → c < columns rows → entries d b c ≡ row_entries rows b c
  form_at b c b_in b_row c_in = by_part (nat_lt c rows.parts) refl
    where
      apart : (b c q : ℕ) → nat_lt b q ≡ false → nat_lt c q ≡ true → nat_eq b c ≡ false
      apart b c q h k = grind (arith, nat_tests)

      row_same : (b c q : ℕ) → nat_eq b c ≡ true → nat_eq (b - q) (c - q) ≡ true
      row_same b c q h = grind arith

      row_apart : (b c q : ℕ) → nat_lt b q ≡ false → nat_lt c q ≡ false → nat_eq b c ≡ false → nat_eq (b - q) (c - q) ≡ false
      row_apart b c q h k e = grind (arith, nat_tests)

      below : (a b : ℕ) → nat_lt a b ≡ true → a < b
      below a b e = grind (arith, nat_tests)

      by_part : (h : Bool) → nat_lt c rows.parts ≡ h → entries d b c ≡ row_entries rows b c
      by_part true h =
          ap₂ (entry_between d) (row_spot_at b b_in b_row) (slot_at c h)
          ∙ same (b - rows.parts) c (row_below b rows.parts rows.count b_in b_row) (below c rows.parts h)
          ∙ sym (part_entry b c (apart b c rows.parts b_row h) h)
      by_part false h = ap₂ (entry_between d) (row_spot_at b b_in b_row) (row_spot_at c c_in h) ∙ by_same (nat_eq b c) refl
        where
          by_same : (e : Bool) → nat_eq b c ≡ e → entry_between d (spot.Row (b - rows.parts)) (spot.Row (c - rows.parts)) ≡ row_entries rows b c
          by_same true e = rows_entry (b - rows.parts) (c - rows.parts) true (row_same b c rows.parts e) ∙ sym (own_entry b c e)
          by_same false e = rows_entry (b - rows.parts) (c - rows.parts) false (row_apart b c rows.parts b_row h e) ∙ sym (other_entry b c e h)

  is_form : (b c : ℕ) → b < columns rows → is_basic (places d b) ≡ true → c < columns rows → entries d b c ≡ row_entries rows b c
  is_form b c b_in basic c_in = by_part (nat_lt b rows.parts) refl
    where
      by_part : (h : Bool) → nat_lt b rows.parts ≡ h → entries d b c ≡ row_entries rows b c
      by_part true h = absurd (false≢true (sym (ap (λ s. is_basic (place_of s)) (slot_at b h)) ∙ basic))
      by_part false h = form_at b c b_in h c_in

  pub first_basis : (c : ℕ) → c < columns rows → is_basic (places d c) ≡ is_basic (row_places rows c)
  first_basis c c_in = by_part (nat_lt c rows.parts) refl
    where
      by_part : (h : Bool) → nat_lt c rows.parts ≡ h → is_basic (places d c) ≡ is_basic (row_places rows c)
      by_part true h = ap (λ s. is_basic (place_of s)) (slot_at c h) ∙ sym (rw h refl)
      by_part false h = ap (λ s. is_basic (place_of s)) (row_spot_at c c_in h) ∙ sym (rw h refl)

pub is_first_form : IsFirstForm
is_first_form rows cells count same b c b_in basic c_in = is_form rows cells count same b c b_in basic c_in
