-- The dictionary of rows as they begin is one.
use Rattle.std.proofs.Common.{◌≡◌, ℕ, ◌+◌, ◌-◌, ◌<◌, Bool, true, false, List, [], ◌++◌, length, nat_lt, slice_index_or, refl, sym, ap, ◌∙◌, subst, arith}
use Rattle.std.proofs.lemmas.Bool.Decides.{nat_tests}
use Rattle.std.proofs.lemmas.List.{length-replicate, get_or_append_left, get_or-append-add, length-append}
use mathlib.Core.Path.{ap₂}
use Rattle.spv_frac.specs.rational.Rational.{Rational}
use Rattle.spv_tableau_rules.specs.tableaux.Numbers.{nothing}
use Rattle.spv_dictionary.specs.declared.spot.Spot.TheVariants as spot
use Rattle.spv_dictionary.specs.Dictionary.{Dictionary, IsDictionary, IsSpot, IsColumn, first, spot_of, basic_at, outside_at, slots_to, rows_to}
use Rattle.spv_dictionary.proofs.Lists.{length_listed, get_listed}

module _ (width : ℕ) (cells : List (List Rational)) where
  abbrev begun : Dictionary
  begun = first width cells

  pub spot_total : length begun.spots ≡ width + length cells
  spot_total = length-append (slots_to width) (rows_to (length cells)) ∙ ap₂ (λ (a b : ℕ). a + b) (length_listed spot.Slot width) (length_listed spot.Row (length cells))

  pub slot_spot : (j : ℕ) → j < width → spot_of begun j ≡ spot.Slot j
  slot_spot j h = get_or_append_left (slots_to width) (rows_to (length cells)) (spot.Slot 0) j (subst (λ (k : ℕ). j < k) (sym (length_listed spot.Slot width)) h) ∙ get_listed spot.Slot width j (spot.Slot 0) h

  pub row_spot : (i : ℕ) → i < length cells → spot_of begun (width + i) ≡ spot.Row i
  row_spot i h =
      ap (λ k. slice_index_or (slots_to width ++ rows_to (length cells)) (k + i) (spot.Slot 0)) (sym (length_listed spot.Slot width))
      ∙ get_or-append-add (slots_to width) (rows_to (length cells)) i (spot.Slot 0) ∙ get_listed spot.Row (length cells) i (spot.Slot 0) h

module _ (width : ℕ) (cells : List (List Rational)) (widths : (i : ℕ) → i < length cells → length (slice_index_or cells i []) ≡ width) where
  abbrev d : Dictionary
  d = first width cells

  abbrev n : ℕ
  n = length cells

  basic_count : length d.basic ≡ n
  basic_count = length_listed (λ k. width + k) n

  outside_count : length d.outside ≡ width
  outside_count = length_listed (λ k. 0 + k) width

  spot_count : length d.spots ≡ width + n
  spot_count = length-append (slots_to width) (rows_to n) ∙ ap₂ (λ (a b : ℕ). a + b) (length_listed spot.Slot width) (length_listed spot.Row n)

  basic_is : (i : ℕ) → i < n → basic_at d i ≡ width + i
  basic_is i h = get_listed (λ k. width + k) n i 0 h

  outside_is : (j : ℕ) → j < width → outside_at d j ≡ j
  outside_is j h = get_listed (λ k. 0 + k) width j 0 h ∙ no_more j
    where
      no_more : (j : ℕ) → 0 + j ≡ j
      no_more j = omega arith

  rows_said : (i : ℕ) → i < length d.basic → IsColumn d (basic_at d i) (spot.Row i)
  rows_said i h =
      let below : i < n = subst (λ (k : ℕ). i < k) basic_count h in
      (subst (λ (k : ℕ). basic_at d i < k) (sym spot_count) (subst (λ (k : ℕ). k < width + n) (sym (basic_is i below)) (more width i n below)), ap (spot_of d) (basic_is i below) ∙ row_spot width cells i below)
    where
      more : (w i n : ℕ) → i < n → w + i < w + n
      more w i n h = omega arith

  slots_said : (j : ℕ) → j < length d.outside → IsColumn d (outside_at d j) (spot.Slot j)
  slots_said j h =
      let below : j < width = subst (λ (k : ℕ). j < k) outside_count h in
      (subst (λ (k : ℕ). outside_at d j < k) (sym spot_count) (subst (λ (k : ℕ). k < width + n) (sym (outside_is j below)) (more j width n below)), ap (spot_of d) (outside_is j below) ∙ slot_spot width cells j below)
    where
      more : (j w n : ℕ) → j < w → j < w + n
      more j w n h = omega arith

  columns_said : (c : ℕ) → c < length d.spots → IsSpot d c (spot_of d c)
  columns_said c h = by_case (nat_lt c width) refl
    where
      inside : c < width + n
      inside = subst (λ (k : ℕ). c < k) spot_count h

      below : (a b : ℕ) → nat_lt a b ≡ true → a < b
      below a b e = grind (arith, nat_tests)

      row_below : (c w n : ℕ) → c < w + n → nat_lt c w ≡ false → c - w < n
      row_below c w n h e = grind (arith, nat_tests)

      whole : (c w : ℕ) → nat_lt c w ≡ false → w + (c - w) ≡ c
      whole c w e = grind (arith, nat_tests)

      by_case : (b : Bool) → nat_lt c width ≡ b → IsSpot d c (spot_of d c)
      by_case true e =
          subst (IsSpot d c) (sym (slot_spot width cells c (below c width e))) (subst (λ (k : ℕ). c < k) (sym outside_count) (below c width e), outside_is c (below c width e))
      by_case false e =
          let i : ℕ = c - width in
          let under : i < n = row_below c width n inside e in
          subst (IsSpot d c) (sym (ap (spot_of d) (sym (whole c width e)) ∙ row_spot width cells i under)) (subst (λ (k : ℕ). i < k) (sym basic_count) under, basic_is i under ∙ whole c width e)

  pub is_first : IsDictionary d
  is_first = record {
    count = spot_count ∙ sym (ap₂ (λ (a b : ℕ). a + b) outside_count basic_count);
    row_count = sym basic_count;
    widths = λ i h. widths i (subst (λ (k : ℕ). i < k) basic_count h) ∙ sym outside_count;
    rows = rows_said;
    slots = slots_said;
    columns = columns_said;
    solved_width = length-replicate width nothing ∙ sym outside_count;
  }
