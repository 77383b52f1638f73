-- The values of a step.
use Rattle.std.proofs.Common.{◌≡◌, ℕ, ◌<◌, false, List, length, nat_eq, slice_set, sym, ap, ◌∙◌, subst, arith}
use Rattle.std.proofs.lemmas.List.{get_or-set_same, get_or-set_other, length-set}
use Rattle.spv_frac.specs.rational.Rational.{Rational, plus, times}
use Rattle.spv_tableau_rules.specs.tableaux.Numbers.{nothing}
use Rattle.spv_dictionary.specs.declared.spot.Spot.{Spot}
use Rattle.spv_dictionary.specs.declared.spot.Spot.TheVariants as spot
use Rattle.spv_dictionary.specs.Dictionary.{Dictionary, IsDictionary, spot_of, basic_at, outside_at}
use Rattle.spv_dictionary.proofs.Exchanging.{differ_of, false_of, row≢slot}
use Rattle.spv_dictionary.specs.updates.Shifts.{value_in, entry_in, HasGoneTo}
use Rattle.spv_dictionary.proofs.updates.Going.{columns_apart}
use Rattle.spv_dictionary.specs.pivoting.Stepping.{AreStepped}
use Rattle.spv_dictionary.specs.pivoting.Moving.{way_to, AreMovedTo}

module _ (d : Dictionary) (known : IsDictionary d) where
  pub row_slot_apart : (k j : ℕ) → k < length d.basic → j < length d.outside → nat_eq (basic_at d k) (outside_at d j) ≡ false
  row_slot_apart k j k_in j_in =
      false_of (basic_at d k) (outside_at d j) (λ same. row≢slot k j (sym (known.rows k k_in).1 ∙ ap (spot_of d) same ∙ (known.slots j j_in).1))

  pub slot_row_apart : (j k : ℕ) → j < length d.outside → k < length d.basic → nat_eq (outside_at d j) (basic_at d k) ≡ false
  slot_row_apart j k j_in k_in =
      false_of (outside_at d j) (basic_at d k) (λ same. row≢slot k j (sym (known.rows k k_in).1 ∙ ap (spot_of d) (sym same) ∙ (known.slots j j_in).1))

  slots_apart : (j m : ℕ) → j < length d.outside → m < length d.outside → nat_eq j m ≡ false → nat_eq (outside_at d j) (outside_at d m) ≡ false
  slots_apart j m j_in m_in h =
      false_of (outside_at d j) (outside_at d m) (λ same. differ_of j m h (ap slot_number (sym (known.slots j j_in).1 ∙ ap (spot_of d) same ∙ (known.slots m m_in).1)))
    where
      slot_number : Spot → ℕ
      slot_number (spot.Row n) = n
      slot_number (spot.Slot n) = n

  -- the values that have gone on, with those of the two columns of the step
  pub are_stepped : (values gone : List Rational) (row slot : ℕ) (bound shift next : Rational) → length values ≡ length d.spots → row < length d.basic → slot < length d.outside
      → HasGoneTo d values slot shift row (length d.basic) gone → next ≡ plus (value_in values (outside_at d slot)) shift
      → AreStepped d values row slot bound shift (slice_set (slice_set gone (basic_at d row) bound) (outside_at d slot) next)
  are_stepped values gone row slot bound shift next count row_in slot_in g is = record {
    count = length-set (slice_set gone l bound) e next ∙ length-set gone l bound ∙ g.count;
    leaving = at_other l (row_slot_apart row slot row_in slot_in) ∙ get_or-set_same gone l bound nothing (inside l (known.rows row row_in).0);
    entering = get_or-set_same (slice_set gone l bound) e next nothing (subst (λ (n : ℕ). e < n) (sym (length-set gone l bound)) (inside e (known.slots slot slot_in).0)) ∙ is;
    rows = λ k below other. at_other (basic_at d k) (row_slot_apart k slot below slot_in) ∙ get_or-set_other gone l (basic_at d k) bound nothing (differ_of (basic_at d k) l (columns_apart d known k row below row_in other)) ∙ g.each k below other;
    slots = λ j below other. at_other (outside_at d j) (slots_apart j slot below slot_in other)
        ∙ get_or-set_other gone l (outside_at d j) bound nothing (differ_of (outside_at d j) l (slot_row_apart j row below row_in))
        ∙ g.others (outside_at d j) (λ k k_in other_row. slot_row_apart j k below k_in);
  }
    where
      l : ℕ
      l = basic_at d row

      e : ℕ
      e = outside_at d slot

      inside : (c : ℕ) → c < length d.spots → c < length gone
      inside c h = subst (λ (n : ℕ). c < n) (sym (g.count ∙ count)) h

      at_other : (c : ℕ) → nat_eq c e ≡ false → value_in (slice_set (slice_set gone l bound) e next) c ≡ value_in (slice_set gone l bound) c
      at_other c h = get_or-set_other (slice_set gone l bound) e c next nothing (differ_of c e h)

-- ---- a column that moves to a bound

pub are_moved : (d : Dictionary) → IsDictionary d → (values gone : List Rational) (slot : ℕ) (bound way : Rational) → length values ≡ length d.spots → slot < length d.outside
    → way ≡ way_to d values slot bound → HasGoneTo d values slot way (length d.basic) (length d.basic) gone → AreMovedTo d values slot bound (slice_set gone (outside_at d slot) bound)
are_moved d known values gone slot bound way count slot_in is g = record {
  count = length-set gone e bound ∙ g.count;
  column = get_or-set_same gone e bound nothing (subst (λ (n : ℕ). e < n) (sym (g.count ∙ count)) (known.slots slot slot_in).0);
  rows = λ k below. at_other (basic_at d k) (row_slot_apart d known k slot below slot_in) ∙ g.each k below (no_row k (length d.basic) below)
      ∙ ap (λ w. plus (value_in values (basic_at d k)) (times w (entry_in d k slot))) is;
  slots = λ j below other. at_other (outside_at d j) (slots_apart d known j slot below slot_in other)
      ∙ g.others (outside_at d j) (λ k k_in other_row. slot_row_apart d known j k below k_in);
}
  where
    e : ℕ
    e = outside_at d slot

    at_other : (c : ℕ) → nat_eq c e ≡ false → value_in (slice_set gone e bound) c ≡ value_in gone c
    at_other c h = get_or-set_other gone e c bound nothing (differ_of c e h)

    no_row : (k n : ℕ) → k < n → nat_eq k n ≡ false
    no_row k n h = grind arith
