-- An exchange as it is made.
use Rattle.std.proofs.Common.{◌≡◌, ℕ, ◌<◌, Bool, true, false, List, [], length, nat_eq, slice_index_or, slice_set, refl, sym, ap, ◌∙◌, subst}
use Rattle.std.proofs.lemmas.List.{get_or-set_same, get_or-set_other, length-set}
use Rattle.spv_frac.specs.rational.Rational.{Rational, is_zero}
use Rattle.spv_tableau_rules.proofs.pivots.Sums.{eq_is}
use Rattle.spv_dictionary.specs.Cells.{cell}
use Rattle.spv_dictionary.specs.Dictionary.{Dictionary, IsDictionary, basic_at, outside_at, row_at}
use Rattle.spv_dictionary.specs.Exchanges.{solved_at, mixed_at, exchanged_spots, IsExchanged}
use Rattle.spv_dictionary.specs.Mixing.{IsMixed, AreMixedTo, IsReady, number_row}
use Rattle.spv_dictionary.proofs.Exchanging.{differ_of, stays_dictionary}

-- the fields that an exchange has written
pub record IsMade (old new : Dictionary) (i j : ℕ) (kept : List (List Rational)) : Type 0 where
  pub spots : new.spots ≡ exchanged_spots old i j
  pub basic : new.basic ≡ slice_set old.basic i (outside_at old j)
  pub outside : new.outside ≡ slice_set old.outside j (basic_at old i)
  pub mixed : AreMixedTo old.cells old.solved i j (length old.cells) kept
  pub cells : new.cells ≡ slice_set kept i old.solved
  pub solved : length new.solved ≡ length old.solved

pub made : (old new : Dictionary) (i j : ℕ) (kept : List (List Rational)) → IsDictionary old → IsReady old i j → i < length old.basic → IsMade old new i j kept
    → IsExchanged old new i j
made old new i j kept d r row_in m = record {
  spots = m.spots;
  basic = m.basic;
  outside = m.outside;
  row_count = ap (λ s. length s) m.cells ∙ length-set kept i old.solved ∙ m.mixed.count;
  widths = widths;
  solved_width = m.solved;
  solved = solved;
  mixed = mixed;
}
  where
    in_cells : (k : ℕ) → k < length old.basic → k < length old.cells
    in_cells k h = subst (λ (n : ℕ). k < n) (sym d.row_count) h

    here : row_at new i ≡ old.solved
    here = ap (λ s. slice_index_or s i []) m.cells ∙ get_or-set_same kept i old.solved [] (subst (λ (n : ℕ). i < n) (sym m.mixed.count) (in_cells i row_in))

    else_where : (k : ℕ) → nat_eq k i ≡ false → row_at new k ≡ number_row kept k
    else_where k h = ap (λ s. slice_index_or s k []) m.cells ∙ get_or-set_other kept i k old.solved [] (differ_of k i h)

    row_mixed : (k : ℕ) → k < length old.basic → nat_eq k i ≡ false → IsMixed (row_at old k) old.solved j (row_at new k)
    row_mixed k below h = subst (λ (s : List Rational). IsMixed (row_at old k) old.solved j s) (sym (else_where k h)) (m.mixed.each k (in_cells k below) h)

    in_row : (k x : ℕ) → k < length old.basic → x < length old.outside → x < length (row_at old k)
    in_row k x below h = subst (λ (n : ℕ). x < n) (sym (d.widths k below)) h

    widths : (k : ℕ) → k < length old.basic → length (row_at new k) ≡ length (row_at old k)
    widths k below = by_case (nat_eq k i) refl
      where
        by_case : (b : Bool) → nat_eq k i ≡ b → length (row_at new k) ≡ length (row_at old k)
        by_case true e = ap (λ y. length (row_at new y)) (eq_is k i e) ∙ ap (λ s. length s) here ∙ d.solved_width ∙ sym (d.widths k below)
        by_case false e = (row_mixed k below e).count

    solved : (x : ℕ) → x < length old.outside → cell (row_at new i) x ≡ solved_at (row_at old i) j x
    solved x below = ap (λ s. cell s x) here ∙ r.solved.each x (in_row i x row_in below)

    mixed : (k x : ℕ) → k < length old.basic → nat_eq k i ≡ false → x < length old.outside → cell (row_at new k) x ≡ mixed_at (row_at old k) (row_at new i) j x
    mixed k x below other x_below = (row_mixed k below other).each x (in_row k x below x_below) ∙ ap (λ s. mixed_at (row_at old k) s j x) (sym here)

-- the same of a dictionary under another name
pub record Made (old new : Dictionary) (i j : ℕ) : Type 0 where
  pub exchanged : IsExchanged old new i j
  pub dictionary : IsDictionary new

pub made_as : (old now new : Dictionary) (i j : ℕ) (kept : List (List Rational)) → old ≡ now → IsDictionary old → IsReady now i j → i < length now.basic → j < length now.outside
    → is_zero (cell (row_at now i) j) ≡ false → IsMade old new i j kept → Made now new i j
made_as old now new i j kept e d r row_in slot_in nonzero m =
    let is : IsExchanged now new i j = made now new i j kept (subst IsDictionary e d) r row_in (subst (λ (o : Dictionary). IsMade o new i j kept) e m) in
    record { exchanged = is; dictionary = stays_dictionary now new i j (subst IsDictionary e d) is row_in slot_in nonzero }
