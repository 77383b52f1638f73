-- The bounds that were ever asserted.
use Rattle.std.proofs.Common.{◌≡◌, ℕ, ◌+◌, ◌<◌, ◌≤◌, Bool, true, false, List, [], ◌∷◌, ◌++◌, take, length, Option, Some, None, nat_lt, slice_get, refl, sym, ap, ◌∙◌, subst, arith}
use Rattle.std.proofs.lemmas.Bool.{false≢true}
use Rattle.std.proofs.lemmas.Bool.Decides.{nat_tests}
use Rattle.std.proofs.lemmas.Grind.{common_steps}
use Rattle.std.proofs.lemmas.Option.{slice_get_within, slice_get_past}
use Rattle.std.proofs.lemmas.List.{length-append}
use Rattle.spv_term.proofs.ListLemmas.{slice_get-append_left, slice_get_push, slice_get-take}
use Rattle.spv_frac.specs.rational.Rational.{Rational}
use Rattle.spv_atoms.specs.Linear.{IdForm}
use Rattle.spv_tableau_rules.specs.tableaux.Rows.{Rows, column_of}
use Rattle.spv_tableau_rules.specs.tableaux.Bounds.{Bound}
use Rattle.spv_tableau_rules.specs.tableaux.Solved.{is_basic, row_places}
use Rattle.spv_tableau_rules.specs.tableaux.Forms.{rows_of}
use Rattle.spv_tableau_rules.specs.tableaux.Walks.{IsBoundOf}
use Rattle.spv_tableau_rules.proofs.pivots.Starting.{above_is}
use Rattle.spv_dictionary.specs.Dictionary.{places}
use Rattle.spv_simplex.specs.State.{rows_in, kept_point}
use Rattle.spv_simplex.specs.Checks.{IsAmong}
use Rattle.spv_simplex.specs.Laws.{OpensWithNone, AssertsOne, UndoesNone}

-- what is at a place stays there
stays_there : (xs : List Bound) (b : Bound) (i : ℕ) (x : Bound) → slice_get xs i ≡ Some x → slice_get (xs ++ b ∷ []) i ≡ Some x
stays_there xs b i x h = slice_get-append_left xs (b ∷ []) i (slice_get_within xs i x h) ∙ h

among_more : (asserted : List Bound) (b x : Bound) → IsAmong asserted x → IsAmong (asserted ++ b ∷ []) x
among_more asserted b x a = record { place = a.place; there = stays_there asserted b a.place x a.there }

bound_more : (asserted : List Bound) (b : Bound) (i : ℕ) (value : Rational) → IsBoundOf asserted i value → IsBoundOf (asserted ++ b ∷ []) i value
bound_more asserted b i value a = record { place = a.place; bound = a.bound; there = stays_there asserted b a.place a.bound a.there; row = a.row; same = a.same }

one_of : (x y : Bound) → Some x ≡ Some y → x ≡ y
one_of x y e = ap (value x) e
  where
    value : Bound → Option Bound → Bound
    value d None = d
    value d (Some z) = z

-- what is among the bounds and one more is among the bounds, or is that one
standing_more : (asserted bounds : List Bound) (b : Bound) → ((place : ℕ) (x : Bound) → slice_get bounds place ≡ Some x → IsAmong asserted x)
    → (place : ℕ) (x : Bound) → slice_get (bounds ++ b ∷ []) place ≡ Some x → IsAmong (asserted ++ b ∷ []) x
standing_more asserted bounds b standing place x h = by_case (nat_lt place (length bounds)) refl
  where
    below : (p n : ℕ) → nat_lt p n ≡ true → p < n
    below p n e = grind (arith, nat_tests)

    last : (p n m : ℕ) → nat_lt p n ≡ false → p < m → m ≡ n + 1 → p ≡ n
    last p n m e k f = grind (arith, nat_tests)

    by_case : (c : Bool) → nat_lt place (length bounds) ≡ c → IsAmong (asserted ++ b ∷ []) x
    by_case true e =
        among_more asserted b x (standing place x (sym (slice_get-append_left bounds (b ∷ []) place (below place (length bounds) e)) ∙ h))
    by_case false e =
        let is_last : place ≡ length bounds = last place (length bounds) (length (bounds ++ b ∷ [])) e (slice_get_within (bounds ++ b ∷ []) place x h) (length-append bounds (b ∷ [])) in
        record {
          place = length asserted;
          there = slice_get_push asserted b ∙ sym (slice_get_push bounds b) ∙ ap (slice_get (bounds ++ b ∷ [])) (sym is_last) ∙ h;
        }

pub asserts_one : AssertsOne
asserts_one asserted s b h = record {
  standing = standing_more asserted s.bounds b h.standing;
  held = record {
    parts = h.held.parts;
    row_columns = λ i below out. bound_more asserted b i (kept_point s (column_of (rows_in s) i)) (h.held.row_columns i below out);
  };
}

pub undoes_none : UndoesNone
undoes_none asserted s n h = record {
  standing = λ place x there. h.standing place x (first_there place x there);
  held = h.held;
}
  where
    first_there : (place : ℕ) (x : Bound) → slice_get (take n s.bounds) place ≡ Some x → slice_get s.bounds place ≡ Some x
    first_there place x h = by_case (nat_lt place n) refl
      where
        below : (p n : ℕ) → nat_lt p n ≡ true → p < n
        below p n e = grind (arith, nat_tests)

        short : (p n m : ℕ) → nat_lt p n ≡ false → m ≤ n → m ≤ p
        short p n m e k = grind (arith, nat_tests)

        by_case : (c : Bool) → nat_lt place n ≡ c → slice_get s.bounds place ≡ Some x
        by_case true e = sym (slice_get-take s.bounds place n (below place n e)) ∙ h
        by_case false e = absurd (some≢none (sym h ∙ slice_get_past (take n s.bounds) place (short place n (length (take n s.bounds)) e (few n s.bounds))))
          where
            few : (n : ℕ) (xs : List Bound) → length (take n xs) ≤ n
            few n xs = grind (arith, common_steps)

            some≢none : Some x ≡ None → ⊥
            some≢none e = false≢true (ap is_empty e)
              where
                is_empty : Option Bound → Bool
                is_empty None = true
                is_empty (Some y) = false

pub opens_with_none : OpensWithNone
opens_with_none forms trail pivots s o = record {
  standing = λ place x there. absurd (nothing_there place x (ap (λ bounds. slice_get bounds place) (sym o.no_bounds) ∙ there));
  held = record {
    parts = λ c below out. o.zeros c;
    row_columns = λ i below out. absurd (false≢true (sym out ∙ is_row i below));
  };
}
  where
    nothing_there : (place : ℕ) (x : Bound) → slice_get [] place ≡ Some x → ⊥
    nothing_there place x h = no_less place (slice_get_within [] place x h)
      where
        no_less : (p : ℕ) → p < 0 → ⊥
        no_less p h = omega arith

    more : (p i n : ℕ) → i < n → p + i < p + n
    more p i n h = omega arith

    row_basic : (rows : Rows) (i : ℕ) → is_basic (row_places rows (rows.parts + i)) ≡ true
    row_basic rows i = rw (above_is rows.parts i) refl

    is_row : (i : ℕ) → i < (rows_in s).count → is_basic (places s.form (column_of (rows_in s) i)) ≡ true
    is_row i below =
        ap (λ f. is_basic (places s.form (column_of (rows_of f) i))) o.forms_are
        ∙ o.all_rows (column_of (rows_of forms) i) (more (rows_of forms).parts i (rows_of forms).count (subst (λ (f : List IdForm). i < length f) o.forms_are below))
        ∙ row_basic (rows_of forms) i
