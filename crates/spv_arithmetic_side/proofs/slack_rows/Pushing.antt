-- One term more among those whose relations have rows.
use Rattle.std.proofs.Common.{◌≡◌, ℕ, zero, suc, ◌+◌, Bool, true, List, [], ◌∷◌, ◌++◌, length, map, take, refl, sym, ap, ◌∙◌, subst, Option, Some, None, Result, Ok, Err, IfErr, IsErrAnd, arith}
use Rattle.std.specs.Prelude.{slice_get, MatchOption}
use Rattle.std.proofs.lemmas.Option.{same_Some}
use Rattle.std.proofs.lemmas.List.{append-nil}
use Rattle.std.specs.List.{list_all}
use Rattle.std.proofs.lemmas.List.Folds.{list_all-append}
use Rattle.spv_atoms.proofs.Coefficients.{both_true}
use Rattle.spv_logic.specs.declared.conditions.TermId.{TermId}
use Rattle.spv_logic.specs.Terms.{Term}
use Rattle.spv_term.specs.Arena.{Arena, tree}
use Rattle.spv_atoms.specs.Linear.{IdForm, IsIdForm}
use Rattle.spv_proof.specs.sums.Readings.{number_in}
use Rattle.spv_tableau_rules.specs.constraints.Relations.{number_sides, in_front, relations, AreRowsOf, IsRowOf, place_at, behind, places_from, places, fits_each_way}
use Rattle.spv_arithmetic_side.specs.bounds.Bounds.{has_room}
use Rattle.spv_arithmetic_side.specs.bounds.Pairs.{IsPair}
use Rattle.spv_arithmetic_side.specs.declared.slack_rows.row.RowFault.{RowFault}
use Rattle.spv_arithmetic_side.specs.declared.slack_rows.row.RowFault.TheVariants.{Wide, Memory}
use Rattle.spv_arithmetic_side.specs.slack_rows.Rows.{HaveRoom, IsFittingRow, IsUnfit, IsWideTerm, IsWideAmong}
use Rattle.spv_arithmetic_side.specs.slack_rows.Adding.{HasRows}

module _ (is_number : Term → Bool) where
  in_front-append : (o : Option (Term × Term)) (xs ys : List (Term × Term)) → in_front o (xs ++ ys) ≡ in_front o xs ++ ys
  in_front-append None xs ys = refl
  in_front-append (Some st) xs ys = refl

  relations-push : (ts : List Term) (t : Term) → relations is_number (ts ++ t ∷ []) ≡ relations is_number ts ++ in_front (number_sides is_number t) []
  relations-push [] t = refl
  relations-push (s ∷ ts) t = ap (in_front (number_sides is_number s)) (relations-push ts t) ∙ in_front-append (number_sides is_number s) _ _

  -- the place of a term that comes last
  last_place : ℕ → List Term → Term → Option ℕ
  last_place n ts t = place_at (n + length (relations is_number ts)) (number_sides is_number t)

  counted : (n : ℕ) (o : Option (Term × Term)) (xs : List (Term × Term)) → behind n o + length xs ≡ n + length (in_front o xs)
  counted n None xs = refl
  counted n (Some st) xs = moved n (length xs)
    where
      moved : (n k : ℕ) → suc n + k ≡ n + suc k
      moved n k = omega arith

  places_from-push : (n : ℕ) (ts : List Term) (t : Term)
      → places_from n is_number (ts ++ t ∷ []) ≡ places_from n is_number ts ++ place_at (n + length (relations is_number ts)) (number_sides is_number t) ∷ []
  places_from-push n [] t = ap (λ k. place_at k (number_sides is_number t) ∷ []) (nothing n)
    where
      nothing : (n : ℕ) → n ≡ n + 0
      nothing n = omega arith
  places_from-push n (s ∷ ts) t =
      ap (λ ps. place_at n (number_sides is_number s) ∷ ps) (places_from-push (behind n (number_sides is_number s)) ts t
      ∙ ap (λ k. places_from (behind n (number_sides is_number s)) is_number ts ++ place_at k (number_sides is_number t) ∷ []) (counted n (number_sides is_number s) (relations is_number ts)))

module _ (a : Arena) where
  -- as many rows as relations
  same-length : (sides : List (Term × Term)) (forms : List IdForm) → AreRowsOf a sides forms → length forms ≡ length sides
  same-length [] [] h = refl
  same-length [] (f ∷ forms) h = absurd h
  same-length (st ∷ sides) [] h = absurd h
  same-length (st ∷ sides) (f ∷ forms) h = ap suc (same-length sides forms h.1)

  rows-push : (sides : List (Term × Term)) (forms : List IdForm) (st : Term × Term) (f : IdForm) → AreRowsOf a sides forms → IsRowOf a st f → AreRowsOf a (sides ++ st ∷ []) (forms ++ f ∷ [])
  rows-push [] [] st f h k = (k, tt)
  rows-push [] (g ∷ forms) st f h k = absurd h
  rows-push (s ∷ sides) [] st f h k = absurd h
  rows-push (s ∷ sides) (g ∷ forms) st f h k = (h.0, rows-push sides forms st f h.1 k)

  all-push : (sides : List (Term × Term)) (st : Term × Term) → list_all fits_each_way sides ≡ true → fits_each_way st ≡ true → list_all fits_each_way (sides ++ st ∷ []) ≡ true
  all-push sides st h k = list_all-append fits_each_way sides (st ∷ []) ∙ both_true _ _ h (both_true _ _ k refl)

  -- what each form has, and one form more
  form-push : (P : IdForm → Type 0) (forms : List IdForm) (f : IdForm) → ((i : ℕ) (g : IdForm) → slice_get forms i ≡ Some g → P g) → P f → (i : ℕ) (g : IdForm) → slice_get (forms ++ f ∷ []) i ≡ Some g → P g
  form-push P [] f before k zero g at = let same : f ≡ g = cc in subst P same k
  form-push P [] f before k (suc i) g at = absurd (cc)
  form-push P (e ∷ forms) f before k zero g at = before zero g at
  form-push P (e ∷ forms) f before k (suc i) g at = form-push P forms f (λ j v there. before (suc j) v there) k i g at

  room-push : (forms : List IdForm) (f : IdForm) → HaveRoom forms → has_room f.constant ≡ true → IsIdForm f → HaveRoom (forms ++ f ∷ [])
  room-push forms f h k form = record {
    each = form-push (λ (g : IdForm). has_room g.constant ≡ true) forms f h.each k;
    kept = form-push (λ (g : IdForm). IsIdForm g) forms f h.kept form;
  }

  pub add_other : (ts : List Term) (t : Term) (forms new_forms : List IdForm) (places new_places : List (Option ℕ)) → HasRows a ts forms places → number_sides (number_in a) t ≡ None
      → new_forms ≡ forms → new_places ≡ places ++ None ∷ [] → HasRows a (ts ++ t ∷ []) new_forms new_places
  add_other ts t forms new_forms old new_places h none forms_are places_are =
      let same : relations (number_in a) (ts ++ t ∷ []) ≡ relations (number_in a) ts = relations-push (number_in a) ts t ∙ (ap (λ o. relations (number_in a) ts ++ in_front o []) none ∙ append-nil _) in
      record {
        rows = subst (λ (fs : List IdForm). AreRowsOf a (relations (number_in a) (ts ++ t ∷ [])) fs) (sym forms_are) (subst (λ (ss : List (Term × Term)). AreRowsOf a ss forms) (sym same) h.rows);
        placed = places_are ∙ (ap (λ ps. ps ++ None ∷ []) h.placed ∙ sym (places_from-push (number_in a) 0 ts t ∙ ap (λ o. places (number_in a) ts ++ place_at (0 + length (relations (number_in a) ts)) o ∷ []) none));
        room = subst HaveRoom (sym forms_are) h.room;
        fits = ap (list_all fits_each_way) same ∙ h.fits;
      }

  pub add_row : (ts : List Term) (t : Term) (st : Term × Term) (f : IdForm) (forms new_forms : List IdForm) (places new_places : List (Option ℕ)) → HasRows a ts forms places → number_sides (number_in a) t ≡ Some st
      → IsFittingRow a st f → new_forms ≡ forms ++ f ∷ [] → new_places ≡ places ++ Some (length forms) ∷ [] → HasRows a (ts ++ t ∷ []) new_forms new_places
  add_row ts t st f forms new_forms old new_places h sides row forms_are places_are =
      let same : relations (number_in a) (ts ++ t ∷ []) ≡ relations (number_in a) ts ++ st ∷ [] = relations-push (number_in a) ts t ∙ ap (λ o. relations (number_in a) ts ++ in_front o []) sides in
      let count : length forms ≡ 0 + length (relations (number_in a) ts) = same-length (relations (number_in a) ts) forms h.rows ∙ zero_front (length (relations (number_in a) ts)) in
      record {
        rows = subst (λ (fs : List IdForm). AreRowsOf a (relations (number_in a) (ts ++ t ∷ [])) fs) (sym forms_are)
            (subst (λ (ss : List (Term × Term)). AreRowsOf a ss (forms ++ f ∷ [])) (sym same) (rows-push (relations (number_in a) ts) forms st f h.rows row.row));
        placed = places_are ∙ (ap (λ ps. ps ++ Some (length forms) ∷ []) h.placed ∙ (ap (λ k. places (number_in a) ts ++ Some k ∷ []) count
            ∙ sym (places_from-push (number_in a) 0 ts t ∙ ap (λ o. places (number_in a) ts ++ place_at (0 + length (relations (number_in a) ts)) o ∷ []) sides)));
        room = subst HaveRoom (sym forms_are) (room-push forms f h.room row.room row.kept);
        fits = ap (list_all fits_each_way) same ∙ all-push (relations (number_in a) ts) st h.fits row.fits;
      }
    where
      zero_front : (n : ℕ) → n ≡ 0 + n
      zero_front n = omega arith

-- ---- the sides that were found

abbrev Sides : Arena → Option (Term × Term) → Option (TermId × TermId) → Type 0
Sides a sides o = MatchOption o (sides ≡ None) (λ p. IsPair a sides p)

pub none_of : (a : Arena) (sides : Option (Term × Term)) (o : Option (TermId × TermId)) → Sides a sides o → o ≡ None → sides ≡ None
none_of a sides None h e = h
none_of a sides (Some p) h e = absurd (cc)

pub some_of : (a : Arena) (sides : Option (Term × Term)) (o : Option (TermId × TermId)) (p : TermId × TermId) → Sides a sides o → o ≡ Some p → sides ≡ Some (tree a p.0, tree a p.1)
some_of a sides None p h e = absurd (cc)
some_of a sides (Some q) p h e = let same : q ≡ p = same_Some q p e in subst (λ (r : TermId × TermId). sides ≡ Some (tree a r.0, tree a r.1)) same h.are

-- ---- the terms so far

abbrev list_of : List IdForm → List IdForm
list_of fs = fs

pub none_yet : (a : Arena) (forms : List IdForm) (placed : List (Option ℕ)) → forms ≡ [] → placed ≡ [] → HasRows a [] forms placed
none_yet a forms placed e f = record {
  rows = subst (λ (fs : List IdForm). AreRowsOf a [] fs) (sym e) tt;
  placed = f;
  room = record {
    each = λ i g at. absurd (nothing i g (ap (λ fs. slice_get fs i) (sym e) ∙ at));
    kept = λ i g at. absurd (nothing i g (ap (λ fs. slice_get fs i) (sym e) ∙ at));
  };
  fits = refl;
}
  where
    nothing : (i : ℕ) (g : IdForm) → slice_get (list_of []) i ≡ Some g → ⊥
    nothing i g h = cc

pub next_term : (a : Arena) (ids : List TermId) (i : ℕ) (t : TermId) (forms : List IdForm) (places : List (Option ℕ)) → take (i + 1) ids ≡ take i ids ++ t ∷ []
    → HasRows a (map (tree a) (take i ids) ++ tree a t ∷ []) forms places → HasRows a (map (tree a) (take (i + 1) ids)) forms places
next_term a ids i t forms places e h = subst (λ (ts : List Term). HasRows a ts forms places) (sym (ap (map (tree a)) e ∙ map-push (take i ids))) h
  where
    map-push : (xs : List TermId) → map (tree a) (xs ++ t ∷ []) ≡ map (tree a) xs ++ tree a t ∷ []
    map-push [] = refl
    map-push (x ∷ xs) = ap (λ ts. tree a x ∷ ts) (map-push xs)

pub unfit_among : (a : Arena) (ids : List TermId) (i : ℕ) (t : TermId) (e : RowFault) → slice_get ids i ≡ Some t → IsWideTerm a t e → IsWideAmong a ids e
unfit_among a ids i t (Wide u) at h = record { place = i; there = at ∙ ap Some (sym h.0); unfit = subst (IsUnfit a) (sym h.0) h.1 }
unfit_among a ids i t Memory at h = tt

pub if_fault : {T : Type 0} (r : Result T RowFault) (e : RowFault) (Q : RowFault → Type 0) → IsErrAnd r (λ f. f ≡ e) → Q e → IfErr r Q
if_fault (Ok x) e Q h q = tt
if_fault (Err f) e Q h q = subst Q (sym h) q
