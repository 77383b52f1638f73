-- The rows of relations, by their places.
use Rattle.std.proofs.Common.{◌≡◌, ℕ, zero, suc, ◌+◌, ◌<◌, Bool, List, [], ◌∷◌, length, refl, sym, subst, Option, Some, None, arith}
use Rattle.std.specs.Prelude.{slice_get}
use Rattle.spv_logic.specs.Terms.{Term}
use Rattle.spv_term.specs.Arena.{Arena}
use Rattle.spv_atoms.specs.Linear.{IdForm, PartsIn}
use Rattle.spv_tableau_rules.specs.constraints.Relations.{number_sides, in_front, relations, IsRowOf, AreRowsOf, AreIn, place_at, behind, places_from, places}

-- behind n rows, the place i of the term at j is that of its row
pub record IsPlaced (is_number : Term → Bool) (a : Arena) (n i : ℕ) (ts : List Term) (j : ℕ) (forms : List IdForm) : Type 0 where
  pub place : ℕ
  pub is : i ≡ n + place
  pub there : place < length forms
  pub row : (t : Term) (st : Term × Term) → slice_get ts j ≡ Some t → number_sides is_number t ≡ Some st → (f : IdForm) → slice_get forms place ≡ Some f → IsRowOf a st f

module _ (is_number : Term → Bool) (a : Arena) where
  abbrev Placed : List Term → Type 0
  Placed ts = (n i j : ℕ) (forms : List IdForm) → AreRowsOf a (relations is_number ts) forms → slice_get (places_from n is_number ts) j ≡ Some (Some i) → IsPlaced is_number a n i ts j forms

  front : (n i : ℕ) (t : Term) (ts : List Term) (st : Term × Term) (f : IdForm) (forms : List IdForm) → number_sides is_number t ≡ Some st → IsRowOf a st f → n ≡ i
      → IsPlaced is_number a n i (t ∷ ts) 0 (f ∷ forms)
  front n i t ts st f forms e row same = record {
    place = 0;
    is = first n i same;
    there = omega arith;
    row = λ u su at sides g there.
        let same_term : t ≡ u = cc in
        let same_sides : st ≡ su = cc in
        let same_form : f ≡ g = cc in
        subst (λ (s : Term × Term). IsRowOf a s g) same_sides (subst (λ (k : IdForm). IsRowOf a st k) same_form row);
  }
    where
      first : (n i : ℕ) → n ≡ i → i ≡ n + 0
      first n i e = omega arith

  later : (n i j : ℕ) (t : Term) (ts : List Term) (f : IdForm) (forms : List IdForm) → IsPlaced is_number a (suc n) i ts j forms → IsPlaced is_number a n i (t ∷ ts) (suc j) (f ∷ forms)
  later n i j t ts f forms p = record { place = suc p.place; is = moved n i p.place p.is; there = more p.place (length forms) p.there; row = p.row }
    where
      moved : (n i k : ℕ) → i ≡ suc n + k → i ≡ n + suc k
      moved n i k e = omega arith

      more : (k l : ℕ) → k < l → suc k < suc l
      more k l h = omega arith

  step : (t : Term) (ts : List Term) → Placed ts → (o : Option (Term × Term)) → number_sides is_number t ≡ o → (n i j : ℕ) (forms : List IdForm) → AreRowsOf a (in_front o (relations is_number ts)) forms
      → slice_get (place_at n o ∷ places_from (behind n o) is_number ts) j ≡ Some (Some i) → IsPlaced is_number a n i (t ∷ ts) j forms
  step t ts rest None e n i zero forms rows at = absurd (cc)
  step t ts rest None e n i (suc j) forms rows at = let p = rest n i j forms rows at in record { place = p.place; is = p.is; there = p.there; row = p.row }
  step t ts rest (Some st) e n i j [] rows at = absurd rows
  step t ts rest (Some st) e n i zero (f ∷ forms) rows at = front n i t ts st f forms e rows.0 (cc)
  step t ts rest (Some st) e n i (suc j) (f ∷ forms) rows at = later n i j t ts f forms (rest (suc n) i j forms rows.1 at)

  placed : (ts : List Term) → Placed ts
  placed [] n i j forms rows at = absurd (cc)
  placed (t ∷ ts) n i j forms rows at = step t ts (placed ts) (number_sides is_number t) refl n i j forms rows at

  from_zero : (i k : ℕ) → i ≡ 0 + k → k ≡ i
  from_zero i k e = omega arith

  pub place_of_row : (ts : List Term) (forms : List IdForm) → AreRowsOf a (relations is_number ts) forms → (j i : ℕ) (t : Term) (st : Term × Term)
      → slice_get ts j ≡ Some t → number_sides is_number t ≡ Some st → slice_get (places is_number ts) j ≡ Some (Some i) → (f : IdForm) → slice_get forms i ≡ Some f → IsRowOf a st f
  place_of_row ts forms rows j i t st there sides at f form =
      let p = placed ts 0 i j forms rows at in
      p.row t st there sides f (subst (λ (k : ℕ). slice_get forms k ≡ Some f) (sym (from_zero i p.place p.is)) form)

  pub place_there : (ts : List Term) (forms : List IdForm) → AreRowsOf a (relations is_number ts) forms → (j i : ℕ) → slice_get (places is_number ts) j ≡ Some (Some i) → i < length forms
  place_there ts forms rows j i at = let p = placed ts 0 i j forms rows at in subst (λ (k : ℕ). k < length forms) (from_zero i p.place p.is) p.there

pub rows_in : (a : Arena) (sides : List (Term × Term)) (forms : List IdForm) → AreRowsOf a sides forms → AreIn a forms
rows_in a sides forms rows = record { each = λ i f at. inside sides forms rows i f at }
  where
    inside : (sides : List (Term × Term)) (forms : List IdForm) → AreRowsOf a sides forms → (i : ℕ) (f : IdForm) → slice_get forms i ≡ Some f → PartsIn a f.parts
    inside [] [] rows i f at = absurd (cc)
    inside [] (g ∷ forms) rows i f at = absurd rows
    inside (st ∷ sides) [] rows i f at = absurd rows
    inside (st ∷ sides) (g ∷ forms) rows zero f at = let same : g ≡ f = cc in subst (λ (k : IdForm). PartsIn a k.parts) same rows.0.in_range
    inside (st ∷ sides) (g ∷ forms) rows (suc i) f at = inside sides forms rows.1 i f at
