-- The relations of whole numbers among terms, and the rows that they are.
use Rattle.std.specs.Prelude.{◌≡◌, ℕ, suc, Bool, ◌&&◌, List, [], ◌∷◌, Option, Some, None, pos, slice_get, if◌then◌else◌}
use Rattle.spv_logic.specs.declared.operators.Head.TheVariants.{Eq, Lt, Le}
use Rattle.spv_logic.specs.Terms.{Term, term}
use Rattle.spv_term.specs.Arena.{Arena}
use Rattle.spv_atoms.specs.Linear.{IdForm, PartsIn, IsSameForm, form_over}
use Rattle.spv_proof_rules.specs.Sums.{pair, difference}
use Rattle.spv_proof_rules.specs.Stops.{is_measured}

abbrev pub if_numbers : (Term → Bool) → Option (Term × Term) → Option (Term × Term)
if_numbers is_number None = None
if_numbers is_number (Some st) = if is_number st.0 && is_number st.1 then Some st else None

-- the sides of a relation of whole numbers
abbrev pub number_sides : (Term → Bool) → Term → Option (Term × Term)
number_sides is_number (term Eq ts) = if_numbers is_number (pair ts)
number_sides is_number (term Lt ts) = if_numbers is_number (pair ts)
number_sides is_number (term Le ts) = if_numbers is_number (pair ts)
number_sides is_number _ = None

abbrev pub in_front : Option (Term × Term) → List (Term × Term) → List (Term × Term)
in_front None others = others
in_front (Some st) others = st ∷ others

-- the relations of whole numbers among these terms, each by its sides, in order
abbrev pub relations : (Term → Bool) → List Term → List (Term × Term)
relations is_number [] = []
relations is_number (t ∷ ts) = in_front (number_sides is_number t) (relations is_number ts)

-- ---- rows

-- a form over ids is that of the difference of two terms
pub record IsRowOf (a : Arena) (st : Term × Term) (f : IdForm) : Type 0 where
  pub in_range : PartsIn a f.parts
  pub same : IsSameForm (form_over a f) (difference st.0 st.1 (pos 0))

-- the forms of these relations, in order
abbrev pub AreRowsOf : Arena → List (Term × Term) → List IdForm → Type 0
AreRowsOf a [] [] = Unit {0}
AreRowsOf a (st ∷ relations) (f ∷ forms) = IsRowOf a st f × AreRowsOf a relations forms
AreRowsOf a relations forms = ⊥

-- each part's id is in the arena
pub record AreIn (a : Arena) (forms : List IdForm) : Type 0 where
  pub each : (i : ℕ) (f : IdForm) → slice_get forms i ≡ Some f → PartsIn a f.parts

-- where the row of a relation stands behind n others, if the term is one
abbrev pub place_at : ℕ → Option (Term × Term) → Option ℕ
place_at n None = None
place_at n (Some st) = Some n

abbrev pub behind : ℕ → Option (Term × Term) → ℕ
behind n None = n
behind n (Some st) = suc n

-- the place of each term's row, where it has one, counted from n
abbrev pub places_from : ℕ → (Term → Bool) → List Term → List (Option ℕ)
places_from n is_number [] = []
places_from n is_number (t ∷ ts) = place_at n (number_sides is_number t) ∷ places_from (behind n (number_sides is_number t)) is_number ts

abbrev pub places : (Term → Bool) → List Term → List (Option ℕ)
places is_number ts = places_from 0 is_number ts

-- ---- forms that fit

-- the forms of the difference, of 1 more, and of both with the sides exchanged fit, and those in linear positions of the sides
abbrev pub fits_each_way : Term × Term → Bool
fits_each_way st =
    is_measured st.0 st.1 (pos 0) && (is_measured st.0 st.1 (pos 1) && (is_measured st.1 st.0 (pos 0) && is_measured st.1 st.0 (pos 1)))
