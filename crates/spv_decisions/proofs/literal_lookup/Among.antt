-- Facts by their places.
use Rattle.std.proofs.Common.{◌≡◌, ℕ, suc, ◌<◌, Bool, true, false, ◌||◌, List, [], ◌∷◌, length, get_or, slice_get, refl, sym, ap, ◌∙◌, Some}
use Rattle.std.specs.List.{list_any}
use Rattle.std.proofs.lemmas.Bool.{false≢true}
use Rattle.std.proofs.lemmas.Option.{slice_get-get_or, slice_get_within, get_or_from_slice_get}
use Rattle.std.proofs.lemmas.List.Folds.{list_any_at}
use Rattle.spv_term.specs.Arena.{Arena}
use Rattle.spv_assignments.specs.declared.partial_assignment.facts.Known.{Known}
use Rattle.spv_decisions.specs.literal_lookup.Facts.{AreThere, IsCore, AreCores}

-- ---- tests of the items of a list

pub none_passes : {X : Type 0} (test : X → Bool) (xs : List X) → ((i : ℕ) (x : X) → slice_get xs i ≡ Some x → test x ≡ false) → list_any test xs ≡ false
none_passes test [] h = refl
none_passes test (x ∷ xs) h = ap (λ b. b || list_any test xs) (h 0 x refl) ∙ none_passes test xs (λ i y e. h (suc i) y e)

pub one_passes : {X : Type 0} (test : X → Bool) (xs : List X) (i : ℕ) (x : X) → slice_get xs i ≡ Some x → test x ≡ true → list_any test xs ≡ true
one_passes test xs i x e h = list_any_at test xs i x (slice_get_within xs i x e) (ap test (get_or_from_slice_get xs i x x e) ∙ h)

-- an item that passes a test
pub record Passing {X : Type 0} (test : X → Bool) (xs : List X) : Type 0 where
  pub place : ℕ
  pub item : X
  pub here : slice_get xs place ≡ Some item
  pub passes : test item ≡ true

pub passing_item : {X : Type 0} (test : X → Bool) (xs : List X) → list_any test xs ≡ true → Passing test xs
passing_item test [] e = absurd (false≢true e)
passing_item {X} test (x ∷ xs) e = by_case (test x) refl (λ h. passing_item test xs h)
  where
    by_case : (b : Bool) → test x ≡ b → (list_any test xs ≡ true → Passing test xs) → Passing test (x ∷ xs)
    by_case true h later = record { place = 0; item = x; here = refl; passes = h }
    by_case false h later =
        let found = later (sym (ap (λ b. b || list_any test xs) h) ∙ e) in
        record { place = suc found.place; item = found.item; here = found.here; passes = found.passes }

-- ---- the fact at a place

pub there_at : (a : Arena) (known : List Known) (i : ℕ) (d : Known) → AreThere a known → i < length known → (get_or known i d).term.0 < length a.nodes
there_at a known i d there below = there.each i (get_or known i d) (slice_get-get_or known i d below)

pub core_at : (a : Arena) (known : List Known) (i : ℕ) (d : Known) → AreCores a known → i < length known → IsCore a (get_or known i d)
core_at a known i d cores below = cores.each i (get_or known i d) (slice_get-get_or known i d below)
