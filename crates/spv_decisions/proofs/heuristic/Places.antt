-- Atoms at places, and terms that are there.
use Rattle.std.proofs.Common.{◌≡◌, ℕ, zero, suc, ◌<◌, Bool, List, [], ◌∷◌, ◌++◌, length, get_or, sym, ap, ◌∙◌, subst, Option, Some, inl, inr}
use Rattle.std.specs.Prelude.{slice_get}
use Rattle.std.proofs.lemmas.Option.{slice_get-get_or, same_Some}
use Rattle.spv_logic.specs.declared.conditions.TermId.{TermId}
use Rattle.spv_term.specs.Arena.{Arena, AllBelow}
use Rattle.spv_term.proofs.TreeLemmas.{AllBelow-append, AllBelow-at}
use Rattle.spv_assignments.specs.kleene.Passes.{StandsAt}
use Rattle.spv_assignments.specs.declared.partial_assignment.facts.Known.{Known}
use Rattle.spv_decisions.specs.declared.decision.choosing.Choice.{Choice}
use Rattle.spv_decisions.specs.declared.decision.choosing.Choice.TheVariants.{Split}
use Rattle.spv_decisions.specs.decision.Choosing.{IsChoice, IsSplit}
use Rattle.spv_decisions.specs.heuristic.Guiding.{MayBeSplit}

pub item_in : (n : ℕ) (ids : List TermId) (i : ℕ) (d : TermId) → AllBelow n ids → i < length ids → (get_or ids i d).0 < n
item_in n ids i d h below = AllBelow-at n ids i (get_or ids i d) h (slice_get-get_or ids i d below)

pub one_in : (n : ℕ) (ids : List TermId) (i : ℕ) (d : TermId) → AllBelow n ids → i < length ids → AllBelow n (get_or ids i d ∷ [])
one_in n ids i d h below = (item_in n ids i d h below, tt)

pub pushed_in : (n : ℕ) (old new : List TermId) (t : TermId) → AllBelow n old → t.0 < n → new ≡ old ++ t ∷ [] → AllBelow n new
pushed_in n old new t h k e = subst (AllBelow n) (sym e) (AllBelow-append n old (t ∷ []) h (k, tt))

pub formulas_in : (n : ℕ) (none first all given : List TermId) (goal : TermId) → none ≡ [] → first ≡ none ++ goal ∷ [] → all ≡ first ++ given → AllBelow n given → goal.0 < n → AllBelow n all
formulas_in n none first all given goal e f g h k =
    subst (AllBelow n) (sym g) (AllBelow-append n first given (subst (AllBelow n) (sym (f ∙ ap (λ ts. ts ++ goal ∷ []) e)) (k, tt)) h)

-- the choice among one atom is that atom
only : (t u : TermId) → StandsAt (t ∷ []) u → t ≡ u
only t u s = by_place s.place s.is
  where
    by_place : (i : ℕ) → slice_get (t ∷ []) i ≡ Some u → t ≡ u
    by_place zero e = same_Some t u e
    by_place (suc i) e = absurd (cc)

pub split_one : (a : Arena) (atoms : List TermId) (values : List (Option Bool)) (known : List Known) (i : ℕ) (d : TermId) (x : Choice) (t : TermId) → i < length atoms → x ≡ Split t → IsChoice a (get_or atoms i d ∷ []) values known x
    → MayBeSplit a atoms values known t
split_one a atoms values known i d x t below e h = by_choice (subst (IsChoice a (get_or atoms i d ∷ []) values known) e h)
  where
    there : get_or atoms i d ≡ t → StandsAt atoms t
    there same = record { place = i; is = slice_get-get_or atoms i d below ∙ ap Some same }

    by_choice : IsSplit a (get_or atoms i d ∷ []) values known t → MayBeSplit a atoms values known t
    by_choice (one, inl none) = (there (only (get_or atoms i d) t one), inl none)
    by_choice (one, inr lacks) = (there (only (get_or atoms i d) t one), inr lacks.1)
