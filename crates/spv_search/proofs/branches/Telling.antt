-- The atoms of the cases of a path.
use Rattle.std.proofs.Common.{◌≡◌, ℕ, zero, suc, Bool, true, false, ◌||◌, List, [], ◌∷◌, ◌++◌, map, refl, ap, ◌∙◌, Some}
use Rattle.std.specs.Prelude.{reverse, slice_get}
use Rattle.std.proofs.lemmas.List.{reverse-append}
use Rattle.spv_logic.proofs.list.Tests.{both_false}
use Rattle.spv_logic.specs.declared.conditions.TermId.{TermId}
use Rattle.spv_logic.specs.Terms.{Term, term_eq}
use Rattle.spv_term.specs.Arena.{Arena}
use Rattle.spv_models.specs.leaf_models.Subterms.{is_among}
use Rattle.spv_search.specs.declared.branches.cases.Case.{Case}
use Rattle.spv_search.specs.branches.Growth.{atom_in, branch_of, CaseIn, CasesIn}

none_behind : (xs ys : List Term) (t : Term) → is_among xs t ≡ false → is_among ys t ≡ false → is_among (xs ++ ys) t ≡ false
none_behind [] ys t h k = k
none_behind (x ∷ xs) ys t h k = both_false (term_eq t x) (is_among (xs ++ ys) t) (first (term_eq t x) (is_among xs t) h) (none_behind xs ys t (second (term_eq t x) (is_among xs t) h) k)
  where
    first : (a b : Bool) → (a || b) ≡ false → a ≡ false
    first true b e = e
    first false b e = refl

    second : (a b : Bool) → (a || b) ≡ false → b ≡ false
    second true b e = absurd (cc)
    second false b e = e

-- the first case is not of it, and none behind
turned_none : (x t : Term) (xs : List Term) → term_eq t x ≡ false → is_among (reverse xs) t ≡ false → is_among (reverse (x ∷ xs)) t ≡ false
turned_none x t xs e h = ap (λ (ys : List Term). is_among ys t) (reverse-append (x ∷ []) xs) ∙ none_behind (reverse xs) (x ∷ []) t h (both_false (term_eq t x) false e refl)

pub others-new : (at : TermId → Term) (cs : List Case) (t : Term) → ((i : ℕ) (c : Case) → slice_get cs i ≡ Some c → term_eq t (at c.atom) ≡ false) → is_among (branch_of at cs).above t ≡ false
others-new at [] t h = refl
others-new at (c ∷ cs) t h = turned_none (at c.atom) t (map (atom_in at) cs) (h zero c refl) (others-new at cs t (λ i d e. h (suc i) d e))

pub last-in : (a : Arena) (cs : List Case) (c : Case) → CasesIn a (cs ++ c ∷ []) → CaseIn a c
last-in a [] c h = h.0
last-in a (d ∷ cs) c h = last-in a cs c h.1
