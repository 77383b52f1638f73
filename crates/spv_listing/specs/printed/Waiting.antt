-- Terms that are printed in part: of each, the arguments whose text is still to come.
use Rattle.std.specs.Prelude.{◌≡◌, ℕ, suc, ◌+◌, ◌<◌, Option, List, [], ◌∷◌, ◌++◌, All, length, codes}
use Rattle.std.specs.Borrow.{Bor}
use Rattle.spv_logic.specs.declared.names.names.Symbol.{Symbol}
use Rattle.spv_logic.specs.declared.conditions.TermId.{TermId}
use Rattle.spv_logic.specs.Terms.{Term, Terms, term, no_terms, terms}
use Rattle.spv_term.specs.Arena.{Arena, AllBelow, trees}
use Rattle.spv_listing.specs.printed.Printed.{arguments_text}

-- what is still to come of a term: these arguments and the bracket
abbrev pub rest_text : List (List ℕ) → List (Option Symbol) → Arena → List TermId → List ℕ
rest_text names titles a args = arguments_text names titles (trees a args) ++ codes ")"

-- what is still to come of terms that stand in one another, the innermost last
abbrev pub rest_texts : List (List ℕ) → List (Option Symbol) → Arena → List (Bor (List TermId)) → List ℕ
rest_texts names titles a [] = []
rest_texts names titles a (args ∷ waiting) = rest_texts names titles a waiting ++ rest_text names titles a args.now

abbrev mutual
  -- how many steps it takes to print a term: one for its head, one for its end, and those for its arguments
  pub steps : Term → ℕ
  steps (term h ts) = suc (suc (all_steps ts))

  pub all_steps : Terms → ℕ
  all_steps no_terms = 0
  all_steps (terms t ts) = steps t + all_steps ts

-- how many steps are still to come
abbrev pub steps_left : Arena → List (Bor (List TermId)) → ℕ
steps_left a [] = 0
steps_left a (args ∷ waiting) = suc (all_steps (trees a args.now)) + steps_left a waiting

-- the arguments that wait are terms of the arena
abbrev pub AreTerms : Arena → List (Bor (List TermId)) → Type 0
AreTerms a waiting = All (λ args. AllBelow (length a.nodes) args.now) waiting

-- a text is printed in part, and the rest of it waits in front of what waited before; that takes fewer than so many steps more
pub record Begins (names : List (List ℕ)) (titles : List (Option Symbol)) (a : Arena) (text : List ℕ) (count : ℕ)
    (out : List ℕ) (waiting : List (Bor (List TermId))) (more : List ℕ) (waits : List (Bor (List TermId))) : Type 0 where
  pub text_is : more ++ rest_texts names titles a waits ≡ out ++ (text ++ rest_texts names titles a waiting)
  pub fewer : steps_left a waits < count + steps_left a waiting
  pub are_terms : AreTerms a waits
