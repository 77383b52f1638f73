-- What a term is worth after a substitution.
use Rattle.std.specs.Prelude.{◌≡◌, List}
use Rattle.spv_logic.specs.declared.conditions.TermId.{TermId}
use Rattle.spv_logic.specs.Terms.{eval}
use Rattle.spv_logic.specs.Substitution.{substitute, under}
use Rattle.spv_logic.specs.Conditions.{Meaning, Valuation}
use Rattle.spv_term.specs.Arena.{Arena, tree}
use Rattle.spv_term.specs.substitution.Images.{pairs_at}

-- a term that is another one with pairs put in is worth what that one is worth where each variable has the value of what is put in its place
abbrev pub IsWorthOfImages : Arena → List (TermId × TermId) → Arena → TermId → TermId → Type 0
IsWorthOfImages old pairs new t u =
    tree new u ≡ substitute (pairs_at old pairs) (tree old t)
    → (symbols : Meaning) (v : Valuation) → eval symbols v (tree new u) ≡ eval symbols (under symbols (pairs_at old pairs) v) (tree old t)
