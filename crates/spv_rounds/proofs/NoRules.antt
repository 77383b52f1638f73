-- Without rules nothing is called for.
use Rattle.std.proofs.Common.{◌≡◌, ◌<◌, List, [], ◌∷◌, ◌++◌, map, filter, length, refl, ap, Result, Ok, arith}
use Rattle.spv_whole.specs.Fraction.{Fraction}
use Rattle.spv_logic.specs.Terms.{Term}
use Rattle.spv_proof_rules.specs.Rules.{Rule}
use Rattle.spv_proof_rules.specs.Effects.{Question}
use Rattle.spv_table.specs.Values.{listed_in}
use Rattle.spv_rules.specs.matching.Matches.{Wide, after, matches}
use Rattle.spv_verdicts.specs.Verdicts.{Instance, Round}
use Rattle.spv_rounds.specs.Claims.{formulas, used_with}
use Rattle.spv_rounds.specs.Rounds.{of_found, is_new, called, IsRound}
use Rattle.spv_rounds.specs.Laws.{NoRoundsWithoutRules}

none-called : (q : Question) → q.rules ≡ [] → (known : List Instance) (table : List (Term × Fraction)) → called q known table ≡ Ok []
none-called q none known table = ap (λ (rs : List Rule). after (matches q.shapes q.decls rs (used_with q (formulas q known)) (listed_in table)) (λ found. Ok (map of_found (filter (is_new known) found)))) none

none_there : (r : Result (List Instance) Wide) (xs ys : List Instance) → r ≡ Ok (xs ++ ys) → r ≡ Ok [] → 0 < length xs → ⊥
none_there r [] ys e f some = omega (arith, some)
none_there r (x ∷ xs) ys e f some = cc

no-round : (q : Question) → q.rules ≡ [] → (r : Round) → IsRound q [] r → ⊥
no-round q none r is = none_there (called q [] r.table) r.members is.others is.called (none-called q none [] r.table) is.some

pub no-rounds : NoRoundsWithoutRules
no-rounds q none [] grown = refl
no-rounds q none (r ∷ rounds) grown = absurd (no-round q none r grown.0)
