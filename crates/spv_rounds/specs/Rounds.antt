-- Rounds of a search under rules: each adds instances that a table calls for, in which all that was known holds and the goal does not.
use Rattle.std.specs.Prelude.{◌≡◌, ◌<◌, Bool, not, List, [], ◌∷◌, ◌++◌, map, filter, length, Result, Ok, ⊤}
use Rattle.std.specs.List.{list_any, flat_map}
use Rattle.spv_whole.specs.Fraction.{Fraction}
use Rattle.spv_logic.specs.Terms.{Term}
use Rattle.spv_table.specs.Values.{listed_in}
use Rattle.spv_proof_rules.specs.Effects.{Question}
use Rattle.spv_rules.specs.matching.Matches as matching
use Rattle.spv_rules.specs.matching.Matches.{Wide, after, matches, instance_eq}
use Rattle.spv_verdicts.specs.Verdicts.{Instance, Round}
use Rattle.spv_rounds.specs.Claims.{formulas, used_with, FalsifiesWith}

-- ---- what a table calls for

-- an instance as it was found
abbrev pub as_found : Instance → matching.Instance
as_found i = record { rule = i.rule; values = i.values }

abbrev pub of_found : matching.Instance → Instance
of_found i = record { rule = i.rule; values = i.values }

-- whether an instance is none of these
abbrev pub is_new : List Instance → matching.Instance → Bool
is_new known i = not (list_any (instance_eq i) (map as_found known))

-- the instances that the terms of a condition, and of what these instances say, call for in a table; or the term whose value is too wide
abbrev pub matched : Question → List Instance → List (Term × Fraction) → Result (List matching.Instance) Wide
matched q known table = matches q.shapes q.decls q.rules (used_with q (formulas q known)) (listed_in table)

-- those of them that are not known
abbrev pub called : Question → List Instance → List (Term × Fraction) → Result (List Instance) Wide
called q known table = after (matched q known table) (λ found. Ok (map of_found (filter (is_new known) found)))

-- ---- rounds

-- a round after these instances: in its table all that they say is true, and all else that is refuted; its members are the first of those that
-- the table calls for, and there is one
pub record IsRound (q : Question) (known : List Instance) (r : Round) : Type 0 where
  pub falsifies : FalsifiesWith q known r.table
  pub others : List Instance
  pub called : called q known r.table ≡ Ok (r.members ++ others)
  pub some : 0 < length r.members

-- rounds one after the other
abbrev pub AreRounds : Question → List Instance → List Round → Type 0
AreRounds q known [] = ⊤
AreRounds q known (r ∷ rounds) = IsRound q known r × AreRounds q (known ++ r.members) rounds

-- the instances that they added
abbrev pub members_of : List Round → List Instance
members_of rounds = flat_map (λ r. r.members) rounds
