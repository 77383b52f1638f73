-- Which instances are new, over ids.
use Rattle.std.specs.Prelude.{Bool, ◌&&◌, not, List, map, filter, nat_eq}
use Rattle.std.specs.List.{list_any}
use Rattle.spv_term.specs.Arena.{ids_eq}
use Rattle.spv_rules.specs.declared.matching.instances.Instance as matching
use Rattle.spv_verdicts.specs.declared.answers.verdicts.Instance.{Instance}
use Rattle.spv_verdicts.specs.declared.answers.verdicts.Round.{Round}
use Rattle.spv_rounds.specs.telling.Told.{all_members}

-- whether an instance that was found is one that is known
abbrev pub is_same : matching.Instance → Instance → Bool
is_same i j = nat_eq i.rule j.rule && ids_eq i.values j.values

-- an instance as it is kept
abbrev pub kept : matching.Instance → Instance
kept i = record { rule = i.rule; values = i.values }

-- those that were found and are none of the members of rounds
abbrev pub fresh : List Round → List matching.Instance → List Instance
fresh rounds found = map kept (filter (λ i. not (list_any (is_same i) (all_members rounds))) found)
