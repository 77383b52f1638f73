use Rattle.std.proofs.Common.{◌≡◌, ℕ, [], take, filter}
use Rattle.std.specs.BTreeMap.{get}
use Rattle.std.specs.Option.{option_map_or}
use Rattle.std.specs.Ordering.{nat_cmp}
use Rattle.spv_proof.specs.schema_facts.Groups.{has_key}
use Rattle.spv_proof.proofs.schema_facts.groups.by_key.Given as goal

abbrev pub invariant-loop-link : goal.invariant-loop-link
invariant-loop-link l = (q : ℕ) → option_map_or (λ list. list.items) (get nat_cmp l.lists q) [] ≡ filter (has_key q) (take l.link-index l.links)
