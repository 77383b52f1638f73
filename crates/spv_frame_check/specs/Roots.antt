-- Roots, as the code has them.
use Rattle.std.specs.Prelude.{Bool, ◌||◌, List, [], ◌∷◌, map, Option, Some, if◌then◌else◌}
use Rattle.std.specs.List.{list_any}
use Rattle.spv_program.specs.Uses as plain
use Rattle.spv_effects.specs.frame_events.Names.{named, with_name}
use Rattle.spv_frame_check.specs.declared.aliases.Root.{Root}
use Rattle.spv_frame_check.specs.declared.aliases.Root.TheVariants as root
use Rattle.spv_frame_check.specs.declared.aliases.RootSet.{RootSet}
use Rattle.spv_frame_check.specs.Sets.{holds, with_item}

abbrev pub plain_root : Root → plain.Root
plain_root (root.Own x) = plain.Own x
plain_root (root.Shared i) = plain.Shared i

abbrev pub plain_roots : List Root → List plain.Root
plain_roots roots = map plain_root roots

abbrev pub has_root : RootSet → plain.Root → Bool
has_root s (plain.Own x) = named s.own x
has_root s (plain.Shared i) = holds s.shared i

abbrev pub with_root : RootSet → plain.Root → RootSet
with_root s (plain.Own x) = record { own = with_name s.own x; shared = s.shared }
with_root s (plain.Shared i) = record { own = s.own; shared = with_item s.shared i }

-- the first root that a later one is, where others come behind: `has` tells these, and `found` is the first of them that is so
abbrev pub twice_by : (plain.Root → Bool) → Option plain.Root → List plain.Root → Option plain.Root
twice_by has found [] = found
twice_by has found (r ∷ roots) = if list_any (plain.same_root r) roots || has r then Some r else twice_by has found roots
