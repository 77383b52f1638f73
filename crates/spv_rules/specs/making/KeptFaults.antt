-- Facts that are put into the arena.
use Rattle.std.specs.Prelude.{◌≡◌, List, Option, None}
use Rattle.spv_logic.specs.Terms.{Term}
use Rattle.spv_term.specs.declared.nodes.TermFault.{TermFault}
use Rattle.spv_term.specs.declared.nodes.TermFault.TheVariants as fault

-- there are too many terms exactly where a term cannot be kept; of memory nothing is said
abbrev pub IsKeptFault : TermFault → Option (List Term) → Type 0
IsKeptFault fault.Size o = o ≡ None
IsKeptFault fault.Memory o = Unit {0}
