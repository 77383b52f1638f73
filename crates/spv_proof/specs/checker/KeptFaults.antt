-- Facts that are put into the arena.
use Rattle.std.specs.Prelude.{◌≡◌, List, Option, None}
use Rattle.spv_logic.specs.Terms.{Term}
use Rattle.spv_proof.specs.declared.checker.stops.CheckStop.{CheckStop}
use Rattle.spv_proof.specs.declared.checker.stops.CheckStop.TheVariants as stop

-- there are too many terms exactly where a fact cannot be added; of memory nothing is said
abbrev pub IsAddFault : CheckStop → Option (List Term) → Type 0
IsAddFault (stop.Wide op x y) o = ⊥
IsAddFault (stop.Form t) o = ⊥
IsAddFault stop.Size o = o ≡ None
IsAddFault stop.Memory o = Unit {0}
