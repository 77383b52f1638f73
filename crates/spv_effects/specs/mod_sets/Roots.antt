-- Roots with their heads, as the code has them.
use Rattle.std.specs.Prelude.{◌≡◌, Bool, ◌||◌, List, map, if◌then◌else◌}
use Rattle.std.specs.List.{list_any}
use Rattle.spv_logic.specs.declared.names.names.Symbol.{Symbol}
use Rattle.spv_logic.specs.declared.types.TypeId.{TypeId}
use Rattle.spv_logic.specs.declared.operators.Head.{Head}
use Rattle.spv_logic.specs.declared.operators.Head.TheVariants as head
use Rattle.spv_program.specs.declared.types.Item.TheVariants.{Variable, Class}
use Rattle.spv_program.specs.declared.types.TypeForm.{TypeForm}
use Rattle.spv_program.specs.Types.{sort_of}
use Rattle.spv_program.specs.Programs.{Formal}
use Rattle.spv_program.specs.Uses as plain
use Rattle.spv_program.specs.Uses.{Own, Shared, same_root}
use Rattle.spv_effects.specs.frame_events.Names.{named}
use Rattle.spv_effects.specs.declared.mod_sets.roots.Root.{Root}
use Rattle.spv_effects.specs.declared.mod_sets.roots.Root.TheVariants as root
use Rattle.spv_effects.specs.declared.mod_sets.roots.RootHead.{RootHead}

-- ---- names

abbrev pub typed_name : Symbol → TypeId → Symbol × TypeId
typed_name x t = (x, t)

abbrev pub formal_name : Formal → Symbol × TypeId
formal_name f = (f.name, f.of)

-- ---- rows

abbrev pub plain_root : Root → plain.Root
plain_root (root.Own x) = Own x
plain_root (root.Shared i) = Shared i

abbrev pub row_of : RootHead → plain.Root × Head
row_of r = (plain_root r.root, r.head)

abbrev pub rows_of : List RootHead → List (plain.Root × Head)
rows_of rows = map row_of rows

abbrev pub named_root : Bool → Symbol → plain.Root
named_root own x = if own then Own x else Shared (Variable x)

-- the row of an own name, or of a variable of the program
abbrev pub named_row : List TypeForm → Bool → Symbol × TypeId → plain.Root × Head
named_row forms own n = (named_root own n.0, head.Var n.0 (sort_of forms n.1) 0)

abbrev pub class_row : TypeId → plain.Root × Head
class_row t = (Shared (Class t), head.ClassVar t 0)

-- ---- which names are own

-- whether a name is an own one among these rows
abbrev pub own_among : List (plain.Root × Head) → Symbol → Bool
own_among rows x = list_any (λ r. same_root (Own x) r.0) rows

abbrev pub own_in : List RootHead → Symbol → Bool
own_in rows x = own_among (rows_of rows) x

-- to these names the root was added, if it is an own one
pub record AddsOwn (old new : List Symbol) (r : plain.Root) : Type 0 where
  pub each : (x : Symbol) → named new x ≡ named old x || same_root (Own x) r
