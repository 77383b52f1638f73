-- What a routine may use, as the code has it.
use Rattle.std.specs.Prelude.{Bool, true, false}
use Rattle.spv_program.specs.declared.types.Item.{Item}
use Rattle.spv_frame_check.specs.declared.allowed.Allowed.{Allowed}
use Rattle.spv_frame_check.specs.declared.allowed.Allowed.TheVariants.{Everything, Listed}
use Rattle.spv_frame_check.specs.Sets.{holds}

abbrev pub allows : Allowed → Item → Bool → Bool
allows Everything i changes = true
allows (Listed all var) i true = holds var i
allows (Listed all var) i false = holds all i
