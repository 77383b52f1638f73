-- The TYPE part as the code has it.
use Rattle.std.specs.Prelude.{Bool, List, is_some}
use Rattle.spv_logic.specs.declared.names.names.Symbol.{Symbol}
use Rattle.spv_program.specs.Lists.{found}
use Rattle.spv_typing.specs.Known.{Known}
use Rattle.spv_typing.specs.DeclarationWalk.{TypePart}
use Rattle.spv_declaration_typing.specs.declared.pointer_types.written.Written.{Written}
use Rattle.spv_declaration_typing.specs.canonical_types.Types.{types_with}

abbrev pub part_of : Known → List Written → TypePart
part_of k new = record { known = k; written = types_with k new }

abbrev pub is_in : {X : Type 0} → List (Symbol × X) → Symbol → Bool
is_in names x = is_some (found names x)
