-- What a FOR may count with.
use Rattle.std.specs.Prelude.{Bool, ◌&&◌}
use Rattle.spv_logic.specs.declared.names.names.Symbol.{Symbol}
use Rattle.spv_logic.specs.declared.types.TypeId.{TypeId}
use Rattle.spv_logic.specs.declared.types.Sort.TheVariants as sort
use Rattle.spv_logic.specs.Terms.{sort_eq}
use Rattle.spv_program.specs.Types.{sort_of}
use Rattle.spv_typing.specs.Known.{Scope}
use Rattle.spv_typing.specs.StatementWalk.{may_count}

abbrev pub is_counter : Scope → Symbol → TypeId → Bool
is_counter s x t = may_count s x && sort_eq (sort_of s.known.program.forms t) sort.Int
