-- What the code's types as they are written are in the definition.
use Rattle.std.specs.Prelude.{List, map}
use Rattle.spv_typing.specs.Merging as spec
use Rattle.spv_declaration_typing.specs.declared.pointer_types.written.Written.{Written}
use Rattle.spv_declaration_typing.specs.declared.pointer_types.written.Written.TheVariants as written

abbrev pub written_of : Written → spec.Written
written_of (written.Built form) = spec.Built form
written_of (written.PointerTo x) = spec.PointerTo x

abbrev pub all_written : List Written → List spec.Written
all_written ws = map written_of ws
