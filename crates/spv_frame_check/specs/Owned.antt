-- Names of lists.
use Rattle.std.specs.Prelude.{List, map}
use Rattle.spv_logic.specs.declared.names.names.Symbol.{Symbol}
use Rattle.spv_logic.specs.declared.types.TypeId.{TypeId}
use Rattle.spv_program.specs.declared.types.Item.{Item}
use Rattle.spv_program.specs.Programs.{Formal}

abbrev pub formal_names : List Formal → List Symbol
formal_names formals = map (λ f. f.name) formals

abbrev pub initial_names : List (Symbol × Item) → List Symbol
initial_names initial = map (λ i. i.0) initial

abbrev pub typed_names : List (Symbol × TypeId) → List Symbol
typed_names names = map (λ n. n.0) names
