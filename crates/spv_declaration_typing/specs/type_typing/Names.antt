-- Names without what stands under them.
use Rattle.std.specs.Prelude.{List, map}
use Rattle.spv_logic.specs.declared.names.names.Symbol.{Symbol}

abbrev pub only_names : {X : Type 0} → List (Symbol × X) → List Symbol
only_names entries = map (λ e. e.0) entries
