-- Names that no variable has.
use Rattle.std.specs.Prelude.{◌≡◌, ℕ, false, List, is_some}
use Rattle.std.specs.List.{list_any}
use Rattle.spv_logic.specs.declared.names.names.Symbol.{Symbol}
use Rattle.spv_program.specs.Lists.{found}
use Rattle.spv_program.specs.Scopes as program

abbrev pub AllNew : program.Scope → List (Symbol × ℕ) → Type 0
AllNew vars names = list_any (λ e. is_some (found vars e.0)) names ≡ false
