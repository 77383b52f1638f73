-- Types that are read and wait to be put among those of the program.
use Rattle.std.specs.Prelude.{◌≡◌, List, ◌++◌, map}
use Rattle.spv_logic.specs.declared.types.TypeId.{TypeId}
use Rattle.spv_typing.specs.Merging.{Written as WrittenText, Built, merged, renumbered}
use Rattle.spv_typing.specs.Known.{Known}
use Rattle.spv_typing.specs.DeclarationWalk.{NewType as NewTypeText}
use Rattle.spv_declaration_typing.specs.pointer_types.Counting.{all_firsts}
use Rattle.spv_declaration_typing.specs.declared.pointer_types.written.Written.{Written}
use Rattle.spv_declaration_typing.specs.declared.pointer_types.merging.Merged.{Merged}
use Rattle.spv_declaration_typing.specs.pointer_types.Views.{all_written}
use Rattle.spv_declaration_typing.specs.declared.canonical_types.settling.NewType.{NewType}

-- the forms that the program has, and the types behind them
abbrev pub types_with : Known → List Written → List WrittenText
types_with k new = map Built k.program.forms ++ all_written new

-- a type that was read, put among those of the program
abbrev pub settled : Known → NewType → NewTypeText
settled k n = let m = merged k.program.types (types_with k n.new.items) in record { forms = m.forms; type = m.new n.of }

-- the types of the program keep their forms and numbers, and further ones stand behind them
pub record IsFurther (k : Known) (new : List Written) (m : Merged) : Type 0 where
  pub forms : (merged k.program.types (types_with k new)).forms ≡ k.program.forms ++ m.forms
  pub numbers : (t : TypeId) → renumbered (all_firsts m.numbers) t ≡ (merged k.program.types (types_with k new)).new t
