-- Look-ups of the items of a GLOBAL list.
use Rattle.std.specs.Prelude.{◌≡◌, Bool, true, false, List, Option, Some, None, is_some}
use Rattle.std.specs.List.{list_any}
use Rattle.spv_logic.specs.declared.names.names.Symbol.{Symbol}
use Rattle.spv_program.specs.declared.types.Item.{Item}
use Rattle.spv_program.specs.declared.types.Item.TheVariants.{Variable, Class}
use Rattle.spv_program.specs.Lists.{found}
use Rattle.spv_program.specs.Types.{same_item}
use Rattle.spv_program.specs.Programs.{GlobalItem, lists}

-- whether an item's group has VAR, where the item is in the tables
abbrev pub looked_up : List (Symbol × Bool) → List (Symbol × Bool) → Item → Option Bool
looked_up variables classes (Variable x) = found variables x
looked_up variables classes (Class t) = found classes (record { 0 = t.0 })

abbrev pub says_true : Option Bool → Bool
says_true (Some b) = b
says_true None = false

-- the tables are those of the items
pub record Indexed (items : List GlobalItem) (variables classes : List (Symbol × Bool)) : Type 0 where
  pub listed : (i : Item) → list_any (λ g. same_item g.item i) items ≡ is_some (looked_up variables classes i)
  pub changed : (i : Item) → lists items i true ≡ says_true (looked_up variables classes i)
