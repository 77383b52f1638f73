-- What a name with selectors has come to, as the definition of the walk has it.
use Rattle.std.specs.Prelude.{ℕ, List, [], ◌∷◌, map, Option, Some, None}
use Rattle.spv_logic.specs.declared.types.TypeId.{TypeId}
use Rattle.spv_program.specs.Expressions.{Expression, Designator, Numeral, Read}
use Rattle.spv_program.specs.declared.typed.expressions.Selector.{Selector}
use Rattle.spv_program.specs.declared.typed.expressions.Selector.TheVariants as selector
use Rattle.spv_typing.specs.ExpressionWalk as spec
use Rattle.spv_expression_typing.specs.declared.reached.Base.{Base}
use Rattle.spv_expression_typing.specs.declared.reached.Base.TheVariants as base

abbrev pub base_of : Base → spec.Base
base_of (base.Name line x) = spec.AtName line x
base_of (base.Result line x) = spec.AtResult line x
base_of (base.Number z) = spec.OfNumber z
base_of (base.Called c) = spec.OfCall c

abbrev pub link_of : Selector → spec.Link
link_of (selector.Index t e) = spec.ByIndex t e.value
link_of (selector.Field t f) = spec.ByField t f
link_of (selector.Cell line t) = spec.ByCell line t

abbrev pub links_of : List Selector → List spec.Link
links_of selectors = map link_of selectors

abbrev pub reached_of : Base → List Selector → TypeId → spec.Reached
reached_of b selectors t = record { base = base_of b; links = links_of selectors; type = t }

-- ---- by where it begins

abbrev pub place_of : spec.Base → List spec.Link → Option Designator
place_of (spec.AtName line x) links = Some (spec.place_at line x links)
place_of (spec.AtResult line x) links = Some (spec.place_at line x links)
place_of (spec.OfNumber z) links = None
place_of (spec.OfCall c) links = None

abbrev pub value_of : spec.Base → List spec.Link → Expression
value_of (spec.AtName line x) links = Read (spec.place_at line x links)
value_of (spec.AtResult line x) links = Read (spec.place_at line x links)
value_of (spec.OfNumber z) links = Numeral z
value_of (spec.OfCall c) links = spec.result_at c links

-- ---- `^` behind a call

abbrev pub cell_in : Selector → Option (ℕ × TypeId)
cell_in (selector.Index t e) = None
cell_in (selector.Field t f) = None
cell_in (selector.Cell line t) = Some (line, t)

abbrev pub first_cell : List Selector → Option (ℕ × TypeId)
first_cell [] = None
first_cell (s ∷ selectors) = cell_in s
