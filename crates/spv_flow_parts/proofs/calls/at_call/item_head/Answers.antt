use Rattle.std.proofs.Common.{sym, ap, ◌∙◌}
use Rattle.spv_logic.specs.declared.types.Sort.{Sort}
use Rattle.spv_logic.specs.declared.operators.Head.TheVariants as head
use Rattle.spv_program.specs.declared.types.Item.{Item}
use Rattle.spv_program.specs.declared.types.Item.TheVariants.{Variable}
use Rattle.spv_program.specs.Terms.{item_head}
use Rattle.std.proofs.Common.{Some}
use Rattle.spv_flow_parts.proofs.body_tables.Scoping.{item_is}
use Rattle.spv_flow_parts.proofs.calls.at_call.item_head.Goals as goal

pub returns-in-Variable : goal.returns-in-Variable
returns-in-Variable c =
    λ p r names.
    ap (λ (s : Sort). head.Var c.in-Variable.x s 0) (c.item_sort.ensures ∙ item_is p r c.args.variables.now names (Variable c.in-Variable.x))
    ∙ ap (λ (i : Item). item_head p (Some r) i) (sym c.in-Variable.is)
