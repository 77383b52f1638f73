-- Conditions in progress as a list.
use Rattle.std.specs.Prelude.{List}
use Rattle.spv_term.specs.declared.nodes.Condition.{Condition}

-- conditions, in order
pub record ConditionList : Type 0 where
  pub items : List Condition
