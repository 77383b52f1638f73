-- Types as they are written, as plain data.
use Rattle.std.specs.Prelude.{ℕ}
use Rattle.spv_tree.specs.declared.syntax.lists.Several.{Several}
use Rattle.spv_tree.specs.declared.syntax.names.Name.{Name}
use Rattle.spv_tree.specs.declared.syntax.names.Constant.{Constant}

mutual
  -- name | constant ".." constant | "^" name | ARRAY "[" type {"," type} "]" OF type | RECORD field {";" field} END
  pub data TypeDenoter : Type 0 where
    named : ℕ → Name → TypeDenoter
    range : ℕ → Constant → Constant → TypeDenoter
    pointer : ℕ → Name → TypeDenoter
    array : ℕ → TypeDenoter → MoreTypes → TypeDenoter → TypeDenoter
    fields : ℕ → Field → MoreFields → TypeDenoter

  -- {"," type}
  pub data MoreTypes : Type 0 where
    no_more_types : MoreTypes
    more_types : TypeDenoter → MoreTypes → MoreTypes

  -- [names ":" type]
  pub data Field : Type 0 where
    no_field : ℕ → Field
    field : ℕ → Several Name → TypeDenoter → Field

  -- {";" field}
  pub data MoreFields : Type 0 where
    no_more_fields : MoreFields
    more_fields : Field → MoreFields → MoreFields
