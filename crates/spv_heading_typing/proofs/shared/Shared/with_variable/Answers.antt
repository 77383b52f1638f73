use Rattle.spv_heading_typing.proofs.Indexing.{variable_absent, variable_kept}
use Rattle.spv_heading_typing.proofs.shared.Shared.with_variable.Goals as goal

pub insert-requires : goal.insert-requires
insert-requires c = record { new = variable_absent _ _ _ c.self.invariant c.args.x c.args.item.item c.requires.kind (rw c.self.view_is c.requires.new) }

pub invariant_of-result : goal.invariant_of-result
invariant_of-result c =
    variable_kept c.self.inside.items c.push.new.self c.self.inside.variables c.self.inside.classes c.args.item c.self.invariant c.in_ok-push.ensures.ok c.args.x c.insert.new.self c.requires.kind (rw c.self.view_is c.requires.new) c.in_ok-insert.ensures.ok
