use Rattle.spv_heading_typing.proofs.Indexing.{class_absent, class_kept}
use Rattle.spv_heading_typing.proofs.shared.Shared.with_class.Goals as goal

pub insert-requires : goal.insert-requires
insert-requires c = record { new = class_absent _ _ _ c.self.invariant c.args.t c.class_name.result c.args.item.item c.class_name.ensures c.requires.kind (rw c.self.view_is c.requires.new) }

pub invariant_of-result : goal.invariant_of-result
invariant_of-result c =
    class_kept c.self.inside.items c.push.new.self c.self.inside.variables c.self.inside.classes c.args.item c.self.invariant c.in_ok-push.ensures.ok c.args.t c.class_name.result c.insert.new.self c.class_name.ensures c.requires.kind (rw c.self.view_is c.requires.new) c.in_ok-insert.ensures.ok
