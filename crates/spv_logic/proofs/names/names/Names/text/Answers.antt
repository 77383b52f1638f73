use Rattle.spv_logic.proofs.names.NameTable.{folded_at, text_at}
use Rattle.spv_logic.proofs.names.names.Names.text.Goals as goal

pub returns-clause-stands : goal.returns-clause-stands
returns-clause-stands c =
    rw (c.as_slice-2.ensures.value, ← c.self.view_is) (text_at (λ t. t.items) c.self.inside.texts.items c.args.s.0 c.index-as_slice-s.result (rw c.self.view_is c.requires) (rw (← c.as_slice.ensures.value) c.index-as_slice-s.is))

pub returns-clause-folded : goal.returns-clause-folded
returns-clause-folded c = folded_at c.args.self.now _ c.args.s.0 (rw c.self.view_is at c.self.invariant.table) (returns-clause-stands c)
