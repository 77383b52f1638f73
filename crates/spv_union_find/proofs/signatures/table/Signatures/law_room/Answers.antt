use Rattle.std.proofs.Common.{◌≤◌, subst, arith}
use Rattle.spv_union_find.specs.signatures.Signatures as spec
use Rattle.spv_union_find.proofs.signatures.RowLemmas.{cells_of-laid}
use Rattle.spv_union_find.proofs.signatures.table.Signatures.law_room.Goals as goal

pub returns : goal.returns
returns c =
    let n = cells_of-laid _ _ c.self.invariant.laid in
    let i = c.self.invariant.fit in
    subst (λ (t : spec.Table). spec.cells_of t.rows ≤ t.room) c.self.view_is (omega (arith, n, i))
