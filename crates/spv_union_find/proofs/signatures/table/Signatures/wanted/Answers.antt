use Rattle.std.proofs.Common.{◌≡◌, suc, ◌+◌, subst, ap, length, arith}
use Rattle.spv_union_find.specs.signatures.Signatures as spec
use Rattle.spv_union_find.proofs.signatures.RowLemmas.{cells_of-laid}
use Rattle.spv_union_find.proofs.signatures.table.Signatures.wanted.Goals as goal

pub returns-in-Some-checked_add-2-clause-cells : goal.returns-in-Some-checked_add-2-clause-cells
returns-in-Some-checked_add-2-clause-cells c =
    let n = cells_of-laid _ _ c.self.invariant.laid in
    let a = ap length c.as_slice-rows.ensures.value in
    let b = ap length c.as_slice-cells.ensures.value in
    subst (λ (t : spec.Table). c.in-Some-checked_add-2.all ≡ spec.cells_of t.rows + suc c.args.labels) c.self.view_is
    (omega (arith, n, a, b, c.in-Some.ensures, c.in-Some-checked_add.ensures, c.in-Some-checked_add-2.ensures))
