use Rattle.std.proofs.Common.{◌≡◌, ◌∙◌, ap, sym, take, map, length, arith, Some, slice_get}
use Rattle.std.proofs.lemmas.List.{length-take, take-map}
use Rattle.std.specs.Vec.{vec_capacity}
use Rattle.std.proofs.Math.Nat.{min-le_right}
use Rattle.spv_union_find.specs.signatures.Signatures as spec
use Rattle.spv_union_find.proofs.signatures.RowLemmas.{cut_laid, cut_rows, least_of, fits_first, fits_second, fits_third}
use Rattle.spv_union_find.proofs.signatures.table.Signatures.cut.Goals as goal

pub invariant_of-self : goal.invariant_of-self
invariant_of-self c =
    let at : slice_get c.self.inside.rows.items c.args.count ≡ Some c.row_at-row.result = ap (λ rs. slice_get rs c.args.count) (sym c.as_slice-2.ensures.value) ∙ c.row_at-row.ensures in
    let e = ap length c.truncate.ensures.items in
    let f = ap length c.truncate-2.ensures.items in
    let n = length-take c.row_at-row.result.start c.self.inside.cells.items in
    let m = length-take c.args.count c.self.inside.rows.items in
    let w = min-le_right c.row_at-row.result.start (length c.self.inside.cells.items) in
    let v = min-le_right c.args.count (length c.self.inside.rows.items) in
    let i = fits_first _ (vec_capacity c.self.inside.rows) (vec_capacity c.self.inside.cells) _ c.self.invariant.fit in
    let j = fits_second _ (vec_capacity c.self.inside.rows) (vec_capacity c.self.inside.cells) _ c.self.invariant.fit in
    let k = fits_third _ (vec_capacity c.self.inside.rows) (vec_capacity c.self.inside.cells) _ c.self.invariant.fit in
    record {
      laid = cut_laid _ _ _ _ _ _ at c.self.invariant.laid c.truncate.ensures.items c.truncate-2.ensures.items;
      fit = least_of _ _ _ _
          (omega (arith, e, f, n, m, w, v, i, c.truncate-2.ensures.capacity))
          (omega (arith, e, f, n, m, w, v, j, c.truncate.ensures.capacity))
          (omega (arith, e, f, n, m, w, v, k, c.cut.ensures.room));
      hashes =
          c.cut.ensures.hashes
          ∙ (ap (take c.args.count) c.self.invariant.hashes
          ∙ (take-map spec.hash c.args.count (map (spec.signature c.self.inside.cells.items) c.self.inside.rows.items)
          ∙ ap (map spec.hash) (sym (cut_rows _ _ _ _ _ _ at c.self.invariant.laid c.truncate.ensures.items c.truncate-2.ensures.items))));
    }

pub returns-clause-rows : goal.returns-clause-rows
returns-clause-rows c =
    let at : slice_get c.self.inside.rows.items c.args.count ≡ Some c.row_at-row.result = ap (λ rs. slice_get rs c.args.count) (sym c.as_slice-2.ensures.value) ∙ c.row_at-row.ensures in
    cut_rows _ _ _ _ _ _ at c.self.invariant.laid c.truncate.ensures.items c.truncate-2.ensures.items ∙ ap (λ (t : spec.Table). take c.args.count t.rows) c.self.view_is
