use Rattle.std.proofs.Common.{refl, ◌≤◌, ◌+◌, suc, ◌∙◌, ◌++◌, ◌∷◌, [], ap, sym, subst, length, map, arith, is_ok, if◌then◌else◌}
use Rattle.std.specs.Vec.{vec_capacity}
use Rattle.std.proofs.lemmas.List.{length-append, length-map, length_push, map_push}
use Rattle.spv_union_find.specs.signatures.Signatures as spec
use Rattle.spv_union_find.proofs.signatures.RowLemmas.{put_laid, put_rows, cells_of-laid, row, sig, least_of, fits_first, fits_second, fits_third}
use Rattle.spv_union_find.proofs.signatures.table.Signatures.put.Goals as goal

pub unwrap-requires : goal.unwrap-requires
unwrap-requires c =
    let n = cells_of-laid _ _ c.self.invariant.laid in
    let r = subst (λ (t : spec.Table). spec.cells_of t.rows + suc (length c.args.labels.now) ≤ t.room) (sym c.self.view_is) c.requires in
    let m = fits_second _ (vec_capacity c.self.inside.rows) (vec_capacity c.self.inside.cells) _ r in
    let l = c.as_slice-start.ensures.len in
    let v = ap length c.as_slice-start.ensures.value in
    c.extend_from_slice.ensures.succeeds (omega (arith, n, m, l, v))

pub unwrap-requires-2 : goal.unwrap-requires-2
unwrap-requires-2 c =
    let n = cells_of-laid _ _ c.self.invariant.laid in
    let r = subst (λ (t : spec.Table). spec.cells_of t.rows + suc (length c.args.labels.now) ≤ t.room) (sym c.self.view_is) c.requires in
    let m = fits_first _ (vec_capacity c.self.inside.rows) (vec_capacity c.self.inside.cells) _ r in
    c.push.ensures.succeeds (omega (arith, n, m, c.self.ranges))

pub push-requires-2 : goal.push-requires-2
push-requires-2 c =
    let n = cells_of-laid _ _ c.self.invariant.laid in
    let r = subst (λ (t : spec.Table). spec.cells_of t.rows + suc (length c.args.labels.now) ≤ t.room) (sym c.self.view_is) c.requires in
    let d = fits_third _ (vec_capacity c.self.inside.rows) (vec_capacity c.self.inside.cells) _ r in
    let h = ap length c.self.invariant.hashes in
    let i = length-map (map (spec.signature c.self.inside.cells.items) c.self.inside.rows.items) spec.hash in
    let j = length-map c.self.inside.rows.items (spec.signature c.self.inside.cells.items) in
    omega (arith, n, d, h, i, j)

pub invariant_of-self : goal.invariant_of-self
invariant_of-self c =
    let e = c.extend_from_slice.ensures.items ∙ ap (λ r. if is_ok r then c.self.inside.cells.items ++ c.args.labels.now else c.self.inside.cells.items) c.unwrap.ensures in
    let f = c.push.ensures.items ∙ ap (λ r. if is_ok r then c.self.inside.rows.items ++ row c.args.head (length c.as_slice-start.result.now) (length c.args.labels.now) c.args.term ∷ [] else c.self.inside.rows.items) c.unwrap-2.ensures in
    let n = cells_of-laid _ _ c.self.invariant.laid in
    let r = subst (λ (t : spec.Table). spec.cells_of t.rows + suc (length c.args.labels.now) ≤ t.room) (sym c.self.view_is) c.requires in
    let a = fits_first _ (vec_capacity c.self.inside.rows) (vec_capacity c.self.inside.cells) _ r in
    let b = fits_second _ (vec_capacity c.self.inside.rows) (vec_capacity c.self.inside.cells) _ r in
    let d = fits_third _ (vec_capacity c.self.inside.rows) (vec_capacity c.self.inside.cells) _ r in
    let g = ap length e ∙ length-append c.self.inside.cells.items c.args.labels.now in
    let h = ap length f ∙ length_push c.self.inside.rows.items (row c.args.head (length c.as_slice-start.result.now) (length c.args.labels.now) c.args.term) in
    let start = ap length c.as_slice-start.ensures.value in
    record {
      laid = put_laid _ _ _ _ _ c.args.head c.args.term _ e f start refl c.self.invariant.laid;
      fit = least_of _ _ _ _
          (omega (arith, n, a, g, h, c.push.ensures.capacity))
          (omega (arith, n, b, g, h, c.extend_from_slice.ensures.capacity))
          (omega (arith, n, d, g, h, c.push-2.ensures.room));
      hashes =
          c.push-2.ensures.hashes
          ∙ (ap (λ m. c.self.inside.hashes.hashes ++ m ∷ []) c.hash.ensures
          ∙ (ap (λ hs. hs ++ spec.hash (sig c.args.head c.args.labels.now c.args.term) ∷ []) c.self.invariant.hashes
          ∙ (sym (map_push spec.hash (map (spec.signature c.self.inside.cells.items) c.self.inside.rows.items) (sig c.args.head c.args.labels.now c.args.term))
          ∙ ap (map spec.hash) (sym (put_rows _ _ _ _ _ c.args.head c.args.term _ e (f ∙ ap (λ n. c.self.inside.rows.items ++ row c.args.head n (length c.args.labels.now) c.args.term ∷ []) start) c.self.invariant.laid refl)))));
    }

pub returns-clause-rows : goal.returns-clause-rows
returns-clause-rows c =
    let e = c.extend_from_slice.ensures.items ∙ ap (λ r. if is_ok r then c.self.inside.cells.items ++ c.args.labels.now else c.self.inside.cells.items) c.unwrap.ensures in
    let f = c.push.ensures.items ∙ ap (λ r. if is_ok r then c.self.inside.rows.items ++ row c.args.head (length c.as_slice-start.result.now) (length c.args.labels.now) c.args.term ∷ [] else c.self.inside.rows.items) c.unwrap-2.ensures in
    put_rows _ _ _ _ _ c.args.head c.args.term _ e (f ∙ ap (λ n. c.self.inside.rows.items ++ row c.args.head n (length c.args.labels.now) c.args.term ∷ []) (ap length c.as_slice-start.ensures.value)) c.self.invariant.laid (ap (λ (t : spec.Table). t.rows) c.self.view_is)
