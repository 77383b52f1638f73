use Rattle.std.proofs.Common.{◌<◌, length}
use Rattle.spv_listing_values.specs.Reading.{is_fraction}
use Rattle.spv_listing_values.specs.Forms.{is_term, is_row}
use Rattle.spv_listing_values.specs.Mapped.{row_at}
use Rattle.spv_listing_values.specs.Places.{tree}
use Rattle.spv_listing_values.proofs.Numerals.{both_true}
use Rattle.spv_listing_values.proofs.Judging.{one_more, item_of}
use Rattle.spv_listing_values.proofs.TermForms.{tree_forms}
use Rattle.spv_listing_values.proofs.forms.law_rows.Goals as goal

pub loop-row-preserved : goal.loop-row-preserved
loop-row-preserved c =
    let fs = c.args.texts.now in
    let row = c.row-item.result in
    one_more is_row (row_at (tree fs)) c.args.rows.now c.loop-row.row-index row c.loop-row-test.true c.row-item.is c.loop-row.invariant
    (both_true (is_term (tree fs row.0)) (is_fraction row.1)
    (tree_forms fs c.requires.terms.table c.requires.terms.heads row.0 (item_of (λ r. r.0.0 < length fs) c.args.rows.now c.loop-row.row-index row c.requires.in_range c.loop-row-test.true c.row-item.is))
    c.law_fraction.ensures)
