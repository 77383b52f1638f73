use Rattle.std.proofs.Common.{◌&&◌, map, sym}
use Rattle.std.specs.List.{list_all}
use Rattle.spv_listing_values.specs.Forms.{is_term, is_instance, is_row}
use Rattle.spv_listing_values.specs.Mapped.{instance_at, row_at}
use Rattle.spv_listing_values.specs.Places.{tree}
use Rattle.spv_listing_values.proofs.Numerals.{both_true}
use Rattle.spv_listing_values.proofs.Judging.{terms_fit}
use Rattle.spv_listing_values.proofs.forms.is_verdict.Goals as goal

pub returns-in-Unproved : goal.returns-in-Unproved
returns-in-Unproved c =
    let f = tree c.args.texts.now in
    rw c.in-Unproved.is
    (sym (both_true (list_all is_term (map f c.in-Unproved.field-0)) (list_all is_instance (map (instance_at f) c.in-Unproved.instances) && list_all is_row (map (row_at f) c.in-Unproved.rows))
    (terms_fit c.args.texts.now c.requires.terms c.in-Unproved.field-0 (rw c.in-Unproved.is at c.requires.in_range).0)
    (both_true (list_all is_instance (map (instance_at f) c.in-Unproved.instances)) (list_all is_row (map (row_at f) c.in-Unproved.rows)) (rw c.as_slice-in-Unproved.ensures at c.law_instances.ensures)
    (rw c.as_slice-in-Unproved-2.ensures at c.law_rows.ensures))))
