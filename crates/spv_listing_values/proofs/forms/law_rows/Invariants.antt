use Rattle.std.proofs.Common.{◌≡◌, true, map, take}
use Rattle.std.specs.List.{list_all}
use Rattle.spv_listing_values.specs.Forms as spec
use Rattle.spv_listing_values.specs.Mapped.{row_at}
use Rattle.spv_listing_values.specs.Places.{tree}
use Rattle.spv_listing_values.proofs.forms.law_rows.Given as goal

abbrev pub invariant-loop-row : goal.invariant-loop-row
invariant-loop-row l = list_all spec.is_row (map (row_at (tree l.texts)) (take l.row-index l.rows)) ≡ true
