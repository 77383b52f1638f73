use Rattle.std.proofs.Common.{codes}
use Rattle.spv_listing_values.proofs.Blanks.{item_behind}
use Rattle.spv_listing_values.proofs.Pieces.{on_ok}
use Rattle.spv_listing_values.proofs.claims.push_limit_items.Goals as goal

pub returns-in_ok-extend_from_slice-in-Instances : goal.returns-in_ok-extend_from_slice-in-Instances
returns-in_ok-extend_from_slice-in-Instances c =
    rw c.in-Instances.is
    (on_ok c.push_number-in-Instances.result c.push_number-in-Instances.ensures (λ e. item_behind _ (codes " INSTANCES") _ _ _ c.in_ok-extend_from_slice-in-Instances.ensures.items e))

pub returns-in_ok-extend_from_slice-in-Form : goal.returns-in_ok-extend_from_slice-in-Form
returns-in_ok-extend_from_slice-in-Form c =
    rw c.in-Form.is (on_ok c.push_text.result c.push_text.ensures (λ e. item_behind _ (codes " NUMBER FORM") _ _ _ c.in_ok-extend_from_slice-in-Form.ensures.items e))
