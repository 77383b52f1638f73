use Rattle.std.proofs.Common.{codes}
use Rattle.spv_listing_values.proofs.Blanks.{three_more}
use Rattle.spv_listing_values.proofs.Pieces.{on_ok}
use Rattle.spv_listing_values.proofs.verdicts.push_verdict.Goals as goal

pub returns-in_ok-push_instances-in-Unproved : goal.returns-in_ok-push_instances-in-Unproved
returns-in_ok-push_instances-in-Unproved c =
    rw c.in-Unproved.is
    (on_ok c.push_rows.result c.push_rows.ensures
    (λ e. three_more _ (codes "UNPROVED\n") _ _ _ _ _ _ _ c.in_ok-extend_from_slice-in-Unproved.ensures.items (rw c.as_slice-in-Unproved.ensures at c.in_ok-push_branches-in-Unproved.ensures)
    (rw c.as_slice-in-Unproved-2.ensures at c.in_ok-push_instances-in-Unproved.ensures) (rw c.as_slice-in-Unproved-3.ensures at e)))
