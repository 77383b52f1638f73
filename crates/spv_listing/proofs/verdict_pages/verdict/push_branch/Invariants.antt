use Rattle.std.proofs.Common.{◌≡◌, ◌++◌, take}
use Rattle.std.specs.List.{flat_map}
use Rattle.spv_verdicts.specs.answers.Views.{branch_in}
use Rattle.spv_listing.specs.verdict_pages.VerdictLines.{branch_line}
use Rattle.spv_listing.proofs.verdict_pages.verdict.push_branch.Given as goal

abbrev pub invariant-loop-row : goal.invariant-loop-row
invariant-loop-row l = l.out.items ≡ l.initial.out.items ++ flat_map (branch_line l.names l.titles) (branch_in l.terms (take l.row-index l.branch))
