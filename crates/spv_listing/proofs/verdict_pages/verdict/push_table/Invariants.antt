use Rattle.std.proofs.Common.{◌≡◌, ◌++◌, take}
use Rattle.std.specs.List.{flat_map}
use Rattle.spv_verdicts.specs.answers.Views.{pairs_in}
use Rattle.spv_listing.specs.verdict_pages.VerdictLines.{value_line}
use Rattle.spv_listing.proofs.verdict_pages.verdict.push_table.Given as goal

abbrev pub invariant-loop-row : goal.invariant-loop-row
invariant-loop-row l = l.out.items ≡ l.initial.out.items ++ flat_map (value_line l.names l.titles) (pairs_in l.terms (take l.row-index l.table))
