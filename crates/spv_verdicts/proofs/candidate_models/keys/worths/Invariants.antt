use Rattle.std.proofs.Common.{map, take}
use Rattle.spv_term.specs.Arena.{tree}
use Rattle.spv_table.specs.Kept.{listed_over}
use Rattle.spv_verdicts.specs.candidate_models.Trying.{AreWorth}
use Rattle.spv_verdicts.proofs.candidate_models.keys.worths.Given as goal

abbrev pub invariant-loop-t : goal.invariant-loop-t
invariant-loop-t l = AreWorth (listed_over l.terms l.table.values) (map (tree l.terms) (take l.t-index l.ids)) l.numbers
