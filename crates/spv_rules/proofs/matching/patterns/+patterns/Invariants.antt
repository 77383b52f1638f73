use Rattle.std.proofs.Common.{◌+◌, ◌*◌, drop, Ok}
use Rattle.spv_term.specs.Arena.{tree}
use Rattle.spv_rules.specs.matching.Matches.{behind, each, matched}
use Rattle.spv_rules.specs.matching.Views.{setting_in, all_in, matched_after, met_by_in, applied_in, inside_in}
use Rattle.spv_rules.proofs.matching.Walks.{Goes, Beside}
use Rattle.spv_rules.proofs.matching.patterns.+patterns.Given as goal

abbrev pub decreases-applied : goal.decreases-applied
decreases-applied l = 5 * l.m.now.pattern.0 + 2

abbrev pub decreases-each_matched : goal.decreases-each_matched
decreases-each_matched l = 5 * l.pattern.0 + 4

abbrev pub decreases-inside : goal.decreases-inside
decreases-inside l = 5 * l.m.now.pattern.0

abbrev pub decreases-matched : goal.decreases-matched
decreases-matched l = 5 * l.m.now.pattern.0 + 3

abbrev pub decreases-met_by : goal.decreases-met_by
decreases-met_by l = 5 * l.m.now.pattern.0 + 1

abbrev pub invariant-applied-loop-u : goal.invariant-applied-loop-u
invariant-applied-loop-u l = Goes l.s.terms.now (met_by_in l.s l.m) (behind (Ok (all_in l.s.terms.now l.fn.found.items)) (applied_in l.s l.m l.s.used.now)) l.found.items (drop l.u-index l.s.used.now)

abbrev pub invariant-each_matched-loop-bound : goal.invariant-each_matched-loop-bound
invariant-each_matched-loop-bound l =
    Goes l.s.terms.now (matched_after l.s l.pattern l.t)
    (each (matched (setting_in l.s) (tree l.s.patterns.now l.pattern) (tree l.s.terms.now l.t)) (all_in l.s.terms.now l.before)) l.found.items (drop l.bound-index l.before)

abbrev pub invariant-inside-loop-i : goal.invariant-inside-loop-i
invariant-inside-loop-i l = Beside l.s.patterns.now l.s.terms.now (setting_in l.s) (inside_in l.s l.m l.fn.u) l.found.items (drop l.i l.patterns) (drop l.i l.terms)
