use Rattle.std.proofs.Common.{◌∙◌}
use mathlib.Core.Path.{ap₂}
use Rattle.spv_logic.specs.Terms.{sort_eq}
use Rattle.spv_rules.proofs.matching.Meetings.{sort_found}
use Rattle.spv_rules.proofs.matching.variables.has_sort_of.Goals as goal

pub returns : goal.returns
returns c = sort_found c.args.terms.now c.law_arena.ensures c.args.t c.requires c.args.variable c.same_sort.result (c.same_sort.ensures ∙ ap₂ sort_eq c.variable_sort.ensures c.sort.ensures)
