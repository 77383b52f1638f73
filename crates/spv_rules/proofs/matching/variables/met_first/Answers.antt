use Rattle.std.proofs.Common.{◌∙◌, sym}
use Rattle.spv_rules.specs.matching.Views.{setting_in}
use Rattle.spv_rules.proofs.matching.Meetings.{same_sort}
use Rattle.spv_rules.proofs.matching.variables.met_first.Goals as goal

pub returns-clause-ok : goal.returns-clause-ok
returns-clause-ok c =
    same_sort c.args.s.now.terms.now c.args.found.now.items c.requires.found (setting_in c.args.s.now) c.args.variable c.args.m.now.term c.args.m.now.bound.now _ c.requires.may.bound c.requires.may.term (sym c.if-not-has_sort_of.false ∙ c.has_sort_of.ensures)
    (c.in_ok-more.ensures) c.put.new.found.items (c.in_ok-put.ensures)
