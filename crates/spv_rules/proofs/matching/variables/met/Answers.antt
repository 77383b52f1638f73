use Rattle.std.proofs.Common.{◌∙◌, sym, length}
use Rattle.spv_rules.proofs.matching.Meetings.{bound_below, met_none, met_some}
use Rattle.spv_rules.proofs.matching.variables.met.Goals as goal

pub met_again-requires-clause-before : goal.met_again-requires-clause-before
met_again-requires-clause-before c =
    bound_below (length c.args.s.now.terms.now.nodes) c.args.m.now.bound.now c.args.variable c.in-Some.before c.requires.may.bound (sym c.in-Some.is ∙ c.bound_to.ensures)

pub returns-in-None-clause-ok : goal.returns-in-None-clause-ok
returns-in-None-clause-ok c =
    rw (met_none c.args.s.now.terms.now c.args.m.now.bound.now c.args.variable (sym c.in-None.is ∙ c.bound_to.ensures)) c.met_first.ensures.ok

pub returns-in-Some-clause-ok : goal.returns-in-Some-clause-ok
returns-in-Some-clause-ok c =
    rw (met_some c.args.s.now.terms.now c.args.m.now.bound.now c.args.variable c.in-Some.before (sym c.in-Some.is ∙ c.bound_to.ensures)) c.met_again.ensures.ok

pub returns-in-Some-clause-fault : goal.returns-in-Some-clause-fault
returns-in-Some-clause-fault c =
    rw (met_some c.args.s.now.terms.now c.args.m.now.bound.now c.args.variable c.in-Some.before (sym c.in-Some.is ∙ c.bound_to.ensures)) c.met_again.ensures.fault
