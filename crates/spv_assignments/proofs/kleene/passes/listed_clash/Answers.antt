use Rattle.std.proofs.Common.{true}
use Rattle.spv_assignments.proofs.kleene.Filling.{listed_start, listed_clashes, listed_quiet}
use Rattle.spv_assignments.proofs.kleene.passes.listed_clash.Goals as goal

pub first_clash-requires-clause-start : goal.first_clash-requires-clause-start
first_clash-requires-clause-start c = listed_start c.args.terms.now c.args.own.now c.args.start.now c.requires.start _ true c.len.ensures.len _ c.in_ok-begun.begun.items c.in_ok-begun.ensures

pub returns-clause-clash : goal.returns-clause-clash
returns-clause-clash c = listed_clashes c.args.terms.now c.args.own.now c.args.start.now c.requires.start _ true c.len.ensures.len c.first_clash.result c.first_clash.ensures.clash

pub returns-clause-none : goal.returns-clause-none
returns-clause-none c = listed_quiet c.args.terms.now c.args.own.now c.args.start.now c.requires.start _ true c.len.ensures.len c.requires.quiet c.first_clash.result c.first_clash.ensures.none
