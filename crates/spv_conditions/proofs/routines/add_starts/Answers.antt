use Rattle.std.proofs.Common.{ap, refl}
use Rattle.spv_program.specs.Programs.{Formal}
use Rattle.std.proofs.Common.{List}
use Rattle.spv_conditions.specs.Making.{start_pairs_of}
use Rattle.spv_conditions.proofs.Beginning.{each_begin, each_end, each_next, each_stop, formal_there, no_formal, starts, starts_both}
use Rattle.spv_conditions.proofs.routines.add_starts.Goals as goal

pub loop-formal-init : goal.loop-formal-init
loop-formal-init g c =
    each_begin (starts g.of.program) (starts_both g.of.program) refl c.args.formals.now _ c.args.terms.now c.args.pairs.now.items (ap (λ (fs : List Formal). start_pairs_of g.of.program fs) c.requires.1.1.1)

pub add_start-requires : goal.add_start-requires
add_start-requires g c = (
  c.requires.1.1.0,
  formal_there g.of.program g.of.routine c.args.terms.now c.requires.0 c.requires.1.0 c.loop-formal.terms c.loop-formal.invariant.walked.grows c.args.formals.now c.loop-formal.formal-index no_formal c.requires.1.1.1
      c.loop-formal-test.true,
)

pub loop-formal-preserved : goal.loop-formal-preserved
loop-formal-preserved g c =
    each_next (starts g.of.program) (starts_both g.of.program) refl c.args.formals.now _ c.args.terms.now c.loop-formal.terms c.add_start.new.terms c.loop-formal.formal-index no_formal c.args.pairs.now.items
    c.loop-formal.pairs.items c.loop-formal-test.true c.loop-formal.invariant tt c.add_start.new.pairs.items c.in_ok-add_start.ensures

pub returns-in_err-add_start : goal.returns-in_err-add_start
returns-in_err-add_start g c =
    each_stop (starts g.of.program) (starts_both g.of.program) refl c.args.formals.now _ c.args.terms.now c.loop-formal.terms c.add_start.new.terms c.loop-formal.formal-index no_formal c.args.pairs.now.items
    c.loop-formal.pairs.items c.loop-formal-test.true c.loop-formal.invariant c.from_residual.result c.in_err-add_start.field-0.0 c.add_start.new.pairs.items c.add_start.new.pairs.items c.from_residual.ensures.1
    c.in_err-add_start.ensures

pub returns : goal.returns
returns g c =
    each_end (starts g.of.program) (starts_both g.of.program) refl c.args.formals.now _ c.args.terms.now c.loop-formal.terms c.loop-formal.formal-index c.args.pairs.now.items c.loop-formal.pairs.items c.loop-formal-test.false
    c.loop-formal.invariant tt
