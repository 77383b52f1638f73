use Rattle.std.proofs.Common.{sym, subst, ◌∙◌}
use Rattle.spv_arithmetic_side.specs.declared.slack_rows.row.RowFault.{RowFault}
use Rattle.spv_arithmetic_side.specs.slack_rows.Rows.{IsWideAmong}
use Rattle.spv_share.specs.Relations.{AreNodes}
use Rattle.spv_trail.proofs.search_setup.BothSides.{wide_atom}
use Rattle.spv_trail.proofs.search_setup.starting.open_sides.Goals as goal

pub ground_of-requires-clause-questions : goal.ground_of-requires-clause-questions
ground_of-requires-clause-questions c = c.requires.asked.questions_are

pub returns-in-Ok : goal.returns-in-Ok
returns-in-Ok c = record {
  claim = c.requires.copy.claim;
  shapes = c.requires.copy.shapes;
  decls = c.requires.copy.decls;
  formulas = c.requires.formulas;
  subterms = c.requires.asked.subterms_are;
  ground = c.in_ok-ground.ensures.is;
  asked = record { ground = c.in_ok-ground.ensures.is; nodes = subst (AreNodes c.in-Ok.both.trail.graph.nodes) (sym c.in_ok-ground.ensures.questions) c.in-Ok.ensures.sides.nodes };
  opened = c.in-Ok.ensures.sides.opened;
  both = c.in-Ok.ensures.sides.both;
  untold = c.in-Ok.ensures.sides.untold;
  pivots = c.in-Ok.ensures.sides.pivots ∙ c.pivots.ensures.value;
}

pub returns-in-Err-Wide : goal.returns-in-Err-Wide
returns-in-Err-Wide c =
    wide_atom c.args.terms.now c.args.condition.now c.args.own c.args.claim c.args.questions.atoms.items c.in-Err-Wide.atom c.requires.copy c.requires.asked.atoms_are
    (subst (λ (fault : RowFault). IsWideAmong c.args.own c.args.questions.atoms.items fault) c.in-Err-Wide.field-0-is c.in-Err-Wide.ensures.wide)
