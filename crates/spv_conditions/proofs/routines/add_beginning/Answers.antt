use Rattle.std.proofs.Common.{map, sym, ap, ◌∙◌}
use Rattle.spv_program.specs.Programs.{Program, Routine}
use Rattle.spv_program.specs.typed.ProgramViews.{formal_of}
use Rattle.spv_meaning.specs.ProgramConditions.{initial_pairs, start_pairs}
use Rattle.spv_conditions.proofs.Beginning.{both_added, first_stops}
use Rattle.spv_conditions.proofs.Entering.{over_then}
use Rattle.spv_conditions.proofs.routines.add_beginning.Goals as goal

pub add_items-requires : goal.add_items-requires
add_items-requires g c = (
  c.requires.1.1.0,
  (c.requires.1.1.1.0, (c.requires.1.1.1.1, c.as_slice-initial.ensures ∙ ap (λ (r : Routine). r.initial) (sym c.requires.1.0))),
)

pub add_starts-requires : goal.add_starts-requires
add_starts-requires g c = (
  over_then g.of.program c.in_ok-add_items.ensures.grows c.requires.1.1.0,
  (
    c.requires.1.1.1.0,
    (
      c.as_slice-forms.ensures ∙ ap (λ (p : Program). p.forms) ((c.behind-program.view_is ∙ c.program.ensures) ∙ sym c.requires.0),
      ap (map formal_of) c.as_slice-formals.ensures ∙ ap (λ (r : Routine). r.formals) (sym c.requires.1.0),
    ),
  ),
)

pub returns-in_err-add_items : goal.returns-in_err-add_items
returns-in_err-add_items g c =
    first_stops c.args.terms.now c.add_items.new.terms (initial_pairs g.of.program g.of.routine) (start_pairs g.of.program g.of.routine) c.args.pairs.now.items c.add_items.new.pairs.items c.from_residual.result
    c.in_err-add_items.field-0.0 c.add_items.new.pairs.items c.from_residual.ensures.1 c.in_err-add_items.ensures

pub returns : goal.returns
returns g c =
    both_added c.args.terms.now c.add_items.new.terms (initial_pairs g.of.program g.of.routine) (start_pairs g.of.program g.of.routine) c.args.pairs.now.items c.add_items.new.pairs.items tt c.in_ok-add_items.ensures
    c.add_starts.new.terms c.add_starts.new.pairs.items c.add_starts.result c.add_starts.ensures
