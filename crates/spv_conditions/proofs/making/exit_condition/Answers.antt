use Rattle.std.proofs.Common.{ap, ◌∙◌}
use Rattle.spv_program.specs.Programs.{Program}
use Rattle.spv_conditions.proofs.Mains.{exit_as, exit_wanted_main, main_stands, note_stops}
use Rattle.spv_conditions.proofs.making.exit_condition.Goals as goal

pub noted-requires-clause-stands : goal.noted-requires-clause-stands
noted-requires-clause-stands c = main_stands c.args.program.now c.args.body.now c.args.terms.now c.requires.over c.requires.body c.requires.here

pub noted-requires-clause-typed : goal.noted-requires-clause-typed
noted-requires-clause-typed c = exit_as c.args.program.now c.requires.over.typed c.args.body.now.here c.requires.here _ (ap (λ (q : Program). q.main.exit) (c.behind-program.view_is ∙ c.program.ensures))

pub returns-in_err-note : goal.returns-in_err-note
returns-in_err-note c =
    λ n numbers.
    note_stops c.args.program.now c.args.body.now.here _ c.args.program.now.main.exit _ n c.args.terms.now c.noted.new.terms c.from_residual.result c.in_err-note.field-0.0 c.requires.here (ap (λ (q : Program). q.main.exit) (c.behind-program.view_is ∙ c.program.ensures))
    c.from_residual.ensures.1 c.in_err-note.ensures.grows c.in_err-note.ensures.walk

pub returns : goal.returns
returns c =
    λ n numbers.
    let made = c.in_ok-note.ensures in
    exit_wanted_main c.args.program.now c.args.body.now.here c.requires.here _ c.in_ok-note.note c.args.terms.now c.noted.new.terms n made.note made.grows made.walk numbers c.args.program.now.main.exit (ap (λ (q : Program). q.main.exit) (c.behind-program.view_is ∙ c.program.ensures))
    c.wanted_note.result c.wanted_note.ensures.conditions c.wanted_note.ensures.err
