use Rattle.std.proofs.Common.{ap, ◌∙◌}
use Rattle.spv_program.specs.Programs.{Program}
use Rattle.spv_conditions.proofs.Mains.{entry_as, main_stands, note_stops, under_main}
use Rattle.spv_conditions.proofs.making.under.Goals as goal

pub noted-requires-clause-stands : goal.noted-requires-clause-stands
noted-requires-clause-stands c = main_stands c.args.program.now c.args.body.now c.args.terms.now c.requires.over c.requires.body c.requires.here

pub noted-requires-clause-typed : goal.noted-requires-clause-typed
noted-requires-clause-typed c = entry_as c.args.program.now c.requires.over.typed c.args.body.now.here c.requires.here _ (ap (λ (q : Program). q.main.entry) (c.behind-program.view_is ∙ c.program.ensures))

pub returns-in_err-entry : goal.returns-in_err-entry
returns-in_err-entry c =
    λ n numbers.
    note_stops c.args.program.now c.args.body.now.here _ c.args.program.now.main.entry _ n c.args.terms.now c.noted.new.terms c.from_residual.result c.in_err-entry.field-0.0 c.requires.here (ap (λ (q : Program). q.main.entry) (c.behind-program.view_is ∙ c.program.ensures))
    c.from_residual.ensures.1 c.in_err-entry.ensures.grows c.in_err-entry.ensures.walk

pub returns : goal.returns
returns c =
    λ n numbers.
    let made = c.in_ok-entry.ensures in
    let b = c.noted.new.terms in
    under_main c.args.program.now c.args.body.now.here c.requires.here _ c.in_ok-entry.entry c.args.terms.now b n made.note made.grows made.walk numbers c.args.program.now.main.entry (ap (λ (q : Program). q.main.entry) (c.behind-program.view_is ∙ c.program.ensures))
    c.args.conditions.items c.known.result c.requires.conditions
    (c.known.ensures.conditions b)
    c.known.ensures.err
