use Rattle.spv_conditions.proofs.Entering.{known_under}
use Rattle.spv_conditions.proofs.routines.under.Goals as goal

pub returns : goal.returns
returns c =
    λ n numbers.
    let made = c.in_ok-entry.ensures in
    let b = c.entry_if_there.new.terms in
    known_under _ c.in_ok-entry.entry c.args.conditions.items c.known.result c.args.terms.now b n made.term made.there made.grows made.walk c.requires.conditions numbers
    (c.known.ensures.conditions b)
    c.known.ensures.err
