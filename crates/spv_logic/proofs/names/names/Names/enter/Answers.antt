use Rattle.std.proofs.Common.{◌∙◌, refl, sym}
use Rattle.spv_logic.proofs.names.NameTable.{with_text-known, with_text-new, not_there, put, if_put, on_put}
use Rattle.spv_logic.proofs.names.names.Names.enter.Goals as goal

pub returns-in-Some-clause-entered : goal.returns-in-Some-clause-entered
returns-in-Some-clause-entered c = with_text-known _ _ c.in-Some.known.0 c.in-Some.ensures.stands

pub returns-clause-number : goal.returns-clause-number
returns-clause-number c = if_put c.push.result c.push.ensures.number c.push.ensures.pushed (λ s last grown. (put _ _ c.args.text.now s.0 (c.in_default.ensures.absent.0 refl) grown last).number)

pub returns-clause-stands : goal.returns-clause-stands
returns-clause-stands c = if_put c.push.result c.push.ensures.number c.push.ensures.pushed (λ s last grown. (put _ _ c.args.text.now s.0 (c.in_default.ensures.absent.0 refl) grown last).stands)

pub returns-clause-entered : goal.returns-clause-entered
returns-clause-entered c = on_put c.push.result c.push.ensures.pushed (λ grown. grown ∙ sym (with_text-new _ c.args.text.now (not_there _ _ (c.in_default.ensures.absent.0 refl))))
