use Rattle.std.proofs.Common.{Some, refl, sym, ap, ◌∙◌, is_some, option_copied}
use Rattle.spv_environments.specs.Views.{waiting}
use Rattle.spv_environments.proofs.Bodies.{name_waits}
use Rattle.spv_environments.proofs.known.Known.is_awaited.Goals as goal

pub returns-in-Some-Some : goal.returns-in-Some-Some
returns-in-Some-Some c =
    rw (← c.self.view_is)
    (ap is_some (sym (name_waits (waiting c.self.inside.awaited) c.self.inside.awaited refl c.args.name c.in-Some-Some.field-0-0
    (sym c.get.ensures ∙ (ap option_copied c.in-Some-Some.is ∙ ap Some c.in-Some-Some.field-0-is)))))
