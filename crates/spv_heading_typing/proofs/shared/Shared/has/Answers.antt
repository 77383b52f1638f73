use Rattle.std.proofs.Common.{sym, ap, ◌∙◌, is_some}
use Rattle.spv_program.specs.declared.types.Item.TheVariants.{Variable, Class}
use Rattle.spv_program.specs.Lists.{found}
use Rattle.spv_heading_typing.proofs.shared.Shared.has.Goals as goal

pub returns-in-Variable : goal.returns-in-Variable
returns-in-Variable c = rw (c.in-Variable.is, ← c.self.view_is) (c.has.ensures ∙ sym (c.self.invariant.listed (Variable c.in-Variable.x)))

pub returns-in-Class : goal.returns-in-Class
returns-in-Class c =
    rw (c.in-Class.is, ← c.self.view_is)
    (c.has-in-Class.ensures ∙ (ap (λ n. is_some (found c.self.inside.classes n)) c.class_name.ensures ∙ sym (c.self.invariant.listed (Class c.in-Class.t))))
