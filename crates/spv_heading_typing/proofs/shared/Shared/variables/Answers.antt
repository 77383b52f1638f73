use Rattle.std.proofs.Common.{sym}
use Rattle.spv_program.specs.declared.types.Item.TheVariants.{Variable}
use Rattle.spv_heading_typing.proofs.shared.Shared.variables.Goals as goal

pub returns : goal.returns
returns c = record { listed = λ x. rw (← c.self.view_is) (sym (c.self.invariant.listed (Variable x))) }
