use Rattle.std.proofs.Common.{sym}
use Rattle.spv_program.specs.declared.types.Item.TheVariants.{Variable}
use Rattle.spv_heading_typing.proofs.shared.Shared.into_parts.Goals as goal

pub returns-clause-listed : goal.returns-clause-listed
returns-clause-listed c = λ x. rw (← c.self.view_is) (sym (c.self.invariant.listed (Variable x)))
