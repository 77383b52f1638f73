use Rattle.std.proofs.Common.{sym, ◌∙◌}
use Rattle.spv_environments.proofs.Pieces.{array_has_no_fields}
use Rattle.spv_environments.proofs.known.Known.has_fields.Goals as goal

pub returns-in-Some : goal.returns-in-Some
returns-in-Some c = sym (array_has_no_fields c.args.self.now.program.forms c.args.of c.in-Whole.t c.in-Whole.is _ (sym c.element_type.ensures ∙ c.in-Some.is))
