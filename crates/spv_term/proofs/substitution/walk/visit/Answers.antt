use Rattle.std.proofs.Common.{refl, sym, ◌∙◌}
use Rattle.spv_term.specs.substitution.Walk.{known}
use Rattle.spv_term.proofs.substitution.walk.visit.Goals as goal

pub returns-in-Some : goal.returns-in-Some
returns-in-Some c = known c.in-Some.field-0 (sym c.get.ensures ∙ c.in-Some.is) refl
