use Rattle.spv_rule_soundness.proofs.statements.Induction.{right_level}
use Rattle.spv_rule_soundness.proofs.statements.laws.law_before.Goals as goal

pub returns : goal.returns
returns c p ok world allowed here passing entry right s passes n correct = (right_level p world allowed ok here entry passing right n correct).statements s passes
