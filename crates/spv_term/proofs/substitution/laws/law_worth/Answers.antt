use Rattle.std.proofs.Common.{ap, ◌∙◌}
use Rattle.spv_logic.specs.Terms.{eval}
use Rattle.spv_logic.proofs.Substitution.{eval-substitute}
use Rattle.spv_term.specs.Arena.{tree}
use Rattle.spv_term.specs.substitution.Images.{pairs_at}
use Rattle.spv_term.proofs.substitution.laws.law_worth.Goals as goal

pub returns : goal.returns
returns c = λ old new pairs t u is symbols v. ap (eval symbols v) is ∙ eval-substitute symbols (pairs_at old pairs) v (tree old t)
