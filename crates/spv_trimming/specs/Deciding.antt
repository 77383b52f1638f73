-- What was decided, with another proof.
use Rattle.spv_term.specs.declared.nodes.Condition.{Condition}
use Rattle.spv_term.specs.Arena.{Arena}
use Rattle.spv_verdicts.specs.Verdicts.{Limits}
use Rattle.spv_verdicts.specs.declared.answers.verdicts.Decided.{Decided}
use Rattle.spv_verdicts.specs.answers.Views.{IsDecided}

-- this was decided of some condition
pub record WasDecided (d : Decided) : Type 0 where
  pub arena : Arena
  pub condition : Condition
  pub limits : Limits
  pub decided : IsDecided arena condition limits d

-- of each condition of which one was decided, so is the other
abbrev pub StaysDecided : Decided → Decided → Type 0
StaysDecided d e = (a : Arena) (c : Condition) (limits : Limits) → IsDecided a c limits d → IsDecided a c limits e
