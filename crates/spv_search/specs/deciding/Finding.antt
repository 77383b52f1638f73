-- What is found of a condition whose search was opened.
use Rattle.std.specs.Prelude.{ℕ}
use Rattle.spv_term.specs.declared.nodes.Condition.{Condition}
use Rattle.spv_term.specs.Arena.{Arena}
use Rattle.spv_verdicts.specs.Verdicts.{Limits}
use Rattle.spv_verdicts.specs.declared.answers.verdicts.Decided.{Decided}
use Rattle.spv_verdicts.specs.answers.Views.{IsDecided}
use Rattle.spv_trail.specs.declared.search_setup.outcomes.Opened.{Opened}
use Rattle.spv_trail.specs.search_setup.Openings.{IsOpened}

-- a search was opened, for some condition
pub record HasOpened (limits : Limits) (o : Opened) : Type 0 where
  pub arena : Arena
  pub condition : Condition
  pub opened : IsOpened arena condition limits.pivots o

-- this is decided of each condition for which it was opened
abbrev pub IsFoundFor : Limits → Opened → Decided → Type 0
IsFoundFor limits o d = (a : Arena) (c : Condition) → IsOpened a c limits.pivots o → IsDecided a c limits d
