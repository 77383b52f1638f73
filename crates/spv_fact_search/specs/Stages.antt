-- A stage of a search, and what it comes to.
use Rattle.std.specs.Prelude.{◌≡◌, ⊤}
use Rattle.spv_term.specs.declared.nodes.Condition.{Condition}
use Rattle.spv_term.specs.Arena.{Arena, Extends}
use Rattle.spv_search_terms.specs.declared.condition_copy.filling.Copied.{Copied}
use Rattle.spv_verdicts.specs.Verdicts.{Limits}
use Rattle.spv_verdicts.specs.answers.Views.{IsDecided}
use Rattle.spv_fact_search.specs.declared.stages.Stage.{Stage}
use Rattle.spv_fact_search.specs.declared.stages.Outcome.{Outcome}
use Rattle.spv_fact_search.specs.declared.stages.Outcome.TheVariants as outcome
use Rattle.spv_fact_search.specs.Asking.{IsAsked, IsOwn}

-- a stage of a condition
pub record IsStageOf (a : Arena) (c : Condition) (s : Stage) : Type 0 where
  pub own : IsOwn a c s.terms s.condition
  pub asked : IsAsked s.terms s.abstracted

-- the arena of a copy has grown, and nothing else has changed of it
pub record CopyGrows (old new : Copied) : Type 0 where
  pub terms : Extends old.terms new.terms
  pub condition : new.condition ≡ old.condition

-- the arena of a stage has grown, and nothing else has changed of it
pub record StageGrows (old new : Stage) : Type 0 where
  pub terms : Extends old.terms new.terms
  pub condition : new.condition ≡ old.condition

-- what a stage comes to decides every condition of which it is one
abbrev pub IsOutcomeOf : Arena → Condition → Limits → Outcome → Type 0
IsOutcomeOf a c limits (outcome.Decided d) = IsDecided a c limits d
IsOutcomeOf a c limits (outcome.Apart ts) = ⊤
IsOutcomeOf a c limits outcome.NotShown = ⊤
IsOutcomeOf a c limits outcome.Nothing = ⊤
