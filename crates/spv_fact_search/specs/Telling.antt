-- What was found of all that is refuted with a condition, and what is told of the condition.
use Rattle.spv_schemas.specs.Kinds.{number_of_kind}
use Rattle.spv_atoms.specs.declared.proofs.Step.{Step}
use Rattle.spv_atoms.specs.declared.proofs.Step.TheVariants as step
use Rattle.spv_proof.specs.declared.schema_facts.listing.Instance.{Instance}
use Rattle.spv_term.specs.declared.nodes.Condition.{Condition}
use Rattle.spv_term.specs.Arena.{Arena}
use Rattle.spv_proof_rules.specs.Stand.{question}
use Rattle.spv_verdicts.specs.Schemas.{enlarged, IsReachedWith, IsRightWith}
use Rattle.spv_verdicts.specs.Verdicts.{Limits, IsReached, IsRight}
use Rattle.spv_verdicts.specs.declared.answers.verdicts.Limit.{Limit}
use Rattle.spv_verdicts.specs.declared.answers.verdicts.Verdict.{Verdict}
use Rattle.spv_verdicts.specs.answers.Views.{LimitIn, VerdictIn, limit_in, verdict_in}

-- the step that adds the fact of an instance
abbrev pub schema_step : Instance → Step
schema_step i = step.Schema (number_of_kind i.kind) i.about i.field

-- a verdict is right of what claims that all is refuted, and its terms are in the arena
pub record IsFoundOf (a : Arena) (c : Condition) (limits : Limits) (v : Verdict) : Type 0 where
  pub terms_in : VerdictIn a v
  pub right : IsRight a (enlarged (question a c)) limits (verdict_in a v)

-- a verdict is right of the condition, where facts of schemas are at hand
pub record IsToldWith (a : Arena) (c : Condition) (limits : Limits) (v : Verdict) : Type 0 where
  pub terms_in : VerdictIn a v
  pub right : IsRightWith a (question a c) limits (verdict_in a v)

-- the same of limits
pub record IsLimitOf (a : Arena) (c : Condition) (limits : Limits) (l : Limit) : Type 0 where
  pub terms_in : LimitIn a l
  pub reached : IsReached a (enlarged (question a c)) limits (limit_in a l)

pub record IsLimitWith (a : Arena) (c : Condition) (limits : Limits) (l : Limit) : Type 0 where
  pub terms_in : LimitIn a l
  pub reached : IsReachedWith a (question a c) limits (limit_in a l)
