-- Steps for the members of rounds, and what is told of a condition in which they stand.
use Rattle.std.specs.Prelude.{◌≡◌, true, List}
use Rattle.std.specs.List.{flat_map}
use Rattle.spv_atoms.specs.declared.proofs.ProofNode.{ProofNode}
use Rattle.spv_atoms.specs.declared.proofs.Step.{Step}
use Rattle.spv_atoms.specs.declared.proofs.Step.TheVariants as step
use Rattle.spv_proof_rules.specs.Rules.{Rule}
use Rattle.spv_proof_rules.specs.Accepted.{accepts}
use Rattle.spv_proof_rules.specs.Effects.{Question}
use Rattle.spv_proof_rules.specs.Stand.{question_under, NodesIn}
use Rattle.spv_verdicts.specs.Verdicts.{Limits}
use Rattle.spv_verdicts.specs.Verdicts as verdicts
use Rattle.spv_verdicts.specs.Schemas.{IsReachedWith}
use Rattle.spv_verdicts.specs.declared.answers.verdicts.Instance.{Instance}
use Rattle.spv_verdicts.specs.declared.answers.verdicts.Round.{Round}
use Rattle.spv_verdicts.specs.declared.answers.verdicts.Limit.{Limit}
use Rattle.spv_verdicts.specs.answers.Views.{LimitIn, limit_in}
use Rattle.spv_rounds.specs.Claims.{formulas, claim}
use Rattle.spv_rounds.specs.Right.{IsMetUnder}
use Rattle.spv_rounds.specs.declared.knowing.known.Settled.{Settled}
use Rattle.spv_rounds.specs.knowing.Known.{members_in}

-- the step that adds what an instance says
abbrev pub rule_step : Instance → Step
rule_step i = step.Rule i.rule i.values

-- the members of rounds
abbrev pub all_members : List Round → List Instance
all_members rounds = flat_map (λ r. r.members) rounds

-- the condition in its arena, under rules
abbrev pub settled_question : List Rule → Settled → Question
settled_question rules s = question_under rules s.terms s.condition

abbrev pub settled_members : Settled → List verdicts.Instance
settled_members s = members_in s.terms s.rounds

-- what claims that all is refuted with what the members of the rounds say
abbrev pub settled_claim : List Rule → Settled → Question
settled_claim rules s = claim (settled_question rules s) (formulas (settled_question rules s) (settled_members s))

-- a proof that all is refuted, and one of the condition
pub record ProofTold (rules : List Rule) (s : Settled) (old new : List ProofNode) : Type 0 where
  pub there : NodesIn s.terms old → NodesIn s.terms new
  pub accepted : accepts (settled_claim rules s) old ≡ true → accepts (settled_question rules s) new ≡ true

-- a limit of a search that all is refuted, and one of the condition
pub record LimitTold (rules : List Rule) (limits : Limits) (s : Settled) (old new : Limit) : Type 0 where
  pub there : LimitIn s.terms old → LimitIn s.terms new
  pub reached : IsReachedWith s.terms (settled_claim rules s) limits (limit_in s.terms old) → IsMetUnder s.terms (settled_question rules s) limits (settled_members s) (limit_in s.terms new)
