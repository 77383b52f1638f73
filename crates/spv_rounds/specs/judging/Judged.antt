-- What was found where all is refuted, and which verdict on a condition under rules that makes.
use Rattle.std.specs.Prelude.{◌≡◌, ◌<◌, List, length, Option, Some, None, Ok}
use Rattle.spv_term.specs.declared.nodes.Condition.{Condition}
use Rattle.spv_term.specs.Arena.{Arena}
use Rattle.spv_table.specs.declared.table.Table.{Table}
use Rattle.spv_table.specs.Kept.{PairsIn}
use Rattle.spv_proof_rules.specs.Rules.{Rule}
use Rattle.spv_verdicts.specs.Verdicts.{Limits}
use Rattle.spv_verdicts.specs.Schemas.{IsReachedWith, IsRightWith, IsUnprovedWith}
use Rattle.spv_verdicts.specs.declared.answers.verdicts.Decided.{Decided}
use Rattle.spv_verdicts.specs.declared.answers.verdicts.Instance.{Instance}
use Rattle.spv_verdicts.specs.declared.answers.verdicts.Limit.{Limit}
use Rattle.spv_verdicts.specs.declared.answers.verdicts.Unproved.{Unproved}
use Rattle.spv_verdicts.specs.declared.answers.verdicts.Verdict.{Verdict}
use Rattle.spv_verdicts.specs.answers.Views.{VerdictIn, verdict_in, InstancesIn, LimitIn, CasesIn, branch_in, instances_in, limit_in, pairs_in}
use Rattle.spv_rounds.specs.Claims.{AllSay}
use Rattle.spv_rounds.specs.Rounds.{called}
use Rattle.spv_rounds.specs.Right.{IsDecidedByRounds}
use Rattle.spv_rounds.specs.declared.knowing.known.Known.{Known}
use Rattle.spv_rounds.specs.declared.knowing.known.Settled.{Settled}
use Rattle.spv_rounds.specs.knowing.Known.{IsKnown, IsSettled, members_in}
use Rattle.spv_rounds.specs.telling.Told.{settled_question, settled_members, settled_claim}

-- a condition with its rounds was settled
pub record HasSettled (s : Settled) : Type 0 where
  pub rules : List Rule
  pub from : Arena
  pub whole : Condition
  pub is : IsSettled rules from whole s

-- a verdict is right of what claims that all is refuted
pub record IsFoundIn (rules : List Rule) (limits : Limits) (s : Settled) (v : Verdict) : Type 0 where
  pub terms_in : VerdictIn s.terms v
  pub right : IsRightWith s.terms (settled_claim rules s) limits (verdict_in s.terms v)

-- a limit of a search that all is refuted
pub record IsLimitIn (rules : List Rule) (limits : Limits) (s : Settled) (l : Limit) : Type 0 where
  pub there : LimitIn s.terms l
  pub reached : IsReachedWith s.terms (settled_claim rules s) limits (limit_in s.terms l)

-- what shows that not all is refuted
pub record IsUnprovedIn (rules : List Rule) (s : Settled) (u : Unproved) : Type 0 where
  pub cases : CasesIn s.terms u.branch
  pub pairs : PairsIn s.terms u.table.values
  pub right : IsUnprovedWith (settled_claim rules s) (branch_in s.terms u.branch) (pairs_in s.terms u.table.values) (instances_in s.terms u.instances)

-- a table calls for these instances, and each says something
pub record Calls (rules : List Rule) (s : Settled) (table : Table) (members : List Instance) : Type 0 where
  pub called : called (settled_question rules s) (settled_members s) (pairs_in s.terms table.values) ≡ Ok (instances_in s.terms members)
  pub there : InstancesIn s.terms members
  pub say : AllSay (settled_question rules s) (instances_in s.terms members)

-- a round was added
pub record GoesOn (rules : List Rule) (a : Arena) (c : Condition) (limits : Limits) (old new : Known) : Type 0 where
  pub known : IsKnown rules a c limits new
  pub more : length (members_in old.terms old.rounds.items) < length (members_in new.terms new.rounds.items)

-- a verdict was found, or a round was added
abbrev pub Judged : List Rule → Arena → Condition → Limits → Known → Option Decided → Known → Type 0
Judged rules a c limits old (Some d) new = IsDecidedByRounds rules a c limits d
Judged rules a c limits old None new = GoesOn rules a c limits old new
