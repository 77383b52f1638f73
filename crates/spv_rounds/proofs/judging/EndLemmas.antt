-- What is told of a condition decides it.
use Rattle.std.proofs.Common.{◌≡◌, ◌≤◌, true, List, length}
use Rattle.spv_term.specs.declared.nodes.Condition.{Condition}
use Rattle.spv_term.specs.Arena.{Arena}
use Rattle.spv_atoms.specs.declared.proofs.ProofNode.{ProofNode}
use Rattle.spv_proof_rules.specs.Rules.{Rule}
use Rattle.spv_proof_rules.specs.Accepted.{accepts}
use Rattle.spv_proof_rules.specs.Effects.{Question}
use Rattle.spv_proof_rules.specs.Stand.{NodesIn}
use Rattle.spv_verdicts.specs.Verdicts as verdicts
use Rattle.spv_verdicts.specs.Verdicts.{Limits, Splits, TooManyInstances, WideForm, WidePivot, WideSum, WideEvaluation, Pivots, TooManyTerms}
use Rattle.spv_verdicts.specs.declared.answers.verdicts.Limit.{Limit}
use Rattle.spv_verdicts.specs.declared.answers.verdicts.Verdict.TheVariants as verdict
use Rattle.spv_verdicts.specs.answers.Views.{limit_in}
use Rattle.spv_rounds.specs.Right.{IsMetUnder, IsReachedUnder, IsDecidedByRounds}
use Rattle.spv_rounds.specs.declared.knowing.known.Settled.{Settled}
use Rattle.spv_rounds.specs.knowing.Known.{IsSettled}
use Rattle.spv_rounds.specs.telling.Told.{settled_question, settled_members, settled_claim, ProofTold, LimitTold}
use Rattle.spv_rounds.specs.judging.Judged.{IsLimitIn}

pub proved-decides : (rules : List Rule) (a : Arena) (c : Condition) (limits : Limits) (s : Settled) (old new : List ProofNode) → IsSettled rules a c s → ProofTold rules s old new → NodesIn s.terms old → accepts (settled_claim rules s) old ≡ true
    → IsDecidedByRounds rules a c limits (record { terms = s.terms; condition = s.condition; verdict = verdict.Proved new })
proved-decides rules a c limits s old new is told there h = record { claim = is.claim; shapes = is.shapes; decls = is.decls; terms_in = told.there there; right = told.accepted h }

-- a limit that is met is reached
met-reached : (a : Arena) (q : Question) (limits : Limits) (ms : List verdicts.Instance) (l : verdicts.Limit) → length ms ≤ limits.instances → IsMetUnder a q limits ms l → IsReachedUnder a q limits ms l
met-reached a q limits ms (Splits tree) few h = (few, h)
met-reached a q limits ms TooManyInstances few h = absurd h
met-reached a q limits ms (WideForm t) few h = (few, h)
met-reached a q limits ms (WidePivot s steps o) few h = (few, h)
met-reached a q limits ms (WideSum nodes w) few h = (few, h)
met-reached a q limits ms (WideEvaluation table t w) few h = (few, h)
met-reached a q limits ms (Pivots s steps) few h = (few, h)
met-reached a q limits ms (TooManyTerms n) few h = (few, h)

pub limit-decides : (rules : List Rule) (a : Arena) (c : Condition) (limits : Limits) (s : Settled) (old new : Limit) → IsSettled rules a c s → length (settled_members s) ≤ limits.instances → IsLimitIn rules limits s old → LimitTold rules limits s old new
    → IsDecidedByRounds rules a c limits (record { terms = s.terms; condition = s.condition; verdict = verdict.GaveUp s.rounds new })
limit-decides rules a c limits s old new is few found told = record {
  claim = is.claim;
  shapes = is.shapes;
  decls = is.decls;
  terms_in = (is.rounds.there, told.there found.there);
  right = record {
    say = is.rounds.say;
    grown = is.rounds.grown;
    reached = met-reached s.terms (settled_question rules s) limits (settled_members s) (limit_in s.terms new) few (told.reached found.reached);
  };
}
