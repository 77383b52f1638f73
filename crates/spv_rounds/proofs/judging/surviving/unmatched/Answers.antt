use Rattle.std.proofs.Common.{subst}
use Rattle.spv_rules.specs.declared.matching.faults.MatchFault.{MatchFault}
use Rattle.spv_rules.specs.matching.Views.{IsMatchFault}
use Rattle.spv_verdicts.specs.answers.Views.{pairs_in}
use Rattle.spv_rounds.specs.Rounds.{matched}
use Rattle.spv_rounds.specs.telling.Told.{settled_question, settled_members}
use Rattle.spv_rounds.proofs.judging.surviving.unmatched.Goals as goal

pub returns-in-Wide : goal.returns-in-Wide
returns-in-Wide c = λ rules a d limits is few there falsifies fault.
    let f = subst (λ (x : MatchFault). IsMatchFault c.args.s.terms (matched (settled_question rules c.args.s) (settled_members c.args.s) (pairs_in c.args.s.terms c.args.table.values)) x) c.in-Wide.is fault in
    c.too_wide.ensures rules a d limits is few there f.1 falsifies f.0
