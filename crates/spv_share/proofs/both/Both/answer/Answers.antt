use Rattle.spv_share.proofs.Rounds.{closed_by}
use Rattle.spv_share.proofs.both.Both.answer.Goals as goal

pub returns-in_ok-closing_steps-in-Ended : goal.returns-in_ok-closing_steps-in-Ended
returns-in_ok-closing_steps-in-Ended c =
    closed_by c.args.terms.now c.args.self.now c.args.facts c.in_ok-closing_steps-in-Ended.field-0.items c.args.outcome c.in-Ended.first c.in-Ended.second c.requires.both c.requires.outcome c.in-Ended.is
    c.in_ok-closing_steps-in-Ended.ensures.closes c.in_ok-closing_steps-in-Ended.ensures.exact
