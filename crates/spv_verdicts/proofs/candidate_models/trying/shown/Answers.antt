use Rattle.spv_verdicts.proofs.candidate_models.Shown.{agreed_as, is_shown}
use Rattle.spv_verdicts.proofs.candidate_models.trying.shown.Goals as goal

pub returns-in-Whole : goal.returns-in-Whole
returns-in-Whole c =
    is_shown c.args.terms.now c.args.condition.now c.args.table.now c.args.branch c.requires.values c.requires.lists c.requires.shows (agreed_as c.args.terms.now c.args.table.now.values _ _ c.in-Whole.is c.in_ok-find_agreement.ensures)

pub returns-in-Apart : goal.returns-in-Apart
returns-in-Apart c = agreed_as c.args.terms.now c.args.table.now.values _ _ c.in-Apart.is c.in_ok-find_agreement.ensures
