use Rattle.spv_search.proofs.Ends.{proved, gave_up}
use Rattle.spv_search.proofs.exploring.conclude.Goals as goal

pub returns-in-Proved : goal.returns-in-Proved
returns-in-Proved c =
    proved c.args.terms.now c.args.condition.now c.args.limits.now c.args.branches c.requires.within _ c.requires.formulas (rw c.in-Proved.is at c.in_ok-finished.ensures.finished) (rw c.in-Proved.is at c.in_ok-finished.ensures.within c.args.terms.now c.requires.within.terms_in)

pub returns-in-Open : goal.returns-in-Open
returns-in-Open c =
    gave_up c.args.terms.now c.args.condition.now c.args.limits.now c.args.branches c.requires.within _ (rw c.in-Open.is at c.in_ok-finished.ensures.finished) (rw c.in-Open.is at c.in_ok-finished.ensures.within c.args.terms.now c.requires.within.terms_in) _ c.new.ensures
