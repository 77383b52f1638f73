use Rattle.std.proofs.Common.{sym, ◌∙◌}
use Rattle.spv_congruence.proofs.Goings.{goes_refl, goes_table, goes_still, first_in, entered_ok_same, entered_ok_apart}
use Rattle.spv_congruence.proofs.kept.Kept.enter_user.Goals as goal

pub returns-then-not-is_node-clause-goes : goal.returns-then-not-is_node-clause-goes
returns-then-not-is_node-clause-goes c = goes_refl _

pub returns-in_err-first-clause-goes : goal.returns-in_err-first-clause-goes
returns-in_err-first-clause-goes c = goes_still _ _ c.in_err-first.ensures.same c.in_err-first.ensures.err

pub label-requires : goal.label-requires
label-requires c = first_in _ _ _ _ c.in_ok-first.ensures.same c.in_ok-first.ensures.ok c.requires.fits c.law_joins.ensures _ c.requires.level

pub returns-in_err-push-clause-goes : goal.returns-in_err-push-clause-goes
returns-in_err-push-clause-goes c = goes_table _ _ _ c.in_ok-first.ensures.same c.in_ok-first.ensures.ok.rows

pub returns-in_ok-push-clause-goes : goal.returns-in_ok-push-clause-goes
returns-in_ok-push-clause-goes c = goes_table _ _ _ c.in_ok-first.ensures.same c.in_ok-first.ensures.ok.rows

pub returns-else-label-clause-goes : goal.returns-else-label-clause-goes
returns-else-label-clause-goes c = goes_table _ _ _ c.in_ok-first.ensures.same c.in_ok-first.ensures.ok.rows

pub returns-in_ok-push-clause-ok : goal.returns-in_ok-push-clause-ok
returns-in_ok-push-clause-ok c rest h = entered_ok_apart _ _ _ _ c.in_ok-first.ensures.same c.in_ok-first.ensures.ok c.requires.fits c.law_joins.ensures _ _ rest c.in_ok-push.ensures.items h

pub returns-else-label-clause-ok : goal.returns-else-label-clause-ok
returns-else-label-clause-ok c rest h = entered_ok_same _ _ _ _ c.in_ok-first.ensures.same c.in_ok-first.ensures.ok c.requires.fits c.law_joins.ensures _ rest
    (sym c.label.ensures ∙ (c.if-label.false ∙ c.label-2.ensures)) h
