use Rattle.std.proofs.Common.{ℕ, ◌≤◌, length, ap, sym, ◌∙◌, subst}
use Rattle.spv_rules.specs.RuleSets.{rules_in}
use Rattle.spv_rounds.specs.Rounds.{members_of}
use Rattle.spv_rounds.specs.telling.Told.{settled_members}
use Rattle.spv_rounds.proofs.judging.SurviveLemmas.{nothing-called}
use Rattle.spv_rounds.proofs.telling.ToldLemmas.{if_told}
use Rattle.spv_rounds.proofs.judging.surviving.judged.Goals as goal

pub returns-then-as_slice-eq0 : goal.returns-then-as_slice-eq0
returns-then-as_slice-eq0 c = λ a d is known same u.
    c.in_ok-survived-in-Ok.ensures (rules_in c.args.rules.now) a d c.args.limits.now is u
    (nothing-called (rules_in c.args.rules.now) c.args.s c.args.u.table c.in-Ok.found.items (ap length (sym c.as_slice.ensures.value) ∙ c.if-as_slice-eq0.true) (c.in-Ok.ensures.called a d is))

pub returns-in-Ok : goal.returns-in-Ok
returns-in-Ok c =
    if_told c.added.result _ _ _ c.added.ensures c.added.ensures (λ o told more a d is known same u. told a d is known same u.pairs u.right.survives.falsifies (c.in-Ok.ensures.called a d is))

pub returns : goal.returns
returns c = λ a d is known same u.
    let few : length (settled_members c.args.s) ≤ c.args.limits.now.instances = subst (λ (n : ℕ). n ≤ c.args.limits.now.instances) (sym (ap (λ rs. length (members_of rs)) same)) known.few in
    c.in_ok-unmatched-in-Err.ensures (rules_in c.args.rules.now) a d c.args.limits.now is few u.pairs u.right.survives.falsifies (c.in-Err.ensures.wide a d is)
