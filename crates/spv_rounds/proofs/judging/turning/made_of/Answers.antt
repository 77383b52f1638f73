use Rattle.std.proofs.Common.{ℕ, ◌≤◌, length, ap, sym, subst}
use Rattle.spv_rules.specs.RuleSets.{rules_in}
use Rattle.spv_verdicts.specs.declared.answers.verdicts.Verdict.{Verdict}
use Rattle.spv_rounds.specs.Rounds.{members_of}
use Rattle.spv_rounds.specs.telling.Told.{settled_members}
use Rattle.spv_rounds.specs.judging.Judged.{IsFoundIn}
use Rattle.spv_rounds.proofs.telling.ToldLemmas.{if_told}
use Rattle.spv_rounds.proofs.judging.turning.made_of.Goals as goal

pub returns-in-Proved : goal.returns-in-Proved
returns-in-Proved c = λ a d is known same.
    let f = subst (λ (v : Verdict). IsFoundIn (rules_in c.args.rules.now) c.args.limits.now c.args.s v) c.in-Proved.is c.requires.found in
    c.in_ok-accepted-in-Proved.ensures (rules_in c.args.rules.now) a d c.args.limits.now is f.terms_in f.right

pub returns-in-Unproved : goal.returns-in-Unproved
returns-in-Unproved c =
    let f = subst (λ (v : Verdict). IsFoundIn (rules_in c.args.rules.now) c.args.limits.now c.args.s v) c.in-Unproved.is c.requires.found in
    if_told c.judged.result _ _ _ c.judged.ensures c.judged.ensures (λ o told more a d is known same. told a d is known same (record { cases = f.terms_in.0; pairs = f.terms_in.1; right = f.right }))

pub returns-in-GaveUp : goal.returns-in-GaveUp
returns-in-GaveUp c = λ a d is known same.
    let f = subst (λ (v : Verdict). IsFoundIn (rules_in c.args.rules.now) c.args.limits.now c.args.s v) c.in-GaveUp.is c.requires.found in
    let few : length (settled_members c.args.s) ≤ c.args.limits.now.instances = subst (λ (n : ℕ). n ≤ c.args.limits.now.instances) (sym (ap (λ rs. length (members_of rs)) same)) known.few in
    c.in_ok-stopped-in-GaveUp.ensures (rules_in c.args.rules.now) a d c.args.limits.now is few (record { there = f.terms_in.1; reached = f.right.reached })
