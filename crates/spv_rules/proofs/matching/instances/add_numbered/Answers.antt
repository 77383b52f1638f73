use Rattle.std.proofs.Common.{Result, List, length, map, sym, ◌∙◌, subst}
use Rattle.spv_term.specs.Arena.{Arena, AllBelow}
use Rattle.spv_term.specs.substitution.Images.{head_at}
use Rattle.spv_rules.specs.matching.Matches as plain
use Rattle.spv_rules.specs.matching.Views.{Adds, IsMatchFault}
use Rattle.spv_rules.proofs.matching.Sequences.{if_fault}
use Rattle.spv_rules.proofs.matching.Ruling.{own_rule}
use Rattle.spv_rules.proofs.matching.instances.add_numbered.Goals as goal

pub heads_of-requires : goal.heads_of-requires
heads_of-requires c =
    subst (λ (a : Arena). AllBelow (length a.nodes) c.as_slice.result.now) (sym c.terms.ensures)
    (subst (AllBelow (length c.args.rules.now.arena.nodes)) (sym c.as_slice.ensures) ((c.law_rules.ensures.rules.each c.args.place c.get-rule.result.now c.get-rule.ensures).variables))

pub returns-in_err-add_rule-clause-fault : goal.returns-in_err-add_rule-clause-fault
returns-in_err-add_rule-clause-fault c r at =
    if_fault c.from_residual-in_err-add_rule.result c.in_err-add_rule.field-0.0 _ c.from_residual-in_err-add_rule.ensures.1
    (subst (λ (o : Result (List plain.Instance) plain.Wide). IsMatchFault c.args.s.now.terms.now o c.in_err-add_rule.field-0.0)
    (own_rule c.args.rules.now.arena c.args.s.now c.as_slice-2.result c.in_ok-number.number c.args.place c.get-rule.result.now r c.requires.rules
    (c.as_slice-2.ensures.value ∙ (c.in_ok-heads.ensures ∙ (λ i. map (head_at (c.terms.ensures i)) (c.as_slice.ensures i))))
    c.in_ok-number.ensures c.args.rules.now.list c.get-rule.ensures at)
    c.in_err-add_rule.ensures.fault)

pub returns-clause-ok : goal.returns-clause-ok
returns-clause-ok c r at =
    subst (λ (o : Result (List plain.Instance) plain.Wide). Adds c.args.s.now.terms.now o c.args.found.now.items c.add_rule.new.found.items)
    (own_rule c.args.rules.now.arena c.args.s.now c.as_slice-2.result c.in_ok-number.number c.args.place c.get-rule.result.now r c.requires.rules
    (c.as_slice-2.ensures.value ∙ (c.in_ok-heads.ensures ∙ (λ i. map (head_at (c.terms.ensures i)) (c.as_slice.ensures i))))
    c.in_ok-number.ensures c.args.rules.now.list c.get-rule.ensures at)
    c.in_ok-add_rule.ensures.ok
