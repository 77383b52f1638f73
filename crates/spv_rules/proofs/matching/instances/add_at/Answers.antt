use Rattle.std.proofs.Common.{fold, sym, ◌∙◌, ap}
use Rattle.spv_rules.specs.matching.Views.{setting_in, with_match}
use Rattle.spv_rules.proofs.matching.Sequences.{if_fault}
use Rattle.spv_rules.proofs.matching.Ruling.{other_head, same_head, nothing_added, all_added, matches_stop}
use Rattle.spv_rules.proofs.matching.instances.add_at.Goals as goal

pub returns-then-not-same_head-clause-ok : goal.returns-then-not-same_head-clause-ok
returns-then-not-same_head-clause-ok c =
    rw (other_head c.args.s.now c.args.number c.args.trigger c.law_arena.ensures c.law_arena-2.ensures c.node.result.now c.node-2.result.now c.node.ensures c.args.u c.node-2.ensures (sym c.if-not-same_head.true ∙ c.same_head.ensures))
    (nothing_added c.args.s.now.terms.now c.args.found.now.items c.requires.found)

pub returns-in_err-matches-clause-fault : goal.returns-in_err-matches-clause-fault
returns-in_err-matches-clause-fault c =
    if_fault c.from_residual.result c.in_err-matches.field-0.0 _ c.from_residual.ensures.1
    (rw (same_head c.args.s.now c.args.number c.args.trigger c.law_arena.ensures c.law_arena-2.ensures c.node.result.now c.node-2.result.now c.node.ensures c.args.u c.node-2.ensures (sym c.if-not-same_head.false ∙ c.same_head.ensures))
    (matches_stop c.args.s.now.terms.now (setting_in c.args.s.now) c.args.number _ c.in_err-matches.field-0.0 c.in_err-matches.ensures.fault))

pub returns-clause-ok : goal.returns-clause-ok
returns-clause-ok c =
    rw (same_head c.args.s.now c.args.number c.args.trigger c.law_arena.ensures c.law_arena-2.ensures c.node.result.now c.node-2.result.now c.node.ensures c.args.u c.node-2.ensures (sym c.if-not-same_head.false ∙ c.same_head.ensures))
    (all_added c.args.s.now c.args.number c.law_arena-2.ensures _ c.in_ok-matches.matches.items c.args.found.now.items c.add_matches.new.found.items c.requires.found c.in_ok-matches.ensures.ok
    (c.in_ok-add_matches.ensures ∙ ap (fold (with_match c.args.number c.args.s.now.variables.now) c.args.found.now.items) c.as_slice.ensures.value))
