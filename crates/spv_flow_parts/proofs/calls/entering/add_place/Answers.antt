use Rattle.std.proofs.Common.{ap, ◌∙◌, ◌∷◌, []}
use Rattle.spv_logic.specs.declared.operators.Head.TheVariants.{Var}
use Rattle.spv_program.specs.Programs.{Program}
use Rattle.spv_program.specs.Supplies.{fresh_variable}
use Rattle.spv_program.specs.Types.{sort_of}
use Rattle.spv_program.specs.typed.ProgramViews.{formal_of}
use Rattle.spv_assign.specs.supply.Numbers.{supply_of}
use Rattle.spv_assign.proofs.limited_steps.Renamings.{ok_at}
use Rattle.spv_flow_parts.proofs.calls.Wholes.{fresh_makes, gives_makes, gives_at}
use Rattle.spv_flow_parts.proofs.calls.Fresh.{y_stops, target_then, whole_fits, whole_stops, place_added}
use Rattle.spv_flow_parts.proofs.calls.entering.add_place.Goals as goal

pub returns-in_err-y : goal.returns-in_err-y
returns-in_err-y c =
    y_stops c.args.program.now (formal_of c.args.formal.now) c.args.d.now (supply_of c.args.supply.now) c.args.terms.now c.law_arena.ensures c.requires.target c.requires.sorts
    _ (ap (λ s. fresh_variable c.args.formal.now.name s (supply_of c.args.supply.now)) (c.sort_of-sort.ensures ∙ ap (λ forms. sort_of forms c.args.formal.now.of) (c.as_slice.ensures ∙ ap (λ (p : Program). p.forms) (c.behind-program.view_is ∙ c.program.ensures))))
    c.from_residual.result c.in_err-y.field-0.0 c.fresh_variable-fresh.new.terms c.args.changed.now c.args.changed.now (supply_of c.fresh_variable-fresh.new.self) c.from_residual.ensures.1 c.fresh_variable-fresh.ensures.grows
    (c.in_err-y.ensures.walk c.args.terms.now _ (fresh_makes c.args.terms.now c.fresh_variable-fresh.new.terms c.fresh_variable-fresh.new.self (supply_of c.args.supply.now) _ c.fresh_variable-fresh.result c.fresh_variable-fresh.ensures.fresh c.fresh_variable-fresh.ensures.grows c.fresh_variable-fresh.ensures.only c.fresh_variable-fresh.ensures.size c.requires.there))

pub whole_with-whole-requires-clause-target : goal.whole_with-whole-requires-clause-target
whole_with-whole-requires-clause-target c =
    target_then c.args.program.now (formal_of c.args.formal.now) c.args.d.now (supply_of c.args.supply.now) c.args.terms.now c.law_arena.ensures c.requires.target c.requires.sorts
    _ (ap (λ s. fresh_variable c.args.formal.now.name s (supply_of c.args.supply.now)) (c.sort_of-sort.ensures ∙ ap (λ forms. sort_of forms c.args.formal.now.of) (c.as_slice.ensures ∙ ap (λ (p : Program). p.forms) (c.behind-program.view_is ∙ c.program.ensures)))) c.fresh_variable-fresh.new.terms c.fresh_variable-fresh.ensures.grows (c.in_ok-y.ensures.walk c.args.terms.now _ (fresh_makes c.args.terms.now c.fresh_variable-fresh.new.terms c.fresh_variable-fresh.new.self (supply_of c.args.supply.now) _ c.fresh_variable-fresh.result c.fresh_variable-fresh.ensures.fresh c.fresh_variable-fresh.ensures.grows c.fresh_variable-fresh.ensures.only c.fresh_variable-fresh.ensures.size c.requires.there)) c.in_ok-y.y c.fresh_variable-fresh.new.self (ok_at _ c.fresh_variable-fresh.result c.in_ok-y.y c.in_ok-y.ensures.same c.fresh_variable-fresh.ensures.fresh)

pub whole_with-whole-requires-clause-sorts : goal.whole_with-whole-requires-clause-sorts
whole_with-whole-requires-clause-sorts c =
    whole_fits c.args.program.now (formal_of c.args.formal.now) c.args.d.now (supply_of c.args.supply.now) c.args.terms.now c.law_arena.ensures c.requires.target c.requires.sorts
    _ (ap (λ s. fresh_variable c.args.formal.now.name s (supply_of c.args.supply.now)) (c.sort_of-sort.ensures ∙ ap (λ forms. sort_of forms c.args.formal.now.of) (c.as_slice.ensures ∙ ap (λ (p : Program). p.forms) (c.behind-program.view_is ∙ c.program.ensures)))) c.fresh_variable-fresh.new.terms c.fresh_variable-fresh.ensures.grows (c.in_ok-y.ensures.walk c.args.terms.now _ (fresh_makes c.args.terms.now c.fresh_variable-fresh.new.terms c.fresh_variable-fresh.new.self (supply_of c.args.supply.now) _ c.fresh_variable-fresh.result c.fresh_variable-fresh.ensures.fresh c.fresh_variable-fresh.ensures.grows c.fresh_variable-fresh.ensures.only c.fresh_variable-fresh.ensures.size c.requires.there)) c.in_ok-y.y c.fresh_variable-fresh.new.self (ok_at _ c.fresh_variable-fresh.result c.in_ok-y.y c.in_ok-y.ensures.same c.fresh_variable-fresh.ensures.fresh)

pub returns-in_err-whole : goal.returns-in_err-whole
returns-in_err-whole c =
    whole_stops c.args.program.now (formal_of c.args.formal.now) c.args.d.now (supply_of c.args.supply.now) c.args.terms.now c.law_arena.ensures c.requires.target c.requires.sorts
    _ (ap (λ s. fresh_variable c.args.formal.now.name s (supply_of c.args.supply.now)) (c.sort_of-sort.ensures ∙ ap (λ forms. sort_of forms c.args.formal.now.of) (c.as_slice.ensures ∙ ap (λ (p : Program). p.forms) (c.behind-program.view_is ∙ c.program.ensures)))) c.fresh_variable-fresh.new.terms c.fresh_variable-fresh.ensures.grows (c.in_ok-y.ensures.walk c.args.terms.now _ (fresh_makes c.args.terms.now c.fresh_variable-fresh.new.terms c.fresh_variable-fresh.new.self (supply_of c.args.supply.now) _ c.fresh_variable-fresh.result c.fresh_variable-fresh.ensures.fresh c.fresh_variable-fresh.ensures.grows c.fresh_variable-fresh.ensures.only c.fresh_variable-fresh.ensures.size c.requires.there)) c.in_ok-y.y c.fresh_variable-fresh.new.self (ok_at _ c.fresh_variable-fresh.result c.in_ok-y.y c.in_ok-y.ensures.same c.fresh_variable-fresh.ensures.fresh)
    c.from_residual-in_err-whole.result c.in_err-whole.field-0.0 c.whole_with-whole.new.terms c.args.changed.now c.args.changed.now (supply_of c.fresh_variable-fresh.new.self) c.from_residual-in_err-whole.ensures.1 c.whole_with-whole.ensures.grows
    (c.in_err-whole.ensures.walk c.fresh_variable-fresh.new.terms (_ ∷ []) (gives_makes c.fresh_variable-fresh.new.terms c.whole_with-whole.new.terms c.whole_with-whole.result _ c.whole_with-whole.ensures))

pub returns : goal.returns
returns c =
    place_added c.args.program.now (formal_of c.args.formal.now) c.args.d.now (supply_of c.args.supply.now) c.args.terms.now c.law_arena.ensures c.requires.target c.requires.sorts
    _ (ap (λ s. fresh_variable c.args.formal.now.name s (supply_of c.args.supply.now)) (c.sort_of-sort.ensures ∙ ap (λ forms. sort_of forms c.args.formal.now.of) (c.as_slice.ensures ∙ ap (λ (p : Program). p.forms) (c.behind-program.view_is ∙ c.program.ensures)))) c.fresh_variable-fresh.new.terms c.fresh_variable-fresh.ensures.grows (c.in_ok-y.ensures.walk c.args.terms.now _ (fresh_makes c.args.terms.now c.fresh_variable-fresh.new.terms c.fresh_variable-fresh.new.self (supply_of c.args.supply.now) _ c.fresh_variable-fresh.result c.fresh_variable-fresh.ensures.fresh c.fresh_variable-fresh.ensures.grows c.fresh_variable-fresh.ensures.only c.fresh_variable-fresh.ensures.size c.requires.there)) c.in_ok-y.y c.fresh_variable-fresh.new.self (ok_at _ c.fresh_variable-fresh.result c.in_ok-y.y c.in_ok-y.ensures.same c.fresh_variable-fresh.ensures.fresh)
    c.whole_with-whole.new.terms c.in_ok-whole.whole (gives_at c.whole_with-whole.result c.in_ok-whole.whole _ c.fresh_variable-fresh.new.terms c.whole_with-whole.new.terms c.in_ok-whole.ensures.same c.whole_with-whole.ensures)
    (c.in_ok-whole.ensures.walk c.fresh_variable-fresh.new.terms (_ ∷ []) (gives_makes c.fresh_variable-fresh.new.terms c.whole_with-whole.new.terms c.whole_with-whole.result _ c.whole_with-whole.ensures))
    c.args.changed.now c.push.new.changed _ (ap (λ s. Var c.args.formal.now.name s 0) (c.sort_of-sort.ensures ∙ ap (λ forms. sort_of forms c.args.formal.now.of) (c.as_slice.ensures ∙ ap (λ (p : Program). p.forms) (c.behind-program.view_is ∙ c.program.ensures))))
    c.in_ok-push.ensures.in_exit c.in_ok-push.ensures.after (c.fresh_variable-fresh.ensures.there c.requires.there)
