use Rattle.std.proofs.Common.{rules, ◌≡◌, ◌+◌, ◌<◌, false, length, ap, ◌∙◌, sym, arith}
use Rattle.spv_tableau_rules.specs.tableaux.Bounds.{breaks}
use Rattle.spv_dictionary.specs.updates.Shifts.{value_in}
use Rattle.spv_dictionary.proofs.pivoting.Choices.{read_value, met_more}
use Rattle.spv_dictionary.proofs.pivoting.choosing.all_met.Goals as goal

pub loop-place-preserved : goal.loop-place-preserved
loop-place-preserved c =
    let inside : c.args.width + c.row.result < length c.args.values.now = search rules in
    let value = read_value c.args.values.now (c.args.width + c.row.result) c.index-values-width.result inside c.index-values-width.is in
    let met : breaks c.get-bound.result.side c.get-bound.result.value c.index-values-width.result ≡ false = search rules in
    met_more c.args.width (value_in c.args.values.now) c.args.trail.now.bounds c.loop-place.place (c.loop-place.place + 1) c.get-bound.result c.loop-place.invariant c.get-bound.ensures.there
    (ap (λ n. breaks c.get-bound.result.side c.get-bound.result.value (value_in c.args.values.now (c.args.width + n))) (sym c.row.ensures)
    ∙ ap (breaks c.get-bound.result.side c.get-bound.result.value) (sym value) ∙ met) (omega arith)
