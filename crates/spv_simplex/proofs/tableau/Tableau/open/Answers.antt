use Rattle.std.proofs.Common.{rules, ◌≡◌, ◌≤◌, ◌+◌, length, replicate}
use Rattle.std.specs.Prelude.{vec_capacity}
use Rattle.spv_tableau_rules.specs.tableaux.Numbers.{nothing}
use Rattle.spv_simplex.proofs.Calls.{opened_as}
use Rattle.spv_simplex.proofs.tableau.Tableau.open.Goals as goal

pub invariant_of-result : goal.invariant_of-result
invariant_of-result c =
    let values : c.in_ok-values.values.items ≡ replicate (length c.in_ok-parts.parts + length c.args.rows.now) nothing = search rules in
    let enough : length c.args.rows.now ≤ vec_capacity c.in_ok-combination.combination = search rules in
    (opened_as _ c.args.rows.now c.args.trail c.args.pivots c.in_ok-parts.parts c.in_ok-cells.cells.items c.in_ok-bounds.bounds c.len-width.result c.in_ok-dictionary.dictionary c.in_ok-values.values.items _ c.in_ok-evidence.evidence _
    c.in_ok-forms.ensures c.in_ok-parts.ensures c.in_ok-cells.ensures.count c.in_ok-cells.ensures.rows c.len-width.ensures c.in_ok-dictionary.ensures values c.in_ok-bounds.ensures c.requires.columns c.requires.pivots enough c.in_ok-evidence.ensures).kept

pub returns : goal.returns
returns c =
    let values : c.in_ok-values.values.items ≡ replicate (length c.in_ok-parts.parts + length c.args.rows.now) nothing = search rules in
    let enough : length c.args.rows.now ≤ vec_capacity c.in_ok-combination.combination = search rules in
    (opened_as _ c.args.rows.now c.args.trail c.args.pivots c.in_ok-parts.parts c.in_ok-cells.cells.items c.in_ok-bounds.bounds c.len-width.result c.in_ok-dictionary.dictionary c.in_ok-values.values.items _ c.in_ok-evidence.evidence _
    c.in_ok-forms.ensures c.in_ok-parts.ensures c.in_ok-cells.ensures.count c.in_ok-cells.ensures.rows c.len-width.ensures c.in_ok-dictionary.ensures values c.in_ok-bounds.ensures c.requires.columns c.requires.pivots enough c.in_ok-evidence.ensures).opened
