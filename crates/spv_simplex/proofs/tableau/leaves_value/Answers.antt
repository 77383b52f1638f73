use Rattle.std.proofs.Common.{rules, ◌≡◌, sym, ap, ◌∙◌}
use Rattle.spv_tableau_rules.specs.tableaux.Operations.{fits}
use Rattle.spv_simplex.specs.State.{clashes}
use Rattle.spv_simplex.proofs.Accepting.{leaves_some}
use Rattle.spv_simplex.proofs.tableau.leaves_value.Goals as goal

pub returns-in-Ok-clause-value : goal.returns-in-Ok-clause-value
returns-in-Ok-clause-value c =
    let clash : c.in-Ok.clash ≡ clashes c.args.side c.args.value c.in-Some.against = search rules in
    leaves_some c.args.side c.args.value c.in-Some.against c.args.other c.in-Ok.clash clash c.in-Some.is

pub returns-in-Err-clause-wide : goal.returns-in-Err-clause-wide
returns-in-Err-clause-wide c = record { other = c.in-Some.against; there = c.in-Some.is; unfit = ap fits (sym c.in-Err.ensures.refused) ∙ c.in-Err.ensures.unfit }
