use Rattle.std.proofs.Common.{map, sym, ap, ◌∙◌}
use Rattle.spv_term.specs.Arena.{tree}
use Rattle.spv_models.specs.leaf_models.Subterms.{is_listed}
use Rattle.spv_fact_search.proofs.Guessed.{table-for}
use Rattle.spv_fact_search.proofs.trying.tried_near.Goals as goal

pub table_by-requires-clause-flags : goal.table_by-requires-clause-flags
table_by-requires-clause-flags c = c.as_slice-marks.ensures.value ∙ (c.in_ok-flags.ensures ∙ ap (map (λ t. is_listed (tree c.args.terms.now t))) (sym c.as_slice-ids.ensures))

pub tried_by-requires-clause-table : goal.tried_by-requires-clause-table
tried_by-requires-clause-table c =
    table-for c.args.terms.now c.args.condition.now c.as_slice-ids.result.now c.in_ok-table.table (ap (map (tree c.args.terms.now)) c.as_slice-ids.ensures ∙ c.in_ok-used.ensures.used) c.in_ok-table.ensures.within
    c.in_ok-table.ensures.lists
