use Rattle.std.proofs.Common.{map, sym, ap, ◌∙◌}
use Rattle.spv_term.specs.Arena.{tree}
use Rattle.spv_models.specs.leaf_models.Subterms.{is_listed}
use Rattle.spv_fact_search.proofs.Guessed.{all-in, if-table-for}
use Rattle.spv_fact_search.proofs.trying.table_near.Goals as goal

pub table_by-requires : goal.table_by-requires
table_by-requires c = record {
  in_range = all-in c.args.terms.now c.in_ok-used.used c.as_slice-ids.result.now c.as_slice-ids.ensures c.in_ok-used.ensures.in_range;
  flags = c.as_slice-marks.ensures.value ∙ (c.in_ok-flags.ensures ∙ ap (map (λ t. is_listed (tree c.args.terms.now t))) (sym c.as_slice-ids.ensures));
}

pub returns : goal.returns
returns c =
    if-table-for c.args.terms.now c.args.condition.now c.as_slice-ids.result.now (ap (map (tree c.args.terms.now)) c.as_slice-ids.ensures ∙ c.in_ok-used.ensures.used) c.table_by.result c.table_by.ensures.within c.table_by.ensures.lists
