use Rattle.std.proofs.Common.{length, ap, ◌∙◌}
use Rattle.spv_branch_theory.specs.model_construction.Numbers.{listed_to}
use Rattle.spv_branch_theory.proofs.model_construction.full.full_table.Goals as goal

pub returns : goal.returns
returns c = record {
  places = c.in_ok-places.places.items;
  firsts = c.in_ok-places.ensures;
  values_are =
      c.from_vec.ensures
      ∙ (c.in_ok-values.ensures ∙ ap (λ ps. listed_to c.args.terms.now c.args.both.now c.args.ids.now c.args.flags.now ps (length c.args.ids.now)) c.as_slice.ensures.value);
}
