use Rattle.std.proofs.Common.{ap, ◌∙◌}
use Rattle.spv_rechecking.specs.written_terms.Standing.{symbol_for}
use Rattle.spv_rechecking.proofs.ConvertLemmas.{schema_known}
use Rattle.spv_rechecking.proofs.converting.schema_of.Goals as goal

pub returns-in-Some-symbol_for : goal.returns-in-Some-symbol_for
returns-in-Some-symbol_for c =
    schema_known c.args.names.now c.args.terms.now c.args.kind c.args.ids.items c.requires c.from_vec-in-Some-symbol_for.result c.from_vec-in-Some-symbol_for.ensures c.args.name.now _ c.in-Some.is c.in-Some-symbol_for.field
    (c.in-Some-symbol_for.ensures ∙ ap (symbol_for c.args.names.now) c.as_slice.ensures)
