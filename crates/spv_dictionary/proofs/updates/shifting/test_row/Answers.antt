use Rattle.std.proofs.Common.{rules, ◌≡◌}
use Rattle.spv_dictionary.specs.Dictionary.{basic_at}
use Rattle.spv_dictionary.proofs.Exchanging.{false_of}
use Rattle.spv_dictionary.specs.updates.Shifts.{value_in, entry_in}
use Rattle.spv_dictionary.proofs.updates.Going.{row_refused, value_read}
use Rattle.spv_dictionary.proofs.updates.shifting.test_row.Goals as goal

pub returns-in-Err-clause-refused : goal.returns-in-Err-clause-refused
returns-in-Err-clause-refused c =
    let entry : c.get-entry.result ≡ entry_in c.args.dictionary.now c.args.row c.args.slot = search rules in
    let value : c.index-values-basic.result ≡ value_in c.args.values.now (basic_at c.args.dictionary.now c.args.row) =
    value_read c.args.dictionary.now c.args.values.now c.args.row c.basic.result c.index-values-basic.result c.law_dictionary.ensures c.requires.count c.requires.row c.basic.ensures c.index-values-basic.is in
    row_refused c.args.dictionary.now c.args.values.now c.args.slot c.args.distance c.args.skip c.args.row c.index-values-basic.result c.get-entry.result c.in-Err.refused c.requires.row
    (false_of c.args.row c.args.skip c.if-row-skip.false) value entry c.in-Err.ensures.refused
