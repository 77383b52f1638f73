use Rattle.spv_dictionary.proofs.Exchanging.{false_of}
use Rattle.spv_dictionary.proofs.Mixed.{if_err, in_row}
use Rattle.spv_dictionary.proofs.mixing.test_other.Goals as goal

pub returns-clause-refused : goal.returns-clause-refused
returns-clause-refused c =
    if_err c.test_row.result _ _ c.test_row.ensures.refused
    (λ o m. in_row c.args.rows.now c.args.solved.now _ c.args.here c.args.slot c.args.row o c.requires.row (false_of c.args.row c.args.here c.if-row-here.false) c.index-rows-row.is m)
