use Rattle.std.proofs.Common.{◌∙◌, ap, sym}
use Rattle.std.specs.Prelude.{slice_index_or}
use Rattle.std.proofs.lemmas.Option.{slice_get-get_or}
use Rattle.spv_cli.specs.Commands.{plain_number}
use Rattle.spv_cli.proofs.Numbers.{digits_there, no_number}
use Rattle.spv_cli.proofs.words.plain_number.Goals as goal

pub returns-in-None-clause-number : goal.returns-in-None-clause-number
returns-in-None-clause-number c =
    let bytes = c.as_bytes-bytes.result.now in
    let i = c.loop-byte.byte-index in
    no_number c.args.most bytes i (slice_index_or bytes i 0) c.loop-byte.number (slice_get-get_or bytes i 0 c.loop-byte-test.true) c.loop-byte.invariant.so_far (sym c.in-None.is ∙ c.behind_digit.ensures.number)
    ∙ sym (digits_there c.args.most bytes i c.loop-byte-test.true)
    ∙ ap (plain_number c.args.most) c.as_bytes-bytes.ensures.value
