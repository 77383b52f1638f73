use Rattle.std.proofs.Common.{◌∙◌}
use Rattle.spv_listing_values.proofs.Accepts.{printed_same, printed_other}
use Rattle.spv_listing_values.proofs.accepting.printed_again.Goals as goal

pub returns-then-eq-clause-ok : goal.returns-then-eq-clause-ok
returns-then-eq-clause-ok c =
    printed_same c.args.bytes.now c.as_slice.result.now c.args.listing c.eq.result c.requires.read c.requires.formed (c.as_slice.ensures.value ∙ c.in_ok-printed.ensures) c.eq.ensures c.if-eq.true

pub returns-clause-form : goal.returns-clause-form
returns-clause-form c n e =
    printed_other c.args.bytes.now c.as_slice.result.now c.args.listing c.eq.result c.requires.read (c.as_slice.ensures.value ∙ c.in_ok-printed.ensures) c.eq.ensures c.if-eq.false
