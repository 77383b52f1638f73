use Rattle.std.proofs.Common.{◌∙◌}
use Rattle.spv_listing_values.proofs.Accepts.{read_none}
use Rattle.spv_listing_values.proofs.accepting.read_folded.Goals as goal

pub returns-in-None-clause-form : goal.returns-in-None-clause-form
returns-in-None-clause-form c n e = read_none c.args.bytes.now _ c.in_ok-read.ensures.claims (rw c.in-None.is at c.in_ok-listing_of.ensures)

pub printed_again-requires-clause-read : goal.printed_again-requires-clause-read
printed_again-requires-clause-read c = (rw c.in-Some.is at c.in_ok-listing_of.ensures).0 ∙ c.in_ok-read.ensures.claims

pub printed_again-requires-clause-formed : goal.printed_again-requires-clause-formed
printed_again-requires-clause-formed c = (rw c.in-Some.is at c.in_ok-listing_of.ensures).1
