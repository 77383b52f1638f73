use Rattle.spv_listing_values.proofs.Accepts.{accepted_exact, accepted_again, not_both, listing_found}
use Rattle.spv_listing_values.proofs.accepting.read_listing.Goals as goal

pub returns-clause-exact : goal.returns-clause-exact
returns-clause-exact c = accepted_exact c.args.bytes.now c.read_short.result c.read_short.ensures.ok

pub returns-clause-again : goal.returns-clause-again
returns-clause-again c l h e few = accepted_again c.args.bytes.now c.read_short.result c.read_short.ensures.ok c.read_short.ensures.form c.read_short.ensures.few l h e

pub returns-clause-form : goal.returns-clause-form
returns-clause-form c n l e h k = not_both c.args.bytes.now l (c.read_short.ensures.form n e) (listing_found c.args.bytes.now l h k)
