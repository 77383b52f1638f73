use Rattle.spv_proof.proofs.schema_facts.Partnering.{link_in}
use Rattle.spv_proof.proofs.schema_facts.listing.add_pairs.Goals as goal

pub add-requires : goal.add-requires
add-requires c = (c.requires.first, (link_in c.args.terms.now c.args.links.now c.requires.links c.loop-link.link-index (record { key = 0; member = record { 0 = 0 } }) c.loop-link-test.true, tt))
