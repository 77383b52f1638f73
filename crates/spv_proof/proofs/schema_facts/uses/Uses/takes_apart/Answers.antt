use Rattle.std.proofs.Common.{◌∙◌}
use Rattle.spv_proof.proofs.schema_facts.Partnering.{apart}
use Rattle.spv_proof.proofs.schema_facts.uses.Uses.takes_apart.Goals as goal

pub returns : goal.returns
returns c =
    c.has.ensures ∙ apart c.args.terms.now c.law_arena.ensures c.args.self.now.ids.items c.requires.uses.ids c.args.self.now.lists c.requires.uses.lists c.args.list c.requires.list
