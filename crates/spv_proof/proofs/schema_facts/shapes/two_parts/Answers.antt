use Rattle.std.proofs.Common.{sym, ◌∙◌}
use Rattle.spv_logic.specs.Terms.{no_terms, terms}
use Rattle.spv_proof.proofs.schema_facts.Looked.{other_head, two_there, two_missing}
use Rattle.spv_proof.proofs.schema_facts.shapes.two_parts.Goals as goal

pub returns-then-not-same_head-clause-missing : goal.returns-then-not-same_head-clause-missing
returns-then-not-same_head-clause-missing c x y e =
    other_head c.args.terms.now c.law_arena.ensures c.args.t c.node-node.result.now c.node-node.ensures c.args.head (sym c.same_head.ensures ∙ c.if-not-same_head.true) (terms x (terms y no_terms)) e

pub returns-clause-there : goal.returns-clause-there
returns-clause-there c =
    two_there c.args.terms.now c.law_arena.ensures c.args.t c.node-node.result.now c.node-node.ensures c.args.head c.as_slice.result.now c.as_slice.ensures (sym c.same_head.ensures ∙ c.if-not-same_head.false) c.two.result c.two.ensures.there

pub returns-clause-missing : goal.returns-clause-missing
returns-clause-missing c =
    two_missing c.args.terms.now c.law_arena.ensures c.args.t c.node-node.result.now c.node-node.ensures c.args.head c.as_slice.result.now c.as_slice.ensures c.two.result c.two.ensures.missing
