use Rattle.std.proofs.Common.{sym, ◌∙◌, map}
use Rattle.spv_term.specs.Arena.{tree}
use Rattle.spv_proof.proofs.schema_facts.Saying.{members_extended, is_a_class}
use Rattle.spv_proof.proofs.schema_facts.kinds.members_extended.Goals as goal

pub unreachable-requires : goal.unreachable-requires
unreachable-requires c =
    is_a_class c.args.terms.now c.law_arena.ensures (map (tree c.args.terms.now) c.args.ts.now) c.in_ok-change.change c.in_ok-change.ensures (λ k e. c.in_default.not-Class k (c.sort.ensures ∙ e))

pub returns : goal.returns
returns c =
    members_extended c.args.terms.now c.law_arena.ensures (map (tree c.args.terms.now) c.args.ts.now) c.in_ok-change.change c.in_ok-change.ensures c.in-Class.t (sym c.sort.ensures ∙ c.in-Class.is)
