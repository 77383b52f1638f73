use Rattle.std.proofs.Common.{sym, ◌∙◌}
use Rattle.spv_flow_parts.proofs.calls.AtCall.{without_pairs, pairs_put}
use Rattle.spv_flow_parts.proofs.calls.at_call.with_pairs.Goals as goal

pub returns-then-is_empty : goal.returns-then-is_empty
returns-then-is_empty c = without_pairs c.args.terms.now c.args.t c.args.pairs.now c.requires.t (sym c.is_empty.ensures ∙ c.if-is_empty.true)

pub returns : goal.returns
returns c =
    let made = c.substitute-answer.ensures in
    pairs_put c.args.terms.now c.substitute-answer.new.terms c.args.t c.args.pairs.now c.substitute-answer.result c.limited.result made.tree made.in_range made.grows made.only made.size c.limited.ensures.same c.limited.ensures.walk
