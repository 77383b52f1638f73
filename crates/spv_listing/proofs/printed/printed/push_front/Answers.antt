use Rattle.std.proofs.Common.{sym, ◌∙◌, ap, ◌++◌}
use Rattle.spv_listing.specs.printed.Printed.{head_text}
use Rattle.spv_listing.proofs.printed.Texts.{on_ok, begins-alone, begins-bracketed}
use Rattle.spv_listing.proofs.printed.printed.push_front.Goals as goal

pub returns-then-stands_alone : goal.returns-then-stands_alone
returns-then-stands_alone c =
    on_ok c.push_head.result c.push_head.ensures.text
    (begins-alone c.args.names.now c.args.titles.now c.args.terms.now c.law_arena.ensures c.args.t c.node-node.result.now c.node-node.ensures
    (sym c.stands_alone.ensures ∙ c.if-stands_alone.true) _ _ _ c.requires.are_terms)

pub returns : goal.returns
returns c =
    begins-bracketed c.args.names.now c.args.titles.now c.args.terms.now c.law_arena.ensures c.args.t c.node-node.result.now c.node-node.ensures
    (sym c.stands_alone.ensures ∙ c.if-stands_alone.false) _ _ _ _ _ c.requires.are_terms
    (c.in_ok-push_head.ensures.text ∙ ap (λ l. l ++ head_text c.args.names.now c.args.titles.now c.node-node.result.now.head) c.in_ok-push.ensures.items)
    c.in_ok-push-2.ensures.items c.as_slice.ensures
