use Rattle.std.proofs.Common.{◌≡◌, ℕ, ◌-◌, List, [], ◌++◌, take, ap, ◌∙◌, append-nil, arith}
use Rattle.std.proofs.lemmas.List.{drop_more, drop_all}
use Rattle.spv_term.specs.Arena.{tree}
use Rattle.spv_listing.specs.verdict_pages.Counting.{numbers_down}
use Rattle.spv_listing.proofs.verdict_pages.Waiting.{going_on_at, none_waits, none_left}
use Rattle.spv_listing.proofs.verdict_pages.nodes.push_cases.Goals as goal

-- what `pop` says where there is nothing
nothing_popped : (waiting rest : List ℕ) (count : ℕ) → waiting ≡ rest ++ [] → rest ≡ take (count - 1) waiting → count ≡ 0 → waiting ≡ []
nothing_popped waiting rest count e f g =
    let none : count - 1 ≡ 0 = omega (arith, g) in
    e ∙ (append-nil rest ∙ (f ∙ ap (λ n. take n waiting) none))

pub loop-node-preserved : goal.loop-node-preserved
loop-node-preserved c =
    going_on_at c.args.names.now c.args.titles.now (tree c.args.terms.now) _ c.loop-node.out.items c.push_case.new.out.items c.loop-node.waiting.items c.pop.new.self.items c.put_cases.new.waiting.items _ c.node-item.result _ _ _
    c.loop-node.invariant c.in-Some.ensures.items c.node-item.is (drop_more c.args.nodes.now c.loop-node.node-index c.node-item.result c.loop-node-test.true) c.in_ok-push_case-in-Some.ensures
    (c.in_ok-put_cases-in-Some.ensures ∙ ap (λ k. c.pop.new.self.items ++ numbers_down k) c.count_cases.ensures)

pub returns-in-None : goal.returns-in-None
returns-in-None c =
    none_waits c.args.names.now c.args.titles.now (tree c.args.terms.now) _ c.loop-node.out.items c.loop-node.waiting.items _ c.loop-node.invariant
    (nothing_popped c.loop-node.waiting.items c.pop.new.self.items _ c.in-None.ensures.items c.in-None.ensures.rest c.in-None.ensures.cases.0)

pub returns : goal.returns
returns c =
    none_left c.args.names.now c.args.titles.now (tree c.args.terms.now) _ c.loop-node.out.items c.loop-node.waiting.items _ c.loop-node.invariant (drop_all c.loop-node.node-index c.args.nodes.now c.loop-node-test.false)
