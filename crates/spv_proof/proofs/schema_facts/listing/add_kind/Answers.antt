use Rattle.std.proofs.Common.{length, get_or, map, sym, subst}
use Rattle.std.proofs.lemmas.Option.{slice_get-get_or}
use Rattle.spv_term.specs.Arena.{AllBelow, tree}
use Rattle.spv_term.proofs.TreeLemmas.{AllBelow-at}
use Rattle.spv_proof.specs.schema_facts.Instances.{Adds, instances_at}
use Rattle.spv_proof.proofs.schema_facts.FirstTerms.{adds_both, kind_listed, next_joined}
use Rattle.spv_proof.proofs.schema_facts.listing.add_kind.Goals as goal

pub add_first-requires-clause-first : goal.add_first-requires-clause-first
add_first-requires-clause-first c =
    let n = length c.args.terms.now.nodes in
    let ids = c.ids-first-items.result.now in
    let i = c.loop-first.first-index in
    AllBelow-at n ids i (get_or ids i (record { 0 = 0 })) (subst (AllBelow n) (sym c.ids-first-items.ensures) c.requires.ids) (slice_get-get_or ids i (record { 0 = 0 }) c.loop-first-test.true)

pub loop-first-preserved : goal.loop-first-preserved
loop-first-preserved c =
    let a = c.args.terms.now in
    adds_both a c.args.found.now.items c.loop-first.found.items c.add_first.new.found.items _ _ _ c.loop-first.invariant c.in_ok-add_first.ensures
    (next_joined a (λ t. instances_at a (map (tree a) c.args.uses.now.ids.items) c.args.kind (tree a t)) c.ids-first-items.result.now c.loop-first.first-index (record { 0 = 0 }) c.loop-first-test.true)

pub returns : goal.returns
returns c =
    let a = c.args.terms.now in
    subst (Adds a c.args.found.now.items c.loop-first.found.items)
    (kind_listed a c.args.kind c.args.uses.now.ids.items c.ids-first-items.result.now c.ids-first-items.ensures c.loop-first.first-index c.loop-first-test.false) c.loop-first.invariant
