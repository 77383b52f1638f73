use Rattle.std.proofs.Common.{◌++◌, ap, sym, ◌∙◌, arith}
use Rattle.std.proofs.lemmas.Option.{get_or_from_slice_get}
use Rattle.spv_rechecking.specs.written_terms.Standing.{is_leaf}
use Rattle.spv_rechecking.specs.written_terms.Leaves.{if_leaf}
use Rattle.spv_rechecking.proofs.written_terms.Lists.{filter-more}
use Rattle.spv_rechecking.proofs.written_terms.leaves.leaves_of.Goals as goal

pub loop-place-init : goal.loop-place-init
loop-place-init c = record { heads = c.new-leaves.ensures.heads; have = c.new-leaves.ensures.have c.args.names.now c.args.titles.now }

pub loop-place-preserved : goal.loop-place-preserved
loop-place-preserved c =
    let node = c.node.result.now in
    record {
      heads = c.in_ok-add_leaf.ensures.heads
          ∙ (ap (λ hs. hs ++ if_leaf node.head) c.loop-place.invariant.heads
          ∙ sym (filter-more is_leaf (λ n. n.head) c.args.terms.now.nodes c.loop-place.place node node (omega (arith, c.loop-place-test.true, c.len-place-end.ensures.len))
          (get_or_from_slice_get c.args.terms.now.nodes c.loop-place.place node node c.node.ensures)));
      have = c.in_ok-add_leaf.ensures.have;
    }
