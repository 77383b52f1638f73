use Rattle.std.proofs.Common.{arith}
use Rattle.std.specs.Prelude.{false}
use Rattle.std.proofs.lemmas.Option.{slice_get-get_or}
use Rattle.spv_congruence.specs.Graph.{label_of}
use Rattle.spv_branch_theory.proofs.model_construction.FirstLemmas.{one_more}
use Rattle.spv_branch_theory.proofs.model_construction.NumberLemmas.{node_at, flag_there}
use Rattle.spv_branch_theory.proofs.model_construction.firsts.firsts.Goals as goal

pub first_of-requires : goal.first_of-requires
first_of-requires c = record {
  node = λ is. node_at c.args.graph.now.nodes c.args.ids.now c.args.flags.now c.loop-place.place (record { 0 = 0 }) false c.requires.nodes (omega (arith, c.loop-place-test.true)) c.requires.count is;
}

pub loop-place-preserved : goal.loop-place-preserved
loop-place-preserved c =
    one_more (label_of c.args.graph.now.joins) c.args.ids.now c.args.flags.now c.loop-place.place _ (slice_get-get_or c.args.ids.now c.loop-place.place (record { 0 = 0 }) (omega (arith, c.loop-place-test.true))) c.loop-place.seen
    c.loop-place.places.items c.loop-place.invariant _ (flag_there c.args.flags.now c.args.ids.now c.loop-place.place false (omega (arith, c.loop-place-test.true)) c.requires.count) c.in_ok-first.first c.first_of.new.seen c.push.new.places.items
    c.in_ok-first.ensures.flagged c.in_ok-first.ensures.other c.in_ok-push.ensures
