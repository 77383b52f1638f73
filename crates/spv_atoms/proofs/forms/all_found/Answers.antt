use Rattle.std.proofs.Common.{arith}
use Rattle.spv_atoms.proofs.Places.{listed_in, listed_behind, one_more_listed, one_more_length}
use Rattle.spv_atoms.proofs.forms.all_found.Goals as goal

pub found_at-requires-clause-t : goal.found_at-requires-clause-t
found_at-requires-clause-t c =
    listed_in c.args.terms.now c.args.order.now c.as_slice-t-items.result.now c.loop-t.t-index (record { 0 = 0 }) c.as_slice-t-items.ensures c.requires.order (omega (arith, c.loop-t-test.true))

pub found_at-requires-clause-arguments : goal.found_at-requires-clause-arguments
found_at-requires-clause-arguments c =
    listed_behind c.args.terms.now c.args.order.now c.as_slice-t-items.result.now c.loop-t.t-index (record { 0 = 0 }) c.as_slice-t-items.ensures (omega (arith, c.loop-t-test.true)) c.requires.behind
    c.loop-t.known.items c.as_slice.result.now c.as_slice.ensures.value c.loop-t.invariant.count

pub loop-t-preserved : goal.loop-t-preserved
loop-t-preserved c = record {
  count = one_more_length c.loop-t.known.items c.push.new.self.items c.loop-t.t-index c.in_ok-found.found c.loop-t.invariant.count c.in_ok-push.ensures.items;
  found = one_more_listed c.args.terms.now c.args.order.now c.as_slice-t-items.result.now c.loop-t.t-index (record { 0 = 0 }) c.as_slice-t-items.ensures (omega (arith, c.loop-t-test.true))
      c.loop-t.known.items c.push.new.self.items c.in_ok-found.found c.loop-t.invariant.count c.loop-t.invariant.found c.in_ok-found.ensures c.in_ok-push.ensures.items;
}
