use Rattle.std.proofs.Common.{◌≡◌, ◌+◌, suc, length, refl, subst, sym, ap, arith}
use Rattle.spv_congruence.specs.Graph.{IsUpTo}
use Rattle.spv_congruence.specs.Keep.{Kept, graph}
use Rattle.spv_congruence.proofs.Goings.{goes_refl, goes_trans}
use Rattle.spv_congruence.proofs.Nexts.{next_room, rest_room, rest_labels, rest_graph}
use Rattle.spv_congruence.proofs.kept.Kept.enter_rest.Goals as goal

pub loop-place-init : goal.loop-place-init
loop-place-init c = record { fits = c.requires.fits; upto = c.requires.graph; goes = goes_refl _; labels_stay = λ u early. refl; from = omega arith; room = c.requires.room }

pub enter_next-requires-clause-within : goal.enter_next-requires-clause-within
enter_next-requires-clause-within c =
    let a = ap (λ (k : Kept). length k.added) c.loop-place.invariant.goes.is in
    let t = c.loop-place-test.true in
    omega (arith, a, t, c.terms-place-end.ensures)

pub enter_next-requires-clause-room : goal.enter_next-requires-clause-room
enter_next-requires-clause-room c = next_room c.loop-place.self c.loop-place.place c.loop-place.invariant.room

pub loop-place-preserved : goal.loop-place-preserved
loop-place-preserved c =
    let i = c.loop-place.invariant in
    let h = c.enter_next.ensures.next in
    let e : suc c.loop-place.place ≡ c.loop-place.place + 1 = omega arith in
    let f = i.from in
    record {
      fits = c.enter_next.ensures.fits;
      upto = subst (IsUpTo (graph c.enter_next.new.self)) e h.upto;
      goes = goes_trans _ _ _ i.goes h.goes;
      labels_stay = rest_labels c.args.self.now c.loop-place.self c.enter_next.new.self c.args.from c.loop-place.place i.from i.goes h i.labels_stay;
      from = omega (arith, f);
      room = rest_room c.loop-place.self c.enter_next.new.self c.loop-place.place _ (sym e) i.fits h (let a = ap (λ (k : Kept). length k.added) i.goes.is in let t = c.loop-place-test.true in omega (arith, a, t, c.terms-place-end.ensures)) i.room;
    }

pub returns-clause-rest : goal.returns-clause-rest
returns-clause-rest c =
    let i = c.loop-place.invariant in
    record { goes = i.goes; graph_is = rest_graph c.loop-place.self c.loop-place.place c.terms-place-end.result c.loop-place-test.false (let a = ap (λ (k : Kept). length k.added) i.goes.is in omega (arith, a, c.terms-place-end.ensures)) i.upto; labels_stay = i.labels_stay }
