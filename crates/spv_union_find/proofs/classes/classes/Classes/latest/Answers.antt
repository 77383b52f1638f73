use Rattle.std.proofs.Common.{◌≡◌, ◌≢◌, ◌-◌, ◌+◌, ◌<◌, ℕ, suc, take, refl, sym, ap, subst, ◌∙◌, arith, inl, inr, ◌⊎◌, length}
use Rattle.spv_union_find.specs.declared.classes.joins.Join.{Join}
use Rattle.spv_union_find.specs.classes.Classes as spec
use Rattle.spv_union_find.proofs.classes.Moments.{up_in, up_some, not_earlier, here_first, here_second, next_label, still_apart, latest_is}
use Rattle.spv_union_find.proofs.classes.classes.Classes.latest.Goals as goal

pub next_taken-place-requires-clause-first : goal.next_taken-place-requires-clause-first
next_taken-place-requires-clause-first c = up_in c.args.self.now.count c.args.self.now.joins c.law_joins.ensures c.args.x c.args.y c.loop-a.a c.loop-a.b c.loop-a.time c.loop-a.invariant.within c.loop-a.invariant.a_is c.loop-a.invariant.b_is c.loop-a-test.true c.args.x c.loop-a.a c.loop-a.invariant.a_is c.requires.first

pub next_taken-place-requires-clause-second : goal.next_taken-place-requires-clause-second
next_taken-place-requires-clause-second c = up_in c.args.self.now.count c.args.self.now.joins c.law_joins.ensures c.args.x c.args.y c.loop-a.a c.loop-a.b c.loop-a.time c.loop-a.invariant.within c.loop-a.invariant.a_is c.loop-a.invariant.b_is c.loop-a-test.true c.args.y c.loop-a.b c.loop-a.invariant.b_is c.requires.second

pub next_taken-place-requires-clause-some : goal.next_taken-place-requires-clause-some
next_taken-place-requires-clause-some c = up_some c.args.self.now.count c.args.self.now.joins c.law_joins.ensures c.args.x c.args.y c.loop-a.a c.loop-a.b c.loop-a.time c.loop-a.invariant.within c.loop-a.invariant.a_is c.loop-a.invariant.b_is c.loop-a-test.true c.requires.same

pub loop-a-smaller : goal.loop-a-smaller
loop-a-smaller c = let e = not_earlier c.args.self.now.count c.args.self.now.joins c.law_joins.ensures c.args.x c.args.y c.loop-a.a c.loop-a.b c.loop-a.time c.loop-a.invariant.within c.loop-a.invariant.a_is c.loop-a.invariant.b_is c.loop-a-test.true c.next_taken-place.result c.next_taken-place.ensures c.join_at-join.result c.join_at-join.ensures in let w = c.next_taken-place.ensures.within in omega (arith, e, w, c.after-time.ensures)

pub loop-a-preserved : goal.loop-a-preserved
loop-a-preserved c =
    let h = c.after-time.ensures in
    let f : c.after-time.result ≡ suc c.next_taken-place.result = omega (arith, h) in
    let g : c.next_taken-place.result ≡ c.after-time.result - 1 = omega (arith, h) in
    let w = c.next_taken-place.ensures.within in
    record {
      a_is = next_label c.args.self.now.count c.args.self.now.joins c.law_joins.ensures c.args.x c.args.y c.loop-a.a c.loop-a.b c.loop-a.time c.loop-a.invariant.within c.loop-a.invariant.a_is c.loop-a.invariant.b_is c.loop-a-test.true c.next_taken-place.result c.next_taken-place.ensures c.join_at-join.result c.join_at-join.ensures _ f c.args.x c.loop-a.a _ (here_first c.args.self.now.count c.args.self.now.joins c.law_joins.ensures c.args.x c.args.y c.loop-a.a c.loop-a.b c.loop-a.time c.loop-a.invariant.within c.loop-a.invariant.a_is c.loop-a.invariant.b_is c.loop-a-test.true c.next_taken-place.result c.next_taken-place.ensures c.join_at-join.result c.join_at-join.ensures) c.one_label-a.ensures;
      b_is = next_label c.args.self.now.count c.args.self.now.joins c.law_joins.ensures c.args.x c.args.y c.loop-a.a c.loop-a.b c.loop-a.time c.loop-a.invariant.within c.loop-a.invariant.a_is c.loop-a.invariant.b_is c.loop-a-test.true c.next_taken-place.result c.next_taken-place.ensures c.join_at-join.result c.join_at-join.ensures _ f c.args.y c.loop-a.b _ (here_second c.args.self.now.count c.args.self.now.joins c.law_joins.ensures c.args.x c.args.y c.loop-a.a c.loop-a.b c.loop-a.time c.loop-a.invariant.within c.loop-a.invariant.a_is c.loop-a.invariant.b_is c.loop-a-test.true c.next_taken-place.result c.next_taken-place.ensures c.join_at-join.result c.join_at-join.ensures) c.one_label-b.ensures;
      within = omega (arith, w, h);
      seen = inr (omega (arith, h), subst (λ (k : ℕ). spec.label (take k c.args.self.now.joins) c.args.x ≢ spec.label (take k c.args.self.now.joins) c.args.y) g (still_apart c.args.self.now.count c.args.self.now.joins c.law_joins.ensures c.args.x c.args.y c.loop-a.a c.loop-a.b c.loop-a.time c.loop-a.invariant.within c.loop-a.invariant.a_is c.loop-a.invariant.b_is c.loop-a-test.true c.next_taken-place.result c.next_taken-place.ensures c.join_at-join.result c.join_at-join.ensures));
    }

pub returns : goal.returns
returns c = latest_is c.args.self.now.joins c.args.x c.args.y c.loop-a.a c.loop-a.b c.loop-a.time c.loop-a.invariant.within c.loop-a.invariant.a_is c.loop-a.invariant.b_is c.loop-a-test.false c.requires.apart c.loop-a.invariant.seen
