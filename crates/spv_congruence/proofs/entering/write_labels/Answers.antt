use Rattle.std.proofs.Common.{◌+◌, ◌++◌, ◌∷◌, [], length, ap, sym, subst, ◌∙◌, arith, is_ok, if◌then◌else◌}
use Rattle.std.specs.Vec.{vec_len}
use Rattle.spv_congruence.specs.Graph.{id}
use Rattle.spv_term.specs.Arena.{AllBelow}
use Rattle.spv_congruence.proofs.Args.{below_at, label_more}
use Rattle.spv_congruence.proofs.entering.write_labels.Goals as goal

pub label-requires : goal.label-requires
label-requires c = below_at _ _ _ _ (subst (AllBelow c.args.classes.now.count) (sym c.as_slice-t-items.ensures) c.requires.args) c.loop-t-test.true

pub unwrap-requires : goal.unwrap-requires
unwrap-requires c = c.push.ensures.succeeds (let i = c.loop-t.invariant in let e = ap length c.as_slice-t-items.ensures in let t = c.loop-t-test.true in omega (arith, i.len, i.room, e, t, c.requires.room, c.clear.ensures.capacity))

pub loop-t-preserved : goal.loop-t-preserved
loop-t-preserved c =
    let i = c.loop-t.invariant in
    let e = c.push.ensures.items ∙ ap (λ r. if is_ok r then c.loop-t.out.items ++ c.label.result ∷ [] else c.loop-t.out.items) c.unwrap.ensures in
    let n = c.push.ensures.len ∙ ap (λ r. if is_ok r then vec_len c.loop-t.out + 1 else vec_len c.loop-t.out) c.unwrap.ensures in
    record {
      items = label_more c.args.classes.now.joins _ _ _ _ _ (id 0) c.loop-t-test.true i.items c.label.ensures e;
      len = omega (arith, n, i.len);
      room = omega (arith, i.room, c.push.ensures.capacity);
    }
