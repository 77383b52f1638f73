use Rattle.std.proofs.Common.{sym, ◌∙◌, arith, ◌<◌, length}
use Rattle.std.proofs.lemmas.List.{drop_more}
use Rattle.spv_logic.specs.declared.conditions.TermId.{TermId}
use Rattle.spv_rules.proofs.making.InstanceLemmas.{id_for-found, id_for-passed, values-rest}
use Rattle.spv_rules.proofs.making.sketching.id_for.Goals as goal

pub returns-then-same_head : goal.returns-then-same_head
returns-then-same_head c =
    let d : TermId = record { 0 = 0 } in
    let same = c.requires.lengths in
    let test = c.loop-k-test.true in
    let there : c.loop-k.k < length c.args.values.now = omega (arith, same, test) in
    sym (id_for-found c.args.from.now c.law_arena.ensures c.args.head _ _ _ _ _ _ (drop_more c.args.variables.now c.loop-k.k d test) (drop_more c.args.values.now c.loop-k.k d there) c.node.result.now c.node.ensures (sym c.same_head.ensures ∙ c.if-same_head.true)) ∙ c.loop-k.invariant.same

pub loop-k-preserved : goal.loop-k-preserved
loop-k-preserved c =
    let d : TermId = record { 0 = 0 } in
    let same = c.requires.lengths in
    let test = c.loop-k-test.true in
    let there : c.loop-k.k < length c.args.values.now = omega (arith, same, test) in
    record {
      variables_in = values-rest _ _ _ _ (drop_more c.args.variables.now c.loop-k.k d test) c.loop-k.invariant.variables_in;
      same = sym (id_for-passed c.args.from.now c.law_arena.ensures c.args.head _ _ _ _ _ _ (drop_more c.args.variables.now c.loop-k.k d test) (drop_more c.args.values.now c.loop-k.k d there) c.node.result.now c.node.ensures (sym c.same_head.ensures ∙ c.if-same_head.false)) ∙ c.loop-k.invariant.same;
    }
