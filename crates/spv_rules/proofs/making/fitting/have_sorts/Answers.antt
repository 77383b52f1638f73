use Rattle.std.proofs.Common.{sym, ◌∙◌, ap, arith, ◌<◌, length, map}
use Rattle.std.proofs.lemmas.List.{drop_more, length-map}
use Rattle.spv_logic.specs.Terms.{sort_eq}
use Rattle.spv_term.specs.Arena.{tree}
use Rattle.spv_term.specs.substitution.Images.{head_at}
use Rattle.spv_logic.specs.declared.conditions.TermId.{TermId}
use Rattle.spv_rules.proofs.Placed.{too_many}
use Rattle.spv_rules.proofs.making.InstanceLemmas.{sorts-fail, sorts-passed, value-there, values-rest}
use Rattle.spv_rules.proofs.making.fitting.have_sorts.Goals as goal

pub returns-then-variables-values : goal.returns-then-variables-values
returns-then-variables-values c =
    sym (too_many c.args.terms.now.shapes c.args.terms.now.decls (map (head_at c.args.from.now) c.args.variables.now) (map (tree c.args.terms.now) c.args.values.now)
    (λ e. omega (arith, c.if-variables-values.true, e, length-map c.args.variables.now (head_at c.args.from.now), length-map c.args.values.now (tree c.args.terms.now))))

pub returns-then-not-same_sort : goal.returns-then-not-same_sort
returns-then-not-same_sort c =
    let d : TermId = record { 0 = 0 } in
    let same = c.if-variables-values.false in
    let test = c.loop-k-test.true in
    let there : c.loop-k.k < length c.args.values.now = omega (arith, same, test) in
    let last = drop_more c.args.values.now c.loop-k.k d there in
    let told = sym (ap (λ (s : _). sort_eq s c.sort.result) c.variable_sort.ensures) ∙ (sym c.same_sort.ensures ∙ c.if-not-same_sort.true) in
    sym (sorts-fail c.args.from.now c.args.terms.now c.law_arena.ensures c.law_arena-2.ensures _ _ _ _ _ _ (drop_more c.args.variables.now c.loop-k.k d test) last c.node.result.now c.node.ensures
    (value-there _ _ _ _ last c.loop-k.invariant.values_in) (ap (sort_eq _) (sym c.sort.ensures) ∙ told)) ∙ c.loop-k.invariant.same

pub loop-k-preserved : goal.loop-k-preserved
loop-k-preserved c =
    let d : TermId = record { 0 = 0 } in
    let same = c.if-variables-values.false in
    let test = c.loop-k-test.true in
    let there : c.loop-k.k < length c.args.values.now = omega (arith, same, test) in
    let last = drop_more c.args.values.now c.loop-k.k d there in
    let told = sym (ap (λ (s : _). sort_eq s c.sort.result) c.variable_sort.ensures) ∙ (sym c.same_sort.ensures ∙ c.if-not-same_sort.false) in
    record {
      variables_in = values-rest _ _ _ _ (drop_more c.args.variables.now c.loop-k.k d test) c.loop-k.invariant.variables_in;
      values_in = values-rest _ _ _ _ last c.loop-k.invariant.values_in;
      same = sym (sorts-passed c.args.from.now c.args.terms.now c.law_arena.ensures c.law_arena-2.ensures _ _ _ _ _ _ (drop_more c.args.variables.now c.loop-k.k d test) last c.node.result.now c.node.ensures
          (value-there _ _ _ _ last c.loop-k.invariant.values_in) (ap (sort_eq _) (sym c.sort.ensures) ∙ told)) ∙ c.loop-k.invariant.same;
    }
