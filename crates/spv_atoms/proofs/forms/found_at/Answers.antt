use Rattle.std.proofs.Common.{◌≡◌, [], length, refl, sym, ◌∙◌, ap, arith}
use Rattle.spv_frac.specs.Range.{fits}
use Rattle.spv_atoms.specs.declared.forms.Formed.TheVariants.{Narrow}
use Rattle.spv_atoms.proofs.Values.{number-in-arena}
use Rattle.spv_atoms.proofs.Places.{if_ok, number-fits-here, number_found, alone_other, alone_few, left_ready, right_ready, sum_found}
use Rattle.spv_atoms.proofs.forms.found_at.Goals as goal

pub number-requires : goal.number-requires
number-requires c =
    ap fits (number-in-arena c.args.terms.now c.law_arena.ensures c.args.t c.node-node.result.now c.in-Num.value c.node-node.ensures c.in-Num.is)
    ∙ number-fits-here c.args.terms.now c.law_arena.ensures c.args.t c.node-node.result.now c.in-Num.value c.node-node.ensures c.in-Num.is

pub returns-in-Num : goal.returns-in-Num
returns-in-Num c =
    number_found c.args.terms.now c.law_arena.ensures c.args.t c.node-node.result.now c.in-Num.value c.node-node.ensures c.in-Num.is _ refl
    (ap Narrow (c.number.ensures ∙ ap (λ z. record { parts = []; constant = z }) (number-in-arena c.args.terms.now c.law_arena.ensures c.args.t c.node-node.result.now c.in-Num.value c.node-node.ensures c.in-Num.is)))

pub returns-then-not-is_sum_head : goal.returns-then-not-is_sum_head
returns-then-not-is_sum_head c =
    if_ok c.found_alone.result _ _ c.found_alone.ensures
    (λ found is. alone_other c.args.terms.now c.law_arena.ensures c.args.t c.node-node.result.now c.requires.t c.node-node.ensures found is c.in_default.not-Num
    (sym c.is_sum_head.ensures ∙ c.if-not-is_sum_head.true))

pub returns-then-args-ne2 : goal.returns-then-args-ne2
returns-then-args-ne2 c =
    if_ok c.found_alone-then-args-ne2.result _ _ c.found_alone-then-args-ne2.ensures
    (λ found is. alone_few c.args.terms.now c.law_arena.ensures c.args.t c.node-node.result.now c.requires.t c.node-node.ensures found is (sym c.is_sum_head.ensures ∙ c.if-not-is_sum_head.false)
    c.as_slice-args.result.now c.as_slice-args.ensures (λ two. omega (arith, c.if-args-ne2.true, two)))

pub found_of-left-requires : goal.found_of-left-requires
found_of-left-requires c =
    let two : length c.as_slice-args.result.now ≡ 2 = omega (arith, c.if-args-ne2.false) in
    left_ready c.args.terms.now c.law_arena.ensures c.args.t c.node-node.result.now c.requires.t c.node-node.ensures c.args.order.now c.args.known.now c.as_slice-args.result.now c.as_slice-args.ensures two
    (record { 0 = 0 }) (record { 0 = 0 }) (sym c.is_sum_head.ensures ∙ c.if-not-is_sum_head.false) c.requires.arguments

pub found_of-right-requires : goal.found_of-right-requires
found_of-right-requires c =
    let two : length c.as_slice-args.result.now ≡ 2 = omega (arith, c.if-args-ne2.false) in
    right_ready c.args.terms.now c.law_arena.ensures c.args.t c.node-node.result.now c.requires.t c.node-node.ensures c.args.order.now c.args.known.now c.as_slice-args.result.now c.as_slice-args.ensures two
    (record { 0 = 0 }) (record { 0 = 0 }) (sym c.is_sum_head.ensures ∙ c.if-not-is_sum_head.false) c.requires.arguments

pub returns : goal.returns
returns c =
    let two : length c.as_slice-args.result.now ≡ 2 = omega (arith, c.if-args-ne2.false) in
    if_ok c.pair_found.result _ _ c.pair_found.ensures
    (λ found is. sum_found c.args.terms.now c.law_arena.ensures c.args.t c.node-node.result.now c.requires.t c.node-node.ensures c.args.order.now c.args.known.now c.as_slice-args.result.now c.as_slice-args.ensures two
    (record { 0 = 0 }) (record { 0 = 0 }) c.found_of-left.result.now c.found_of-right.result.now found c.requires.known c.found_of-left.ensures c.found_of-right.ensures is)
