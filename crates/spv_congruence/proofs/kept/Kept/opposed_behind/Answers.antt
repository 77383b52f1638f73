use Rattle.std.proofs.Common.{List, Option, slice_get, ap, sym, ◌∙◌}
use Rattle.spv_term.specs.declared.nodes.Node.{Node}
use Rattle.spv_congruence.specs.Graph.{HasNode}
use Rattle.spv_congruence.specs.Keep.{Kept}
use Rattle.spv_congruence.specs.Rings.{comparable_with, first_behind, opposed_to}
use Rattle.spv_congruence.proofs.ClashLemmas.{opposed_node, opposed_clashes, agrees_behind}
use Rattle.spv_congruence.proofs.kept.Kept.opposed_behind.Goals as goal

pub returns-then-is_opposed-clause-there : goal.returns-then-is_opposed-clause-there
returns-then-is_opposed-clause-there c =
    let nodes = c.as_slice.ensures.value ∙ ap (λ (k : Kept). k.nodes) c.self.view_is in
    let is : HasNode c.args.self.now.nodes c.args.s c.node_of.result.now = ap (λ (ns : List (Option Node)). slice_get ns c.args.s.0) (sym nodes) ∙ c.node_of.ensures in
    opposed_node c.args.self.now c.in_ok-x.x c.node_of.result.now.head
    (ap (λ (ns : List (Option Node)). opposed_to c.node_of.result.now.head (slice_get ns c.in_ok-x.x)) (sym (c.as_slice-2.ensures.value ∙ ap (λ (k : Kept). k.nodes) c.self.view_is)) ∙ (sym c.is_opposed.ensures ∙ c.if-is_opposed.true))

pub returns-then-is_opposed-clause-some : goal.returns-then-is_opposed-clause-some
returns-then-is_opposed-clause-some c =
    let nodes = c.as_slice.ensures.value ∙ ap (λ (k : Kept). k.nodes) c.self.view_is in
    let is : HasNode c.args.self.now.nodes c.args.s c.node_of.result.now = ap (λ (ns : List (Option Node)). slice_get ns c.args.s.0) (sym nodes) ∙ c.node_of.ensures in
    opposed_clashes c.args.self.now c.args.self.now.classes.count c.law_joins.ensures c.args.s c.node_of.result.now is
    (λ x. comparable_with c.node_of.result.now.head (slice_get c.args.self.now.nodes x)) c.class_size.result c.in_ok-x.x
    (sym (sym c.in_ok-x.was ∙ c.next_comparable.ensures))
    (ap (λ (ns : List (Option Node)). opposed_to c.node_of.result.now.head (slice_get ns c.in_ok-x.x)) (sym (c.as_slice-2.ensures.value ∙ ap (λ (k : Kept). k.nodes) c.self.view_is)) ∙ (sym c.is_opposed.ensures ∙ c.if-is_opposed.true))

pub returns-clause-none : goal.returns-clause-none
returns-clause-none c =
    let nodes = c.as_slice.ensures.value ∙ ap (λ (k : Kept). k.nodes) c.self.view_is in
    let is : HasNode c.args.self.now.nodes c.args.s c.node_of.result.now = ap (λ (ns : List (Option Node)). slice_get ns c.args.s.0) (sym nodes) ∙ c.node_of.ensures in
    agrees_behind c.args.self.now c.args.s c.node_of.result.now is c.in_ok-x.x
    (ap (first_behind (λ x. comparable_with c.node_of.result.now.head (slice_get c.args.self.now.nodes x)) c.args.self.now.classes.joins c.args.s.0) (sym c.class_size.ensures) ∙ sym (sym c.in_ok-x.was ∙ c.next_comparable.ensures))
    (ap (λ (ns : List (Option Node)). opposed_to c.node_of.result.now.head (slice_get ns c.in_ok-x.x)) (sym (c.as_slice-2.ensures.value ∙ ap (λ (k : Kept). k.nodes) c.self.view_is)) ∙ (sym c.is_opposed.ensures ∙ c.if-is_opposed.false))
