use Rattle.std.proofs.Common.{◌<◌, length, sym, ◌∙◌, subst}
use Rattle.spv_proof.specs.declared.schema_facts.relations.Relation.TheVariants.{Pointers}
use Rattle.spv_proof.specs.schema_facts.Relations.{Tells}
use Rattle.spv_proof.proofs.schema_facts.Relating.{not_pointed, no_pointer, first_in, second_in, pointer_told, member_told}
use Rattle.spv_proof.proofs.schema_facts.relations.pointed.Goals as goal

pub returns-in_err-class : goal.returns-in_err-class
returns-in_err-class c =
    subst (Tells c.args.terms.now Pointers c.args.u) (sym c.from_residual.ensures)
    (no_pointer c.args.terms.now c.law_arena.ensures c.args.u c.node-node.result.now c.node-node.ensures (subst (λ ts. length ts < 2) c.as_slice.ensures c.in_err-class.ensures.missing))

pub class_link-requires : goal.class_link-requires
class_link-requires c =
    first_in c.args.terms.now c.law_arena.ensures c.args.u c.node-node.result.now c.node-node.ensures c.in_ok-class.class c.in_ok-class.pointer _ (sym c.as_slice.ensures ∙ c.in_ok-class.ensures.there)

pub returns-then-is_about_class : goal.returns-then-is_about_class
returns-then-is_about_class c =
    pointer_told c.args.terms.now c.law_arena.ensures c.args.u c.node-node.result.now c.node-node.ensures c.in_ok-class.class c.in_ok-class.pointer _ (sym c.as_slice.ensures ∙ c.in_ok-class.ensures.there)
    (sym c.is_about_class.ensures ∙ c.if-is_about_class.true) c.class_link.result c.class_link.ensures

pub returns-in_err-pointer : goal.returns-in_err-pointer
returns-in_err-pointer c =
    subst (Tells c.args.terms.now Pointers c.args.u) (sym c.from_residual-in_err-pointer.ensures)
    (no_pointer c.args.terms.now c.law_arena.ensures c.args.u c.node-node.result.now c.node-node.ensures (subst (λ ts. length ts < 2) c.as_slice-then-is_membership.ensures c.in_err-pointer.ensures.missing))

pub class_link-requires-then-is_membership : goal.class_link-requires-then-is_membership
class_link-requires-then-is_membership c =
    second_in c.args.terms.now c.law_arena.ensures c.args.u c.node-node.result.now c.node-node.ensures c.in_ok-pointer.pointer c.in_ok-pointer.class _ (sym c.as_slice-then-is_membership.ensures ∙ c.in_ok-pointer.ensures.there)

pub returns-then-is_membership : goal.returns-then-is_membership
returns-then-is_membership c =
    member_told c.args.terms.now c.law_arena.ensures c.args.u c.node-node.result.now c.node-node.ensures c.in_ok-pointer.pointer c.in_ok-pointer.class _ (sym c.as_slice-then-is_membership.ensures ∙ c.in_ok-pointer.ensures.there)
    (sym c.is_membership.ensures ∙ c.if-is_membership.true) c.class_link-then-is_membership.result c.class_link-then-is_membership.ensures

pub returns : goal.returns
returns c =
    not_pointed c.args.terms.now c.law_arena.ensures c.args.u c.node-node.result.now c.node-node.ensures (sym c.is_about_class.ensures ∙ c.if-is_about_class.false) (sym c.is_membership.ensures ∙ c.if-is_membership.false)
