use Rattle.std.proofs.Common.{◌≡◌, length, sym, ◌∙◌, subst}
use Rattle.spv_proof.specs.declared.schema_facts.relations.Relation.TheVariants.{Lists}
use Rattle.spv_proof.specs.schema_facts.Relations.{Tells}
use Rattle.spv_proof.proofs.schema_facts.Relating.{not_apart, no_list, list_told}
use Rattle.spv_proof.proofs.schema_facts.relations.taken_apart.Goals as goal

pub returns-then-not-is_about_list : goal.returns-then-not-is_about_list
returns-then-not-is_about_list c =
    not_apart c.args.terms.now c.law_arena.ensures c.args.u c.node-node.result.now c.node-node.ensures (sym c.is_about_list.ensures ∙ c.if-not-is_about_list.true)

pub returns-in_err-member : goal.returns-in_err-member
returns-in_err-member c =
    subst (Tells c.args.terms.now Lists c.args.u) (sym c.from_residual.ensures)
    (no_list c.args.terms.now c.law_arena.ensures c.args.u c.node-node.result.now c.node-node.ensures (subst (λ ts. length ts ≡ 1 → ⊥) c.as_slice.ensures c.in_err-member.ensures.missing))

pub returns : goal.returns
returns c =
    list_told c.args.terms.now c.law_arena.ensures c.args.u c.node-node.result.now c.node-node.ensures c.in_ok-member.member (sym c.as_slice.ensures ∙ c.in_ok-member.ensures.there)
    (sym c.is_about_list.ensures ∙ c.if-not-is_about_list.false)
