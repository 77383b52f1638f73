use Rattle.std.proofs.Common.{◌≡◌, length, sym, ◌∙◌, subst}
use Rattle.spv_proof.specs.schema_facts.Relations.{Tells}
use Rattle.spv_proof.proofs.schema_facts.Relating.{not_divided, no_divisor, divisor_told}
use Rattle.spv_proof.proofs.schema_facts.relations.divided_by.Goals as goal

pub returns-then-not-is_division : goal.returns-then-not-is_division
returns-then-not-is_division c =
    not_divided c.args.terms.now c.law_arena.ensures c.args.u c.node-node.result.now c.node-node.ensures c.args.relation c.requires.relation (sym c.is_division.ensures ∙ c.if-not-is_division.true)

pub returns-in_err-dividend : goal.returns-in_err-dividend
returns-in_err-dividend c =
    subst (Tells c.args.terms.now c.args.relation c.args.u) (sym c.from_residual.ensures)
    (no_divisor c.args.terms.now c.law_arena.ensures c.args.u c.node-node.result.now c.node-node.ensures c.args.relation c.requires.relation
    (subst (λ ts. length ts ≡ 2 → ⊥) c.as_slice.ensures c.in_err-dividend.ensures.missing))

pub returns : goal.returns
returns c =
    divisor_told c.args.terms.now c.law_arena.ensures c.args.u c.node-node.result.now c.node-node.ensures c.args.relation c.requires.relation c.in_ok-dividend.dividend c.in_ok-dividend.member
    (sym c.as_slice.ensures ∙ c.in_ok-dividend.ensures.there) (sym c.is_division.ensures ∙ c.if-not-is_division.false)
