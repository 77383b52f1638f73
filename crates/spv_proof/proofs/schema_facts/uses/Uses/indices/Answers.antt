use Rattle.std.proofs.Common.{sym, ◌∙◌, subst}
use Rattle.spv_logic.specs.declared.operators.Head.TheVariants.{Store}
use Rattle.spv_logic.proofs.Equality.{head_eq-true}
use Rattle.spv_proof.specs.declared.schema_facts.uses.Subject.TheVariants.{Array}
use Rattle.spv_proof.specs.schema_facts.Uses.{ArePartners}
use Rattle.spv_proof.proofs.schema_facts.Partnering.{array_else, array_sort, array_partners, differs}
use Rattle.spv_proof.proofs.schema_facts.uses.Uses.indices.Goals as goal

pub returns-then-not-same_head : goal.returns-then-not-same_head
returns-then-not-same_head c =
    array_else c.args.terms.now c.law_arena.ensures c.args.self.now.ids.items c.requires.uses.ids c.args.array c.node.result.now c.node.ensures c.requires.array
    (differs c.node.result.now.head Store (sym c.same_head.ensures ∙ c.if-not-same_head.true))

pub returns-in-Whole : goal.returns-in-Whole
returns-in-Whole c =
    subst (ArePartners c.args.terms.now c.args.self.now.ids.items Array c.args.array) (sym c.get.ensures)
    (array_partners c.args.terms.now c.law_arena.ensures c.args.self.now.ids.items c.requires.uses.ids c.args.array c.node.result.now c.node.ensures c.requires.array c.args.self.now.indices c.requires.uses.indices c.in-Whole.t (sym c.sort.ensures ∙ c.in-Whole.is))

pub returns-in_default : goal.returns-in_default
returns-in_default c =
    let k = array_sort c.args.terms.now c.law_arena.ensures c.args.self.now.ids.items c.requires.uses.ids c.args.array c.node.result.now c.node.ensures c.requires.array (head_eq-true c.node.result.now.head Store (sym c.same_head.ensures ∙ c.if-not-same_head.false)) in
    absurd (c.in_default.not-Whole k.0 (c.sort.ensures ∙ k.1))
