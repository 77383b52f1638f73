use Rattle.std.proofs.Common.{sym, ◌∙◌, subst}
use Rattle.spv_logic.proofs.Equality.{head_eq-true}
use Rattle.spv_proof.specs.declared.schema_facts.uses.Subject.TheVariants.{Class}
use Rattle.spv_proof.specs.schema_facts.Uses.{ArePartners}
use Rattle.spv_proof.proofs.schema_facts.Partnering.{class_else, no_class, class_partners, differs}
use Rattle.spv_proof.proofs.schema_facts.uses.Uses.pointers.Goals as goal

pub returns-then-not-same_head : goal.returns-then-not-same_head
returns-then-not-same_head c =
    class_else c.args.terms.now c.law_arena.ensures c.args.self.now.ids.items c.requires.uses.ids c.args.class c.node.result.now c.node.ensures c.requires.class c.args.head
    (differs c.node.result.now.head c.args.head (sym c.same_head.ensures ∙ c.if-not-same_head.true))

pub returns-in-Class : goal.returns-in-Class
returns-in-Class c =
    subst (ArePartners c.args.terms.now c.args.self.now.ids.items (Class c.args.head) c.args.class) (sym c.get.ensures)
    (class_partners c.args.terms.now c.law_arena.ensures c.args.self.now.ids.items c.requires.uses.ids c.args.class c.node.result.now c.node.ensures c.requires.class c.args.head c.args.self.now.pointers c.requires.uses.pointers c.in-Class.t (sym c.sort.ensures ∙ c.in-Class.is))

pub returns-in_default : goal.returns-in_default
returns-in_default c =
    no_class c.args.terms.now c.law_arena.ensures c.args.self.now.ids.items c.requires.uses.ids c.args.class c.node.result.now c.node.ensures c.requires.class c.args.head (head_eq-true c.node.result.now.head c.args.head (sym c.same_head.ensures ∙ c.if-not-same_head.false))
    (λ k e. c.in_default.not-Class k (c.sort.ensures ∙ e))
