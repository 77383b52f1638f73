use Rattle.std.proofs.Common.{length, sym, ap, ◌∙◌, subst, map}
use Rattle.spv_term.specs.Arena.{AllBelow, tree}
use Rattle.spv_proof.specs.schema_facts.Instances.{instance}
use Rattle.spv_proof.proofs.schema_facts.FirstTerms.{adds_one}
use Rattle.spv_proof.proofs.schema_facts.listing.add.Goals as goal

pub returns : goal.returns
returns c =
    let a = c.args.terms.now in
    let same = c.from_vec-about.ensures ∙ c.in_ok-from_slice.ensures.items in
    adds_one a c.args.found.now.items c.push.new.self.items (record { kind = c.args.kind; about = c.from_vec-about.result; field = c.args.field }) (instance c.args.kind (map (tree a) c.args.ts.now) c.args.field)
    c.in_ok-push.ensures.items (ap (λ ts. instance c.args.kind (map (tree a) ts) c.args.field) same) (sym c.has_fact.ensures ∙ c.if-not-has_fact.false) (subst (AllBelow (length a.nodes)) (sym same) c.requires)
