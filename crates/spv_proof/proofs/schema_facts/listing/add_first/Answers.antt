use Rattle.std.proofs.Common.{sym, ap, ◌∙◌, subst, OnOk, [], ◌∷◌, map, filter}
use Rattle.spv_schemas.specs.declared.kinds.SchemaKind.TheVariants.{FieldPutOther}
use Rattle.spv_schemas.specs.Instances.{names_in}
use Rattle.spv_term.specs.Arena.{tree}
use Rattle.spv_term.proofs.ArenaLemmas.{term_sort-tree}
use Rattle.spv_proof.specs.schema_facts.Instances.{Adds, instance, is_instance}
use Rattle.spv_proof.proofs.schema_facts.FirstTerms.{fields_at, pairs_at, paired_else}
use Rattle.spv_proof.proofs.schema_facts.listing.add_first.Goals as goal

pub returns-in-Field : goal.returns-in-Field
returns-in-Field c =
    let a = c.args.terms.now in
    let s = c.args.first in
    subst (λ more. OnOk c.add_fields.result (Adds a c.args.found.now.items c.add_fields.new.found.items more))
    (ap (λ o. filter (is_instance a) (map (instance FieldPutOther (tree a s ∷ [])) (names_in a.shapes o))) (sym (term_sort-tree a c.law_arena.ensures (tree a s) s c.requires.first (λ _. tree a s)))
    ∙ fields_at a (map (tree a) c.args.uses.now.ids.items) (tree a s) c.args.kind (sym c.subject_for-subject.ensures ∙ c.in-Field.is))
    c.add_fields.ensures

pub returns-in_default : goal.returns-in_default
returns-in_default c =
    let a = c.args.terms.now in
    subst (λ more. OnOk c.add_pairs.result (Adds a c.args.found.now.items c.add_pairs.new.found.items more))
    (pairs_at a c.args.uses.now.ids.items c.args.kind c.args.first c.subject_for-subject.result (sym c.subject_for-subject.ensures)
    (paired_else c.subject_for-subject.result c.in_default.not-Any c.in_default.not-Field c.in_default.not-TakenApart) c.partners-links.result.now c.partners-links.ensures)
    c.add_pairs.ensures
