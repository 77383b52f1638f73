use Rattle.std.proofs.Common.{[], ◌+◌, ◌-◌, take, map, sym, ◌∙◌, subst}
use Rattle.std.specs.List.{flat_map}
use Rattle.spv_schemas.specs.Instances.{instances_of}
use Rattle.spv_schemas.specs.Kinds.{kinds}
use Rattle.spv_term.specs.Arena.{tree}
use Rattle.spv_proof.specs.schema_facts.Instances.{Adds}
use Rattle.spv_proof.proofs.schema_facts.FirstTerms.{adds_both, kinds_there, next_kind}
use Rattle.spv_proof.proofs.schema_facts.listing.instances.Goals as goal
use Rattle.spv_proof.proofs.schema_facts.listing.instances.Goals.{in-Some+in_ok-add_kind, in_default}

pub loop-number-preserved : goal.loop-number-preserved
loop-number-preserved c =
    let a = c.args.terms.now in
    let n = c.loop-number.number in
    let used = c.args.used.now in
    elim c.match-kind_of.branch [
      | in-Some+in_ok-add_kind w ↦
          subst (λ v. Adds a [] v.items (flat_map (instances_of a.shapes a.decls (map (tree a) used)) (take (n + 1 - 1) kinds))) (sym w.found-is)
          (adds_both a [] c.loop-number.found.items w.add_kind.new.found.items _ _ _ c.loop-number.invariant w.in_ok-add_kind.ensures
          (next_kind a used c.in_ok-uses.uses.ids.items c.in_ok-uses.ensures.ids n w.in-Some.kind (sym w.in-Some.ensures)))
      | in_default w ↦ absurd (kinds_there n c.loop-number.auto.number c.loop-number-test.true (sym c.kind_of.ensures ∙ w.in_default.is))
    ]
