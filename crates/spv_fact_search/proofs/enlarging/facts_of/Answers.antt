use Rattle.std.proofs.Common.{◌<◌, ◌+◌, drop, List, ◌∷◌, map, length, Option, IfSome, sym, ap, subst, ◌∙◌, Vec, Global}
use Rattle.std.proofs.lemmas.List.{drop_more}
use Rattle.spv_logic.specs.declared.conditions.TermId.{TermId}
use Rattle.spv_schemas.specs.Facts.{schema_fact}
use Rattle.spv_term.specs.Arena.{AllBelow, tree, trees_of}
use Rattle.spv_proof_rules.specs.Stops.{all_kept, layers_if}
use Rattle.spv_fact_search.proofs.Making.{Making, next-about, none-made, one-made}
use Rattle.spv_fact_search.proofs.enlarging.facts_of.Goals.{in-Some+in_ok-push, in_default}
use Rattle.spv_fact_search.proofs.enlarging.facts_of.Goals as goal

pub fact-requires : goal.fact-requires
fact-requires c =
    subst (AllBelow (length c.loop-instance.terms.nodes)) (sym c.as_slice-about.ensures)
    (next-about c.args.terms.now c.loop-instance.terms c.args.found.now c.loop-instance.made.items _ c.instance-item.result _
    (drop_more c.args.found.now c.loop-instance.instance-index c.instance-item.result c.loop-instance-test.true ∙ ap (λ y. y ∷ drop (c.loop-instance.instance-index + 1) c.args.found.now) (sym c.instance-item.is)) c.loop-instance.invariant)

pub loop-instance-preserved : goal.loop-instance-preserved
loop-instance-preserved c =
    let a = c.args.terms.now in
    let found = c.args.found.now in
    let k = c.loop-instance.instance-index in
    let made = c.loop-instance.made.items in
    let x = c.instance-item.result in
    let rest = drop_more found k x c.loop-instance-test.true ∙ ap (λ y. y ∷ drop (k + 1) found) (sym c.instance-item.is) in
    let said = c.in_ok-t.ensures.fact ∙ ap (λ (ts : List TermId). schema_fact c.loop-instance.terms.shapes c.loop-instance.terms.decls x.kind (map (tree c.loop-instance.terms) ts) x.field) c.as_slice-about.ensures in
    let gained = ap (λ (ts : List TermId). all_kept c.loop-instance.terms.most (trees_of c.loop-instance.terms.nodes)
    (layers_if (schema_fact c.loop-instance.terms.shapes c.loop-instance.terms.decls x.kind (map (tree c.loop-instance.terms) ts) x.field))) (sym c.as_slice-about.ensures) ∙ c.in_ok-t.ensures.all in
    elim c.match-branch-2.branch [
      | in-Some+in_ok-push w ↦
          subst (λ (ts : List TermId). Making a c.fact.new.terms found ts (drop (k + 1) found)) (sym (ap (λ (v : Vec TermId Global). v.items) w.made-is ∙ w.in_ok-push.ensures))
          (one-made a c.loop-instance.terms found made _ x _ rest c.loop-instance.invariant c.fact.new.terms c.in_ok-t.ensures.grows c.in_ok-t.field-0 said gained w.in-Some.t w.in-Some.is
          (subst (λ (o : Option TermId). IfSome o (λ t. t.0 < length c.fact.new.terms.nodes)) w.in-Some.is c.in_ok-t.ensures.in_range))
      | in_default w ↦
          subst (λ (ts : List TermId). Making a c.fact.new.terms found ts (drop (k + 1) found)) (sym (ap (λ (v : Vec TermId Global). v.items) w.made-is))
          (none-made a c.loop-instance.terms found made _ x _ rest c.loop-instance.invariant c.fact.new.terms c.in_ok-t.ensures.grows c.in_ok-t.field-0 said gained w.in_default.is)
    ]
