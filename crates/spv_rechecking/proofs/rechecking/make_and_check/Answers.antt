use Rattle.std.proofs.Common.{Err, [], sym, ap, ◌∙◌}
use Rattle.spv_term.proofs.ArenaLemmas.{Extends-trans}
use Rattle.spv_listing_values.specs.Places.{trees}
use Rattle.spv_rules.specs.RuleSets.{rules_in}
use Rattle.spv_search_terms.proofs.condition_copy.Exits.{if_ok, on_ok}
use Rattle.spv_verdicts.specs.declared.answers.verdicts.Limit.TheVariants as limit
use Rattle.spv_verdicts.specs.declared.answers.verdicts.Verdict.TheVariants as verdict
use Rattle.spv_proof.proofs.checker.Staying.{condition-Extends}
use Rattle.spv_rechecking.proofs.MadeLemmas.{images_stay, found_stops, found_made}
use Rattle.spv_rechecking.proofs.rechecking.make_and_check.Goals as goal

pub check_with-requires-clause-condition : goal.check_with-requires-clause-condition
check_with-requires-clause-condition c = condition-Extends c.make_all.ensures.grows c.args.condition.now c.requires.condition

pub check_with-requires-clause-shapes : goal.check_with-requires-clause-shapes
check_with-requires-clause-shapes c = c.requires.shapes ∙ sym c.make_all.ensures.grows.shapes

pub check_with-requires-clause-decls : goal.check_with-requires-clause-decls
check_with-requires-clause-decls c = c.requires.decls ∙ sym c.make_all.ensures.grows.decls

pub check_with-requires-clause-images : goal.check_with-requires-clause-images
check_with-requires-clause-images c =
    images_stay c.args.names.now c.args.titles.now (rules_in c.args.rules.now) c.args.leaves.now c.args.terms.now c.args.condition.now c.requires.condition c.requires.terms (trees c.args.texts.now) c.make_all.new.terms c.make_all.ensures.grows
    c.in-Ok.images.items c.as_slice.result.now c.as_slice.ensures.value c.in-Ok.ensures.images

pub returns-in-Ok-clause-found : goal.returns-in-Ok-clause-found
returns-in-Ok-clause-found c =
    if_ok c.check_with.result _ _ c.check_with.ensures.judged
    (λ found judged header same.
    found_made c.args.names.now c.args.titles.now (rules_in c.args.rules.now) c.args.leaves.now c.args.terms.now c.args.condition.now c.requires.condition c.requires.terms c.requires.leaves c.args.texts.now c.args.claim.now c.requires.entry
    c.requires.proof c.args.heads.now c.requires.heads header same c.make_all.new.terms c.law_arena.ensures c.in-Ok.ensures.gains c.check_with.new.terms found judged)

pub returns-in-Ok-clause-grows : goal.returns-in-Ok-clause-grows
returns-in-Ok-clause-grows c = on_ok c.check_with.result _ _ c.check_with.ensures.grows (λ grows. Extends-trans c.make_all.ensures.grows grows)

pub returns-in-Err-Size-clause-found : goal.returns-in-Err-Size-clause-found
returns-in-Err-Size-clause-found c =
    λ header same.
    found_stops c.args.names.now c.args.titles.now (rules_in c.args.rules.now) c.args.leaves.now c.args.terms.now c.args.condition.now c.requires.condition c.requires.terms c.requires.leaves c.args.texts.now c.args.claim.now c.requires.entry
    c.requires.proof c.args.heads.now c.requires.heads header same (c.make_all.ensures.size (c.in-Err-Size.is ∙ ap Err c.in-Err-Size.field-0-is)) c.make_all.new.terms c.too_many.result
    (c.too_many.ensures ∙ ap (λ n. verdict.GaveUp [] (limit.Terms n)) (c.most.ensures ∙ c.make_all.ensures.grows.most))
