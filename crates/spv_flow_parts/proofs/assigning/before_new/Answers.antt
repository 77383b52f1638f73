use Rattle.std.proofs.Common.{◌≡◌, List, [], ◌∷◌, Some, true, ap, refl, sym, subst, ◌∙◌, arith}
use Rattle.spv_logic.specs.declared.types.Shape.{Shape}
use Rattle.spv_logic.specs.declared.types.Sort.TheVariants.{Ptr}
use Rattle.spv_logic.specs.Shapes.{sort_of_type}
use Rattle.spv_logic.specs.Sorts.{sort_in_range}
use Rattle.spv_term.proofs.ArenaLemmas.{Extends-trans, length-Extends, sort_at-Extends, tree-Extends}
use Rattle.spv_program.specs.Programs.{Program, routine_in}
use Rattle.spv_program.specs.ExpressionTerms.{placed}
use Rattle.spv_program.specs.Supplies.{Fresh, fresh_variable}
use Rattle.spv_program.specs.Types.{sort_of}
use Rattle.spv_program.proofs.SortFacts.{sort_is}
use Rattle.spv_meaning.specs.Before.{first_name}
use Rattle.spv_assign.specs.supply.Numbers.{supply_of}
use Rattle.spv_assign.proofs.Growing.{AreIn-Extends}
use Rattle.spv_assign.proofs.limited_steps.Renamings.{ok_at}
use Rattle.spv_flow_parts.specs.leaves.Values.{AreCalls}
use Rattle.spv_flow_parts.proofs.leaves.InFront.{AreCalls-Extends}
use Rattle.spv_flow_parts.proofs.calls.Wholes.{fresh_makes, target_stays, target_there}
use Rattle.spv_flow_parts.proofs.assigning.Assigned.{place_has}
use Rattle.spv_flow_parts.proofs.assigning.Renewed.{is_creation, type_there, pointer_there, content_there, new_place_stops, pointer_stops, content_stops, creation_stops, renewed}
use Rattle.spv_flow_parts.proofs.assigning.before_new.Goals as goal

pub place-requires-clause-typed : goal.place-requires-clause-typed
place-requires-clause-typed g c = let is = (is_creation c.args.program.now c.args.body.now.here c.args.d.now c.args.t c.requires.0.stands.declarations c.requires.1.0) in record { of = is.of; typed = is.typed }

pub returns-in_err-to : goal.returns-in_err-to
returns-in_err-to g c = new_place_stops c.args.program.now c.args.body.now.here g.line c.args.d.now c.args.t (supply_of c.args.supply.now) c.args.terms.now c.args.rest.items c.requires.1.1 c.from_residual.result c.in_err-to.field-0.0 c.place.new.terms (supply_of c.place.new.supply) c.from_residual.ensures.1 c.in_err-to.ensures.grows c.in_err-to.ensures.walk

pub fresh_variable-fresh-requires : goal.fresh_variable-fresh-requires
fresh_variable-fresh-requires g c = pointer_there c.args.program.now c.args.t c.place.new.terms.shapes (c.in_ok-to.ensures.grows.shapes ∙ c.requires.0.stands.shapes) (is_creation c.args.program.now c.args.body.now.here c.args.d.now c.args.t c.requires.0.stands.declarations c.requires.1.0).exists

pub returns-in_err-pointer : goal.returns-in_err-pointer
returns-in_err-pointer g c =
    pointer_stops c.args.program.now c.args.body.now.here g.line c.args.d.now c.args.t (supply_of c.args.supply.now) c.args.terms.now c.args.rest.items c.requires.1.1 c.place.new.terms c.in_ok-to.ensures.walk _ (λ i. fresh_variable (ap first_name c.d.view_is i) (Ptr c.args.t) (c.in_ok-to.ensures.place.supply i))
    c.from_residual-in_err-pointer.result c.in_err-pointer.field-0.0 c.fresh_variable-fresh.new.terms (supply_of c.fresh_variable-fresh.new.self) c.from_residual-in_err-pointer.ensures.1 c.fresh_variable-fresh.ensures.grows (c.in_err-pointer.ensures.walk c.place.new.terms (_ ∷ []) (fresh_makes c.place.new.terms c.fresh_variable-fresh.new.terms c.fresh_variable-fresh.new.self (supply_of c.place.new.supply) _ c.fresh_variable-fresh.result c.fresh_variable-fresh.ensures.fresh c.fresh_variable-fresh.ensures.grows c.fresh_variable-fresh.ensures.only c.fresh_variable-fresh.ensures.size c.in_ok-to.ensures.place.there))

pub fresh_variable-fresh-requires-2 : goal.fresh_variable-fresh-requires-2
fresh_variable-fresh-requires-2 g c =
    subst (λ s. sort_in_range c.fresh_variable-fresh.new.terms.shapes s ≡ true) (sym (c.sort_of-sort.ensures ∙ ap (λ forms. sort_of forms c.args.t) (c.as_slice.ensures ∙ ap (λ (p : Program). p.forms) (c.behind-program.view_is ∙ c.program.ensures))))
    (content_there c.args.program.now c.args.t c.fresh_variable-fresh.new.terms.shapes ((Extends-trans c.in_ok-to.ensures.grows c.fresh_variable-fresh.ensures.grows).shapes ∙ c.requires.0.stands.shapes) c.requires.0.stands.declarations (is_creation c.args.program.now c.args.body.now.here c.args.d.now c.args.t c.requires.0.stands.declarations c.requires.1.0).exists)

pub returns-in_err-content : goal.returns-in_err-content
returns-in_err-content g c =
    content_stops c.args.program.now c.args.body.now.here g.line c.args.d.now c.args.t (supply_of c.args.supply.now) c.args.terms.now c.args.rest.items c.requires.1.1 c.place.new.terms c.in_ok-to.ensures.walk _ (λ i. fresh_variable (ap first_name c.d.view_is i) (Ptr c.args.t) (c.in_ok-to.ensures.place.supply i)) c.fresh_variable-fresh.new.terms (c.in_ok-pointer.ensures.walk c.place.new.terms (_ ∷ []) (fresh_makes c.place.new.terms c.fresh_variable-fresh.new.terms c.fresh_variable-fresh.new.self (supply_of c.place.new.supply) _ c.fresh_variable-fresh.result c.fresh_variable-fresh.ensures.fresh c.fresh_variable-fresh.ensures.grows c.fresh_variable-fresh.ensures.only c.fresh_variable-fresh.ensures.size c.in_ok-to.ensures.place.there)) _ (λ i. fresh_variable (c.title_of.ensures i) ((c.sort_of-sort.ensures ∙ ap (λ forms. sort_of forms c.args.t) (c.as_slice.ensures ∙ ap (λ (p : Program). p.forms) (c.behind-program.view_is ∙ c.program.ensures))) i) (((ok_at _ c.fresh_variable-fresh.result c.in_ok-pointer.pointer c.in_ok-pointer.ensures.same c.fresh_variable-fresh.ensures.fresh).supply ∙ ap (λ (x : Fresh). x.supply) (λ i. fresh_variable (ap first_name c.d.view_is i) (Ptr c.args.t) (c.in_ok-to.ensures.place.supply i))) i))
    c.from_residual-in_err-content.result c.in_err-content.field-0.0 c.fresh_variable-fresh-2.new.terms (supply_of c.fresh_variable-fresh-2.new.self) c.from_residual-in_err-content.ensures.1 c.fresh_variable-fresh-2.ensures.grows (c.in_err-content.ensures.walk c.fresh_variable-fresh.new.terms (_ ∷ []) (fresh_makes c.fresh_variable-fresh.new.terms c.fresh_variable-fresh-2.new.terms c.fresh_variable-fresh-2.new.self (supply_of c.fresh_variable-fresh.new.self) _ c.fresh_variable-fresh-2.result c.fresh_variable-fresh-2.ensures.fresh c.fresh_variable-fresh-2.ensures.grows c.fresh_variable-fresh-2.ensures.only c.fresh_variable-fresh-2.ensures.size (c.fresh_variable-fresh.ensures.there c.in_ok-to.ensures.place.there)))

pub before_creation-requires-clause-class : goal.before_creation-requires-clause-class
before_creation-requires-clause-class g c = type_there c.args.program.now c.args.t c.fresh_variable-fresh-2.new.terms.shapes ((Extends-trans (Extends-trans c.in_ok-to.ensures.grows c.fresh_variable-fresh.ensures.grows) c.fresh_variable-fresh-2.ensures.grows).shapes ∙ c.requires.0.stands.shapes) (is_creation c.args.program.now c.args.body.now.here c.args.d.now c.args.t c.requires.0.stands.declarations c.requires.1.0).exists

pub before_creation-requires-clause-target : goal.before_creation-requires-clause-target
before_creation-requires-clause-target g c = target_there (Extends-trans c.fresh_variable-fresh.ensures.grows c.fresh_variable-fresh-2.ensures.grows) c.in_ok-to.to.target c.in_ok-to.ensures.place.target

pub before_creation-requires-clause-sorts : goal.before_creation-requires-clause-sorts
before_creation-requires-clause-sorts g c =
    place_has c.args.program.now c.args.body.now.here c.args.d.now (supply_of c.args.supply.now) (is_creation c.args.program.now c.args.body.now.here c.args.d.now c.args.t c.requires.0.stands.declarations c.requires.1.0).of c.fresh_variable-fresh-2.new.terms ((Extends-trans (Extends-trans c.in_ok-to.ensures.grows c.fresh_variable-fresh.ensures.grows) c.fresh_variable-fresh-2.ensures.grows).shapes ∙ c.requires.0.stands.shapes) ((Extends-trans (Extends-trans c.in_ok-to.ensures.grows c.fresh_variable-fresh.ensures.grows) c.fresh_variable-fresh-2.ensures.grows).decls ∙ c.requires.0.stands.decls) c.in_ok-to.to.target (target_stays (Extends-trans c.fresh_variable-fresh.ensures.grows c.fresh_variable-fresh-2.ensures.grows) c.in_ok-to.to.target c.in_ok-to.ensures.place.target ∙ c.in_ok-to.ensures.place.same) (is_creation c.args.program.now c.args.body.now.here c.args.d.now c.args.t c.requires.0.stands.declarations c.requires.1.0).typed
    ∙ ap (λ s. Some s) (is_creation c.args.program.now c.args.body.now.here c.args.d.now c.args.t c.requires.0.stands.declarations c.requires.1.0).pointer

pub before_creation-requires-clause-pointer : goal.before_creation-requires-clause-pointer
before_creation-requires-clause-pointer g c = let longer = length-Extends c.fresh_variable-fresh-2.ensures.grows in let there = (ok_at _ c.fresh_variable-fresh.result c.in_ok-pointer.pointer c.in_ok-pointer.ensures.same c.fresh_variable-fresh.ensures.fresh).there in omega (arith, longer, there)

pub before_creation-requires-clause-pointer_sort : goal.before_creation-requires-clause-pointer_sort
before_creation-requires-clause-pointer_sort g c = sort_at-Extends c.fresh_variable-fresh-2.ensures.grows c.in_ok-pointer.pointer (ok_at _ c.fresh_variable-fresh.result c.in_ok-pointer.pointer c.in_ok-pointer.ensures.same c.fresh_variable-fresh.ensures.fresh).there ∙ ok_at _ c.fresh_variable-fresh.result c.in_ok-pointer.pointer c.in_ok-pointer.ensures.same c.fresh_variable-fresh.ensures.sort

pub before_creation-requires-clause-content : goal.before_creation-requires-clause-content
before_creation-requires-clause-content g c = (ok_at _ c.fresh_variable-fresh-2.result c.in_ok-content.content c.in_ok-content.ensures.same c.fresh_variable-fresh-2.ensures.fresh).there

pub before_creation-requires-clause-content_sort : goal.before_creation-requires-clause-content_sort
before_creation-requires-clause-content_sort g c =
    ok_at _ c.fresh_variable-fresh-2.result c.in_ok-content.content c.in_ok-content.ensures.same c.fresh_variable-fresh-2.ensures.sort ∙ (c.sort_of-sort.ensures ∙ ap (λ forms. sort_of forms c.args.t) (c.as_slice.ensures ∙ ap (λ (p : Program). p.forms) (c.behind-program.view_is ∙ c.program.ensures)))
    ∙ sym (ap (λ (s : List Shape). sort_of_type s c.args.t) ((Extends-trans (Extends-trans c.in_ok-to.ensures.grows c.fresh_variable-fresh.ensures.grows) c.fresh_variable-fresh-2.ensures.grows).shapes ∙ c.requires.0.stands.shapes) ∙ sort_is c.args.program.now.forms c.args.t)

pub before_creation-requires-clause-rest : goal.before_creation-requires-clause-rest
before_creation-requires-clause-rest g c = AreIn-Extends (Extends-trans (Extends-trans c.in_ok-to.ensures.grows c.fresh_variable-fresh.ensures.grows) c.fresh_variable-fresh-2.ensures.grows) c.args.rest.items c.requires.1.1

pub returns-in_err-created : goal.returns-in_err-created
returns-in_err-created g c =
    creation_stops c.args.program.now c.args.body.now.here g.line c.args.d.now c.args.t (supply_of c.args.supply.now) c.args.terms.now c.args.rest.items c.requires.1.1 c.place.new.terms c.in_ok-to.ensures.walk _ (λ i. fresh_variable (ap first_name c.d.view_is i) (Ptr c.args.t) (c.in_ok-to.ensures.place.supply i)) c.fresh_variable-fresh.new.terms (c.in_ok-pointer.ensures.walk c.place.new.terms (_ ∷ []) (fresh_makes c.place.new.terms c.fresh_variable-fresh.new.terms c.fresh_variable-fresh.new.self (supply_of c.place.new.supply) _ c.fresh_variable-fresh.result c.fresh_variable-fresh.ensures.fresh c.fresh_variable-fresh.ensures.grows c.fresh_variable-fresh.ensures.only c.fresh_variable-fresh.ensures.size c.in_ok-to.ensures.place.there)) _ (λ i. fresh_variable (c.title_of.ensures i) ((c.sort_of-sort.ensures ∙ ap (λ forms. sort_of forms c.args.t) (c.as_slice.ensures ∙ ap (λ (p : Program). p.forms) (c.behind-program.view_is ∙ c.program.ensures))) i) (((ok_at _ c.fresh_variable-fresh.result c.in_ok-pointer.pointer c.in_ok-pointer.ensures.same c.fresh_variable-fresh.ensures.fresh).supply ∙ ap (λ (x : Fresh). x.supply) (λ i. fresh_variable (ap first_name c.d.view_is i) (Ptr c.args.t) (c.in_ok-to.ensures.place.supply i))) i)) c.fresh_variable-fresh-2.new.terms (c.in_ok-content.ensures.walk c.fresh_variable-fresh.new.terms (_ ∷ []) (fresh_makes c.fresh_variable-fresh.new.terms c.fresh_variable-fresh-2.new.terms c.fresh_variable-fresh-2.new.self (supply_of c.fresh_variable-fresh.new.self) _ c.fresh_variable-fresh-2.result c.fresh_variable-fresh-2.ensures.fresh c.fresh_variable-fresh-2.ensures.grows c.fresh_variable-fresh-2.ensures.only c.fresh_variable-fresh-2.ensures.size (c.fresh_variable-fresh.ensures.there c.in_ok-to.ensures.place.there))) (supply_of c.fresh_variable-fresh-2.new.self) (ok_at _ c.fresh_variable-fresh-2.result c.in_ok-content.content c.in_ok-content.ensures.same c.fresh_variable-fresh-2.ensures.fresh).supply (c.fresh_variable-fresh-2.ensures.there (c.fresh_variable-fresh.ensures.there c.in_ok-to.ensures.place.there))
    c.in_ok-to.to.target (target_stays (Extends-trans c.fresh_variable-fresh.ensures.grows c.fresh_variable-fresh-2.ensures.grows) c.in_ok-to.to.target c.in_ok-to.ensures.place.target ∙ c.in_ok-to.ensures.place.same) c.in_ok-pointer.pointer c.in_ok-content.content (tree-Extends c.fresh_variable-fresh-2.ensures.grows c.in_ok-pointer.pointer (ok_at _ c.fresh_variable-fresh.result c.in_ok-pointer.pointer c.in_ok-pointer.ensures.same c.fresh_variable-fresh.ensures.fresh).there ∙ (ok_at _ c.fresh_variable-fresh.result c.in_ok-pointer.pointer c.in_ok-pointer.ensures.same c.fresh_variable-fresh.ensures.fresh).is_tree) (ok_at _ c.fresh_variable-fresh-2.result c.in_ok-content.content c.in_ok-content.ensures.same c.fresh_variable-fresh-2.ensures.fresh).is_tree
    _ c.before_creation.new.terms c.in_err-created.ensures c.from_residual-in_err-created.result c.in_err-created.field-0.0 c.from_residual-in_err-created.ensures.1 refl

pub returns : goal.returns
returns g c =
    renewed c.args.program.now c.args.body.now.here g.line c.args.d.now c.args.t (supply_of c.args.supply.now) c.args.terms.now c.args.rest.items c.requires.1.1 c.place.new.terms c.in_ok-to.ensures.walk _ (λ i. fresh_variable (ap first_name c.d.view_is i) (Ptr c.args.t) (c.in_ok-to.ensures.place.supply i)) c.fresh_variable-fresh.new.terms (c.in_ok-pointer.ensures.walk c.place.new.terms (_ ∷ []) (fresh_makes c.place.new.terms c.fresh_variable-fresh.new.terms c.fresh_variable-fresh.new.self (supply_of c.place.new.supply) _ c.fresh_variable-fresh.result c.fresh_variable-fresh.ensures.fresh c.fresh_variable-fresh.ensures.grows c.fresh_variable-fresh.ensures.only c.fresh_variable-fresh.ensures.size c.in_ok-to.ensures.place.there)) _ (λ i. fresh_variable (c.title_of.ensures i) ((c.sort_of-sort.ensures ∙ ap (λ forms. sort_of forms c.args.t) (c.as_slice.ensures ∙ ap (λ (p : Program). p.forms) (c.behind-program.view_is ∙ c.program.ensures))) i) (((ok_at _ c.fresh_variable-fresh.result c.in_ok-pointer.pointer c.in_ok-pointer.ensures.same c.fresh_variable-fresh.ensures.fresh).supply ∙ ap (λ (x : Fresh). x.supply) (λ i. fresh_variable (ap first_name c.d.view_is i) (Ptr c.args.t) (c.in_ok-to.ensures.place.supply i))) i)) c.fresh_variable-fresh-2.new.terms (c.in_ok-content.ensures.walk c.fresh_variable-fresh.new.terms (_ ∷ []) (fresh_makes c.fresh_variable-fresh.new.terms c.fresh_variable-fresh-2.new.terms c.fresh_variable-fresh-2.new.self (supply_of c.fresh_variable-fresh.new.self) _ c.fresh_variable-fresh-2.result c.fresh_variable-fresh-2.ensures.fresh c.fresh_variable-fresh-2.ensures.grows c.fresh_variable-fresh-2.ensures.only c.fresh_variable-fresh-2.ensures.size (c.fresh_variable-fresh.ensures.there c.in_ok-to.ensures.place.there))) (supply_of c.fresh_variable-fresh-2.new.self) (ok_at _ c.fresh_variable-fresh-2.result c.in_ok-content.content c.in_ok-content.ensures.same c.fresh_variable-fresh-2.ensures.fresh).supply (c.fresh_variable-fresh-2.ensures.there (c.fresh_variable-fresh.ensures.there c.in_ok-to.ensures.place.there))
    c.in_ok-to.to.target (target_stays (Extends-trans c.fresh_variable-fresh.ensures.grows c.fresh_variable-fresh-2.ensures.grows) c.in_ok-to.to.target c.in_ok-to.ensures.place.target ∙ c.in_ok-to.ensures.place.same) c.in_ok-pointer.pointer c.in_ok-content.content (tree-Extends c.fresh_variable-fresh-2.ensures.grows c.in_ok-pointer.pointer (ok_at _ c.fresh_variable-fresh.result c.in_ok-pointer.pointer c.in_ok-pointer.ensures.same c.fresh_variable-fresh.ensures.fresh).there ∙ (ok_at _ c.fresh_variable-fresh.result c.in_ok-pointer.pointer c.in_ok-pointer.ensures.same c.fresh_variable-fresh.ensures.fresh).is_tree) (ok_at _ c.fresh_variable-fresh-2.result c.in_ok-content.content c.in_ok-content.ensures.same c.fresh_variable-fresh-2.ensures.fresh).is_tree
    _ c.before_creation.new.terms c.in_ok-created.ensures c.in_ok-created.created refl c.in_front.result
    (λ more these. c.in_front.ensures c.before_creation.new.terms _ _ (AreCalls-Extends c.as_slice-2.result.now _ more (subst (λ l. AreCalls c.place.new.terms l (placed c.args.program.now (routine_in c.args.program.now c.args.body.now.here) (supply_of c.args.supply.now) c.args.d.now).calls) (sym c.as_slice-2.ensures) c.in_ok-to.ensures.place.calls)) these)
