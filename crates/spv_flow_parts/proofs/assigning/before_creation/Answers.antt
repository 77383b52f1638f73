use Rattle.std.proofs.Common.{◌<◌, Some, List, length, ap, subst, sym, ◌∙◌, arith}
use Rattle.spv_logic.specs.declared.types.Shape.{Shape}
use Rattle.spv_logic.specs.Shapes.{sort_of_type}
use Rattle.spv_term.proofs.ArenaLemmas.{Extends-trans, length-Extends, sort_at-Extends}
use Rattle.spv_flow_parts.proofs.assigning.Created.{comes_grows, comes_these, placed_stops, cell_stops, member_stops, nil_stops, created_never, created_comes}
use Rattle.spv_flow_parts.proofs.assigning.before_creation.Goals as goal

pub with_place-requires-clause-sorts : goal.with_place-requires-clause-sorts
with_place-requires-clause-sorts c = c.requires.sorts ∙ ap (λ s. Some s) (sym c.requires.pointer_sort)

pub returns-in_err-placed : goal.returns-in_err-placed
returns-in_err-placed c = placed_stops c.args.t c.args.target.now c.args.pointer c.args.content c.args.terms.now c.requires.pointer c.requires.content c.args.rest.items c.from_residual.result c.in_err-placed.field-0.0 c.with_place.new.terms c.from_residual.ensures.1 c.in_err-placed.ensures

pub with_cell-requires-clause-class : goal.with_cell-requires-clause-class
with_cell-requires-clause-class c = subst (λ (s : List Shape). c.args.t.0 < length s) (sym (comes_grows c.in_ok-placed.placed _ _ c.args.terms.now c.with_place.new.terms c.in_ok-placed.ensures).shapes) c.requires.class

pub with_cell-requires-clause-pointer : goal.with_cell-requires-clause-pointer
with_cell-requires-clause-pointer c = let longer = length-Extends (comes_grows c.in_ok-placed.placed _ _ c.args.terms.now c.with_place.new.terms c.in_ok-placed.ensures) in let there = c.requires.pointer in omega (arith, longer, there)

pub with_cell-requires-clause-pointer_sort : goal.with_cell-requires-clause-pointer_sort
with_cell-requires-clause-pointer_sort c = sort_at-Extends (comes_grows c.in_ok-placed.placed _ _ c.args.terms.now c.with_place.new.terms c.in_ok-placed.ensures) c.args.pointer c.requires.pointer ∙ c.requires.pointer_sort

pub with_cell-requires-clause-content : goal.with_cell-requires-clause-content
with_cell-requires-clause-content c = let longer = length-Extends (comes_grows c.in_ok-placed.placed _ _ c.args.terms.now c.with_place.new.terms c.in_ok-placed.ensures) in let there = c.requires.content in omega (arith, longer, there)

pub with_cell-requires-clause-content_sort : goal.with_cell-requires-clause-content_sort
with_cell-requires-clause-content_sort c = sort_at-Extends (comes_grows c.in_ok-placed.placed _ _ c.args.terms.now c.with_place.new.terms c.in_ok-placed.ensures) c.args.content c.requires.content ∙ c.requires.content_sort ∙ ap (λ (s : List Shape). sort_of_type s c.args.t) (sym (comes_grows c.in_ok-placed.placed _ _ c.args.terms.now c.with_place.new.terms c.in_ok-placed.ensures).shapes)

pub with_cell-requires-clause-rest : goal.with_cell-requires-clause-rest
with_cell-requires-clause-rest c = (comes_these c.in_ok-placed.placed _ _ c.args.terms.now c.with_place.new.terms c.in_ok-placed.ensures).in_range

pub returns-in_err-extended : goal.returns-in_err-extended
returns-in_err-extended c = cell_stops c.args.t c.args.target.now c.args.pointer c.args.content c.args.terms.now c.requires.pointer c.requires.content c.args.rest.items c.with_place.new.terms c.in_ok-placed.placed c.in_ok-placed.ensures c.from_residual-in_err-extended.result c.in_err-extended.field-0.0 c.with_cell.new.terms c.from_residual-in_err-extended.ensures.1 c.in_err-extended.ensures

pub no_member-requires-clause-pointer : goal.no_member-requires-clause-pointer
no_member-requires-clause-pointer c = let longer = length-Extends (Extends-trans (comes_grows c.in_ok-placed.placed _ _ c.args.terms.now c.with_place.new.terms c.in_ok-placed.ensures) (comes_grows c.in_ok-extended.extended _ _ c.with_place.new.terms c.with_cell.new.terms c.in_ok-extended.ensures)) in let there = c.requires.pointer in omega (arith, longer, there)

pub no_member-requires-clause-sort : goal.no_member-requires-clause-sort
no_member-requires-clause-sort c = sort_at-Extends (Extends-trans (comes_grows c.in_ok-placed.placed _ _ c.args.terms.now c.with_place.new.terms c.in_ok-placed.ensures) (comes_grows c.in_ok-extended.extended _ _ c.with_place.new.terms c.with_cell.new.terms c.in_ok-extended.ensures)) c.args.pointer c.requires.pointer ∙ c.requires.pointer_sort

pub no_member-requires-clause-class : goal.no_member-requires-clause-class
no_member-requires-clause-class c = subst (λ (s : List Shape). c.args.t.0 < length s) (sym (Extends-trans (comes_grows c.in_ok-placed.placed _ _ c.args.terms.now c.with_place.new.terms c.in_ok-placed.ensures) (comes_grows c.in_ok-extended.extended _ _ c.with_place.new.terms c.with_cell.new.terms c.in_ok-extended.ensures)).shapes) c.requires.class

pub returns-in_err-none : goal.returns-in_err-none
returns-in_err-none c =
    member_stops c.args.t c.args.target.now c.args.pointer c.args.content c.args.terms.now c.requires.pointer c.requires.content c.args.rest.items c.with_place.new.terms c.in_ok-placed.placed c.in_ok-placed.ensures c.with_cell.new.terms c.in_ok-extended.extended c.in_ok-extended.ensures c.from_residual-in_err-none.result c.in_err-none.field-0.0 c.no_member.new.terms c.from_residual-in_err-none.ensures.1 c.in_err-none.ensures.grows c.in_err-none.ensures.walk

pub not_nil-requires-clause-pointer : goal.not_nil-requires-clause-pointer
not_nil-requires-clause-pointer c = let longer = length-Extends (Extends-trans (Extends-trans (comes_grows c.in_ok-placed.placed _ _ c.args.terms.now c.with_place.new.terms c.in_ok-placed.ensures) (comes_grows c.in_ok-extended.extended _ _ c.with_place.new.terms c.with_cell.new.terms c.in_ok-extended.ensures)) c.in_ok-none.ensures.grows) in let there = c.requires.pointer in omega (arith, longer, there)

pub not_nil-requires-clause-sort : goal.not_nil-requires-clause-sort
not_nil-requires-clause-sort c = sort_at-Extends (Extends-trans (Extends-trans (comes_grows c.in_ok-placed.placed _ _ c.args.terms.now c.with_place.new.terms c.in_ok-placed.ensures) (comes_grows c.in_ok-extended.extended _ _ c.with_place.new.terms c.with_cell.new.terms c.in_ok-extended.ensures)) c.in_ok-none.ensures.grows) c.args.pointer c.requires.pointer ∙ c.requires.pointer_sort

pub not_nil-requires-clause-class : goal.not_nil-requires-clause-class
not_nil-requires-clause-class c = subst (λ (s : List Shape). c.args.t.0 < length s) (sym (Extends-trans (Extends-trans (comes_grows c.in_ok-placed.placed _ _ c.args.terms.now c.with_place.new.terms c.in_ok-placed.ensures) (comes_grows c.in_ok-extended.extended _ _ c.with_place.new.terms c.with_cell.new.terms c.in_ok-extended.ensures)) c.in_ok-none.ensures.grows).shapes) c.requires.class

pub returns-in_err-there : goal.returns-in_err-there
returns-in_err-there c =
    nil_stops c.args.t c.args.target.now c.args.pointer c.args.content c.args.terms.now c.requires.pointer c.requires.content c.args.rest.items c.with_place.new.terms c.in_ok-placed.placed c.in_ok-placed.ensures c.with_cell.new.terms c.in_ok-extended.extended c.in_ok-extended.ensures c.no_member.new.terms c.in_ok-none.none c.in_ok-none.ensures.grows c.in_ok-none.ensures.walk c.in_ok-none.ensures.term c.from_residual-in_err-there.result c.in_err-there.field-0.0 c.not_nil.new.terms c.from_residual-in_err-there.ensures.1 c.in_err-there.ensures.grows c.in_err-there.ensures.walk

pub returns-in_err-behind : goal.returns-in_err-behind
returns-in_err-behind c =
    created_never c.args.t c.args.target.now c.args.pointer c.args.content c.args.terms.now c.requires.pointer c.requires.content c.args.rest.items c.with_place.new.terms c.in_ok-placed.placed c.in_ok-placed.ensures c.with_cell.new.terms c.in_ok-extended.extended c.in_ok-extended.ensures c.no_member.new.terms c.in_ok-none.none c.in_ok-none.ensures.grows c.in_ok-none.ensures.walk c.in_ok-none.ensures.term c.not_nil.new.terms c.in_ok-there.there c.in_ok-there.ensures.grows c.in_ok-there.ensures.walk c.in_ok-there.ensures.term c.from_residual-in_err-behind.result c.in_err-behind.field-0.0 c.from_residual-in_err-behind.ensures.1 c.in_err-behind.ensures.err

pub returns : goal.returns
returns c =
    created_comes c.args.t c.args.target.now c.args.pointer c.args.content c.args.terms.now c.requires.pointer c.requires.content c.args.rest.items c.with_place.new.terms c.in_ok-placed.placed c.in_ok-placed.ensures c.with_cell.new.terms c.in_ok-extended.extended c.in_ok-extended.ensures c.no_member.new.terms c.in_ok-none.none c.in_ok-none.ensures.grows c.in_ok-none.ensures.walk c.in_ok-none.ensures.term c.not_nil.new.terms c.in_ok-there.there c.in_ok-there.ensures.grows c.in_ok-there.ensures.walk c.in_ok-there.ensures.term c.in_ok-behind.behind c.in_ok-behind.ensures.assumes c.assumed-2.result c.assumed-2.ensures.assumes c.assumed-2.ensures.err
