use Rattle.std.proofs.Common.{List, is_some, ap, sym, ◌∙◌}
use Rattle.spv_logic.specs.declared.types.Shape.{Shape}
use Rattle.spv_logic.specs.Shapes.{sort_of_type}
use Rattle.spv_term.proofs.ArenaLemmas.{sort_at-Extends}
use Rattle.spv_program.proofs.SortFacts.{some_is}
use Rattle.spv_flow_parts.proofs.Conditions.{replaced_comes}
use Rattle.spv_flow_parts.proofs.assigning.Cells.{extend_sort}
use Rattle.spv_flow_parts.proofs.assigning.Extending.{class_stops, extended_stops, cell_pair, cell_within, cell_done}
use Rattle.spv_flow_parts.proofs.assigning.with_cell.Goals as goal

pub returns-in_err-class : goal.returns-in_err-class
returns-in_err-class c = class_stops c.args.t c.args.pointer c.args.content c.args.terms.now c.requires.pointer c.requires.content c.args.rest.items c.requires.rest c.from_residual.result c.in_err-class.field-0.0 c.made.new.terms c.from_residual.ensures.1 c.in_err-class.ensures.grows c.in_err-class.ensures.walk

pub made-requires-2-clause-sorts : goal.made-requires-2-clause-sorts
made-requires-2-clause-sorts c = ap (λ o. is_some o) (extend_sort c.made.new.terms.shapes c.made.new.terms.decls c.args.t _ _ _ (sym (some_is c.in_ok-class.ensures.sort)) (sort_at-Extends c.in_ok-class.ensures.grows c.args.pointer c.requires.pointer ∙ c.requires.pointer_sort)
    (sort_at-Extends c.in_ok-class.ensures.grows c.args.content c.requires.content ∙ c.requires.content_sort ∙ ap (λ (s : List Shape). sort_of_type s c.args.t) (sym c.in_ok-class.ensures.grows.shapes)))

pub returns-in_err-extended : goal.returns-in_err-extended
returns-in_err-extended c =
    extended_stops c.args.t c.args.pointer c.args.content c.args.terms.now c.requires.pointer c.requires.content c.args.rest.items c.requires.rest c.made.new.terms c.in_ok-class.class c.in_ok-class.ensures.grows c.in_ok-class.ensures.walk c.in_ok-class.ensures.term
    c.from_residual-in_err-extended.result c.in_err-extended.field-0.0 c.made-2.new.terms c.from_residual-in_err-extended.ensures.1 c.in_err-extended.ensures.grows c.in_err-extended.ensures.walk

pub replaced-requires-clause-rest : goal.replaced-requires-clause-rest
replaced-requires-clause-rest c = cell_within c.args.t c.args.pointer c.args.content c.args.terms.now c.requires.pointer c.requires.content c.args.rest.items c.requires.rest c.made.new.terms c.in_ok-class.class c.in_ok-class.ensures.grows c.in_ok-class.ensures.walk c.in_ok-class.ensures.term c.made-2.new.terms c.in_ok-extended.extended c.in_ok-extended.ensures.grows c.in_ok-extended.ensures.walk c.in_ok-extended.ensures.term

pub replaced-requires-clause-pairs : goal.replaced-requires-clause-pairs
replaced-requires-clause-pairs c =
    cell_pair c.args.t c.args.pointer c.args.content c.args.terms.now c.requires.pointer c.requires.content c.args.rest.items c.requires.rest c.made.new.terms c.in_ok-class.class c.in_ok-class.ensures.grows c.in_ok-class.ensures.walk c.in_ok-class.ensures.term c.made-2.new.terms c.in_ok-extended.extended c.in_ok-extended.ensures.grows c.in_ok-extended.ensures.walk c.in_ok-extended.ensures.term
    (sym (some_is c.in_ok-class.ensures.sort)) (some_is (sym c.in_ok-extended.ensures.sort ∙ extend_sort c.made.new.terms.shapes c.made.new.terms.decls c.args.t _ _ _ (sym (some_is c.in_ok-class.ensures.sort)) (sort_at-Extends c.in_ok-class.ensures.grows c.args.pointer c.requires.pointer ∙ c.requires.pointer_sort)
    (sort_at-Extends c.in_ok-class.ensures.grows c.args.content c.requires.content ∙ c.requires.content_sort ∙ ap (λ (s : List Shape). sort_of_type s c.args.t) (sym c.in_ok-class.ensures.grows.shapes))))

pub returns : goal.returns
returns c =
    cell_done c.args.t c.args.pointer c.args.content c.args.terms.now c.requires.pointer c.requires.content c.args.rest.items c.requires.rest c.made.new.terms c.in_ok-class.class c.in_ok-class.ensures.grows c.in_ok-class.ensures.walk c.in_ok-class.ensures.term c.made-2.new.terms c.in_ok-extended.extended c.in_ok-extended.ensures.grows c.in_ok-extended.ensures.walk c.in_ok-extended.ensures.term
    c.replaced.result c.replaced.new.terms (replaced_comes c.replaced.result c.made-2.new.terms c.replaced.new.terms _ c.replaced.ensures.conditions c.replaced.ensures.in_range c.replaced.ensures.grows c.replaced.ensures.walk)
