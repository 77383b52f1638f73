use Rattle.std.proofs.Common.{ap, sym, is_some, ◌∙◌}
use Rattle.spv_logic.specs.declared.operators.Head.TheVariants as head
use Rattle.spv_term.specs.Arena.{tree}
use Rattle.spv_term.proofs.ArenaLemmas.{sort_at-Extends}
use Rattle.spv_program.proofs.SortFacts.{some_is}
use Rattle.spv_program.specs.Terms.{alone, binary}
use Rattle.spv_meaning.specs.Before.{negated}
use Rattle.spv_flow_parts.proofs.assigning.Cells.{part_stops, under_head, second_inside, over_stops, over_made, member_sort}
use Rattle.spv_flow_parts.proofs.assigning.no_member.Goals as goal

pub returns-in_err-class : goal.returns-in_err-class
returns-in_err-class c =
    part_stops (alone (head.ClassVar c.args.t 0)) (negated (binary head.PointerTo (tree c.args.terms.now c.args.pointer) (alone (head.ClassVar c.args.t 0)))) (under_head head.Not (alone (head.ClassVar c.args.t 0)) (binary head.PointerTo (tree c.args.terms.now c.args.pointer) (alone (head.ClassVar c.args.t 0))) (second_inside head.PointerTo (tree c.args.terms.now c.args.pointer) (alone (head.ClassVar c.args.t 0))))
    c.from_residual.result c.in_err-class.field-0.0 c.args.terms.now c.made.new.terms c.from_residual.ensures.1 c.in_err-class.ensures.grows c.in_err-class.ensures.walk

pub binary-requires-clause-sorts : goal.binary-requires-clause-sorts
binary-requires-clause-sorts c = ap (λ o. is_some o) (member_sort c.made.new.terms.shapes c.made.new.terms.decls c.args.t _ _ (sort_at-Extends c.in_ok-class.ensures.grows c.args.pointer c.requires.pointer ∙ c.requires.sort) (sym (some_is c.in_ok-class.ensures.sort)))

pub returns-in_err-member : goal.returns-in_err-member
returns-in_err-member c =
    over_stops head.PointerTo c.args.pointer c.in_ok-class.class (alone (head.ClassVar c.args.t 0)) c.args.terms.now c.made.new.terms c.in_ok-class.ensures.grows c.requires.pointer c.in_ok-class.ensures.walk c.in_ok-class.ensures.term
    c.from_residual-in_err-member.result c.in_err-member.field-0.0 c.binary.new.terms c.from_residual-in_err-member.ensures.1 c.in_err-member.ensures.grows c.in_err-member.ensures.walk

pub negated-requires-clause-sort : goal.negated-requires-clause-sort
negated-requires-clause-sort c = some_is (sym c.in_ok-member.ensures.sort ∙ member_sort c.made.new.terms.shapes c.made.new.terms.decls c.args.t _ _ (sort_at-Extends c.in_ok-class.ensures.grows c.args.pointer c.requires.pointer ∙ c.requires.sort) (sym (some_is c.in_ok-class.ensures.sort)))

pub returns : goal.returns
returns c =
    over_made head.PointerTo c.args.pointer c.in_ok-class.class (alone (head.ClassVar c.args.t 0)) c.args.terms.now c.made.new.terms c.in_ok-class.ensures.grows c.requires.pointer c.in_ok-class.ensures.walk c.in_ok-class.ensures.term
    c.binary.new.terms c.in_ok-member.member c.in_ok-member.ensures.grows c.in_ok-member.ensures.walk c.in_ok-member.ensures.term
    c.negated.result c.negated.new.terms c.negated.ensures.grows c.negated.ensures.walk c.negated.ensures.term
