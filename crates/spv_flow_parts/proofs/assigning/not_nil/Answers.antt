use Rattle.std.proofs.Common.{ap, sym, is_some, ◌∙◌}
use Rattle.spv_logic.specs.declared.operators.Head.TheVariants as head
use Rattle.spv_term.specs.Arena.{tree}
use Rattle.spv_term.proofs.ArenaLemmas.{sort_at-Extends}
use Rattle.spv_program.proofs.SortFacts.{some_is}
use Rattle.spv_program.specs.Terms.{alone, binary}
use Rattle.spv_meaning.specs.Before.{negated}
use Rattle.spv_flow_parts.proofs.assigning.Cells.{part_stops, under_head, second_inside, over_stops, over_made, equal_sort}
use Rattle.spv_flow_parts.proofs.assigning.not_nil.Goals as goal

pub returns-in_err-nil : goal.returns-in_err-nil
returns-in_err-nil c =
    part_stops (alone (head.Nil c.args.t)) (negated (binary head.Eq (tree c.args.terms.now c.args.pointer) (alone (head.Nil c.args.t)))) (under_head head.Not (alone (head.Nil c.args.t)) (binary head.Eq (tree c.args.terms.now c.args.pointer) (alone (head.Nil c.args.t))) (second_inside head.Eq (tree c.args.terms.now c.args.pointer) (alone (head.Nil c.args.t))))
    c.from_residual.result c.in_err-nil.field-0.0 c.args.terms.now c.made.new.terms c.from_residual.ensures.1 c.in_err-nil.ensures.grows c.in_err-nil.ensures.walk

pub binary-requires-clause-sorts : goal.binary-requires-clause-sorts
binary-requires-clause-sorts c = ap (λ o. is_some o) (equal_sort c.made.new.terms.shapes c.made.new.terms.decls _ _ (sym (some_is c.in_ok-nil.ensures.sort) ∙ sym (sort_at-Extends c.in_ok-nil.ensures.grows c.args.pointer c.requires.pointer ∙ c.requires.sort)))

pub returns-in_err-equal : goal.returns-in_err-equal
returns-in_err-equal c =
    over_stops head.Eq c.args.pointer c.in_ok-nil.nil (alone (head.Nil c.args.t)) c.args.terms.now c.made.new.terms c.in_ok-nil.ensures.grows c.requires.pointer c.in_ok-nil.ensures.walk c.in_ok-nil.ensures.term
    c.from_residual-in_err-equal.result c.in_err-equal.field-0.0 c.binary.new.terms c.from_residual-in_err-equal.ensures.1 c.in_err-equal.ensures.grows c.in_err-equal.ensures.walk

pub negated-requires-clause-sort : goal.negated-requires-clause-sort
negated-requires-clause-sort c = some_is (sym c.in_ok-equal.ensures.sort ∙ equal_sort c.made.new.terms.shapes c.made.new.terms.decls _ _ (sym (some_is c.in_ok-nil.ensures.sort) ∙ sym (sort_at-Extends c.in_ok-nil.ensures.grows c.args.pointer c.requires.pointer ∙ c.requires.sort)))

pub returns : goal.returns
returns c =
    over_made head.Eq c.args.pointer c.in_ok-nil.nil (alone (head.Nil c.args.t)) c.args.terms.now c.made.new.terms c.in_ok-nil.ensures.grows c.requires.pointer c.in_ok-nil.ensures.walk c.in_ok-nil.ensures.term
    c.binary.new.terms c.in_ok-equal.equal c.in_ok-equal.ensures.grows c.in_ok-equal.ensures.walk c.in_ok-equal.ensures.term
    c.negated.result c.negated.new.terms c.negated.ensures.grows c.negated.ensures.walk c.negated.ensures.term
