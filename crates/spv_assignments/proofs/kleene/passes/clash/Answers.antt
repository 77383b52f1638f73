use Rattle.std.proofs.Common.{Some, ap, sym, ◌∙◌}
use Rattle.spv_proof_rules.specs.Evaluation.{opposite}
use Rattle.spv_assignments.specs.kleene.Passes.{at}
use Rattle.spv_assignments.proofs.kleene.Filling.{itself_clashes, passed_none, none_found}
use Rattle.spv_assignments.proofs.kleene.Marking.{unmarked_quiet}
use Rattle.spv_assignments.proofs.kleene.passes.clash.Goals as goal

pub returns-then-opposite-clause-clash : goal.returns-then-opposite-clause-clash
returns-then-opposite-clause-clash c =
    itself_clashes c.args.terms.now c.args.own.now c.args.start.now c.requires.start c.args.s c.args.v c.requires.s
    (sym (c.opposite.ensures ∙ ap (λ x. opposite x (Some c.args.v)) (c.value_at-own_value.ensures ∙ (ap (λ xs. at xs c.args.s.0) c.as_slice.ensures.value ∙ c.requires.plain.each c.args.s c.requires.s))) ∙ c.if-opposite.true)

pub first_clash-requires-clause-start : goal.first_clash-requires-clause-start
first_clash-requires-clause-start c = passed_none c.args.terms.now c.args.own.now c.args.start.now c.requires.start c.args.s c.args.v c.requires.s _ c.in_ok-begun.begun.items c.in_ok-begun.ensures

pub returns-clause-none : goal.returns-clause-none
returns-clause-none c =
    none_found c.args.terms.now c.args.own.now c.args.start.now c.requires.start c.args.s c.args.v c.requires.s c.requires.quiet c.value_at-own_value.result
    (c.value_at-own_value.ensures ∙ (ap (λ xs. at xs c.args.s.0) c.as_slice.ensures.value ∙ c.requires.plain.each c.args.s c.requires.s)) c.opposite.result c.opposite.ensures c.if-opposite.false c.first_clash.result c.first_clash.ensures.none

pub returns-then-not-is_connective-clause-none : goal.returns-then-not-is_connective-clause-none
returns-then-not-is_connective-clause-none c =
    unmarked_quiet c.args.terms.now c.law_arena.ensures c.args.connectives.now.ids.items c.requires.ids c.args.own.now c.args.start.now c.requires.start c.args.s c.args.v c.requires.s c.args.arguments.now c.requires.arguments
    (sym c.is_marked.ensures ∙ c.if-not-is_marked.true) (sym c.is_connective.ensures ∙ c.if-not-is_connective.true) c.requires.passed c.requires.quiet
    (sym (c.opposite.ensures ∙ ap (λ x. opposite x (Some c.args.v)) (c.value_at-own_value.ensures ∙ (ap (λ xs. at xs c.args.s.0) c.as_slice.ensures.value ∙ c.requires.plain.each c.args.s c.requires.s))) ∙ c.if-opposite.false)
