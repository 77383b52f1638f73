use Rattle.std.proofs.Common.{true, ap, sym, ◌∙◌}
use Rattle.std.specs.Prelude.{is_some}
use Rattle.spv_assignments.specs.kleene.Passes.{at}
use Rattle.spv_assignments.proofs.partial_assignment.Deciding.{answered_known, answered_true, answered_false, answered_none, told_some, told_none}
use Rattle.spv_assignments.proofs.partial_assignment.answering.answer.Goals as goal

pub returns-then-has_value : goal.returns-then-has_value
returns-then-has_value c = λ facts is lists quiet.
    answered_known c.args.terms.now c.args.t c.requires.t c.law_arena.ensures _ _ c.args.lists.now.all.items facts is lists quiet
    (sym (c.has_value.ensures ∙ ap (λ xs. is_some (at xs c.args.t.0)) c.as_slice.ensures.value) ∙ c.if-has_value.true)

pub returns-then-branch : goal.returns-then-branch
returns-then-branch c = λ facts is lists quiet.
    answered_true c.args.terms.now c.args.t c.requires.t c.law_arena.ensures c.args.lists.now.direct.items c.args.lists.now.cores.items c.args.lists.now.all.items facts is lists quiet
    (sym (c.has_value.ensures ∙ ap (λ xs. is_some (at xs c.args.t.0)) c.as_slice.ensures.value) ∙ c.if-has_value.false) c.denied-supposed.result c.denied-supposed.ensures
    (told_some c.args.terms.now c.as_slice-cores.result.now c.args.lists.now.cores.items c.denied-supposed.result _ c.as_slice-cores.ensures.value c.if-branch.true c.in_ok-clashes.ensures)

pub returns-then-branch-2 : goal.returns-then-branch-2
returns-then-branch-2 c = λ facts is lists quiet.
    answered_false c.args.terms.now c.args.t c.requires.t c.law_arena.ensures c.args.lists.now.direct.items c.args.lists.now.cores.items c.args.lists.now.all.items facts is lists quiet
    (sym (c.has_value.ensures ∙ ap (λ xs. is_some (at xs c.args.t.0)) c.as_slice.ensures.value) ∙ c.if-has_value.false)
    (told_some c.args.terms.now c.as_slice-cores.result.now c.args.lists.now.cores.items (record { term = c.args.t; value = true }) _ c.as_slice-cores.ensures.value c.if-branch-2.true c.in_ok-clashes-2.ensures)

pub returns : goal.returns
returns c = λ facts is lists quiet.
    answered_none c.args.terms.now c.args.t c.requires.t c.law_arena.ensures c.args.lists.now.direct.items c.args.lists.now.cores.items c.args.lists.now.all.items facts is lists quiet
    c.denied-supposed.result c.denied-supposed.ensures
    (told_none c.args.terms.now c.as_slice-cores.result.now c.args.lists.now.cores.items c.denied-supposed.result _ c.as_slice-cores.ensures.value c.if-branch.false c.in_ok-clashes.ensures)
    (told_none c.args.terms.now c.as_slice-cores.result.now c.args.lists.now.cores.items (record { term = c.args.t; value = true }) _ c.as_slice-cores.ensures.value c.if-branch-2.false c.in_ok-clashes-2.ensures)
