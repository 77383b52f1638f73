use Rattle.std.proofs.Common.{◌<◌, ◌+◌, Bool, ℤ, List, [], ◌∷◌, ◌++◌, length, to_z, of_z, drop, Ok, sym, ap, ◌∙◌, subst, arith}
use Rattle.std.specs.Int.{w128}
use Rattle.std.proofs.lemmas.List.{drop_more}
use Rattle.spv_proof_steps.proofs.StepLemmas.{AllBelow-read}
use Rattle.spv_atoms.proofs.Sums.{narrow}
use Rattle.spv_logic.specs.declared.operators.Head.TheVariants.{Num}
use Rattle.spv_term.specs.Arena.{tree}
use Rattle.spv_rules.specs.declared.matching.bindings.Bound.{Bound}
use Rattle.spv_rules.specs.matching.Matches as spec
use Rattle.spv_rules.specs.matching.Views.{setting_in, matched_after, met_by_in, inside_in, AreBound, AllBound}
use Rattle.spv_rules.proofs.matching.Sequences.{if_fault}
use Rattle.spv_rules.proofs.matching.Meetings.{nothing_more, test_failed, test_passed, test_stops, passed_stops}
use Rattle.spv_rules.proofs.matching.Walks.{Beside, goes_next, from_all, beside_next, beside_stops}
use Rattle.spv_rules.proofs.matching.Pieces.{variable_case, number_case, application_case, same_heads, other_heads, inside_begins, found_behind, bound_at, argument_before, argument_in, number_fits}
use Rattle.spv_rules.proofs.matching.patterns.+patterns.Goals as goal

-- ---- by each used term

pub applied-met_by-requires : goal.applied-met_by-requires
applied-met_by-requires t c =
    (omega (arith, c.decreases), (c.requires.may, (AllBelow-read (length c.args.s.now.terms.now.nodes) c.args.s.now.used.now c.loop-u.u-index _ c.requires.may.setting.used c.loop-u-test.true, c.loop-u.invariant.in_range)))

pub applied-loop-u-preserved : goal.applied-loop-u-preserved
applied-loop-u-preserved t c =
    goes_next c.args.s.now.terms.now (met_by_in c.args.s.now c.args.m.now) _ c.loop-u.found.items (drop c.loop-u.u-index c.args.s.now.used.now) (drop (c.loop-u.u-index + 1) c.args.s.now.used.now) _
    (drop_more c.args.s.now.used.now c.loop-u.u-index _ c.loop-u-test.true) c.loop-u.invariant c.met_by.new.found.items c.in_ok-met_by.ensures.ok

-- ---- after each match

pub each_matched-loop-bound-init : goal.each_matched-loop-bound-init
each_matched-loop-bound-init t c =
    from_all c.args.s.now.terms.now (spec.matched (setting_in c.args.s.now) (tree c.args.s.now.patterns.now c.args.pattern) (tree c.args.s.now.terms.now c.args.t)) c.args.before.now c.new-found.result.items c.new-found.ensures.items

pub each_matched-matched-requires : goal.each_matched-matched-requires
each_matched-matched-requires t c = (
  omega (arith, c.decreases),
  (
    record {
      setting = c.requires.setting;
      pattern = c.requires.pattern;
      term = c.requires.t;
      bound = subst (AreBound (length c.args.s.now.terms.now.nodes)) (sym (c.as_slice.ensures ∙ c.bound-item.is))
          (bound_at (length c.args.s.now.terms.now.nodes) c.args.before.now c.loop-bound.bound-index c.bound-item.result c.requires.before c.loop-bound-test.true);
    },
    c.loop-bound.invariant.in_range,
  ),
)

pub each_matched-loop-bound-preserved : goal.each_matched-loop-bound-preserved
each_matched-loop-bound-preserved t c =
    goes_next c.args.s.now.terms.now (matched_after c.args.s.now c.args.pattern c.args.t) _ c.loop-bound.found.items (drop c.loop-bound.bound-index c.args.before.now) (drop (c.loop-bound.bound-index + 1) c.args.before.now) c.as_slice.result.now
    (drop_more c.args.before.now c.loop-bound.bound-index c.bound-item.result c.loop-bound-test.true ∙ ap (λ (b : List Bound). b ∷ drop (c.loop-bound.bound-index + 1) c.args.before.now) (sym (c.as_slice.ensures ∙ c.bound-item.is)))
    c.loop-bound.invariant c.matched.new.found.items c.in_ok-matched.ensures.ok

-- ---- arguments

pub inside-loop-i-init : goal.inside-loop-i-init
inside-loop-i-init t c =
    inside_begins c.args.s.now c.args.m.now c.law_arena.ensures c.node.result.now c.node.ensures c.law_arena-2.ensures c.args.u c.node-2.result.now c.node-2.ensures c.as_slice-patterns.result.now c.as_slice-terms.result.now c.as_slice-patterns.ensures c.as_slice-terms.ensures
    c.put_copy.new.found.items (c.in_ok-put_copy.ensures ∙ ap (λ (xs : List (List Bound)). xs ++ c.args.m.now.bound.now ∷ []) c.new-found.ensures.items) c.requires.may.bound

pub inside-each_matched-requires : goal.inside-each_matched-requires
inside-each_matched-requires t c =
    let left : c.loop-i.i < length c.as_slice-patterns.result.now = omega (arith, c.loop-i-test.true, c.lesser-count.ensures) in
    let right : c.loop-i.i < length c.as_slice-terms.result.now = omega (arith, c.loop-i-test.true, c.lesser-count.ensures) in
    let before = argument_before c.args.s.now.patterns.now c.law_arena.ensures c.args.m.now.pattern c.node.result.now c.node.ensures c.as_slice-patterns.result.now c.as_slice-patterns.ensures c.loop-i.i (record { 0 = 0 }) left in (
      omega (arith, c.decreases, before),
      (
        c.requires.may.setting,
        (
          argument_in c.args.s.now.patterns.now c.law_arena.ensures c.args.m.now.pattern c.node.result.now c.node.ensures c.as_slice-patterns.result.now c.as_slice-patterns.ensures c.loop-i.i _ left,
          (
            argument_in c.args.s.now.terms.now c.law_arena-2.ensures c.args.u c.node-2.result.now c.node-2.ensures c.as_slice-terms.result.now c.as_slice-terms.ensures c.loop-i.i _ right,
            subst (AllBound (length c.args.s.now.terms.now.nodes)) (sym c.as_slice.ensures.value) c.loop-i.invariant.in_range,
          ),
        ),
      ),
    )

pub inside-returns-in_err-found-clause-fault : goal.inside-returns-in_err-found-clause-fault
inside-returns-in_err-found-clause-fault t c =
    let left : c.loop-i.i < length c.as_slice-patterns.result.now = omega (arith, c.loop-i-test.true, c.lesser-count.ensures) in
    let right : c.loop-i.i < length c.as_slice-terms.result.now = omega (arith, c.loop-i-test.true, c.lesser-count.ensures) in
    if_fault c.from_residual-in_err-found.result c.in_err-found.field-0.0 _ c.from_residual-in_err-found.ensures.1
    (beside_stops c.args.s.now.patterns.now c.args.s.now.terms.now (setting_in c.args.s.now) (inside_in c.args.s.now c.args.m.now c.args.u) c.as_slice.result.now _ _ _ _ _ _
    (drop_more c.as_slice-patterns.result.now c.loop-i.i _ left) (drop_more c.as_slice-terms.result.now c.loop-i.i _ right)
    (subst (λ (xs : List (List Bound)). Beside c.args.s.now.patterns.now c.args.s.now.terms.now (setting_in c.args.s.now) (inside_in c.args.s.now c.args.m.now c.args.u) xs (drop c.loop-i.i c.as_slice-patterns.result.now) (drop c.loop-i.i c.as_slice-terms.result.now)) (sym c.as_slice.ensures.value) c.loop-i.invariant)
    c.in_err-found.field-0.0 c.in_err-found.ensures.fault)

pub inside-loop-i-preserved : goal.inside-loop-i-preserved
inside-loop-i-preserved t c =
    let left : c.loop-i.i < length c.as_slice-patterns.result.now = omega (arith, c.loop-i-test.true, c.lesser-count.ensures) in
    let right : c.loop-i.i < length c.as_slice-terms.result.now = omega (arith, c.loop-i-test.true, c.lesser-count.ensures) in
    beside_next c.args.s.now.patterns.now c.args.s.now.terms.now (setting_in c.args.s.now) (inside_in c.args.s.now c.args.m.now c.args.u) c.as_slice.result.now _ _ _ _ _ _
    (drop_more c.as_slice-patterns.result.now c.loop-i.i _ left) (drop_more c.as_slice-terms.result.now c.loop-i.i _ right)
    (subst (λ (xs : List (List Bound)). Beside c.args.s.now.patterns.now c.args.s.now.terms.now (setting_in c.args.s.now) (inside_in c.args.s.now c.args.m.now c.args.u) xs (drop c.loop-i.i c.as_slice-patterns.result.now) (drop c.loop-i.i c.as_slice-terms.result.now)) (sym c.as_slice.ensures.value) c.loop-i.invariant)
    c.in_ok-found.found.items c.in_ok-found.ensures.ok

-- ---- cases

pub matched-returns-then-is_variable-clause-ok : goal.matched-returns-then-is_variable-clause-ok
matched-returns-then-is_variable-clause-ok t c =
    rw (variable_case c.args.s.now c.args.m.now c.law_arena.ensures c.node.result.now c.node.ensures (sym c.if-is_variable.true ∙ c.is_variable.ensures)) c.met.ensures.ok

pub matched-returns-then-is_variable-clause-fault : goal.matched-returns-then-is_variable-clause-fault
matched-returns-then-is_variable-clause-fault t c =
    rw (variable_case c.args.s.now c.args.m.now c.law_arena.ensures c.node.result.now c.node.ensures (sym c.if-is_variable.true ∙ c.is_variable.ensures)) c.met.ensures.fault

pub matched-met_number-requires-clause-number : goal.matched-met_number-requires-clause-number
matched-met_number-requires-clause-number t c =
    let fits_here = number_fits c.args.s.now.patterns.now c.law_arena.ensures c.args.m.now.pattern.0 c.node.result.now c.node.ensures c.in-Num.number c.in-Num.is in
    rw (narrow c.in-Num.number fits_here) fits_here

pub matched-returns-in-Num-clause-ok : goal.matched-returns-in-Num-clause-ok
matched-returns-in-Num-clause-ok t c =
    let fits_here = number_fits c.args.s.now.patterns.now c.law_arena.ensures c.args.m.now.pattern.0 c.node.result.now c.node.ensures c.in-Num.number c.in-Num.is in
    rw (number_case c.args.s.now c.args.m.now c.law_arena.ensures c.node.result.now c.node.ensures (sym c.if-is_variable.false ∙ c.is_variable.ensures) (to_z w128 (of_z w128 c.in-Num.number)) (c.in-Num.is ∙ ap (λ (z : ℤ). Num z) (sym (narrow c.in-Num.number fits_here)))) c.met_number.ensures.ok

pub matched-returns-in-Num-clause-fault : goal.matched-returns-in-Num-clause-fault
matched-returns-in-Num-clause-fault t c =
    let fits_here = number_fits c.args.s.now.patterns.now c.law_arena.ensures c.args.m.now.pattern.0 c.node.result.now c.node.ensures c.in-Num.number c.in-Num.is in
    rw (number_case c.args.s.now c.args.m.now c.law_arena.ensures c.node.result.now c.node.ensures (sym c.if-is_variable.false ∙ c.is_variable.ensures) (to_z w128 (of_z w128 c.in-Num.number)) (c.in-Num.is ∙ ap (λ (z : ℤ). Num z) (sym (narrow c.in-Num.number fits_here)))) c.met_number.ensures.fault

pub matched-returns-in_default : goal.matched-returns-in_default
matched-returns-in_default t c =
    rw (application_case c.args.s.now c.args.m.now c.law_arena.ensures c.node.result.now c.node.ensures (sym c.if-is_variable.false ∙ c.is_variable.ensures) c.in_default.not-Num) c.applied.ensures

-- ---- by one used term

pub met_by-returns-then-not-same_head-clause-ok : goal.met_by-returns-then-not-same_head-clause-ok
met_by-returns-then-not-same_head-clause-ok t c =
    rw (other_heads c.args.s.now c.args.m.now c.law_arena.ensures c.node.result.now c.node.ensures c.law_arena-2.ensures c.args.u c.node-2.result.now c.node-2.ensures (sym c.if-not-same_head.true ∙ c.same_head.ensures))
    (nothing_more c.args.s.now.terms.now c.args.found.now.items c.requires.found)

pub met_by-returns-in_err-have_one_value-clause-fault : goal.met_by-returns-in_err-have_one_value-clause-fault
met_by-returns-in_err-have_one_value-clause-fault t c =
    if_fault c.from_residual.result c.in_err-have_one_value.field-0.0 _ c.from_residual.ensures.1
    (rw (same_heads c.args.s.now c.args.m.now c.law_arena.ensures c.node.result.now c.node.ensures c.law_arena-2.ensures c.args.u c.node-2.result.now c.node-2.ensures (sym c.if-not-same_head.false ∙ c.same_head.ensures))
    (test_stops c.args.s.now.terms.now _ _ c.in_err-have_one_value.field-0.0 c.in_err-have_one_value.ensures.fault))

pub met_by-returns-then-not-branch-clause-ok : goal.met_by-returns-then-not-branch-clause-ok
met_by-returns-then-not-branch-clause-ok t c =
    rw (same_heads c.args.s.now c.args.m.now c.law_arena.ensures c.node.result.now c.node.ensures c.law_arena-2.ensures c.args.u c.node-2.result.now c.node-2.ensures (sym c.if-not-same_head.false ∙ c.same_head.ensures))
    (test_failed c.args.s.now.terms.now c.args.found.now.items c.requires.found _ _ (c.in_ok-have_one_value.ensures.value ∙ ap (λ (b : Bool). Ok b) c.if-not-branch.true))

pub met_by-returns-in_err-more-clause-fault : goal.met_by-returns-in_err-more-clause-fault
met_by-returns-in_err-more-clause-fault t c =
    if_fault c.from_residual-in_err-more.result c.in_err-more.field-0.0 _ c.from_residual-in_err-more.ensures.1
    (rw (same_heads c.args.s.now c.args.m.now c.law_arena.ensures c.node.result.now c.node.ensures c.law_arena-2.ensures c.args.u c.node-2.result.now c.node-2.ensures (sym c.if-not-same_head.false ∙ c.same_head.ensures))
    (passed_stops c.args.s.now.terms.now _ _ c.in_err-more.field-0.0 (c.in_ok-have_one_value.ensures.value ∙ ap (λ (b : Bool). Ok b) c.if-not-branch.false) c.in_err-more.ensures.fault))

pub met_by-returns-clause-ok : goal.met_by-returns-clause-ok
met_by-returns-clause-ok t c =
    rw (same_heads c.args.s.now c.args.m.now c.law_arena.ensures c.node.result.now c.node.ensures c.law_arena-2.ensures c.args.u c.node-2.result.now c.node-2.ensures (sym c.if-not-same_head.false ∙ c.same_head.ensures))
    (test_passed c.args.s.now.terms.now c.args.found.now.items c.requires.found _ _ _ (c.in_ok-have_one_value.ensures.value ∙ ap (λ (b : Bool). Ok b) c.if-not-branch.false)
    (found_behind c.args.s.now.terms.now (inside_in c.args.s.now c.args.m.now c.args.u) c.args.found.now.items c.in_ok-more.more.items c.append.new.self.items c.requires.found c.in_ok-more.ensures.ok c.in_ok-append.ensures.items))
