use Rattle.std.proofs.Common.{length, ◌&&◌, not, ◌∙◌, arith}
use mathlib.Core.Path.{ap₂}
use Rattle.spv_atoms.specs.Atoms.{is_truth}
use Rattle.spv_search_terms.specs.split_candidates.Adding.{is_asked}
use Rattle.spv_search_terms.proofs.split_candidates.AddLemmas.{item_in, passing_next}
use Rattle.spv_search_terms.proofs.split_candidates.adding.add_truths.Goals as goal

pub is_truth-truth-requires : goal.is_truth-truth-requires
is_truth-truth-requires c = item_in (length c.args.terms.now.nodes) c.args.found.now c.loop-t.t-index (record { 0 = 0 }) c.requires.found (omega (arith, c.loop-t-test.true))

pub is_truth_value-requires : goal.is_truth_value-requires
is_truth_value-requires c = item_in (length c.args.terms.now.nodes) c.args.found.now c.loop-t.t-index (record { 0 = 0 }) c.requires.found (omega (arith, c.loop-t-test.true))

pub loop-t-preserved : goal.loop-t-preserved
loop-t-preserved c =
    passing_next c.args.terms.now c.law_arena.ensures c.args.found.now c.requires.found c.loop-t.t-index (record { 0 = 0 }) (omega (arith, c.loop-t-test.true)) c.loop-t.out c.add_if.new.out _
    (is_asked (is_truth c.args.terms.now.shapes c.args.terms.now.decls)) c.loop-t.invariant c.and_not-wanted.result
    (c.and_not-wanted.ensures ∙ ap₂ (λ x y. x && not y) c.is_truth-truth.ensures c.is_truth_value.ensures) c.in_ok-add_if.ensures
