use Rattle.std.proofs.Common.{length, arith}
use Rattle.spv_atoms.specs.Atoms.{is_truth}
use Rattle.spv_search_terms.specs.split_candidates.Adding.{asked_of}
use Rattle.spv_search_terms.proofs.split_candidates.AddLemmas.{item_in, each_next}
use Rattle.spv_search_terms.proofs.split_candidates.adding.add_questions.Goals as goal

pub add_arguments-requires-clause-t : goal.add_arguments-requires-clause-t
add_arguments-requires-clause-t c = item_in (length c.args.terms.now.nodes) c.args.found.now c.loop-t.t-index (record { 0 = 0 }) c.requires.found (omega (arith, c.loop-t-test.true))

pub loop-t-preserved : goal.loop-t-preserved
loop-t-preserved c =
    each_next c.args.terms.now c.law_arena.ensures c.args.found.now c.requires.found c.loop-t.t-index (record { 0 = 0 }) (omega (arith, c.loop-t-test.true)) c.loop-t.out c.add_arguments.new.out _
    (asked_of (is_truth c.args.terms.now.shapes c.args.terms.now.decls)) c.loop-t.invariant c.in_ok-add_arguments.ensures.asked c.in_ok-add_arguments.ensures.in_range
