use Rattle.std.proofs.Common.{length, arith}
use Rattle.spv_atoms.specs.Atoms.{is_truth, is_atom}
use Rattle.spv_search_terms.proofs.split_candidates.AddLemmas.{item_in, passing_next}
use Rattle.spv_search_terms.proofs.split_candidates.adding.add_atoms.Goals as goal

pub is_atom-wanted-requires : goal.is_atom-wanted-requires
is_atom-wanted-requires c = item_in (length c.args.terms.now.nodes) c.args.found.now c.loop-t.t-index (record { 0 = 0 }) c.requires.found (omega (arith, c.loop-t-test.true))

pub loop-t-preserved : goal.loop-t-preserved
loop-t-preserved c =
    passing_next c.args.terms.now c.law_arena.ensures c.args.found.now c.requires.found c.loop-t.t-index (record { 0 = 0 }) (omega (arith, c.loop-t-test.true)) c.loop-t.out c.add_if.new.out _
    (is_atom (is_truth c.args.terms.now.shapes c.args.terms.now.decls)) c.loop-t.invariant c.is_atom-wanted.result c.is_atom-wanted.ensures c.in_ok-add_if.ensures
