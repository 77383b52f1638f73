use Rattle.std.proofs.Common.{length, arith}
use Rattle.spv_atoms.proofs.Adding.{added-more, below-drop}
use Rattle.spv_atoms.proofs.formulas.add_atoms.Goals as goal

pub loop-t-preserved : goal.loop-t-preserved
loop-t-preserved c = record {
  atoms = added-more c.args.terms.now c.law_arena.ensures c.args.found.now c.loop-t.t-index (record { 0 = 0 }) c.loop-t.out.items c.add_atom.new.known c.add_atom.new.out.items _ (omega (arith, c.loop-t-test.true)) c.in_ok-add_atom.ensures c.loop-t.invariant.atoms;
  same = c.in_ok-add_atom.ensures.same;
  in_range = c.in_ok-add_atom.ensures.in_range;
  found_in = below-drop (length c.args.terms.now.nodes) c.args.found.now c.loop-t.t-index (record { 0 = 0 }) (omega (arith, c.loop-t-test.true)) c.loop-t.invariant.found_in;
}
