use Rattle.std.proofs.Common.{◌≡◌, drop}
use Rattle.spv_atoms.specs.Valued.{KnownIn}
use Rattle.spv_atoms.proofs.Values.{known_at}
use Rattle.spv_atoms.proofs.valued.given.Given as goal

abbrev pub invariant-loop-pair : goal.invariant-loop-pair
invariant-loop-pair l = record {
  in_range : KnownIn l.terms (drop l.pair-index l.known);
  same : known_at l.terms l.t (drop l.pair-index l.known) ≡ known_at l.terms l.t l.known;
}
