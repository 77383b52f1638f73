use Rattle.spv_share.specs.States.{AreSifted, GoesOn, IsSought}
use Rattle.spv_share.proofs.both.Both.seek.Given as goal

abbrev pub invariant-loop-place : goal.invariant-loop-place
invariant-loop-place l = record {
  goes : GoesOn l.terms l.fn.self l.self;
  sought : IsSought l.fn.self l.self l.place l.sought;
  sifted : AreSifted l.self l.waits.items;
}
