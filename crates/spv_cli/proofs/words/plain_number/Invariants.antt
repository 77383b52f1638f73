use Rattle.std.proofs.Common.{◌≡◌, ◌≤◌, take, Some, fold}
use Rattle.spv_cli.specs.Commands.{behind_digit}
use Rattle.spv_cli.proofs.words.plain_number.Given as goal

abbrev pub invariant-loop-byte : goal.invariant-loop-byte
invariant-loop-byte l = record {
  so_far : fold (behind_digit l.most) (Some 0) (take l.byte-index l.bytes) ≡ Some l.number;
  within : l.number ≤ l.most;
}
