use Rattle.std.proofs.Common.{◌≤◌, ◌+◌, ◌-◌, length, drop}
use Rattle.spv_lexer.proofs.Progress.{Reached}
use Rattle.spv_lexer.proofs.lexer.read.Given as goal

abbrev pub invariant-loop-at : goal.invariant-loop-at
invariant-loop-at l = record {
  reached : Reached l.fn.names l.text l.line (drop l.at l.text) l.names l.tokens.items;
  within : l.at ≤ length l.text;
  lines : l.line ≤ l.at + 1;
  room : length l.names ≤ length l.fn.names + l.at;
}

abbrev pub decreases-loop-at : goal.decreases-loop-at
decreases-loop-at l = length l.text - l.at
