use Rattle.std.proofs.Common.{◌≡◌, ◌≤◌, drop}
use Rattle.spv_grammar.specs.nesting.Level.{too_deep_from, too_deep}
use Rattle.spv_grammar.specs.nesting.Seen.{counters, IsCounted}
use Rattle.spv_grammar.proofs.nesting.scan.too_deep.Given as goal

abbrev pub invariant-loop-token : goal.invariant-loop-token
invariant-loop-token l = record {
  counted : IsCounted l.scan;
  low : l.scan.level ≤ 200;
  same : too_deep_from (counters l.scan) (drop l.token-index l.tokens) ≡ too_deep l.tokens;
}
