use Rattle.std.proofs.Common.{◌≡◌, ◌+◌, drop}
use Rattle.std.specs.Char.{is_ascii_alphanumeric}
use Rattle.std.specs.List.{prefix_len}
use Rattle.spv_lexer.proofs.front.letters.Given as goal

abbrev pub invariant-loop-len : goal.invariant-loop-len
invariant-loop-len l = prefix_len is_ascii_alphanumeric l.text ≡ l.len + prefix_len is_ascii_alphanumeric (drop l.len l.text)
