use Rattle.std.proofs.Common.{◌≡◌, drop, not}
use Rattle.std.specs.Char.{is_ascii_lowercase}
use Rattle.std.specs.List.{list_all}
use Rattle.spv_rechecking.proofs.written_terms.words.is_folded.Given as goal

abbrev pub invariant-loop-byte : goal.invariant-loop-byte
invariant-loop-byte l = list_all (λ b. not (is_ascii_lowercase b)) l.word ≡ list_all (λ b. not (is_ascii_lowercase b)) (drop l.byte-index l.word)
