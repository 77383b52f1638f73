use Rattle.std.proofs.Common.{◌≡◌, drop, map}
use Rattle.std.specs.Map.{lookup}
use Rattle.std.specs.Str.{bytes_eq}
use Rattle.spv_lexer.proofs.words.find.Given as goal

abbrev pub invariant-loop-spelling : goal.invariant-loop-spelling
invariant-loop-spelling l = lookup (bytes_eq l.text) (map (λ e. (e.0.now, e.1)) l.entries) ≡ lookup (bytes_eq l.text) (map (λ e. (e.0.now, e.1)) (drop l.spelling-index l.entries))
