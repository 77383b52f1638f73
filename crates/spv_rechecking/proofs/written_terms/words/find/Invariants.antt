use Rattle.std.proofs.Common.{◌≡◌, drop, map}
use Rattle.std.specs.Map.{lookup}
use Rattle.std.specs.Str.{bytes_eq}
use Rattle.spv_rechecking.proofs.written_terms.words.find.Given as goal

abbrev pub invariant-loop-text : goal.invariant-loop-text
invariant-loop-text g l =
    lookup (bytes_eq l.word) (map (λ e. (e.0.now, e.1)) l.entries) ≡ lookup (bytes_eq l.word) (map (λ e. (e.0.now, e.1)) (drop l.text-index l.entries))
