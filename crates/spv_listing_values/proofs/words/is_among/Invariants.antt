use Rattle.std.proofs.Common.{◌≡◌, drop, map}
use Rattle.std.specs.List.{list_any}
use Rattle.std.specs.Str.{bytes_eq}
use Rattle.spv_listing_values.proofs.words.is_among.Given as goal

abbrev pub invariant-loop-known : goal.invariant-loop-known
invariant-loop-known l = list_any (bytes_eq l.word) (map (λ w. w.now) l.words) ≡ list_any (bytes_eq l.word) (map (λ w. w.now) (drop l.known-index l.words))
