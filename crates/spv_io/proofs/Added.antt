-- One write after another.
use Rattle.std.proofs.Common.{◌≡◌, ◌+◌, ℕ, List, [], ◌++◌, length, take, Option, Some, None, refl, ap, sym, ◌∙◌, append_assoc, arith}
use Rattle.std.proofs.Math.Seq.{take-append-add}
use Rattle.std.proofs.lemmas.List.{append-nil, length-append, take-append-le}
use Rattle.spv_io.specs.Sink.{added, AddsPrefix}

-- adding nothing
pub added-nil : (old : Option (List ℕ)) → added old [] ≡ old
added-nil None = refl
added-nil (Some written) = ap Some (append-nil written)

-- adding twice is adding once
pub added-added : (old : Option (List ℕ)) (a b : List ℕ) → added (added old a) b ≡ added old (a ++ b)
added-added None a b = refl
added-added (Some written) a b = ap Some (append_assoc written a b)

-- a prefix of a is one of a with more
pub prefix_longer : {old new : Option (List ℕ)} {a : List ℕ} (b : List ℕ) → AddsPrefix old new a → AddsPrefix old new (a ++ b)
prefix_longer {old} {new} {a} b h = record {
  count = h.count;
  within = let within = h.within in omega (arith, length-append a b);
  is_added = h.is_added ∙ ap (added old) (sym (take-append-le h.count a b h.within));
}

-- all of a, and then a prefix of b
pub prefix_after : {old mid new : Option (List ℕ)} (a : List ℕ) {b : List ℕ} → mid ≡ added old a → AddsPrefix mid new b → AddsPrefix old new (a ++ b)
prefix_after {old} {mid} {new} a {b} all h = record {
  count = length a + h.count;
  within = let within = h.within in omega (arith, length-append a b);
  is_added = h.is_added ∙ ap (λ middle. added middle (take h.count b)) all ∙ added-added old a (take h.count b) ∙ ap (added old) (sym (take-append-add a b h.count));
}
