-- A text that is written piece by piece.
use Rattle.std.proofs.Common.{◌≡◌, ℕ, ◌+◌, ◌-◌, List, ◌++◌, take, drop, Option, sym, ap, ◌∙◌, subst, arith}
use Rattle.std.proofs.Math.Seq.{take-add}
use Rattle.std.proofs.lemmas.List.{take-append-drop}
use Rattle.spv_io.specs.Sink.{added, AddsPrefix}
use Rattle.spv_io.proofs.Added.{added-added, prefix_after, prefix_longer}

-- what stands between two places
abbrev pub piece : List ℕ → ℕ → ℕ → List ℕ
piece text at n = take (at + n - at) (drop at text)

piece_is : (text : List ℕ) (at n : ℕ) → take at text ++ piece text at n ≡ take (at + n) text
piece_is text at n = ap (λ m. take at text ++ take m (drop at text)) (less at n) ∙ sym (take-add at n text)
  where
    less : (i j : ℕ) → i + j - i ≡ j
    less i j = grind (arith)

pub more_written : (text : List ℕ) (at n : ℕ) (old : Option (List ℕ)) {mid new : Option (List ℕ)} → mid ≡ added old (take at text) → new ≡ added mid (piece text at n) → new ≡ added old (take (at + n) text)
more_written text at n old {mid} {new} so_far write =
    write ∙ ap (λ o. added o (piece text at n)) so_far ∙ added-added old (take at text) (piece text at n) ∙ ap (added old) (piece_is text at n)

pub cut_written : (text : List ℕ) (at n : ℕ) {old mid new : Option (List ℕ)} → mid ≡ added old (take at text) → AddsPrefix mid new (piece text at n) → AddsPrefix old new text
cut_written text at n {old} {mid} {new} so_far write =
    let upto : AddsPrefix old new (take (at + n) text) = subst (AddsPrefix old new) (piece_is text at n) (prefix_after (take at text) so_far write) in
    subst (AddsPrefix old new) (take-append-drop (at + n) text) (prefix_longer (drop (at + n) text) upto)
