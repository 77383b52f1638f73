-- A list of pieces, written one after another.
use Rattle.std.proofs.Common.{◌≡◌, ◌+◌, ◌<◌, ℕ, List, [], ◌∷◌, ◌++◌, length, get_or, take, drop, Option, Result, Ok, Err, OnErr, sym, ◌∙◌, ap, subst}
use Rattle.std.proofs.lemmas.List.{append-nil, take_more, take-append-drop}
use Rattle.std.proofs.lemmas.List.Concat.{flat_map-append}
use Rattle.std.specs.List.{flat_map}
use Rattle.spv_io.specs.Sink.{added, AddsPrefix}
use Rattle.spv_io.proofs.Added.{added-added, prefix_after, prefix_longer}

flat_map-take : {X : Type 0} (f : X → List ℕ) (xs : List X) (i : ℕ) (x : X) → i < length xs → x ≡ get_or xs i x → flat_map f (take (i + 1) xs) ≡ flat_map f (take i xs) ++ f x
flat_map-take f xs i x h e =
    ap (flat_map f) (take_more xs i x h ∙ ap (λ y. take i xs ++ y ∷ []) (sym e)) ∙ flat_map-append f (take i xs) (x ∷ []) ∙ ap (λ l. flat_map f (take i xs) ++ l) (append-nil (f x))

-- one more piece: the step of a loop over the pieces
pub pieces_more : {X : Type 0} (f : X → List ℕ) (xs : List X) (i : ℕ) (x : X) (old mid new : Option (List ℕ)) (bytes : List ℕ) → i < length xs → x ≡ get_or xs i x → bytes ≡ f x → mid ≡ added old (flat_map f (take i xs)) → new ≡ added mid bytes → new ≡ added old (flat_map f (take (i + 1) xs))
pieces_more f xs i x old mid new bytes h e same so_far write =
    write ∙ ap (λ o. added o bytes) so_far ∙ ap (λ l. added (added old (flat_map f (take i xs))) l) same ∙ added-added old (flat_map f (take i xs)) (f x) ∙ ap (added old) (sym (flat_map-take f xs i x h e))

-- a piece that was written in part: the loop has written a prefix of all
pub pieces_prefix : {X : Type 0} (f : X → List ℕ) (xs : List X) (i : ℕ) (x : X) (old mid new : Option (List ℕ)) (bytes : List ℕ) → i < length xs → x ≡ get_or xs i x → bytes ≡ f x → mid ≡ added old (flat_map f (take i xs)) → AddsPrefix mid new bytes → AddsPrefix old new (flat_map f xs)
pieces_prefix {X} f xs i x old mid new bytes h e same so_far write =
    let upto = flat_map-take f xs i x h e in
    let whole : flat_map f (take (i + 1) xs) ++ flat_map f (drop (i + 1) xs) ≡ flat_map f xs = sym (flat_map-append f (take (i + 1) xs) (drop (i + 1) xs)) ∙ ap (flat_map f) (take-append-drop (i + 1) xs) in
    subst (λ (l : List ℕ). AddsPrefix old new l) whole
    (prefix_longer (flat_map f (drop (i + 1) xs))
    (subst (λ (l : List ℕ). AddsPrefix old new l) (ap (λ l. flat_map f (take i xs) ++ l) same ∙ sym upto) (prefix_after (flat_map f (take i xs)) so_far write)))

-- for a clause on `Err`
pub on_err : {T E P : Type 0} (r : Result T E) → P → OnErr r P
on_err (Ok x) p = tt
on_err (Err e) p = p
