-- Lists whose items belong together, one by one.
use Rattle.std.proofs.Common.{◌≡◌, ℕ, ◌+◌, ◌<◌, ◌≤◌, List, [], ◌∷◌, ◌++◌, take, length, take, get_or, sym, subst}
use Rattle.std.proofs.lemmas.List.{take_more, take_all}

abbrev pub Beside : {X Y : Type 0} → (X → Y → Type 0) → List X → List Y → Type 0
Beside R [] [] = Unit {0}
Beside R (x ∷ xs) (y ∷ ys) = R x y × Beside R xs ys
Beside R _ _ = ⊥

-- these belong to those that were come to
pub record SoFar {X Y : Type 0} (R : X → Y → Type 0) (xs : List X) (ys : List Y) : Type 0 where
  pub beside : Beside R xs ys

module _ {X Y : Type 0} (R : X → Y → Type 0) where
  beside-push : (xs : List X) (ys : List Y) (x : X) (y : Y) → Beside R xs ys → R x y → Beside R (xs ++ x ∷ []) (ys ++ y ∷ [])
  beside-push [] [] x y h r = (r, tt)
  beside-push [] (z ∷ ys) x y h r = absurd h
  beside-push (w ∷ xs) [] x y h r = absurd h
  beside-push (w ∷ xs) (z ∷ ys) x y h r = (h.0, beside-push xs ys x y h.1 r)

  pub so_far-begins : (xs : List X) (ys : List Y) → ys ≡ [] → SoFar R (take 0 xs) ys
  so_far-begins xs ys e = subst (SoFar R []) (sym e) (record { beside = tt })

  pub so_far-more : (xs : List X) (k : ℕ) (d : X) (ys out : List Y) (y : Y) → k < length xs → SoFar R (take k xs) ys → R (get_or xs k d) y → out ≡ ys ++ y ∷ [] → SoFar R (take (k + 1) xs) out
  so_far-more xs k d ys out y less s r e =
      subst (SoFar R (take (k + 1) xs)) (sym e)
      (subst (λ zs. SoFar R zs (ys ++ y ∷ [])) (sym (take_more xs k d less)) (record { beside = beside-push (take k xs) ys (get_or xs k d) y s.beside r }))

  pub so_far-end : (xs : List X) (k : ℕ) (ys zs : List Y) → length xs ≤ k → SoFar R (take k xs) ys → zs ≡ ys → Beside R xs zs
  so_far-end xs k ys zs le s e = subst (Beside R xs) (sym e) (subst (λ us. Beside R us ys) (take_all k xs le) s.beside)

module _ {X Y : Type 0} (R : X → Y → Type 0) where
  pub so_far-item : (xs : List X) (k : ℕ) (x : X) (ys out : List Y) (y : Y) → k < length xs → x ≡ get_or xs k x → SoFar R (take k xs) ys → R x y → out ≡ ys ++ y ∷ [] → SoFar R (take (k + 1) xs) out
  so_far-item xs k x ys out y less is s r e = so_far-more R xs k x ys out y less s (subst (λ z. R z y) is r) e
