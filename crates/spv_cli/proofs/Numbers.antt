-- Numbers of plain digits, and the procedures of a generated program, one by one.
use Rattle.std.proofs.Common.{◌≡◌, ◌∙◌, ℕ, zero, suc, ◌+◌, ◌<◌, List, [], ◌∷◌, ◌++◌, length, take, drop, Some, None, refl, sym, ap, fold, subst, arith}
use Rattle.std.specs.Prelude.{slice_get}
use Rattle.spv_cli.specs.Commands.{behind_digit, plain_number}
use Rattle.spv_cli.specs.Drill.{procedure_at, procedures, stepped}

-- ---- digits

fold_next : {X Y : Type 0} (f : Y → X → Y) (y : Y) (xs : List X) (i : ℕ) (x : X) → slice_get xs i ≡ Some x → fold f y (take (suc i) xs) ≡ f (fold f y (take i xs)) x
fold_next f y [] i x at = cc
fold_next f y (z ∷ xs) zero x at = let same : z ≡ x = cc in ap (f y) same
fold_next f y (z ∷ xs) (suc i) x at = fold_next f (f y z) xs i x at

fold_split : {X Y : Type 0} (f : Y → X → Y) (y : Y) (xs : List X) (i : ℕ) → fold f y xs ≡ fold f (fold f y (take i xs)) (drop i xs)
fold_split f y xs zero = refl
fold_split f y [] (suc i) = refl
fold_split f y (x ∷ xs) (suc i) = fold_split f (f y x) xs i

none_stays : (most : ℕ) (bytes : List ℕ) → fold (behind_digit most) None bytes ≡ None
none_stays most [] = refl
none_stays most (byte ∷ bytes) = none_stays most bytes

next : (i : ℕ) → suc i ≡ i + 1
next i = grind (arith)

module _ (most : ℕ) (bytes : List ℕ) (i byte n : ℕ) (at : slice_get bytes i ≡ Some byte) (so_far : fold (behind_digit most) (Some 0) (take i bytes) ≡ Some n) where
  -- one digit more
  pub more_digits : (m : ℕ) → Some m ≡ behind_digit most (Some n) byte → fold (behind_digit most) (Some 0) (take (i + 1) bytes) ≡ Some m
  more_digits m e =
      subst (λ k. fold (behind_digit most) (Some 0) (take k bytes) ≡ Some m) (next i) (fold_next (behind_digit most) (Some 0) bytes i byte at ∙ ap (λ o. behind_digit most o byte) so_far ∙ sym e)

  -- or what is none
  pub no_number : None ≡ behind_digit most (Some n) byte → None ≡ fold (behind_digit most) (Some 0) bytes
  no_number e =
      sym (none_stays most (drop (suc i) bytes))
      ∙ ap (λ o. fold (behind_digit most) o (drop (suc i) bytes)) (e ∙ ap (λ o. behind_digit most o byte) (sym so_far) ∙ sym (fold_next (behind_digit most) (Some 0) bytes i byte at))
      ∙ sym (fold_split (behind_digit most) (Some 0) bytes (suc i))

pub digits_there : (most : ℕ) (bytes : List ℕ) (i : ℕ) → i < length bytes → plain_number most bytes ≡ fold (behind_digit most) (Some 0) bytes
digits_there most [] i lt = absurd (omega (arith, lt))
digits_there most (byte ∷ bytes) i lt = refl

-- ---- procedures

-- where the generator stands behind so many of them
abbrev pub behind : ℕ → ℕ → ℕ
behind s zero = s
behind s (suc n) = behind (stepped (stepped s)) n

pub one_behind : (s n : ℕ) → behind s (suc n) ≡ stepped (stepped (behind s n))
one_behind s zero = refl
one_behind s (suc n) = one_behind (stepped (stepped s)) n

one_more : (k s n : ℕ) → procedures k s (suc n) ≡ procedures k s n ++ procedure_at (k + n) (stepped (behind s n)) ∷ []
one_more k s zero = ap (λ j. procedure_at j (stepped s) ∷ []) (plus_zero k)
  where
    plus_zero : (k : ℕ) → k ≡ k + 0
    plus_zero k = grind (arith)
one_more k s (suc n) = ap (λ l. procedure_at k (stepped s) ∷ l) (one_more (suc k) (stepped (stepped s)) n ∙ ap (λ j. procedures (suc k) (stepped (stepped s)) n ++ procedure_at j (stepped (behind (stepped (stepped s)) n)) ∷ []) (plus k n))
  where
    plus : (k n : ℕ) → suc k + n ≡ k + suc n
    plus k n = grind (arith)

pub procedures_more : (s n : ℕ) → procedures 1 s (n + 1) ≡ procedures 1 s n ++ procedure_at (n + 1) (stepped (behind s n)) ∷ []
procedures_more s n = ap (procedures 1 s) (sym (next n)) ∙ one_more 1 s n ∙ ap (λ j. procedures 1 s n ++ procedure_at j (stepped (behind s n)) ∷ []) (other n)
  where
    other : (n : ℕ) → 1 + n ≡ n + 1
    other n = grind (arith)

pub behind_more : (s n : ℕ) → behind s (n + 1) ≡ stepped (stepped (behind s n))
behind_more s n = ap (behind s) (sym (next n)) ∙ one_behind s n
