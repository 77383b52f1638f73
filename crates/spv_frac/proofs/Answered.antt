-- From what a call answered to what an operation asks.
use Rattle.std.proofs.Common.{◌≡◌, ◌↔◌, refl, subst, Bool, true, ◌&&◌, IsTrue, IsOk, IsErr, Result, Ok, Err}
use Rattle.std.proofs.lemmas.Bool.{false≢true, and_parts, and_from}

-- a refusal, where what is asked does not hold
pub refused : {T E : Type 0} (r : Result T E) (P : Type 0) → IsErr r → ¬ P → IsOk r ↔ P
refused (Ok x) P err not = absurd (false≢true err)
refused (Err e) P err not = (λ ok. absurd (false≢true ok), λ p. absurd (not p))

-- an answer, where it holds
pub answered : {P : Type 0} → P → (true ≡ true) ↔ P
answered p = (λ _. p, λ _. refl)

pub first_of : (x y : Bool) → IsTrue (x && y) → IsTrue x
first_of x y h = (and_parts x y h).0

pub second_of : (x y : Bool) → IsTrue (x && y) → IsTrue y
second_of x y h = (and_parts x y h).1

pub both_of : (x y : Bool) → IsTrue x → IsTrue y → IsTrue (x && y)
both_of x y h k = and_from x y h k

-- what was answered for a number holds for the same number under its own name
pub same_test : {A : Type 0} (test : A → Bool) (x y : A) → x ≡ y → IsTrue (test x) → IsTrue (test y)
same_test test x y e h = subst (λ z. IsTrue (test z)) e h
