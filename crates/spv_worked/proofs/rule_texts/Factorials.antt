-- The rules of factorials hold in the world of factorials.
use Rattle.std.proofs.Common.{◌≡◌, ℕ, zero, suc, ◌*◌, ℤ, pos, negsuc, ◌-ℤ◌, ◌*ℤ◌, Bool, true, false, not, ◌||◌, List, [], ◌∷◌, refl, sym, ap, subst, arith}
use Rattle.std.proofs.Math.IntN as math
use Rattle.std.specs.Int.RustNames.{int_lt}
use Rattle.spv_logic.specs.declared.types.Shape.{Shape}
use Rattle.spv_logic.specs.declared.types.Decl.{Decl}
use Rattle.spv_logic.specs.declared.types.Sort.{Sort}
use Rattle.spv_logic.specs.declared.types.Sort.TheVariants as sort
use Rattle.spv_logic.specs.declared.operators.Head.TheVariants as head
use Rattle.spv_logic.specs.Values.{Value, Number, number_of, value_eq}
use Rattle.spv_logic.specs.Sorts.{declared}
use Rattle.spv_logic.specs.Conditions.{answers, declared_result, fitted}
use Rattle.spv_logic.proofs.Equality.{int_eq-refl}
use Rattle.spv_worked.specs.rule_texts.Factorials.{factorial, natural, factorials, FactorialsHold}

before : (n : ℕ) → natural (pos (suc n) -ℤ pos 1) ≡ n
before n = ap natural (math.-ℤ_one (pos (suc n)))

-- the second rule, of a number
step : (z : ℤ) → (not (int_lt (pos 0) z) || value_eq (Number (pos (factorial (natural z)))) (Number (z *ℤ pos (factorial (natural (z -ℤ pos 1)))))) ≡ true
step (pos zero) = refl
step (negsuc n) = refl
step (pos (suc n)) =
    right (not (int_lt (pos 0) (pos (suc n)))) _
    (subst (λ (k : ℕ). value_eq (Number (pos (suc n * factorial n))) (Number (pos (suc n) *ℤ pos (factorial k))) ≡ true) (sym (before n)) (int_eq-refl (pos (suc n * factorial n))))
  where
    right : (a b : Bool) → b ≡ true → (a || b) ≡ true
    right true b e = refl
    right false b e = e

-- what f answers
answer : (shapes : List Shape) (decls : List Decl) (values : List Value) → declared_result (declared decls 7) ≡ sort.Int → answers shapes decls factorials 7 values ≡ factorials 7 values
answer shapes decls values is = subst (λ (s : Sort). fitted shapes s (factorials 7 values) ≡ factorials 7 values) (sym is) refl

-- the second rule, of any value
of_value : (shapes : List Shape) (decls : List Decl) (a : Value) → declared_result (declared decls 7) ≡ sort.Int
    → (not (int_lt (pos 0) (number_of a))
    || value_eq (answers shapes decls factorials 7 (a ∷ [])) (Number (number_of a *ℤ number_of (answers shapes decls factorials 7 (Number (number_of a -ℤ pos 1) ∷ []))))) ≡ true
of_value shapes decls a is =
    subst (λ (x : Value). (not (int_lt (pos 0) (number_of a)) || value_eq x (Number (number_of a *ℤ number_of (answers shapes decls factorials 7 (Number (number_of a -ℤ pos 1) ∷ []))))) ≡ true)
    (sym (answer shapes decls (a ∷ []) is))
    (subst (λ (y : Value). (not (int_lt (pos 0) (number_of a)) || value_eq (factorials 7 (a ∷ [])) (Number (number_of a *ℤ number_of y))) ≡ true)
    (sym (answer shapes decls (Number (number_of a -ℤ pos 1) ∷ []) is)) (step (number_of a)))

pub factorials_hold : FactorialsHold
factorials_hold shapes decls is = (
  (λ v fits. subst (λ (x : Value). value_eq x (Number (pos 1)) ≡ true) (sym (answer shapes decls (Number (pos 0) ∷ []) is)) refl),
  ((λ v fits. of_value shapes decls (v (head.Var (record { 0 = 11 }) sort.Int 0)) is), tt),
)
