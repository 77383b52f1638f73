-- Finite maps after a change.
use Rattle.std.proofs.Common.{◌≡◌, Bool, true, false, cond, List, [], ◌∷◌, refl, sym, ap, ◌∙◌, Some, arith, filter}
use Rattle.std.specs.Prelude.{is_some}
use Rattle.std.proofs.lemmas.Bool.{false≢true, eqb-true}
use Rattle.std.proofs.lemmas.Bool.Decides.{nat_tests}
use Rattle.spv_logic.specs.declared.names.names.Symbol.{Symbol}
use Rattle.spv_program.specs.Lists.{same_name, found, changed}

pub other_way : (x y : Symbol) → same_name x y ≡ false → same_name y x ≡ false
other_way x y h = grind (arith, nat_tests)

pub same_names : (x y : Symbol) → same_name x y ≡ true → x ≡ y
same_names x y h = let e = eqb-true x.0 y.0 h in λ i. record { 0 = e i }

same_step : {X : Type 0} (e : Symbol × X) (es : List (Symbol × X)) (x : Symbol) (w : X) → (is_some (found es x) ≡ true → found (changed es x w) x ≡ Some w) → (b : Bool) → same_name e.0 x ≡ b → is_some (cond b (Some e.1) (found es x)) ≡ true → found (cond b ((e.0, w) ∷ es) (e ∷ changed es x w)) x ≡ Some w
same_step e es x w later true h s = ap (λ c. cond c (Some w) (found es x)) h
same_step e es x w later false h s = ap (λ c. cond c (Some e.1) (found (changed es x w) x)) h ∙ later s

-- what is put under a name that is there is found there
pub found-changed-same : {X : Type 0} (es : List (Symbol × X)) (x : Symbol) (w : X) → is_some (found es x) ≡ true → found (changed es x w) x ≡ Some w
found-changed-same [] x w s = absurd (false≢true s)
found-changed-same (e ∷ es) x w s = same_step e es x w (found-changed-same es x w) (same_name e.0 x) refl s

other_step : {X : Type 0} (e : Symbol × X) (es : List (Symbol × X)) (x y : Symbol) (w : X) → same_name x y ≡ false → found (changed es x w) y ≡ found es y → (b : Bool) → same_name e.0 x ≡ b → found (cond b ((e.0, w) ∷ es) (e ∷ changed es x w)) y ≡ found (e ∷ es) y
other_step e es x y w apart later true h =
    let differ : same_name e.0 y ≡ false = ap (λ n. same_name n y) (same_names e.0 x h) ∙ apart in
    ap (λ c. cond c (Some w) (found es y)) differ ∙ sym (ap (λ c. cond c (Some e.1) (found es y)) differ)
other_step e es x y w apart later false h = ap (cond (same_name e.0 y) (Some e.1)) later

-- another name keeps what it had
pub found-changed-other : {X : Type 0} (es : List (Symbol × X)) (x y : Symbol) (w : X) → same_name x y ≡ false → found (changed es x w) y ≡ found es y
found-changed-other [] x y w apart = refl
found-changed-other (e ∷ es) x y w apart =
    other_step e es x y w apart (found-changed-other es x y w apart) (same_name e.0 x) refl

-- all items of a list pass a test that is always passed
pub filter-all : {X : Type 0} (xs : List X) → filter (λ x. true) xs ≡ xs
filter-all [] = refl
filter-all (x ∷ xs) = ap (λ ys. x ∷ ys) (filter-all xs)
