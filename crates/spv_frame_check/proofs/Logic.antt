-- Truth values, and numbers that are the same.
use Rattle.std.proofs.Common.{◌≡◌, ℕ, Bool, true, false, ◌||◌, nat_eq, List, [], ◌∷◌, ◌++◌, length, drop, get_or, ◌<◌, ◌+◌, refl, sym, ap, ◌∙◌, arith}
use Rattle.std.specs.List.{list_any}
use Rattle.std.proofs.lemmas.Bool.Decides.{nat_tests}
use Rattle.std.proofs.lemmas.List.{drop_more}
use Rattle.spv_program.specs.declared.types.Item.{Item}
use Rattle.spv_program.specs.declared.types.Item.TheVariants.{Variable, Class}
use Rattle.spv_program.specs.Types.{same_item}
use Rattle.spv_program.specs.Uses.{Root, Own, Shared, same_root}

pub or_false : (b : Bool) → b || false ≡ b
or_false true = refl
or_false false = refl

pub or_true : (b : Bool) → b || true ≡ true
or_true true = refl
or_true false = refl

pub or_grouped : (a b c : Bool) → (a || b) || c ≡ a || (b || c)
or_grouped true b c = refl
or_grouped false b c = refl

pub or_swapped : (a b : Bool) → a || b ≡ b || a
or_swapped true b = sym (or_true b)
or_swapped false b = sym (or_false b)

pub nat_eq-sym : (m n : ℕ) → nat_eq m n ≡ nat_eq n m
nat_eq-sym m n = grind (arith, nat_tests)

pub same_item-sym : (i j : Item) → same_item i j ≡ same_item j i
same_item-sym (Variable x) (Variable y) = nat_eq-sym x.0 y.0
same_item-sym (Variable x) (Class t) = refl
same_item-sym (Class t) (Variable x) = refl
same_item-sym (Class t) (Class u) = nat_eq-sym t.0 u.0

pub same_root-sym : (r s : Root) → same_root r s ≡ same_root s r
same_root-sym (Own x) (Own y) = nat_eq-sym x.0 y.0
same_root-sym (Own x) (Shared i) = refl
same_root-sym (Shared i) (Own x) = refl
same_root-sym (Shared i) (Shared j) = same_item-sym i j

pub any_both : {X : Type 0} (t : X → Bool) (xs ys : List X) → list_any t (xs ++ ys) ≡ list_any t xs || list_any t ys
any_both t [] ys = refl
any_both t (x ∷ xs) ys = ap (λ b. t x || b) (any_both t xs ys) ∙ sym (or_grouped (t x) (list_any t xs) (list_any t ys))

-- an item, and those behind it
pub drop_item : {X : Type 0} (xs : List X) (i : ℕ) (x : X) → i < length xs → x ≡ get_or xs i x → drop i xs ≡ x ∷ drop (i + 1) xs
drop_item xs i x h is = drop_more xs i x h ∙ ap (λ y. y ∷ drop (i + 1) xs) (sym is)
