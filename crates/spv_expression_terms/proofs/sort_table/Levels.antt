-- What is found in two lists one behind the other.
use Rattle.std.proofs.Common.{◌≡◌, Bool, true, false, cond, List, [], ◌∷◌, ◌++◌, Some, refl}
use Rattle.spv_logic.specs.declared.names.names.Symbol.{Symbol}
use Rattle.spv_program.specs.Lists.{same_name, found, first_of}

pub found_append : {X : Type 0} (xs ys : List (Symbol × X)) (x : Symbol) → found (xs ++ ys) x ≡ first_of (found xs x) (found ys x)
found_append [] ys x = refl
found_append (e ∷ xs) ys x = by (same_name e.0 x) (found_append xs ys x)
  where
    by : (b : Bool) → found (xs ++ ys) x ≡ first_of (found xs x) (found ys x) → cond b (Some e.1) (found (xs ++ ys) x) ≡ first_of (cond b (Some e.1) (found xs x)) (found ys x)
    by true h = refl
    by false h = h
