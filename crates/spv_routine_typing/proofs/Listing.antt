-- The variables of a GLOBAL list in a table.
use Rattle.std.proofs.Common.{◌≡◌, Bool, true, false, cond, ◌||◌, List, [], ◌∷◌, ◌++◌, Option, Some, None, is_some, refl, sym, ap, ◌∙◌, ℕ}
use Rattle.std.proofs.lemmas.Bool.{eqb-true, false≢true}
use Rattle.spv_logic.specs.declared.names.names.Symbol.{Symbol}
use Rattle.spv_logic.specs.declared.types.TypeId.{TypeId}
use Rattle.spv_program.specs.declared.types.Item.{Item}
use Rattle.spv_program.specs.declared.types.Item.TheVariants.{Variable, Class}
use Rattle.spv_program.specs.Lists.{found, first_of, same_name}
use Rattle.spv_program.specs.Types.{same_item}
use Rattle.spv_heading_typing.specs.Names.{has}

pub found_last : {X : Type 0} (xs : List (Symbol × X)) (x y : Symbol) (b : X) → found (xs ++ (x, b) ∷ []) y ≡ first_of (found xs y) (cond (same_name x y) (Some b) None)
found_last [] x y b = refl
found_last (e ∷ xs) x y b = by_case (same_name e.0 y) (found_last xs x y b)
  where
    by_case : (c : Bool) → found (xs ++ (x, b) ∷ []) y ≡ first_of (found xs y) (cond (same_name x y) (Some b) None)
        → cond c (Some e.1) (found (xs ++ (x, b) ∷ []) y) ≡ first_of (cond c (Some e.1) (found xs y)) (cond (same_name x y) (Some b) None)
    by_case true later = refl
    by_case false later = later

pub or_false : (b : Bool) → b ≡ (b || false)
or_false true = refl
or_false false = refl

pub or_grouped : (a b c : Bool) → ((a || b) || c) ≡ (a || (b || c))
or_grouped true b c = refl
or_grouped false b c = refl

or_true : (b : Bool) → b ≡ true → b ≡ (b || true)
or_true true h = refl
or_true false h = absurd (false≢true h)

pub variable_there : (listed : List (Symbol × Bool)) (v : Symbol) (i : Item) → i ≡ Variable v → is_some (found listed v) ≡ true → (x : Symbol)
    → has listed x ≡ (has listed x || same_item i (Variable x))
variable_there listed v i is there x = by_case (same_name v x) refl ∙ ap (λ (i : Item). has listed x || same_item i (Variable x)) (sym is)
  where
    by_case : (b : Bool) → same_name v x ≡ b → has listed x ≡ (has listed x || b)
    by_case true same = or_true (has listed x) (ap (λ (n : ℕ). has listed (record { 0 = n })) (sym (eqb-true v.0 x.0 same)) ∙ there)
    by_case false same = or_false (has listed x)

is_there : (o : Option Bool) (same b : Bool) → is_some (first_of o (cond same (Some b) None)) ≡ (is_some o || same)
is_there (Some c) same b = refl
is_there None true b = refl
is_there None false b = refl

pub variable_put : (listed after : List (Symbol × Bool)) (v : Symbol) (b : Bool) (i : Item) → i ≡ Variable v → after ≡ listed ++ (v, b) ∷ [] → (x : Symbol)
    → has after x ≡ (has listed x || same_item i (Variable x))
variable_put listed after v b i is put x =
    ap (λ (l : List (Symbol × Bool)). has l x) put
    ∙ (ap is_some (found_last listed v x b) ∙ (is_there (found listed x) (same_name v x) b ∙ ap (λ (i : Item). has listed x || same_item i (Variable x)) (sym is)))

pub class_listed : (listed : List (Symbol × Bool)) (t : TypeId) (i : Item) → i ≡ Class t → (x : Symbol) → has listed x ≡ (has listed x || same_item i (Variable x))
class_listed listed t i is x = or_false (has listed x) ∙ ap (λ (i : Item). has listed x || same_item i (Variable x)) (sym is)
