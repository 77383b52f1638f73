-- Names of types, and types by their places.
use Rattle.std.proofs.Common.{◌≡◌, ℕ, zero, suc, ◌<◌, ◌≤◌, ◌+◌, ◌-◌, Bool, true, false, cond, ◌||◌, List, [], ◌∷◌, ◌++◌, map, length, get_or, Option, Some, None, is_some, refl, ap, ◌∙◌, arith}
use Rattle.std.specs.List.{list_any}
use Rattle.std.proofs.lemmas.List.{length-append, length-map}
use Rattle.spv_logic.specs.declared.names.names.Symbol.{Symbol}
use Rattle.spv_program.specs.declared.types.TypeForm.{TypeForm}
use Rattle.spv_program.specs.Lists.{found, same_name, item_at}
use Rattle.spv_typing.specs.Merging as merging
use Rattle.spv_declaration_typing.specs.declared.pointer_types.written.Written.{Written}
use Rattle.spv_declaration_typing.specs.pointer_types.Views.{written_of, all_written}

some_or : {X : Type 0} (b : Bool) (x : X) (o : Option X) → is_some (cond b (Some x) o) ≡ (b || is_some o)
some_or true x o = refl
some_or false x o = refl

pub type_names : {X : Type 0} (entries : List (Symbol × X)) (x : Symbol) → is_some (found entries x) ≡ list_any (λ n. same_name n.0 x) entries
type_names [] x = refl
type_names (e ∷ entries) x = some_or (same_name e.0 x) e.1 (found entries x) ∙ ap (λ b. same_name e.0 x || b) (type_names entries x)

-- ---- the types so far, by their places

pub many_types : (forms : List TypeForm) (new : List Written) → length (map merging.Built forms ++ all_written new) ≡ length forms + length new
many_types forms new = length-append (map merging.Built forms) (all_written new) ∙ (ap (λ n. n + length (all_written new)) (length-map forms merging.Built) ∙ ap (λ n. length forms + n) (length-map new written_of))

pub type_known : (forms : List TypeForm) (others : List merging.Written) (n : ℕ) (d : TypeForm) → n < length forms
    → item_at (map merging.Built forms ++ others) n ≡ Some (merging.Built (get_or forms n d))
type_known [] others n d h = absurd (omega (arith, h))
type_known (f ∷ forms) others zero d h = refl
type_known (f ∷ forms) others (suc n) d h = type_known forms others n d (omega (arith, h))

item_new : (new : List Written) (n : ℕ) (d : Written) → n < length new → item_at (all_written new) n ≡ Some (written_of (get_or new n d))
item_new [] n d h = absurd (omega (arith, h))
item_new (w ∷ new) zero d h = refl
item_new (w ∷ new) (suc n) d h = item_new new n d (omega (arith, h))

item_none : (new : List Written) (n : ℕ) → length new ≤ n → item_at (all_written new) n ≡ None
item_none [] n h = refl
item_none (w ∷ new) zero h = absurd (omega (arith, h))
item_none (w ∷ new) (suc n) h = item_none new n (omega (arith, h))

behind : (forms : List TypeForm) (others : List merging.Written) (n k : ℕ) → length forms ≤ n → k ≡ n - length forms → item_at (map merging.Built forms ++ others) n ≡ item_at others k
behind [] others n k h e = ap (item_at others) (none n k e)
  where
    none : (n k : ℕ) → k ≡ n - 0 → n ≡ k
    none n k e = omega (arith, e)
behind (f ∷ forms) others zero k h e = absurd (omega (arith, h))
behind (f ∷ forms) others (suc n) k h e = behind forms others n k (omega (arith, h)) (omega (arith, e))

pub type_new : (forms : List TypeForm) (new : List Written) (n : ℕ) (d : Written) → length forms ≤ n → n - length forms < length new
    → item_at (map merging.Built forms ++ all_written new) n ≡ Some (written_of (get_or new (n - length forms) d))
type_new forms new n d past within = behind forms (all_written new) n (n - length forms) past refl ∙ item_new new (n - length forms) d within

pub type_past : (forms : List TypeForm) (new : List Written) (n : ℕ) → length forms ≤ n → length new ≤ n - length forms
    → item_at (map merging.Built forms ++ all_written new) n ≡ None
type_past forms new n past over = behind forms (all_written new) n (n - length forms) past refl ∙ item_none new (n - length forms) over
