-- What sets hold when something is added.
use Rattle.std.proofs.Common.{◌≡◌, ℕ, Bool, true, false, ◌||◌, cond, List, [], ◌∷◌, ◌++◌, length, drop, ◌≤◌, refl, sym, ap, ◌∙◌}
use Rattle.std.specs.List.{list_any}
use Rattle.std.proofs.lemmas.List.{append-nil, append_assoc, drop_all}
use Rattle.spv_logic.specs.declared.names.names.Symbol.{Symbol}
use Rattle.spv_logic.specs.declared.types.TypeId.{TypeId}
use Rattle.spv_logic.specs.declared.conditions.RoutineId.{RoutineId}
use Rattle.spv_program.specs.declared.types.TypeForm.{TypeForm}
use Rattle.spv_program.specs.Lists.{item_at}
use Rattle.spv_program.specs.Types.{same_type}
use Rattle.spv_program.specs.Programs.{Program}
use Rattle.spv_program.specs.Uses.{Root}
use Rattle.spv_program.specs.Changes.{types_once, types_from, types_of_names, all_types, items_of_callee}
use Rattle.spv_effects.specs.mod_sets.Sets.{with_type, with_types, with_routine}
use Rattle.spv_effects.specs.mod_sets.Changing.{among, of_callees, shared_roots}
use Rattle.spv_effects.proofs.mod_sets.Tests.{or_false, or_swapped, any_last, one_more}

pub callee_more : (p : Program) (callees : List RoutineId) (r : RoutineId) (q : Root)
    → of_callees p (with_routine callees r) q ≡ of_callees p callees q || of_callees p (r ∷ []) q
callee_more p callees r q =
    one_more (λ (s : RoutineId). s.0) may (λ a b e. ap (λ n. among (shared_roots (items_of_callee (item_at p.routines n))) q) e) callees r
    ∙ ap (λ b. of_callees p callees q || b) (sym (or_false (may r)))
  where
    may : RoutineId → Bool
    may s = among (shared_roots (items_of_callee (item_at p.routines s.0))) q

-- ---- types, each once

once_behind : (known seen : List TypeId) → ((t : TypeId) → list_any (same_type t) known ≡ list_any (same_type t) seen) → (types : List TypeId)
    → with_types known types ≡ known ++ types_once seen types
once_behind known seen same [] = sym (append-nil known)
once_behind known seen same (t ∷ types) =
    by_case (list_any (same_type t) seen) (same t) (once_behind known seen same types) (once_behind (known ++ t ∷ []) (t ∷ seen) more types)
  where
    more : (u : TypeId) → list_any (same_type u) (known ++ t ∷ []) ≡ same_type u t || list_any (same_type u) seen
    more u =
        any_last (same_type u) known t ∙ or_swapped (list_any (same_type u) known) (same_type u t) ∙ ap (λ b. same_type u t || b) (same u)

    by_case : (b : Bool) → list_any (same_type t) known ≡ b → with_types known types ≡ known ++ types_once seen types
        → with_types (known ++ t ∷ []) types ≡ (known ++ t ∷ []) ++ types_once (t ∷ seen) types
        → with_types (with_type known t) types ≡ known ++ cond b (types_once seen types) (t ∷ types_once (t ∷ seen) types)
    by_case true e kept added = ap (λ b. with_types (cond b known (known ++ t ∷ [])) types) e ∙ kept
    by_case false e kept added =
        ap (λ b. with_types (cond b known (known ++ t ∷ [])) types) e ∙ added ∙ append_assoc known (t ∷ []) (types_once (t ∷ seen) types)

pub types_are : (types : List TypeId) → with_types [] types ≡ types_once [] types
types_are types = once_behind [] [] (λ t. refl) types

-- two lists, one behind the other
pub types_both : (known xs ys : List TypeId) → with_types known (xs ++ ys) ≡ with_types (with_types known xs) ys
types_both known [] ys = refl
types_both known (t ∷ xs) ys = types_both (with_type known t) xs ys

-- behind the last name, and behind the last form
pub names_end : (names : List (Symbol × TypeId)) (i : ℕ) (old types : List TypeId) → length names ≤ i
    → with_types types (types_of_names (drop i names)) ≡ with_types old (types_of_names names) → types ≡ with_types old (types_of_names names)
names_end names i old types over so_far =
    sym (ap (λ (ns : List (Symbol × TypeId)). with_types types (types_of_names ns)) (drop_all i names over)) ∙ so_far

pub forms_end : (forms : List TypeForm) (i n : ℕ) (old types : List TypeId) → length forms ≤ i
    → with_types types (types_from n (drop i forms)) ≡ with_types old (types_from 0 forms) → types ≡ with_types old (types_from 0 forms)
forms_end forms i n old types over so_far =
    sym (ap (λ (fs : List TypeForm). with_types types (types_from n fs)) (drop_all i forms over)) ∙ so_far

-- the whole, as the code puts it together
pub whole : (p : Program) (none named types : List TypeId) → none ≡ [] → named ≡ with_types none (types_of_names p.types)
    → types ≡ with_types named (types_from 0 p.forms) → types ≡ all_types p
whole p none named types empty first second =
    second
    ∙ ap (λ (ts : List TypeId). with_types ts (types_from 0 p.forms)) (first ∙ ap (λ (ts : List TypeId). with_types ts (types_of_names p.types)) empty)
    ∙ sym (types_both [] (types_of_names p.types) (types_from 0 p.forms)) ∙ types_are (types_of_names p.types ++ types_from 0 p.forms)
