-- Other values under names, and names that go.
use Rattle.std.proofs.Common.{◌≡◌, ℕ, Bool, true, false, cond, List, [], ◌∷◌, map, Some, None, refl, sym, ap, ◌∙◌, nat_eq}
use Rattle.std.proofs.lemmas.Bool.{eqb-true}
use Rattle.std.proofs.lemmas.Option.{none-some}
use Rattle.std.specs.Map.{set_value, keys_of, remove_entry}
use Rattle.std.specs.List.{AllByRecursion, IsDistinct}
use Rattle.std.proofs.lemmas.Map.Keys.{IsDistinct-head, IsDistinct-tail}
use Rattle.spv_logic.specs.declared.names.names.Symbol.{Symbol}
use Rattle.spv_program.specs.Lists.{found, changed, same_name}
use Rattle.spv_program.specs.ordered_map.Entries.{named, without_name, AreApart}
use Rattle.spv_program.proofs.ordered_map.Lookups.{nat_eq_turned}

pub value_changed : {X : Type 0} (es : List (ℕ × X)) (name : Symbol) (x : X) → map named (set_value (nat_eq name.0) es x) ≡ changed (map named es) name x
value_changed [] name x = refl
value_changed (e ∷ es) name x =
    ap (λ b. map named (cond b ((e.0, x) ∷ es) (e ∷ set_value (nat_eq name.0) es x))) (nat_eq_turned name.0 e.0)
    ∙ by_case (nat_eq e.0 name.0) (value_changed es name x)
  where
    by_case : (b : Bool) → map named (set_value (nat_eq name.0) es x) ≡ changed (map named es) name x
        → map named (cond b ((e.0, x) ∷ es) (e ∷ set_value (nat_eq name.0) es x)) ≡ cond b (named (e.0, x) ∷ map named es) (named e ∷ changed (map named es) name x)
    by_case true later = refl
    by_case false later = ap (λ l. named e ∷ l) later

pub nothing_changed : {X : Type 0} (table : List (Symbol × X)) (name : Symbol) (x : X) → None ≡ found table name → table ≡ changed table name x
nothing_changed [] name x h = refl
nothing_changed (e ∷ table) name x h = by_case (same_name e.0 name) h (nothing_changed table name x)
  where
    by_case : (b : Bool) → None ≡ cond b (Some e.1) (found table name) → (None ≡ found table name → table ≡ changed table name x)
        → e ∷ table ≡ cond b ((e.0, x) ∷ table) (e ∷ changed table name x)
    by_case true h more = absurd (none-some _ h)
    by_case false h more = ap (λ l. e ∷ l) (more h)

pub entry_removed : {X : Type 0} (es : List (ℕ × X)) (name : Symbol) → map named (remove_entry (nat_eq name.0) es) ≡ without_name (map named es) name
entry_removed [] name = refl
entry_removed (e ∷ es) name =
    ap (λ b. map named (cond b es (e ∷ remove_entry (nat_eq name.0) es))) (nat_eq_turned name.0 e.0) ∙ by_case (nat_eq e.0 name.0) (entry_removed es name)
  where
    by_case : (b : Bool) → map named (remove_entry (nat_eq name.0) es) ≡ without_name (map named es) name
        → map named (cond b es (e ∷ remove_entry (nat_eq name.0) es)) ≡ cond b (map named es) (named e ∷ without_name (map named es) name)
    by_case true later = refl
    by_case false later = ap (λ l. named e ∷ l) later

key_absent : {X : Type 0} (key : ℕ) (es : List (ℕ × X)) → AllByRecursion (λ y. nat_eq key y ≡ false) (keys_of es) → found (map named es) (record { 0 = key }) ≡ None
key_absent key [] h = refl
key_absent key (e ∷ es) h =
    ap (λ b. cond b (Some e.1) (found (map named es) (record { 0 = key }))) (nat_eq_turned e.0 key ∙ h.0) ∙ key_absent key es h.1

-- the names of a map's entries
pub all_apart : {X : Type 0} (es : List (ℕ × X)) → IsDistinct nat_eq (keys_of es) → AreApart (map named es)
all_apart [] h = tt
all_apart (e ∷ es) h = (key_absent e.0 es (IsDistinct-head nat_eq e.0 (keys_of es) h), all_apart es (IsDistinct-tail nat_eq e.0 (keys_of es) h))

without_gone : {X : Type 0} (table : List (Symbol × X)) (name : Symbol) → AreApart table → found (without_name table name) name ≡ None
without_gone [] name h = refl
without_gone (e ∷ table) name h = by_case (same_name e.0 name) refl (without_gone table name h.1)
  where
    by_case : (b : Bool) → same_name e.0 name ≡ b → found (without_name table name) name ≡ None → found (cond b table (e ∷ without_name table name)) name ≡ None
    by_case true same later = ap (λ (n : ℕ). found table (record { 0 = n })) (sym (eqb-true e.0.0 name.0 same)) ∙ h.0
    by_case false same later = ap (λ b. cond b (Some e.1) (found (without_name table name) name)) same ∙ later

pub name_gone : {X : Type 0} (es : List (ℕ × X)) (name : Symbol) → IsDistinct nat_eq (keys_of es) → found (without_name (map named es) name) name ≡ None
name_gone es name h = without_gone (map named es) name (all_apart es h)
