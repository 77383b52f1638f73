-- Where a term stands in a list, and how many terms there are.
use Rattle.std.proofs.Common.{◌≡◌, ℕ, zero, suc, ◌<◌, Bool, true, false, cond, List, [], ◌∷◌, length, slice_index_or, slice_get, Some, if◌then◌else◌, refl, ap, ◌∙◌, arith}
use Rattle.std.proofs.lemmas.Bool.{false≢true}
use Rattle.spv_logic.specs.Terms.{Term, term_eq}
use Rattle.spv_logic.proofs.Equality.{term_eq-true, term_eq-refl}

-- the place of a term; the number of terms where it is not there
abbrev pub place : List Term → Term → ℕ
place [] x = 0
place (t ∷ ts) x = if term_eq t x then 0 else suc (place ts x)

-- at the place of a term that is there it stands
pub at_place : (ts : List Term) (x d : Term) → place ts x < length ts → slice_index_or ts (place ts x) d ≡ x
at_place [] x d h = absurd (none (place [] x) h)
  where
    none : (n : ℕ) → n < 0 → ⊥
    none n h = omega (arith, h)
at_place (t ∷ ts) x d h = by (term_eq t x) refl h (at_place ts x d)
  where
    by : (b : Bool) → term_eq t x ≡ b → cond b 0 (suc (place ts x)) < suc (length ts) → (place ts x < length ts → slice_index_or ts (place ts x) d ≡ x)
        → slice_index_or (t ∷ ts) (cond b 0 (suc (place ts x))) d ≡ x
    by true e h rest = term_eq-true t x e
    by false e h rest = rest (omega (arith, h))

-- a term that stands somewhere has a place
pub has_place : (ts : List Term) (x d : Term) (i : ℕ) → i < length ts → slice_index_or ts i d ≡ x → place ts x < length ts
has_place [] x d i h e = absurd (none i h)
  where
    none : (n : ℕ) → n < 0 → ⊥
    none n h = omega (arith, h)
has_place (t ∷ ts) x d zero h e = by (term_eq t x) (ap (λ y. term_eq y x) e ∙ term_eq-refl x)
  where
    by : (b : Bool) → b ≡ true → cond b 0 (suc (place ts x)) < suc (length ts)
    by true e = omega arith
    by false e = absurd (false≢true e)
has_place (t ∷ ts) x d (suc i) h e = by (term_eq t x) (has_place ts x d i (omega (arith, h)) e)
  where
    by : (b : Bool) → place ts x < length ts → cond b 0 (suc (place ts x)) < suc (length ts)
    by true h = omega arith
    by false h = omega (arith, h)

-- one that stands nowhere has the place behind the end
pub no_place : (ts : List Term) (x d : Term) → ((i : ℕ) → i < length ts → slice_index_or ts i d ≡ x → ⊥) → place ts x ≡ length ts
no_place [] x d none = refl
no_place (t ∷ ts) x d none = by (term_eq t x) refl (no_place ts x d (λ i h e. none (suc i) (omega (arith, h)) e))
  where
    by : (b : Bool) → term_eq t x ≡ b → place ts x ≡ length ts → cond b 0 (suc (place ts x)) ≡ suc (length ts)
    by true e rest = absurd (none 0 (omega arith) (term_eq-true t x e))
    by false e rest = ap suc rest

pub some_at : (ts : List Term) (d : Term) (i : ℕ) → i < length ts → slice_get ts i ≡ Some (slice_index_or ts i d)
some_at [] d i h = absurd (none i h)
  where
    none : (n : ℕ) → n < 0 → ⊥
    none n h = omega (arith, h)
some_at (t ∷ ts) d zero h = refl
some_at (t ∷ ts) d (suc i) h = some_at ts d i (omega (arith, h))
