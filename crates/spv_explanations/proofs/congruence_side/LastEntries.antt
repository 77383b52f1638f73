-- Entries more of a derivation.
use Rattle.std.proofs.Common.{◌≡◌, ℕ, suc, ◌+◌, List, [], ◌∷◌, ◌++◌, length, sym, ap, ◌∙◌, subst, Option, Some, Result, Ok, Err, IfOk, OnOk, OnErr, arith}
use Rattle.std.proofs.lemmas.List.{append-nil, length_push}
use Rattle.std.specs.Prelude.{slice_get}
use Rattle.spv_logic.specs.declared.conditions.TermId.{TermId}
use Rattle.spv_logic.specs.Terms.{Term}
use Rattle.spv_logic.specs.Formulas.{equation}
use Rattle.spv_term.specs.Arena.{Arena, IsArena, tree}
use Rattle.spv_term.proofs.ListLemmas.{slice_get_push}
use Rattle.spv_derivations.specs.declared.derivation.entries.Part.{Part}
use Rattle.spv_derivations.specs.declared.derivation.entries.Entry.{Entry}
use Rattle.spv_derivations.specs.declared.derivation.entries.Entry.TheVariants.{Told}
use Rattle.spv_derivations.specs.derivation.Derivation.{Gains, IsDerivation, fact_at, literal}
use Rattle.spv_derivations.specs.derivation.Sides.{entry_sides, sides_at, sides_of_entry}
use Rattle.spv_derivations.proofs.derivation.Growth.{fact_at-last}
use Rattle.spv_derivations.specs.derivation.Derived.{IsFormula, IsFalseTerm}
use Rattle.spv_derivations.specs.derivation.Laws.{SidesAreEqual}
use Rattle.spv_explanations.specs.equalities.Reasons.{Closes}
use Rattle.spv_explanations.specs.congruence_side.Holding.{Denies, Moves}

-- a derivation that gained a fact, or is as it was
pub moves_gains : (a : Arena) (old new : List Entry) (n : ℕ) (t : Term) → Gains a old new n t → Moves a old new
moves_gains a old new n t g = record { more = g.more; is = g.goes_on; derivation = g.derivation }

pub moves_same : (a : Arena) (old new : List Entry) → new ≡ old → IsDerivation a old → Moves a old new
moves_same a old new e f = record { more = []; is = e ∙ sym (append-nil old); derivation = subst (IsDerivation a) (sym e) f }

-- after a call that gains a fact, or leaves the derivation as it was
pub moves_either : {E : Type 0} (a : Arena) (old new : List Entry) (t : Term) (r : Result ℕ E) → IsDerivation a old → IfOk r (λ n. Gains a old new n t) → OnErr r (new ≡ old) → Moves a old new
moves_either a old new t (Ok n) f g e = moves_gains a old new n t g
moves_either a old new t (Err x) f g e = moves_same a old new e f

last_at : (old new : List Entry) (e : Entry) (n : ℕ) → new ≡ old ++ e ∷ [] → n ≡ length new → n ≡ length old + 1
last_at old new e n is at = let k : length new ≡ length (old ++ e ∷ []) = ap length is in omega (arith, length_push old e)

-- the last entry
pub last_sides : (a : Arena) (old new : List Entry) (e : Entry) (n : ℕ) → new ≡ old ++ e ∷ [] → n ≡ length new → sides_at a new n ≡ entry_sides a e
last_sides a old new e n is at =
    ap (sides_at a new) (last_at old new e n is at ∙ one (length old)) ∙ (ap (λ xs. sides_of_entry a (slice_get xs (length old))) is ∙ ap (sides_of_entry a) (slice_get_push old e))
  where
    one : (k : ℕ) → k + 1 ≡ suc k
    one k = omega arith

pub last_literal : (a : Arena) (old new : List Entry) (t : TermId) (part : Part) (why n : ℕ) → new ≡ old ++ Told t part why ∷ [] → n ≡ length new → fact_at a new n ≡ Some (literal (tree a t) part)
last_literal a old new t part why n is at = ap (λ xs. fact_at a xs n) is ∙ fact_at-last a old (Told t part why) n (last_at old new (Told t part why) n is at)

-- a formula that by the last entry equals FALSE
pub denies_of : SidesAreEqual → (a : Arena) → IsArena a → (es new : List Entry) (t f : TermId) (n : ℕ) → IsDerivation a es → IsFormula a t → IsFalseTerm a f → sides_at a es n ≡ Some (t, f) → new ≡ es → Denies a new t n
denies_of law a ok es new t f n derivation formula falsity sides same = record {
  formula = formula;
  fact = ap (λ xs. fact_at a xs n) same ∙ (law a es n t f ok derivation sides ∙ ap (λ x. Some (equation (tree a t) x)) falsity.is);
}

pub when_ok : {T E : Type 0} {P : Type 0} (r : Result T E) → P → OnOk r P
when_ok (Ok x) p = p
when_ok (Err x) p = tt

-- after a call that ends a path, or leaves the derivation as it was
pub moves_closing : {E : Type 0} (a : Arena) (old new : List Entry) (r : Result (ℕ × Option ℕ) E) → IsDerivation a old → IfOk r (λ p. Closes a old new p.0 p.1) → OnErr r (new ≡ old) → Moves a old new
moves_closing a old new (Ok p) f h e = record { more = h.goes_on.more; is = h.goes_on.is; derivation = h.derivation }
moves_closing a old new (Err x) f h e = moves_same a old new e f
