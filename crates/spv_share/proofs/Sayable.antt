-- The bounds that literals of relations are.
use Rattle.std.proofs.Common.{◌≡◌, ℕ, zero, suc, ◌+◌, ℤ, List, [], ◌∷◌, ◌++◌, sym, ap, ◌∙◌, subst, Option, Some, arith}
use Rattle.std.specs.Prelude.{slice_get}
use Rattle.std.proofs.lemmas.Option.{slice_get_within, same_Some}
use Rattle.spv_logic.specs.declared.operators.Head.{Head}
use Rattle.spv_logic.specs.declared.operators.Head.TheVariants.{Eq}
use Rattle.spv_term.proofs.ListLemmas.{slice_get-append_left}
use Rattle.spv_atoms.specs.Linear.{IdForm}
use Rattle.spv_tableau_rules.specs.tableaux.Bounds.{Bound}
use Rattle.spv_derivations.specs.declared.derivation.entries.Part.{Part}
use Rattle.spv_derivations.specs.declared.derivation.entries.Part.TheVariants as part
use Rattle.spv_tableau_rules.specs.declared.constraints.saying.RowConstraint.{RowConstraint}
use Rattle.spv_tableau_rules.specs.constraints.Sayings.{bounds_of}
use Rattle.spv_arithmetic_side.specs.farkas.Told.{told}
use Rattle.spv_simplex.specs.Checks.{IsAmong}
use Rattle.spv_arithmetic_side.specs.declared.constraint_rows.standing.Standing.{Standing}
use Rattle.spv_arithmetic_side.specs.constraint_rows.Standing.{HasSaid}
use Rattle.spv_share.specs.declared.relations.Related.{Related}
use Rattle.spv_share.specs.Relations.{bounds_from, bounds_if, row_bounds, sayable}

among_left : (xs ys : List Bound) (x : Bound) → IsAmong xs x → IsAmong (xs ++ ys) x
among_left xs ys x h = record { place = h.place; there = slice_get-append_left xs ys h.place (slice_get_within xs h.place x h.there) ∙ h.there }

among_right : (xs ys : List Bound) (x : Bound) → IsAmong ys x → IsAmong (xs ++ ys) x
among_right [] ys x h = h
among_right (y ∷ xs) ys x h = let k = among_right xs ys x h in record { place = suc k.place; there = k.there }

among_if : (row : ℕ) (constant : ℤ) (o : Option RowConstraint) (x : RowConstraint) (j : ℕ) (bound : Bound) → o ≡ Some x → slice_get (bounds_of row constant x) j ≡ Some bound → IsAmong (bounds_if row constant o) bound
among_if row constant o x j bound e there = record { place = j; there = ap (λ p. slice_get (bounds_if row constant p) j) e ∙ there }

module _ (row : ℕ) (h : Head) (constant : ℤ) where
  of_part : Part → List Bound
  of_part p = bounds_if row constant (told h p)

  in_row : (p : Part) (bound : Bound) → IsAmong (bounds_if row constant (told h p)) bound → IsAmong (row_bounds row h constant) bound
  in_row part.True bound k = among_left (bounds_if row constant (told h part.True)) _ bound k
  in_row part.False bound k = among_right (bounds_if row constant (told h part.True)) _ bound (among_left (bounds_if row constant (told h part.False)) _ bound k)
  in_row part.Below bound k =
      among_right (bounds_if row constant (told h part.True)) _ bound
      (among_right (bounds_if row constant (told h part.False)) _ bound (among_left (bounds_if row constant (told h part.Below)) _ bound k))
  in_row part.Above bound k =
      among_right (bounds_if row constant (told h part.True)) _ bound
      (among_right (bounds_if row constant (told h part.False)) _ bound (among_right (bounds_if row constant (told h part.Below)) _ bound k))

in_rows : (start : ℕ) (rels : List Related) (forms : List IdForm) (i : ℕ) (r : Related) (f : IdForm) (p : Part) (x : RowConstraint) (j : ℕ) (bound : Bound) → slice_get rels i ≡ Some r → slice_get forms i ≡ Some f
    → told r.head p ≡ Some x → slice_get (bounds_of (start + i) f.constant x) j ≡ Some bound → IsAmong (bounds_from start rels forms) bound
in_rows start [] forms i r f p x j bound at form e there = absurd (cc)
in_rows start (q ∷ rels) [] i r f p x j bound at form e there = absurd (cc)
in_rows start (q ∷ rels) (g ∷ forms) zero r f p x j bound at form e there =
    let same_r : q ≡ r = same_Some q r at in
    let same_f : g ≡ f = same_Some g f form in
    among_left (row_bounds start q.head g.constant) (bounds_from (suc start) rels forms) bound
    (subst (λ (y : Related). IsAmong (row_bounds start y.head g.constant) bound) (sym same_r)
    (subst (λ (k : IdForm). IsAmong (row_bounds start r.head k.constant) bound) (sym same_f)
    (in_row start r.head f.constant p bound (among_if start f.constant (told r.head p) x j bound e (ap (λ n. slice_get (bounds_of n f.constant x) j) (nothing start) ∙ there)))))
  where
    nothing : (n : ℕ) → n ≡ n + zero
    nothing n = omega arith
in_rows start (q ∷ rels) (g ∷ forms) (suc i) r f p x j bound at form e there =
    among_right (row_bounds start q.head g.constant) (bounds_from (suc start) rels forms) bound
    (in_rows (suc start) rels forms i r f p x j bound at form e (ap (λ n. slice_get (bounds_of n f.constant x) j) (moved start i) ∙ there))
  where
    moved : (n k : ℕ) → suc n + k ≡ n + suc k
    moved n k = omega arith

-- what a literal of a relation says of its row is among them
pub said_among : (rels : List Related) (st : Standing) (i : ℕ) (r : Related) (p : Part) (x : RowConstraint) → slice_get rels i ≡ Some r → told r.head p ≡ Some x → HasSaid (sayable rels st.tableau.forms) st i x
said_among rels st i r p x at e = record {
  each = λ f form j bound there. in_rows 0 rels st.tableau.forms i r f p x j bound at form e (ap (λ n. slice_get (bounds_of n f.constant x) j) (first i) ∙ there);
}
  where
    first : (n : ℕ) → 0 + n ≡ n
    first n = omega arith

-- the orders of an equality are
pub order_among : (rels : List Related) (st : Standing) (i : ℕ) (r : Related) (p : Part) (x : RowConstraint) → slice_get rels i ≡ Some r → r.head ≡ Eq → told Eq p ≡ Some x → HasSaid (sayable rels st.tableau.forms) st i x
order_among rels st i r p x at head e = said_among rels st i r p x at (ap (λ q. told q p) head ∙ e)
