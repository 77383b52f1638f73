-- The value of a term at a point is that of its column, and 0 for what is no column.
use Rattle.std.proofs.Common.{◌≡◌, ℕ, suc, ◌+◌, ◌<◌, Bool, true, false, cond, List, [], ◌∷◌, length, refl, sym, ap, ◌∙◌, Option, Some, None, arith}
use Rattle.std.specs.List.{position, position_from}
use Rattle.std.proofs.lemmas.Iterator.Adapters.{position_from-zero}
use Rattle.spv_frac.specs.rational.Rational.{Rational}
use Rattle.spv_logic.specs.declared.conditions.TermId.{TermId}
use Rattle.spv_logic.specs.Terms.{term_eq}
use Rattle.spv_term.specs.Arena.{Arena, IsArena, AllBelow, tree}
use Rattle.spv_atoms.specs.Order.{same_id}
use Rattle.spv_atoms.proofs.Walks.{term_eq-ids}
use Rattle.spv_tableau_rules.specs.tableaux.Forms.{part_ids}
use Rattle.spv_tableau_rules.specs.tableaux.Numbers.{nothing}
use Rattle.spv_tableau_rules.specs.tableaux.Rows.{Point}
use Rattle.spv_tableau_rules.specs.constraints.Relations.{AreIn}
use Rattle.spv_tableau_rules.specs.constraints.Values.{value_among, part_value}
use Rattle.spv_tableau_rules.proofs.constraints.Columns.{ids_in}
use Rattle.spv_simplex.specs.State.{State, kept_point, value_from, value_of}

abbrev at_or_nothing : Point → Option ℕ → Rational
at_or_nothing v None = nothing
at_or_nothing v (Some c) = v c

nothing_more : (i : ℕ) → i + 0 ≡ i
nothing_more i = omega arith

one_more : (i c : ℕ) → i + suc c ≡ (i + 1) + c
one_more i c = omega arith

module _ (a : Arena) (ok : IsArena a) (t : TermId) (inside : t.0 < length a.nodes) where
  -- columns from a place on
  among_from : (ids : List TermId) → AllBelow (length a.nodes) ids → (v w : Point) (i : ℕ) → ((c : ℕ) → w c ≡ v (i + c)) → value_among a ids w (tree a t) ≡ at_or_nothing v (position_from (same_id t) i ids)
  among_from [] below v w i e = refl
  among_from (u ∷ ids) below v w i e = by_case (same_id t u) (sym (term_eq-ids a ok t u inside below.0)) (among_from ids below.1 v (λ c. w (suc c)) (i + 1) (λ c. e (suc c) ∙ ap v (one_more i c)))
    where
      by_case : (b : Bool) → term_eq (tree a t) (tree a u) ≡ b → value_among a ids (λ c. w (suc c)) (tree a t) ≡ at_or_nothing v (position_from (same_id t) (i + 1) ids)
          → cond (term_eq (tree a t) (tree a u)) (w 0) (value_among a ids (λ c. w (suc c)) (tree a t)) ≡ at_or_nothing v (cond b (Some i) (position_from (same_id t) (i + 1) ids))
      by_case true f later = ap (λ b. cond b (w 0) (value_among a ids (λ c. w (suc c)) (tree a t))) f ∙ (e 0 ∙ ap v (nothing_more i))
      by_case false f later = ap (λ b. cond b (w 0) (value_among a ids (λ c. w (suc c)) (tree a t))) f ∙ later

  from_point : (s : State) (o : Option ℕ) → at_or_nothing (kept_point s) o ≡ value_from s o
  from_point s None = refl
  from_point s (Some c) = refl

  nothing_before : (c : ℕ) → c ≡ 0 + c
  nothing_before c = omega arith

  pub part_is : (s : State) → AreIn a s.forms → part_value a s.forms (kept_point s) (tree a t) ≡ value_of s t
  part_is s are =
      among_from (part_ids s.forms) (ids_in a s.forms are) (kept_point s) (kept_point s) 0 (λ c. ap (kept_point s) (nothing_before c))
      ∙ (ap (at_or_nothing (kept_point s)) (sym (position_from-zero (same_id t) (part_ids s.forms))) ∙ from_point s (position (same_id t) (part_ids s.forms)))
