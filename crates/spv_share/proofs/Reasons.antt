-- The equalities that the graph was told, and why.
use Rattle.std.proofs.Common.{◌≡◌, ℕ, zero, suc, Bool, true, false, List, [], ◌∷◌, ◌++◌, length, refl, sym, ap, ◌∙◌, subst, Option, Some, None}
use Rattle.std.specs.Prelude.{slice_get}
use Rattle.std.proofs.lemmas.Bool.{false≢true}
use Rattle.std.proofs.lemmas.Option.{slice_get_within, same_Some}
use Rattle.spv_logic.specs.declared.conditions.TermId.{TermId}
use Rattle.spv_logic.specs.declared.operators.Head.TheVariants.{Eq}
use Rattle.spv_term.specs.Arena.{Arena, tree}
use Rattle.spv_term.proofs.ListLemmas.{slice_get-append_left, slice_get_push}
use Rattle.spv_congruence.specs.declared.facts.Fact.{Fact}
use Rattle.spv_derivations.specs.declared.derivation.entries.Part.{Part}
use Rattle.spv_derivations.specs.declared.derivation.entries.Part.TheVariants.{True, False, Below, Above}
use Rattle.spv_derivations.specs.derivation.Derived.{is_truth, IsFalseTerm, IsTrueTerm}
use Rattle.spv_derivations.specs.derivation.Literals.{Literal}
use Rattle.spv_derivations.specs.derivation.Sides.{Pair}
use Rattle.spv_explanations.specs.congruence_side.Telling.{equation_sides, literal_ties, sides_tie, Tie, ties, value_tie}
use Rattle.spv_share.specs.declared.relations.Related.{Related}
use Rattle.spv_share.specs.Both.{AreReasoned, IsReason, of_literal, of_relation, of_truths}

-- ---- lists

append_each : (P : Tie → Type 0) (xs ys : List Tie) → ((place : ℕ) (t : Tie) → slice_get xs place ≡ Some t → P t) → ((place : ℕ) (t : Tie) → slice_get ys place ≡ Some t → P t) → (place : ℕ) (t : Tie)
    → slice_get (xs ++ ys) place ≡ Some t → P t
append_each P [] ys h k place t at = k place t at
append_each P (x ∷ xs) ys h k zero t at = h zero t at
append_each P (x ∷ xs) ys h k (suc place) t at = append_each P xs ys (λ p u e. h (suc p) u e) k place t at

abbrev no_ties : List Tie
no_ties = []

nothing : (place : ℕ) (t : Tie) → slice_get no_ties place ≡ Some t → ⊥
nothing place t at = cc

module _ (a : Arena) (rels : List Related) where
  pub reasons_append : (told : List Literal) (xs ys : List Tie) → AreReasoned a rels told xs → AreReasoned a rels told ys → AreReasoned a rels told (xs ++ ys)
  reasons_append told xs ys h k = record { each = λ place t at. append_each (λ u. u.equal ≡ true → IsReason a rels told u) xs ys (λ p u e. h.each p u e) (λ p u e. k.each p u e) place t at }

  pub reasons_none : (told : List Literal) → AreReasoned a rels told []
  reasons_none told = record { each = λ place t at e. absurd (nothing place t at) }

  pub reasons_as : (told now : List Literal) (xs ys : List Fact) → now ≡ told → ys ≡ xs → AreReasoned a rels told (ties xs) → AreReasoned a rels now (ties ys)
  reasons_as told now xs ys e f h = subst (λ (ls : List Literal). AreReasoned a rels ls (ties ys)) (sym e) (subst (λ (zs : List Fact). AreReasoned a rels told (ties zs)) (sym f) h)

  -- ---- a literal more

  reason_more : (told more : List Literal) (t : Tie) → IsReason a rels told t → IsReason a rels (told ++ more) t
  reason_more told more t (of_truths h k) = of_truths h k
  reason_more told more t (of_literal place l st at p e left right) = of_literal place l st (slice_get-append_left told more place (slice_get_within told place l at) ∙ at) p e left right
  reason_more told more t (of_relation row r at e left right) = of_relation row r at e left right

  pub reasons_more : (told more : List Literal) (ts : List Tie) → AreReasoned a rels told ts → AreReasoned a rels (told ++ more) ts
  reasons_more told more ts h = record { each = λ place t at e. reason_more told more t (h.each place t at e) }

  abbrev tie : TermId → TermId → Bool → Tie
  tie s t equal = record { left = s; right = t; equal = equal }

  module _ (told : List Literal) (t truth falsity : TermId) (part : Part) (why : ℕ) (formula : is_truth a (tree a t) ≡ true) (truth_is : IsTrueTerm a truth) (falsity_is : IsFalseTerm a falsity) where
    abbrev now : List Literal
    now = told ++ record { atom = t; part = part; why = why } ∷ []

    value : (u : TermId) → is_truth a (tree a u) ≡ true → (x : Tie) → Some (value_tie t u) ≡ Some x → IsReason a rels now x
    value u h x at = subst (IsReason a rels now) (same_Some (value_tie t u) x at) (of_truths formula h)

    true_value : is_truth a (tree a truth) ≡ true
    true_value = ap (is_truth a) truth_is.is

    false_value : is_truth a (tree a falsity) ≡ true
    false_value = ap (is_truth a) falsity_is.is

    equal_sides : part ≡ True → (o : Option Pair) → equation_sides a t ≡ o → (place : ℕ) (x : Tie) → slice_get (sides_tie true o) place ≡ Some x → IsReason a rels now x
    equal_sides p None e place x at = absurd (nothing place x at)
    equal_sides p (Some st) e zero x at =
        subst (IsReason a rels now) (same_Some (tie st.0 st.1 true) x at) (of_literal (length told) (record { atom = t; part = part; why = why }) st (slice_get_push told (record { atom = t; part = part; why = why })) p e refl refl)
    equal_sides p (Some st) e (suc place) x at = absurd (nothing place x at)

    apart_sides : (o : Option Pair) (place : ℕ) (x : Tie) → slice_get (sides_tie false o) place ≡ Some x → x.equal ≡ true → IsReason a rels now x
    apart_sides None place x at e = absurd (nothing place x at)
    apart_sides (Some st) zero x at e = absurd (false≢true (ap (λ (y : Tie). y.equal) (same_Some (tie st.0 st.1 false) x at) ∙ e))
    apart_sides (Some st) (suc place) x at e = absurd (nothing place x at)

    by_part : (p : Part) → part ≡ p → (place : ℕ) (x : Tie) → slice_get (literal_ties a truth falsity t p) place ≡ Some x → x.equal ≡ true → IsReason a rels now x
    by_part True q zero x at e = value truth true_value x at
    by_part True q (suc place) x at e = equal_sides q (equation_sides a t) refl place x at
    by_part False q zero x at e = value falsity false_value x at
    by_part False q (suc place) x at e = apart_sides (equation_sides a t) place x at e
    by_part Below q zero x at e = value falsity false_value x at
    by_part Below q (suc place) x at e = apart_sides (equation_sides a t) place x at e
    by_part Above q zero x at e = value falsity false_value x at
    by_part Above q (suc place) x at e = apart_sides (equation_sides a t) place x at e

    -- what a literal joins
    pub reasons_told : (xs : List Tie) → AreReasoned a rels told xs → AreReasoned a rels now (xs ++ literal_ties a truth falsity t part)
    reasons_told xs h = reasons_append now xs (literal_ties a truth falsity t part) (reasons_more told (record { atom = t; part = part; why = why } ∷ []) xs h) (record { each = λ place x at e. by_part part refl place x at e })

  -- an equality of the relations
  pub reasons_joined : (told : List Literal) (xs : List Tie) (row : ℕ) (r : Related) → slice_get rels row ≡ Some r → r.head ≡ Eq → AreReasoned a rels told xs → AreReasoned a rels told (xs ++ value_tie r.left r.right ∷ [])
  reasons_joined told xs row r at head h = reasons_append told xs (value_tie r.left r.right ∷ []) h (record { each = one })
    where
      one : (place : ℕ) (x : Tie) → slice_get (value_tie r.left r.right ∷ []) place ≡ Some x → x.equal ≡ true → IsReason a rels told x
      one zero x e k = subst (IsReason a rels told) (same_Some (value_tie r.left r.right) x e) (of_relation row r at head refl refl)
      one (suc place) x e k = absurd (nothing place x e)
