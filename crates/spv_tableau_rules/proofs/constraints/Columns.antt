-- Columns of parts and the terms that they stand for.
use Rattle.std.proofs.Common.{◌≡◌, ℕ, zero, suc, ◌<◌, Bool, true, false, cond, ◌||◌, List, [], ◌∷◌, ◌++◌, length, ℤ, pos, refl, sym, ap, ◌∙◌, subst, Option, Some, None}
use mathlib.Core.Path.{ap₂}
use Rattle.std.specs.Prelude.{slice_get}
use Rattle.std.specs.List.{list_any}
use Rattle.std.proofs.lemmas.Bool.{false≢true}
use Rattle.std.proofs.lemmas.List.Folds.{list_any-append}
use Rattle.std.proofs.lemmas.Option.{slice_get_within}
use Rattle.spv_frac.specs.rational.Rational.{Rational, whole, plus, times, opposite}
use Rattle.spv_frac.proofs.rational.Field.{plus_zero, times_zero}
use Rattle.spv_logic.specs.declared.conditions.TermId.{TermId}
use Rattle.spv_logic.specs.Terms.{Term, term_eq}
use Rattle.spv_logic.proofs.Equality.{term_eq-true}
use Rattle.spv_term.specs.Arena.{Arena, IsArena, AllBelow, tree}
use Rattle.spv_term.proofs.NodeLemmas.{id_from}
use Rattle.spv_term.proofs.TreeLemmas.{AllBelow-append, AllBelow-at}
use Rattle.spv_atoms.specs.Order.{same_id, with_id}
use Rattle.spv_atoms.specs.Linear.{IdForm, coefficient, PartsIn, over_trees}
use Rattle.spv_atoms.proofs.Forming.{over-at}
use Rattle.spv_tableau_rules.specs.declared.tableaux.side.Side.{Side}
use Rattle.spv_tableau_rules.specs.declared.tableaux.side.Side.TheVariants.{Lower, Upper}
use Rattle.spv_tableau_rules.specs.tableaux.Numbers.{nothing}
use Rattle.spv_tableau_rules.specs.tableaux.Forms.{with_parts, with_forms, part_ids, coefficient_in, rows_of}
use Rattle.spv_tableau_rules.specs.tableaux.Contradictions.{Multiple, signed, coefficient_sum}
use Rattle.spv_tableau_rules.proofs.pivots.Algebra.{opposite_nothing}
use Rattle.spv_tableau_rules.proofs.pivots.Sums.{eq_is, eq_self}
use Rattle.spv_tableau_rules.specs.constraints.Relations.{AreIn}

abbrev has : List TermId → TermId → Bool
has ids t = list_any (same_id t) ids

-- ---- all parts of forms have columns

left_or : (a b : Bool) → a ≡ true → (a || b) ≡ true
left_or true b h = refl
left_or false b h = absurd (false≢true h)

right_or : (a b : Bool) → b ≡ true → (a || b) ≡ true
right_or true b h = refl
right_or false b h = h

has-more : (ids : List TermId) (t u : TermId) → has ids u ≡ true → has (with_id ids t) u ≡ true
has-more ids t u h = by_case (has ids t)
  where
    by_case : (b : Bool) → has (cond b ids (ids ++ t ∷ [])) u ≡ true
    by_case true = h
    by_case false = list_any-append (same_id u) ids (t ∷ []) ∙ left_or (has ids u) (has (t ∷ []) u) h

has-itself : (ids : List TermId) (t : TermId) → has (with_id ids t) t ≡ true
has-itself ids t = by_case (has ids t) refl
  where
    by_case : (b : Bool) → has ids t ≡ b → has (cond b ids (ids ++ t ∷ [])) t ≡ true
    by_case true e = e
    by_case false e = list_any-append (same_id t) ids (t ∷ []) ∙ right_or (has ids t) (has (t ∷ []) t) (left_or (same_id t t) false (eq_self t.0))

-- an id is that of a part
abbrev is_part : List (TermId × ℤ) → TermId → Bool
is_part parts t = list_any (λ (p : TermId × ℤ). same_id t p.0) parts

parts-keep : (parts : List (TermId × ℤ)) (ids : List TermId) (t : TermId) → has ids t ≡ true → has (with_parts ids parts) t ≡ true
parts-keep [] ids t h = h
parts-keep (p ∷ parts) ids t h = parts-keep parts (with_id ids p.0) t (has-more ids p.0 t h)

parts-have : (parts : List (TermId × ℤ)) (ids : List TermId) (t : TermId) → is_part parts t ≡ true → has (with_parts ids parts) t ≡ true
parts-have [] ids t h = absurd (false≢true h)
parts-have (p ∷ parts) ids t h = by_case (same_id t p.0) refl h (parts-have parts (with_id ids p.0) t)
  where
    by_case : (b : Bool) → same_id t p.0 ≡ b → (b || is_part parts t) ≡ true → (is_part parts t ≡ true → has (with_parts (with_id ids p.0) parts) t ≡ true) → has (with_parts (with_id ids p.0) parts) t ≡ true
    by_case true e k later =
        parts-keep parts (with_id ids p.0) t (subst (λ (u : TermId). has (with_id ids p.0) u ≡ true) (sym (id_from t p.0 (eq_is t.0 p.0.0 e))) (has-itself ids p.0))
    by_case false e k later = later k

forms-keep : (forms : List IdForm) (ids : List TermId) (t : TermId) → has ids t ≡ true → has (with_forms ids forms) t ≡ true
forms-keep [] ids t h = h
forms-keep (f ∷ forms) ids t h = forms-keep forms (with_parts ids f.parts) t (parts-keep f.parts ids t h)

forms-have : (forms : List IdForm) (ids : List TermId) (i : ℕ) (f : IdForm) (t : TermId) → slice_get forms i ≡ Some f → is_part f.parts t ≡ true → has (with_forms ids forms) t ≡ true
forms-have [] ids i f t at h = absurd (cc)
forms-have (g ∷ forms) ids zero f t at h =
    let same : g ≡ f = cc in
    forms-keep forms (with_parts ids g.parts) t (parts-have g.parts ids t (subst (λ (k : IdForm). is_part k.parts t ≡ true) (sym same) h))
forms-have (g ∷ forms) ids (suc i) f t at h = forms-have forms (with_parts ids g.parts) i f t at h

-- ---- all columns are in the arena

ids-below : (n : ℕ) (ids : List TermId) (t : TermId) → AllBelow n ids → t.0 < n → AllBelow n (with_id ids t)
ids-below n ids t h k = by_case (has ids t)
  where
    by_case : (b : Bool) → AllBelow n (cond b ids (ids ++ t ∷ []))
    by_case true = h
    by_case false = AllBelow-append n ids (t ∷ []) h (k, tt)

parts-below : (a : Arena) (parts : List (TermId × ℤ)) (ids : List TermId) → AllBelow (length a.nodes) ids → PartsIn a parts → AllBelow (length a.nodes) (with_parts ids parts)
parts-below a [] ids h k = h
parts-below a (p ∷ parts) ids h k = parts-below a parts (with_id ids p.0) (ids-below (length a.nodes) ids p.0 h k.0) k.1

forms-below : (a : Arena) (forms : List IdForm) (ids : List TermId) → AllBelow (length a.nodes) ids → AreIn a forms → AllBelow (length a.nodes) (with_forms ids forms)
forms-below a [] ids h k = h
forms-below a (f ∷ forms) ids h k =
    forms-below a forms (with_parts ids f.parts) (parts-below a f.parts ids h (k.each 0 f refl)) (record { each = λ i g at. k.each (suc i) g at })

pub ids_in : (a : Arena) (forms : List IdForm) → AreIn a forms → AllBelow (length a.nodes) (part_ids forms)
ids_in a forms k = forms-below a forms [] tt k

pub column-in : (a : Arena) (forms : List IdForm) → AreIn a forms → (c : ℕ) (t : TermId) → slice_get (part_ids forms) c ≡ Some t → t.0 < length a.nodes
column-in a forms k c t at = AllBelow-at (length a.nodes) (part_ids forms) c t (ids_in a forms k) at

-- ---- the column of a term

-- a term has a column, or is none of the parts
pub data Spot (a : Arena) (ids : List TermId) (x : Term) : Type 0 where
  Here : (c : ℕ) (t : TermId) → slice_get ids c ≡ Some t → tree a t ≡ x → Spot a ids x
  Nowhere : ((t : TermId) → list_any (same_id t) ids ≡ true → term_eq (tree a t) x ≡ false) → Spot a ids x

pub spot : (a : Arena) (ids : List TermId) (x : Term) → Spot a ids x
spot a [] x = Nowhere (λ t h. absurd (false≢true h))
spot a (u ∷ ids) x = first (term_eq (tree a u) x) refl (spot a ids x)
  where
    others : term_eq (tree a u) x ≡ false → Spot a ids x → Spot a (u ∷ ids) x
    others e (Here c t at is) = Here (suc c) t at is
    others e (Nowhere h) = Nowhere (λ t k. by_case t (same_id t u) refl k)
      where
        by_case : (t : TermId) (b : Bool) → same_id t u ≡ b → (b || has ids t) ≡ true → term_eq (tree a t) x ≡ false
        by_case t true f k = ap (λ (i : TermId). term_eq (tree a i) x) (id_from t u (eq_is t.0 u.0 f)) ∙ e
        by_case t false f k = h t k

    first : (b : Bool) → term_eq (tree a u) x ≡ b → Spot a ids x → Spot a (u ∷ ids) x
    first true e rest = Here 0 u refl (term_eq-true (tree a u) x e)
    first false e rest = others e rest

-- ---- what rows multiply terms by

-- what the row of a form multiplies a term by
abbrev pub number_of_term : Arena → Option IdForm → Term → Rational
number_of_term a None x = nothing
number_of_term a (Some f) x = whole (coefficient (over_trees a f.parts) x)

pub at_column : (a : Arena) → IsArena a → (t : TermId) → t.0 < length a.nodes → (o : Option IdForm) → ((f : IdForm) → o ≡ Some f → PartsIn a f.parts)
    → number_of_term a o (tree a t) ≡ coefficient_in o (Some t)
at_column a ok t below None h = refl
at_column a ok t below (Some f) h = ap whole (over-at a ok f.parts t (h f refl) below)

not_part : (a : Arena) (x : Term) (parts : List (TermId × ℤ)) → ((t : TermId) → is_part parts t ≡ true → term_eq (tree a t) x ≡ false) → coefficient (over_trees a parts) x ≡ pos 0
not_part a x [] h = refl
not_part a x (p ∷ parts) h =
    ap (λ b. cond b p.1 (coefficient (over_trees a parts) x)) (h p.0 (left_or (same_id p.0 p.0) (is_part parts p.0) (eq_self p.0.0)))
    ∙ not_part a x parts (λ t k. h t (right_or (same_id t p.0) (is_part parts t) k))

-- a term that is none of the parts
pub no_column : (a : Arena) (forms : List IdForm) (x : Term) → ((t : TermId) → list_any (same_id t) (part_ids forms) ≡ true → term_eq (tree a t) x ≡ false) → (i : ℕ) (o : Option IdForm)
    → slice_get forms i ≡ o → number_of_term a o x ≡ nothing
no_column a forms x h i None at = refl
no_column a forms x h i (Some f) at = ap whole (not_part a x f.parts (λ t k. h t (forms-have forms [] i f t at k)))

-- ---- sums of multiples of rows

-- what multiples of rows sum to at a term
abbrev pub number_sum : Arena → List IdForm → List Multiple → Term → Rational
number_sum a forms [] x = nothing
number_sum a forms (m ∷ multiples) x = plus (signed m.side (times m.factor (number_of_term a (slice_get forms m.row) x))) (number_sum a forms multiples x)

module _ (a : Arena) (ok : IsArena a) (forms : List IdForm) (inside : AreIn a forms) where
  sum_at_column : (c : ℕ) (t : TermId) → slice_get (part_ids forms) c ≡ Some t → (multiples : List Multiple) → number_sum a forms multiples (tree a t) ≡ coefficient_sum (rows_of forms) multiples c
  sum_at_column c t at [] = refl
  sum_at_column c t at (m ∷ multiples) =
      ap₂ plus
      (ap (λ y. signed m.side (times m.factor y))
      (at_column a ok t (column-in a forms inside c t at) (slice_get forms m.row) (λ f e. inside.each m.row f e) ∙ ap (coefficient_in (slice_get forms m.row)) (sym at)))
      (sum_at_column c t at multiples)

  nothing_signed : (side : Side) (factor y : Rational) → y ≡ nothing → signed side (times factor y) ≡ nothing
  nothing_signed Upper factor y e = ap (times factor) e ∙ times_zero factor
  nothing_signed Lower factor y e = ap opposite (ap (times factor) e ∙ times_zero factor) ∙ opposite_nothing

  sum_nowhere : (x : Term) → ((t : TermId) → list_any (same_id t) (part_ids forms) ≡ true → term_eq (tree a t) x ≡ false) → (multiples : List Multiple) → number_sum a forms multiples x ≡ nothing
  sum_nowhere x h [] = refl
  sum_nowhere x h (m ∷ multiples) =
      ap₂ plus (nothing_signed m.side m.factor _ (no_column a forms x h m.row (slice_get forms m.row) refl)) (sum_nowhere x h multiples) ∙ plus_zero nothing

  -- where all columns cancel, so do all terms
  pub all_cancel : (multiples : List Multiple) → ((c : ℕ) → c < length (part_ids forms) → coefficient_sum (rows_of forms) multiples c ≡ nothing) → (x : Term) → number_sum a forms multiples x ≡ nothing
  all_cancel multiples cancel x = by_spot (spot a (part_ids forms) x)
    where
      by_spot : Spot a (part_ids forms) x → number_sum a forms multiples x ≡ nothing
      by_spot (Here c t at is) =
          subst (λ (y : Term). number_sum a forms multiples y ≡ nothing) is (sum_at_column c t at multiples ∙ cancel c (slice_get_within (part_ids forms) c t at))
      by_spot (Nowhere h) = sum_nowhere x h multiples
