-- Selectors one behind the other.
use Rattle.std.proofs.Common.{◌≡◌, ◌<◌, List, [], ◌∷◌, ◌++◌, length, drop, Option, Some, None, refl, sym, ap, ◌∙◌, ℕ, arith}
use Rattle.std.specs.List.{remove}
use Rattle.std.proofs.lemmas.List.{map-append}
use Rattle.spv_logic.specs.declared.types.TypeId.{TypeId}
use Rattle.spv_program.specs.Expressions.{Call, Result, Through, at_index, at_field, at_cell}
use Rattle.spv_program.specs.declared.typed.expressions.Selector.{Selector}
use Rattle.spv_program.specs.declared.typed.expressions.Selector.TheVariants as selector
use Rattle.spv_program.specs.typed.ExpressionViews.{selectors_of}
use Rattle.spv_typing.specs.ExpressionWalk.{Base, AtName, AtResult, OfNumber, OfCall, Link, Reached, chained, designator_at, expression_at, result_at}
use Rattle.spv_expression_typing.specs.Views.{cell_in, first_cell, link_of, links_of, place_of, value_of}

pub chained_are : (selectors : List Selector) → chained (links_of selectors) ≡ selectors_of selectors
chained_are [] = refl
chained_are (selector.Index t e ∷ selectors) = ap (at_index t e.value) (chained_are selectors)
chained_are (selector.Field t f ∷ selectors) = ap (at_field t f) (chained_are selectors)
chained_are (selector.Cell line t ∷ selectors) = ap (at_cell line t) (chained_are selectors)

pub one_more : (old new : List Selector) (s : Selector) → new ≡ old ++ s ∷ [] → links_of new ≡ links_of old ++ link_of s ∷ []
one_more old new s h = ap links_of h ∙ map-append link_of old (s ∷ [])

abbrev with_base : Base → List Link → TypeId → Reached
with_base b links t = record { base = b; links = links; type = t }

place_by : (b : Base) (links : List Link) (t : TypeId) → designator_at (with_base b links t) ≡ place_of b links
place_by (AtName line x) links t = refl
place_by (AtResult line x) links t = refl
place_by (OfNumber z) links t = refl
place_by (OfCall c) links t = refl

pub place_is : (r : Reached) → designator_at r ≡ place_of r.base r.links
place_is r = place_by r.base r.links r.type

value_by : (b : Base) (links : List Link) (t : TypeId) → expression_at (with_base b links t) ≡ value_of b links
value_by (AtName line x) links t = refl
value_by (AtResult line x) links t = refl
value_by (OfNumber z) links t = refl
value_by (OfCall c) links t = refl

pub value_is : (r : Reached) → expression_at r ≡ value_of r.base r.links
value_is r = value_by r.base r.links r.type

-- ---- `^` behind a call

through : (c : Call) (s : Selector) (selectors : List Selector) (line : ℕ) (t : TypeId) → cell_in s ≡ Some (line, t)
    → result_at c (links_of (s ∷ selectors)) ≡ Through c line t (selectors_of selectors)
through c (selector.Index u e) selectors line t h = absurd cc
through c (selector.Field u f) selectors line t h = absurd cc
through c (selector.Cell on u) selectors line t h =
    let same_line : on ≡ line = ap (λ (o : Option (ℕ × TypeId)). line_of o) h in
    let same_type : u ≡ t = ap (λ (o : Option (ℕ × TypeId)). type_of o) h in
    ap (Through c on u) (chained_are selectors) ∙ ap (λ (n : ℕ). Through c n u (selectors_of selectors)) same_line ∙ ap (λ (v : TypeId). Through c line v (selectors_of selectors)) same_type
  where
    line_of : Option (ℕ × TypeId) → ℕ
    line_of None = 0
    line_of (Some p) = p.0

    type_of : Option (ℕ × TypeId) → TypeId
    type_of None = u
    type_of (Some p) = p.1

pub result_through : (c : Call) (selectors behind : List Selector) (line : ℕ) (t : TypeId) → first_cell selectors ≡ Some (line, t) → behind ≡ drop 1 selectors
    → Through c line t (selectors_of behind) ≡ result_at c (links_of selectors)
result_through c [] behind line t h e = absurd cc
result_through c (s ∷ selectors) behind line t h e = ap (λ (l : List Selector). Through c line t (selectors_of l)) e ∙ sym (through c s selectors line t h)

alone : (c : Call) (s : Selector) (selectors : List Selector) → cell_in s ≡ None → result_at c (links_of (s ∷ selectors)) ≡ Result c
alone c (selector.Index u e) selectors h = refl
alone c (selector.Field u f) selectors h = refl
alone c (selector.Cell on u) selectors h = absurd cc

pub result_alone : (c : Call) (selectors : List Selector) → first_cell selectors ≡ None → Result c ≡ result_at c (links_of selectors)
result_alone c [] h = refl
result_alone c (s ∷ selectors) h = sym (alone c s selectors h)

pub none_behind : (selectors : List Selector) → length selectors ≡ 0 → selectors ≡ drop 1 selectors
none_behind [] h = refl
none_behind (s ∷ selectors) h = absurd (omega (arith, h))

pub behind_first : (selectors : List Selector) → 0 < length selectors → remove selectors 0 ≡ drop 1 selectors
behind_first [] h = absurd (omega (arith, h))
behind_first (s ∷ selectors) h = refl
