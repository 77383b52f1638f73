-- The terms of a creation: the class with its cell, and that the pointer was none to it and is not NIL.
use Rattle.std.proofs.Common.{◌≡◌, ◌<◌, true, cond, List, [], ◌∷◌, length, Option, Some, None, Result, Ok, Err, IfOk, IsErrAnd, refl, ap, subst, ◌∙◌}
use Rattle.std.specs.Cmp.Derive.{both_true}
use Rattle.std.proofs.lemmas.Bool.{or_left, or_right}
use Rattle.spv_logic.specs.declared.conditions.TermId.{TermId}
use Rattle.spv_logic.specs.declared.types.Sort.{Sort}
use Rattle.spv_logic.specs.declared.types.Sort.TheVariants as sort
use Rattle.spv_logic.specs.declared.types.Shape.{Shape}
use Rattle.spv_logic.specs.declared.types.Decl.{Decl}
use Rattle.spv_logic.specs.declared.types.TypeId.{TypeId}
use Rattle.spv_logic.specs.declared.operators.Head.{Head}
use Rattle.spv_logic.specs.declared.operators.Head.TheVariants as head
use Rattle.spv_logic.specs.Terms.{Term, no_terms, sort_eq, terms}
use Rattle.spv_logic.specs.Shapes.{sort_of_type}
use Rattle.spv_logic.specs.Sorts.{result_sort}
use Rattle.spv_logic.proofs.Equality.{sort_eq-refl}
use Rattle.spv_term.specs.Arena.{Arena, Extends, tree}
use Rattle.spv_term.proofs.ArenaLemmas.{Extends-trans}
use Rattle.spv_term.specs.substitution.Parts.{is_part, is_part_of_some}
use Rattle.spv_term.proofs.substitution.PartLemmas.{is_part-refl, part_of_args}
use Rattle.spv_program.specs.Terms.{binary, unary}
use Rattle.spv_meaning.specs.Before.{negated}
use Rattle.spv_assign.specs.declared.creation_trace.faults.GenFault.{GenFault}
use Rattle.spv_assign.specs.creation_trace.Events.{Walked, Stops, Answers}
use Rattle.spv_assign.specs.creation_trace.StatementEvents.{one}
use Rattle.spv_assign.proofs.creation_trace.Covering.{covered_one, covered_answers, covered_stops}
use Rattle.spv_assign.proofs.limited_steps.Limits.{over_term, over_walk, same_stop}
use Rattle.spv_assign.specs.limited_steps.Makes.{IsTerm}
use Rattle.spv_flow_parts.specs.Walks.{MakesTerm}

-- ---- a term behind a part of it

pub part_stops : (x y : Term) → is_part x y ≡ true → (r : Result TermId GenFault) (e : GenFault) (a b : Arena) → IsErrAnd r (λ f. f ≡ e) → Extends a b → Stops e (one x) a b → MakesTerm r y a b
part_stops x y inside (Ok t) e a b is grows stops = absurd is
part_stops x y inside (Err f) e a b is grows stops = record {
  grows = grows;
  walk = same_stop {X = TermId} (Err f) e (one y) a b is (covered_stops (one x) refl (y ∷ []) (covered_one x y inside) e a b stops);
  term = tt;
}

pub part_made : (x y : Term) → is_part x y ≡ true → (r : Result TermId GenFault) (a b c : Arena) → Extends a b → Walked (one x) a b → Extends b c → Answers r (one y) b c → IfOk r (λ t. IsTerm c t y) → MakesTerm r y a c
part_made x y inside r a b c grows walked more answers term = record {
  grows = Extends-trans grows more;
  walk = covered_answers (one x) refl (y ∷ []) (covered_one x y inside) r a b c walked answers;
  term = term;
}

pub under_head : (h : Head) (x y : Term) → is_part x y ≡ true → is_part x (unary h y) ≡ true
under_head h x y inside = part_of_args x h (terms y no_terms) (or_left (is_part x y) (is_part_of_some x no_terms) inside)

pub second_inside : (h : Head) (s t : Term) → is_part t (binary h s t) ≡ true
second_inside h s t =
    part_of_args t h (terms s (terms t no_terms)) (or_right (is_part t s) (is_part_of_some t (terms t no_terms)) (or_left (is_part t t) (is_part_of_some t no_terms) (is_part-refl t)))

-- a head over a term that was there and a new one, under NOT
module _ (h : Head) (v z : TermId) (x : Term) (a b : Arena) (grows : Extends a b) (there : v.0 < length a.nodes) (walked : Walked (one x) a b) (is : IsTerm b z x) where
  abbrev over : Term
  over = binary h (tree a v) x

  abbrev whole : Term
  whole = negated over

  pub over_stops : (r : Result TermId GenFault) (e : GenFault) (c : Arena) → IsErrAnd r (λ f. f ≡ e) → Extends b c → Stops e (one (binary h (tree b v) (tree b z))) b c → MakesTerm r whole a c
  over_stops r e c told more stops = part_stops over whole (under_head head.Not over over (is_part-refl over)) r e a c told (Extends-trans grows more) (over_walk a b h v z x grows there is {X = TermId} (Err e) c walked stops)

  pub over_made : (c : Arena) (u : TermId) → Extends b c → Walked (one (binary h (tree b v) (tree b z))) b c → IsTerm c u (binary h (tree b v) (tree b z)) → (r : Result TermId GenFault) (d : Arena) → Extends c d → Answers r (one (negated (tree c u))) c d
      → IfOk r (λ t. IsTerm d t (negated (tree c u))) → MakesTerm r whole a d
  over_made c u more made is_over r d more' answers term =
      part_made over whole (under_head head.Not over over (is_part-refl over)) r a c d (Extends-trans grows more) (over_walk a b h v z x grows there is {X = TermId} (Ok u) c walked made) more'
      (subst (λ (y : Term). Answers r (one (negated y)) c d) tree_is answers) (subst (λ (y : Term). IfOk r (λ t. IsTerm d t (negated y))) tree_is term)
    where
      tree_is : tree c u ≡ over
      tree_is = (over_term a b h v z x grows there is (Ok u) c is_over).is_tree

-- ---- sorts

pub equal_sort : (shapes : List Shape) (decls : List Decl) (s t : Sort) → t ≡ s → result_sort shapes decls head.Eq (s ∷ t ∷ []) ≡ Some sort.Bool
equal_sort shapes decls s t same = ap (λ b. cond b (Some sort.Bool) None) (both_true (sort_eq-refl s) (both_true (ap (sort_eq s) same ∙ sort_eq-refl s) refl))

pub member_sort : (shapes : List Shape) (decls : List Decl) (t : TypeId) (s u : Sort) → s ≡ sort.Ptr t → u ≡ sort.Class t → result_sort shapes decls head.PointerTo (s ∷ u ∷ []) ≡ Some sort.Bool
member_sort shapes decls t s u is so =
    (λ i. result_sort shapes decls head.PointerTo (is i ∷ so i ∷ []))
    ∙ ap (λ b. cond b (Some sort.Bool) None) (both_true (sort_eq-refl (sort.Ptr t)) (both_true (sort_eq-refl (sort.Class t)) refl))

pub extend_sort : (shapes : List Shape) (decls : List Decl) (t : TypeId) (c s u : Sort) → c ≡ sort.Class t → s ≡ sort.Ptr t → u ≡ sort_of_type shapes t → result_sort shapes decls head.Extend (c ∷ s ∷ u ∷ []) ≡ Some (sort.Class t)
extend_sort shapes decls t c s u is so has =
    (λ i. result_sort shapes decls head.Extend (is i ∷ so i ∷ has i ∷ []))
    ∙ ap (λ b. cond b (Some (sort.Class t)) None) (both_true (sort_eq-refl (sort.Class t)) (both_true (sort_eq-refl (sort.Ptr t)) (both_true (sort_eq-refl (sort_of_type shapes t)) refl)))

pub sort_told : (o : Option Sort) (s t : Sort) → o ≡ Some s → o ≡ Some t → t ≡ s
sort_told o s t is so = cc
