-- The roots of places, in designators and in their terms.
use Rattle.std.proofs.Common.{◌≡◌, Bool, true, cond, ℕ, zero, suc, List, [], ◌∷◌, sym, ap, subst, ◌∙◌, Option, Some, None, option_map}
use Rattle.std.specs.List.{list_all}
use Rattle.spv_logic.proofs.list.Tests.{left_true, right_true}
use Rattle.spv_logic.specs.declared.names.names.Symbol.{Symbol}
use Rattle.spv_logic.specs.declared.types.TypeId.{TypeId}
use Rattle.spv_logic.specs.declared.operators.Head.{Head}
use Rattle.spv_logic.specs.declared.operators.Head.TheVariants as head
use Rattle.spv_program.specs.declared.types.Item.TheVariants.{Variable, Class}
use Rattle.spv_program.specs.declared.types.TypeForm.{TypeForm}
use Rattle.spv_program.specs.declared.types.TypeForm.TheVariants.{Integer, Boolean, Range, Pointer, Array, Record}
use Rattle.spv_program.specs.Types.{same_type, form_at, sort_of, element_of, field_of, target_of, type_exists, form_ok, forms_ok}
use Rattle.spv_program.specs.Typing.{declarations_ok, well_typed}
use Rattle.spv_program.specs.Expressions.{Designator, Selectors, designator, no_selectors, at_index, at_field, at_cell}
use Rattle.spv_program.specs.Programs.{Routine, Program}
use Rattle.spv_program.specs.Scopes.{name_type, is_own, sort_or_int}
use Rattle.spv_program.specs.Uses.{Root, Shared, name_root, expression_uses, designator_uses, selector_uses}
use Rattle.spv_program.specs.Frames.{root_behind, root_of}
use Rattle.spv_program.specs.Supplies.{Supply}
use Rattle.spv_program.specs.Terms.{item_head}
use Rattle.spv_program.specs.ExpressionTypes.{designator_type, selected_type}
use Rattle.spv_program.specs.ExpressionTerms.{Placed, valued, placed, selected, read_at, at_start, to_element, to_field, to_cell}
use Rattle.spv_program.proofs.SortFacts.{nothing_there, some_is, behind, chosen, passed}
use Rattle.spv_meaning.specs.Views.{sees}
use Rattle.spv_rule_soundness.specs.evaluation.Laws.{root_seen, uses_seen}
use Rattle.spv_rule_soundness.proofs.evaluation.Values.{same_types, seen_right}

-- a root and its head: a name that is seen, with its type, or a class that is seen, of a type that there is
pub data IsRootOf (p : Program) (r : Option Routine) : Root → Head → Type 0 where
  OfName : (x : Symbol) (t : TypeId) → name_type p r x ≡ Some t → root_seen r (name_root (is_own r) x) ≡ true → IsRootOf p r (name_root (is_own r) x) (head.Var x (sort_of p.forms t) 0)
  OfClass : (c : TypeId) → type_exists p.forms c ≡ true → sees r (Class c) ≡ true → IsRootOf p r (Shared (Class c)) (head.ClassVar c 0)

-- what a pointer leads to is a type that there is
form_there : (forms : List TypeForm) (n : ℕ) (c : TypeId) → target_of (form_at forms n) ≡ Some c → (all : List TypeForm) → list_all (form_ok all) forms ≡ true → type_exists all c ≡ true
form_there [] n c e all ok = absurd (nothing_there e)
form_there (g ∷ forms) zero c e all ok = by_form g e (left_true (form_ok all g) _ ok)
  where
    by_form : (g : TypeForm) → target_of g ≡ Some c → form_ok all g ≡ true → type_exists all c ≡ true
    by_form (Pointer k) e ok = ap (type_exists all) (sym (some_is e)) ∙ ok
    by_form Integer e ok = absurd (nothing_there e)
    by_form Boolean e ok = absurd (nothing_there e)
    by_form (Range low high) e ok = absurd (nothing_there e)
    by_form (Array index element) e ok = absurd (nothing_there e)
    by_form (Record fields) e ok = absurd (nothing_there e)
form_there (g ∷ forms) (suc n) c e all ok = form_there forms n c e all (right_true (form_ok all g) _ ok)

pub pointed_exists : (p : Program) → well_typed p ≡ true → (n : ℕ) (c : TypeId) → target_of (form_at p.forms n) ≡ Some c → type_exists p.forms c ≡ true
pointed_exists p typed n c e = form_there p.forms n c e p.forms (left_true (list_all (form_ok p.forms) p.forms) _ (left_true (forms_ok p.forms) _ (left_true (declarations_ok p) _ typed)))

module _ (p : Program) (typed : well_typed p ≡ true) (r : Option Routine) where
  root_behind_it : (others : Selectors) (root : Root) (d : Placed) (t u : TypeId) → IsRootOf p r root d.target.root → selected_type p r t others ≡ Some u → (writes : Bool) → uses_seen r (selector_uses (is_own r) writes others) ≡ true → IsRootOf p r (root_behind root others) (selected p r d others).target.root
  root_behind_it no_selectors root d t u is h writes uses = is
  root_behind_it (at_index a e others) root d t u is h writes uses =
      let b = behind (λ u. selected_type p r u others) (element_of (form_at p.forms t.0)) u (chosen _ _ u h) in
      root_behind_it others root (to_element d (λ m. valued p r m e)) b.item u is b.gives writes (seen_right r (expression_uses (is_own r) e) _ uses)
  root_behind_it (at_field a f others) root d t u is h writes uses =
      let b = behind (λ u. selected_type p r u others) (field_of (form_at p.forms t.0) f) u (chosen (same_type a t) _ u h) in
      root_behind_it others root (to_field f d) b.item u is b.gives writes uses
  root_behind_it (at_cell line c others) root d t u is h writes uses =
      let b = behind (λ w. cond (same_type c w) (selected_type p r w others) None) (target_of (form_at p.forms t.0)) u h in
      let same = same_types c b.item (passed (same_type c b.item) _ u b.gives) in
      root_behind_it others (Shared (Class c)) (to_cell c (read_at d)) b.item u (OfClass c (pointed_exists p typed t.0 c (b.is ∙ ap Some (sym same))) (left_true (sees r (Class c)) _ uses)) (chosen (same_type c b.item) _ u b.gives) writes (right_true (sees r (Class c)) _ uses)

  pub root_is : (d : Designator) (t : TypeId) → designator_type p r d ≡ Some t → (writes : Bool) → uses_seen r (designator_uses (is_own r) writes d) ≡ true → (n : Supply) → IsRootOf p r (root_of (is_own r) d) (placed p r n d).target.root
  root_is (designator line x others) t h writes uses n =
      let b = behind (λ t. selected_type p r t others) (name_type p r x) t h in
      root_behind_it others (name_root (is_own r) x) (at_start n (item_head p r (Variable x))) b.item t
      (subst (λ o. IsRootOf p r (name_root (is_own r) x) (head.Var x (sort_or_int (option_map (sort_of p.forms) o)) 0)) (sym b.is) (OfName x b.item b.is (left_true (root_seen r (name_root (is_own r) x)) _ uses)))
      b.gives writes (right_true (root_seen r (name_root (is_own r) x)) _ uses)
