-- What a call of a procedure changes keeps its sort, and so does the class that NEW extends.
use Rattle.std.proofs.Common.{◌≡◌, true, cond, List, [], ◌∷◌, Option, Some, None, refl, sym, ap, ◌∙◌}
use Rattle.std.specs.Cmp.Derive.{both_true}
use Rattle.std.proofs.lemmas.Bool.{false≢true}
use Rattle.spv_logic.proofs.Equality.{sort_eq-refl}
use Rattle.spv_logic.specs.declared.types.TypeId.{TypeId}
use Rattle.spv_logic.specs.declared.types.Sort.TheVariants as sort
use Rattle.spv_logic.specs.declared.operators.Head.TheVariants as head
use Rattle.spv_logic.specs.declared.conditions.RoutineId.{RoutineId}
use Rattle.spv_logic.specs.Terms.{Term, sort_eq}
use Rattle.spv_logic.specs.Sorts.{sort_before, with_sorts, result_sort, term_sort}
use Rattle.spv_logic.specs.Substitution.{is_variable}
use Rattle.spv_logic.specs.Conditions.{Condition}
use Rattle.spv_program.specs.declared.types.Item.{Item}
use Rattle.spv_program.specs.declared.types.Item.TheVariants.{Variable, Class}
use Rattle.spv_program.specs.Types.{form_at, sort_of, target_of}
use Rattle.spv_program.specs.Expressions.{Designator, Selectors, Call, Arguments, designator, no_selectors, at_index, at_field, at_cell, no_arguments, by_value, by_place}
use Rattle.spv_program.specs.Programs.{Formal, Routine, Program, shapes}
use Rattle.spv_program.specs.Changes.{var_items}
use Rattle.spv_program.specs.ExpressionTypes.{callee}
use Rattle.spv_program.specs.Typing.{is_procedure, is_type, leads_to}
use Rattle.spv_program.specs.Laws.{HasSort}
use Rattle.spv_program.specs.Supplies.{Supply, fresh_like}
use Rattle.spv_program.specs.Terms.{alone, ternary, item_head}
use Rattle.spv_program.specs.Calls.{Argument, Given, AtPlace, formal_head, entry_at_call, exit_at_call}
use Rattle.spv_program.specs.ExpressionTerms.{Argued, Placed, valued, placed, selected, argued, at_start, to_element, to_field, to_cell, read_at}
use Rattle.spv_program.proofs.SortFacts.{sort_is}
use Rattle.spv_program.proofs.ExpressionSorting.{same_types, target_there}
use Rattle.spv_meaning.specs.Before.{Changed, changed_items, changed_places, before_entering, wanted_entry, assuming_if_there, replaced}
use Rattle.spv_rule_soundness.specs.condition_sorts.Sorted.{AreSorted}
use Rattle.spv_flow_parts.proofs.calls.Wholes.{whole_sorted}
use Rattle.spv_conditions.proofs.condition_sorts.Substituted.{AllKeep}
use Rattle.spv_conditions.proofs.condition_sorts.Lists.{appended, assumed_there, all_replaced}
use Rattle.spv_conditions.proofs.condition_sorts.Heads.{sort_fresh}
use Rattle.spv_conditions.proofs.condition_sorts.Called.{AreFitting, RoutineRight, entry_wanted, needs_truth, gives_truth}

-- ---- places

-- arguments whose places are in variables or classes
abbrev pub AreRooted : List Argument → Type 0
AreRooted [] = Unit {0}
AreRooted (Given t ∷ arguments) = AreRooted arguments
AreRooted (AtPlace d ∷ arguments) = (is_variable d.root ≡ true) × AreRooted arguments

module _ (p : Program) (here : Option Routine) where
  selected_rooted : (others : Selectors) (d : Placed) → is_variable d.target.root ≡ true → is_variable (selected p here d others).target.root ≡ true
  selected_rooted no_selectors d h = h
  selected_rooted (at_index t e others) d h = selected_rooted others (to_element d (λ m. valued p here m e)) h
  selected_rooted (at_field t f others) d h = selected_rooted others (to_field f d) h
  selected_rooted (at_cell line t others) d h = selected_rooted others (to_cell t (read_at d)) refl

  pub rooted : (n : Supply) (d : Designator) → is_variable (placed p here n d).target.root ≡ true
  rooted n (designator line x others) = selected_rooted others (at_start n (item_head p here (Variable x))) refl

  pub arguments_rooted : (n : Supply) (given : Arguments) → AreRooted (argued p here n given).arguments
  arguments_rooted n no_arguments = tt
  arguments_rooted n (by_value e others) = arguments_rooted (valued p here n e).supply others
  arguments_rooted n (by_place d others) = (rooted n d, arguments_rooted (placed p here n d).supply others)

-- ---- what a call changes

module _ (p : Program) (q : Routine) where
  item_variable : (item : Item) → is_variable (item_head p (Some q) item) ≡ true
  item_variable (Variable x) = refl
  item_variable (Class t) = refl

  -- fresh variables and wholes keep the sorts of those in whose places they stand
  record Keeping (c : Changed) : Type 0 where
    in_exit : AllKeep p c.in_exit
    after : AllKeep p c.after

  items_keep : (items : List Item) (n : Supply) → Keeping (changed_items p q items n)
  items_keep [] n = record { in_exit = tt; after = tt }
  items_keep (item ∷ items) n =
      let h = item_head p (Some q) item in
      let others = items_keep items (fresh_like h n).supply in
      let one = sort_fresh p h n (item_variable item) in
      record { in_exit = (one, others.in_exit); after = (one, others.after) }

  places_keep : (formals : List Formal) (arguments : List Argument) (n : Supply) → AreFitting p formals arguments → AreRooted arguments → Keeping (changed_places p q formals arguments n)
  places_keep [] arguments n fit rooted = items_keep (var_items q.globals) n
  places_keep (f ∷ formals) [] n fit rooted = absurd fit
  places_keep (f ∷ formals) (Given t ∷ arguments) n fit rooted = places_keep formals arguments n fit.1 rooted
  places_keep (f ∷ formals) (AtPlace d ∷ arguments) n fit rooted =
      let y = fresh_like (formal_head p f) n in
      let others = places_keep formals arguments y.supply fit.1 rooted.1 in
      record {
        in_exit = (refl, others.in_exit);
        after = (whole_sorted (shapes p) p.symbols d.root d.pointer d.path (alone y.head) (sort_of p.forms f.of) rooted.0 fit.0 refl, others.after);
      }

  -- the conditions before it
  pub entering_sorted : (here : Option RoutineId) (line : _) → RoutineRight p q → (given : Argued) → AreFitting p q.formals given.arguments → AreRooted given.arguments
      → (conditions : List Condition) → AreSorted p conditions → AreSorted p (before_entering p here line (Some q) given conditions).conditions
  entering_sorted here line right given fit rooted conditions all =
      let fresh = changed_places p q q.formals given.arguments given.supply in
      let keeping = places_keep q.formals given.arguments given.supply fit rooted in
      let behind = replaced fresh.after conditions in
      appended p (wanted_entry here line (entry_at_call p q given.arguments)) (assuming_if_there (exit_at_call p q given.arguments fresh.in_exit) behind)
      (entry_wanted p here line (entry_at_call p q given.arguments) (needs_truth p q right given.arguments fit))
      (assumed_there p (exit_at_call p q given.arguments fresh.in_exit) behind (gives_truth p q right given.arguments fit fresh.in_exit keeping.in_exit)
      (all_replaced p fresh.after conditions keeping.after all))

-- ---- procedures and pointers

pub record Procedure (p : Program) (here : Option Routine) (c : Call) : Type 0 where
  pub routine : Routine
  pub is : callee p here c ≡ Some routine

pub procedure_of : (p : Program) (here : Option Routine) (c : Call) → is_procedure (callee p here c) ≡ true → Procedure p here c
procedure_of p here c h = by (callee p here c) refl h
  where
    by : (o : Option Routine) → callee p here c ≡ o → is_procedure o ≡ true → Procedure p here c
    by None is h = absurd (false≢true h)
    by (Some r) is h = record { routine = r; is = is }

-- a place of a pointer type
pub record Pointing (p : Program) (t : TypeId) (o : Option TypeId) : Type 0 where
  pub type : TypeId
  pub is : o ≡ Some type
  pub sort_is : sort_of p.forms type ≡ sort.Ptr t

typed_so : (t : TypeId) (o : Option TypeId) → is_type t o ≡ true → o ≡ Some t
typed_so t None h = absurd (false≢true h)
typed_so t (Some u) h = ap Some (sym (same_types t u h))

pub led : (p : Program) (t : TypeId) (o : Option TypeId) → leads_to p t o ≡ true → Pointing p t o
led p t None h = absurd (false≢true h)
led p t (Some q) h = record { type = q; is = refl; sort_is = target_there (form_at p.forms q.0) q t (typed_so t (target_of (form_at p.forms q.0)) h) }

-- ---- classes

module _ (p : Program) (t : TypeId) where
  pub membership_sort : result_sort (shapes p) p.symbols head.PointerTo (sort.Ptr t ∷ sort.Class t ∷ []) ≡ Some sort.Bool
  membership_sort = ap (λ b. cond b (Some sort.Bool) None) (both_true (sort_eq-refl (sort.Ptr t)) (both_true (sort_eq-refl (sort.Class t)) refl))

  extension_sort : result_sort (shapes p) p.symbols head.Extend (sort.Class t ∷ sort.Ptr t ∷ sort_of p.forms t ∷ []) ≡ Some (sort.Class t)
  extension_sort =
      ap (λ b. cond b (Some (sort.Class t)) None)
      (both_true (sort_eq-refl (sort.Class t)) (both_true (sort_eq-refl (sort.Ptr t)) (both_true (ap (λ s. sort_eq s (sort_of p.forms t)) (sort_is p.forms t) ∙ sort_eq-refl (sort_of p.forms t)) refl)))

  pub extended_sort : (pointer content : Term) → HasSort p pointer (sort.Ptr t) → HasSort p content (sort_of p.forms t) → HasSort p (ternary head.Extend (alone (head.ClassVar t 0)) pointer content) (sort.Class t)
  extended_sort pointer content h k =
      ap (λ o. with_sorts (sort_before (Some (sort.Class t)) (sort_before o (sort_before (term_sort (shapes p) p.symbols content) (Some [])))) (result_sort (shapes p) p.symbols head.Extend)) h
      ∙ (ap (λ o. with_sorts (sort_before (Some (sort.Class t)) (sort_before (Some (sort.Ptr t)) (sort_before o (Some [])))) (result_sort (shapes p) p.symbols head.Extend)) k
      ∙ extension_sort)
