-- Headings with their clauses come from their trees.
use Rattle.std.proofs.Common.{◌≡◌, ℕ, Bool, true, List, [], ◌∷◌, ◌++◌, map, Option, Some, None, refl, sym, ap, ◌∙◌, subst}
use Rattle.std.specs.Prelude.{not, Ok, is_some}
use Rattle.std.specs.List.{list_any}
use Rattle.std.proofs.lemmas.List.{append_assoc, append-nil}
use Rattle.spv_logic.specs.declared.names.names.Symbol.{Symbol}
use Rattle.spv_logic.specs.declared.types.TypeId.{TypeId}
use Rattle.spv_logic.specs.declared.types.Sort.{Sort}
use Rattle.spv_logic.specs.declared.conditions.RoutineId.{RoutineId}
use Rattle.spv_tree.specs.declared.syntax.lists.Several.{Several}
use Rattle.spv_tree.specs.declared.syntax.names.Name.{Name}
use Rattle.spv_tree.specs.declared.syntax.declarations.NameOrClass.{NameOrClass}
use Rattle.spv_tree.specs.declared.syntax.declarations.NameOrClass.TheVariants as written
use Rattle.spv_tree.specs.declared.syntax.routines.GroupForm.{GroupForm}
use Rattle.spv_tree.specs.declared.syntax.routines.GroupForm.TheVariants.{Variables, Procedures, Functions}
use Rattle.spv_tree.specs.declared.syntax.routines.Group.{Group}
use Rattle.spv_tree.specs.declared.syntax.routines.Params.{Params}
use Rattle.spv_tree.specs.declared.syntax.routines.Item.{Item as ItemText}
use Rattle.spv_tree.specs.declared.syntax.routines.GlobalGroup.{GlobalGroup}
use Rattle.spv_tree.specs.declared.syntax.routines.Start.{Start as StartText}
use Rattle.spv_tree.specs.declared.syntax.routines.Clauses.{Clauses}
use Rattle.spv_tree.specs.syntax.Formulas as formulas
use Rattle.spv_program.specs.declared.types.Item.{Item}
use Rattle.spv_program.specs.declared.types.Item.TheVariants.{Class}
use Rattle.spv_program.specs.Lists.{found}
use Rattle.spv_program.specs.Types.{same_item}
use Rattle.spv_program.specs.Formulas.{Annotation}
use Rattle.spv_program.specs.Programs.{Formal, GlobalItem, Program}
use Rattle.spv_program.proofs.SortFacts.{nothing_there}
use Rattle.spv_typing.specs.Outcomes.{after, where_so, each, if_there, twice, wrong}
use Rattle.spv_typing.specs.Known.{KnownNames, Meaning, OfType, OfList, OfConstant, OfPlace, OfStart, OfSymbol, OfRoutine, Names, Known, meaning, program_names}
use Rattle.spv_typing.specs.TypeWalk.{all_names, type_named}
use Rattle.spv_typing.specs.DeclarationWalk.{new_name, class_named}
use Rattle.spv_typing.specs.FormulaWalk.{annotation}
use Rattle.spv_typing.specs.RoutineWalk.{is_free_in, in_routine, Parameters, with_group, group_walk, no_parameters, params_walk, result_walk, variable_named, item_name, hides, shared_item, item_walk, global_group_walk, globals_walk, may_be_initial, initial_item, item_sort, Starts, start_walk, initial_walk, Headed, clauses_walk, heading_name, is_function_form, announced, with_heading, form_walk, with_body}
use Rattle.spv_typing.specs.RoutineWalk as walk
use Rattle.spv_type_soundness.proofs.well_typed.Outcomes.{fine, no_fault, same_value, went, behind_test}
use Rattle.spv_type_soundness.specs.faithfulness.Names.{Own, Place, Start, View, names_place, at_top, seen}
use Rattle.spv_type_soundness.specs.faithfulness.Names as names
use Rattle.spv_type_soundness.specs.faithfulness.Formulas.{IfThere, not_there, there}
use Rattle.spv_type_soundness.specs.faithfulness.Routines.{parameter_names, start_names, result_names, formals_of, groups_of, listed, name_of, FormalsFrom, no_formals, one_group, FormFrom, procedure, function, ItemFrom, ItemsFrom, no_items, one_item, GlobalsFrom, no_globals, one_list, InitialFrom, no_starts, one_start, HeadingFrom, exit_names}
use Rattle.spv_type_soundness.specs.faithfulness.Routines as origin
use Rattle.spv_type_soundness.proofs.faithfulness.Scopes.{Told, told, told_type, told_place, OwnAs, no_own, one_own, own_append, as_place, as_start}
use Rattle.spv_type_soundness.proofs.faithfulness.Seeing.{KnowsNames, types_seen, places_seen, sees}
use Rattle.spv_type_soundness.proofs.faithfulness.Annotations.{annotations_come}
use Rattle.spv_type_soundness.proofs.faithfulness.Declared.{names_come}

-- ---- own names

pub parameters_as : (names : List Symbol) (t : TypeId) (by : Bool) (line : ℕ)
    → OwnAs (map (λ x. (x, OfPlace t)) names) (parameter_names (map (λ x. record { name = x; of = t; by_place = by; line = line }) names))
parameters_as [] t by line = no_own
parameters_as (x ∷ names) t by line = one_own x (OfPlace t) Place (map (λ x. (x, OfPlace t)) names)
    (parameter_names (map (λ x. record { name = x; of = t; by_place = by; line = line }) names)) (as_place t)
    (parameters_as names t by line)

parameter_append : (fs gs : List Formal) → parameter_names (fs ++ gs) ≡ parameter_names fs ++ parameter_names gs
parameter_append [] gs = refl
parameter_append (f ∷ fs) gs = ap (λ q. (f.name, Place) ∷ q) (parameter_append fs gs)

start_append : (is js : List (Symbol × Item)) → start_names (is ++ js) ≡ start_names is ++ start_names js
start_append [] js = refl
start_append (i ∷ is) js = ap (λ q. (i.0, Start) ∷ q) (start_append is js)

formals_map : (xs : List Name) (t : TypeId) (by : Bool) (line : ℕ)
    → map (λ x. record { name = x; of = t; by_place = by; line = line }) (map (λ (x : Name). x.symbol) xs) ≡ formals_of xs t by line
formals_map [] t by line = refl
formals_map (x ∷ xs) t by line = ap (λ q. record { name = x.symbol; of = t; by_place = by; line = line } ∷ q) (formals_map xs t by line)

abbrev headed_of : Symbol → ℕ → Bool → RoutineId → Parameters → Option TypeId → List GlobalItem → Starts → Option Annotation
    → Option Annotation → Headed
headed_of name line is_function number ps result globals starts entry exit = record {
  specified = record {
    heading = record {
      name = name;
      line = line;
      is_function = is_function;
      number = number;
      formals = ps.formals;
      result = result;
      globals = globals;
    };
    initial = starts.initial;
    entry = entry;
    exit = exit;
  };
  own = ps.own ++ starts.own;
}

module _ (start : KnownNames) (p : Program) (k : Known) (knows : KnowsNames k start p) where
  -- a type by its name
  pub type_come : (own : Names) (os : List (Symbol × Own)) → OwnAs own os → (line : ℕ) (x : Name) (m : Option Meaning) (t : TypeId)
      → meaning (in_routine k own None) x.symbol ≡ m → type_named line x m ≡ Ok t
      → names.type_named (seen start p None os) x.symbol ≡ Some t
  type_come own os alike line x None t h e = absurd (no_fault e)
  type_come own os alike line x (Some (OfType u)) t h e = types_seen k own os alike None start p None knows.start_is knows.types_are
      x.symbol u h ∙ ap Some (same_value e)
  type_come own os alike line x (Some OfList) t h e = absurd (no_fault e)
  type_come own os alike line x (Some (OfConstant z)) t h e = absurd (no_fault e)
  type_come own os alike line x (Some (OfPlace u)) t h e = absurd (no_fault e)
  type_come own os alike line x (Some (OfStart r)) t h e = absurd (no_fault e)
  type_come own os alike line x (Some (OfSymbol d)) t h e = absurd (no_fault e)
  type_come own os alike line x (Some (OfRoutine r)) t h e = absurd (no_fault e)

  -- ---- parameters

  pub record ParametersFrom (before : Parameters) (gs : List Group) (ps : Parameters) : Type 0 where
    pub own : OwnAs ps.own (parameter_names ps.formals)
    pub from : FormalsFrom start p before.formals gs ps.formals

  group_come : (routine : Symbol) (before : Parameters) (line : ℕ) (form : GroupForm) (gs : List Group) (next ps : Parameters)
      → OwnAs before.own (parameter_names before.formals) → group_walk k routine before (record { line = line; form = form }) ≡ Ok next
      → (OwnAs next.own (parameter_names next.formals) → ParametersFrom next gs ps)
      → ParametersFrom before (record { line = line; form = form } ∷ gs) ps
  group_come routine before line (Procedures xs) gs next ps own e go = absurd (no_fault e)
  group_come routine before line (Functions xs of) gs next ps own e go = absurd (no_fault e)
  group_come routine before line (Variables by xs of) gs next ps own e go =
      let free = is_free_in k.start routine [] before.own in
      let one = went (each (new_name free) [] (all_names xs))
      (λ new. after (type_named of.line of (meaning (in_routine k before.own None) of.symbol))
      (λ t. fine (with_group before new t by line))) next e in
      let two = went (type_named of.line of (meaning (in_routine k before.own None) of.symbol))
      (λ t. fine (with_group before one.value t by line)) next one.rest in
      let t = two.value in
      let is : with_group before one.value t by line ≡ next = same_value two.rest in
      let new_formals = map (λ x. record { name = x; of = t; by_place = by; line = line }) one.value in
      let names_are = names_come free (xs.first ∷ xs.more) one.value one.first in
      let formals_are : new_formals ≡ formals_of (xs.first ∷ xs.more) t by line = ap
      (λ q. map (λ x. record { name = x; of = t; by_place = by; line = line }) q) (sym names_are) ∙ formals_map (xs.first ∷ xs.more) t
      by line in
      let next_own : OwnAs (before.own ++ map (λ x. (x, OfPlace t)) one.value) (parameter_names (before.formals ++ new_formals)) =
      subst (OwnAs (before.own ++ map (λ x. (x, OfPlace t)) one.value)) (sym (parameter_append before.formals new_formals))
      (own_append before.own (map (λ x. (x, OfPlace t)) one.value) (parameter_names before.formals) (parameter_names new_formals) own
      (parameters_as one.value t by line)) in
      let rest = go (subst (λ (q : Parameters). OwnAs q.own (parameter_names q.formals)) is next_own) in
      let from : FormalsFrom start p (before.formals ++ formals_of (xs.first ∷ xs.more) t by line) gs ps.formals =
      subst (λ q. FormalsFrom start p q gs ps.formals) (ap (λ (q : Parameters). q.formals) (sym is) ∙ ap (λ q. before.formals ++ q)
      formals_are) rest.from in
      record {
        own = rest.own;
        from = one_group (type_come before.own (parameter_names before.formals) own of.line of
            (meaning (in_routine k before.own None) of.symbol) t refl two.first) from;
      }

  groups_come : (routine : Symbol) (before : Parameters) (gs : List Group) (ps : Parameters)
      → OwnAs before.own (parameter_names before.formals) → each (group_walk k routine) before gs ≡ Ok ps → ParametersFrom before gs ps
  groups_come routine before [] ps own e = subst (ParametersFrom before []) (same_value e) (record { own = own; from = no_formals })
  groups_come routine before (g ∷ gs) ps own e =
      let one = went (group_walk k routine before g) (λ next. each (group_walk k routine) next gs) ps e in
      group_come routine before g.line g.form gs one.value ps own one.first
      (λ next_own. groups_come routine one.value gs ps next_own one.rest)

  pub params_come : (routine : Symbol) (params : Option Params) (ps : Parameters) → params_walk k routine params ≡ Ok ps
      → ParametersFrom no_parameters (groups_of params) ps
  params_come routine None ps e = groups_come routine no_parameters [] ps no_own e
  params_come routine (Some params) ps e = groups_come routine no_parameters (params.groups.first ∷ params.groups.more) ps no_own e

  -- ---- GLOBAL and INITIAL

  variable_is : (line : ℕ) (x : Name) (m : Option Meaning) (i : Item) → variable_named line x m ≡ Ok i
      → ((t : TypeId) → m ≡ Some (OfPlace t) → (v : View) → names_place v x.symbol ≡ true → ItemFrom start p v i (written.Name x))
  variable_is line x None i e t h v n = absurd (nothing_there h)
  variable_is line x (Some (OfPlace u)) i e t h v n = subst (λ q. ItemFrom start p v q (written.Name x)) (same_value e) (origin.variable n)
  variable_is line x (Some (OfType u)) i e t h v n = absurd (no_fault e)
  variable_is line x (Some OfList) i e t h v n = absurd (no_fault e)
  variable_is line x (Some (OfConstant z)) i e t h v n = absurd (no_fault e)
  variable_is line x (Some (OfStart r)) i e t h v n = absurd (no_fault e)
  variable_is line x (Some (OfSymbol d)) i e t h v n = absurd (no_fault e)
  variable_is line x (Some (OfRoutine r)) i e t h v n = absurd (no_fault e)

  record PlaceMeant (m : Option Meaning) : Type 0 where
    pub type : TypeId
    pub is : m ≡ Some (OfPlace type)

  variable_meant : (line : ℕ) (x : Name) (m : Option Meaning) (i : Item) → variable_named line x m ≡ Ok i → PlaceMeant m
  variable_meant line x None i e = absurd (no_fault e)
  variable_meant line x (Some (OfPlace u)) i e = record { type = u; is = refl }
  variable_meant line x (Some (OfType u)) i e = absurd (no_fault e)
  variable_meant line x (Some OfList) i e = absurd (no_fault e)
  variable_meant line x (Some (OfConstant z)) i e = absurd (no_fault e)
  variable_meant line x (Some (OfStart r)) i e = absurd (no_fault e)
  variable_meant line x (Some (OfSymbol d)) i e = absurd (no_fault e)
  variable_meant line x (Some (OfRoutine r)) i e = absurd (no_fault e)

  top_place : (x : Symbol) (t : TypeId) → found (program_names k) x ≡ Some (OfPlace t) → names_place (at_top start p) x ≡ true
  top_place x t e = by_told (told k x (OfPlace t) e)
    where
      by_told : Told k x (OfPlace t) → names_place (at_top start p) x ≡ true
      by_told (told_place u f) = ap (λ vs. is_some (found vs x)) (sym knows.variables_are) ∙ ap is_some f

  top_type : (x : Symbol) (t : TypeId) → found (program_names k) x ≡ Some (OfType t) → names.type_named (at_top start p) x ≡ Some t
  top_type x t e = by_told (told k x (OfType t) e)
    where
      by_told : Told k x (OfType t) → names.type_named (at_top start p) x ≡ Some t
      by_told (told_type u f) =
          ap (λ ts. found (names.types_from_start start ++ ts) x) (sym knows.types_are)
          ∙ (ap (λ q. found (names.types_from_start q ++ k.program.types) x) (sym knows.start_is) ∙ f)

  class_come : (line : ℕ) (x : Name) (m : Option Meaning) (t : TypeId) → found (program_names k) x.symbol ≡ m
      → class_named line x m ≡ Ok t → names.type_named (at_top start p) x.symbol ≡ Some t
  class_come line x None t h e = absurd (no_fault e)
  class_come line x (Some (OfType u)) t h e = top_type x.symbol u h ∙ ap Some (same_value e)
  class_come line x (Some OfList) t h e = absurd (no_fault e)
  class_come line x (Some (OfConstant z)) t h e = absurd (no_fault e)
  class_come line x (Some (OfPlace u)) t h e = absurd (no_fault e)
  class_come line x (Some (OfStart r)) t h e = absurd (no_fault e)
  class_come line x (Some (OfSymbol d)) t h e = absurd (no_fault e)
  class_come line x (Some (OfRoutine r)) t h e = absurd (no_fault e)

  shared_come : (line : ℕ) (f : NameOrClass) (i : Item) → shared_item k line f ≡ Ok i → ItemFrom start p (at_top start p) i f
  shared_come line (written.Name x) i e =
      let m = variable_meant line x (found (program_names k) x.symbol) i e in
      variable_is line x (found (program_names k) x.symbol) i e m.type m.is (at_top start p) (top_place x.symbol m.type m.is)
  shared_come line (written.Class x) i e =
      let one = went (class_named line x (found (program_names k) x.symbol)) (λ t. fine (Class t)) i e in
      subst (λ q. ItemFrom start p (at_top start p) q (written.Class x)) (same_value one.rest)
      (origin.class (class_come line x (found (program_names k) x.symbol) one.value refl one.first))

  abbrev global_at : Item → Bool → ℕ → GlobalItem
  global_at i is_var line = record { item = i; is_var = is_var; line = line }

  record ItemsRest (is_var : Bool) (line : ℕ) (before : List GlobalItem) (ts : List ItemText) (all : List GlobalItem) : Type 0 where
    pub rest : List GlobalItem
    pub is : before ++ rest ≡ all
    pub from : ItemsFrom start p is_var line rest ts

  items_rest : (own : Names) (is_var : Bool) (line : ℕ) (before : List GlobalItem) (ts : List ItemText) (all : List GlobalItem)
      → each (item_walk k own is_var line) before ts ≡ Ok all → ItemsRest is_var line before ts all
  items_rest own is_var line before [] all e = record { rest = []; is = append-nil before ∙ same_value e; from = no_items }
  items_rest own is_var line before (t ∷ ts) all e =
      let one = went (item_walk k own is_var line before t) (λ next. each (item_walk k own is_var line) next ts) all e in
      let last = λ (i : Item). where_so (not (list_any (λ (g : GlobalItem). same_item g.item i) before)) (twice (item_name t.form))
      (fine (before ++ global_at i is_var line ∷ [])) in
      let two = went (shared_item k t.line t.form) last one.value
      (behind_test (not (hides own t.form)) (twice (item_name t.form)) (after (shared_item k t.line t.form) last) one.value one.first)
      in
      let i = two.value in
      let next = same_value (behind_test (not (list_any (λ (g : GlobalItem). same_item g.item i) before)) (twice (item_name t.form))
      (fine (before ++ global_at i is_var line ∷ [])) one.value two.rest) in
      let rest = items_rest own is_var line one.value ts all one.rest in
      record {
        rest = global_at i is_var line ∷ rest.rest;
        is = sym (append_assoc before (global_at i is_var line ∷ []) rest.rest) ∙ (ap (λ q. q ++ rest.rest) next ∙ rest.is);
        from = one_item (shared_come t.line t.form i two.first) rest.from;
      }

  record GlobalsRest (before : List GlobalItem) (gs : List GlobalGroup) (all : List GlobalItem) : Type 0 where
    pub rest : List GlobalItem
    pub is : before ++ rest ≡ all
    pub from : GlobalsFrom start p rest gs

  globals_rest : (own : Names) (before : List GlobalItem) (gs : List GlobalGroup) (all : List GlobalItem)
      → each (global_group_walk k own) before gs ≡ Ok all → GlobalsRest before gs all
  globals_rest own before [] all e = record { rest = []; is = append-nil before ∙ same_value e; from = no_globals }
  globals_rest own before (g ∷ gs) all e =
      let one = went (global_group_walk k own before g) (λ next. each (global_group_walk k own) next gs) all e in
      let now = items_rest own g.by_place g.line before (g.items.first ∷ g.items.more) one.value one.first in
      let rest = globals_rest own one.value gs all one.rest in
      record {
        rest = now.rest ++ rest.rest;
        is = sym (append_assoc before now.rest rest.rest) ∙ (ap (λ q. q ++ rest.rest) now.is ∙ rest.is);
        from = one_list now.from rest.from;
      }

  globals_come : (own : Names) (o : Option (Several GlobalGroup)) (all : List GlobalItem) → globals_walk k own o ≡ Ok all
      → GlobalsFrom start p all (listed o)
  globals_come own None all e = subst (λ q. GlobalsFrom start p q []) (same_value e) no_globals
  globals_come own (Some gs) all e = let r = globals_rest own [] (gs.first ∷ gs.more) all e in subst
      (λ q. GlobalsFrom start p q (gs.first ∷ gs.more)) r.is r.from

  initial_item_come : (own : Names) (os : List (Symbol × Own)) → OwnAs own os → (line : ℕ) (f : NameOrClass) (i : Item)
      → initial_item (in_routine k own None) line f ≡ Ok i → ItemFrom start p (seen start p None os) i f
  initial_item_come own os alike line (written.Name x) i e =
      let m = variable_meant line x (meaning (in_routine k own None) x.symbol) i e in
      variable_is line x (meaning (in_routine k own None) x.symbol) i e m.type m.is (seen start p None os)
      (places_seen k own os alike None start p None knows.variables_are x.symbol m.type m.is)
  initial_item_come own os alike line (written.Class x) i e =
      let one = went (class_named line x (found (program_names k) x.symbol)) (λ t. fine (Class t)) i e in
      subst (λ q. ItemFrom start p (seen start p None os) q (written.Class x)) (same_value one.rest)
      (origin.class (class_come line x (found (program_names k) x.symbol) one.value refl one.first))

  record StartsRest (os : List (Symbol × Own)) (before : Starts) (ts : List StartText) (all : Starts) : Type 0 where
    pub rest : List (Symbol × Item)
    pub is : before.initial ++ rest ≡ all.initial
    pub own : OwnAs all.own (start_names all.initial)
    pub from : InitialFrom start p (seen start p None os) rest ts

  abbrev start_at : Starts → Symbol → Item → Sort → Starts
  start_at so_far x i r = record { initial = so_far.initial ++ (x, i) ∷ []; own = so_far.own ++ (x, OfStart r) ∷ [] }

  starts_rest : (routine : Symbol) (formals : List Formal) (globals : List GlobalItem) (own : Names) (os : List (Symbol × Own))
      → OwnAs own os → (before : Starts) (ts : List StartText) (all : Starts) → OwnAs before.own (start_names before.initial)
      → each (start_walk k routine formals globals own) before ts ≡ Ok all → StartsRest os before ts all
  starts_rest routine formals globals own os alike before [] all h e =
      record {
        rest = [];
        is = append-nil before.initial ∙ ap (λ (q : Starts). q.initial) (same_value e);
        own = subst
            (λ (q : Starts). OwnAs q.own (start_names q.initial)) (same_value e) h;
        from = no_starts;
      }
  starts_rest routine formals globals own os alike before (t ∷ ts) all h e =
      let s = in_routine k own None in
      let one = went (start_walk k routine formals globals own before t) (λ next. each (start_walk k routine formals globals own) next ts)
      all e in
      let result = λ (i : Item). fine (start_at before t.name.symbol i (item_sort s i)) in
      let inner = λ (i : Item). where_so (may_be_initial formals globals i) (wrong t.item.line) (result i) in
      let last = λ (i : Item). where_so (is_free_in k.start routine globals (own ++ before.own) t.name.symbol) (twice t.name) (inner i) in
      let two = went (initial_item s t.item.line t.item.form) last one.value one.first in
      let i = two.value in
      let next : start_at before t.name.symbol i (item_sort s i) ≡ one.value =
      same_value (behind_test (may_be_initial formals globals i) (wrong t.item.line) (result i) one.value
      (behind_test (is_free_in k.start routine globals (own ++ before.own) t.name.symbol) (twice t.name) (inner i) one.value
      two.rest)) in
      let one_start_own : OwnAs ((t.name.symbol, OfStart (item_sort s i)) ∷ []) (start_names ((t.name.symbol, i) ∷ [])) = one_own
      t.name.symbol (OfStart (item_sort s i)) Start [] [] (as_start (item_sort s i)) no_own in
      let next_own = subst (OwnAs (before.own ++ (t.name.symbol, OfStart (item_sort s i)) ∷ []))
      (sym (start_append before.initial ((t.name.symbol, i) ∷ [])))
      (own_append before.own ((t.name.symbol, OfStart (item_sort s i)) ∷ []) (start_names before.initial)
      (start_names ((t.name.symbol, i) ∷ [])) h one_start_own) in
      let rest = starts_rest routine formals globals own os alike one.value ts all
      (subst (λ (q : Starts). OwnAs q.own (start_names q.initial)) next next_own) one.rest in
      record {
        rest = (t.name.symbol, i) ∷ rest.rest;
        is = sym (append_assoc before.initial ((t.name.symbol, i) ∷ []) rest.rest)
            ∙ (ap (λ (q : Starts). q.initial ++ rest.rest) next ∙ rest.is);
        own = rest.own;
        from = one_start (initial_item_come own os alike t.item.line t.item.form i two.first) rest.from;
      }

  record InitialDone (os : List (Symbol × Own)) (o : Option (Several StartText)) (all : Starts) : Type 0 where
    pub own : OwnAs all.own (start_names all.initial)
    pub from : InitialFrom start p (seen start p None os) all.initial (listed o)

  initial_come : (routine : Symbol) (formals : List Formal) (globals : List GlobalItem) (own : Names) (os : List (Symbol × Own))
      → OwnAs own os → (o : Option (Several StartText)) (all : Starts) → initial_walk k routine formals globals own o ≡ Ok all
      → InitialDone os o all
  initial_come routine formals globals own os alike None all e = subst (InitialDone os None) (same_value e)
      (record { own = no_own; from = no_starts })
  initial_come routine formals globals own os alike (Some ts) all e =
      let r = starts_rest routine formals globals own os alike (record { initial = []; own = [] }) (ts.first ∷ ts.more) all no_own e in
      record { own = r.own; from = subst (λ q. InitialFrom start p (seen start p None os) q (ts.first ∷ ts.more)) r.is r.from }

  -- ---- ENTRY and EXIT

  pub noted_come : (own : Names) (os : List (Symbol × Own)) → OwnAs own os → (f : Option formulas.Formula) (a : Option Annotation)
      → if_there (annotation (in_routine k own None)) f ≡ Ok a → IfThere (seen start p None os) a f
  noted_come own os alike None a e = subst (λ q. IfThere (seen start p None os) q None) (same_value e) not_there
  noted_come own os alike (Some f) a e =
      let one = went (annotation (in_routine k own None) f) (λ x. fine (Some x)) a e in
      subst (λ q. IfThere (seen start p None os) q (Some f)) (same_value one.rest)
      (there (annotations_come (in_routine k own None) (seen start p None os) (sees k own os alike None start p None knows) f
      one.value one.first))

  pub result_own : (x : Symbol) (t : Option TypeId) → OwnAs (walk.result_names x t) (result_names x t)
  result_own x None = no_own
  result_own x (Some t) = one_own x (OfPlace t) Place [] [] (as_place t) no_own

  -- the heading, all but its parameters and its result
  pub record ClausesDone (name : Symbol) (line : ℕ) (is_function : Bool) (number : RoutineId) (ps : Parameters) (result : Option TypeId)
      (c : Clauses) (h : Headed) : Type 0 where
    pub own : OwnAs h.own (parameter_names h.specified.heading.formals ++ start_names h.specified.initial)
    pub name_is : h.specified.heading.name ≡ name
    pub line_is : h.specified.heading.line ≡ line
    pub kind_is : h.specified.heading.is_function ≡ is_function
    pub number_is : h.specified.heading.number ≡ number
    pub formals_are : h.specified.heading.formals ≡ ps.formals
    pub result_is : h.specified.heading.result ≡ result
    pub globals : GlobalsFrom start p h.specified.heading.globals (listed c.globals)
    pub initial : InitialFrom start p (seen start p None (parameter_names h.specified.heading.formals)) h.specified.initial
        (listed c.initial)
    pub entry : IfThere (seen start p None (parameter_names h.specified.heading.formals)) h.specified.entry c.entry
    pub exit : IfThere (seen start p None (parameter_names h.specified.heading.formals ++ (result_names h.specified.heading.name
        h.specified.heading.result ++ start_names h.specified.initial))) h.specified.exit c.exit

  pub clauses_come : (name : Symbol) (line : ℕ) (is_function : Bool) (number : RoutineId) (ps : Parameters) (result : Option TypeId)
      (c : Clauses) (h : Headed) → OwnAs ps.own (parameter_names ps.formals)
      → clauses_walk k name line is_function number ps result c ≡ Ok h → ClausesDone name line is_function number ps result c h
  clauses_come name line is_function number ps result c h own e =
      let headed = λ (globals : List GlobalItem) (starts : Starts) (entry exit : Option Annotation). headed_of name line is_function
      number ps result globals starts entry exit in
      let exit_own = λ (starts : Starts). ps.own ++ (walk.result_names name result ++ starts.own) in
      let four_next = λ (globals : List GlobalItem) (starts : Starts) (entry : Option Annotation). after
      (if_there (annotation (in_routine k (exit_own starts) None)) c.exit) (λ exit. fine (headed globals starts entry exit)) in
      let three_next = λ (globals : List GlobalItem) (starts : Starts). after (if_there (annotation (in_routine k ps.own None)) c.entry)
      (four_next globals starts) in
      let one = went (globals_walk k ps.own c.globals) (λ globals. after (initial_walk k name ps.formals globals ps.own c.initial)
      (three_next globals)) h e in
      let two = went (initial_walk k name ps.formals one.value ps.own c.initial) (three_next one.value) h one.rest in
      let three = went (if_there (annotation (in_routine k ps.own None)) c.entry) (four_next one.value two.value) h two.rest in
      let four = went (if_there (annotation (in_routine k (exit_own two.value) None)) c.exit)
      (λ exit. fine (headed one.value two.value three.value exit)) h three.rest in
      let starts = initial_come name ps.formals one.value ps.own (parameter_names ps.formals) own c.initial two.value two.first in
      let exit_as = own_append ps.own (walk.result_names name result ++ two.value.own) (parameter_names ps.formals)
      (result_names name result ++ start_names two.value.initial) own
      (own_append (walk.result_names name result) two.value.own (result_names name result) (start_names two.value.initial)
      (result_own name result) starts.own) in
      subst (ClausesDone name line is_function number ps result c) (same_value four.rest)
      (record {
        own = own_append ps.own two.value.own (parameter_names ps.formals) (start_names two.value.initial) own starts.own;
        name_is = refl;
        line_is = refl;
        kind_is = refl;
        number_is = refl;
        formals_are = refl;
        result_is = refl;
        globals = globals_come ps.own c.globals one.value one.first;
        initial = starts.from;
        entry = noted_come ps.own (parameter_names ps.formals) own c.entry three.value three.first;
        exit = noted_come (exit_own two.value) (parameter_names ps.formals ++ (result_names name result ++ start_names two.value.initial))
            exit_as c.exit four.value four.first;
      })
