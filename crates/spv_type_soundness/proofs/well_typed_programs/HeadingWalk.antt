-- Headings that the walk answers are right.
use Rattle.std.proofs.Common.{◌≡◌, ℕ, Bool, true, false, not, ◌||◌, List, [], ◌∷◌, ◌++◌, map, Option, Some, None, is_some, refl, sym, ap, ◌∙◌, subst}
use Rattle.std.specs.Prelude.{Ok}
use Rattle.std.specs.List.{list_any, list_all}
use Rattle.std.specs.Cmp.Derive.{both_true}
use Rattle.std.proofs.lemmas.Bool.{false≢true}
use Rattle.std.proofs.lemmas.List.{append-nil, append_assoc, map-append}
use Rattle.std.proofs.lemmas.List.Folds.{list_any-append}
use Rattle.spv_logic.specs.declared.names.names.Symbol.{Symbol}
use Rattle.spv_logic.proofs.list.Tests.{left_true, right_true, right_false, both_false}
use Rattle.spv_logic.specs.declared.types.TypeId.{TypeId}
use Rattle.spv_logic.specs.declared.types.Sort.{Sort}
use Rattle.spv_tree.specs.declared.syntax.lists.Several.{Several}
use Rattle.spv_tree.specs.declared.syntax.names.Name.{Name}
use Rattle.spv_tree.specs.declared.syntax.declarations.NameOrClass.{NameOrClass}
use Rattle.spv_tree.specs.declared.syntax.declarations.NameOrClass.TheVariants as written
use Rattle.spv_tree.specs.declared.syntax.routines.GroupForm.{GroupForm}
use Rattle.spv_tree.specs.declared.syntax.routines.GroupForm.TheVariants.{Variables, Procedures, Functions}
use Rattle.spv_tree.specs.declared.syntax.routines.Params.{Params}
use Rattle.spv_tree.specs.declared.syntax.routines.Item.{Item as ItemText}
use Rattle.spv_tree.specs.declared.syntax.routines.GlobalGroup.{GlobalGroup}
use Rattle.spv_tree.specs.declared.syntax.routines.Start.{Start}
use Rattle.spv_tree.specs.syntax.Formulas as tree
use Rattle.spv_program.specs.declared.types.Item.{Item}
use Rattle.spv_program.specs.declared.types.Item.TheVariants.{Variable, Class}
use Rattle.spv_program.specs.Lists.{same_name, found, all_differ, names_differ}
use Rattle.spv_program.specs.Types.{form_at, sort_of, type_exists, may_be_result, same_item}
use Rattle.spv_program.specs.Formulas.{Annotation}
use Rattle.spv_program.specs.FormulaTypes.{annotation_ok}
use Rattle.spv_program.specs.Programs.{Formal, GlobalItem, Program}
use Rattle.spv_program.specs.Scopes.{Scope as Seen}
use Rattle.spv_program.specs.Typing.{item_exists, variables_among}
use Rattle.spv_typing.specs.Outcomes.{after, where_so, each, if_there, twice, wrong}
use Rattle.spv_typing.specs.Known.{KnownNames, is_fixed, Heading, Meaning, OfType, OfList, OfConstant, OfPlace, OfStart, OfSymbol, OfRoutine, Names, named, Known, Scope, program_names, meaning, is_named, is_free}
use Rattle.spv_typing.specs.TypeWalk.{all_names, type_named}
use Rattle.spv_typing.specs.DeclarationWalk.{new_name, class_named}
use Rattle.spv_typing.specs.FormulaWalk.{annotation}
use Rattle.spv_typing.specs.RoutineWalk.{is_listed, is_free_in, in_routine, Parameters, with_group, group_walk, no_parameters, params_walk, result_walk, variable_named, item_name, hides, shared_item, item_walk, global_group_walk, globals_walk, may_be_initial, initial_item, place_sort, item_sort, Starts as StartsSoFar, start_walk, initial_walk, with_heading}
use Rattle.spv_type_soundness.specs.well_typed.Laws.{SeesAlike}
use Rattle.spv_type_soundness.proofs.well_typed.Annotations.{annotations_are_well_typed}
use Rattle.spv_type_soundness.proofs.well_typed.Outcomes.{fine, no_fault, same_value, went, held, behind_test}
use Rattle.spv_type_soundness.proofs.well_typed_programs.Differ.{not_true, by_test, name-refl, same_names, differ_append, differ_rest, differ_apart, differ_one, apart_one, apart_turned, apart_both}
use Rattle.spv_type_soundness.proofs.well_typed_programs.Finding.{pair, keys, found_all, found_there, found_key, any_turned}
use Rattle.spv_type_soundness.proofs.well_typed_programs.Labels.{each_keeps}
use Rattle.spv_type_soundness.proofs.well_typed_programs.Naming.{NamesApart, symbol_names, heading_names, names_in, RightNames, one_new, names_with, all_fresh, keys_named, keys_append, keys_typed}
use Rattle.spv_type_soundness.proofs.well_typed_programs.Declaring.{all_there, all_append, all_typed, type_meant, RightKnown}
use Rattle.spv_type_soundness.proofs.well_typed_programs.Denoted.{named_type}
use Rattle.spv_type_soundness.proofs.well_typed_programs.Seeing.{named_told, type_in, OwnPlain, plain_places, named_none, scope_types, variable_meant, place_case}
use Rattle.spv_type_soundness.proofs.well_typed_programs.Headings.{formal_types, IsStart, start_formal, start_variable, start_class, Starts, starts_none, starts_keys, starts_one, items_in}
use Rattle.spv_type_soundness.proofs.well_typed_programs.Sharing.{item-refl, same_items, any_items, variable_any, variables_append, variables_class}

-- ---- a heading more

pub heading_right : (k : Known) (h : Heading) → RightKnown k → is_free k h.name ≡ true → RightKnown (with_heading k h)
heading_right k h r free =
    let p = k.program in
    let c = keys p.constants ++ (keys p.types ++ (keys p.variables ++ symbol_names p.symbols)) in
    let hs = heading_names k.headings in
    let turn = λ (last : List Symbol). append_assoc (keys p.constants) (keys p.types ++ (keys p.variables ++ symbol_names p.symbols)) last
    ∙ ap (λ l. keys p.constants ++ l) (append_assoc (keys p.types) (keys p.variables ++ symbol_names p.symbols) last
    ∙ ap (λ l. keys p.types ++ l) (append_assoc (keys p.variables) (symbol_names p.symbols) last)) in
    let before : names_in k ≡ c ++ (hs ++ []) =
    ap (λ l. keys p.constants ++ (keys p.types ++ (keys p.variables ++ (symbol_names p.symbols ++ l)))) (sym (append-nil hs))
    ∙ sym (turn (hs ++ [])) in
    let new : heading_names (k.headings ++ h ∷ []) ≡ (hs ++ h.name ∷ []) ++ [] =
    map-append (λ (g : Heading). g.name) k.headings (h ∷ []) ∙ sym (append-nil (hs ++ h.name ∷ [])) in
    let later : names_in (with_heading k h) ≡ c ++ ((hs ++ h.name ∷ []) ++ []) =
    ap (λ l. keys p.constants ++ (keys p.types ++ (keys p.variables ++ (symbol_names p.symbols ++ l)))) new
    ∙ sym (turn ((hs ++ h.name ∷ []) ++ [])) in
    record {
      program = r.program;
      names =
          names_with k (with_heading k h) c hs (h.name ∷ []) [] before later refl r.names (one_new k h.name free);
    }

-- a variable of the program has no routine's name
pub variable_no_routine : (k : Known) (x : Symbol) (t : TypeId) → RightNames k → found k.program.variables x ≡ Some t
    → list_any (same_name x) (heading_names k.headings) ≡ false
variable_no_routine k x t r e =
    let p = k.program in
    let behind_constants = differ_rest same_name name-refl same_names (keys p.constants)
    (keys p.types ++ (keys p.variables ++ (symbol_names p.symbols ++ heading_names k.headings))) r.differ in
    let behind_types = differ_rest same_name name-refl same_names (keys p.types)
    (keys p.variables ++ (symbol_names p.symbols ++ heading_names k.headings)) behind_constants in
    let away = differ_apart same_name name-refl same_names (keys p.variables) (symbol_names p.symbols ++ heading_names k.headings)
    behind_types in
    right_false (list_any (same_name x) (symbol_names p.symbols)) (list_any (same_name x) (heading_names k.headings))
    (sym (list_any-append (same_name x) (symbol_names p.symbols) (heading_names k.headings)) ∙ away.apart x (found_key p.variables x t e))

-- ---- annotations

pub noted_ok : (s : Scope) (names : Seen) → SeesAlike s names → (f : Option tree.Formula) (a : Option Annotation)
    → if_there (annotation s) f ≡ Ok a → annotation_ok s.known.program names a ≡ true
noted_ok s names sees None a e = subst (λ (b : Option Annotation). annotation_ok s.known.program names b ≡ true) (same_value e) refl
noted_ok s names sees (Some f) a e =
    let one = went (annotation s f) (λ b. fine (Some b)) a e in
    subst (λ (b : Option Annotation). annotation_ok s.known.program names b ≡ true) (same_value one.rest)
    (annotations_are_well_typed s names sees f one.value one.first)

-- ---- free names of a routine

pub record FreeIn (routine : Symbol) (globals : List GlobalItem) (own : Names) (x : Symbol) : Type 0 where
  pub not_routine : same_name routine x ≡ false
  pub not_own : list_any (same_name x) (keys own) ≡ false
  pub not_listed : list_any (same_name x) (variables_among (items_in globals)) ≡ false

pub free_in : (s : KnownNames) (routine : Symbol) (globals : List GlobalItem) (own : Names) (x : Symbol)
    → is_free_in s routine globals own x ≡ true → FreeIn routine globals own x
free_in s routine globals own x h =
    let one = right_true (not (is_fixed s x)) _ h in
    let two = right_true (not (same_name routine x)) _ one in
    record {
      not_routine = not_true (same_name routine x) (left_true _ _ one);
      not_own = sym (found_there own x) ∙ not_true (is_named own x) (left_true _ _ two);
      not_listed = sym (any_items (Variable x) globals ∙ variable_any x (items_in globals))
          ∙ not_true (is_listed globals x) (right_true (not (is_named own x)) _ two);
    }

-- new names behind the routine's and others of its scope
pub names_behind : (routine : Symbol) (others new : List Symbol) → names_differ (routine ∷ others) ≡ true → names_differ new ≡ true
    → ((x : Symbol) → list_any (same_name x) new ≡ true → (same_name routine x ≡ false) × (list_any (same_name x) others ≡ false))
    → names_differ (routine ∷ (others ++ new)) ≡ true
names_behind routine others new h k free =
    differ_append same_name name-refl same_names (routine ∷ others) new h k
    (apart_turned same_name name-refl same_names new (routine ∷ others) (record {
      apart = λ x e. let f = free x e in
          both_false (same_name x routine) (list_any (same_name x) others) (sym (any_turned x routine) ∙ f.0) f.1;
    }))

pub named_append : {X : Type 0} (f : X → Meaning) (xs ys : List (Symbol × X)) → named f (xs ++ ys) ≡ named f xs ++ named f ys
named_append f xs ys = map-append (λ n. pair n.0 (f n.1)) xs ys

pub named_typed : (t : TypeId) (names : List Symbol) → named OfPlace (map (λ x. pair x t) names) ≡ map (λ x. pair x (OfPlace t)) names
named_typed t [] = refl
named_typed t (x ∷ names) = ap (λ l. pair x (OfPlace t) ∷ l) (named_typed t names)

abbrev formal : TypeId → Bool → ℕ → Symbol → Formal
formal t by_place line x = record { name = x; of = t; by_place = by_place; line = line }

formals_typed : (t : TypeId) (by_place : Bool) (line : ℕ) (names : List Symbol)
    → formal_types (map (λ x. formal t by_place line x) names) ≡ map (λ x. pair x t) names
formals_typed t by_place line [] = refl
formals_typed t by_place line (x ∷ names) = ap (λ l. pair x t ∷ l) (formals_typed t by_place line names)

-- the type of a place among named types
pub own_place : (types : List (Symbol × TypeId)) (x : Symbol) (t : TypeId) → found (named OfPlace types) x ≡ Some (OfPlace t)
    → found types x ≡ Some t
own_place types x t e = named_told OfPlace types x (OfPlace t) (found types x ≡ Some t) e
    (λ u h same. h ∙ ap (λ m. Some (type_in t m)) same)

abbrev started : StartsSoFar → Symbol → Item → Sort → StartsSoFar
started so_far y i s = record { initial = so_far.initial ++ pair y i ∷ []; own = so_far.own ++ pair y (OfStart s) ∷ [] }

only : (z y : Symbol) → (same_name z y || false) ≡ true → z ≡ y
only z y h = by_test (same_name z y) (z ≡ y) (λ e. same_names z y e) (λ e. absurd (false≢true (sym (ap (λ b. b || false) e) ∙ h)))

module _ (k : Known) (right : RightKnown k) (routine : Symbol)
    (is_routine : list_any (same_name routine) (heading_names k.headings) ≡ true) where
  abbrev q : Program
  q = k.program

  not_routine : (x : Symbol) (t : TypeId) → found q.variables x ≡ Some t → same_name routine x ≡ false
  not_routine x t e =
      by_test (same_name routine x) (same_name routine x ≡ false)
      (λ h. absurd (false≢true (sym (subst (λ y. list_any (same_name y) (heading_names k.headings) ≡ false) (sym (same_names routine x h))
      (variable_no_routine k x t right.names e)) ∙ is_routine)))
      (λ h. h)

  -- ---- parameters

  pub record RightParams (ps : Parameters) : Type 0 where
    pub own : ps.own ≡ named OfPlace (formal_types ps.formals)
    pub there : all_there q.forms (formal_types ps.formals) ≡ true
    pub differ : names_differ (routine ∷ keys (formal_types ps.formals)) ≡ true

  type_in_scope : (types : List (Symbol × TypeId)) (own : Names) → own ≡ named OfPlace types → all_there q.forms types ≡ true
      → (x : Symbol) (t : TypeId) → meaning (in_routine k own None) x ≡ Some (OfType t) → type_exists q.forms t ≡ true
  type_in_scope types own e h x t m =
      scope_types (in_routine k (named OfPlace types) None) right.program (plain_places q types h) x t
      (subst (λ o. meaning (in_routine k o None) x ≡ Some (OfType t)) e m)

  named_there : (types : List (Symbol × TypeId)) (own : Names) → own ≡ named OfPlace types → all_there q.forms types ≡ true
      → (of : Name) (t : TypeId) → type_named of.line of (meaning (in_routine k own None) of.symbol) ≡ Ok t → type_exists q.forms t ≡ true
  named_there types own e h of t f =
      named_type (λ x. false) (in_routine k own None) (λ u. type_exists q.forms u ≡ true) of.line of
      (meaning (in_routine k own None) of.symbol) t refl (λ u m. type_in_scope types own e h of.symbol u m) f

  group_form : (ps next : Parameters) (line : ℕ) (form : GroupForm) → RightParams ps
      → group_walk k routine ps (record { line = line; form = form }) ≡ Ok next → RightParams next
  group_form ps next line (Variables by_place names of) r e =
      let may = is_free_in k.start routine [] ps.own in
      let F = formal_types ps.formals in
      let one = went (each (new_name may) [] (all_names names))
      (λ new. after (type_named of.line of (meaning (in_routine k ps.own None) of.symbol))
      (λ t. fine (with_group ps new t by_place line))) next e in
      let two = went (type_named of.line of (meaning (in_routine k ps.own None) of.symbol))
      (λ t. fine (with_group ps one.value t by_place line)) next one.rest in
      let new = one.value in
      let t = two.value in
      let fresh = all_fresh may (all_names names) new one.first in
      let exists = named_there F ps.own r.own r.there of t two.first in
      let types : formal_types (ps.formals ++ map (λ x. formal t by_place line x) new) ≡ F ++ map (λ x. pair x t) new =
      map-append (λ (f : Formal). pair f.name f.of) ps.formals (map (λ x. formal t by_place line x) new)
      ∙ ap (λ l. F ++ l) (formals_typed t by_place line new) in
      let own_keys : keys ps.own ≡ keys F = ap keys r.own ∙ keys_named OfPlace F in
      let all_keys : keys (formal_types (ps.formals ++ map (λ x. formal t by_place line x) new)) ≡ keys F ++ new =
      ap keys types ∙ (keys_append F (map (λ x. pair x t) new) ∙ ap (λ l. keys F ++ l) (keys_typed t new)) in
      subst RightParams (same_value two.rest) (record {
        own = ap (λ o. o ++ map (λ x. pair x (OfPlace t)) new) r.own
            ∙ (ap (λ l. named OfPlace F ++ l) (sym (named_typed t new))
            ∙ (sym (named_append OfPlace F (map (λ x. pair x t) new)) ∙ ap (named OfPlace) (sym types)));
        there = ap (all_there q.forms) types
            ∙ all_append (λ (n : Symbol × TypeId). type_exists q.forms n.1) F (map (λ x. pair x t) new) r.there
            (all_typed q.forms t new exists);
        differ = ap (λ l. names_differ (routine ∷ l)) all_keys
            ∙ names_behind routine (keys F) new r.differ fresh.differ
            (λ x h. let f = free_in k.start routine [] ps.own x (fresh.free x h) in
            (f.not_routine, ap (list_any (same_name x)) (sym own_keys) ∙ f.not_own));
      })
  group_form ps next line (Procedures names) r e = absurd (no_fault e)
  group_form ps next line (Functions names of) r e = absurd (no_fault e)

  pub params_right : (params : Option Params) (ps : Parameters) → params_walk k routine params ≡ Ok ps → RightParams ps
  params_right None ps e = subst RightParams (same_value e) (record { own = refl; there = refl; differ = refl })
  params_right (Some params) ps e =
      each_keeps RightParams (group_walk k routine) (λ s t g h f. group_form s t g.line g.form h f) (all_names params.groups)
      no_parameters ps (record { own = refl; there = refl; differ = refl }) e

  pub record ResultOk (t : TypeId) : Type 0 where
    pub there : type_exists q.forms t ≡ true
    pub plain : may_be_result (form_at q.forms t.0) ≡ true

  pub result_right : (line : ℕ) (ps : Parameters) (of : Option Name) (t : TypeId) → RightParams ps → result_walk k line ps.own of ≡ Ok t
      → ResultOk t
  result_right line ps None t r e = absurd (no_fault e)
  result_right line ps (Some of) t r e =
      let test = λ (u : TypeId). may_be_result (form_at q.forms u.0) in
      let one = went (type_named of.line of (meaning (in_routine k ps.own None) of.symbol))
      (λ u. where_so (test u) (wrong of.line) (fine u)) t e in
      subst ResultOk (same_value (behind_test (test one.value) (wrong of.line) (fine one.value) t one.rest)) (record {
        there = named_there (formal_types ps.formals) ps.own r.own r.there of one.value one.first;
        plain = held (test one.value) (wrong of.line) (fine one.value) t one.rest;
      })

  -- ---- GLOBAL

  module _ (ps : Parameters) (params : RightParams ps) where
    abbrev F : List (Symbol × TypeId)
    F = formal_types ps.formals

    own_keys : keys ps.own ≡ keys F
    own_keys = ap keys params.own ∙ keys_named OfPlace F

    plain : OwnPlain q ps.own
    plain = subst (OwnPlain q) (sym params.own) (plain_places q F params.there)

    pub record RightGlobals (globals : List GlobalItem) : Type 0 where
      pub exist : list_all (λ (g : GlobalItem). item_exists q g.item) globals ≡ true
      pub differ : all_differ same_item (items_in globals) ≡ true
      pub away : NamesApart (variables_among (items_in globals)) (routine ∷ keys F)

    -- what an item of the program is
    data Shares (form : NameOrClass) : Item → Type 0 where
      shares_variable : (x : Name) (t : TypeId) → form ≡ written.Name x → found q.variables x.symbol ≡ Some t
          → Shares form (Variable x.symbol)
      shares_class : (t : TypeId) → type_exists q.forms t ≡ true → Shares form (Class t)

    variable_shared : (line : ℕ) (x : Name) (m : Option Meaning) (i : Item) → found (program_names k) x.symbol ≡ m
        → variable_named line x m ≡ Ok i → Shares (written.Name x) i
    variable_shared line x None i h e = absurd (no_fault e)
    variable_shared line x (Some (OfPlace t)) i h e =
        subst (Shares (written.Name x)) (same_value e)
        (shares_variable x t refl (variable_meant (in_routine k ps.own None) right.program plain x.symbol t h))
    variable_shared line x (Some (OfType t)) i h e = absurd (no_fault e)
    variable_shared line x (Some OfList) i h e = absurd (no_fault e)
    variable_shared line x (Some (OfConstant z)) i h e = absurd (no_fault e)
    variable_shared line x (Some (OfStart s)) i h e = absurd (no_fault e)
    variable_shared line x (Some (OfSymbol d)) i h e = absurd (no_fault e)
    variable_shared line x (Some (OfRoutine d)) i h e = absurd (no_fault e)

    class_shared : (line : ℕ) (x : Name) (m : Option Meaning) (t : TypeId) → found (program_names k) x.symbol ≡ m
        → class_named line x m ≡ Ok t → type_exists q.forms t ≡ true
    class_shared line x None t h e = absurd (no_fault e)
    class_shared line x (Some (OfType u)) t h e =
        subst (λ v. type_exists q.forms v ≡ true) (same_value e) (type_meant k x.symbol u right.program h)
    class_shared line x (Some OfList) t h e = absurd (no_fault e)
    class_shared line x (Some (OfConstant z)) t h e = absurd (no_fault e)
    class_shared line x (Some (OfPlace u)) t h e = absurd (no_fault e)
    class_shared line x (Some (OfStart s)) t h e = absurd (no_fault e)
    class_shared line x (Some (OfSymbol d)) t h e = absurd (no_fault e)
    class_shared line x (Some (OfRoutine d)) t h e = absurd (no_fault e)

    shared_right : (line : ℕ) (form : NameOrClass) (i : Item) → shared_item k line form ≡ Ok i → Shares form i
    shared_right line (written.Name x) i e = variable_shared line x (found (program_names k) x.symbol) i refl e
    shared_right line (written.Class x) i e =
        let one = went (class_named line x (found (program_names k) x.symbol)) (λ t. fine (Class t)) i e in
        subst (Shares (written.Class x)) (same_value one.rest)
        (shares_class one.value (class_shared line x (found (program_names k) x.symbol) one.value refl one.first))

    abbrev global : Bool → ℕ → Item → GlobalItem
    global is_var line i = record { item = i; is_var = is_var; line = line }

    global_more : (globals : List GlobalItem) (form : NameOrClass) (i : Item) (is_var : Bool) (line : ℕ) → RightGlobals globals
        → hides ps.own form ≡ false → Shares form i → list_any (λ (g : GlobalItem). same_item g.item i) globals ≡ false
        → RightGlobals (globals ++ global is_var line i ∷ [])
    global_more globals form i is_var line r hidden (shares_variable x t is e) new =
        let items = items_in globals in
        let grown : items_in (globals ++ global is_var line (Variable x.symbol) ∷ []) ≡ items ++ Variable x.symbol ∷ [] =
        map-append (λ (g : GlobalItem). g.item) globals (global is_var line (Variable x.symbol) ∷ []) in
        let other : list_any (same_name x.symbol) (keys F) ≡ false =
        ap (list_any (same_name x.symbol)) (sym own_keys)
        ∙ (sym (found_there ps.own x.symbol) ∙ subst (λ f. hides ps.own f ≡ false) is hidden) in
        record {
          exist = all_append (λ (g : GlobalItem). item_exists q g.item) globals (global is_var line (Variable x.symbol) ∷ []) r.exist
              (both_true (ap is_some e) refl);
          differ = ap (all_differ same_item) grown
              ∙ differ_one same_item item-refl same_items items (Variable x.symbol) r.differ
              (sym (any_items (Variable x.symbol) globals) ∙ new);
          away = subst (λ l. NamesApart l (routine ∷ keys F)) (sym (ap variables_among grown ∙ variables_append items x.symbol))
              (apart_turned same_name name-refl same_names (routine ∷ keys F) (variables_among items ++ x.symbol ∷ [])
              (apart_both same_name name-refl same_names (routine ∷ keys F) (variables_among items) (x.symbol ∷ [])
              (apart_turned same_name name-refl same_names (variables_among items) (routine ∷ keys F) r.away)
              (apart_one same_name name-refl same_names (routine ∷ keys F) x.symbol
              (both_false (same_name x.symbol routine) (list_any (same_name x.symbol) (keys F))
              (sym (any_turned x.symbol routine) ∙ not_routine x.symbol t e) other))));
        }
    global_more globals form i is_var line r hidden (shares_class t e) new =
        let items = items_in globals in
        let grown : items_in (globals ++ global is_var line (Class t) ∷ []) ≡ items ++ Class t ∷ [] =
        map-append (λ (g : GlobalItem). g.item) globals (global is_var line (Class t) ∷ []) in
        record {
          exist = all_append (λ (g : GlobalItem). item_exists q g.item) globals (global is_var line (Class t) ∷ []) r.exist
              (both_true e refl);
          differ = ap (all_differ same_item) grown
              ∙ differ_one same_item item-refl same_items items (Class t) r.differ (sym (any_items (Class t) globals) ∙ new);
          away = subst (λ l. NamesApart l (routine ∷ keys F)) (sym (ap variables_among grown ∙ variables_class items t)) r.away;
        }

    item_right : (is_var : Bool) (line : ℕ) (globals next : List GlobalItem) (i : ItemText) → RightGlobals globals
        → item_walk k ps.own is_var line globals i ≡ Ok next → RightGlobals next
    item_right is_var line globals next i r e =
        let last = λ (item : Item). where_so (not (list_any (λ (g : GlobalItem). same_item g.item item) globals))
        (twice (item_name i.form)) (fine (globals ++ global is_var line item ∷ [])) in
        let step = after (shared_item k i.line i.form) last in
        let hidden = not_true (hides ps.own i.form) (held (not (hides ps.own i.form)) (twice (item_name i.form)) step next e) in
        let one = went (shared_item k i.line i.form) last next
        (behind_test (not (hides ps.own i.form)) (twice (item_name i.form)) step next e) in
        let test = not (list_any (λ (g : GlobalItem). same_item g.item one.value) globals) in
        let result = fine (globals ++ global is_var line one.value ∷ []) in
        subst RightGlobals (same_value (behind_test test (twice (item_name i.form)) result next one.rest))
        (global_more globals i.form one.value is_var line r hidden (shared_right i.line i.form one.value one.first)
        (not_true (list_any (λ (g : GlobalItem). same_item g.item one.value) globals)
        (held test (twice (item_name i.form)) result next one.rest)))

    no_globals : RightGlobals []
    no_globals = record { exist = refl; differ = refl; away = record { apart = λ x e. absurd (false≢true e) } }

    pub globals_right : (groups : Option (Several GlobalGroup)) (globals : List GlobalItem) → globals_walk k ps.own groups ≡ Ok globals
        → RightGlobals globals
    globals_right None globals e = subst RightGlobals (same_value e) no_globals
    globals_right (Some groups) globals e =
        each_keeps RightGlobals (global_group_walk k ps.own)
        (λ s t g h f. each_keeps RightGlobals (item_walk k ps.own g.by_place g.line) (λ a b i r w. item_right g.by_place g.line a b i r w)
        (all_names g.items) s t h f)
        (all_names groups) [] globals no_globals e

    -- ---- INITIAL

    module _ (globals : List GlobalItem) (shared : RightGlobals globals) where
      pub record RightStarts (so_far : StartsSoFar) : Type 0 where
        pub sorts : List (Symbol × Sort)
        pub own : so_far.own ≡ named OfStart sorts
        pub starts : Starts q F so_far.initial sorts
        pub may : list_all (λ (i : Symbol × Item). may_be_initial ps.formals globals i.1) so_far.initial ≡ true
        pub differ : names_differ (routine ∷ (keys F ++ keys so_far.initial)) ≡ true
        pub away : NamesApart (keys so_far.initial) (variables_among (items_in globals))

      abbrev inner : Scope
      inner = in_routine k ps.own None

      place_found : (x : Symbol) (t : TypeId) → meaning inner x ≡ Some (OfPlace t) → IsStart q F (Variable x) (sort_of q.forms t)
      place_found x t m =
          place_case inner right.program plain x t (IsStart q F (Variable x) (sort_of q.forms t)) m
          (λ h. let u = own_place F x t (sym (ap (λ own. found own x) params.own) ∙ h) in start_formal x t u (plain.place_there x t h))
          (λ none h. start_variable x t (named_none OfPlace F x (sym (ap (λ own. found own x) params.own) ∙ none)) h
          (found_all (type_exists q.forms) q.variables x t right.program.variables h))

      initial_variable : (line : ℕ) (x : Name) (m : Option Meaning) (i : Item) → meaning inner x.symbol ≡ m
          → variable_named line x m ≡ Ok i → IsStart q F i (item_sort inner i)
      initial_variable line x None i h e = absurd (no_fault e)
      initial_variable line x (Some (OfPlace t)) i h e =
          subst (λ (j : Item). IsStart q F j (item_sort inner j)) (same_value e)
          (subst (IsStart q F (Variable x.symbol)) (sym (ap (place_sort inner) h)) (place_found x.symbol t h))
      initial_variable line x (Some (OfType t)) i h e = absurd (no_fault e)
      initial_variable line x (Some OfList) i h e = absurd (no_fault e)
      initial_variable line x (Some (OfConstant z)) i h e = absurd (no_fault e)
      initial_variable line x (Some (OfStart s)) i h e = absurd (no_fault e)
      initial_variable line x (Some (OfSymbol d)) i h e = absurd (no_fault e)
      initial_variable line x (Some (OfRoutine d)) i h e = absurd (no_fault e)

      initial_right : (line : ℕ) (form : NameOrClass) (i : Item) → initial_item inner line form ≡ Ok i → IsStart q F i (item_sort inner i)
      initial_right line (written.Name x) i e = initial_variable line x (meaning inner x.symbol) i refl e
      initial_right line (written.Class x) i e =
          let one = went (class_named line x (found (program_names k) x.symbol)) (λ t. fine (Class t)) i e in
          subst (λ (j : Item). IsStart q F j (item_sort inner j)) (same_value one.rest)
          (start_class one.value (class_shared line x (found (program_names k) x.symbol) one.value refl one.first))

      start_right : (so_far next : StartsSoFar) (x : Start) → RightStarts so_far
          → start_walk k routine ps.formals globals ps.own so_far x ≡ Ok next → RightStarts next
      start_right so_far next x r e =
          let y = x.name.symbol in
          let may = λ (i : Item). may_be_initial ps.formals globals i in
          let free = is_free_in k.start routine globals (ps.own ++ so_far.own) y in
          let result = λ (i : Item). fine (started so_far y i (item_sort inner i)) in
          let step = λ (i : Item). where_so (may i) (wrong x.item.line) (result i) in
          let one = went (initial_item inner x.item.line x.item.form) (λ i. where_so free (twice x.name) (step i)) next e in
          let i = one.value in
          let is_free = held free (twice x.name) (step i) next one.rest in
          let two = behind_test free (twice x.name) (step i) next one.rest in
          let f = free_in k.start routine globals (ps.own ++ so_far.own) y is_free in
          let s = item_sort inner i in
          let own_keys_all : keys (ps.own ++ so_far.own) ≡ keys F ++ keys so_far.initial =
          keys_append ps.own so_far.own ∙ (ap (λ l. l ++ keys so_far.own) own_keys
          ∙ ap (λ l. keys F ++ l) (ap keys r.own ∙ (keys_named OfStart r.sorts ∙ starts_keys q F so_far.initial r.sorts r.starts))) in
          let new_keys : keys (so_far.initial ++ pair y i ∷ []) ≡ keys so_far.initial ++ y ∷ [] =
          keys_append so_far.initial (pair y i ∷ []) in
          let not_here : list_any (same_name y) (keys F ++ keys so_far.initial) ≡ false =
          ap (list_any (same_name y)) (sym own_keys_all) ∙ f.not_own in
          subst RightStarts (same_value (behind_test (may i) (wrong x.item.line) (result i) next two)) (record {
            sorts = r.sorts ++ pair y s ∷ [];
            own = ap (λ o. o ++ pair y (OfStart s) ∷ []) r.own ∙ sym (named_append OfStart r.sorts (pair y s ∷ []));
            starts = starts_one q F so_far.initial r.sorts y i s r.starts (initial_right x.item.line x.item.form i one.first);
            may = all_append (λ (j : Symbol × Item). may_be_initial ps.formals globals j.1) so_far.initial (pair y i ∷ []) r.may
                (both_true (held (may i) (wrong x.item.line) (result i) next two) refl);
            differ = ap (λ l. names_differ (routine ∷ l))
                (ap (λ l. keys F ++ l) new_keys ∙ sym (append_assoc (keys F) (keys so_far.initial) (y ∷ [])))
                ∙ names_behind routine (keys F ++ keys so_far.initial) (y ∷ []) r.differ refl (λ z h. let same = only z y h in (
                  subst (λ w. same_name routine w ≡ false) (sym same) f.not_routine,
                  subst (λ w. list_any (same_name w) (keys F ++ keys so_far.initial) ≡ false) (sym same) not_here,
                ));
            away = subst (λ l. NamesApart l (variables_among (items_in globals))) (sym new_keys)
                (apart_turned same_name name-refl same_names (variables_among (items_in globals)) (keys so_far.initial ++ y ∷ [])
                (apart_both same_name name-refl same_names (variables_among (items_in globals)) (keys so_far.initial) (y ∷ [])
                (apart_turned same_name name-refl same_names (keys so_far.initial) (variables_among (items_in globals)) r.away)
                (apart_one same_name name-refl same_names (variables_among (items_in globals)) y f.not_listed)));
          })

      no_starts : RightStarts (record { initial = []; own = [] })
      no_starts = record {
        sorts = [];
        own = refl;
        starts = starts_none;
        may = refl;
        differ = ap (λ l. names_differ (routine ∷ l)) (append-nil (keys F)) ∙ params.differ;
        away = record { apart = λ x e. absurd (false≢true e) };
      }

      pub starts_right : (starts : Option (Several Start)) (so_far : StartsSoFar)
          → initial_walk k routine ps.formals globals ps.own starts ≡ Ok so_far → RightStarts so_far
      starts_right None so_far e = subst RightStarts (same_value e) no_starts
      starts_right (Some starts) so_far e =
          each_keeps RightStarts (start_walk k routine ps.formals globals ps.own) (λ s t x h f. start_right s t x h f) (all_names starts)
          (record { initial = []; own = [] }) so_far no_starts e
