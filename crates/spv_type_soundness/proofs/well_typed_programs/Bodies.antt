-- A body is read where not all routines are known yet: the program that is known there, and the whole program.
use Rattle.std.proofs.Common.{◌≡◌, Bool, true, false, cond, List, [], ◌∷◌, map, filter, Option, Some, None, is_some, nat_eq, refl, sym, ap, ◌∙◌, subst}
use Rattle.std.specs.List.{list_any, list_all, flat_map}
use Rattle.std.proofs.lemmas.Bool.{false≢true, eq-eqb}
use Rattle.std.proofs.lemmas.List.Folds.{list_any-append}
use Rattle.spv_logic.specs.declared.names.names.Symbol.{Symbol}
use Rattle.spv_logic.proofs.list.Tests.{left_false, right_false}
use Rattle.spv_logic.specs.declared.types.TypeId.{TypeId}
use Rattle.spv_logic.specs.declared.conditions.RoutineId.{RoutineId}
use Rattle.spv_program.specs.Lists.{same_name, found, item_at}
use Rattle.spv_program.specs.Types.{type_exists}
use Rattle.spv_program.specs.Expressions.{Call, call}
use Rattle.spv_program.specs.Programs.{Formal, Routine, Program, routine_at}
use Rattle.spv_program.specs.Scopes.{name_type, is_result, is_initial}
use Rattle.spv_program.specs.Uses.{Root, Shared}
use Rattle.spv_program.specs.Changes.{var_items, items_of_callee, changed_by_call}
use Rattle.spv_program.proofs.SortFacts.{nothing_there, some_is}
use Rattle.spv_typing.specs.Known.{Heading, OfPlace, OfRoutine, Known, Scope, meaning}
use Rattle.spv_typing.specs.StatementWalk.{items_of}
use Rattle.spv_typing.specs.ExpressionWalk.{is_this}
use Rattle.spv_type_soundness.specs.well_typed.Expressions.{IsHeadingOf, Belongs}
use Rattle.spv_type_soundness.specs.well_typed_programs.Grown.{GrowsTypes, Grows}
use Rattle.spv_type_soundness.proofs.well_typed_programs.Finding.{pair, found_name, some_there}
use Rattle.spv_type_soundness.proofs.well_typed_programs.Items.{item_map, item_mapped, all_map}
use Rattle.spv_type_soundness.proofs.well_typed_programs.Naming.{headings_named}
use Rattle.spv_type_soundness.proofs.well_typed_programs.Declaring.{first_form, forms_pass, number_there, RightProgram}
use Rattle.spv_type_soundness.proofs.well_typed_programs.Seeing.{OwnPlain, routine_meant, place_there}
use Rattle.spv_type_soundness.proofs.well_typed_programs.Headings.{RightHeading, Later, grows_types}

-- a routine is the one of a heading
pub record AgreesWith (c : Routine) (g : Heading) (r : RoutineId) : Type 0 where
  pub number : g.number ≡ r
  pub formals : c.formals ≡ g.formals
  pub result : c.result ≡ g.result
  pub globals : c.globals ≡ g.globals

-- a heading has its routine in the program
pub record HasBody (p : Program) (g : Heading) : Type 0 where
  pub routine : Routine
  pub at : routine_at p g.number ≡ Some routine
  pub name : routine.name ≡ g.name

-- the whole program, seen from a place of the walk
pub record Final (k : Known) (p : Program) : Type 0 where
  pub later : Later k.program p
  pub agree : (r : RoutineId) (c : Routine) (g : Heading) → routine_at p r ≡ Some c → found (headings_named k.headings) c.name ≡ Some g
      → AgreesWith c g r
  pub bodies : (x : Symbol) (g : Heading) → found (headings_named k.headings) x ≡ Some g → HasBody p g

pub record HeadingsKnown (k : Known) : Type 0 where
  pub each : (x : Symbol) (g : Heading) → found (headings_named k.headings) x ≡ Some g → RightHeading k.program g

-- a routine whose heading is not known is one that nothing can call
abbrev pub hidden_if : Bool → Routine → Routine
hidden_if true c = c
hidden_if false c = record {
  name = c.name;
  line = c.line;
  formals = c.formals;
  result = None;
  globals = [];
  initial = c.initial;
  entry = c.entry;
  exit = c.exit;
  locals = c.locals;
  body = c.body;
}

abbrev pub hidden : List Heading → Routine → Routine
hidden headings c = hidden_if (is_some (found (headings_named headings) c.name)) c

-- the program as it is known
abbrev pub known_program : Known → Program → Program
known_program k p = record {
  forms = k.program.forms;
  titles = p.titles;
  types = p.types;
  constants = p.constants;
  variables = p.variables;
  symbols = p.symbols;
  routines = map (hidden k.headings) p.routines;
  main = p.main;
}

module _ (k : Known) (p : Program) (right : RightProgram k.program) (headings : HeadingsKnown k) (final : Final k p) where
  abbrev pub q : Program
  q = known_program k p

  pub shown : (r : RoutineId) (c : Routine) (g : Heading) → routine_at p r ≡ Some c → found (headings_named k.headings) c.name ≡ Some g
      → routine_at q r ≡ Some c
  shown r c g e f = item_map (hidden k.headings) p.routines r.0 c e
      ∙ ap (λ b. Some (hidden_if b c)) (some_there (found (headings_named k.headings) c.name) g f)

  -- what a routine of the known program is
  data Known_as (r : RoutineId) (c : Routine) : Type 0 where
    is_shown : (g : Heading) → routine_at p r ≡ Some c → found (headings_named k.headings) c.name ≡ Some g → Known_as r c
    is_hidden : c.result ≡ None → c.globals ≡ [] → Known_as r c

  known_as : (r : RoutineId) (c : Routine) → routine_at q r ≡ Some c → Known_as r c
  known_as r c e =
      let m = item_mapped (hidden k.headings) p.routines r.0 c e in
      by_found m.item m.at (found (headings_named k.headings) m.item.name) refl m.is
    where
      by_found : (d : Routine) → item_at p.routines r.0 ≡ Some d → (o : Option Heading) → found (headings_named k.headings) d.name ≡ o
          → hidden_if (is_some (found (headings_named k.headings) d.name)) d ≡ c → Known_as r c
      by_found d at None f is =
          let same : hidden_if false d ≡ c = ap (λ o. hidden_if (is_some o) d) (sym f) ∙ is in
          is_hidden (ap (λ (x : Routine). x.result) (sym same)) (ap (λ (x : Routine). x.globals) (sym same))
      by_found d at (Some g) f is =
          let same : d ≡ c = ap (λ o. hidden_if (is_some o) d) (sym f) ∙ is in
          is_shown g (at ∙ ap Some same) (ap (λ (x : Routine). found (headings_named k.headings) x.name) (sym same) ∙ f)

  formals_there : (g : Heading) → RightHeading k.program g
      → list_all (λ (f : Formal). type_exists k.program.forms f.of) g.formals ≡ true
  formals_there g h = sym (all_map (λ (n : Symbol × TypeId). type_exists k.program.forms n.1) (λ (f : Formal). pair f.name f.of)
      g.formals) ∙ h.formals

  -- ---- the whole program has more

  pub program_grows : GrowsTypes k.program p
  program_grows = grows_types k.program p right final.later

  pub known_grows : (here : Option Routine)
      → ((x : Symbol) (t : TypeId) → name_type q here x ≡ Some t → type_exists k.program.forms t ≡ true) → Grows q p here
  known_grows here names = record {
    types = record {
      more = final.later.forms.more;
      forms = final.later.forms.is;
      forms_right =
          forms_pass k.program.forms right.forms;
      first = first_form k.program.forms right.forms;
      symbols = refl;
    };
    variables = refl;
    names = names;
    routines = λ r c t e h. by_kind r c t h (routine_at p r ≡ Some c) (known_as r c e) (λ g at f. at);
    results = λ r c t e h. by_kind r c t h (type_exists k.program.forms t ≡ true) (known_as r c e)
        (λ g at f. (headings.each c.name g f).result t (sym (final.agree r c g at f).result ∙ h));
    parameters = λ r c t e h. by_kind r c t h (list_all (λ (f : Formal). type_exists k.program.forms f.of) c.formals ≡ true)
        (known_as r c e)
        (λ g at f. subst (λ fs. list_all (λ (f : Formal). type_exists k.program.forms f.of) fs ≡ true)
        (sym (final.agree r c g at f).formals)
        (formals_there g (headings.each c.name g f)));
  }
    where
      by_kind : (r : RoutineId) (c : Routine) (t : TypeId) → c.result ≡ Some t → (P : Type 0) → Known_as r c
          → ((g : Heading) → routine_at p r ≡ Some c → found (headings_named k.headings) c.name ≡ Some g → P) → P
      by_kind r c t h P (is_shown g at f) go = go g at f
      by_kind r c t h P (is_hidden none empty) go = absurd (nothing_there (sym none ∙ h))

  -- ---- what calls may change

  heading_items : (hs : List Heading) (x : Symbol) (g : Heading) (r : RoutineId) (test : Root → Bool)
      → found (headings_named hs) x ≡ Some g → g.number ≡ r
      → list_any test (flat_map (λ (h : Heading). map Shared (var_items h.globals)) (filter (λ (h : Heading). nat_eq h.number.0 r.0) hs))
      ≡ false → list_any test (map Shared (var_items g.globals)) ≡ false
  heading_items [] x g r test e n h = absurd (nothing_there e)
  heading_items (d ∷ hs) x g r test e n h =
      by_name (same_name d.name x) refl e (nat_eq d.number.0 r.0) refl h (λ f i. heading_items hs x g r test f n i)
    where
      later : (b : Bool) → list_any test
          (flat_map (λ (h : Heading). map Shared (var_items h.globals))
          (cond b (d ∷ filter (λ (h : Heading). nat_eq h.number.0 r.0) hs) (filter (λ (h : Heading). nat_eq h.number.0 r.0) hs))) ≡ false
          → list_any test (flat_map (λ (h : Heading). map Shared (var_items h.globals))
          (filter (λ (h : Heading). nat_eq h.number.0 r.0) hs)) ≡ false
      later true i = right_false (list_any test (map Shared (var_items d.globals))) _
          (sym (list_any-append test (map Shared (var_items d.globals))
          (flat_map (λ (h : Heading). map Shared (var_items h.globals)) (filter (λ (h : Heading). nat_eq h.number.0 r.0) hs))) ∙ i)
      later false i = i

      by_name : (a : Bool) → same_name d.name x ≡ a → cond a (Some d) (found (headings_named hs) x) ≡ Some g → (b : Bool)
          → nat_eq d.number.0 r.0 ≡ b
          → list_any test (flat_map (λ (h : Heading). map Shared (var_items h.globals))
          (cond b (d ∷ filter (λ (h : Heading). nat_eq h.number.0 r.0) hs) (filter (λ (h : Heading). nat_eq h.number.0 r.0) hs)))
          ≡ false
          → (found (headings_named hs) x ≡ Some g
          → list_any test (flat_map (λ (h : Heading). map Shared (var_items h.globals))
          (filter (λ (h : Heading). nat_eq h.number.0 r.0) hs)) ≡ false → list_any test (map Shared (var_items g.globals)) ≡ false)
          → list_any test (map Shared (var_items g.globals)) ≡ false
      by_name false i f b j u go = go f (later b u)
      by_name true i f true j u go =
          subst (λ (y : Heading). list_any test (map Shared (var_items y.globals)) ≡ false) (some_is f)
          (left_false (list_any test (map Shared (var_items d.globals))) _
          (sym (list_any-append test (map Shared (var_items d.globals))
          (flat_map (λ (h : Heading). map Shared (var_items h.globals)) (filter (λ (h : Heading). nat_eq h.number.0 r.0) hs))) ∙ u))
      by_name true i f false j u go =
          let same : d ≡ g = some_is f in
          absurd (false≢true (sym j ∙ eq-eqb d.number.0 r.0 (ap (λ (y : Heading). y.number.0) same ∙ ap (λ (y : RoutineId). y.0) n)))

  pub items_known : (c : Call) (test : Root → Bool) → list_any test (items_of k.headings c) ≡ false
      → list_any test (changed_by_call q c) ≡ false
  items_known (call r line given) test h = by_routine (routine_at q r) refl
    where
      by_kind : (c : Routine) → Known_as r c → list_any test (map Shared (var_items c.globals)) ≡ false
      by_kind c (is_hidden none empty) = ap (λ gs. list_any test (map Shared (var_items gs))) empty
      by_kind c (is_shown g at f) =
          let a = final.agree r c g at f in
          ap (λ gs. list_any test (map Shared (var_items gs))) a.globals ∙ heading_items k.headings c.name g r test f a.number h

      by_routine : (o : Option Routine) → routine_at q r ≡ o → list_any test (map Shared (items_of_callee (routine_at q r))) ≡ false
      by_routine None e = ap (λ o. list_any test (map Shared (items_of_callee o))) e
      by_routine (Some c) e = ap (λ o. list_any test (map Shared (items_of_callee o))) e ∙ by_kind c (known_as r c e)

  -- ---- the names of a scope

  module _ (s : Scope) (known : s.known ≡ k) (plain : OwnPlain s.known.program s.own) where
    here_right : RightProgram s.known.program
    here_right = subst (λ (n : Known). RightProgram n.program) (sym known) right

    heading_found : (x : Symbol) (h : Heading) → meaning s x ≡ Some (OfRoutine h) → found (headings_named k.headings) x ≡ Some h
    heading_found x h m = subst (λ (n : Known). found (headings_named n.headings) x ≡ Some h) known (routine_meant s here_right plain x h m)

    body_of : (x : Symbol) (h : Heading) → meaning s x ≡ Some (OfRoutine h) → IsHeadingOf q h
    body_of x h m =
        let f = heading_found x h m in
        let b = final.bodies x h f in
        let name : b.routine.name ≡ x = b.name ∙ found_name (λ (g : Heading). g.name) k.headings x h f in
        let found_here = ap (found (headings_named k.headings)) name ∙ f in
        let a = final.agree h.number b.routine h b.at found_here in
        record { routine = b.routine; at = shown h.number b.routine h b.at found_here; formals = a.formals; result = a.result }

    pub same_routine : (x : Symbol) (h : Heading) → meaning s x ≡ Some (OfRoutine h) → routine_at p h.number ≡ routine_at q h.number
    same_routine x h m =
        let f = heading_found x h m in
        let b = final.bodies x h f in
        let name : b.routine.name ≡ x = b.name ∙ found_name (λ (g : Heading). g.name) k.headings x h f in
        b.at ∙ sym (shown h.number b.routine h b.at (ap (found (headings_named k.headings)) name ∙ f))

    pub belongs : (here : Option Routine) → ((x : Symbol) (t : TypeId) → meaning s x ≡ Some (OfPlace t) → name_type q here x ≡ Some t)
        → ((x : Symbol) (t : TypeId) → meaning s x ≡ Some (OfPlace t) → is_result here x ≡ false)
        → ((x : Symbol) (t : TypeId) → meaning s x ≡ Some (OfPlace t) → is_initial here x ≡ false)
        → ((x : Symbol) (h : Heading) (t : TypeId) → meaning s x ≡ Some (OfRoutine h) → is_this s.routine h ≡ true → h.result ≡ Some t
        → name_type q here x ≡ Some t)
        → ((x : Symbol) (h : Heading) → meaning s x ≡ Some (OfRoutine h) → is_this s.routine h ≡ true → is_initial here x ≡ false)
        → Belongs s q here
    belongs here places no_results no_starts own_result own_result_no_start = record {
      forms = ap (λ (n : Known). n.program.forms) (sym known);
      forms_right = forms_pass k.program.forms right.forms;
      first = first_form k.program.forms right.forms;
      first_there = number_there k.program.forms right.forms;
      places = places;
      place_types = λ x t m. subst (λ (n : Known). type_exists n.program.forms t ≡ true) known (place_there s here_right plain x t m);
      no_results = no_results;
      no_starts = no_starts;
      routines = body_of;
      results = λ x h t m e. (headings.each x h (heading_found x h m)).result t e;
      plain_results = λ x h t m e. (headings.each x h (heading_found x h m)).plain_result t e;
      own_result = own_result;
      own_result_no_start = own_result_no_start;
      parameters = λ x h m. formals_there h (headings.each x h (heading_found x h m));
    }
