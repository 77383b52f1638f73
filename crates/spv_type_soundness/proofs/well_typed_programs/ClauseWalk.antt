-- Whole headings, with their clauses, and local declarations.
use Rattle.std.proofs.Common.{◌≡◌, ℕ, Bool, true, false, List, [], ◌∷◌, ◌++◌, map, Option, Some, None, is_some, ℤ, refl, sym, ap, ◌∙◌, subst}
use Rattle.std.specs.Prelude.{Ok}
use Rattle.std.specs.List.{list_any}
use Rattle.std.proofs.lemmas.List.{append-nil, append_assoc, map-append}
use Rattle.std.proofs.lemmas.List.Folds.{list_any-append}
use Rattle.spv_logic.specs.declared.names.names.Symbol.{Symbol}
use Rattle.spv_logic.proofs.list.Tests.{both_false}
use Rattle.spv_logic.specs.declared.types.TypeId.{TypeId}
use Rattle.spv_logic.specs.declared.types.Sort.{Sort}
use Rattle.spv_logic.specs.declared.conditions.RoutineId.{RoutineId}
use Rattle.spv_tree.specs.declared.syntax.declarations.Const.{Const}
use Rattle.spv_tree.specs.declared.syntax.declarations.Vars.{Vars}
use Rattle.spv_tree.specs.declared.syntax.routines.HeadingForm.{HeadingForm}
use Rattle.spv_tree.specs.declared.syntax.routines.HeadingForm.TheVariants.{Procedure, Function}
use Rattle.spv_tree.specs.declared.syntax.routines.Clauses.{Clauses}
use Rattle.spv_tree.specs.declared.syntax.routines.Locals.{Locals}
use Rattle.spv_program.specs.Lists.{same_name, found, names_differ}
use Rattle.spv_program.specs.Types.{form_at, type_exists, may_be_result}
use Rattle.spv_program.specs.Formulas.{Annotation}
use Rattle.spv_program.specs.FormulaTypes.{annotation_ok}
use Rattle.spv_program.specs.Programs.{GlobalItem, Program}
use Rattle.spv_program.specs.Scopes.{with_sorts_of, result_name}
use Rattle.spv_program.specs.Typing.{variables_among}
use Rattle.spv_program.proofs.SortFacts.{nothing_there, some_is}
use Rattle.spv_typing.specs.Outcomes.{after, each, if_there, twice}
use Rattle.spv_typing.specs.Known.{Heading, Specified, OfConstant, OfPlace, OfStart, Names, named, Known, is_free}
use Rattle.spv_typing.specs.TypeWalk.{all_names, constant}
use Rattle.spv_typing.specs.DeclarationWalk.{with_program, with_types, NewType, type_walk, new_name}
use Rattle.spv_typing.specs.FormulaWalk.{annotation}
use Rattle.spv_typing.specs.RoutineWalk.{is_free_in, in_routine, Parameters, params_walk, result_walk, globals_walk, Starts as StartsSoFar, initial_walk, Headed, result_names, clauses_walk, heading_name, announced, with_heading, form_walk, Local, local_const, local_vars, locals_walk}
use Rattle.spv_type_soundness.proofs.well_typed.Outcomes.{fine, same_value, went, behind_test}
use Rattle.spv_type_soundness.proofs.well_typed_programs.Differ.{or_left, or_right, name-refl, same_names, differ_append, apart_turned, apart_both}
use Rattle.spv_type_soundness.proofs.well_typed_programs.Finding.{pair, keys, found_append, found_there, found_none, first_none, second_none, any_turned}
use Rattle.spv_type_soundness.proofs.well_typed_programs.Labels.{each_keeps}
use Rattle.spv_type_soundness.proofs.well_typed_programs.Denoted.{begins_same, begins_then}
use Rattle.spv_type_soundness.proofs.well_typed_programs.Naming.{NamesApart, heading_names, insert_in, Fresh, all_fresh, keys_append, keys_typed}
use Rattle.spv_type_soundness.proofs.well_typed_programs.Declaring.{all_there, all_longer, all_append, all_typed, symbols_longer, RightKnown, type_kept}
use Rattle.spv_type_soundness.proofs.well_typed_programs.Declared.{Same, same_then}
use Rattle.spv_type_soundness.proofs.well_typed_programs.Seeing.{OwnPlain, sees_append, plain_append, sees_places, sees_starts, plain_places, plain_starts, plain_constants, named_none, scope_types, sees_alike}
use Rattle.spv_type_soundness.proofs.well_typed_programs.Headings.{formal_types, starts_keys, items_in, starts_in_range, result_in_range, entry_names, exit_names, RightSpecified, Later, specified_later}
use Rattle.spv_type_soundness.proofs.well_typed_programs.Sharing.{variables_differ}
use Rattle.spv_type_soundness.proofs.well_typed_programs.HeadingWalk.{heading_right, noted_ok, free_in, named_append, named_typed, RightParams, params_right, ResultOk, result_right, globals_right, starts_right}

-- a heading that is right, with the names that its routine has
pub record RightHeaded (q : Program) (routine : Symbol) (place : RoutineId) (headed : Headed) : Type 0 where
  pub sorts : List (Symbol × Sort)
  pub right : RightSpecified q headed.specified sorts
  pub own : headed.own ≡ named OfPlace (formal_types headed.specified.heading.formals) ++ named OfStart sorts
  pub name : headed.specified.heading.name ≡ routine
  pub number : headed.specified.heading.number ≡ place

-- a program is no earlier than itself
pub later_same : (q : Program) → Later q q
later_same q = record { forms = begins_same q.forms; types = refl; variables = refl; symbols = refl }

abbrev headed_with : Symbol → ℕ → Bool → RoutineId → Parameters → Option TypeId → List GlobalItem → StartsSoFar → Option Annotation
    → Option Annotation → Headed
headed_with name line is_function number ps result globals starts entry exit =
    let heading : Heading = record {
      name = name;
      line = line;
      is_function = is_function;
      number = number;
      formals = ps.formals;
      result = result;
      globals = globals;
    } in
    record {
      specified = record { heading = heading; initial = starts.initial; entry = entry; exit = exit };
      own = ps.own ++ starts.own;
    }

abbrev with_number : Local → Symbol → ℤ → Local
with_number l x z = record { known = l.known; own = l.own ++ pair x (OfConstant z) ∷ []; variables = l.variables }

abbrev with_locals : Local → List Symbol → NewType → Local
with_locals l names t = record {
  known = with_program l.known (with_types l.known.program t.forms l.known.program.types);
  own = l.own ++ map (λ x. pair x (OfPlace t.type)) names;
  variables = l.variables ++ map (λ x. pair x t.type) names;
}

pub result_named : (name : Symbol) (o : Option TypeId) → result_names name o ≡ named OfPlace (result_name name o)
result_named name None = refl
result_named name (Some t) = refl

module _ (k : Known) (right : RightKnown k) (routine : Symbol)
    (is_routine : list_any (same_name routine) (heading_names k.headings) ≡ true) where
  abbrev q : Program
  q = k.program

  pub clauses_right : (line : ℕ) (is_function : Bool) (number : RoutineId) (ps : Parameters) (result : Option TypeId) (c : Clauses)
      (headed : Headed) → RightParams k right routine is_routine ps
      → ((t : TypeId) → result ≡ Some t → ResultOk k right routine is_routine t)
      → clauses_walk k routine line is_function number ps result c ≡ Ok headed → RightHeaded q routine number headed
  clauses_right line is_function number ps result c headed params results e =
      let F = formal_types ps.formals in
      let made = λ (globals : List GlobalItem) (starts : StartsSoFar) (entry exit : Option Annotation).
      fine (headed_with routine line is_function number ps result globals starts entry exit) in
      let exit_step = λ (globals : List GlobalItem) (starts : StartsSoFar) (entry : Option Annotation).
      after (if_there (annotation (in_routine k (ps.own ++ (result_names routine result ++ starts.own)) None)) c.exit)
      (made globals starts entry) in
      let entry_step = λ (globals : List GlobalItem) (starts : StartsSoFar).
      after (if_there (annotation (in_routine k ps.own None)) c.entry) (exit_step globals starts) in
      let one = went (globals_walk k ps.own c.globals)
      (λ globals. after (initial_walk k routine ps.formals globals ps.own c.initial) (entry_step globals)) headed e in
      let two = went (initial_walk k routine ps.formals one.value ps.own c.initial) (entry_step one.value) headed one.rest in
      let three = went (if_there (annotation (in_routine k ps.own None)) c.entry) (exit_step one.value two.value) headed two.rest in
      let four = went (if_there (annotation (in_routine k (ps.own ++ (result_names routine result ++ two.value.own)) None)) c.exit)
      (made one.value two.value three.value) headed three.rest in
      let globals = one.value in
      let starts = two.value in
      let shared = globals_right k right routine is_routine ps params c.globals globals one.first in
      let s = starts_right k right routine is_routine ps params globals shared c.initial starts two.first in
      let G = variables_among (items_in globals) in
      let I = keys starts.initial in
      let R = result_name routine result in
      let result_there = result_in_range q q right.program (later_same q) routine result (λ t h. (results t h).there) in
      let starts_range = starts_in_range q F starts.initial s.sorts right.program.forms s.starts in
      let plain_F = plain_places q F params.there in
      let plain_R = plain_places q R result_there in
      let plain_S = plain_starts q s.sorts starts_range in
      let own_exit : ps.own ++ (result_names routine result ++ starts.own) ≡ named OfPlace F ++ (named OfPlace R ++ named OfStart s.sorts) =
      ap (λ o. o ++ (result_names routine result ++ starts.own)) params.own
      ∙ ap (λ o. named OfPlace F ++ o) (ap (λ o. o ++ starts.own) (result_named routine result) ∙ ap (λ o. named OfPlace R ++ o) s.own) in
      let entry_scope = in_routine k (named OfPlace F) None in
      let exit_scope = in_routine k (named OfPlace F ++ (named OfPlace R ++ named OfStart s.sorts)) None in
      let entry_ok = noted_ok entry_scope (entry_names q F)
      (sees_alike entry_scope right.program plain_F (with_sorts_of q F) (sees_places q F)) c.entry three.value
      (subst (λ o. if_there (annotation (in_routine k o None)) c.entry ≡ Ok three.value) params.own three.first) in
      let front = with_sorts_of q F ++ (with_sorts_of q R ++ s.sorts) in
      let exit_sees = sees_append q (named OfPlace F) (named OfPlace R ++ named OfStart s.sorts) (with_sorts_of q F)
      (with_sorts_of q R ++ s.sorts) (sees_places q F)
      (sees_append q (named OfPlace R) (named OfStart s.sorts) (with_sorts_of q R) s.sorts (sees_places q R) (sees_starts q s.sorts)) in
      let exit_plain = plain_append q (named OfPlace F) (named OfPlace R ++ named OfStart s.sorts) plain_F
      (plain_append q (named OfPlace R) (named OfStart s.sorts) plain_R plain_S) in
      let turned : front ++ with_sorts_of q q.variables ≡ exit_names q F routine result s.sorts =
      append_assoc (with_sorts_of q F) (with_sorts_of q R ++ s.sorts) (with_sorts_of q q.variables)
      ∙ ap (λ l. with_sorts_of q F ++ l) (append_assoc (with_sorts_of q R) s.sorts (with_sorts_of q q.variables)) in
      let exit_ok = noted_ok exit_scope (front ++ with_sorts_of q q.variables)
      (sees_alike exit_scope right.program exit_plain front exit_sees) c.exit four.value
      (subst (λ o. if_there (annotation (in_routine k o None)) c.exit ≡ Ok four.value) own_exit four.first) in
      let all_away : NamesApart ((routine ∷ (keys F ++ I))) G =
      apart_turned same_name name-refl same_names G (routine ∷ (keys F ++ I))
      (apart_both same_name name-refl same_names G (routine ∷ keys F) I shared.away
      (apart_turned same_name name-refl same_names I G s.away)) in
      let differ_all : names_differ ((routine ∷ (keys F ++ I)) ++ G) ≡ true =
      differ_append same_name name-refl same_names (routine ∷ (keys F ++ I)) G s.differ
      (variables_differ (items_in globals) shared.differ) all_away in
      subst (RightHeaded q routine number) (same_value four.rest) (record {
        sorts = s.sorts;
        right = record {
          heading = record {
            formals = params.there;
            result = λ t h. (results t h).there;
            plain_result = λ t h. (results t h).plain;
            globals = shared.exist;
            globals_differ = shared.differ;
          };
          initial = s.may;
          are_starts = s.starts;
          differ = ap (λ l. names_differ (routine ∷ l)) (sym (append_assoc (keys F) I G)) ∙ differ_all;
          entry = entry_ok;
          exit = ap (λ names. annotation_ok q names four.value) (sym turned) ∙ exit_ok;
        };
        own = ap (λ o. o ++ starts.own) params.own ∙ ap (λ o. named OfPlace F ++ o) s.own;
        name = refl;
        number = refl;
      })

routine_there : (k : Known) (h : Heading) → list_any (same_name h.name) (heading_names (k.headings ++ h ∷ [])) ≡ true
routine_there k h =
    ap (list_any (same_name h.name)) (map-append (λ (g : Heading). g.name) k.headings (h ∷ []))
    ∙ (list_any-append (same_name h.name) (heading_names k.headings) (h.name ∷ [])
    ∙ or_right (list_any (same_name h.name) (heading_names k.headings)) _ (or_left (same_name h.name h.name) false (name-refl h.name)))

pub form_right : (k : Known) (number : RoutineId) (line : ℕ) (c : Clauses) (form : HeadingForm) (headed : Headed) → RightKnown k
    → is_free k (heading_name form).symbol ≡ true → form_walk k number line c form ≡ Ok headed
    → RightHeaded k.program (heading_name form).symbol number headed
form_right k number line c (Procedure name params) headed right free e =
    let x = name.symbol in
    let first = announced x line false number [] None in
    let inner = with_heading k first in
    let next = λ (ps : Parameters).
    clauses_walk (with_heading k (announced x line false number ps.formals None)) x line false number ps None c in
    let one = went (params_walk inner x params) next headed e in
    let ps = one.value in
    let second = announced x line false number ps.formals None in
    let p = params_right inner (heading_right k first right free) x (routine_there k first) params ps one.first in
    clauses_right (with_heading k second) (heading_right k second right free) x (routine_there k second) line false number ps None c headed
    (record { own = p.own; there = p.there; differ = p.differ }) (λ t h. absurd (nothing_there h)) one.rest
form_right k number line c (Function name params result) headed right free e =
    let x = name.symbol in
    let first = announced x line true number [] None in
    let inner = with_heading k first in
    let last = λ (ps : Parameters) (t : TypeId).
    clauses_walk (with_heading k (announced x line true number ps.formals (Some t))) x line true number ps (Some t) c in
    let one = went (params_walk inner x params) (λ ps. after (result_walk inner line ps.own result) (last ps)) headed e in
    let ps = one.value in
    let two = went (result_walk inner line ps.own result) (last ps) headed one.rest in
    let p = params_right inner (heading_right k first right free) x (routine_there k first) params ps one.first in
    let r = result_right inner (heading_right k first right free) x (routine_there k first) line ps result two.value p two.first in
    let second = announced x line true number ps.formals (Some two.value) in
    clauses_right (with_heading k second) (heading_right k second right free) x (routine_there k second) line true number ps
    (Some two.value) c headed
    (record { own = p.own; there = p.there; differ = p.differ })
    (λ t h. record {
      there = subst (λ u. type_exists k.program.forms u ≡ true) (some_is h) r.there;
      plain =
          subst (λ (u : TypeId). may_be_result (form_at k.program.forms u.0) ≡ true) (some_is h) r.plain;
    }) two.rest

-- ---- local declarations

pub later_then : (a b c : Program) → Later a b → Later b c → Later a c
later_then a b c l m = record {
  forms = begins_then a.forms b.forms c.forms l.forms m.forms;
  types = m.types ∙ l.types;
  variables = m.variables ∙ l.variables;
  symbols = m.symbols ∙ l.symbols;
}

abbrev pub own_of : List (Symbol × TypeId) → List (Symbol × Sort) → List (Symbol × ℤ) → List (Symbol × TypeId) → Names
own_of formals sorts constants locals =
    ((named OfPlace formals ++ named OfStart sorts) ++ named OfConstant constants) ++ named OfPlace locals

-- what is not among a routine's own names
pub record OwnNone (formals : List (Symbol × TypeId)) (sorts : List (Symbol × Sort)) (locals : List (Symbol × TypeId)) (x : Symbol) : Type
    0 where
  pub formal : found formals x ≡ None
  pub start : found sorts x ≡ None
  pub local : found locals x ≡ None

pub own_none : (formals : List (Symbol × TypeId)) (sorts : List (Symbol × Sort)) (constants : List (Symbol × ℤ))
    (locals : List (Symbol × TypeId)) (x : Symbol) → found (own_of formals sorts constants locals) x ≡ None → OwnNone formals sorts locals x
own_none formals sorts constants locals x e =
    let two = named OfPlace formals ++ named OfStart sorts in
    let three = two ++ named OfConstant constants in
    let whole = sym (found_append three (named OfPlace locals) x) ∙ e in
    let front = first_none (found three x) (found (named OfPlace locals) x) whole in
    let middle = first_none (found two x) (found (named OfConstant constants) x)
    (sym (found_append two (named OfConstant constants) x) ∙ front) in
    let last = sym (found_append (named OfPlace formals) (named OfStart sorts) x) ∙ middle in
    record {
      formal = named_none OfPlace formals x (first_none (found (named OfPlace formals) x) (found (named OfStart sorts) x) last);
      start = named_none OfStart sorts x (second_none (found (named OfPlace formals) x) (found (named OfStart sorts) x) last);
      local = named_none OfPlace locals x (second_none (found three x) (found (named OfPlace locals) x) whole);
    }

pub own_plain : (q : Program) (formals : List (Symbol × TypeId)) (sorts : List (Symbol × Sort)) (constants : List (Symbol × ℤ))
    (locals : List (Symbol × TypeId)) → all_there q.forms formals ≡ true
    → OwnPlain q (named OfStart sorts) → all_there q.forms locals ≡ true → OwnPlain q (own_of formals sorts constants locals)
own_plain q formals sorts constants locals h s l =
    let two = named OfPlace formals ++ named OfStart sorts in
    plain_append q (two ++ named OfConstant constants) (named OfPlace locals)
    (plain_append q two (named OfConstant constants)
    (plain_append q (named OfPlace formals) (named OfStart sorts) (plain_places q formals h) s) (plain_constants q constants))
    (plain_places q locals l)

module _ (k : Known) (right : RightKnown k) (s : Specified) (sorts : List (Symbol × Sort)) (good : RightSpecified k.program s sorts) where
  abbrev h : Heading
  h = s.heading

  abbrev F : List (Symbol × TypeId)
  F = formal_types h.formals

  abbrev G : List Symbol
  G = variables_among (items_in h.globals)

  -- while constants are read
  record WithConstants (l : Local) : Type 0 where
    known : l.known ≡ k
    variables : l.variables ≡ []
    constants : List (Symbol × ℤ)
    own : l.own ≡ (named OfPlace F ++ named OfStart sorts) ++ named OfConstant constants

  -- while variables are read
  pub record RightLocal (l : Local) : Type 0 where
    pub known : RightKnown l.known
    pub later : Later k.program l.known.program
    pub same : Same k l.known
    pub constants : List (Symbol × ℤ)
    pub own : l.own ≡ own_of F sorts constants l.variables
    pub there : all_there l.known.program.forms l.variables ≡ true
    pub differ : names_differ (h.name ∷ (keys F ++ (keys s.initial ++ (keys l.variables ++ G)))) ≡ true

  constant_more : (l next : Local) (c : Const) → WithConstants l → local_const h l c ≡ Ok next → WithConstants next
  constant_more l next c r e =
      let x = c.name.symbol in
      let free = is_free_in l.known.start h.name h.globals l.own x in
      let made = λ (z : ℤ). fine (with_number l x z) in
      let step = after (constant (in_routine l.known l.own None) c.value) made in
      let one = went (constant (in_routine l.known l.own None) c.value) made next (behind_test free (twice c.name) step next e) in
      subst WithConstants (same_value one.rest) (record {
        known = r.known;
        variables = r.variables;
        constants = r.constants ++ pair x one.value ∷ [];
        own = ap (λ o. o ++ pair x (OfConstant one.value) ∷ []) r.own
            ∙ (append_assoc (named OfPlace F ++ named OfStart sorts) (named OfConstant r.constants) (pair x (OfConstant one.value) ∷ [])
            ∙ ap (λ o. (named OfPlace F ++ named OfStart sorts) ++ o) (sym (named_append OfConstant r.constants (pair x one.value ∷ []))));
      })

  plain_now : (l : Local) (r : RightLocal l) → OwnPlain l.known.program l.own
  plain_now l r =
      let p = l.known.program in
      let now = specified_later k.program p right.program r.later s sorts good in
      subst (OwnPlain p) (sym r.own)
      (own_plain p F sorts r.constants l.variables now.heading.formals
      (plain_starts p sorts (starts_in_range p F s.initial sorts r.known.program.forms now.are_starts)) r.there)

  away_from : (new : List Symbol) (l : Local) (r : RightLocal l) → Fresh (is_free_in l.known.start h.name h.globals l.own) new
      → NamesApart new (h.name ∷ ((keys F ++ keys s.initial) ++ (keys l.variables ++ G)))
  away_from new l r fresh = record {
    apart = λ x e.
        let f = free_in l.known.start h.name h.globals l.own x (fresh.free x e) in
        let none = own_none F sorts r.constants l.variables x (sym (ap (λ o. found o x) r.own) ∙ found_none l.own x f.not_own) in
        let no_start : list_any (same_name x) (keys s.initial) ≡ false =
        ap (list_any (same_name x)) (sym (starts_keys k.program F s.initial sorts good.are_starts))
        ∙ (sym (found_there sorts x) ∙ ap is_some none.start) in
        both_false (same_name x h.name) _ (sym (any_turned x h.name) ∙ f.not_routine)
        (list_any-append (same_name x) (keys F ++ keys s.initial) (keys l.variables ++ G)
        ∙ both_false (list_any (same_name x) (keys F ++ keys s.initial)) (list_any (same_name x) (keys l.variables ++ G))
        (list_any-append (same_name x) (keys F) (keys s.initial)
        ∙ both_false (list_any (same_name x) (keys F)) (list_any (same_name x) (keys s.initial))
        (sym (found_there F x) ∙ ap is_some none.formal) no_start)
        (list_any-append (same_name x) (keys l.variables) G
        ∙ both_false (list_any (same_name x) (keys l.variables)) (list_any (same_name x) G)
        (sym (found_there l.variables x) ∙ ap is_some none.local) f.not_listed));
  }

  variables_more : (l next : Local) (v : Vars) → RightLocal l → local_vars h l v ≡ Ok next → RightLocal next
  variables_more l next v r e =
      let p = l.known.program in
      let may = is_free_in l.known.start h.name h.globals l.own in
      let inner = in_routine l.known l.own None in
      let made = λ (names : List Symbol) (t : NewType). fine (with_locals l names t) in
      let one = went (each (new_name may) [] (all_names v.names)) (λ names. after (type_walk inner v.of) (made names)) next e in
      let two = went (type_walk inner v.of) (made one.value) next one.rest in
      let new = one.value in
      let t = two.value in
      let fresh = all_fresh may (all_names v.names) new one.first in
      let plain = plain_now l r in
      let kept = type_kept inner v.of t r.known.program (record { each = λ x u m. scope_types inner r.known.program plain x u m })
      two.first in
      let more = map (λ x. pair x t.type) new in
      let after_it = with_locals l new t in
      let now = after_it.known.program in
      let new_keys : keys (l.variables ++ more) ≡ keys l.variables ++ new =
      keys_append l.variables more ∙ ap (λ ns. keys l.variables ++ ns) (keys_typed t.type new) in
      let c = h.name ∷ (keys F ++ keys s.initial) in
      let turn = λ (rest : List Symbol). ap (λ ns. h.name ∷ ns) (append_assoc (keys F) (keys s.initial) rest) in
      let before : names_differ (c ++ (keys l.variables ++ G)) ≡ true = ap names_differ (turn (keys l.variables ++ G)) ∙ r.differ in
      subst RightLocal (same_value two.rest) (record {
        known = record {
          program = record {
            forms = kept.forms;
            types = all_longer p.forms t.forms p.types kept.begins r.known.program.types;
            variables = all_longer p.forms t.forms p.variables kept.begins r.known.program.variables;
            symbols = symbols_longer p now p.symbols kept.begins r.known.program.symbols;
          };
          names = record { differ = r.known.names.differ; fixed = r.known.names.fixed };
        };
        later = later_then k.program p now r.later (record { forms = kept.begins; types = refl; variables = refl; symbols = refl });
        same = same_then k l.known after_it.known r.same (record { start = refl; routines = refl; headings = refl; awaited = refl });
        constants = r.constants;
        own = ap (λ o. o ++ map (λ x. pair x (OfPlace t.type)) new) r.own
            ∙ (append_assoc ((named OfPlace F ++ named OfStart sorts) ++ named OfConstant r.constants) (named OfPlace l.variables)
            (map (λ x. pair x (OfPlace t.type)) new)
            ∙ ap (λ o. ((named OfPlace F ++ named OfStart sorts) ++ named OfConstant r.constants) ++ o)
            (ap (λ o. named OfPlace l.variables ++ o) (sym (named_typed t.type new)) ∙ sym (named_append OfPlace l.variables more)));
        there = all_append (λ (n : Symbol × TypeId). type_exists t.forms n.1) l.variables more
            (all_longer p.forms t.forms l.variables kept.begins r.there) (all_typed t.forms t.type new kept.there);
        differ = ap (λ ns. names_differ (h.name ∷ (keys F ++ (keys s.initial ++ (ns ++ G))))) new_keys
            ∙ (ap names_differ (sym (turn ((keys l.variables ++ new) ++ G)))
            ∙ insert_in c (keys l.variables) new G before fresh.differ (away_from new l r fresh));
      })

  pub locals_right : (headed : Headed) (ls : Locals) (l : Local) → headed.specified.heading ≡ h
      → headed.own ≡ named OfPlace F ++ named OfStart sorts → locals_walk k headed ls ≡ Ok l → RightLocal l
  locals_right headed ls l is own e =
      let start : Local = record { known = k; own = headed.own; variables = [] } in
      let one = went (each (local_const headed.specified.heading) start ls.constants)
      (λ a. each (local_vars headed.specified.heading) a ls.variables) l e in
      let first = subst (λ (g : Heading). each (local_const g) start ls.constants ≡ Ok one.value) is one.first in
      let rest = subst (λ (g : Heading). each (local_vars g) one.value ls.variables ≡ Ok l) is one.rest in
      let c = each_keeps WithConstants (local_const h) (λ s t x g f. constant_more s t x g f) ls.constants start one.value
      (record { known = refl; variables = refl; constants = []; own = own ∙ sym (append-nil (named OfPlace F ++ named OfStart sorts)) })
      first in
      let known_right : RightKnown one.value.known = subst RightKnown (sym c.known) right in
      let v = one.value in
      let begun : RightLocal v = record {
        known = known_right;
        later = subst (λ (n : Known). Later k.program n.program) (sym c.known)
            (record { forms = begins_same k.program.forms; types = refl; variables = refl; symbols = refl });
        same = subst (Same k) (sym c.known) (record { start = refl; routines = refl; headings = refl; awaited = refl });
        constants = c.constants;
        own = c.own ∙ (sym (append-nil ((named OfPlace F ++ named OfStart sorts) ++ named OfConstant c.constants))
            ∙ ap (λ vs. ((named OfPlace F ++ named OfStart sorts) ++ named OfConstant c.constants) ++ named OfPlace vs) (sym c.variables));
        there = ap (all_there v.known.program.forms) c.variables;
        differ = ap (λ vs. names_differ (h.name ∷ (keys F ++ (keys s.initial ++ (keys vs ++ G))))) c.variables ∙ good.differ;
      } in
      each_keeps RightLocal (local_vars h) (λ s t x g f. variables_more s t x g f) ls.variables v l begun rest
