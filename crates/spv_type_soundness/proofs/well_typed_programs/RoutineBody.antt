-- A routine whose heading is right and whose body was read is well typed in the whole program.
use Rattle.std.proofs.Common.{◌≡◌, Bool, true, false, cond, not, ◌&&◌, ◌||◌, List, [], ◌∷◌, ◌++◌, map, Option, Some, None, is_some, option_map, ℤ, refl, sym, ap, ◌∙◌, subst}
use Rattle.std.specs.List.{list_any, list_all}
use Rattle.std.specs.Cmp.Derive.{both_true}
use Rattle.std.proofs.lemmas.Bool.{false≢true}
use Rattle.std.proofs.lemmas.List.{append_assoc}
use Rattle.std.proofs.lemmas.List.Folds.{list_any-append}
use Rattle.spv_logic.specs.declared.names.names.Symbol.{Symbol}
use Rattle.spv_logic.proofs.list.Tests.{left_true, right_true, and_false, left_false, right_false, both_false}
use Rattle.spv_logic.specs.declared.types.TypeId.{TypeId}
use Rattle.spv_logic.specs.declared.types.Sort.{Sort}
use Rattle.spv_logic.specs.Sorts.{sort_in_range}
use Rattle.spv_program.specs.declared.types.Item.{Item}
use Rattle.spv_program.specs.declared.types.Item.TheVariants.{Variable, Class}
use Rattle.spv_program.specs.Lists.{same_name, found, first_of, names_differ}
use Rattle.spv_program.specs.Types.{form_at, sort_of, type_exists, may_be_result, same_item}
use Rattle.spv_program.specs.Statements.{Statement}
use Rattle.spv_program.specs.Programs.{Formal, GlobalItem, Routine, Program, shapes, lists}
use Rattle.spv_program.specs.Scopes as program
use Rattle.spv_program.specs.Scopes.{result_name, own_names, is_own, name_type, is_result, is_initial, is_value_parameter, with_sorts_of, item_sort, initial_names, body_scope, entry_scope, exit_scope}
use Rattle.spv_program.specs.FormulaTypes.{annotation_ok}
use Rattle.spv_program.specs.Typing.{statement_ok, may_count, may_be_initial, variables_among, result_ok, heading_ok, routine_ok}
use Rattle.spv_program.proofs.SortFacts.{nothing_there, some_is}
use Rattle.spv_typing.specs.Known.{Heading, Specified, Meaning, OfConstant, OfPlace, OfStart, OfRoutine, Names, named, Known, Scope, meaning}
use Rattle.spv_typing.specs.RoutineWalk.{in_routine, result_names, Local, body_setting, with_body}
use Rattle.spv_typing.specs.RoutineWalk as walk
use Rattle.spv_typing.specs.ExpressionWalk.{is_this}
use Rattle.spv_typing.specs.StatementWalk.{own_in, is_place, is_name_of, is_by_place, block_walk}
use Rattle.spv_typing.specs.StatementWalk as statements
use Rattle.spv_type_soundness.specs.well_typed.Laws.{SeesAlike}
use Rattle.spv_type_soundness.specs.well_typed_programs.Statements.{Stands}
use Rattle.spv_type_soundness.proofs.well_typed_programs.Differ.{or_left, or_right, not_true, by_test, name-refl, same_names, Apart, differ_rest, differ_apart}
use Rattle.spv_type_soundness.proofs.well_typed_programs.Finding.{pair, keys, found_append, found_mapped, found_key, found_there, found_none, found_name, found_all, first_case, first_none, second_none}
use Rattle.spv_type_soundness.proofs.well_typed_programs.Items.{all_map}
use Rattle.spv_type_soundness.proofs.well_typed_programs.Naming.{heading_names, headings_named}
use Rattle.spv_type_soundness.proofs.well_typed_programs.Declaring.{all_there, all_longer, all_append, RightProgram, RightKnown}
use Rattle.spv_type_soundness.proofs.well_typed_programs.Seeing.{is_place as is_a_place, is_start as is_a_start, routine_meant, type_in, sort_in, named_told, Sees, OwnPlain, plain_append, plain_places, plain_starts, named_none, symbol_there, place_case, sees_alike}
use Rattle.spv_type_soundness.proofs.well_typed_programs.Headings.{formal_types, IsStart, start_formal, start_variable, start_class, Starts, starts_none, starts_more, starts_keys, items_in, all_in_range, sorts_in_range, starts_in_range, result_in_range, RightHeading, RightSpecified, sorts_same, variables_same, specified_later}
use Rattle.spv_type_soundness.proofs.well_typed_programs.Sharing.{any_items, variable_any}
use Rattle.spv_type_soundness.proofs.well_typed_programs.HeadingWalk.{own_place, variable_no_routine}
use Rattle.spv_type_soundness.proofs.well_typed_programs.ClauseWalk.{own_of, OwnNone, own_none, own_plain}
use Rattle.spv_type_soundness.proofs.well_typed_programs.Bodies.{Final, HeadingsKnown, known_program, program_grows, known_grows, items_known, same_routine, belongs}

-- what is known where a body begins
pub record Begins (k : Known) (s : Specified) (sorts : List (Symbol × Sort)) (constants : List (Symbol × ℤ))
    (locals : List (Symbol × TypeId)) : Type 0 where
  pub known : RightKnown k
  pub headings : HeadingsKnown k
  pub specified : RightSpecified k.program s sorts
  pub itself : found (headings_named k.headings) s.heading.name ≡ Some s.heading
  pub there : all_there k.program.forms locals ≡ true
  pub differ : names_differ (s.heading.name
      ∷ (keys (formal_types s.heading.formals)
      ++ (keys s.initial ++ (keys locals ++ variables_among (items_in s.heading.globals))))) ≡ true

pub keys_headings : (hs : List Heading) → keys (headings_named hs) ≡ heading_names hs
keys_headings [] = refl
keys_headings (h ∷ hs) = ap (λ l. h.name ∷ l) (keys_headings hs)

result_there : (name : Symbol) (o : Option TypeId) (x : Symbol) → same_name name x ≡ false → found (result_name name o) x ≡ None
result_there name None x e = refl
result_there name (Some t) x e = ap (λ b. cond b (Some t) None) e

result_is_name : (name : Symbol) (o : Option TypeId) (x : Symbol) (t : TypeId) → found (result_name name o) x ≡ Some t
    → same_name name x ≡ true
result_is_name name None x t e = absurd (nothing_there e)
result_is_name name (Some u) x t e = by_case (same_name name x) refl e
  where
    by_case : (b : Bool) → same_name name x ≡ b → cond b (Some u) None ≡ Some t → same_name name x ≡ true
    by_case true h f = h
    by_case false h f = absurd (nothing_there f)

result_at_name : (name : Symbol) (t : TypeId) → found (result_name name (Some t)) name ≡ Some t
result_at_name name t = ap (λ b. cond b (Some t) None) (name-refl name)

second_true : (a b : Bool) → a ≡ false → (a || b) ≡ true → b ≡ true
second_true true b e h = absurd (false≢true (sym e))
second_true false b e h = h

module _ (k : Known) (given : Specified) (sorts : List (Symbol × Sort)) (constants : List (Symbol × ℤ)) (locals : List (Symbol × TypeId))
    (begins : Begins k given sorts constants locals)
    (p : Program) (final : Final k p) (body : Statement) where
  abbrev h : Heading
  h = given.heading

  abbrev F : List (Symbol × TypeId)
  F = formal_types h.formals

  abbrev G : List Symbol
  G = variables_among (items_in h.globals)

  abbrev R : List (Symbol × TypeId)
  R = result_name h.name h.result

  abbrev pub r : Routine
  r = with_body given locals body

  abbrev q : Program
  q = known_program k p

  right : RightProgram k.program
  right = begins.known.program

  specified : RightSpecified k.program given sorts
  specified = begins.specified

  heading : RightHeading k.program h
  heading = begins.specified.heading

  -- ---- names that differ

  abbrev others : List Symbol
  others = keys F ++ (keys given.initial ++ (keys locals ++ G))

  other_name : (x : Symbol) → list_any (same_name x) others ≡ true → same_name h.name x ≡ false
  other_name x e =
      by_test (same_name h.name x) (same_name h.name x ≡ false)
      (λ i. absurd (false≢true (sym (not_true (list_any (same_name h.name) others) (left_true _ _ begins.differ))
      ∙ subst (λ y. list_any (same_name y) others ≡ true) (sym (same_names h.name x i)) e)))
      (λ i. i)

  pub tail_differ : names_differ others ≡ true
  tail_differ = right_true (not (list_any (same_name h.name) others)) _ begins.differ

  starts_rest : Apart same_name name-refl same_names (keys given.initial) (keys locals ++ G)
  starts_rest = differ_apart same_name name-refl same_names (keys given.initial) (keys locals ++ G)
      (differ_rest same_name name-refl same_names (keys F) (keys given.initial ++ (keys locals ++ G)) tail_differ)

  pub formal_name : (x : Symbol) (t : TypeId) → found F x ≡ Some t → same_name h.name x ≡ false
  formal_name x t e =
      other_name x (list_any-append (same_name x) (keys F) (keys given.initial ++ (keys locals ++ G))
      ∙ or_left (list_any (same_name x) (keys F)) _ (found_key F x t e))

  behind_formals : (x : Symbol) → list_any (same_name x) (keys given.initial ++ (keys locals ++ G)) ≡ true → same_name h.name x ≡ false
  behind_formals x e = other_name x
      (list_any-append (same_name x) (keys F) (keys given.initial ++ (keys locals ++ G)) ∙ or_right (list_any (same_name x) (keys F)) _ e)

  start_key : (x : Symbol) (s : Sort) → found sorts x ≡ Some s → list_any (same_name x) (keys given.initial) ≡ true
  start_key x s e = ap (list_any (same_name x)) (sym (starts_keys k.program F given.initial sorts specified.are_starts))
      ∙ found_key sorts x s e

  start_name : (x : Symbol) (s : Sort) → found sorts x ≡ Some s → same_name h.name x ≡ false
  start_name x s e =
      behind_formals x (list_any-append (same_name x) (keys given.initial) (keys locals ++ G)
      ∙ or_left (list_any (same_name x) (keys given.initial)) _ (start_key x s e))

  start_no_local : (x : Symbol) (s : Sort) → found sorts x ≡ Some s → found locals x ≡ None
  start_no_local x s e =
      found_none locals x (left_false (list_any (same_name x) (keys locals)) (list_any (same_name x) G)
      (sym (list_any-append (same_name x) (keys locals) G) ∙ starts_rest.apart x (start_key x s e)))

  pub local_name : (x : Symbol) (t : TypeId) → found locals x ≡ Some t → same_name h.name x ≡ false
  local_name x t e =
      behind_formals x (list_any-append (same_name x) (keys given.initial) (keys locals ++ G)
      ∙ or_right (list_any (same_name x) (keys given.initial)) _
      (list_any-append (same_name x) (keys locals) G ∙ or_left (list_any (same_name x) (keys locals)) _ (found_key locals x t e)))

  shared_name : (x : Symbol) → list_any (same_name x) G ≡ true → same_name h.name x ≡ false
  shared_name x e =
      behind_formals x (list_any-append (same_name x) (keys given.initial) (keys locals ++ G)
      ∙ or_right (list_any (same_name x) (keys given.initial)) _
      (list_any-append (same_name x) (keys locals) G ∙ or_right (list_any (same_name x) (keys locals)) _ e))

  shared_no_local : (x : Symbol) → list_any (same_name x) G ≡ true → found locals x ≡ None
  shared_no_local x e =
      let rest = differ_rest same_name name-refl same_names (keys given.initial) (keys locals ++ G)
      (differ_rest same_name name-refl same_names (keys F) (keys given.initial ++ (keys locals ++ G)) tail_differ) in
      let away = differ_apart same_name name-refl same_names (keys locals) G rest in
      found_none locals x (by_test (list_any (same_name x) (keys locals)) (list_any (same_name x) (keys locals) ≡ false)
      (λ i. absurd (false≢true (sym (away.apart x i) ∙ e))) (λ i. i))

  variable_name : (x : Symbol) (t : TypeId) → found k.program.variables x ≡ Some t → same_name h.name x ≡ false
  variable_name x t e =
      let there : list_any (same_name h.name) (heading_names k.headings) ≡ true =
      ap (list_any (same_name h.name)) (sym (keys_headings k.headings))
      ∙ found_key (headings_named k.headings) h.name h begins.itself in
      by_test (same_name h.name x) (same_name h.name x ≡ false)
      (λ i. absurd (false≢true (sym (subst (λ y. list_any (same_name y) (heading_names k.headings) ≡ false) (sym (same_names h.name x i))
      (variable_no_routine k x t begins.known.names e)) ∙ there)))
      (λ i. i)

  -- ---- own names, as typing has them

  own_found : (x : Symbol) → found (own_names r) x ≡ first_of (found F x) (first_of (found R x) (found locals x))
  own_found x = found_append F (R ++ locals) x ∙ ap (first_of (found F x)) (found_append R locals x)

  pub own_formal : (x : Symbol) (t : TypeId) → found F x ≡ Some t → found (own_names r) x ≡ Some t
  own_formal x t e = own_found x ∙ ap (λ o. first_of o (first_of (found R x) (found locals x))) e

  pub own_local : (x : Symbol) (t : TypeId) → found F x ≡ None → found R x ≡ None → found locals x ≡ Some t → found (own_names r) x ≡ Some t
  own_local x t e f g = own_found x
      ∙ (ap (λ o. first_of o (first_of (found R x) (found locals x))) e ∙ (ap (λ o. first_of o (found locals x)) f ∙ g))

  own_nothing : (x : Symbol) → found F x ≡ None → found R x ≡ None → found locals x ≡ None → found (own_names r) x ≡ None
  own_nothing x e f g = own_found x
      ∙ (ap (λ o. first_of o (first_of (found R x) (found locals x))) e ∙ (ap (λ o. first_of o (found locals x)) f ∙ g))

  own_result_found : (x : Symbol) (t : TypeId) → found F x ≡ None → found R x ≡ Some t → found (own_names r) x ≡ Some t
  own_result_found x t e f = own_found x
      ∙ (ap (λ o. first_of o (first_of (found R x) (found locals x))) e ∙ ap (λ o. first_of o (found locals x)) f)

  pub no_result_at : (x : Symbol) → same_name h.name x ≡ false → found R x ≡ None
  no_result_at x e = result_there h.name h.result x e

  -- ---- own names, as the walk has them

  abbrev own : Names
  own = own_of F sorts constants locals

  data OwnMeant (x : Symbol) : Meaning → Type 0 where
    own_is_formal : (t : TypeId) → found F x ≡ Some t → OwnMeant x (OfPlace t)
    own_is_start : (s : Sort) → found F x ≡ None → found sorts x ≡ Some s → OwnMeant x (OfStart s)
    own_is_constant : (z : ℤ) → OwnMeant x (OfConstant z)
    own_is_local : (t : TypeId) → found F x ≡ None → found locals x ≡ Some t → OwnMeant x (OfPlace t)

  own_meant : (x : Symbol) (m : Meaning) → found own x ≡ Some m → OwnMeant x m
  own_meant x m e =
      let two = named OfPlace F ++ named OfStart sorts in
      let three = two ++ named OfConstant constants in
      first_case (found three x) (found (named OfPlace locals) x) m (OwnMeant x m) (sym (found_append three (named OfPlace locals) x) ∙ e)
      (λ a. first_case (found two x) (found (named OfConstant constants) x) m (OwnMeant x m)
      (sym (found_append two (named OfConstant constants) x) ∙ a)
      (λ b. first_case (found (named OfPlace F) x) (found (named OfStart sorts) x) m (OwnMeant x m)
      (sym (found_append (named OfPlace F) (named OfStart sorts) x) ∙ b)
      (λ c. named_told OfPlace F x m (OwnMeant x m) c (λ t i same. subst (OwnMeant x) same (own_is_formal t i)))
      (λ none c. named_told OfStart sorts x m (OwnMeant x m) c
      (λ s i same. subst (OwnMeant x) same (own_is_start s (named_none OfPlace F x none) i))))
      (λ none b. named_told OfConstant constants x m (OwnMeant x m) b (λ z i same. subst (OwnMeant x) same (own_is_constant z))))
      (λ none a. named_told OfPlace locals x m (OwnMeant x m) a
      (λ t i same.
      let before = first_none (found two x) (found (named OfConstant constants) x)
      (sym (found_append two (named OfConstant constants) x) ∙ none) in
      let no_formal = first_none (found (named OfPlace F) x) (found (named OfStart sorts) x)
      (sym (found_append (named OfPlace F) (named OfStart sorts) x) ∙ before) in
      subst (OwnMeant x) same (own_is_local t (named_none OfPlace F x no_formal) i)))

  starts_range : all_in_range k.program sorts ≡ true
  starts_range = starts_in_range k.program F given.initial sorts right.forms specified.are_starts

  plain : OwnPlain k.program own
  plain = own_plain k.program F sorts constants locals heading.formals (plain_starts k.program sorts starts_range) begins.there

  abbrev inside : Scope
  inside = in_routine k own (Some h)

  -- a place of the scope: a parameter, a local variable, or a variable of the program
  pub data IsPlace (x : Symbol) (t : TypeId) : Type 0 where
    place_formal : found own x ≡ Some (OfPlace t) → found F x ≡ Some t → IsPlace x t
    place_local : found own x ≡ Some (OfPlace t) → found F x ≡ None → found locals x ≡ Some t → IsPlace x t
    place_variable : OwnNone F sorts locals x → found own x ≡ None → found k.program.variables x ≡ Some t → IsPlace x t

  own_is_place : (x : Symbol) (t : TypeId) (m : Meaning) → found own x ≡ Some (OfPlace t) → OfPlace t ≡ m → OwnMeant x m → IsPlace x t
  own_is_place x t m o e (own_is_formal u i) = place_formal o (i ∙ ap (λ n. Some (type_in t n)) (sym e))
  own_is_place x t m o e (own_is_start s n i) = absurd (false≢true (sym (ap is_a_place e)))
  own_is_place x t m o e (own_is_constant z) = absurd (false≢true (sym (ap is_a_place e)))
  own_is_place x t m o e (own_is_local u n i) = place_local o n (i ∙ ap (λ g. Some (type_in t g)) (sym e))

  pub is_place_here : (x : Symbol) (t : TypeId) → meaning inside x ≡ Some (OfPlace t) → IsPlace x t
  is_place_here x t m =
      place_case inside right plain x t (IsPlace x t) m (λ e. own_is_place x t (OfPlace t) e refl (own_meant x (OfPlace t) e))
      (λ none e. place_variable (own_none F sorts constants locals x none) none e)

  pub place_not_name : (x : Symbol) (t : TypeId) → IsPlace x t → same_name h.name x ≡ false
  place_not_name x t (place_formal o e) = formal_name x t e
  place_not_name x t (place_local o n e) = local_name x t e
  place_not_name x t (place_variable n o e) = variable_name x t e

  variables_now : (x : Symbol) (t : TypeId) → found k.program.variables x ≡ Some t → found p.variables x ≡ Some t
  variables_now x t e = ap (λ v. found v x) final.later.variables ∙ e

  place_typed : (x : Symbol) (t : TypeId) → IsPlace x t → name_type q (Some r) x ≡ Some t
  place_typed x t (place_formal o e) = ap (λ o. first_of o (found p.variables x)) (own_formal x t e)
  place_typed x t (place_local o n e) = ap (λ o. first_of o (found p.variables x)) (own_local x t n (no_result_at x (local_name x t e)) e)
  place_typed x t (place_variable n o e) =
      ap (λ o. first_of o (found p.variables x)) (own_nothing x n.formal (no_result_at x (variable_name x t e)) n.local)
      ∙ variables_now x t e

  places : (x : Symbol) (t : TypeId) → meaning inside x ≡ Some (OfPlace t) → name_type q (Some r) x ≡ Some t
  places x t m = place_typed x t (is_place_here x t m)

  no_results : (x : Symbol) (t : TypeId) → meaning inside x ≡ Some (OfPlace t) → is_result (Some r) x ≡ false
  no_results x t m = and_false (is_some h.result) (same_name h.name x) (place_not_name x t (is_place_here x t m))

  -- no place and not the routine itself has an INITIAL name

  formal_no_start : (x : Symbol) (t : TypeId) → found F x ≡ Some t → list_any (same_name x) (keys given.initial) ≡ false
  formal_no_start x t e =
      left_false (list_any (same_name x) (keys given.initial)) (list_any (same_name x) (keys locals ++ G))
      (sym (list_any-append (same_name x) (keys given.initial) (keys locals ++ G))
      ∙ (differ_apart same_name name-refl same_names (keys F) (keys given.initial ++ (keys locals ++ G)) tail_differ).apart x (found_key F x t e))

  local_no_start : (x : Symbol) (t : TypeId) → found locals x ≡ Some t → list_any (same_name x) (keys given.initial) ≡ false
  local_no_start x t e =
      by_test (list_any (same_name x) (keys given.initial)) (list_any (same_name x) (keys given.initial) ≡ false)
      (λ i. absurd (false≢true (sym (left_false (list_any (same_name x) (keys locals)) (list_any (same_name x) G)
      (sym (list_any-append (same_name x) (keys locals) G) ∙ starts_rest.apart x i)) ∙ found_key locals x t e)))
      (λ i. i)

  variable_no_start : (x : Symbol) → found sorts x ≡ None → list_any (same_name x) (keys given.initial) ≡ false
  variable_no_start x e =
      ap (list_any (same_name x)) (sym (starts_keys k.program F given.initial sorts specified.are_starts))
      ∙ (sym (found_there sorts x) ∙ ap is_some e)

  place_no_start : (x : Symbol) (t : TypeId) → IsPlace x t → is_initial (Some r) x ≡ false
  place_no_start x t (place_formal o e) = formal_no_start x t e
  place_no_start x t (place_local o n e) = local_no_start x t e
  place_no_start x t (place_variable n o e) = variable_no_start x n.start

  no_starts : (x : Symbol) (t : TypeId) → meaning inside x ≡ Some (OfPlace t) → is_initial (Some r) x ≡ false
  no_starts x t m = place_no_start x t (is_place_here x t m)

  own_result_no_start : (x : Symbol) (g : Heading) → meaning inside x ≡ Some (OfRoutine g) → is_this (Some h) g ≡ true
      → is_initial (Some r) x ≡ false
  own_result_no_start x g m same =
      let name : g.name ≡ x = found_name (λ (a : Heading). a.name) k.headings x g (routine_meant inside right plain x g m) in
      subst (λ y. is_initial (Some r) y ≡ false) (same_names h.name g.name same ∙ name)
      (left_false (list_any (same_name h.name) (keys given.initial)) (list_any (same_name h.name) (keys locals ++ G))
      (sym (list_any-append (same_name h.name) (keys given.initial) (keys locals ++ G))
      ∙ right_false (list_any (same_name h.name) (keys F)) _
      (sym (list_any-append (same_name h.name) (keys F) (keys given.initial ++ (keys locals ++ G)))
      ∙ not_true (list_any (same_name h.name) others) (left_true _ _ begins.differ))))

  own_result : (x : Symbol) (g : Heading) (t : TypeId) → meaning inside x ≡ Some (OfRoutine g) → is_this (Some h) g ≡ true
      → g.result ≡ Some t → name_type q (Some r) x ≡ Some t
  own_result x g t m same e =
      let f = routine_meant inside right plain x g m in
      let name : g.name ≡ x = found_name (λ (a : Heading). a.name) k.headings x g f in
      let is : h.name ≡ x = same_names h.name g.name same ∙ name in
      let one : h ≡ g = some_is (sym begins.itself ∙ (ap (found (headings_named k.headings)) is ∙ f)) in
      let result : h.result ≡ Some t = ap (λ (a : Heading). a.result) one ∙ e in
      let at : found R h.name ≡ Some t = ap (λ o. found (result_name h.name o) h.name) result ∙ result_at_name h.name t in
      let no_formal : found F h.name ≡ None =
      found_none F h.name (left_false (list_any (same_name h.name) (keys F)) _
      (sym (list_any-append (same_name h.name) (keys F) (keys given.initial ++ (keys locals ++ G)))
      ∙ not_true (list_any (same_name h.name) others) (left_true _ _ begins.differ))) in
      subst (λ y. name_type q (Some r) y ≡ Some t) is
      (ap (λ o. first_of o (found p.variables h.name)) (own_result_found h.name t no_formal at))

  -- ---- which names are own ones, and which may count

  place_own : (x : Symbol) (t : TypeId) → IsPlace x t → own_in inside x ≡ is_own (Some r) x
  place_own x t (place_formal o e) = ap (λ m. is_place m || is_name_of (Some h) x) o ∙ sym (ap is_some (own_formal x t e))
  place_own x t (place_local o n e) =
      ap (λ m. is_place m || is_name_of (Some h) x) o ∙ sym (ap is_some (own_local x t n (no_result_at x (local_name x t e)) e))
  place_own x t (place_variable n o e) =
      ap (λ m. is_place m || is_name_of (Some h) x) o
      ∙ (variable_name x t e ∙ sym (ap is_some (own_nothing x n.formal (no_result_at x (variable_name x t e)) n.local)))

  value_parameter : (fs : List Formal) (x : Symbol) (t : TypeId) → found (formal_types fs) x ≡ Some t
      → list_any (λ (f : Formal). same_name f.name x && f.by_place) fs ≡ false
      → list_any (λ (f : Formal). same_name f.name x && not f.by_place) fs ≡ true
  value_parameter [] x t e n = absurd (nothing_there e)
  value_parameter (f ∷ fs) x t e n = by_case (same_name f.name x) refl f.by_place refl e n (λ i j. value_parameter fs x t i j)
    where
      by_case : (a : Bool) → same_name f.name x ≡ a → (b : Bool) → f.by_place ≡ b
          → cond a (Some f.of) (found (formal_types fs) x) ≡ Some t
          → ((a && b) || list_any (λ (g : Formal). same_name g.name x && g.by_place) fs) ≡ false
          → (found (formal_types fs) x ≡ Some t → list_any (λ (g : Formal). same_name g.name x && g.by_place) fs ≡ false
          → list_any (λ (g : Formal). same_name g.name x && not g.by_place) fs ≡ true)
          → (same_name f.name x && not f.by_place || list_any (λ (g : Formal). same_name g.name x && not g.by_place) fs) ≡ true
      by_case true i true j k m later = absurd (false≢true (sym m))
      by_case true i false j k m later = or_left (same_name f.name x && not f.by_place) _ (both_true i (ap not j))
      by_case false i b j k m later = or_right (same_name f.name x && not f.by_place) _ (later k m)

  place_counts : (x : Symbol) (t : TypeId) → IsPlace x t → statements.may_count inside x ≡ true → may_count (Some r) x ≡ true
  place_counts x t (place_formal o e) c =
      let rest = right_true (own_in inside x) _ c in
      or_right (is_some (found locals x)) _
      (value_parameter h.formals x t e
      (not_true (list_any (λ (f : Formal). same_name f.name x && f.by_place) h.formals) (left_true _ _ rest)))
  place_counts x t (place_local o n e) c = or_left (is_some (found locals x)) _ (ap is_some e)
  place_counts x t (place_variable n o e) c =
      absurd (false≢true (sym (ap (λ m. is_place m || is_name_of (Some h) x) o ∙ variable_name x t e) ∙ left_true _ _ c))

  -- ---- what annotations of the body see

  abbrev noted_own : Names
  noted_own = named OfPlace R ++ own

  abbrev noted : Scope
  noted = in_routine k noted_own (Some h)

  own_names_there : all_there k.program.forms (own_names r) ≡ true
  own_names_there =
      all_append (λ (n : Symbol × TypeId). type_exists k.program.forms n.1) F (R ++ locals) heading.formals
      (all_append (λ (n : Symbol × TypeId). type_exists k.program.forms n.1) R locals
      (result_in_range k.program p right final.later h.name h.result heading.result) begins.there)

  noted_plain : OwnPlain k.program noted_own
  noted_plain =
      plain_append k.program (named OfPlace R) own
      (plain_places k.program R (result_in_range k.program p right final.later h.name h.result heading.result)) plain

  -- the names of typing, with the sorts that they have where the body is read
  abbrev front : program.Scope
  front = with_sorts_of k.program (own_names r) ++ sorts

  front_own : (x : Symbol) (t : TypeId) → found (own_names r) x ≡ Some t → found front x ≡ Some (sort_of k.program.forms t)
  front_own x t e =
      found_append (with_sorts_of k.program (own_names r)) sorts x
      ∙ ap (λ o. first_of o (found sorts x))
      (found_mapped (sort_of k.program.forms) (own_names r) x ∙ ap (option_map (sort_of k.program.forms)) e)

  front_start : (x : Symbol) → found (own_names r) x ≡ None → found front x ≡ found sorts x
  front_start x e =
      found_append (with_sorts_of k.program (own_names r)) sorts x
      ∙ ap (λ o. first_of o (found sorts x))
      (found_mapped (sort_of k.program.forms) (own_names r) x ∙ ap (option_map (sort_of k.program.forms)) e)

  noted_case : (x : Symbol) (m : Meaning) (P : Type 0) → found noted_own x ≡ Some m → (found (named OfPlace R) x ≡ Some m → P)
      → (found R x ≡ None → found own x ≡ Some m → P) → P
  noted_case x m P e one two =
      first_case (found (named OfPlace R) x) (found own x) m P (sym (found_append (named OfPlace R) own x) ∙ e) one
      (λ none f. two (named_none OfPlace R x none) f)

  own_place_front : (x : Symbol) (t : TypeId) (m : Meaning) → OfPlace t ≡ m → found R x ≡ None → OwnMeant x m
      → found front x ≡ Some (sort_of k.program.forms t)
  own_place_front x t m e none (own_is_formal u i) = front_own x t (own_formal x t (i ∙ ap (λ n. Some (type_in t n)) (sym e)))
  own_place_front x t m e none (own_is_start s n i) = absurd (false≢true (sym (ap is_a_place e)))
  own_place_front x t m e none (own_is_constant z) = absurd (false≢true (sym (ap is_a_place e)))
  own_place_front x t m e none (own_is_local u n i) = front_own x t (own_local x t n none (i ∙ ap (λ g. Some (type_in t g)) (sym e)))

  own_start_front : (x : Symbol) (s : Sort) (m : Meaning) → OfStart s ≡ m → found R x ≡ None → OwnMeant x m → found front x ≡ Some s
  own_start_front x s m e none (own_is_formal u i) = absurd (false≢true (ap is_a_place e))
  own_start_front x s m e none (own_is_start w n i) =
      front_start x (own_nothing x n none (start_no_local x w i)) ∙ (i ∙ ap (λ g. Some (sort_in s g)) (sym e))
  own_start_front x s m e none (own_is_constant z) = absurd (false≢true (sym (ap is_a_start e)))
  own_start_front x s m e none (own_is_local u n i) = absurd (false≢true (ap is_a_place e))

  result_front : (x : Symbol) (t : TypeId) → found R x ≡ Some t → found front x ≡ Some (sort_of k.program.forms t)
  result_front x t e =
      let is : h.name ≡ x = same_names h.name x (result_is_name h.name h.result x t e) in
      let no_formal : found F x ≡ None =
      subst (λ y. found F y ≡ None) is
      (found_none F h.name (left_false (list_any (same_name h.name) (keys F)) _
      (sym (list_any-append (same_name h.name) (keys F) (keys given.initial ++ (keys locals ++ G)))
      ∙ not_true (list_any (same_name h.name) others) (left_true _ _ begins.differ)))) in
      front_own x t (own_result_found x t no_formal e)

  noted_sees : Sees k.program noted_own front
  noted_sees = record {
    place = λ x t e. noted_case x (OfPlace t) (found front x ≡ Some (sort_of k.program.forms t)) e
        (λ f. result_front x t (own_place R x t f)) (λ none f. own_place_front x t (OfPlace t) refl none (own_meant x (OfPlace t) f));
    start = λ x s e. noted_case x (OfStart s) (found front x ≡ Some s) e
        (λ f. named_told OfPlace R x (OfStart s) (found front x ≡ Some s) f (λ t i same. absurd (false≢true (sym (ap is_a_place same)))))
        (λ none f. own_start_front x s (OfStart s) refl none (own_meant x (OfStart s) f));
    none = λ x e.
        let both = sym (found_append (named OfPlace R) own x) ∙ e in
        let n = own_none F sorts constants locals x (second_none (found (named OfPlace R) x) (found own x) both) in
        let no_r = named_none OfPlace R x (first_none (found (named OfPlace R) x) (found own x) both) in
        front_start x (own_nothing x n.formal no_r n.local) ∙ n.start;
  }

  -- ---- the sorts of INITIAL names

  now : RightSpecified p given sorts
  now = specified_later k.program p right final.later given sorts specified

  listed_variable : (x : Symbol) → lists h.globals (Variable x) true ≡ true → list_any (same_name x) G ≡ true
  listed_variable x e = sym (any_items (Variable x) h.globals ∙ variable_any x (items_in h.globals)) ∙ weaker h.globals e
    where
      weaker : (gs : List GlobalItem) → list_any (λ (g : GlobalItem). same_item g.item (Variable x) && (g.is_var || false)) gs ≡ true
          → list_any (λ (g : GlobalItem). same_item g.item (Variable x)) gs ≡ true
      weaker [] i = i
      weaker (g ∷ gs) i = by_test (same_item g.item (Variable x))
          ((same_item g.item (Variable x) || list_any (λ (d : GlobalItem). same_item d.item (Variable x)) gs) ≡ true)
          (λ a. or_left (same_item g.item (Variable x)) _ a)
          (λ a. or_right (same_item g.item (Variable x)) _
          (weaker gs (sym (ap (λ b. (b && (g.is_var || false))
          || list_any (λ (d : GlobalItem). same_item d.item (Variable x) && (d.is_var || false)) gs) a) ∙ i)))

  pub no_formal_by_place : (fs : List Formal) (x : Symbol) → found (formal_types fs) x ≡ None
      → list_any (λ (f : Formal). same_name f.name x && f.by_place) fs ≡ false
  no_formal_by_place [] x e = refl
  no_formal_by_place (f ∷ fs) x e = by_case (same_name f.name x) refl e (no_formal_by_place fs x)
    where
      by_case : (a : Bool) → same_name f.name x ≡ a → cond a (Some f.of) (found (formal_types fs) x) ≡ None
          → (found (formal_types fs) x ≡ None → list_any (λ (g : Formal). same_name g.name x && g.by_place) fs ≡ false)
          → (same_name f.name x && f.by_place || list_any (λ (g : Formal). same_name g.name x && g.by_place) fs) ≡ false
      by_case true i k later = absurd (nothing_there (sym k))
      by_case false i k later = both_false (same_name f.name x && f.by_place) _ (ap (λ b. b && f.by_place) i) (later k)

  one_sort : (i : Item) (s : Sort) → walk.may_be_initial h.formals h.globals i ≡ true → IsStart p F i s → item_sort p (Some r) i ≡ s
  one_sort i s may (start_formal x t e there) =
      ap (λ o. program.sort_or_int (option_map (sort_of p.forms) (first_of o (found p.variables x)))) (own_formal x t e)
  one_sort i s may (start_variable x t none e there) =
      let listed = listed_variable x
      (second_true (list_any (λ (f : Formal). same_name f.name x && f.by_place) h.formals) (lists h.globals (Variable x) true)
      (no_formal_by_place h.formals x none) may) in
      let nothing = own_nothing x none (no_result_at x (shared_name x listed)) (shared_no_local x listed) in
      ap (λ o. program.sort_or_int (option_map (sort_of p.forms) (first_of o (found p.variables x)))) nothing
      ∙ ap (λ o. program.sort_or_int (option_map (sort_of p.forms) o)) e
  one_sort i s may (start_class t there) = refl

  all_sorts : (is : List (Symbol × Item)) (ss : List (Symbol × Sort))
      → list_all (λ (i : Symbol × Item). walk.may_be_initial h.formals h.globals i.1) is ≡ true → Starts p F is ss
      → map (λ (i : Symbol × Item). pair i.0 (item_sort p (Some r) i.1)) is ≡ ss
  all_sorts is ss may starts_none = refl
  all_sorts is ss may (starts_more y i s js us g rest) =
      ap (λ w. pair y w ∷ map (λ (j : Symbol × Item). pair j.0 (item_sort p (Some r) j.1)) js) (one_sort i s (left_true _ _ may) g)
      ∙ ap (λ l. pair y s ∷ l) (all_sorts js us (right_true (walk.may_be_initial h.formals h.globals i) _ may) rest)

  initial_sorts : initial_names p (Some r) ≡ sorts
  initial_sorts = all_sorts given.initial sorts specified.initial now.are_starts

  body_names : body_scope p (Some r) ≡ front ++ with_sorts_of k.program k.program.variables
  body_names =
      ap (λ l. l ++ (initial_names p (Some r) ++ with_sorts_of p p.variables))
      (sorts_same k.program p right final.later (own_names r) own_names_there)
      ∙ (ap (λ l. with_sorts_of k.program (own_names r) ++ (l ++ with_sorts_of p p.variables)) initial_sorts
      ∙ (ap (λ l. with_sorts_of k.program (own_names r) ++ (sorts ++ l)) (variables_same k.program p right final.later)
      ∙ sym (append_assoc (with_sorts_of k.program (own_names r)) sorts (with_sorts_of k.program k.program.variables))))

  body_range : all_in_range k.program (front ++ with_sorts_of k.program k.program.variables) ≡ true
  body_range =
      all_append (λ (n : Symbol × Sort). sort_in_range (shapes k.program) n.1) front (with_sorts_of k.program k.program.variables)
      (all_append (λ (n : Symbol × Sort). sort_in_range (shapes k.program) n.1) (with_sorts_of k.program (own_names r)) sorts
      (sorts_in_range k.program (own_names r) right.forms own_names_there) starts_range)
      (sorts_in_range k.program k.program.variables right.forms right.variables)

  -- ---- the place of the body

  name_there : (x : Symbol) (t : TypeId) → name_type q (Some r) x ≡ Some t → type_exists k.program.forms t ≡ true
  name_there x t e =
      first_case (found (own_names r) x) (found p.variables x) t (type_exists k.program.forms t ≡ true) e
      (λ f. found_all (type_exists k.program.forms) (own_names r) x t own_names_there f)
      (λ none f. found_all (type_exists k.program.forms) k.program.variables x t right.variables
      (ap (λ v. found v x) (sym final.later.variables) ∙ f))

  pub body_stands : Stands inside noted q p (Some r)
  body_stands = record {
    names = belongs k p right begins.headings final inside refl plain (Some r) places no_results no_starts own_result own_result_no_start;
    noted_names = subst (SeesAlike noted) (sym body_names) (sees_alike noted right noted_plain front noted_sees);
    noted_grows = program_grows k p right begins.headings final;
    noted_sorts = λ x s e. found_all (sort_in_range (shapes k.program)) (front ++ with_sorts_of k.program k.program.variables) x s
        body_range (ap (λ l. found l x) (sym body_names) ∙ e);
    noted_symbols = λ x d e. right_true (list_all (sort_in_range (shapes k.program)) d.args) _ (symbol_there k.program right x d e);
    grows = known_grows k p right begins.headings final (Some r) name_there;
    routines = λ x g m. same_routine k p right begins.headings final inside refl plain x g m;
    items = λ c test e. items_known k p right begins.headings final c test e;
    own = λ x t m. place_own x t (is_place_here x t m);
    counts = λ x t m c. place_counts x t (is_place_here x t m) c;
  }

  -- ---- the routine

  may_same : (i : Item) → may_be_initial r i ≡ walk.may_be_initial h.formals h.globals i
  may_same (Variable x) = refl
  may_same (Class t) = refl

  all_may : (is : List (Symbol × Item)) → list_all (λ (i : Symbol × Item). walk.may_be_initial h.formals h.globals i.1) is ≡ true
      → list_all (λ (i : Symbol × Item). may_be_initial r i.1) is ≡ true
  all_may [] e = refl
  all_may (i ∷ is) e = both_true (may_same i.1 ∙ left_true _ _ e)
      (all_may is (right_true (walk.may_be_initial h.formals h.globals i.1) _ e))

  names_of_formals : (fs : List Formal) → keys (formal_types fs) ≡ map (λ (f : Formal). f.name) fs
  names_of_formals [] = refl
  names_of_formals (f ∷ fs) = ap (λ l. f.name ∷ l) (names_of_formals fs)

  result_fits : (o : Option TypeId) → ((t : TypeId) → o ≡ Some t → type_exists p.forms t ≡ true)
      → ((t : TypeId) → o ≡ Some t → may_be_result (form_at p.forms t.0) ≡ true) → result_ok p o ≡ true
  result_fits None a b = refl
  result_fits (Some t) a b = both_true (a t refl) (b t refl)

  heading_fits : heading_ok p r ≡ true
  heading_fits =
      both_true (sym (all_map (λ (n : Symbol × TypeId). type_exists p.forms n.1) (λ (f : Formal). pair f.name f.of) h.formals)
      ∙ now.heading.formals)
      (both_true (result_fits h.result now.heading.result now.heading.plain_result)
      (both_true (all_longer k.program.forms p.forms locals final.later.forms begins.there)
      (both_true now.heading.globals
      (both_true now.heading.globals_differ
      (both_true (all_may given.initial now.initial)
      (ap (λ l. names_differ (h.name ∷ (l ++ (keys given.initial ++ (keys locals ++ G))))) (sym (names_of_formals h.formals))
      ∙ begins.differ))))))

  pub routine_right : statement_ok p (Some r) body ≡ true → routine_ok p r ≡ true
  routine_right done =
      both_true heading_fits
      (both_true now.entry
      (both_true (ap (λ l. annotation_ok p (with_sorts_of p F ++ (with_sorts_of p R ++ (l ++ with_sorts_of p p.variables))) given.exit)
      initial_sorts ∙ now.exit) done))
