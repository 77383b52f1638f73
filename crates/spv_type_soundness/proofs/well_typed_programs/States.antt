-- Where the walk over routines stands between two marks.
use Rattle.std.proofs.Common.{◌≡◌, ℕ, suc, Bool, true, false, cond, not, List, [], ◌∷◌, ◌++◌, map, Option, Some, None, refl, sym, ap, ◌∙◌, subst}
use Rattle.std.specs.List.{list_any}
use Rattle.std.proofs.lemmas.Bool.{false≢true}
use Rattle.std.proofs.lemmas.List.{append-nil, map-append}
use Rattle.std.proofs.lemmas.List.Folds.{list_any-append}
use Rattle.spv_logic.specs.declared.names.names.Symbol.{Symbol}
use Rattle.spv_logic.proofs.list.Tests.{right_false, both_false}
use Rattle.spv_logic.specs.declared.types.Sort.{Sort}
use Rattle.spv_logic.specs.declared.types.Decl.{Decl}
use Rattle.spv_program.specs.Lists.{same_name, found, first_of, item_at, names_differ}
use Rattle.spv_program.specs.Programs.{Routine, Program}
use Rattle.spv_program.specs.Typing.{routine_ok}
use Rattle.spv_program.proofs.SortFacts.{nothing_there, some_is}
use Rattle.spv_typing.specs.Known.{Heading, Specified, Known, is_free}
use Rattle.spv_typing.specs.DeclarationWalk.{with_program}
use Rattle.spv_typing.specs.RoutineWalk.{with_heading}
use Rattle.spv_typing.specs.ProgramWalk.{number_of, awaited_of, without, with_awaited, with_routine}
use Rattle.spv_type_soundness.proofs.well_typed_programs.Differ.{or_left, or_right, by_test, name-refl, same_names, differ_one}
use Rattle.spv_type_soundness.proofs.well_typed_programs.Finding.{pair, keys, found_append, found_none, first_case}
use Rattle.spv_type_soundness.proofs.well_typed_programs.Items.{item_grown}
use Rattle.spv_type_soundness.proofs.well_typed_programs.Denoted.{begins_same}
use Rattle.spv_type_soundness.proofs.well_typed_programs.Naming.{headings_named, free_told}
use Rattle.spv_type_soundness.proofs.well_typed_programs.Declaring.{same_symbols, RightKnown}
use Rattle.spv_type_soundness.proofs.well_typed_programs.Declared.{Same}
use Rattle.spv_type_soundness.proofs.well_typed_programs.Headings.{RightHeading, RightSpecified, Later, heading_later, specified_later}
use Rattle.spv_type_soundness.proofs.well_typed_programs.HeadingWalk.{heading_right}
use Rattle.spv_type_soundness.proofs.well_typed_programs.ClauseWalk.{later_then, later_same}
use Rattle.spv_type_soundness.proofs.well_typed_programs.RoutineBody.{keys_headings}
use Rattle.spv_type_soundness.proofs.well_typed_programs.Bodies.{Final, HeadingsKnown}

abbrev pub heading_at : Known → Symbol → Option Heading
heading_at k x = found (headings_named k.headings) x

abbrev pub specified_named : List Specified → List (Symbol × Specified)
specified_named ss = map (λ (s : Specified). pair s.heading.name s) ss

abbrev pub awaited_at : Known → Symbol → Option Specified
awaited_at k x = found (specified_named k.awaited) x

abbrev pub routine_names : Known → List Symbol
routine_names k = map (λ (c : Routine). c.name) k.program.routines

pub awaited_is : (awaited : List Specified) (x : Symbol) → awaited_of awaited x ≡ found (specified_named awaited) x
awaited_is [] x = refl
awaited_is (s ∷ awaited) x = ap (λ o. cond (same_name s.heading.name x) (Some s) o) (awaited_is awaited x)

-- a routine that has its body: it is that of a heading, which is awaited no longer, and well typed in the whole program
pub record RoutineDone (k : Known) (c : Routine) : Type 0 where
  pub heading : Heading
  pub is : heading_at k c.name ≡ Some heading
  pub formals : c.formals ≡ heading.formals
  pub result : c.result ≡ heading.result
  pub globals : c.globals ≡ heading.globals
  pub not_awaited : awaited_at k c.name ≡ None
  pub ok : (p : Program) → Final k p → routine_ok p c ≡ true

-- a routine whose body is awaited: its heading is known, and its clauses are right
pub record IsAwaited (k : Known) (x : Symbol) (s : Specified) : Type 0 where
  pub is : heading_at k x ≡ Some s.heading
  pub sorts : List (Symbol × Sort)
  pub right : RightSpecified k.program s sorts

-- where the body of a heading is
pub data Has (k : Known) (begun : List Symbol) (x : Symbol) (g : Heading) : Type 0 where
  still_awaited : (s : Specified) → s.heading ≡ g → awaited_at k x ≡ Some s → Has k begun x g
  just_begun : list_any (same_name x) begun ≡ true → Has k begun x g
  is_done : list_any (same_name x) (routine_names k) ≡ true → Has k begun x g

pub record RightState (bodies : List Symbol) (k : Known) (begun : List Symbol) : Type 0 where
  pub known : RightKnown k
  pub headings : HeadingsKnown k
  pub numbers : (x : Symbol) (g : Heading) → heading_at k x ≡ Some g → g.number ≡ number_of bodies g.name
  pub awaited : (x : Symbol) (s : Specified) → awaited_at k x ≡ Some s → IsAwaited k x s
  pub routines : (i : ℕ) (c : Routine) → item_at k.program.routines i ≡ Some c → RoutineDone k c
  pub has : (x : Symbol) (g : Heading) → heading_at k x ≡ Some g → Has k begun x g
  pub differ : names_differ (routine_names k ++ begun) ≡ true

-- ---- a later place of the walk

-- the headings of the one are headings of the other
pub record Extends (k l : Known) : Type 0 where
  pub later : Later k.program l.program
  pub headings : (x : Symbol) (g : Heading) → heading_at k x ≡ Some g → heading_at l x ≡ Some g

pub final_before : (k l : Known) (p : Program) → Extends k l → Final l p → Final k p
final_before k l p e f = record {
  later = later_then k.program l.program p e.later f.later;
  agree = λ r c g at h. f.agree r c g at (e.headings c.name g h);
  bodies = λ x g h. f.bodies x g (e.headings x g h);
}

-- a routine that was done still is
done_later : (k l : Known) (c : Routine) → Extends k l → awaited_at l c.name ≡ None → RoutineDone k c → RoutineDone l c
done_later k l c e none d = record {
  heading = d.heading;
  is = e.headings c.name d.heading d.is;
  formals = d.formals;
  result = d.result;
  globals = d.globals;
  not_awaited = none;
  ok = λ p f. d.ok p (final_before k l p e f);
}

-- ---- more headings

heading_more : (k : Known) (h : Heading) (x : Symbol) (g : Heading) → heading_at k x ≡ Some g → heading_at (with_heading k h) x ≡ Some g
heading_more k h x g e =
    ap (λ l. found l x) (map-append (λ (d : Heading). pair d.name d) k.headings (h ∷ []))
    ∙ (found_append (headings_named k.headings) (pair h.name h ∷ []) x ∙ ap (λ o. first_of o (found (pair h.name h ∷ []) x)) e)

one_found : {X : Type 0} (name : X → Symbol) (h : X) (x : Symbol) (g : X) (P : Type 0) → found (pair (name h) h ∷ []) x ≡ Some g
    → (name h ≡ x → h ≡ g → P) → P
one_found {X} name h x g P e go = by_name (same_name (name h) x) refl e
  where
    by_name : (b : Bool) → same_name (name h) x ≡ b → cond b (Some h) None ≡ Some g → P
    by_name true i f = go (same_names (name h) x i) (some_is f)
    by_name false i f = absurd (nothing_there f)

list_case : {X : Type 0} (name : X → Symbol) (hs : List X) (h : X) (x : Symbol) (g : X) (P : Type 0)
    → found (map (λ (d : X). pair (name d) d) (hs ++ h ∷ [])) x ≡ Some g
    → (found (map (λ (d : X). pair (name d) d) hs) x ≡ Some g → P) → (name h ≡ x → h ≡ g → P) → P
list_case {X} name hs h x g P e old new =
    let named = map (λ (d : X). pair (name d) d) hs in
    first_case (found named x) (found (pair (name h) h ∷ []) x) g P
    (sym (found_append named (pair (name h) h ∷ []) x)
    ∙ (ap (λ l. found l x) (sym (map-append (λ (d : X). pair (name d) d) hs (h ∷ []))) ∙ e))
    old (λ none f. one_found name h x g P f new)

abbrev heading_name : Heading → Symbol
heading_name h = h.name

abbrev specified_name : Specified → Symbol
specified_name s = s.heading.name

pub new_heading : (k : Known) (h : Heading) → found (headings_named k.headings) h.name ≡ None
    → heading_at (with_heading k h) h.name ≡ Some h
new_heading k h none =
    ap (λ l. found l h.name) (map-append (λ (d : Heading). pair d.name d) k.headings (h ∷ []))
    ∙ (found_append (headings_named k.headings) (pair h.name h ∷ []) h.name
    ∙ (ap (λ o. first_of o (found (pair h.name h ∷ []) h.name)) none ∙ ap (λ b. cond b (Some h) None) (name-refl h.name)))

-- a free name is that of no heading
pub free_heading : (k : Known) (x : Symbol) → is_free k x ≡ true → heading_at k x ≡ None
free_heading k x free =
    let p = k.program in
    let new = (free_told k x free).new in
    let one = right_false (list_any (same_name x) (keys p.constants)) _ (sym (list_any-append (same_name x) (keys p.constants) _) ∙ new) in
    let two = right_false (list_any (same_name x) (keys p.types)) _ (sym (list_any-append (same_name x) (keys p.types) _) ∙ one) in
    let three = right_false (list_any (same_name x) (keys p.variables)) _
    (sym (list_any-append (same_name x) (keys p.variables) _) ∙ two) in
    let four = right_false (list_any (same_name x) (map (λ (d : Decl). d.name) p.symbols)) _
    (sym (list_any-append (same_name x) (map (λ (d : Decl). d.name) p.symbols) _) ∙ three) in
    found_none (headings_named k.headings) x (ap (list_any (same_name x)) (keys_headings k.headings) ∙ four)

module _ (bodies : List Symbol) (k : Known) (s : Specified) (sorts : List (Symbol × Sort)) (state : RightState bodies k [])
    (free : is_free k s.heading.name ≡ true)
    (right : RightSpecified k.program s sorts) (number : s.heading.number ≡ number_of bodies s.heading.name) where
  abbrev h : Heading
  h = s.heading

  none_yet : heading_at k h.name ≡ None
  none_yet = free_heading k h.name free

  extends : Extends k (with_heading k h)
  extends = record { later = later_same k.program; headings = heading_more k h }

  headings_known : HeadingsKnown (with_heading k h)
  headings_known = record {
    each = λ x g e. list_case heading_name k.headings h x g (RightHeading k.program g) e (state.headings.each x g)
        (λ is same. subst (RightHeading k.program) same right.heading);
  }

  numbers_known : (x : Symbol) (g : Heading) → heading_at (with_heading k h) x ≡ Some g → g.number ≡ number_of bodies g.name
  numbers_known x g e = list_case heading_name k.headings h x g (g.number ≡ number_of bodies g.name) e (state.numbers x g)
      (λ is same. subst (λ (d : Heading). d.number ≡ number_of bodies d.name) same number)

  -- a routine that is done has another name
  other_name : (c : Routine) → RoutineDone k c → same_name h.name c.name ≡ false
  other_name c d =
      by_test (same_name h.name c.name) (same_name h.name c.name ≡ false)
      (λ i. absurd (nothing_there (sym none_yet ∙ (ap (heading_at k) (same_names h.name c.name i) ∙ d.is)))) (λ i. i)

  -- an announced routine, and what is known behind it
  abbrev next : Known
  next = with_awaited (with_heading k h) (k.awaited ++ s ∷ [])

  pub announced_state : RightState bodies next []
  announced_state = record {
    known = record {
      program = (heading_right k h state.known free).program;
      names =
          record { differ = (heading_right k h state.known free).names.differ; fixed = (heading_right k h state.known free).names.fixed };
    };
    headings = record { each = headings_known.each };
    numbers = numbers_known;
    awaited = λ x t e. list_case specified_name k.awaited s x t (IsAwaited next x t) e
        (λ f. awaited_more x t (state.awaited x t f))
        (λ is same. subst (IsAwaited next x) same (record {
          is = subst (λ y. heading_at (with_heading k h) y ≡ Some h) is (new_heading k h none_yet);
          sorts = sorts;
          right = right;
        }));
    routines = λ i c e.
        let d = state.routines i c e in
        done_later k next c
        (record { later = later_same k.program; headings = heading_more k h }) (still_none c d) d;
    has = λ x g e. list_case heading_name k.headings h x g (Has next [] x g) e
        (λ f. has_more x g (state.has x g f))
        (λ is same. still_awaited s same (subst (λ y. found (specified_named (k.awaited ++ s ∷ [])) y ≡ Some s) is new_awaited));
    differ = state.differ;
  }
    where
      awaited_more : (x : Symbol) (t : Specified) → IsAwaited k x t → IsAwaited next x t
      awaited_more x t a = record { is = heading_more k h x t.heading a.is; sorts = a.sorts; right = a.right }

      awaited_list : (x : Symbol) → found (specified_named (k.awaited ++ s ∷ [])) x
          ≡ first_of (found (specified_named k.awaited) x) (found (pair h.name s ∷ []) x)
      awaited_list x = ap (λ l. found l x) (map-append (λ (d : Specified). pair d.heading.name d) k.awaited (s ∷ []))
          ∙ found_append (specified_named k.awaited) (pair h.name s ∷ []) x

      still_none : (c : Routine) → RoutineDone k c → found (specified_named (k.awaited ++ s ∷ [])) c.name ≡ None
      still_none c d = awaited_list c.name
          ∙ (ap (λ o. first_of o (found (pair h.name s ∷ []) c.name)) d.not_awaited ∙ ap (λ b. cond b (Some s) None) (other_name c d))

      has_more : (x : Symbol) (g : Heading) → Has k [] x g → Has next [] x g
      has_more x g (still_awaited t is e) =
          still_awaited t is (awaited_list x ∙ ap (λ o. first_of o (found (pair h.name s ∷ []) x)) e)
      has_more x g (just_begun e) = just_begun e
      has_more x g (is_done e) = is_done e

      no_awaited : (o : Option Specified) → found (specified_named k.awaited) h.name ≡ o → o ≡ None
      no_awaited None e = refl
      no_awaited (Some t) e = absurd (nothing_there (sym none_yet ∙ (state.awaited h.name t e).is))

      new_awaited : found (specified_named (k.awaited ++ s ∷ [])) h.name ≡ Some s
      new_awaited = awaited_list h.name
          ∙ (ap (λ o. first_of o (found (pair h.name s ∷ []) h.name)) (no_awaited (found (specified_named k.awaited) h.name) refl)
          ∙ ap (λ b. cond b (Some s) None) (name-refl h.name))

  -- a routine whose body begins
  pub begun_state : RightState bodies (with_heading k h) (h.name ∷ [])
  begun_state = record {
    known = heading_right k h state.known free;
    headings = headings_known;
    numbers = numbers_known;
    awaited = λ x t e. let a = state.awaited x t e in
        record { is = heading_more k h x t.heading a.is; sorts = a.sorts; right = a.right };
    routines = λ i c e. let d = state.routines i c e in done_later k (with_heading k h) c extends d.not_awaited d;
    has = λ x g e. list_case heading_name k.headings h x g (Has (with_heading k h) (h.name ∷ []) x g) e
        (λ f. has_more x g (state.has x g f))
        (λ is same. just_begun (subst (λ y. list_any (same_name y) (h.name ∷ []) ≡ true) is
        (or_left (same_name h.name h.name) false (name-refl h.name))));
    differ = differ_one same_name name-refl same_names (routine_names k) h.name
        (ap names_differ (sym (append-nil (routine_names k))) ∙ state.differ)
        (no_routine k.program.routines (λ i c e. other_name c (state.routines i c e)));
  }
    where
      has_more : (x : Symbol) (g : Heading) → Has k [] x g → Has (with_heading k h) (h.name ∷ []) x g
      has_more x g (still_awaited t is e) = still_awaited t is e
      has_more x g (just_begun e) = absurd (false≢true e)
      has_more x g (is_done e) = is_done e

      no_routine : (cs : List Routine) → ((i : ℕ) (c : Routine) → item_at cs i ≡ Some c → same_name h.name c.name ≡ false)
          → list_any (same_name h.name) (map (λ (c : Routine). c.name) cs) ≡ false
      no_routine [] e = refl
      no_routine (c ∷ cs) e = both_false (same_name h.name c.name) _ (e 0 c refl) (no_routine cs (λ i d f. e (suc i) d f))

-- ---- a routine that was announced

pub without_same : (awaited : List Specified) (x : Symbol) → found (specified_named (without awaited x)) x ≡ None
without_same [] x = refl
without_same (s ∷ awaited) x = by_name (same_name s.heading.name x) refl (without_same awaited x)
  where
    by_name : (b : Bool) → same_name s.heading.name x ≡ b → found (specified_named (without awaited x)) x ≡ None
        → found (specified_named (cond (not b) (s ∷ without awaited x) (without awaited x))) x ≡ None
    by_name true i e = e
    by_name false i e = ap (λ b. cond b (Some s) (found (specified_named (without awaited x)) x)) i ∙ e

without_other : (awaited : List Specified) (x y : Symbol) → same_name x y ≡ false
    → found (specified_named (without awaited x)) y ≡ found (specified_named awaited) y
without_other [] x y n = refl
without_other (s ∷ awaited) x y n = by_name (same_name s.heading.name x) refl (without_other awaited x y n)
  where
    by_name : (b : Bool) → same_name s.heading.name x ≡ b
        → found (specified_named (without awaited x)) y ≡ found (specified_named awaited) y
        → found (specified_named (cond (not b) (s ∷ without awaited x) (without awaited x))) y ≡ found (specified_named (s ∷ awaited)) y
    by_name false i e = ap (λ o. cond (same_name s.heading.name y) (Some s) o) e
    by_name true i e = e ∙ sym (ap (λ b. cond b (Some s) (found (specified_named awaited) y))
        (subst (λ z. same_name z y ≡ false) (sym (same_names s.heading.name x i)) n))

pub again_state : (bodies : List Symbol) (k : Known) (name : Symbol) (s : Specified) → RightState bodies k [] → awaited_at k name ≡ Some s
    → RightState bodies (with_awaited k (without k.awaited name)) (name ∷ [])
again_state bodies k name s state waits = record {
  known = record { program = state.known.program; names = record { differ = state.known.names.differ; fixed = state.known.names.fixed } };
  headings = record { each = state.headings.each };
  numbers = state.numbers;
  awaited = λ x t e. let a = state.awaited x t (was_awaited x t e) in record { is = a.is; sorts = a.sorts; right = a.right };
  routines = λ i c e.
      let d = state.routines i c e in
      done_later k (with_awaited k (without k.awaited name)) c (record { later = later_same k.program; headings = λ x g f. f })
      (still_none c d) d;
  has = λ x g e. has_more x g (state.has x g e);
  differ = differ_one same_name name-refl same_names (routine_names k) name
      (ap names_differ (sym (append-nil (routine_names k))) ∙ state.differ)
      (no_routine k.program.routines (λ i c e. other_name c (state.routines i c e)));
}
  where
    was_awaited : (x : Symbol) (t : Specified) → found (specified_named (without k.awaited name)) x ≡ Some t → awaited_at k x ≡ Some t
    was_awaited x t e =
        by_test (same_name name x) (awaited_at k x ≡ Some t)
        (λ i. absurd (nothing_there (sym (without_same k.awaited name)
        ∙ subst (λ y. found (specified_named (without k.awaited name)) y ≡ Some t) (sym (same_names name x i)) e)))
        (λ i. sym (without_other k.awaited name x i) ∙ e)

    other_name : (c : Routine) → RoutineDone k c → same_name name c.name ≡ false
    other_name c d =
        by_test (same_name name c.name) (same_name name c.name ≡ false)
        (λ i. absurd (nothing_there (sym d.not_awaited ∙ (ap (awaited_at k) (sym (same_names name c.name i)) ∙ waits)))) (λ i. i)

    still_none : (c : Routine) → RoutineDone k c → found (specified_named (without k.awaited name)) c.name ≡ None
    still_none c d = without_other k.awaited name c.name (other_name c d) ∙ d.not_awaited

    has_more : (x : Symbol) (g : Heading) → Has k [] x g → Has (with_awaited k (without k.awaited name)) (name ∷ []) x g
    has_more x g (still_awaited t is e) =
        by_test (same_name name x) (Has (with_awaited k (without k.awaited name)) (name ∷ []) x g)
        (λ i. just_begun (subst (λ y. list_any (same_name y) (name ∷ []) ≡ true) (same_names name x i)
        (or_left (same_name name name) false (name-refl name))))
        (λ i. still_awaited t is (without_other k.awaited name x i ∙ e))
    has_more x g (just_begun e) = absurd (false≢true e)
    has_more x g (is_done e) = is_done e

    no_routine : (cs : List Routine) → ((i : ℕ) (c : Routine) → item_at cs i ≡ Some c → same_name name c.name ≡ false)
        → list_any (same_name name) (map (λ (c : Routine). c.name) cs) ≡ false
    no_routine [] e = refl
    no_routine (c ∷ cs) e = both_false (same_name name c.name) _ (e 0 c refl) (no_routine cs (λ i d f. e (suc i) d f))

-- ---- more types

pub later_state : (bodies : List Symbol) (k l : Known) (begun : List Symbol) → RightState bodies k begun → RightKnown l
    → Later k.program l.program → Same k l → RightState bodies l begun
later_state bodies k l begun state right later same = record {
  known = right;
  headings = record {
    each = λ x g e. heading_later k.program l.program state.known.program later g (state.headings.each x g (back x g e));
  };
  numbers = λ x g e. state.numbers x g (back x g e);
  awaited = λ x s e. let a = state.awaited x s (ap (λ ss. found (specified_named ss) x) (sym same.awaited) ∙ e) in
      record {
        is = forth x s.heading a.is;
        sorts = a.sorts;
        right = specified_later k.program l.program state.known.program later s a.sorts a.right;
      };
  routines = λ i c e.
      let d = state.routines i c (ap (λ cs. item_at cs i) (sym same.routines) ∙ e) in
      done_later k l c (record { later = later; headings = forth })
      (ap (λ ss. found (specified_named ss) c.name) same.awaited ∙ d.not_awaited) d;
  has = λ x g e. has_more x g (state.has x g (back x g e));
  differ = ap (λ cs. names_differ (map (λ (c : Routine). c.name) cs ++ begun)) same.routines ∙ state.differ;
}
  where
    back : (x : Symbol) (g : Heading) → heading_at l x ≡ Some g → heading_at k x ≡ Some g
    back x g e = ap (λ hs. found (headings_named hs) x) (sym same.headings) ∙ e

    forth : (x : Symbol) (g : Heading) → heading_at k x ≡ Some g → heading_at l x ≡ Some g
    forth x g e = ap (λ hs. found (headings_named hs) x) same.headings ∙ e

    has_more : (x : Symbol) (g : Heading) → Has k begun x g → Has l begun x g
    has_more x g (still_awaited s is e) = still_awaited s is (ap (λ ss. found (specified_named ss) x) same.awaited ∙ e)
    has_more x g (just_begun e) = just_begun e
    has_more x g (is_done e) = is_done (ap (λ cs. list_any (same_name x) (map (λ (c : Routine). c.name) cs)) same.routines ∙ e)

-- ---- a body that has ended

abbrev pub with_one : Known → Routine → Known
with_one k c = with_program k (with_routine k.program c)

pub ended_state : (bodies : List Symbol) (k : Known) (h : Heading) (c : Routine) → RightState bodies k (h.name ∷ []) → c.name ≡ h.name
    → heading_at k h.name ≡ Some h → awaited_at k h.name ≡ None
    → c.formals ≡ h.formals → c.result ≡ h.result → c.globals ≡ h.globals → ((p : Program) → Final k p → routine_ok p c ≡ true)
    → RightState bodies (with_program k (with_routine k.program c)) []
ended_state bodies k h c state name is none formals result globals ok = record {
  known = record {
    program = record {
      forms = state.known.program.forms;
      types = state.known.program.types;
      variables = state.known.program.variables;
      symbols = same_symbols k.program (with_one k c).program k.program.symbols refl state.known.program.symbols;
    };
    names = record { differ = state.known.names.differ; fixed = state.known.names.fixed };
  };
  headings = record {
    each = λ x g e. heading_later k.program (with_one k c).program state.known.program same g (state.headings.each x g e);
  };
  numbers = state.numbers;
  awaited = λ x s e. let a = state.awaited x s e in
      record {
        is = a.is;
        sorts = a.sorts;
        right = specified_later k.program (with_one k c).program state.known.program same s a.sorts a.right;
      };
  routines = λ i d e.
      item_grown k.program.routines c i d (RoutineDone (with_one k c) d) e
      (λ f. let old = state.routines i d f in done_later k (with_one k c) d extends old.not_awaited old)
      (λ at alike. subst (RoutineDone (with_one k c)) alike (record {
        heading = h;
        is = ap (heading_at k) name ∙ is;
        formals = formals;
        result = result;
        globals = globals;
        not_awaited = ap (awaited_at k) name ∙ none;
        ok = λ p f. ok p (final_before k (with_one k c) p extends f);
      }));
  has = λ x g e. has_more x g (state.has x g e);
  differ = ap names_differ (append-nil (routine_names (with_one k c))
      ∙ (map-append (λ (d : Routine). d.name) k.program.routines (c ∷ []) ∙ ap (λ n. routine_names k ++ n ∷ []) name)) ∙ state.differ;
}
  where
    same : Later k.program (with_one k c).program
    same = record { forms = begins_same k.program.forms; types = refl; variables = refl; symbols = refl }

    extends : Extends k (with_one k c)
    extends = record { later = same; headings = λ x g e. e }

    has_more : (x : Symbol) (g : Heading) → Has k (h.name ∷ []) x g → Has (with_one k c) [] x g
    has_more x g (still_awaited s is e) = still_awaited s is e
    has_more x g (just_begun e) =
        is_done (ap (list_any (same_name x)) (map-append (λ (d : Routine). d.name) k.program.routines (c ∷ []))
        ∙ (list_any-append (same_name x) (routine_names k) (c.name ∷ [])
        ∙ or_right (list_any (same_name x) (routine_names k)) _ (ap (λ n. list_any (same_name x) (n ∷ [])) name ∙ e)))
    has_more x g (is_done e) =
        is_done (ap (list_any (same_name x)) (map-append (λ (d : Routine). d.name) k.program.routines (c ∷ []))
        ∙ (list_any-append (same_name x) (routine_names k) (c.name ∷ []) ∙ or_left (list_any (same_name x) (routine_names k)) _ e))
