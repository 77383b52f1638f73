-- The routines of a text come from their trees.
use Rattle.std.proofs.Common.{◌≡◌, Bool, true, false, cond, List, [], ◌∷◌, ◌++◌, map, Option, Some, None, refl, sym, ap, ◌∙◌, subst}
use Rattle.std.specs.Prelude.{◌&&◌, ◌||◌, not, Ok}
use Rattle.std.proofs.lemmas.Bool.{false≢true}
use Rattle.std.proofs.lemmas.List.{append_assoc, append-nil}
use Rattle.spv_logic.proofs.list.Tests.{right_true}
use Rattle.spv_logic.specs.declared.names.names.Symbol.{Symbol}
use Rattle.spv_logic.specs.declared.types.TypeId.{TypeId}
use Rattle.spv_logic.specs.declared.types.Sort.{Sort}
use Rattle.spv_tree.specs.declared.syntax.routines.HeadingForm.{HeadingForm}
use Rattle.spv_tree.specs.declared.syntax.routines.HeadingForm.TheVariants.{Procedure, Function}
use Rattle.spv_tree.specs.declared.syntax.routines.Heading.{Heading as HeadingText}
use Rattle.spv_tree.specs.declared.syntax.routines.Clauses.{Clauses}
use Rattle.spv_tree.specs.declared.syntax.routines.Locals.{Locals}
use Rattle.spv_tree.specs.declared.syntax.routines.RoutineMark.{RoutineMark}
use Rattle.spv_tree.specs.declared.syntax.routines.RoutineMark.TheVariants.{Announced, Begins, Ends}
use Rattle.spv_tree.specs.syntax.Statements as tree
use Rattle.spv_tree.specs.syntax.Reads.{routines_ok, block_ok}
use Rattle.spv_program.specs.declared.types.Item.{Item}
use Rattle.spv_program.specs.Lists.{same_name}
use Rattle.spv_program.specs.Types.{form_at, may_be_result}
use Rattle.spv_program.specs.Statements.{Statement}
use Rattle.spv_program.specs.Programs.{Formal, Routine, Program}
use Rattle.spv_program.proofs.SortFacts.{nothing_there, some_is}
use Rattle.spv_typing.specs.Outcomes.{Outcome, after, each, twice}
use Rattle.spv_typing.specs.Known.{KnownNames, OfPlace, OfStart, Heading, Specified, Known, is_free_for_call}
use Rattle.spv_typing.specs.StatementWalk.{block_walk}
use Rattle.spv_typing.specs.RoutineWalk.{in_routine, Headed, Local, heading_name, is_function_form, form_walk, with_heading, locals_walk, body_setting, with_body, item_sort}
use Rattle.spv_typing.specs.RoutineWalk as walk
use Rattle.spv_typing.specs.ProgramWalk.{Begun, Progress, names_of_bodies, number_of, awaited_of, twice_at, first_heading, is_bare_form, is_bare, without, with_awaited, begun_of, begin, announce, unless_begun, mark_walk}
use Rattle.spv_type_soundness.proofs.well_typed.Outcomes.{fine, no_fault, same_value, went, held, behind_test}
use Rattle.spv_type_soundness.specs.faithfulness.Names.{Place, Start}
use Rattle.spv_type_soundness.specs.faithfulness.Routines.{parameter_names, start_names, name_of, announced_as, repeats, HeadingFrom, RoutinesFrom}
use Rattle.spv_type_soundness.specs.faithfulness.Routines as origin
use Rattle.spv_type_soundness.proofs.faithfulness.Scopes.{In, here, further, in_before, same_name-refl, OwnAs, no_own, one_own, own_append, as_place, as_start, same_name-true}
use Rattle.spv_type_soundness.proofs.faithfulness.Seeing.{KnowsNames}
use Rattle.spv_type_soundness.proofs.faithfulness.NewTypes.{Keeps, keeps_on}
use Rattle.spv_type_soundness.proofs.faithfulness.Headed.{heading_come}
use Rattle.spv_type_soundness.proofs.faithfulness.Bodies.{Ready, Later, later_same, later_on, is_among, AllAmong, among_before, knows_later, routine_of, known_behind, body_done}

-- ---- the names of a heading

formals_own : (fs : List Formal) → OwnAs (map (λ (f : Formal). (f.name, OfPlace f.of)) fs) (parameter_names fs)
formals_own [] = no_own
formals_own (f ∷ fs) = one_own f.name (OfPlace f.of) Place (map (λ (f : Formal). (f.name, OfPlace f.of)) fs) (parameter_names fs)
    (as_place f.of) (formals_own fs)

initial_own : (sort_for : Item → Sort) (is : List (Symbol × Item))
    → OwnAs (map (λ (i : Symbol × Item). (i.0, OfStart (sort_for i.1))) is) (start_names is)
initial_own sort_for [] = no_own
initial_own sort_for (i ∷ is) = one_own i.0 (OfStart (sort_for i.1)) Start (map (λ (i : Symbol × Item). (i.0, OfStart (sort_for i.1))) is)
    (start_names is) (as_start (sort_for i.1)) (initial_own sort_for is)

heading_own : (k : Known) (h : Specified) → OwnAs (walk.heading_names k h) (parameter_names h.heading.formals ++ start_names h.initial)
heading_own k h =
    let parameters = map (λ (f : Formal). (f.name, OfPlace f.of)) h.heading.formals in
    own_append parameters (map (λ (i : Symbol × Item). (i.0, OfStart (item_sort (in_routine k parameters None) i.1))) h.initial)
    (parameter_names h.heading.formals) (start_names h.initial)
    (formals_own h.heading.formals) (initial_own (item_sort (in_routine k parameters None)) h.initial)

name_same : (f : HeadingForm) → name_of f ≡ (heading_name f).symbol
name_same (Procedure x params) = refl
name_same (Function x params result) = refl

repeated : (f g : HeadingForm) (c : Clauses) → (is_bare_form (is_function_form f) g && is_bare c) ≡ true → repeats f g c ≡ true
repeated (Procedure x ps) (Procedure y None) c h = h
repeated (Procedure x ps) (Procedure y (Some q)) c h = absurd (false≢true h)
repeated (Procedure x ps) (Function y None None) c h = absurd (false≢true h)
repeated (Procedure x ps) (Function y None (Some r)) c h = absurd (false≢true h)
repeated (Procedure x ps) (Function y (Some q) r) c h = absurd (false≢true h)
repeated (Function x ps r) (Function y None None) c h = h
repeated (Function x ps r) (Function y None (Some q)) c h = absurd (false≢true h)
repeated (Function x ps r) (Function y (Some q) s) c h = absurd (false≢true h)
repeated (Function x ps r) (Procedure y None) c h = absurd (false≢true h)
repeated (Function x ps r) (Procedure y (Some q)) c h = absurd (false≢true h)

pub in_last : {X : Type 0} (P : X → Type 0) (xs : List X) (y x : X) → ((x : X) → In xs x → P x) → P y → In (xs ++ y ∷ []) x → P x
in_last P [] y x h last (here a us) = last
in_last P [] y x h last (further a b us k) = elim k [ ]
in_last P (z ∷ xs) y x h last (here a us) = h z (here z xs)
in_last P (z ∷ xs) y x h last (further a b us k) = in_last P xs y x (λ w i. h w (further w z xs i)) last k

in_end : {X : Type 0} (xs : List X) (x : X) → In (xs ++ x ∷ []) x
in_end [] x = here x []
in_end (y ∷ xs) x = further x y (xs ++ x ∷ []) (in_end xs x)

-- ---- headings that wait for their bodies

module _ (start : KnownNames) (p : Program) where
  pub record WaitsAs (a : Specified) (q : HeadingText × Clauses) : Type 0 where
    pub name_is : a.heading.name ≡ name_of q.0.form
    pub kind_is : a.heading.is_function ≡ is_function_form q.0.form
    pub from : (locals : List (Symbol × TypeId)) (body : Statement) → HeadingFrom start p (with_body a locals body) q.0 q.1

  pub data Waits : List Specified → List (HeadingText × Clauses) → Type 0 where
    none_waits : Waits [] []
    one_waits : (a : Specified) (q : HeadingText × Clauses) (others : List Specified) (qs : List (HeadingText × Clauses)) → WaitsAs a q
        → Waits others qs → Waits (a ∷ others) (q ∷ qs)

  waits_last : (hs : List Specified) (qs : List (HeadingText × Clauses)) (a : Specified) (q : HeadingText × Clauses) → Waits hs qs
      → WaitsAs a q → Waits (hs ++ a ∷ []) (qs ++ q ∷ [])
  waits_last [] [] a q none_waits h = one_waits a q [] [] h none_waits
  waits_last (b ∷ hs) (r ∷ qs) a q (one_waits c s us vs g rest) h = one_waits b r (hs ++ a ∷ []) (qs ++ q ∷ []) g
      (waits_last hs qs a q rest h)
  waits_last [] (r ∷ qs) a q g h = elim g [ ]
  waits_last (b ∷ hs) [] a q g h = elim g [ ]

  pub data FoundWaits (x : Symbol) : Option Specified → Option (HeadingText × Clauses) → Type 0 where
    none_found : FoundWaits x None None
    one_found : (a : Specified) (q : HeadingText × Clauses) → a.heading.name ≡ x → WaitsAs a q → FoundWaits x (Some a) (Some q)

  waits_found : (hs : List Specified) (qs : List (HeadingText × Clauses)) (x : Symbol) → Waits hs qs
      → FoundWaits x (awaited_of hs x) (announced_as qs x)
  waits_found [] [] x none_waits = none_found
  waits_found (a ∷ hs) (q ∷ qs) x (one_waits b r us vs g rest) =
      subst (λ y. FoundWaits x (cond (same_name a.heading.name x) (Some a) (awaited_of hs x))
      (cond (same_name y x) (Some q) (announced_as qs x)))
      g.name_is (by_case (same_name a.heading.name x) refl (waits_found hs qs x rest))
    where
      by_case : (c : Bool) → same_name a.heading.name x ≡ c → FoundWaits x (awaited_of hs x) (announced_as qs x)
          → FoundWaits x (cond c (Some a) (awaited_of hs x)) (cond c (Some q) (announced_as qs x))
      by_case true e h = one_found a q (same_name-true a.heading.name x e) g
      by_case false e h = h
  waits_found [] (q ∷ qs) x h = elim h [ ]
  waits_found (a ∷ hs) [] x h = elim h [ ]

  waits_without : (hs : List Specified) (qs : List (HeadingText × Clauses)) (x : Symbol) → Waits hs qs
      → Waits (without hs x) (origin.without qs x)
  waits_without [] [] x none_waits = none_waits
  waits_without (a ∷ hs) (q ∷ qs) x (one_waits b r us vs g rest) =
      subst (λ y. Waits (cond (not (same_name a.heading.name x)) (a ∷ without hs x) (without hs x))
      (cond (not (same_name y x)) (q ∷ origin.without qs x) (origin.without qs x))) g.name_is
      (by_case (not (same_name a.heading.name x)) (waits_without hs qs x rest))
    where
      by_case : (c : Bool) → Waits (without hs x) (origin.without qs x)
          → Waits (cond c (a ∷ without hs x) (without hs x)) (cond c (q ∷ origin.without qs x) (origin.without qs x))
      by_case true h = one_waits a q (without hs x) (origin.without qs x) g h
      by_case false h = h
  waits_without [] (q ∷ qs) x h = elim h [ ]
  waits_without (a ∷ hs) [] x h = elim h [ ]

-- ---- headings and bodies

pub data AwaitedAt (next : Known) (names : List Symbol) (h : Heading) : Type 0 where
  has_body : is_among names h.name ≡ true → AwaitedAt next names h
  still_waits : (a : Specified) → In next.awaited a → a.heading ≡ h → AwaitedAt next names h

pub data HeadingAt (k next : Known) (names : List Symbol) (h : Heading) : Type 0 where
  before : In k.headings h → HeadingAt k next names h
  behind : AwaitedAt next names h → HeadingAt k next names h

or_true : (b : Bool) → (b || true) ≡ true
or_true true = refl
or_true false = refl

either_true : (b c : Bool) → (b || false) ≡ true → (b || c) ≡ true
either_true true c e = refl
either_true false c e = absurd (false≢true e)

one_name_more : (next : Known) (names : List Symbol) (x : Symbol) (h : Heading) → AwaitedAt next names h → AwaitedAt next (x ∷ names) h
one_name_more next names x h (has_body e) = has_body (ap (λ b. same_name h.name x || b) e ∙ or_true (same_name h.name x))
one_name_more next names x h (still_waits a i e) = still_waits a i e

own_body : (next : Known) (names : List Symbol) (x : Symbol) (h : Heading) → h.name ≡ x → AwaitedAt next (x ∷ names) h
own_body next names x h e = has_body (ap (λ y. same_name y x || is_among names y) e ∙ ap (λ b. b || is_among names x) (same_name-refl x))

-- what waits has the name, or waits still
with_or_without : (next : Known) (names : List Symbol) (x : Symbol) (hs : List Specified) (h : Specified) → In hs h
    → (In (without hs x) h → AwaitedAt next (x ∷ names) h.heading) → AwaitedAt next (x ∷ names) h.heading
with_or_without next names x [] h i go = elim i [ ]
with_or_without next names x (a ∷ hs) h (here b us) go = by_case (same_name a.heading.name x) refl go
  where
    by_case : (c : Bool) → same_name a.heading.name x ≡ c
        → (In (cond (not c) (a ∷ without hs x) (without hs x)) a → AwaitedAt next (x ∷ names) a.heading)
        → AwaitedAt next (x ∷ names) a.heading
    by_case true e f = own_body next names x a.heading (same_name-true a.heading.name x e)
    by_case false e f = f (here a (without hs x))
with_or_without next names x (a ∷ hs) h (further b d us i) go = with_or_without next names x hs h i
    (λ j. by_case (not (same_name a.heading.name x)) j go)
  where
    by_case : (c : Bool) → In (without hs x) h → (In (cond c (a ∷ without hs x) (without hs x)) h → AwaitedAt next (x ∷ names) h.heading)
        → AwaitedAt next (x ∷ names) h.heading
    by_case true j f = f (further h a (without hs x) j)
    by_case false j f = f j

-- ---- the routines in a row

abbrev begun_at : Headed → Local → Progress
begun_at headed local = record { known = local.known; begun = Some (record { specified = headed.specified; local = local }) }

-- a routine that was announced, with its names
abbrev headed_again : Known → Specified → Headed
headed_again k first = record { specified = first; own = walk.heading_names (with_awaited k (without k.awaited first.heading.name)) first }

module _ (start : KnownNames) (bodies : List Symbol) where
  abbrev at_rest : Known → Progress
  at_rest k = record { known = k; begun = None }

  abbrev ReadyHere : Known → Type 0
  ReadyHere k = Ready start bodies k

  pub record MarksDone (k : Known) (marks : List RoutineMark) (next : Known) : Type 0 where
    pub ready : ReadyHere next
    pub later : Later k next
    pub routines : List Routine
    pub routines_are : k.program.routines ++ routines ≡ next.program.routines
    pub names_are : map (λ (r : Routine). r.name) routines ≡ names_of_bodies marks
    -- what has a heading has a body, or waits for it
    pub headings_covered : (h : Heading) → In next.headings h → HeadingAt k next (names_of_bodies marks) h
    pub awaited_covered : (h : Specified) → In k.awaited h → AwaitedAt next (names_of_bodies marks) h.heading
    pub from : (p : Program) → KnowsNames k start p → Keeps next.program.forms p.forms → map (λ (r : Routine). r.name) p.routines ≡ bodies
        → AllAmong bodies next → (waiting : List (HeadingText × Clauses)) → Waits start p k.awaited waiting → next.awaited ≡ []
        → RoutinesFrom start p waiting marks routines

  -- what is known with one heading more
  abbrev with_awaited_too : Known → Specified → Known
  with_awaited_too k a = with_awaited (with_heading k a.heading) ((with_heading k a.heading).awaited ++ a ∷ [])

  plain_knows : (k : Known) → ReadyHere k → KnowsNames k start k.program
  plain_knows k ready = record { start_is = ready.starts; constants_are = refl; types_are = refl; variables_are = refl; symbols_are = refl }

  record HeadingDone (k : Known) (h : HeadingText) (c : Clauses) (headed : Headed) : Type 0 where
    pub read : form_walk k (number_of bodies (heading_name h.form).symbol) h.line c h.form ≡ Ok headed
    pub name_is : headed.specified.heading.name ≡ name_of h.form
    pub kind_is : headed.specified.heading.is_function ≡ is_function_form h.form
    pub ready : ReadyHere (with_heading k headed.specified.heading)
    pub own : OwnAs headed.own (parameter_names headed.specified.heading.formals ++ start_names headed.specified.initial)

  heading_done : (k : Known) (h : HeadingText) (c : Clauses) (headed : Headed) → ReadyHere k → first_heading bodies k h c ≡ Ok headed
      → HeadingDone k h c headed
  heading_done k h c headed ready e =
      let number = number_of bodies (heading_name h.form).symbol in
      let read = behind_test (is_free_for_call k (heading_name h.form).symbol) (twice (heading_name h.form))
      (form_walk k number h.line c h.form) headed e in
      let f = heading_come start k.program k (plain_knows k ready) number h.line c h.form headed read in
      let a = headed.specified.heading in
      let numbered : number_of bodies a.name ≡ a.number = ap (number_of bodies) (f.name_is ∙ name_same h.form) ∙ sym f.number_is in
      record {
        read = read;
        name_is = f.name_is;
        kind_is = f.kind_is;
        ready = record {
          starts = ready.starts;
          right = ready.right;
          first = ready.first;
          there = ready.there;
          numbers = λ g i. in_last (λ (q : Heading). number_of bodies q.name ≡ q.number) k.headings a g ready.numbers numbered i;
          plain = λ g t i. in_last (λ (q : Heading). q.result ≡ Some t → may_be_result (form_at k.program.forms t.0) ≡ true) k.headings a
              g (λ q j. ready.plain q t j) (f.plain t) i;
        };
        own = f.own;
      }

  waits_as : (p : Program) (k : Known) (h : HeadingText) (c : Clauses) (headed : Headed) → KnowsNames k start p → HeadingDone k h c headed
      → WaitsAs start p headed.specified (h, c)
  waits_as p k h c headed knows d =
      let f = heading_come start p k knows (number_of bodies (heading_name h.form).symbol) h.line c h.form headed d.read in
      record { name_is = f.name_is; kind_is = f.kind_is; from = f.from }

  later_heading : (k : Known) (a : Heading) (awaited : List Specified) → Later k (with_awaited (with_heading k a) awaited)
  later_heading k a awaited = record {
    keeps = (later_same k).keeps;
    constants_are = refl;
    types_are = refl;
    variables_are = refl;
    symbols_are = refl;
    start_is = refl;
    headings_stay = λ h i. in_before k.headings (a ∷ []) h i;
  }

  ready_awaited : (k : Known) (awaited : List Specified) → ReadyHere k → ReadyHere (with_awaited k awaited)
  ready_awaited k awaited ready = record {
    starts = ready.starts;
    right = ready.right;
    first = ready.first;
    there = ready.there;
    numbers = ready.numbers;
    plain = ready.plain;
  }

  -- ---- an announced routine

  none_announced : (p : Program) (k : Known) (h : HeadingText) (waiting : List (HeadingText × Clauses)) → Waits start p k.awaited waiting
      → awaited_of k.awaited (heading_name h.form).symbol ≡ None → announced_as waiting (name_of h.form) ≡ None
  none_announced p k h waiting w e = by_found (awaited_of k.awaited (heading_name h.form).symbol)
      (announced_as waiting (heading_name h.form).symbol) e refl (waits_found start p k.awaited waiting (heading_name h.form).symbol w)
    where
      by_found : (a : Option Specified) (b : Option (HeadingText × Clauses)) → a ≡ None
          → announced_as waiting (heading_name h.form).symbol ≡ b → FoundWaits start p (heading_name h.form).symbol a b
          → announced_as waiting (name_of h.form) ≡ None
      by_found None None f g none_found = ap (announced_as waiting) (name_same h.form) ∙ g
      by_found (Some a) (Some q) f g (one_found b r n u) = absurd (nothing_there (sym f))
      by_found None (Some q) f g x = elim x [ ]
      by_found (Some a) None f g x = elim x [ ]

  announced_covered : {k next : Known} {a g : Heading} {awaited : List Specified} {names : List Symbol}
      → HeadingAt (with_awaited (with_heading k a) awaited) next names g → AwaitedAt next names a → HeadingAt k next names g
  announced_covered {k} {next} {a} {g} {awaited} {names} (before i) h = in_last (λ q. HeadingAt k next names q) k.headings a g
      (λ q j. before j) (behind h) i
  announced_covered {k} {next} {a} {g} {awaited} {names} (behind j) h = behind j

  announced_done : (k : Known) (h : HeadingText) (c : Clauses) (marks : List RoutineMark) (headed : Headed) (next : Known) → ReadyHere k
      → awaited_of k.awaited (heading_name h.form).symbol ≡ None → HeadingDone k h c headed
      → MarksDone (with_awaited_too k headed.specified) marks next → MarksDone k (Announced h c ∷ marks) next
  announced_done k h c marks headed next ready none d rest =
      let a = headed.specified in
      let mid = with_awaited_too k a in
      let later = later_heading k a.heading (k.awaited ++ a ∷ []) in
      record {
        ready = rest.ready;
        later = later_on k mid next later rest.later;
        routines = rest.routines;
        routines_are = rest.routines_are;
        names_are = rest.names_are;
        headings_covered = λ g i. announced_covered (rest.headings_covered g i) (rest.awaited_covered a (in_end k.awaited a));
        awaited_covered = λ g i. rest.awaited_covered g (in_before k.awaited (a ∷ []) g i);
        from = λ p knows keeps names_are all waiting w done.
            origin.announced (none_announced p k h waiting w none)
            (rest.from p (knows_later start p k mid later knows) keeps names_are all (waiting ++ (h, c) ∷ [])
            (waits_last start p k.awaited waiting a (h, c) w (waits_as p k h c headed knows d)) done);
      }

  -- ---- a routine with its body

  -- a routine whose body was read, from a heading that was read here or before
  record RoutineDone (k : Known) (h : HeadingText) (c : Clauses) (l : Locals) (b : tree.Block) (next : Known) : Type 0 where
    pub routine : Routine
    pub ready : ReadyHere next
    pub later : Later k next
    pub routines_are : k.program.routines ++ routine ∷ [] ≡ next.program.routines
    pub headings_covered : (g : Heading) → In next.headings g → HeadingAt k next ((heading_name h.form).symbol ∷ []) g
    pub awaited_covered : (g : Specified) → In k.awaited g → AwaitedAt next ((heading_name h.form).symbol ∷ []) g.heading
    pub name_is : routine.name ≡ (heading_name h.form).symbol
    pub from : (p : Program) → KnowsNames k start p → Keeps next.program.forms p.forms → map (λ (r : Routine). r.name) p.routines ≡ bodies
        → AllAmong bodies next → (waiting : List (HeadingText × Clauses)) → Waits start p k.awaited waiting
        → (marks : List RoutineMark) (rs : List Routine) → ((waiting : List (HeadingText × Clauses)) → Waits start p next.awaited waiting
        → RoutinesFrom start p waiting marks rs) → RoutinesFrom start p waiting (Begins h c l ∷ Ends b ∷ marks) (routine ∷ rs)

  awaits_on : (mid next : Known) (x : Symbol) (names : List Symbol) (g : Heading) → AwaitedAt mid (x ∷ []) g
      → ((q : Specified) → In mid.awaited q → AwaitedAt next names q.heading) → AwaitedAt next (x ∷ names) g
  awaits_on mid next x names g (has_body e) rest = has_body (either_true (same_name g.name x) (is_among names g.name) e)
  awaits_on mid next x names g (still_waits a i same) rest = one_name_more next names x g (subst (AwaitedAt next names) same (rest a i))

  routine_covered : (k mid next : Known) (x : Symbol) (names : List Symbol) (g : Heading) → HeadingAt mid next names g
      → ((q : Heading) → In mid.headings q → HeadingAt k mid (x ∷ []) q)
      → ((q : Specified) → In mid.awaited q → AwaitedAt next names q.heading)
      → HeadingAt k next (x ∷ names) g
  routine_covered k mid next x names g (behind j) first rest = behind (one_name_more next names x g j)
  routine_covered k mid next x names g (before i) first rest = by_first (first g i)
    where
      by_first : HeadingAt k mid (x ∷ []) g → HeadingAt k next (x ∷ names) g
      by_first (before j) = before j
      by_first (behind j) = behind (awaits_on mid next x names g j rest)

  routine_done : (k : Known) (h : HeadingText) (c : Clauses) (l : Locals) (b : tree.Block) (marks : List RoutineMark) (mid next : Known)
      → RoutineDone k h c l b mid → MarksDone mid marks next → MarksDone k (Begins h c l ∷ Ends b ∷ marks) next
  routine_done k h c l b marks mid next one rest = record {
    ready = rest.ready;
    later = later_on k mid next one.later rest.later;
    routines = one.routine ∷ rest.routines;
    routines_are = sym (append_assoc k.program.routines (one.routine ∷ []) rest.routines)
        ∙ (ap (λ q. q ++ rest.routines) one.routines_are ∙ rest.routines_are);
    names_are = ap (λ x. x ∷ map (λ (r : Routine). r.name) rest.routines) one.name_is ∙ ap (λ ns. (heading_name h.form).symbol ∷ ns)
        rest.names_are;
    headings_covered = λ g i. routine_covered k mid next (heading_name h.form).symbol (names_of_bodies marks) g
        (rest.headings_covered g i) one.headings_covered rest.awaited_covered;
    awaited_covered = λ g i. awaits_on mid next (heading_name h.form).symbol (names_of_bodies marks) g.heading (one.awaited_covered g i)
        rest.awaited_covered;
    from = λ p knows keeps names_are all waiting w done.
        one.from p knows (keeps_on mid.program.forms next.program.forms p.forms (rest.later).keeps keeps) names_are
        (among_before bodies mid next rest.later all) waiting w marks rest.routines
        (λ others v. rest.from p (knows_later start p k mid one.later knows) keeps names_are all others v done);
  }

  -- the body of a routine that has begun, and the marks behind it
  record BegunAs (k : Known) (l : Locals) (b : tree.Block) (headed : Headed) (marks : List RoutineMark) (at : Progress) : Type 0 where
    pub local : Local
    pub body : Statement
    pub locals_are : locals_walk k headed l ≡ Ok local
    pub body_is : block_walk (body_setting headed.specified.heading local) b ≡ Ok body
    pub rest : each (mark_walk bodies) (at_rest (known_behind start bodies headed local body)) marks ≡ Ok at

  begun_as : (k : Known) (l : Locals) (b : tree.Block) (headed : Headed) (marks : List RoutineMark) (mid at : Progress)
      → begun_of k headed l ≡ Ok mid → each (mark_walk bodies) mid (Ends b ∷ marks) ≡ Ok at → BegunAs k l b headed marks at
  begun_as k l b headed marks mid at e f =
      let one = went (locals_walk k headed l) (λ local. fine (begun_at headed local)) mid e in
      let g = ap (λ q. each (mark_walk bodies) q (Ends b ∷ marks)) (same_value one.rest) ∙ f in
      let behind = λ (body : Statement). at_rest (known_behind start bodies headed one.value body) in
      let two = went (after (block_walk (body_setting headed.specified.heading one.value) b) (λ body. fine (behind body)))
      (λ next. each (mark_walk bodies) next marks) at g in
      let three = went (block_walk (body_setting headed.specified.heading one.value) b) (λ body. fine (behind body)) two.value two.first in
      record {
        local = one.value;
        body = three.value;
        locals_are = one.first;
        body_is = three.first;
        rest = ap
            (λ q. each (mark_walk bodies) q marks) (same_value three.rest) ∙ two.rest;
      }

  -- a routine that was not announced
  whole_done : (k : Known) (h : HeadingText) (c : Clauses) (l : Locals) (b : tree.Block) (headed : Headed) (local : Local)
      (body : Statement) → ReadyHere k → awaited_of k.awaited (heading_name h.form).symbol ≡ None → HeadingDone k h c headed
      → locals_walk (with_heading k headed.specified.heading) headed l ≡ Ok local
      → block_walk (body_setting headed.specified.heading local) b ≡ Ok body
      → RoutineDone k h c l b (known_behind start bodies headed local body)
  whole_done k h c l b headed local body ready none d e f =
      let k1 = with_heading k headed.specified.heading in
      let r = routine_of start bodies headed local body in
      let done = body_done start bodies k1 headed l b local body d.ready d.own e f in
      let next = known_behind start bodies headed local body in
      record {
        routine = r;
        ready = done.ready;
        later = record {
          keeps = (done.later).keeps;
          constants_are = (done.later).constants_are;
          types_are = (done.later).types_are;
          variables_are = (done.later).variables_are;
          symbols_are = (done.later).symbols_are;
          start_is = (done.later).start_is;
          headings_stay = λ g i. (done.later).headings_stay g (in_before k.headings (headed.specified.heading ∷ []) g i);
        };
        routines_are = done.routines_are;
        name_is = d.name_is ∙ name_same h.form;
        headings_covered = λ g i. in_last (λ q. HeadingAt k next ((heading_name h.form).symbol ∷ []) q) k.headings
            headed.specified.heading g (λ q j. before j)
            (behind (own_body next [] (heading_name h.form).symbol headed.specified.heading (d.name_is ∙ name_same h.form)))
            (subst (λ hs. In hs g) done.headings_are i);
        awaited_covered = λ g i. still_waits g (subst (λ hs. In hs g) (sym done.awaited_are) i) refl;
        from = λ p knows keeps names_are all waiting w marks rs go.
            let knows1 : KnowsNames k1 start p = record {
              start_is = knows.start_is;
              constants_are = knows.constants_are;
              types_are = knows.types_are;
              variables_are = knows.variables_are;
              symbols_are = knows.symbols_are;
            } in
            origin.whole (none_announced p k h waiting w none) ((waits_as p k h c headed knows d).from local.variables body)
            (done.from p knows1 keeps names_are (among_before bodies k1 next done.later all))
            (go waiting (subst (λ hs. Waits start p hs waiting) (sym done.awaited_are) w));
      }

  awaited_name : (hs : List Specified) (x : Symbol) (a : Specified) → awaited_of hs x ≡ Some a → a.heading.name ≡ x
  awaited_name [] x a e = absurd (nothing_there e)
  awaited_name (b ∷ hs) x a e = by_case (same_name b.heading.name x) refl e (awaited_name hs x a)
    where
      by_case : (c : Bool) → same_name b.heading.name x ≡ c → cond c (Some b) (awaited_of hs x) ≡ Some a
          → (awaited_of hs x ≡ Some a → a.heading.name ≡ x)
          → a.heading.name ≡ x
      by_case true k f go = ap (λ (q : Specified). q.heading.name) (sym (some_is f)) ∙ same_name-true b.heading.name x k
      by_case false k f go = go f

  record WaitingFirst (p : Program) (x : Symbol) (waiting : List (HeadingText × Clauses)) (a : Specified) : Type 0 where
    pub first : HeadingText × Clauses
    pub is : announced_as waiting x ≡ Some first
    pub waits : WaitsAs start p a first

  waiting_first : (p : Program) (hs : List Specified) (x : Symbol) (waiting : List (HeadingText × Clauses)) (a : Specified)
      → Waits start p hs waiting → awaited_of hs x ≡ Some a → WaitingFirst p x waiting a
  waiting_first p hs x waiting a w e = by_found (awaited_of hs x) (announced_as waiting x) e refl (waits_found start p hs waiting x w)
    where
      by_found : (b : Option Specified) (q : Option (HeadingText × Clauses)) → b ≡ Some a → announced_as waiting x ≡ q
          → FoundWaits start p x b q → WaitingFirst p x waiting a
      by_found None None f g none_found = absurd (nothing_there f)
      by_found (Some b) (Some q) f g (one_found c r n u) = record
          { first = q; is = g; waits = subst (λ (d : Specified). WaitsAs start p d q) (some_is f) u }
      by_found None (Some q) f g y = elim y [ ]
      by_found (Some b) None f g y = elim y [ ]

  -- one that was
  again_done : (k : Known) (h : HeadingText) (c : Clauses) (l : Locals) (b : tree.Block) (first : Specified) (local : Local)
      (body : Statement) → ReadyHere k → awaited_of k.awaited (heading_name h.form).symbol ≡ Some first
      → (is_bare_form first.heading.is_function h.form && is_bare c) ≡ true
      → locals_walk (with_awaited k (without k.awaited first.heading.name)) (headed_again k first) l ≡ Ok local
      → block_walk (body_setting first.heading local) b ≡ Ok body
      → RoutineDone k h c l b (known_behind start bodies (headed_again k first) local body)
  again_done k h c l b first local body ready awaits bare e f =
      let x = (heading_name h.form).symbol in
      let k1 = with_awaited k (without k.awaited first.heading.name) in
      let headed = headed_again k first in
      let r = routine_of start bodies headed local body in
      let done = body_done start bodies k1 headed l b local body (ready_awaited k (without k.awaited first.heading.name) ready)
      (heading_own k1 first) e f in
      let named : first.heading.name ≡ x = awaited_name k.awaited x first awaits in
      let next = known_behind start bodies (headed_again k first) local body in
      let named_of : first.heading.name ≡ name_of h.form = named ∙ sym (name_same h.form) in
      record {
        routine = r;
        ready = done.ready;
        later = record {
          keeps = (done.later).keeps;
          constants_are = (done.later).constants_are;
          types_are = (done.later).types_are;
          variables_are = (done.later).variables_are;
          symbols_are = (done.later).symbols_are;
          start_is = (done.later).start_is;
          headings_stay = (done.later).headings_stay;
        };
        routines_are = done.routines_are;
        name_is = named;
        headings_covered = λ g i. before (subst (λ hs. In hs g) done.headings_are i);
        awaited_covered = λ g i. with_or_without next [] x k.awaited g i
            (λ j. still_waits g
            (subst (λ hs. In hs g) (sym done.awaited_are) (subst (λ y. In (without k.awaited y) g) (sym named) j)) refl);
        from = λ p knows keeps names_are all waiting w marks rs go.
            let knows1 : KnowsNames k1 start p = record {
              start_is = knows.start_is;
              constants_are = knows.constants_are;
              types_are = knows.types_are;
              variables_are = knows.variables_are;
              symbols_are = knows.symbols_are;
            } in
            let q = waiting_first p k.awaited x waiting first w awaits in
            let at : announced_as waiting (name_of h.form) ≡ Some q.first = ap (announced_as waiting) (name_same h.form) ∙ q.is in
            let same : repeats q.first.0.form h.form c ≡ true = repeated q.first.0.form h.form c
            (ap (λ z. is_bare_form z h.form && is_bare c) (sym (q.waits).kind_is) ∙ bare) in
            let left = subst (λ y. Waits start p (without k.awaited y) (origin.without waiting (name_of h.form))) (sym named_of)
            (waits_without start p k.awaited waiting (name_of h.form) w) in
            origin.with_body at same ((q.waits).from local.variables body)
            (done.from p knows1 keeps names_are (among_before bodies k1 next done.later all))
            (go (origin.without waiting (name_of h.form)) (subst (λ hs. Waits start p hs (origin.without waiting (name_of h.form)))
            (sym done.awaited_are) left));
      }

  -- ---- the marks in a row

  begins_done : (k : Known) (h : HeadingText) (c : Clauses) (l : Locals) (b : tree.Block) (marks : List RoutineMark) (mid at : Progress)
      (o : Option Specified) → ReadyHere k → awaited_of k.awaited (heading_name h.form).symbol ≡ o → begin bodies k h c l o ≡ Ok mid
      → each (mark_walk bodies) mid (Ends b ∷ marks) ≡ Ok at
      → ((next : Known) → ReadyHere next → each (mark_walk bodies) (at_rest next) marks ≡ Ok at → MarksDone next marks at.known)
      → MarksDone k (Begins h c l ∷ Ends b ∷ marks) at.known
  begins_done k h c l b marks mid at None ready awaits e f go =
      let one = went (first_heading bodies k h c) (λ headed. begun_of (with_heading k headed.specified.heading) headed l) mid e in
      let d = heading_done k h c one.value ready one.first in
      let u = begun_as (with_heading k (one.value).specified.heading) l b one.value marks mid at one.rest f in
      let r = whole_done k h c l b one.value u.local u.body ready awaits d u.locals_are u.body_is in
      let next = known_behind start bodies one.value u.local u.body in
      routine_done k h c l b marks next at.known r (go next r.ready u.rest)
  begins_done k h c l b marks mid at (Some first) ready awaits e f go =
      let k1 = with_awaited k (without k.awaited first.heading.name) in
      let bare = held (is_bare_form first.heading.is_function h.form && is_bare c) (twice_at h)
      (begun_of k1 (headed_again k first) l) mid e in
      let next_walk = behind_test (is_bare_form first.heading.is_function h.form && is_bare c) (twice_at h)
      (begun_of k1 (headed_again k first) l) mid e in
      let u = begun_as k1 l b (headed_again k first) marks mid at next_walk f in
      let r = again_done k h c l b first u.local u.body ready awaits bare u.locals_are u.body_is in
      let next = known_behind start bodies (headed_again k first) u.local u.body in
      routine_done k h c l b marks next at.known r (go next r.ready u.rest)

  announces_done : (k : Known) (h : HeadingText) (c : Clauses) (marks : List RoutineMark) (mid at : Progress) (o : Option Specified)
      → ReadyHere k → awaited_of k.awaited (heading_name h.form).symbol ≡ o → announce bodies k h c o ≡ Ok mid
      → each (mark_walk bodies) mid marks ≡ Ok at → ((next : Known) → ReadyHere next → each (mark_walk bodies) (at_rest next) marks ≡ Ok
      at → MarksDone next marks at.known) → MarksDone k (Announced h c ∷ marks) at.known
  announces_done k h c marks mid at (Some first) ready awaits e f go = absurd (no_fault e)
  announces_done k h c marks mid at None ready awaits e f go =
      let one = went (first_heading bodies k h c) (λ headed. fine (at_rest (with_awaited_too k headed.specified))) mid e in
      let d = heading_done k h c one.value ready one.first in
      let next = with_awaited_too k (one.value).specified in
      announced_done k h c marks one.value at.known ready awaits d
      (go next (ready_awaited (with_heading k (one.value).specified.heading)
      ((with_heading k (one.value).specified.heading).awaited ++ (one.value).specified ∷ []) d.ready)
      (ap (λ q. each (mark_walk bodies) q marks) (same_value one.rest) ∙ f))

  record HasBegun (mid : Progress) : Type 0 where
    pub begun : Begun
    pub is : mid.begun ≡ Some begun

  begun_is : (k : Known) (headed : Headed) (l : Locals) (mid : Progress) → begun_of k headed l ≡ Ok mid → HasBegun mid
  begun_is k headed l mid e =
      let one = went (locals_walk k headed l) (λ local. fine (begun_at headed local)) mid e in
      record {
        begun = record { specified = headed.specified; local = one.value };
        is = ap (λ (q : Progress). q.begun)
            (sym (same_value one.rest));
      }

  has_begun : (k : Known) (h : HeadingText) (c : Clauses) (l : Locals) (mid : Progress) (o : Option Specified)
      → begin bodies k h c l o ≡ Ok mid → HasBegun mid
  has_begun k h c l mid None e =
      let one = went (first_heading bodies k h c) (λ headed. begun_of (with_heading k headed.specified.heading) headed l) mid e in
      begun_is (with_heading k (one.value).specified.heading) one.value l mid one.rest
  has_begun k h c l mid (Some first) e =
      begun_is (with_awaited k (without k.awaited first.heading.name)) (headed_again k first) l mid
      (behind_test (is_bare_form first.heading.is_function h.form && is_bare c) (twice_at h)
      (begun_of (with_awaited k (without k.awaited first.heading.name)) (headed_again k first) l) mid e)

  no_inner : (o : Option Begun) (b : Begun) (h : HeadingText) (next : Outcome Progress) (z : Progress) → o ≡ Some b
      → unless_begun o h next ≡ Ok z → ⊥
  no_inner None b h next z k e = nothing_there k
  no_inner (Some d) b h next z k e = no_fault e

  none_left : (p : Program) (hs : List Specified) (waiting : List (HeadingText × Clauses)) → Waits start p hs waiting → hs ≡ []
      → RoutinesFrom start p waiting [] []
  none_left p [] [] none_waits e = origin.no_routines
  none_left p [] (q ∷ qs) w e = elim w [ ]
  none_left p (a ∷ hs) qs w e = absurd (cc (e))

  -- nothing but an end stands behind a routine that has begun
  pub marks_done : (marks : List RoutineMark) (k : Known) (at : Progress) → ReadyHere k → routines_ok 0 marks ≡ true
      → each (mark_walk bodies) (at_rest k) marks ≡ Ok at → MarksDone k marks at.known
  marks_done [] k at ready nested e =
      subst (λ (q : Progress). MarksDone k [] q.known) (same_value e)
      (record {
        ready = ready;
        later = later_same k;
        routines = [];
        routines_are = append-nil k.program.routines;
        names_are = refl;
        headings_covered = λ g i. before i;
        awaited_covered = λ g i. still_waits g i refl;
        from = λ p knows keeps names_are all waiting w done.
            none_left p k.awaited waiting w done;
      })
  marks_done (Announced h c ∷ marks) k at ready nested e =
      let one = went (mark_walk bodies (at_rest k) (Announced h c)) (λ next. each (mark_walk bodies) next marks) at e in
      announces_done k h c marks one.value at (awaited_of k.awaited (heading_name h.form).symbol) ready refl one.first one.rest
      (λ next r f. marks_done marks next at r nested f)
  marks_done (Begins h c l ∷ []) k at ready nested e = absurd (false≢true nested)
  marks_done (Begins h c l ∷ Ends b ∷ marks) k at ready nested e =
      let one = went (mark_walk bodies (at_rest k) (Begins h c l)) (λ next. each (mark_walk bodies) next (Ends b ∷ marks)) at e in
      begins_done k h c l b marks one.value at (awaited_of k.awaited (heading_name h.form).symbol) ready refl one.first one.rest
      (λ next r f. marks_done marks next at r (right_true (block_ok b) (routines_ok 0 marks) nested) f)
  marks_done (Begins h c l ∷ Announced g d ∷ marks) k at ready nested e =
      let one = went (mark_walk bodies (at_rest k) (Begins h c l)) (λ next. each (mark_walk bodies) next (Announced g d ∷ marks)) at e in
      let b = has_begun k h c l one.value (awaited_of k.awaited (heading_name h.form).symbol) one.first in
      let two = went (mark_walk bodies one.value (Announced g d)) (λ next. each (mark_walk bodies) next marks) at one.rest in
      absurd (no_inner (one.value).begun b.begun g (announce bodies (one.value).known g d (awaited_of (one.value).known.awaited
      (heading_name g.form).symbol)) two.value b.is two.first)
  marks_done (Begins h c l ∷ Begins g d m ∷ marks) k at ready nested e =
      let one = went (mark_walk bodies (at_rest k) (Begins h c l)) (λ next. each (mark_walk bodies) next (Begins g d m ∷ marks)) at e in
      let b = has_begun k h c l one.value (awaited_of k.awaited (heading_name h.form).symbol) one.first in
      let two = went (mark_walk bodies one.value (Begins g d m)) (λ next. each (mark_walk bodies) next marks) at one.rest in
      absurd (no_inner (one.value).begun b.begun g (begin bodies (one.value).known g d m (awaited_of (one.value).known.awaited
      (heading_name g.form).symbol)) two.value b.is two.first)
  marks_done (Ends b ∷ marks) k at ready nested e = absurd (false≢true nested)
