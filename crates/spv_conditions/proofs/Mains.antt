-- The conditions of the main block, and of all routines and the main block one after the other.
use Rattle.std.proofs.Common.{◌≡◌, ◌<◌, ◌≤◌, arith, drop, get_or, ℕ, ◌+◌, suc, true, List, [], ◌∷◌, ◌++◌, map, length, Option, None, option_map, Ok, Err, IfOk, IfErr, IsErrAnd, refl, sym, ap, subst, ◌∙◌}
use Rattle.std.proofs.lemmas.List.{append_assoc, drop_all, drop_more, length-append}
use Rattle.spv_logic.proofs.list.Tests.{left_true, right_true}
use Rattle.spv_logic.specs.declared.conditions.TermId.{TermId}
use Rattle.spv_logic.specs.declared.conditions.Kind.TheVariants as kind
use Rattle.spv_logic.specs.declared.conditions.RoutineId.{RoutineId}
use Rattle.spv_logic.specs.Conditions as logic
use Rattle.spv_term.specs.declared.nodes.Condition.{Condition}
use Rattle.spv_term.specs.Arena.{Arena, Extends, IsArena, tree}
use Rattle.spv_term.proofs.ArenaLemmas.{Extends-refl, Extends-trans}
use Rattle.spv_program.specs.declared.typed.programs.Routine.{Routine as RoutineText}
use Rattle.spv_program.specs.typed.ProgramViews.{routine_of}
use Rattle.spv_program.specs.Formulas.{Annotation}
use Rattle.spv_program.specs.FormulaTypes.{annotation_ok}
use Rattle.spv_program.specs.Programs.{Routine, Program, routine_in}
use Rattle.spv_program.specs.Scopes.{body_scope}
use Rattle.spv_program.specs.Statements.{Statement}
use Rattle.spv_program.specs.Supplies.{Supply, full_supply}
use Rattle.spv_program.specs.Typing.{statement_ok, well_typed}
use Rattle.spv_expression_terms.specs.makeable_terms.Laws.{heading_ok_in}
use Rattle.spv_meaning.specs.Before.{Made, annotation_term, assuming_if_there, before, wanted_if_there}
use Rattle.spv_meaning.specs.ProgramConditions.{conditions_from, routine_conditions}
use Rattle.spv_assign.specs.declared.pending.pending.Pending.{Pending}
use Rattle.spv_assign.specs.Conditions.{AreIn, conditions_of}
use Rattle.spv_assign.specs.supply.Numbers.{AreThere}
use Rattle.spv_assign.proofs.supply.FreshLemmas.{AreThere-Extends}
use Rattle.spv_assign.specs.declared.creation_trace.faults.GenFault.{GenFault}
use Rattle.spv_assign.specs.declared.creation_trace.faults.GenFault.TheVariants as fault
use Rattle.spv_assign.specs.creation_trace.Events.{Answers, Event, Stops, Walked}
use Rattle.spv_assign.specs.creation_trace.StatementEvents.{counted, in_order, one_if_there}
use Rattle.spv_assign.proofs.creation_trace.Walks.{answered_behind, stopped_first}
use Rattle.spv_flow_parts.specs.declared.bodies.Body.{Body}
use Rattle.spv_flow_parts.specs.Standing.{AreNotes, IsBody, Stands}
use Rattle.spv_flow_parts.specs.Walks.{AreThese, Comes, ComesTo, IsNoted, IsThere, Listed, made_of}
use Rattle.spv_flow_parts.specs.calls.Arguments.{IsOver, MayMake}
use Rattle.spv_flow_parts.proofs.Conditions.{joined_comes, long_conditions}
use Rattle.spv_flow_parts.proofs.LoopLemmas.{note_there, note_term}
use Rattle.spv_flow_parts.proofs.Steps.{AreThese-Extends, comes_never, comes_not}
use Rattle.spv_conditions.specs.Making.{after_main, after_routine, all_made, behind_main, empty_arena, events, events_from, inside_main, last_main, main_events, main_made, one_routine, program_events, supply_from, IsLimit}
use Rattle.spv_conditions.specs.Steps.{MayBegin}
use Rattle.spv_conditions.proofs.Chains.{comes_first, comes_stopped, comes_then, made_is}
use Rattle.spv_conditions.proofs.Entering.{known_under, over_then, right_declarations, right_main}

-- ---- what is right

pub main_stands : (p : Program) (b : Body) (a : Arena) → IsOver p a → IsBody p b → b.here ≡ None → Stands p b a
main_stands p b a over is here = record {
  body = is;
  shapes = over.shapes_are;
  decls = over.decls_are;
  declarations = right_declarations p over.typed;
  heading = subst (λ (o : Option RoutineId). heading_ok_in p (routine_in p o) ≡ true) (sym here) refl;
}

pub main_may : (p : Program) (b : Body) (a0 a : Arena) (n : Supply) → MayBegin p a0 n → Extends a0 a → IsBody p b → b.here ≡ None → MayMake p b a n
main_may p b a0 a n may more is here = record {
  stands = main_stands p b a (over_then p more may.over) is here;
  typed = may.over.typed;
  there = AreThere-Extends a0 a n more may.there;
}

module _ (p : Program) (typed : well_typed p ≡ true) (here : Option RoutineId) (main : here ≡ None) where
  entry_right : AreNotes p here p.main.entry
  entry_right = subst (λ (o : Option RoutineId). AreNotes p o p.main.entry) (sym main) (left_true (annotation_ok p (body_scope p None) p.main.entry) _ (right_main p typed))

  exit_right : AreNotes p here p.main.exit
  exit_right =
      subst (λ (o : Option RoutineId). AreNotes p o p.main.exit) (sym main)
      (left_true (annotation_ok p (body_scope p None) p.main.exit) _ (right_true (annotation_ok p (body_scope p None) p.main.entry) _ (right_main p typed)))

  block_right : statement_ok p (routine_in p here) p.main.body ≡ true
  block_right =
      subst (λ (o : Option RoutineId). statement_ok p (routine_in p o) p.main.body ≡ true) (sym main)
      (right_true (annotation_ok p (body_scope p None) p.main.exit) _ (right_true (annotation_ok p (body_scope p None) p.main.entry) _ (right_main p typed)))

  -- the same by other names
  pub block_as : (s : Statement) → s ≡ p.main.body → statement_ok p (routine_in p here) s ≡ true
  block_as s e = subst (λ (t : Statement). statement_ok p (routine_in p here) t ≡ true) (sym e) block_right

  pub entry_as : (f : Option Annotation) → f ≡ p.main.entry → AreNotes p here f
  entry_as f e = subst (AreNotes p here) (sym e) entry_right

  pub exit_as : (f : Option Annotation) → f ≡ p.main.exit → AreNotes p here f
  exit_as f e = subst (AreNotes p here) (sym e) exit_right

-- ---- EXIT and ENTRY

module _ (p : Program) (here : Option RoutineId) (main : here ≡ None) (f : Option Annotation) (note : Option TermId) (a b : Arena) (n : Supply) (is : IsNoted b p here note f) (grows : Extends a b)
    (walked : Walked (one_if_there (annotation_term p here f)) a b) (numbers : AreThere a n) where
  walked_here : Walked (one_if_there (annotation_term p None f)) a b
  walked_here = subst (λ (o : Option RoutineId). Walked (one_if_there (annotation_term p o f)) a b) main walked

  noted_here : IsNoted b p None note f
  noted_here = subst (λ (o : Option RoutineId). IsNoted b p o note f) main is

  exit_made : (g : Option Annotation) → f ≡ g → (result : Listed) → IfOk result (λ cs. AreThese b cs.items (wanted_if_there p None kind.Exit f)) → IfErr result (λ e. e ≡ fault.Memory)
      → Comes result (record { conditions = wanted_if_there p None kind.Exit g; supply = n }) (one_if_there (annotation_term p None g)) a b n
  exit_made g e result these memory =
      subst (λ (g : Option Annotation). Comes result (record { conditions = wanted_if_there p None kind.Exit g; supply = n }) (one_if_there (annotation_term p None g)) a b n) e (by result these memory)
    where
      by : (result : Listed) → IfOk result (λ cs. AreThese b cs.items (wanted_if_there p None kind.Exit f)) → IfErr result (λ e. e ≡ fault.Memory)
          → Comes result (record { conditions = wanted_if_there p None kind.Exit f; supply = n }) (one_if_there (annotation_term p None f)) a b n
      by (Ok cs) these memory = record { grows = grows; walk = walked_here; made = record { conditions = these; supply = refl; there = AreThere-Extends a b n grows numbers } }
      by (Err e) these memory = comes_never (record { conditions = wanted_if_there p None kind.Exit f; supply = n }) n (Err e) e (one_if_there (annotation_term p None f)) refl memory grows

  pub exit_wanted_main : (g : Option Annotation) → f ≡ g → (result : Listed) → ((a : Arena) (q : Program) → IsNoted a q None note f → IfOk result (λ cs. AreThese a cs.items (wanted_if_there q None kind.Exit f))) → IfErr result (λ e. e ≡ fault.Memory)
      → Comes result (record { conditions = wanted_if_there p None kind.Exit g; supply = n }) (one_if_there (annotation_term p None g)) a b n
  exit_wanted_main g e result these memory = exit_made g e result (these b p noted_here) memory

  pub under_main : (g : Option Annotation) → f ≡ g → (items : List Condition) (result : Listed) → AreIn a items
      → (IsThere b note → AreIn b items → IfOk result (λ cs. AreThese b cs.items (assuming_if_there (option_map (tree b) note) (conditions_of b items)))) → IfErr result (λ e. e ≡ fault.Memory)
      → Comes result (record { conditions = assuming_if_there (annotation_term p None g) (conditions_of a items); supply = n }) (one_if_there (annotation_term p None g)) a b n
  under_main g e items result within these memory =
      subst (λ (g : Option Annotation). Comes result (record { conditions = assuming_if_there (annotation_term p None g) (conditions_of a items); supply = n }) (one_if_there (annotation_term p None g)) a b n) e
      (known_under (annotation_term p None f) note items result a b n (note_term b p None note f noted_here) (note_there b p None note f noted_here) grows walked_here within numbers these memory)

-- where the note stops
pub note_stops : (p : Program) (here : Option RoutineId) (f g : Option Annotation) (m : Made) (n : Supply) (a b : Arena) (result : Listed) (e : GenFault) → here ≡ None → f ≡ g → IsErrAnd result (λ x. x ≡ e) → Extends a b
    → Stops e (one_if_there (annotation_term p here f)) a b → Comes result m (one_if_there (annotation_term p None g)) a b n
note_stops p here f g m n a b result e main same is grows stops =
    comes_not m n result e (one_if_there (annotation_term p None g)) is grows
    (subst (λ (g : Option Annotation). Stops e (one_if_there (annotation_term p None g)) a b) same
    (subst (λ (o : Option RoutineId). Stops e (one_if_there (annotation_term p o f)) a b) main stops))

-- ---- one after the other

module _ (p : Program) (n : Supply) (a0 a1 : Arena) where
  abbrev exit_term : List Event
  exit_term = one_if_there (annotation_term p None p.main.exit)

  abbrev block : List Event
  block = events p None p.main.body (behind_main p n)

  abbrev inner : Made
  inner = before p None p.main.body (behind_main p n)

  pub inside_main_stops : (result : Listed) (e : GenFault) (m : Supply) → IsErrAnd result (λ f. f ≡ e) → Comes (Err e) (behind_main p n) (one_if_there (annotation_term p None p.main.exit)) a0 a1 n
      → Comes result (before p None p.main.body (behind_main p n)) (in_order (inside_main p n)) a0 a1 m
  inside_main_stops result e m is h = comes_stopped result inner (behind_main p n) m n (exit_term ∷ []) (block ∷ []) e a0 a1 is (comes_first (Err e) (behind_main p n) n exit_term a0 a1 h)

  pub inside_main_comes : (result : Listed) (exit : Pending) (here : Option RoutineId) (s : Statement) (a2 : Arena) (m : Supply) → here ≡ None → s ≡ p.main.body → Comes (Ok exit) (behind_main p n) (one_if_there (annotation_term p None p.main.exit)) a0 a1 n
      → Comes result (before p here s (made_of a1 exit.items n)) (events p here s (made_of a1 exit.items n)) a1 a2 m
      → Comes result (before p None p.main.body (behind_main p n)) (in_order (inside_main p n)) a0 a2 m
  inside_main_comes result exit here s a2 m e is first h =
      comes_then result inner (behind_main p n) m n (exit_term ∷ []) block exit a0 a1 a2 (comes_first (Ok exit) (behind_main p n) n exit_term a0 a1 first)
      (subst (λ (q : Made). Comes result (before p None p.main.body q) (events p None p.main.body q) a1 a2 m) (made_is a1 n exit.items (behind_main p n) first.made)
      (subst (λ (o : Option RoutineId). Comes result (before p o p.main.body (made_of a1 exit.items n)) (events p o p.main.body (made_of a1 exit.items n)) a1 a2 m) e
      (subst (λ (t : Statement). Comes result (before p here t (made_of a1 exit.items n)) (events p here t (made_of a1 exit.items n)) a1 a2 m) is h)))

  pub main_stops : (result : Listed) (e : GenFault) (m k : Supply) → IsErrAnd result (λ f. f ≡ e) → Comes (Err e) (before p None p.main.body (behind_main p n)) (in_order (inside_main p n)) a0 a1 k
      → Comes result (main_made p n) (main_events p n) a0 a1 m
  main_stops result e m k is h = comes_stopped result (main_made p n) inner m k (inside_main p n) (one_if_there (annotation_term p None p.main.entry) ∷ []) e a0 a1 is h

  pub main_comes : (result : Listed) (conditions : Pending) (a2 : Arena) (k : Supply) → Comes (Ok conditions) (before p None p.main.body (behind_main p n)) (in_order (inside_main p n)) a0 a1 k
      → ComesTo result (assuming_if_there (annotation_term p None p.main.entry) (conditions_of a1 conditions.items)) (one_if_there (annotation_term p None p.main.entry)) a1 a2
      → Comes result (main_made p n) (main_events p n) a0 a2 k
  main_comes result conditions a2 k first h =
      comes_then result (main_made p n) inner k k (inside_main p n) (one_if_there (annotation_term p None p.main.entry)) conditions a0 a1 a2 first
      (let same = first.made.conditions.same in let left = first.made.supply in
      subst (λ (m : Made). Comes result m (one_if_there (annotation_term p None p.main.entry)) a1 a2 k) (λ i. record { conditions = assuming_if_there (annotation_term p None p.main.entry) (same i); supply = left i }) (h k first.made.there))

-- ---- behind those that are there

-- one list behind another that was made before
pub joined_behind : (m w : Made) (k : Supply) (done : List Event) (a b : Arena) (so_far one : List Condition) (result : Listed) (first : Pending) → first.items ≡ one → Comes (Ok first) w done a b k → AreIn a so_far
    → IfOk result (λ all. all.items ≡ so_far ++ one) → Answers result (counted (length so_far + length one)) b b → m ≡ record { conditions = conditions_of a so_far ++ w.conditions; supply = w.supply }
    → Comes result m (in_order (done ∷ counted (length so_far + length w.conditions) ∷ [])) a b k
joined_behind m w k done a b so_far one result first is h within items walk same =
    comes_then result m w k k (done ∷ []) (counted (length so_far + length w.conditions)) first a b b (comes_first (Ok first) w k done a b h)
    (subst (λ (m : Made). Comes result m (counted (length so_far + length w.conditions)) b b k) (sym same)
    (let left = h.made.supply in
    subst (λ (s : Supply). Comes result (record { conditions = conditions_of a so_far ++ w.conditions; supply = s }) (counted (length so_far + length w.conditions)) b b k) left
    (subst (λ l. Comes result (record { conditions = conditions_of a so_far ++ w.conditions; supply = k }) (counted (length so_far + l)) b b k) long
    (joined_comes result so_far one (conditions_of a so_far) w.conditions b items walk (AreThese-Extends so_far (conditions_of a so_far) h.grows (record { same = refl; in_range = within })) these k h.made.there))))
  where
    these : AreThese b one w.conditions
    these = subst (λ (l : List Condition). AreThese b l w.conditions) is h.made.conditions

    long : length one ≡ length w.conditions
    long = sym (long_conditions b one) ∙ ap (λ (l : List logic.Condition). length l) these.same

pub joined_stops : (m w : Made) (n k : Supply) (done last : List Event) (a b : Arena) (result : Listed) (e : GenFault) → IsErrAnd result (λ f. f ≡ e) → Comes (Err e) w done a b k → Comes result m (in_order (done ∷ last ∷ [])) a b n
joined_stops m w n k done last a b result e is h = comes_stopped result m w n k (done ∷ []) (last ∷ []) e a b is (comes_first (Err e) w k done a b h)

-- ---- all of them

-- events behind others that were walked
comes_behind : (r : Listed) (m : Made) (n : Supply) (xs ys : List Event) (a b c : Arena) → Extends a b → Walked xs a b → Comes r m ys b c n → Comes r m (xs ++ ys) a c n
comes_behind r m n xs ys a b c grows walked h = record { grows = Extends-trans grows h.grows; walk = answered_behind r xs ys a b c walked h.walk; made = h.made }

-- what is left from a routine on gives all
pub record Left (p : Program) (number : ℕ) (routines : List Routine) (items : List Condition) (n n0 : Supply) (a a0 : Arena) : Type 0 where
  pub within : AreIn a items
  pub there : AreThere a n
  pub grows : Extends a0 a
  pub gives : (r : Listed) (k : Supply) (c : Arena)
      → Comes r (record { conditions = conditions_of a items ++ conditions_from p number routines n; supply = supply_from p number routines n }) (events_from p number routines (length items) n) a c k
      → Comes r (all_made p n0) (events_from p 0 p.routines 0 n0) a0 c k

pub left_begins : (p : Program) (items : List Condition) (n0 : Supply) (a0 : Arena) → items ≡ [] → AreThere a0 n0 → (routines : List Routine) → routines ≡ p.routines → Left p 0 routines items n0 n0 a0 a0
left_begins p items n0 a0 none there routines same =
    subst (λ (rs : List Routine). Left p 0 rs items n0 n0 a0 a0) (sym same)
    (subst (λ (l : List Condition). Left p 0 p.routines l n0 n0 a0 a0) (sym none) (record { within = tt; there = there; grows = Extends-refl a0; gives = λ r k c h. h }))

module _ (p : Program) (number : ℕ) (r : Routine) (routines : List Routine) (items : List Condition) (n n0 : Supply) (a a0 : Arena) (left : Left p number (r ∷ routines) items n n0 a a0) where
  abbrev id : RoutineId
  id = record { 0 = number }

  abbrev one : List Event
  one = in_order (one_routine p id r (length items) n)

  abbrev made : Made
  made = routine_conditions p id r n

  pub left_goes_on : (all : Pending) (k : Supply) (b : Arena) → Comes (Ok all) (after_routine p (record { 0 = number }) r (made_of a items n)) (in_order (one_routine p (record { 0 = number }) r (length items) n)) a b k
      → Left p (suc number) routines all.items k n0 b a0
  left_goes_on all k b h = record {
    within = h.made.conditions.in_range;
    there = h.made.there;
    grows = Extends-trans left.grows h.grows;
    gives = λ result m c rest.
        left.gives result m c
        (subst (λ (w : Made). Comes result w (one ++ events_from p (suc number) routines (length items + length made.conditions) made.supply) a c m)
        (λ i. record { conditions = append_assoc (conditions_of a items) made.conditions (conditions_from p (suc number) routines made.supply) i; supply = supply_from p (suc number) routines made.supply })
        (comes_behind result (record { conditions = (conditions_of a items ++ made.conditions) ++ conditions_from p (suc number) routines made.supply; supply = supply_from p (suc number) routines made.supply }) m one
        (events_from p (suc number) routines (length items + length made.conditions) made.supply) a b c h.grows h.walk (turned result m c rest)));
  }
    where
      same : conditions_of b all.items ≡ conditions_of a items ++ made.conditions
      same = h.made.conditions.same

      long : length all.items ≡ length items + length made.conditions
      long = sym (long_conditions b all.items) ∙ (ap (λ (l : List logic.Condition). length l) same ∙ (length-append (conditions_of a items) made.conditions ∙ ap (λ l. l + length made.conditions) (long_conditions a items)))

      turned : (result : Listed) (m : Supply) (c : Arena)
          → Comes result (record { conditions = conditions_of b all.items ++ conditions_from p (suc number) routines k; supply = supply_from p (suc number) routines k }) (events_from p (suc number) routines (length all.items) k) b c m
          → Comes result (record { conditions = (conditions_of a items ++ made.conditions) ++ conditions_from p (suc number) routines made.supply; supply = supply_from p (suc number) routines made.supply })
          (events_from p (suc number) routines (length items + length made.conditions) made.supply) b c m
      turned result m c h2 =
          let supply : k ≡ made.supply = h.made.supply in
          subst (λ (s : Supply). Comes result (record { conditions = (conditions_of a items ++ made.conditions) ++ conditions_from p (suc number) routines s; supply = supply_from p (suc number) routines s }) (events_from p (suc number) routines (length items + length made.conditions) s) b c m) supply
          (subst (λ l. Comes result (record { conditions = (conditions_of a items ++ made.conditions) ++ conditions_from p (suc number) routines k; supply = supply_from p (suc number) routines k }) (events_from p (suc number) routines l k) b c m) long
          (subst (λ (cs : List logic.Condition). Comes result (record { conditions = cs ++ conditions_from p (suc number) routines k; supply = supply_from p (suc number) routines k }) (events_from p (suc number) routines (length all.items) k) b c m) same h2))

  -- or stops
  pub left_stops : (result : Listed) (e : GenFault) (m k : Supply) (b : Arena) (w : Made) → IsErrAnd result (λ f. f ≡ e) → Comes (Err e) w (in_order (one_routine p (record { 0 = number }) r (length items) n)) a b k
      → Comes result (all_made p n0) (events_from p 0 p.routines 0 n0) a0 b m
  left_stops result e m k b w is h =
      left.gives result m b
      (comes_not _ m result e (one ++ events_from p (suc number) routines (length items + length made.conditions) made.supply) is h.grows
      (stopped_first e one (events_from p (suc number) routines (length items + length made.conditions) made.supply) a b h.walk))

-- ---- by the code's list of routines

module _ (p : Program) (codes : List RoutineText) (place : ℕ) (code d : RoutineText) (items : List Condition) (n n0 : Supply) (a a0 : Arena) (test : place < length codes) (is : code ≡ get_or codes place d)
    (left : Left p place (map routine_of (drop place codes)) items n n0 a a0) (id : RoutineId) (same : id.0 ≡ place) where
  here : Left p place (routine_of code ∷ map routine_of (drop (place + 1) codes)) items n n0 a a0
  here =
      subst (λ (c : RoutineText). Left p place (routine_of c ∷ map routine_of (drop (place + 1) codes)) items n n0 a a0) (sym is)
      (subst (λ (l : List RoutineText). Left p place (map routine_of l) items n n0 a a0) (drop_more codes place d test) left)

  same_id : id ≡ record { 0 = place }
  same_id = λ i. record { 0 = same i }

  pub codes_go_on : (all : Pending) (k : Supply) (b : Arena) → Comes (Ok all) (after_routine p id (routine_of code) (made_of a items n)) (in_order (one_routine p id (routine_of code) (length items) n)) a b k
      → Left p (place + 1) (map routine_of (drop (place + 1) codes)) all.items k n0 b a0
  codes_go_on all k b h =
      let next : suc place ≡ place + 1 = omega arith in
      subst (λ m. Left p m (map routine_of (drop (place + 1) codes)) all.items k n0 b a0) next
      (left_goes_on p place (routine_of code) (map routine_of (drop (place + 1) codes)) items n n0 a a0 here all k b
      (subst (λ (i : RoutineId). Comes (Ok all) (after_routine p i (routine_of code) (made_of a items n)) (in_order (one_routine p i (routine_of code) (length items) n)) a b k) same_id h))

  pub codes_stop : (result : Listed) (e : GenFault) (m k : Supply) (b : Arena) → IsErrAnd result (λ f. f ≡ e)
      → Comes (Err e) (after_routine p id (routine_of code) (made_of a items n)) (in_order (one_routine p id (routine_of code) (length items) n)) a b k
      → Comes result (all_made p n0) (events_from p 0 p.routines 0 n0) a0 b m
  codes_stop result e m k b is_err h =
      left_stops p place (routine_of code) (map routine_of (drop (place + 1) codes)) items n n0 a a0 here result e m k b (after_routine p record { 0 = place } (routine_of code) (made_of a items n)) is_err
      (subst (λ (i : RoutineId). Comes (Err e) (after_routine p i (routine_of code) (made_of a items n)) (in_order (one_routine p i (routine_of code) (length items) n)) a b k) same_id h)

-- and the main block behind all of them
pub codes_end : (p : Program) (codes : List RoutineText) (place : ℕ) (items : List Condition) (n n0 : Supply) (a a0 : Arena) → length codes ≤ place → Left p place (map routine_of (drop place codes)) items n n0 a a0
    → (result : Listed) (k : Supply) (b : Arena) → Comes result (after_main p (made_of a items n)) (in_order (last_main p (length items) n)) a b k → Comes result (all_made p n0) (events_from p 0 p.routines 0 n0) a0 b k
codes_end p codes place items n n0 a a0 past left result k b h =
    (subst (λ (l : List RoutineText). Left p place (map routine_of l) items n n0 a a0) (drop_all place codes past) left).gives result k b h

-- ---- the limit

pub limit_of : (p : Program) (a b : Arena) (n : Supply) (m : Made) (k : Supply) → a ≡ empty_arena p → n ≡ full_supply → IsArena b → (e : GenFault) → Comes (Err e) m (events_from p 0 p.routines 0 n) a b k → IsLimit e p
limit_of p a b n m k empty full sound e h =
    by e (subst (λ (x : Arena). Stops e (program_events p) x b) empty (subst (λ (s : Supply). Stops e (events_from p 0 p.routines 0 s) a b) full h.walk))
  where
    by : (e : GenFault) → Stops e (program_events p) (empty_arena p) b → IsLimit e p
    by (fault.Conditions n) stops = record { arena = b; sound = sound; stops = stops }
    by (fault.Terms n) stops = record { arena = b; sound = sound; stops = stops }
    by fault.Memory stops = tt

-- no fresh variable was taken
pub may_begin : (p : Program) (a : Arena) (n : Supply) → well_typed p ≡ true → a ≡ empty_arena p → n ≡ full_supply → MayBegin p a n
may_begin p a n typed empty full = record {
  over = record { typed = typed; shapes_are = ap (λ (x : Arena). x.shapes) empty; decls_are = ap (λ (x : Arena). x.decls) empty };
  there = subst (AreThere a) (sym full) (record { names = λ x k low high. absurd (none k low high); classes = λ t k low high. absurd (none k low high) });
}
  where
    none : (k : ℕ) → 0 < k → k ≤ 0 → ⊥
    none k low high = omega (arith, low, high)
