-- The conditions of a routine, step by step.
use Rattle.std.proofs.Common.{◌≡◌, true, List, [], ◌∷◌, Option, Some, option_map, Ok, Err, IfOk, IfErr, IsErrAnd, refl, sym, ap, subst, ◌∙◌}
use Rattle.spv_logic.proofs.list.Tests.{left_true, right_true}
use Rattle.spv_logic.specs.declared.conditions.TermId.{TermId}
use Rattle.spv_logic.specs.declared.conditions.Kind.TheVariants as kind
use Rattle.spv_logic.specs.declared.conditions.RoutineId.{RoutineId}
use Rattle.spv_logic.specs.Terms.{Term}
use Rattle.spv_logic.specs.Conditions as logic
use Rattle.spv_term.specs.declared.nodes.Condition.{Condition}
use Rattle.spv_term.specs.Arena.{Arena, Extends, tree}
use Rattle.spv_program.specs.Formulas.{Annotation}
use Rattle.spv_program.specs.FormulaTypes.{annotation_ok}
use Rattle.spv_program.specs.Programs.{Routine, Program, routine_at, routine_in}
use Rattle.spv_program.specs.Scopes.{entry_scope, exit_scope}
use Rattle.spv_program.specs.Supplies.{Supply}
use Rattle.spv_program.specs.Terms.{entry_term, exit_term}
use Rattle.spv_program.specs.Typing.{declarations_ok, heading_ok, main_ok, routine_ok, statement_ok, well_typed}
use Rattle.std.specs.List.{list_all}
use Rattle.spv_meaning.specs.Before.{Made, before, assuming_if_there, replaced, wanted}
use Rattle.spv_meaning.specs.ProgramConditions.{wanted_exit, routine_conditions}
use Rattle.spv_meaning.proofs.RoutineStarts.{item_passes}
use Rattle.spv_expression_terms.specs.makeable_terms.Laws.{heading_ok_in}
use Rattle.spv_logic.specs.declared.operators.Head.{Head}
use Rattle.spv_assign.specs.declared.pending.pending.Pending.{Pending}
use Rattle.spv_assign.specs.Conditions.{AreIn, all_terms_in, conditions_of, pairs_of}
use Rattle.spv_assign.specs.supply.Numbers.{AreThere}
use Rattle.spv_assign.proofs.supply.FreshLemmas.{AreThere-Extends}
use Rattle.spv_assign.specs.declared.creation_trace.faults.GenFault.{GenFault}
use Rattle.spv_assign.specs.declared.creation_trace.faults.GenFault.TheVariants as fault
use Rattle.spv_assign.specs.creation_trace.Events.{Answers, Event, Stops, Walked}
use Rattle.spv_assign.specs.creation_trace.StatementEvents.{in_order, one, one_if_there, pair_terms, replacing_events, several}
use Rattle.spv_assign.proofs.creation_trace.Walks.{nothing_walked}
use Rattle.spv_assign.specs.limited_steps.Makes.{IsTerm}
use Rattle.spv_flow_parts.specs.declared.bodies.Body.{Body}
use Rattle.spv_flow_parts.specs.Standing.{IsBody, Stands}
use Rattle.spv_flow_parts.specs.Walks.{AreThese, Comes, ComesTo, IsThere, Listed, made_of, wanted_item}
use Rattle.spv_flow_parts.specs.calls.Arguments.{IsOver, MayMake}
use Rattle.spv_flow_parts.proofs.Steps.{AreThese-Extends, comes_last, comes_never, comes_not, stopped_at, went}
use Rattle.spv_flow_parts.proofs.Conditions.{replaced_comes}
use Rattle.spv_conditions.specs.Making.{beginning_pairs, behind_routine, entered_made, entered_parts, entry_events, events, exit_events, inside_parts, routine_events, under_entry}
use Rattle.spv_conditions.specs.Steps.{MayBegin}
use Rattle.spv_conditions.proofs.Chains.{comes_first, comes_stopped, comes_then, made_is}

-- ---- what is right

module _ (p : Program) (typed : well_typed p ≡ true) where
  pub right_declarations : declarations_ok p ≡ true
  right_declarations = left_true (declarations_ok p) _ typed

  pub right_routine : (id : RoutineId) (r : Routine) → routine_at p id ≡ Some r → routine_ok p r ≡ true
  right_routine id r e = item_passes (routine_ok p) p.routines id.0 r (left_true (list_all (routine_ok p) p.routines) _ (right_true (declarations_ok p) _ typed)) e

  pub right_body : (id : RoutineId) (r : Routine) → routine_at p id ≡ Some r → statement_ok p (Some r) r.body ≡ true
  right_body id r e =
      let annotations = right_true (heading_ok p r) _ (right_routine id r e) in
      right_true (annotation_ok p (exit_scope p r) r.exit) _ (right_true (annotation_ok p (entry_scope p r) r.entry) _ annotations)

  pub right_main : main_ok p p.main ≡ true
  right_main = right_true (list_all (routine_ok p) p.routines) _ (right_true (declarations_ok p) _ typed)

-- a body of a routine over an arena
pub routine_stands : (p : Program) (b : Body) (a : Arena) (id : RoutineId) (r : Routine) → IsOver p a → IsBody p b → b.here ≡ Some id → routine_at p id ≡ Some r → Stands p b a
routine_stands p b a id r over is here there = record {
  body = is;
  shapes = over.shapes_are;
  decls = over.decls_are;
  declarations = right_declarations p over.typed;
  heading = subst (λ (o : Option RoutineId). heading_ok_in p (routine_in p o) ≡ true) (sym here)
      (subst (λ (o : Option Routine). heading_ok_in p o ≡ true) (sym there) (left_true (heading_ok p r) _ (right_routine p over.typed id r there)));
}

-- an arena that grew
pub over_then : {a b : Arena} (p : Program) → Extends a b → IsOver p a → IsOver p b
over_then p more h = record { typed = h.typed; shapes_are = more.shapes ∙ h.shapes_are; decls_are = more.decls ∙ h.decls_are }

pub routine_may : (p : Program) (b : Body) (a0 a : Arena) (id : RoutineId) (r : Routine) (n : Supply) → MayBegin p a0 n → Extends a0 a → IsBody p b → b.here ≡ Some id → routine_at p id ≡ Some r → MayMake p b a n
routine_may p b a0 a id r n may more is here there = record {
  stands = routine_stands p b a id r (over_then p more may.over) is here there;
  typed = may.over.typed;
  there = AreThere-Extends a0 a n more may.there;
}

pub body_right : (p : Program) (here : Option RoutineId) (id : RoutineId) (r : Routine) → well_typed p ≡ true → here ≡ Some id → routine_at p id ≡ Some r → statement_ok p (routine_in p here) r.body ≡ true
body_right p here id r typed e there =
    subst (λ (o : Option RoutineId). statement_ok p (routine_in p o) r.body ≡ true) (sym e)
    (subst (λ (o : Option Routine). statement_ok p o r.body ≡ true) (sym there) (right_body p typed id r there))

-- ---- EXIT and ENTRY

pub exit_wanted : (p : Program) (id : RoutineId) (r : Routine) (o : Option Annotation) (x : Annotation) (t : TermId) (result : Listed) (a b : Arena) (n : Supply) → o ≡ Some x → r.exit ≡ o
    → IsTerm b t (exit_term p r x) → Extends a b → Walked (one (exit_term p r x)) a b → AreThere a n
    → IfOk result (λ cs. cs.items ≡ wanted_item (Some id) kind.Exit t x.line ∷ []) → IfErr result (λ e. e ≡ fault.Memory)
    → Comes result (record { conditions = wanted_exit p id r r.exit; supply = n }) (exit_events p r) a b n
exit_wanted p id r o x t result a b n is exit term grows walked there items memory =
    subst (λ (o : Option Annotation). Comes result (record { conditions = wanted_exit p id r o; supply = n }) (one_if_there (option_map (exit_term p r) o)) a b n) (sym (exit ∙ is)) (by result items memory)
  where
    these : (l : List Condition) → l ≡ wanted_item (Some id) kind.Exit t x.line ∷ [] → AreThese b l (wanted (Some id) kind.Exit x.line (exit_term p r x) ∷ [])
    these l e = subst (λ (k : List Condition). AreThese b k (wanted (Some id) kind.Exit x.line (exit_term p r x) ∷ [])) (sym e) (record {
      same = let same = term.is_tree in λ i. wanted (Some id) kind.Exit x.line (same i) ∷ [];
      in_range = (record { given = tt; goal = term.there }, tt);
    })

    by : (result : Listed) → IfOk result (λ cs. cs.items ≡ wanted_item (Some id) kind.Exit t x.line ∷ []) → IfErr result (λ e. e ≡ fault.Memory)
        → Comes result (record { conditions = wanted (Some id) kind.Exit x.line (exit_term p r x) ∷ []; supply = n }) (one (exit_term p r x)) a b n
    by (Ok cs) items memory = record { grows = grows; walk = walked; made = record { conditions = these cs.items items; supply = refl; there = AreThere-Extends a b n grows there } }
    by (Err e) items memory = comes_never (record { conditions = wanted (Some id) kind.Exit x.line (exit_term p r x) ∷ []; supply = n }) n (Err e) e (one (exit_term p r x)) refl memory grows

-- conditions under a term that may be there
pub known_under : (x : Option Term) (t : Option TermId) (items : List Condition) (result : Listed) (a b : Arena) (n : Supply) → option_map (tree b) t ≡ x → IsThere b t → Extends a b → Walked (one_if_there x) a b → AreIn a items → AreThere a n
    → (IsThere b t → AreIn b items → IfOk result (λ cs. AreThese b cs.items (assuming_if_there (option_map (tree b) t) (conditions_of b items)))) → IfErr result (λ e. e ≡ fault.Memory)
    → Comes result (record { conditions = assuming_if_there x (conditions_of a items); supply = n }) (one_if_there x) a b n
known_under x t items result a b n is there grows walked within numbers these memory = by result (these there behind.in_range) memory
  where
    made : Made
    made = record { conditions = assuming_if_there x (conditions_of a items); supply = n }

    behind : AreThese b items (conditions_of a items)
    behind = AreThese-Extends items (conditions_of a items) grows (record { same = refl; in_range = within })

    same : assuming_if_there (option_map (tree b) t) (conditions_of b items) ≡ assuming_if_there x (conditions_of a items)
    same = let e = behind.same in λ i. assuming_if_there (is i) (e i)

    by : (result : Listed) → IfOk result (λ cs. AreThese b cs.items (assuming_if_there (option_map (tree b) t) (conditions_of b items))) → IfErr result (λ e. e ≡ fault.Memory) → Comes result made (one_if_there x) a b n
    by (Ok cs) these memory = record { grows = grows; walk = walked; made = record { conditions = record { same = these.same ∙ same; in_range = these.in_range }; supply = refl; there = AreThere-Extends a b n grows numbers } }
    by (Err e) these memory = comes_never made n (Err e) e (one_if_there x) refl memory grows

-- ---- one after the other

module _ (p : Program) (id : RoutineId) (r : Routine) (n : Supply) (a0 a1 : Arena) where
  abbrev wanted_behind : Made
  wanted_behind = record { conditions = wanted_exit p id r r.exit; supply = n }

  -- EXIT, and the body
  pub inside_stops : (result : Listed) (e : GenFault) (m : Supply) → IsErrAnd result (λ f. f ≡ e) → Comes (Err e) (record { conditions = wanted_exit p id r r.exit; supply = n }) (exit_events p r) a0 a1 n
      → Comes result (before p (Some id) r.body (behind_routine p id r n)) (in_order (inside_parts p id r n)) a0 a1 m
  inside_stops result e m is h =
      comes_stopped result (before p (Some id) r.body (behind_routine p id r n)) wanted_behind m n (exit_events p r ∷ []) (events p (Some id) r.body (behind_routine p id r n) ∷ []) e a0 a1 is
      (comes_first (Err e) wanted_behind n (exit_events p r) a0 a1 h)

  pub inside_comes : (result : Listed) (exit : Pending) (here : Option RoutineId) (a2 : Arena) (m : Supply) → here ≡ Some id → Comes (Ok exit) (record { conditions = wanted_exit p id r r.exit; supply = n }) (exit_events p r) a0 a1 n
      → Comes result (before p here r.body (made_of a1 exit.items n)) (events p here r.body (made_of a1 exit.items n)) a1 a2 m
      → Comes result (before p (Some id) r.body (behind_routine p id r n)) (in_order (inside_parts p id r n)) a0 a2 m
  inside_comes result exit here a2 m e first h =
      comes_then result (before p (Some id) r.body (behind_routine p id r n)) wanted_behind m n (exit_events p r ∷ []) (events p (Some id) r.body (behind_routine p id r n)) exit a0 a1 a2
      (comes_first (Ok exit) wanted_behind n (exit_events p r) a0 a1 first)
      (subst (λ (q : Made). Comes result (before p (Some id) r.body q) (events p (Some id) r.body q) a1 a2 m) (made_is a1 n exit.items wanted_behind first.made)
      (subst (λ (o : Option RoutineId). Comes result (before p o r.body (made_of a1 exit.items n)) (events p o r.body (made_of a1 exit.items n)) a1 a2 m) e h))

  -- and ENTRY
  abbrev inside : Made
  inside = before p (Some id) r.body (behind_routine p id r n)

  pub entered_stops : (result : Listed) (e : GenFault) (m k : Supply) → IsErrAnd result (λ f. f ≡ e) → Comes (Err e) inside (in_order (inside_parts p id r n)) a0 a1 k
      → Comes result (entered_made p id r n) (in_order (entered_parts p id r n)) a0 a1 m
  entered_stops result e m k is h = comes_stopped result (entered_made p id r n) inside m k (inside_parts p id r n) (entry_events p r ∷ []) e a0 a1 is h

  pub entered_comes : (result : Listed) (conditions : Pending) (a2 : Arena) (k : Supply) → Comes (Ok conditions) inside (in_order (inside_parts p id r n)) a0 a1 k
      → ComesTo result (assuming_if_there (option_map (entry_term p r) r.entry) (conditions_of a1 conditions.items)) (entry_events p r) a1 a2
      → Comes result (entered_made p id r n) (in_order (entered_parts p id r n)) a0 a2 k
  entered_comes result conditions a2 k first h =
      comes_then result (entered_made p id r n) inside k k (inside_parts p id r n) (entry_events p r) conditions a0 a1 a2 first
      (let same = first.made.conditions.same in let left = first.made.supply in
      subst (λ (m : Made). Comes result m (entry_events p r) a1 a2 k) (λ i. record { conditions = assuming_if_there (option_map (entry_term p r) r.entry) (same i); supply = left i }) (h k first.made.there))

  -- and the beginning
  pub routine_stops : (result : Listed) (e : GenFault) (m k : Supply) → IsErrAnd result (λ f. f ≡ e) → Comes (Err e) (entered_made p id r n) (in_order (entered_parts p id r n)) a0 a1 k
      → Comes result (routine_conditions p id r n) (routine_events p id r n) a0 a1 m
  routine_stops result e m k is h =
      comes_stopped result (routine_conditions p id r n) (entered_made p id r n) m k (entered_parts p id r n) (replacing_events (beginning_pairs p r) (under_entry p id r n) ∷ []) e a0 a1 is h

  pub routine_comes : (result : Listed) (conditions : Pending) (a2 : Arena) (k : Supply) → Comes (Ok conditions) (entered_made p id r n) (in_order (entered_parts p id r n)) a0 a1 k
      → ComesTo result (replaced (beginning_pairs p r) (conditions_of a1 conditions.items)) (replacing_events (beginning_pairs p r) (conditions_of a1 conditions.items)) a1 a2
      → Comes result (routine_conditions p id r n) (routine_events p id r n) a0 a2 k
  routine_comes result conditions a2 k first h =
      comes_then result (routine_conditions p id r n) (entered_made p id r n) k k (entered_parts p id r n) (replacing_events (beginning_pairs p r) (under_entry p id r n)) conditions a0 a1 a2 first
      (let same = first.made.conditions.same in let left = first.made.supply in
      subst (λ (q : Made). Comes result (record { conditions = replaced (beginning_pairs p r) q.conditions; supply = q.supply }) (replacing_events (beginning_pairs p r) q.conditions) a1 a2 k) (λ i. record { conditions = same i; supply = left i })
      (h k first.made.there))

-- ---- the names at the beginning

module _ (p : Program) (r : Routine) (a b : Arena) (items : List Condition) (n : Supply) where
  abbrev pairs : List (Head × Term)
  pairs = beginning_pairs p r

  abbrev put : List Event
  put = several (pair_terms pairs)

  abbrev wanted_there : List logic.Condition
  wanted_there = replaced pairs (conditions_of a items)

  abbrev made_there : Made
  made_there = record { conditions = wanted_there; supply = n }

  pub beginning_stops : (result : Listed) (e : GenFault) → IsErrAnd result (λ f. f ≡ e) → Extends a b → Stops e (several (pair_terms (beginning_pairs p r))) a b
      → Comes result (record { conditions = replaced (beginning_pairs p r) (conditions_of a items); supply = n }) (replacing_events (beginning_pairs p r) (conditions_of a items)) a b n
  beginning_stops result e is grows stops =
      comes_not made_there n result e (replacing_events pairs (conditions_of a items)) is grows (stopped_at [] put (several (all_terms_in wanted_there) ∷ []) e a a b (nothing_walked a) stops)

  pub beginning_within : Extends a b → AreIn a items → AreIn b items
  beginning_within grows within = (AreThese-Extends items (conditions_of a items) grows (record { same = refl; in_range = within })).in_range

  pub beginning_comes : (ids : List (TermId × TermId)) (own : List (TermId × TermId)) (c : Arena) (result : Listed) → own ≡ ids → Extends a b → Walked (several (pair_terms (beginning_pairs p r))) a b → pairs_of b ids ≡ beginning_pairs p r → AreIn a items → AreThere a n
      → IfOk result (λ cs. conditions_of c cs.items ≡ replaced (pairs_of b own) (conditions_of b items)) → IfOk result (λ cs. AreIn c cs.items) → Extends b c
      → Answers result (several (all_terms_in (replaced (pairs_of b own) (conditions_of b items)))) b c
      → Comes result (record { conditions = replaced (beginning_pairs p r) (conditions_of a items); supply = n }) (replacing_events (beginning_pairs p r) (conditions_of a items)) a c n
  beginning_comes ids own c result mine grows walked are within numbers same in_range more walk =
      comes_last result made_there n (put ∷ []) (several (all_terms_in wanted_there)) (went [] put (nothing_walked a) walked)
      (subst (λ (l : List logic.Condition). Comes result (record { conditions = l; supply = n }) (several (all_terms_in l)) b c n) wanted_is
      (replaced_comes result b c (replaced (pairs_of b own) (conditions_of b items)) same in_range more walk n (AreThere-Extends a b n grows numbers)))
    where
      wanted_is : replaced (pairs_of b own) (conditions_of b items) ≡ replaced (beginning_pairs p r) (conditions_of a items)
      wanted_is =
          let e : pairs_of b own ≡ beginning_pairs p r = ap (pairs_of b) mine ∙ are in
          let f = (AreThese-Extends items (conditions_of a items) grows (record { same = refl; in_range = within })).same in
          λ i. replaced (e i) (f i)
