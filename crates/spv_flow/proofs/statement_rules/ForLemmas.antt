-- FOR loops.
use Rattle.std.proofs.Common.{◌≡◌, List, [], ◌∷◌, ◌++◌, Result, Ok, Err, IfOk, IsErrAnd, Option, refl, sym, ap, subst, ◌∙◌}
use Rattle.spv_logic.specs.declared.conditions.Kind.TheVariants as kind
use Rattle.spv_logic.specs.declared.conditions.TermId.{TermId}
use Rattle.spv_logic.specs.declared.conditions.RoutineId.{RoutineId}
use Rattle.spv_logic.specs.declared.operators.Head.{Head}
use Rattle.spv_logic.specs.declared.types.Sort.TheVariants as sort
use Rattle.spv_logic.specs.Terms.{Term}
use Rattle.spv_logic.specs.Substitution.{is_variable}
use Rattle.spv_logic.specs.Conditions as logic
use Rattle.spv_term.specs.declared.nodes.Condition.{Condition}
use Rattle.spv_term.specs.Arena.{Arena, Extends, tree, sort_at}
use Rattle.spv_term.proofs.ArenaLemmas.{Extends-refl, Extends-trans, sort_at-Extends}
use Rattle.spv_term.specs.substitution.Images.{ArePairs, head_at, head_of}
use Rattle.spv_program.specs.Formulas.{Annotation}
use Rattle.spv_program.specs.Expressions.{Expression}
use Rattle.spv_program.specs.Programs.{Routine, Program}
use Rattle.spv_program.specs.Statements.{Counting}
use Rattle.spv_program.specs.Supplies.{Supply}
use Rattle.spv_program.specs.Terms.{alone}
use Rattle.spv_program.specs.ExpressionTerms.{Called, Valued, valued}
use Rattle.spv_assign.specs.declared.pending.pending.Pending.{Pending}
use Rattle.spv_assign.proofs.supply.FreshLemmas.{AreThere-Extends}
use Rattle.spv_assign.specs.Conditions.{all_terms_in}
use Rattle.spv_meaning.specs.Before.{Made, Renamed, before_calls, renamed, next_term, annotation_term, wanted_with}
use Rattle.spv_assign.specs.declared.creation_trace.faults.GenFault.{GenFault}
use Rattle.spv_assign.specs.declared.creation_trace.faults.GenFault.TheVariants as fault
use Rattle.spv_assign.specs.creation_trace.Events.{Event, Walked, Stops}
use Rattle.spv_assign.specs.creation_trace.StatementEvents.{one_if_there, several, in_order}
use Rattle.spv_assign.proofs.creation_trace.Walks.{nothing_walked}
use Rattle.spv_assign.proofs.limited_steps.Limits.{same_stop}
use Rattle.spv_flow_parts.specs.Walks.{AreThese, IsNoted, Listed, Comes, ComesTo}
use Rattle.spv_flow_parts.proofs.Steps.{went, stopped_at, stopped_among, comes_not, comes_never, comes_on, comes_last, comes_as, IsTerm-Extends}
use Rattle.spv_flow_parts.proofs.LoopLemmas.{IsNoted-Extends}
use Rattle.spv_flow_parts.specs.declared.for_loops.terms.CounterTerms.{CounterTerms}
use Rattle.spv_flow_parts.specs.for_loops.Counting.{number_head, IsCounter, counter_terms, ended_made, ended_events}
use Rattle.spv_flow_parts.specs.declared.leaves.valued.Valued as code
use Rattle.spv_flow_parts.specs.leaves.Values.{AreCalls, MakesValue, call_events}
use Rattle.spv_flow_parts.proofs.leaves.InFront.{AreCalls-Extends, calls_both}
use Rattle.spv_flow.specs.statement_rules.Events.{end_call_events}
use Rattle.spv_flow.specs.declared.statement_rules.counting.ForTerms.{ForTerms}
use Rattle.spv_flow.specs.declared.statement_rules.counting.ForEnds.{ForEnds}
use Rattle.spv_flow.specs.declared.statement_rules.counting.BegunFor.{BegunFor}
use Rattle.spv_flow.specs.statement_rules.Rules.{IsValueOf, AreForEnds, EndsBegin, AreForTerms, MayEndFor, IsBegunFor, BeginsFor, EndsFor, next_wanted, for_begin, for_made, for_end}
use Rattle.spv_flow.proofs.statement_rules.WayLemmas.{made_with, IsValueOf-Extends, PutsInFront}
use Rattle.spv_flow.proofs.statement_rules.LoopBegins.{value_made}

-- ---- ends

-- a value that was made with the fresh variables that another one left
pub value_behind : (p : Program) (own : Option Routine) (e : Expression) (r : Result code.Valued GenFault) (test : Expression → Supply → List Event) (n m : Supply) (a b : Arena) (k : Supply) → n ≡ m → MakesValue r (valued p own n e) (test e n) a b k → MakesValue r (valued p own m e) (test e m) a b k
value_behind p own e r test n m a b k is h = subst (λ (l : Supply). MakesValue r (valued p own l e) (test e l) a b k) is h

module _ (te tf : List Event) (w u : Valued) (a0 : Arena) where
  ends_not : (r : Result ForEnds GenFault) (g : GenFault) (b : Arena) (n : Supply) → IsErrAnd r (λ e. e ≡ g) → Extends a0 b → Stops g (in_order (te ∷ tf ∷ [])) a0 b → EndsBegin r w u (te ∷ tf ∷ []) a0 b n
  ends_not r g b n is grows stops = record { grows = grows; walk = same_stop r g (in_order (te ∷ tf ∷ [])) a0 b is stops; ends = none r is }
    where
      none : (r : Result ForEnds GenFault) → IsErrAnd r (λ e. e ≡ g) → IfOk r (λ e. AreForEnds b n e w u)
      none (Ok o) h = absurd h
      none (Err e) h = tt

  pub first_end_stops : (r : Result ForEnds GenFault) (g : GenFault) (a1 : Arena) (n : Supply) → IsErrAnd r (λ e. e ≡ g) → MakesValue (Err g) w te a0 a1 n → EndsBegin r w u (te ∷ tf ∷ []) a0 a1 n
  first_end_stops r g a1 n is made = ends_not r g a1 n is made.grows (stopped_at [] te (tf ∷ []) g a0 a0 a1 (nothing_walked a0) made.walk)

  module _ (a1 : Arena) (n1 : Supply) (first : code.Valued) (made : MakesValue (Ok first) w te a0 a1 n1) where
    w1 : Walked (in_order (te ∷ [])) a0 a1
    w1 = went [] te (nothing_walked a0) made.walk

    pub last_end_stops : (r : Result ForEnds GenFault) (g : GenFault) (a2 : Arena) (n : Supply) → IsErrAnd r (λ e. e ≡ g) → MakesValue (Err g) u tf a1 a2 n → EndsBegin r w u (te ∷ tf ∷ []) a0 a2 n
    last_end_stops r g a2 n is end = ends_not r g a2 n is (Extends-trans made.grows end.grows) (stopped_at (te ∷ []) tf [] g a0 a1 a2 w1 end.walk)

    pub ends_begin : (a2 : Arena) (n2 : Supply) (last : code.Valued) → MakesValue (Ok last) u tf a1 a2 n2 → sort_at a1 first.term ≡ sort.Int → sort_at a2 last.term ≡ sort.Int → (e : ForEnds) → e.first ≡ first → e.last ≡ last → EndsBegin (Ok e) w u (te ∷ tf ∷ []) a0 a2 n2
    ends_begin a2 n2 last end number last_number e first_is last_is = record {
      grows = Extends-trans made.grows end.grows;
      walk = went (te ∷ []) tf w1 end.walk;
      ends = record {
        first = subst (λ (t : code.Valued). IsValueOf a2 t w sort.Int) (sym first_is) (IsValueOf-Extends first w sort.Int end.grows (value_made first w sort.Int te a0 a1 n1 made number));
        last = subst (λ (t : code.Valued). IsValueOf a2 t u sort.Int) (sym last_is) (value_made last u sort.Int tf a1 a2 n2 end last_number);
        supply = end.value.supply;
        there = end.value.there;
      };
    }

-- ---- arenas that grow

pub AreForTerms-Extends : {a b : Arena} (p : Program) (here : Option RoutineId) (t : ForTerms) (w u : Valued) (f : Option Annotation) (count : Counting) → Extends a b → AreForTerms a p here t w u f count → AreForTerms b p here t w u f count
AreForTerms-Extends p here t w u f count more h = record {
  first = IsValueOf-Extends t.first w sort.Int more h.first;
  last = IsValueOf-Extends t.last u sort.Int more h.last;
  note = IsNoted-Extends p here t.note f more h.note;
  variable = IsTerm-Extends t.variable (alone (number_head count.variable)) more h.variable;
  variable_number = sort_at-Extends more t.variable h.variable.there ∙ h.variable_number;
}

pub for_terms_end : (a : Arena) (p : Program) (here : Option RoutineId) (t : ForTerms) (w u : Valued) (f : Option Annotation) (count : Counting) → AreForTerms a p here t w u f count → MayEndFor a p here t f count
for_terms_end a p here t w u f count h = record {
  first = h.first.term.there;
  first_number = h.first.sorted;
  last = h.last.term.there;
  last_number = h.last.sorted;
  note = h.note;
  variable = h.variable;
  variable_number = h.variable_number;
}

-- ---- the beginning

-- the next value in the place of the variable
pub counter_pair : (count : Counting) (a : Arena) (c : CounterTerms) → IsCounter a c count.direction (number_head count.variable) → ArePairs a ((c.variable, c.next) ∷ [])
counter_pair count a c h = (
  record {
    variable_there = h.variable.there;
    term_there = h.next.there;
    variable = ap (λ (t : Term). is_variable (head_of t)) h.variable.is_tree;
    same_sort = h.next_sort ∙ sym h.variable_sort;
  },
  tt,
)

module _ (p : Program) (here : Option RoutineId) (f : Option Annotation) (count : Counting) (te tf : List Event) (w u : Valued) (a0 : Arena) where
  abbrev h : Head
  h = number_head count.variable

  abbrev next : Term
  next = next_term count.direction (alone h)

  abbrev all : List (List Event)
  all = for_begin p here f count te tf

  abbrev note_event : List Event
  note_event = one_if_there (annotation_term p here f)

  abbrev counter_event : List Event
  counter_event = several (counter_terms count.direction h)

  abbrev wanted : List logic.Condition
  wanted = next_wanted p here f count

  for_not : (r : Result BegunFor GenFault) (g : GenFault) (b : Arena) (n : Supply) → IsErrAnd r (λ e. e ≡ g) → Extends a0 b → Stops g (in_order all) a0 b → BeginsFor r p here f count w u wanted all a0 b n
  for_not r g b n is grows stops = record { grows = grows; walk = same_stop r g (in_order all) a0 b is stops; begun = none r is }
    where
      none : (r : Result BegunFor GenFault) → IsErrAnd r (λ e. e ≡ g) → IfOk r (λ o. IsBegunFor b p here n o w u f count wanted)
      none (Ok o) h = absurd h
      none (Err e) h = tt

  pub ends_stop : (r : Result BegunFor GenFault) (g : GenFault) (a1 : Arena) (n : Supply) → IsErrAnd r (λ e. e ≡ g) → EndsBegin (Err g) w u (te ∷ tf ∷ []) a0 a1 n
      → BeginsFor r p here f count w u (next_wanted p here f count) (for_begin p here f count te tf) a0 a1 n
  ends_stop r g a1 n is k = for_not r g a1 n is k.grows (stopped_among [] (te ∷ tf ∷ []) (note_event ∷ counter_event ∷ several (all_terms_in wanted) ∷ []) g a0 a0 a1 (nothing_walked a0) k.walk)

  module _ (a1 : Arena) (n : Supply) (ends : ForEnds) (k : EndsBegin (Ok ends) w u (te ∷ tf ∷ []) a0 a1 n) where
    pub note_stops : (r : Result BegunFor GenFault) (g : GenFault) (a2 : Arena) → IsErrAnd r (λ e. e ≡ g) → Extends a1 a2 → Stops g (one_if_there (annotation_term p here f)) a1 a2
        → BeginsFor r p here f count w u (next_wanted p here f count) (for_begin p here f count te tf) a0 a2 n
    note_stops r g a2 is grows stops =
        for_not r g a2 n is (Extends-trans k.grows grows) (stopped_at (te ∷ tf ∷ []) note_event (counter_event ∷ several (all_terms_in wanted) ∷ []) g a0 a1 a2 k.walk stops)

    module _ (a2 : Arena) (note : Option TermId) (grows : Extends a1 a2) (noted : IsNoted a2 p here note f) (walked : Walked (one_if_there (annotation_term p here f)) a1 a2) where
      w2 : Walked (in_order (te ∷ tf ∷ note_event ∷ [])) a0 a2
      w2 = went (te ∷ tf ∷ []) note_event k.walk walked

      pub counter_stops : (r : Result BegunFor GenFault) (g : GenFault) (a3 : Arena) → IsErrAnd r (λ e. e ≡ g) → Extends a2 a3 → Stops g (several (counter_terms count.direction (number_head count.variable))) a2 a3
          → BeginsFor r p here f count w u (next_wanted p here f count) (for_begin p here f count te tf) a0 a3 n
      counter_stops r g a3 is more stops =
          for_not r g a3 n is (Extends-trans w2.grows more) (stopped_at (te ∷ tf ∷ note_event ∷ []) counter_event (several (all_terms_in wanted) ∷ []) g a0 a2 a3 w2 stops)

      module _ (a3 : Arena) (c : CounterTerms) (more : Extends a2 a3) (counter : IsCounter a3 c count.direction (number_head count.variable)) (counter_walked : Walked (several (counter_terms count.direction (number_head count.variable))) a2 a3) where
        w3 : Walked (in_order (te ∷ tf ∷ note_event ∷ counter_event ∷ [])) a0 a3
        w3 = went (te ∷ tf ∷ note_event ∷ []) counter_event w2 counter_walked

        same_wanted : wanted_with p here kind.Preserved (head_at a3 c.variable) (tree a3 c.next) f ≡ wanted
        same_wanted =
            let variable : head_at a3 c.variable ≡ h = ap head_of counter.variable.is_tree in
            let term = counter.next.is_tree in
            λ i. wanted_with p here kind.Preserved (variable i) (term i) f

        module _ (r : Listed) (a4 : Arena)
            (comes : ComesTo r (wanted_with p here kind.Preserved (head_at a3 c.variable) (tree a3 c.next) f) (several (all_terms_in (wanted_with p here kind.Preserved (head_at a3 c.variable) (tree a3 c.next) f))) a3 a4) where
          put : Comes r (made_with wanted n) (several (all_terms_in wanted)) a3 a4 n
          put = subst (λ (l : List logic.Condition). Comes r (made_with l n) (several (all_terms_in l)) a3 a4 n) same_wanted (comes n (AreThere-Extends a1 a3 n (Extends-trans grows more) k.ends.there))

        pub put_stops : (r : Result BegunFor GenFault) (g : GenFault) (a4 : Arena) → IsErrAnd r (λ e. e ≡ g)
            → ComesTo (Err g) (wanted_with p here kind.Preserved (head_at a3 c.variable) (tree a3 c.next) f) (several (all_terms_in (wanted_with p here kind.Preserved (head_at a3 c.variable) (tree a3 c.next) f))) a3 a4
            → BeginsFor r p here f count w u (next_wanted p here f count) (for_begin p here f count te tf) a0 a4 n
        put_stops r g a4 is comes =
            let j = put (Err g) a4 comes in
            for_not r g a4 n is (Extends-trans w3.grows j.grows) (stopped_at (te ∷ tf ∷ note_event ∷ counter_event ∷ []) (several (all_terms_in wanted)) [] g a0 a3 a4 w3 j.walk)

        pub for_begins : (v : Pending) (a4 : Arena) (o : BegunFor) → o.terms ≡ record { first = ends.first; last = ends.last; note = note; variable = c.variable } → o.behind.items ≡ v.items
            → ComesTo (Ok v) (wanted_with p here kind.Preserved (head_at a3 c.variable) (tree a3 c.next) f) (several (all_terms_in (wanted_with p here kind.Preserved (head_at a3 c.variable) (tree a3 c.next) f))) a3 a4
            → BeginsFor (Ok o) p here f count w u (next_wanted p here f count) (for_begin p here f count te tf) a0 a4 n
        for_begins v a4 o terms_are items_are comes =
            let j = put (Ok v) a4 comes in
            let since = Extends-trans more j.grows in
            let ever = Extends-trans grows since in
            record {
              grows = Extends-trans w3.grows j.grows;
              walk = went (te ∷ tf ∷ note_event ∷ counter_event ∷ []) (several (all_terms_in wanted)) w3 j.walk;
              begun = record {
                known = subst (λ (t : ForTerms). AreForTerms a4 p here t w u f count) (sym terms_are) (record {
                  first = IsValueOf-Extends ends.first w sort.Int ever k.ends.first;
                  last = IsValueOf-Extends ends.last u sort.Int ever k.ends.last;
                  note = IsNoted-Extends p here note f since noted;
                  variable = IsTerm-Extends c.variable (alone h) j.grows counter.variable;
                  variable_number = sort_at-Extends j.grows c.variable counter.variable.there ∙ counter.variable_sort;
                });
                behind = subst (λ (l : List Condition). AreThese a4 l wanted) (sym items_are) j.made.conditions;
                supply = k.ends.supply;
                there = j.made.there;
              };
            }

-- ---- the end

pub ended_so : (r : Listed) (p : Program) (here : Option RoutineId) (f : Option Annotation) (count : Counting) (wanted heads given : List Head) (s t u v : Term) (n m : Supply) (turn cs : List logic.Condition) (a b : Arena)
    → heads ≡ wanted → given ≡ heads → s ≡ u → t ≡ v
    → Comes r (ended_made p here f count.direction (number_head count.variable) s t (renamed given n) turn cs) (ended_events p here f count.direction (number_head count.variable) s t (renamed given n) turn cs) a b m
    → Comes r (ended_made p here f count.direction (number_head count.variable) u v (renamed wanted n) turn cs) (ended_events p here f count.direction (number_head count.variable) u v (renamed wanted n) turn cs) a b m
ended_so r p here f count wanted heads given s t u v n m turn cs a b is same first last h =
    subst (λ (y : Term). Comes r (ended_made p here f count.direction (number_head count.variable) u y (renamed wanted n) turn cs) (ended_events p here f count.direction (number_head count.variable) u y (renamed wanted n) turn cs) a b m) last
    (subst (λ (x : Term). Comes r (ended_made p here f count.direction (number_head count.variable) x t (renamed wanted n) turn cs) (ended_events p here f count.direction (number_head count.variable) x t (renamed wanted n) turn cs) a b m) first
    (subst (λ (l : List Head). Comes r (ended_made p here f count.direction (number_head count.variable) s t (renamed l n) turn cs) (ended_events p here f count.direction (number_head count.variable) s t (renamed l n) turn cs) a b m) (same ∙ is) h))

-- the calls of both ends in front
abbrev pub PutsBoth : Listed → Option RoutineId → ForTerms → List Condition → Type 0
PutsBoth r here t items =
    (a : Arena) (first last : List Called) (cs : List logic.Condition) → AreCalls a t.first.calls first → AreCalls a t.last.calls last → AreThese a items cs
    → ComesTo r (before_calls here (first ++ last) cs) (in_order (end_call_events here first last cs)) a a

pub last_calls_stop : (r : Listed) (g : GenFault) (here : Option RoutineId) (t : ForTerms) (items : List Condition) → IsErrAnd r (λ e. e ≡ g) → PutsInFront (Err g) here t.last items → PutsBoth r here t items
last_calls_stop r g here t items is puts a first last cs first_are last_are these n there =
    let k = puts a last cs last_are these n there in
    comes_not (made_with (before_calls here (first ++ last) cs) n) n r g (in_order (end_call_events here first last cs)) is k.grows
    (stopped_at [] (call_events here last cs) (call_events here first (before_calls here last cs) ∷ []) g a a a (nothing_walked a) k.walk)

pub both_calls_come : (r : Listed) (v : Pending) (here : Option RoutineId) (t : ForTerms) (items : List Condition) → PutsInFront (Ok v) here t.last items → PutsInFront r here t.first v.items → PutsBoth r here t items
both_calls_come r v here t items last_puts first_puts a first last cs first_are last_are these n there =
    let k = last_puts a last cs last_are these n there in
    let j = first_puts a first (before_calls here last cs) first_are k.made.conditions n there in
    let goal = made_with (before_calls here (first ++ last) cs) n in
    comes_last r goal n (call_events here last cs ∷ []) (call_events here first (before_calls here last cs)) (went [] (call_events here last cs) (nothing_walked a) k.walk)
    (comes_as goal n r (made_with (before_calls here first (before_calls here last cs)) n) (call_events here first (before_calls here last cs)) (call_events here first (before_calls here last cs))
    (ap (λ (l : List logic.Condition). made_with l n) (sym (calls_both here first last cs))) refl j)

module _ (p : Program) (here : Option RoutineId) (f : Option Annotation) (count : Counting) (t : ForTerms) (w u : Valued) (fresh : Renamed) (turn cs : List logic.Condition) (a b : Arena) (m : Supply) where
  abbrev ended : Made
  ended = ended_made p here f count.direction (number_head count.variable) w.term u.term fresh turn cs

  abbrev ended_by : List Event
  ended_by = ended_events p here f count.direction (number_head count.variable) w.term u.term fresh turn cs

  pub for_never : (r : Listed) (g : GenFault) → IsErrAnd r (λ e. e ≡ g) → g ≡ fault.Memory → EndsFor r p here f count w u fresh turn cs a a m
  for_never r g is memory = comes_never (for_made p here f count w u fresh turn cs) m r g (in_order (for_end p here f count w u fresh turn cs)) is memory (Extends-refl a)

  pub for_end_stops : (r : Listed) (g : GenFault) → IsErrAnd r (λ e. e ≡ g)
      → Comes (Err g) (ended_made p here f count.direction (number_head count.variable) w.term u.term fresh turn cs) (ended_events p here f count.direction (number_head count.variable) w.term u.term fresh turn cs) a b m
      → EndsFor r p here f count w u fresh turn cs a b m
  for_end_stops r g is k =
      comes_not (for_made p here f count w u fresh turn cs) m r g (in_order (for_end p here f count w u fresh turn cs)) is k.grows
      (stopped_at [] ended_by (end_call_events here w.calls u.calls ended.conditions) g a a b (nothing_walked a) k.walk)

  pub for_end_comes : (r : Listed) (v : Pending) → IsValueOf a t.first w sort.Int → IsValueOf a t.last u sort.Int
      → Comes (Ok v) (ended_made p here f count.direction (number_head count.variable) w.term u.term fresh turn cs) (ended_events p here f count.direction (number_head count.variable) w.term u.term fresh turn cs) a b m
      → PutsBoth r here t v.items → EndsFor r p here f count w u fresh turn cs a b m
  for_end_comes r v first last k puts =
      let conditions = before_calls here (w.calls ++ u.calls) ended.conditions in
      let c = puts b w.calls u.calls ended.conditions (AreCalls-Extends t.first.calls w.calls k.grows first.calls) (AreCalls-Extends t.last.calls u.calls k.grows last.calls) k.made.conditions m k.made.there in
      let left = k.made.supply in
      comes_on r (for_made p here f count w u fresh turn cs) m (ended_by ∷ []) (end_call_events here w.calls u.calls ended.conditions) (went [] ended_by (nothing_walked a) k.walk)
      (comes_as (for_made p here f count w u fresh turn cs) m r (made_with conditions m) (in_order (end_call_events here w.calls u.calls ended.conditions)) (in_order (end_call_events here w.calls u.calls ended.conditions))
      (λ i. made_with conditions (left i)) refl c)
