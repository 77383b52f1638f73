-- Calls in front of conditions.
use Rattle.std.proofs.Common.{◌≡◌, ◌<◌, ◌≤◌, ◌-◌, ◌+◌, ℕ, List, [], ◌∷◌, ◌++◌, length, get_or, take, drop, Ok, Err, IfOk, IsErrAnd, Option, Some, None, refl, sym, ap, subst, ◌∙◌, arith}
use Rattle.std.proofs.lemmas.List.{drop_more, take-append-drop, length-map}
use Rattle.spv_logic.specs.declared.conditions.Kind.TheVariants as kind
use Rattle.spv_logic.specs.declared.conditions.TermId.{TermId}
use Rattle.spv_logic.specs.declared.conditions.RoutineId.{RoutineId}
use Rattle.spv_logic.specs.Terms.{Term}
use Rattle.spv_logic.specs.Conditions as logic
use Rattle.spv_term.specs.declared.nodes.Condition.{Condition}
use Rattle.spv_term.specs.Arena.{AllBelow, Arena, Extends}
use Rattle.spv_term.proofs.ArenaLemmas.{Extends-refl, length-Extends}
use Rattle.spv_program.specs.Supplies.{Supply, full_supply}
use Rattle.spv_program.specs.ExpressionTerms.{Called}
use Rattle.spv_assign.specs.declared.pending.pending.Pending.{Pending}
use Rattle.spv_assign.specs.supply.Numbers.{AreThere}
use Rattle.spv_assign.specs.Conditions.{Assumes}
use Rattle.spv_meaning.specs.Before.{assuming, assuming_if_there, before_calls, wanted, wanted_entry}
use Rattle.spv_assign.specs.declared.creation_trace.faults.GenFault.{GenFault}
use Rattle.spv_assign.specs.declared.creation_trace.faults.GenFault.TheVariants as fault
use Rattle.spv_assign.specs.creation_trace.Events.{Event, Answers, Stops, Walked}
use Rattle.spv_assign.specs.creation_trace.StatementEvents.{counted}
use Rattle.spv_assign.proofs.creation_trace.Walks.{nothing_walked, walked_behind, stopped_first, stopped_behind}
use Rattle.spv_flow_parts.specs.Walks.{AreThese, wanted_item, Listed, Comes, ComesTo}
use Rattle.spv_flow_parts.proofs.Steps.{comes_not, comes_never, IsTerm-Extends}
use Rattle.spv_flow_parts.proofs.Conditions.{joined_comes, long_conditions, under_term}
use Rattle.spv_flow_parts.specs.declared.leaves.valued.Called as code
use Rattle.spv_flow_parts.specs.leaves.Values.{AreCalls, IsCall, IsTermIfThere, before_one, call_events}

-- ---- what is given and what is needed

pub under_none : (a : Arena) (t : Option TermId) (x : Option Term) (items rest : List Condition) (cs : List logic.Condition) → t ≡ None → items ≡ rest → IsTermIfThere a t x → AreThese a rest cs → AreThese a items (assuming_if_there x cs)
under_none a None None items rest cs e same h these = subst (λ (l : List Condition). AreThese a l cs) (sym same) these
under_none a None (Some x) items rest cs e same h these = absurd h
under_none a (Some t) x items rest cs e same h these = absurd (none t e)
  where
    none : (t : TermId) → Some t ≡ None → ⊥
    none t e = cc

pub under_some : (a : Arena) (t : TermId) (x : Option Term) (items rest : List Condition) (cs : List logic.Condition) → Assumes t rest items → IsTermIfThere a (Some t) x → AreThese a rest cs → AreThese a items (assuming_if_there x cs)
under_some a t None items rest cs assumes h these = absurd h
under_some a t (Some x) items rest cs assumes h these = under_term t rest items a x cs assumes h these

pub needs_none : (a : Arena) (here : Option RoutineId) (x : Option Term) (l : ℕ) (items : List Condition) → items ≡ [] → IsTermIfThere a None x → AreThese a items (wanted_entry here l x)
needs_none a here None l items e h = subst (λ (k : List Condition). AreThese a k []) (sym e) (record { same = refl; in_range = tt })
needs_none a here (Some x) l items e h = absurd h

pub needs_some : (a : Arena) (here : Option RoutineId) (t : TermId) (x : Option Term) (line l : ℕ) (items : List Condition) → items ≡ wanted_item here kind.Entry t line ∷ [] → line ≡ l → IsTermIfThere a (Some t) x → AreThese a items (wanted_entry here l x)
needs_some a here t None line l items e same h = absurd h
needs_some a here t (Some x) line l items e same h =
    subst (λ (k : List Condition). AreThese a k (wanted_entry here l (Some x))) (sym e) (record {
      same = let term = h.is_tree in λ i. wanted here kind.Entry (same i) (term i) ∷ [];
      in_range = (record { given = tt; goal = h.there }, tt);
    })

-- ---- lengths

long_assuming : (x : Option Term) (cs : List logic.Condition) → length (assuming_if_there x cs) ≡ length cs
long_assuming None cs = refl
long_assuming (Some t) cs = length-map cs (assuming t)

long_these : (a : Arena) (items : List Condition) (cs : List logic.Condition) → AreThese a items cs → length items ≡ length cs
long_these a items cs h = sym (long_conditions a items) ∙ ap (λ (l : List logic.Condition). length l) h.same

-- ---- no fresh variable

nothing_taken : (a : Arena) → AreThere a full_supply
nothing_taken a = record { names = λ x k low high. absurd (none k low high); classes = λ t k low high. absurd (none k low high) }
  where
    none : (k : ℕ) → 0 < k → k ≤ 0 → ⊥
    none k low high = omega (arith, low, high)

-- ---- one call

module _ (here : Option RoutineId) (c : code.Called) (rest : List Condition) (a : Arena) (d : Called) (cs : List logic.Condition) where
  abbrev count : List Event
  count = counted (length (wanted_entry here d.line d.needs) + length cs)

  pub call_never : (r : Listed) (g : GenFault) → IsErrAnd r (λ e. e ≡ g) → g ≡ fault.Memory → ComesTo r (before_one here d cs) (counted (length (wanted_entry here d.line d.needs) + length cs)) a a
  call_never r g is memory n there = comes_never (record { conditions = before_one here d cs; supply = n }) n r g count is memory (Extends-refl a)

  pub call_comes : (r : Listed) (first under : List Condition) → IsCall a c d → AreThese a first (wanted_entry here d.line d.needs) → AreThese a under (assuming_if_there d.gives cs)
      → IfOk r (λ all. all.items ≡ first ++ under) → Answers r (counted (length first + length under)) a a → ComesTo r (before_one here d cs) (counted (length (wanted_entry here d.line d.needs) + length cs)) a a
  call_comes r first under is needs gives joined answers =
      let long : length first ≡ length (wanted_entry here d.line d.needs) = long_these a first (wanted_entry here d.line d.needs) needs in
      let under_long : length under ≡ length cs = long_these a under (assuming_if_there d.gives cs) gives ∙ long_assuming d.gives cs in
      subst (λ k. ComesTo r (before_one here d cs) (counted k) a a) (λ i. long i + under_long i)
      (joined_comes r first under (wanted_entry here d.line d.needs) (assuming_if_there d.gives cs) a joined answers needs gives)

-- ---- all calls

-- the last calls are in front
pub record AreInFront (a : Arena) (here : Option RoutineId) (ds : List Called) (cs : List logic.Condition) (items : List Condition) : Type 0 where
  pub walked : Walked (call_events here ds cs) a a
  pub these : AreThese a items (before_calls here ds cs)

pub record CallsSoFar (here : Option RoutineId) (done : List code.Called) (rest items : List Condition) : Type 0 where
  pub each : (a : Arena) (ds : List Called) (cs : List logic.Condition) → AreCalls a done ds → AreThese a rest cs → AreInFront a here ds cs items

pub calls_begin : (here : Option RoutineId) (done : List code.Called) (rest items : List Condition) → done ≡ [] → items ≡ rest → CallsSoFar here done rest items
calls_begin here done rest items none same =
    subst (λ (l : List code.Called). CallsSoFar here l rest items) (sym none) (subst (λ (l : List Condition). CallsSoFar here [] rest l) (sym same) (record { each = by }))
  where
    by : (a : Arena) (ds : List Called) (cs : List logic.Condition) → AreCalls a [] ds → AreThese a rest cs → AreInFront a here ds cs rest
    by a [] cs h these = record { walked = nothing_walked a; these = these }
    by a (d ∷ ds) cs h these = absurd h

-- the call in front of those that are done
pub one_before : (all : List code.Called) (place : ℕ) (c d : code.Called) → 0 < place → place ≤ length all → c ≡ get_or all (place - 1) d → drop (place - 1) all ≡ c ∷ drop place all
one_before all place c d some within is =
    let e : place - 1 + 1 ≡ place = omega (arith, some) in
    let below : place - 1 < length all = omega (arith, some, within) in
    subst (λ (k : ℕ). drop (place - 1) all ≡ c ∷ drop k all) e (drop_more all (place - 1) d below ∙ ap (λ (x : code.Called). x ∷ drop (place - 1 + 1) all) (sym is))

-- what stops a call stops the calls in front of it
stops_in_front : (a : Arena) (here : Option RoutineId) (xs ys : List code.Called) (ds : List Called) (cs : List logic.Condition) (g : GenFault) → AreCalls a (xs ++ ys) ds
    → ((es : List Called) → AreCalls a ys es → Stops g (call_events here es cs) a a) → Stops g (call_events here ds cs) a a
stops_in_front a here [] ys ds cs g h k = k ds h
stops_in_front a here (x ∷ xs) ys [] cs g h k = absurd h
stops_in_front a here (x ∷ xs) ys (d ∷ ds) cs g h k =
    stopped_first g (call_events here ds cs) (counted (length (wanted_entry here d.line d.needs) + length (before_calls here ds cs))) a a (stops_in_front a here xs ys ds cs g h.1 k)

module _ (here : Option RoutineId) (done : List code.Called) (rest items : List Condition) (so_far : CallsSoFar here done rest items) (c : code.Called) where
  module _ (r : Listed) (comes : (a : Arena) (d : Called) (cs : List logic.Condition) → IsCall a c d → AreThese a items cs → ComesTo r (before_one here d cs) (counted (length (wanted_entry here d.line d.needs) + length cs)) a a) where
    one_more : (a : Arena) (n : Supply) → AreThere a n → (d : Called) (ds : List Called) (cs : List logic.Condition) → IsCall a c d → AreCalls a done ds → AreThese a rest cs
        → Comes r (record { conditions = before_calls here (d ∷ ds) cs; supply = n }) (counted (length (wanted_entry here d.line d.needs) + length (before_calls here ds cs))) a a n
    one_more a n there d ds cs is h these = comes a d (before_calls here ds cs) is (so_far.each a ds cs h these).these n there

  pub calls_go_on : (v : Pending) (next : List code.Called) → next ≡ c ∷ done
      → ((a : Arena) (d : Called) (cs : List logic.Condition) → IsCall a c d → AreThese a items cs → ComesTo (Ok v) (before_one here d cs) (counted (length (wanted_entry here d.line d.needs) + length cs)) a a)
      → CallsSoFar here next rest v.items
  calls_go_on v next e comes = subst (λ (l : List code.Called). CallsSoFar here l rest v.items) (sym e) (record { each = by })
    where
      by : (a : Arena) (ds : List Called) (cs : List logic.Condition) → AreCalls a (c ∷ done) ds → AreThese a rest cs → AreInFront a here ds cs v.items
      by a [] cs h these = absurd h
      by a (d ∷ ds) cs h these =
          let k = one_more (Ok v) comes a full_supply (nothing_taken a) d ds cs h.0 h.1 these in
          record {
            walked = walked_behind (call_events here ds cs) (counted (length (wanted_entry here d.line d.needs) + length (before_calls here ds cs))) (so_far.each a ds cs h.1 these).walked k.walk;
            these = k.made.conditions;
          }

  pub calls_stop : (r : Listed) (g : GenFault) (all : List code.Called) (place : ℕ) → drop place all ≡ c ∷ done → IsErrAnd r (λ e. e ≡ g)
      → ((a : Arena) (d : Called) (cs : List logic.Condition) → IsCall a c d → AreThese a items cs → ComesTo (Err g) (before_one here d cs) (counted (length (wanted_entry here d.line d.needs) + length cs)) a a)
      → (a : Arena) (ds : List Called) (cs : List logic.Condition) → AreCalls a all ds → AreThese a rest cs → ComesTo r (before_calls here ds cs) (call_events here ds cs) a a
  calls_stop r g all place e is comes a ds cs h these n there =
      comes_not (record { conditions = before_calls here ds cs; supply = n }) n r g (call_events here ds cs) is (Extends-refl a)
      (stops_in_front a here (take place all) (c ∷ done) ds cs g (subst (λ (l : List code.Called). AreCalls a l ds) (sym whole) h) stops)
    where
      whole : take place all ++ c ∷ done ≡ all
      whole = ap (λ (l : List code.Called). take place all ++ l) (sym e) ∙ take-append-drop place all

      stops : (es : List Called) → AreCalls a (c ∷ done) es → Stops g (call_events here es cs) a a
      stops [] k = absurd k
      stops (d ∷ es) k =
          stopped_behind g (call_events here es cs) (counted (length (wanted_entry here d.line d.needs) + length (before_calls here es cs))) a a a (so_far.each a es cs k.1 these).walked
          (one_more (Err g) comes a n there d es cs k.0 k.1 these).walk

pub calls_come : (here : Option RoutineId) (done all : List code.Called) (rest items : List Condition) (v : Pending) → done ≡ all → v.items ≡ items → CallsSoFar here done rest items
    → (a : Arena) (ds : List Called) (cs : List logic.Condition) → AreCalls a all ds → AreThese a rest cs → ComesTo (Ok v) (before_calls here ds cs) (call_events here ds cs) a a
calls_come here done all rest items v is same so_far a ds cs h these n there =
    let k = so_far.each a ds cs (subst (λ (l : List code.Called). AreCalls a l ds) (sym is) h) these in
    record {
      grows = Extends-refl a;
      walk = k.walked;
      made = record { conditions = subst (λ (l : List Condition). AreThese a l (before_calls here ds cs)) (sym same) k.these; supply = refl; there = there };
    }

-- ---- arenas that grow

AllBelow-more : (m n : ℕ) (ts : List TermId) → m ≤ n → AllBelow m ts → AllBelow n ts
AllBelow-more m n [] more h = tt
AllBelow-more m n (t ∷ ts) more h = (let below = h.0 in omega (arith, more, below), AllBelow-more m n ts more h.1)

pub IsTermIfThere-Extends : {a b : Arena} (t : Option TermId) (x : Option Term) → Extends a b → IsTermIfThere a t x → IsTermIfThere b t x
IsTermIfThere-Extends None None more h = tt
IsTermIfThere-Extends (Some t) (Some x) more h = IsTerm-Extends t x more h
IsTermIfThere-Extends None (Some x) more h = absurd h
IsTermIfThere-Extends (Some t) None more h = absurd h

pub AreCalls-Extends : {a b : Arena} (cs : List code.Called) (ds : List Called) → Extends a b → AreCalls a cs ds → AreCalls b cs ds
AreCalls-Extends [] [] more h = tt
AreCalls-Extends {a} {b} (c ∷ cs) (d ∷ ds) more h = (
  record {
    args = AllBelow-more (length a.nodes) (length b.nodes) c.args (length-Extends more) h.0.args;
    needs = IsTermIfThere-Extends c.needs d.needs more h.0.needs;
    gives = IsTermIfThere-Extends c.gives d.gives more h.0.gives;
    line = h.0.line;
  },
  AreCalls-Extends cs ds more h.1,
)
AreCalls-Extends [] (d ∷ ds) more h = absurd h
AreCalls-Extends (c ∷ cs) [] more h = absurd h

-- ---- calls behind calls

pub calls_both : (here : Option RoutineId) (xs ys : List Called) (cs : List logic.Condition) → before_calls here (xs ++ ys) cs ≡ before_calls here xs (before_calls here ys cs)
calls_both here [] ys cs = refl
calls_both here (x ∷ xs) ys cs = ap (before_one here x) (calls_both here xs ys cs)
