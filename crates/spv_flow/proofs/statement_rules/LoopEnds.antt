-- The conditions of a loop behind those before its body.
use Rattle.std.proofs.Common.{◌≡◌, List, [], ◌∷◌, length, Ok, Err, IsErrAnd, Option, sym, ap, subst, ◌∙◌}
use Rattle.spv_logic.specs.declared.conditions.RoutineId.{RoutineId}
use Rattle.spv_logic.specs.declared.operators.Head.{Head}
use Rattle.spv_logic.specs.declared.types.Shape.{Shape}
use Rattle.spv_logic.specs.Conditions as logic
use Rattle.spv_term.specs.declared.nodes.Condition.{Condition}
use Rattle.spv_term.specs.Arena.{Arena, Extends}
use Rattle.spv_term.proofs.ArenaLemmas.{Extends-refl}
use Rattle.spv_program.specs.Formulas.{Annotation}
use Rattle.spv_program.specs.Programs.{Program}
use Rattle.spv_program.specs.Supplies.{Supply}
use Rattle.spv_program.specs.ExpressionTerms.{Valued}
use Rattle.spv_assign.specs.declared.pending.pending.Pending.{Pending}
use Rattle.spv_assign.specs.supply.Numbers.{AreThere}
use Rattle.spv_assign.specs.Conditions.{conditions_of, AreIn}
use Rattle.spv_meaning.specs.Before.{Renamed, negated, renamed}
use Rattle.spv_assign.specs.declared.creation_trace.faults.GenFault.{GenFault}
use Rattle.spv_assign.specs.declared.creation_trace.faults.GenFault.TheVariants as fault
use Rattle.spv_assign.specs.creation_trace.Events.{Event}
use Rattle.spv_assign.specs.creation_trace.StatementEvents.{one, counted, in_order, loop_events}
use Rattle.spv_assign.proofs.creation_trace.Walks.{nothing_walked}
use Rattle.spv_flow_parts.specs.Standing.{AllRenamed}
use Rattle.spv_flow_parts.specs.Walks.{Listed, Comes, ComesTo, loop_made}
use Rattle.spv_flow_parts.proofs.Steps.{comes_not, comes_never, comes_last, stopped_among}
use Rattle.spv_flow_parts.specs.leaves.Values.{call_events}
use Rattle.spv_flow.specs.statement_rules.Rules.{ways_made, tested_made, tested_events, while_end}
use Rattle.spv_flow.proofs.statement_rules.WayLemmas.{made_with, long_ways}

-- what is renamed, by what was handed on
pub heads_there : (shapes : List Shape) (wanted heads given : List Head) → heads ≡ wanted → given ≡ heads → AllRenamed shapes wanted → AllRenamed shapes given
heads_there shapes wanted heads given is same h = subst (AllRenamed shapes) (sym (same ∙ is)) h

pub ended_as : (r : Listed) (p : Program) (here : Option RoutineId) (f : Option Annotation) (wanted heads given : List Head) (n m : Supply) (cs : List logic.Condition) (a b : Arena) → heads ≡ wanted → given ≡ heads
    → Comes r (loop_made p here f (renamed given n) cs) (loop_events p here f (renamed given n) cs) a b m
    → Comes r (loop_made p here f (renamed wanted n) cs) (loop_events p here f (renamed wanted n) cs) a b m
ended_as r p here f wanted heads given n m cs a b is same h =
    subst (λ (l : List Head). Comes r (loop_made p here f (renamed l n) cs) (loop_events p here f (renamed l n) cs) a b m) (same ∙ is) h

-- where memory is wanting for what is renamed
pub ended_never : (r : Listed) (p : Program) (here : Option RoutineId) (f : Option Annotation) (fresh : Renamed) (m : Supply) (cs : List logic.Condition) (a : Arena) (g : GenFault) → IsErrAnd r (λ y. y ≡ g) → g ≡ fault.Memory
    → Comes r (loop_made p here f fresh cs) (loop_events p here f fresh cs) a a m
ended_never r p here f fresh m cs a g is memory = comes_never (loop_made p here f fresh cs) m r g (loop_events p here f fresh cs) is memory (Extends-refl a)

-- ---- WHILE

module _ (p : Program) (here : Option RoutineId) (f : Option Annotation) (fresh : Renamed) (w : Valued) (turn cs : List logic.Condition) (a0 a1 : Arena) where
  abbrev uses : List logic.Condition
  uses = ways_made w.term (negated w.term) turn cs

  abbrev behind : List logic.Condition
  behind = tested_made here w turn cs

  abbrev first : List (List Event)
  first = one (negated w.term) ∷ counted (length uses) ∷ call_events here w.calls uses ∷ []

  same_count : tested_events here w turn cs ≡ first
  same_count = ap (λ count. one (negated w.term) ∷ counted count ∷ call_events here w.calls uses ∷ []) (sym (long_ways w.term (negated w.term) turn cs))

  counted_so : (r : Listed) (n : Supply) → Comes r (made_with behind n) (in_order (tested_events here w turn cs)) a0 a1 n → Comes r (made_with behind n) (in_order first) a0 a1 n
  counted_so r n h = subst (λ (l : List (List Event)). Comes r (made_with behind n) (in_order l) a0 a1 n) same_count h

  pub ways_stop : (r : Listed) (g : GenFault) (n m : Supply) → IsErrAnd r (λ y. y ≡ g) → AreThere a0 m → ComesTo (Err g) (tested_made here w turn cs) (in_order (tested_events here w turn cs)) a0 a1
      → Comes r (loop_made p here f fresh (tested_made here w turn cs)) (in_order (while_end p here f fresh w turn cs)) a0 a1 n
  ways_stop r g n m is numbers comes =
      let k = counted_so (Err g) m (comes m numbers) in
      comes_not (loop_made p here f fresh behind) n r g (in_order (while_end p here f fresh w turn cs)) is k.grows
      (stopped_among [] first (loop_events p here f fresh behind ∷ []) g a0 a0 a1 (nothing_walked a0) k.walk)

  module _ (v : Pending) (n : Supply) (numbers : AreThere a0 n) (comes : ComesTo (Ok v) (tested_made here w turn cs) (in_order (tested_events here w turn cs)) a0 a1) where
    k : Comes (Ok v) (made_with behind n) (in_order first) a0 a1 n
    k = counted_so (Ok v) n (comes n numbers)

    pub ways_grow : Extends a0 a1
    ways_grow = k.grows

    pub ways_in : AreIn a1 v.items
    ways_in = k.made.conditions.in_range

    pub numbers_behind : AreThere a1 n
    numbers_behind = k.made.there

    pub while_ends : (r : Listed) (given : List Condition) (a2 : Arena) (m : Supply) → given ≡ v.items
        → Comes r (loop_made p here f fresh (conditions_of a1 given)) (loop_events p here f fresh (conditions_of a1 given)) a1 a2 m
        → Comes r (loop_made p here f fresh (tested_made here w turn cs)) (in_order (while_end p here f fresh w turn cs)) a0 a2 m
    while_ends r given a2 m same h =
        comes_last r (loop_made p here f fresh behind) m first (loop_events p here f fresh behind) k.walk
        (subst (λ (l : List logic.Condition). Comes r (loop_made p here f fresh l) (loop_events p here f fresh l) a1 a2 m) (ap (conditions_of a1) same ∙ k.made.conditions.same) h)
