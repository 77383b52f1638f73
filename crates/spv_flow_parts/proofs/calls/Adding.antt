-- Calls, values and arguments that are made one after the other, behind calls that are there.
use Rattle.std.specs.Bool.{⊤}
use Rattle.std.proofs.Common.{◌≡◌, List, [], ◌++◌, Result, Ok, Err, IsErrAnd, refl, sym, ap, subst, ◌∙◌}
use Rattle.std.proofs.lemmas.List.{append_assoc, append-nil}
use Rattle.spv_logic.specs.declared.operators.Head.{Head}
use Rattle.spv_term.specs.Arena.{Arena, Extends}
use Rattle.spv_term.proofs.ArenaLemmas.{Extends-refl, Extends-trans}
use Rattle.spv_program.specs.Supplies.{Supply}
use Rattle.spv_expression_terms.specs.term_walk.OuterCalls.{MadeCalls}
use Rattle.spv_assign.specs.declared.creation_trace.faults.GenFault.{GenFault}
use Rattle.spv_assign.specs.creation_trace.Events.{Event, Stops}
use Rattle.spv_assign.specs.supply.Numbers.{AreThere}
use Rattle.spv_assign.proofs.creation_trace.Walks.{nothing_walked, walked_behind, answered_behind}
use Rattle.spv_assign.proofs.limited_steps.Limits.{same_stop}
use Rattle.spv_flow_parts.specs.declared.leaves.valued.Called as code_called
use Rattle.spv_flow_parts.specs.leaves.Values.{AreCalls}
use Rattle.spv_flow_parts.specs.calls.Arguments.{AddsCalls}

abbrev no_calls_made : Supply → MadeCalls
no_calls_made n = record { variables = []; calls = []; supply = n }

abbrev pub both : MadeCalls → MadeCalls → MadeCalls
both g h = record { variables = g.variables ++ h.variables; calls = g.calls ++ h.calls; supply = h.supply }

-- no call
pub adds_none : (a : Arena) (vs : List Head) (cs : List code_called.Called) (n : Supply) → AreThere a n → AddsCalls (Ok tt) (no_calls_made n) [] a a vs vs cs cs n
adds_none a vs cs n there = record {
  grows = Extends-refl a;
  walk = nothing_walked a;
  heads = sym (append-nil vs);
  calls = λ before h. subst (AreCalls a cs) (sym (append-nil before)) h;
  supply = refl;
  there = there;
}

-- nothing is said of calls behind a fault
pub adds_stop : (r : Result ⊤ GenFault) (e : GenFault) (w : MadeCalls) (events : List Event) (a b : Arena) (vs us : List Head) (cs ds : List code_called.Called) (n : Supply)
    → IsErrAnd r (λ f. f ≡ e) → Extends a b → Stops e events a b → AddsCalls r w events a b vs us cs ds n
adds_stop (Ok t) e w events a b vs us cs ds n is grows stops = absurd is
adds_stop (Err f) e w events a b vs us cs ds n is grows stops = record {
  grows = grows;
  walk = same_stop {X = ⊤} (Err f) e events a b is stops;
  heads = tt;
  calls = λ before h. tt;
  supply = tt;
  there = tt;
}

-- calls behind others
pub adds_both : (r : Result ⊤ GenFault) (g h : MadeCalls) (xs ys : List Event) (a b c : Arena) (us vs ws : List Head) (cs ds es : List code_called.Called) (m n : Supply)
    → AddsCalls (Ok tt) g xs a b us vs cs ds m → AddsCalls r h ys b c vs ws ds es n → AddsCalls r (both g h) (xs ++ ys) a c us ws cs es n
adds_both (Ok t) g h xs ys a b c us vs ws cs ds es m n first rest = record {
  grows = Extends-trans first.grows rest.grows;
  walk = walked_behind xs ys first.walk rest.walk;
  heads = rest.heads ∙ (ap (λ (l : List Head). l ++ h.variables) first.heads ∙ append_assoc us g.variables h.variables);
  calls = λ before there. subst (AreCalls c es) (append_assoc before g.calls h.calls) (rest.calls (before ++ g.calls) (first.calls before there));
  supply = rest.supply;
  there = rest.there;
}
adds_both (Err e) g h xs ys a b c us vs ws cs ds es m n first rest = record {
  grows = Extends-trans first.grows rest.grows;
  walk = answered_behind {X = ⊤} (Err e) xs ys a b c first.walk rest.walk;
  heads = tt;
  calls = λ before there. tt;
  supply = tt;
  there = tt;
}

-- the same by other names
pub adds_as : (r : Result ⊤ GenFault) (g h : MadeCalls) (xs ys : List Event) (a b : Arena) (us vs : List Head) (cs ds : List code_called.Called) (n : Supply)
    → g ≡ h → xs ≡ ys → AddsCalls r g xs a b us vs cs ds n → AddsCalls r h ys a b us vs cs ds n
adds_as r g h xs ys a b us vs cs ds n e f k = subst (λ (w : MadeCalls). AddsCalls r w ys a b us vs cs ds n) e (subst (λ (l : List Event). AddsCalls r g l a b us vs cs ds n) f k)
