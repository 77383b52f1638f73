-- Conditions that are made one after the other.
use Rattle.std.proofs.Common.{◌≡◌, List, [], ◌∷◌, ◌++◌, Ok, Err, IsErrAnd, sym, subst}
use Rattle.spv_term.specs.declared.nodes.Condition.{Condition}
use Rattle.spv_term.specs.Arena.{Arena}
use Rattle.spv_program.specs.Supplies.{Supply}
use Rattle.spv_meaning.specs.Before.{Made}
use Rattle.spv_assign.specs.declared.pending.pending.Pending.{Pending}
use Rattle.spv_assign.specs.declared.creation_trace.faults.GenFault.{GenFault}
use Rattle.spv_assign.specs.creation_trace.Events.{Event, Stops}
use Rattle.spv_assign.specs.creation_trace.StatementEvents.{in_order}
use Rattle.spv_assign.proofs.creation_trace.Walks.{stopped_first}
use Rattle.spv_flow_parts.specs.Walks.{Comes, IsMade, Listed, made_of}
use Rattle.spv_flow_parts.proofs.Steps.{append_nil, comes_last, comes_not, in_order_both}

-- what was made is what it says
pub made_is : (a : Arena) (n : Supply) (items : List Condition) (m : Made) → IsMade a n items m → made_of a items n ≡ m
made_is a n items m h = let same = h.conditions.same in let left = h.supply in λ i. record { conditions = same i; supply = left i }

-- a last step behind the others
pub comes_then : (r : Listed) (m w : Made) (n k : Supply) (done : List (List Event)) (last : List Event) (cs : Pending) (a b c : Arena)
    → Comes (Ok cs) w (in_order done) a b k → Comes r m last b c n → Comes r m (in_order (done ++ last ∷ [])) a c n
comes_then r m w n k done last cs a b c first h = comes_last r m n done last first.walk h

-- the others stop
pub comes_stopped : (r : Listed) (m w : Made) (n k : Supply) (done more : List (List Event)) (e : GenFault) (a b : Arena) → IsErrAnd r (λ f. f ≡ e)
    → Comes (Err e) w (in_order done) a b k → Comes r m (in_order (done ++ more)) a b n
comes_stopped r m w n k done more e a b is h =
    comes_not m n r e (in_order (done ++ more)) is h.grows (subst (λ (l : List Event). Stops e l a b) (sym (in_order_both done more)) (stopped_first e (in_order done) (in_order more) a b h.walk))

-- the first of them alone
pub comes_first : (r : Listed) (m : Made) (n : Supply) (first : List Event) (a b : Arena) → Comes r m first a b n → Comes r m (in_order (first ∷ [])) a b n
comes_first r m n first a b h = subst (λ (l : List Event). Comes r m l a b n) (sym (append_nil first)) h
