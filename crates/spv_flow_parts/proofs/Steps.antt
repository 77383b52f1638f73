-- Steps of a walk one behind the other.
use Rattle.std.proofs.Common.{◌≡◌, List, [], ◌∷◌, ◌++◌, Result, Ok, Err, IfOk, IsErrAnd, refl, sym, ap, subst, ◌∙◌, arith}
use Rattle.std.proofs.lemmas.List.{append_assoc}
use Rattle.spv_logic.specs.declared.conditions.TermId.{TermId}
use Rattle.spv_logic.specs.Terms.{Term}
use Rattle.spv_logic.specs.Conditions as logic
use Rattle.spv_term.specs.declared.nodes.Condition.{Condition}
use Rattle.spv_term.specs.Arena.{Arena, Extends}
use Rattle.spv_term.proofs.ArenaLemmas.{Extends-trans, tree-Extends, length-Extends}
use Rattle.spv_program.specs.Programs.{Program}
use Rattle.spv_program.specs.Supplies.{Supply}
use Rattle.spv_assign.specs.Conditions.{AreIn}
use Rattle.spv_assign.proofs.Growing.{AreIn-Extends, conditions_of-Extends}
use Rattle.spv_meaning.specs.Before.{Made}
use Rattle.spv_assign.specs.declared.creation_trace.faults.GenFault.{GenFault}
use Rattle.spv_assign.specs.declared.creation_trace.faults.GenFault.TheVariants as fault
use Rattle.spv_assign.specs.creation_trace.Events.{Event, Walked, Stops, Answers}
use Rattle.spv_assign.specs.creation_trace.StatementEvents.{in_order}
use Rattle.spv_assign.proofs.creation_trace.Walks.{walked_behind, stopped_first, stopped_behind, answered_behind}
use Rattle.spv_assign.specs.limited_steps.Makes.{IsTerm}
use Rattle.spv_assign.proofs.limited_steps.Limits.{same_stop}
use Rattle.spv_flow_parts.specs.declared.bodies.Body.{Body}
use Rattle.spv_flow_parts.specs.Standing.{Stands}
use Rattle.spv_flow_parts.specs.Walks.{AreThese, IsMade, Listed, Comes, made_of}

pub append_nil : {X : Type 0} (xs : List X) → xs ++ [] ≡ xs
append_nil [] = refl
append_nil (x ∷ xs) = ap (λ l. x ∷ l) (append_nil xs)

pub in_order_both : (xs ys : List (List Event)) → in_order (xs ++ ys) ≡ in_order xs ++ in_order ys
in_order_both [] ys = refl
in_order_both (x ∷ xs) ys = ap (λ (l : List Event). x ++ l) (in_order_both xs ys) ∙ sym (append_assoc x (in_order xs) (in_order ys))

-- ---- walks

-- one step more
pub went : (done : List (List Event)) (more : List Event) {a b c : Arena} → Walked (in_order done) a b → Walked more b c → Walked (in_order (done ++ more ∷ [])) a c
went done more {a} {b} {c} first rest =
    subst (λ (l : List Event). Walked l a c) (sym (in_order_both done (more ∷ [])))
    (walked_behind (in_order done) (more ++ []) first (subst (λ (l : List Event). Walked l b c) (sym (append_nil more)) rest))

-- several steps more
pub went_on : (done more : List (List Event)) {a b c : Arena} → Walked (in_order done) a b → Walked (in_order more) b c → Walked (in_order (done ++ more)) a c
went_on done more {a} {b} {c} first rest =
    subst (λ (l : List Event). Walked l a c) (sym (in_order_both done more)) (walked_behind (in_order done) (in_order more) first rest)

-- a step that stops
pub stopped_at : (done : List (List Event)) (now : List Event) (rest : List (List Event)) (e : GenFault) (a b c : Arena) → Walked (in_order done) a b → Stops e now b c → Stops e (in_order (done ++ now ∷ rest)) a c
stopped_at done now rest e a b c first stops =
    subst (λ (l : List Event). Stops e l a c) (sym (in_order_both done (now ∷ rest)))
    (stopped_behind e (in_order done) (now ++ in_order rest) a b c first (stopped_first e now (in_order rest) b c stops))

-- several steps of which one stops
pub stopped_among : (done now rest : List (List Event)) (e : GenFault) (a b c : Arena) → Walked (in_order done) a b → Stops e (in_order now) b c → Stops e (in_order (done ++ (now ++ rest))) a c
stopped_among done now rest e a b c first stops =
    subst (λ (l : List Event). Stops e l a c) (sym (in_order_both done (now ++ rest) ∙ ap (λ (l : List Event). in_order done ++ l) (in_order_both now rest)))
    (stopped_behind e (in_order done) (in_order now ++ in_order rest) a b c first (stopped_first e (in_order now) (in_order rest) b c stops))

-- what the last steps answer
pub answered_on : {X : Type 0} (r : Result X GenFault) (done more : List (List Event)) (a b c : Arena) → Walked (in_order done) a b → Answers r (in_order more) b c → Answers r (in_order (done ++ more)) a c
answered_on r done more a b c first rest =
    subst (λ (l : List Event). Answers r l a c) (sym (in_order_both done more)) (answered_behind r (in_order done) (in_order more) a b c first rest)

-- ---- what comes of it

pub stops_memory : (e : GenFault) (events : List Event) (a b : Arena) → e ≡ fault.Memory → Stops e events a b
stops_memory e events a b is = subst (λ (f : GenFault). Stops f events a b) (sym is) tt

module _ (m : Made) (n : Supply) {a b : Arena} where
  -- nothing comes of a fault
  pub comes_not : (r : Listed) (e : GenFault) (events : List Event) → IsErrAnd r (λ f. f ≡ e) → Extends a b → Stops e events a b → Comes r m events a b n
  comes_not r e events is grows stops = record { grows = grows; walk = same_stop r e events a b is stops; made = none r is }
    where
      none : (r : Listed) → IsErrAnd r (λ f. f ≡ e) → IfOk r (λ cs. IsMade b n cs.items m)
      none (Ok cs) h = absurd h
      none (Err f) h = tt

  -- nothing comes where memory is wanting
  pub comes_never : (r : Listed) (e : GenFault) (events : List Event) → IsErrAnd r (λ f. f ≡ e) → e ≡ fault.Memory → Extends a b → Comes r m events a b n
  comes_never r e events is memory grows = comes_not r e events is grows (stops_memory e events a b memory)

  -- what comes by other names for the same
  pub comes_as : (r : Listed) (m' : Made) (events' events : List Event) → m' ≡ m → events' ≡ events → Comes r m' events' a b n → Comes r m events a b n
  comes_as r m' events' events e f h = record {
    grows = h.grows;
    walk = subst (λ (l : List Event). Answers r l a b) f h.walk;
    made = subst (λ (k : Made). IfOk r (λ cs. IsMade b n cs.items k)) e h.made;
  }

-- what comes behind steps
pub comes_on : (r : Listed) (m : Made) (n : Supply) (done more : List (List Event)) {a b c : Arena} → Walked (in_order done) a b → Comes r m (in_order more) b c n → Comes r m (in_order (done ++ more)) a c n
comes_on r m n done more {a} {b} {c} first h = record {
  grows = Extends-trans first.grows h.grows;
  walk = answered_on r done more a b c first h.walk;
  made = h.made;
}

pub comes_last : (r : Listed) (m : Made) (n : Supply) (done : List (List Event)) (last : List Event) {a b c : Arena} → Walked (in_order done) a b → Comes r m last b c n → Comes r m (in_order (done ++ last ∷ [])) a c n
comes_last r m n done last {a} {b} {c} first h =
    comes_on r m n done (last ∷ []) first (record { grows = h.grows; walk = subst (λ (l : List Event). Answers r l b c) (sym (append_nil last)) h.walk; made = h.made })

-- the exit of a step that stops
pub exit : (r : Listed) (e : GenFault) (m : Made) (n : Supply) (done : List (List Event)) (now : List Event) (rest : List (List Event)) {a b c : Arena}
    → IsErrAnd r (λ f. f ≡ e) → Walked (in_order done) a b → Extends b c → Stops e now b c → Comes r m (in_order (done ++ now ∷ rest)) a c n
exit r e m n done now rest {a} {b} {c} is first grows stops =
    comes_not m n r e (in_order (done ++ now ∷ rest)) is (Extends-trans first.grows grows) (stopped_at done now rest e a b c first stops)

-- ---- arenas that grow

pub Stands-Extends : (p : Program) (body : Body) {a b : Arena} → Extends a b → Stands p body a → Stands p body b
Stands-Extends p body more h = record {
  body = h.body;
  shapes = more.shapes ∙ h.shapes;
  decls = more.decls ∙ h.decls;
  declarations = h.declarations;
  heading = h.heading;
}

pub AreThese-Extends : {a b : Arena} (items : List Condition) (conditions : List logic.Condition) → Extends a b → AreThese a items conditions → AreThese b items conditions
AreThese-Extends items conditions more h = record {
  same = conditions_of-Extends more items h.in_range ∙ h.same;
  in_range = AreIn-Extends more items h.in_range;
}

pub IsTerm-Extends : {a b : Arena} (t : TermId) (x : Term) → Extends a b → IsTerm a t x → IsTerm b t x
IsTerm-Extends t x more h = record {
  there = let longer = length-Extends more in let there = h.there in omega (arith, longer, there);
  is_tree = tree-Extends more t h.there ∙ h.is_tree;
}

pub made_of-Extends : {a b : Arena} (items : List Condition) (n : Supply) → Extends a b → AreIn a items → made_of b items n ≡ made_of a items n
made_of-Extends items n more h = let e = conditions_of-Extends more items h in λ i. record { conditions = e i; supply = n }
