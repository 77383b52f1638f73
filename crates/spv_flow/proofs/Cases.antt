-- The conditions before a CASE.
use Rattle.std.proofs.Common.{◌≡◌, ◌<◌, ◌+◌, ℕ, ℤ, List, [], ◌∷◌, ◌++◌, length, drop, get_or, Ok, Err, IsErrAnd, Option, Some, refl, sym, ap, subst, ◌∙◌, arith}
use Rattle.std.proofs.lemmas.List.{append_assoc, drop_more, length-append, length-map}
use Rattle.spv_logic.specs.declared.conditions.TermId.{TermId}
use Rattle.spv_logic.specs.declared.conditions.RoutineId.{RoutineId}
use Rattle.spv_logic.specs.declared.types.Sort.TheVariants as sort
use Rattle.spv_logic.specs.Terms.{Term}
use Rattle.spv_logic.specs.Conditions as logic
use Rattle.spv_term.specs.declared.nodes.Condition.{Condition}
use Rattle.spv_term.specs.Arena.{Arena, Extends, tree, sort_at}
use Rattle.spv_term.proofs.ArenaLemmas.{Extends-refl, Extends-trans, tree-Extends, sort_at-Extends, length-Extends}
use Rattle.spv_program.specs.Expressions.{Expression}
use Rattle.spv_program.specs.Statements.{Statement, Arms, Case, no_arms, arm}
use Rattle.spv_program.specs.Programs.{Program, routine_in}
use Rattle.spv_program.specs.Supplies.{Supply}
use Rattle.spv_program.specs.ExpressionTypes.{expression_sort}
use Rattle.spv_program.specs.ExpressionTerms.{Valued, valued}
use Rattle.spv_assign.specs.declared.pending.pending.Pending.{Pending}
use Rattle.spv_assign.specs.supply.Numbers.{AreThere}
use Rattle.spv_assign.specs.Conditions.{conditions_of, AreIn}
use Rattle.spv_assign.proofs.Growing.{AreIn-Extends, conditions_of-Extends}
use Rattle.spv_program.specs.declared.typed.statements.Arm.{Arm}
use Rattle.spv_program.specs.typed.StatementViews.{arms_of}
use Rattle.spv_meaning.specs.Before.{Made, before, before_arms, before_calls, assuming, all_assuming, is_label}
use Rattle.spv_assign.specs.declared.creation_trace.faults.GenFault.{GenFault}
use Rattle.spv_assign.specs.declared.creation_trace.faults.GenFault.TheVariants as fault
use Rattle.spv_assign.specs.creation_trace.Events.{Event, Walked, Stops}
use Rattle.spv_assign.specs.creation_trace.StatementEvents.{in_order}
use Rattle.spv_assign.proofs.creation_trace.Walks.{nothing_walked}
use Rattle.spv_flow_parts.specs.declared.bodies.Body.{Body}
use Rattle.spv_flow_parts.specs.Walks.{Listed, Comes, ComesTo, made_of}
use Rattle.spv_flow_parts.proofs.Steps.{append_nil, in_order_both, went, went_on, exit, stopped_among, comes_not, comes_never, comes_on, comes_last, comes_as, Stands-Extends}
use Rattle.spv_flow_parts.proofs.Conditions.{long_conditions}
use Rattle.spv_flow_parts.specs.declared.leaves.valued.Valued as code
use Rattle.spv_flow_parts.specs.leaves.Parts.{IsTaken, Making, Taking}
use Rattle.spv_flow_parts.specs.leaves.Values.{MakesValue, call_events}
use Rattle.spv_flow_parts.proofs.leaves.Chains.{made_with, behind_made}
use Rattle.spv_flow.specs.statement_rules.Rules as rule
use Rattle.spv_flow.specs.statement_rules.Events.{arm_events_by, events_by}
use Rattle.spv_flow.specs.statement_rules.Rules.{arm_made, IsTestOf, IsValueOf}
use Rattle.spv_flow.proofs.statement_rules.WayLemmas.{IsValueOf-Extends, PutsInFront}
use Rattle.spv_flow.proofs.statement_rules.LoopBegins.{sort_of_test, value_made}
use Rattle.spv_flow.specs.Walking.{MayWalk, WalksBy, AreTakenArms, MayWalkArms, WalksArms, one_arm_made, one_arm_events}
use Rattle.spv_flow.proofs.Right.{case_value, case_arms}
use Rattle.spv_flow.proofs.Growing.{within_then, walks_as, walks_behind, behind_given}

-- ---- the value

module _ (by : Making) (taking : Taking) (p : Program) (body : Body) (a0 : Arena) (n : Supply) (line : ℕ) (e : Expression) (arms : Arms) (rest : List Condition) (h : MayWalk taking p body a0 n (Case line e arms) rest) where
  abbrev here : Option RoutineId
  here = body.here

  abbrev w : Valued
  w = valued p (routine_in p here) n e

  abbrev te : List Event
  te = by.test e n

  abbrev q0 : Made
  q0 = made_with (conditions_of a0 rest) w.supply

  abbrev made_arms : Made
  made_arms = before_arms p here w.term arms q0

  abbrev arm_part : List Event
  arm_part = arm_events_by by p here w.term arms 0 q0

  abbrev goal : Made
  goal = made_with (before_calls here w.calls made_arms.conditions) made_arms.supply

  abbrev calling : List Event
  calling = call_events here w.calls made_arms.conditions

  number_is : IsTestOf taking p here e sort.Int
  number_is = case_value taking p body line e arms h.right

  pub case_value_fits : IsTestOf taking p body.here e sort.Int
  case_value_fits = number_is

  pub case_value_stops : (r : Listed) (g : GenFault) (k : Supply) (a1 : Arena) → IsErrAnd r (λ y. y ≡ g) → MakesValue (Err g) (valued p (routine_in p body.here) n e) (by.test e n) a0 a1 k
      → WalksBy r by p body.here (Case line e arms) (made_of a0 rest n) a0 a1 k
  case_value_stops r g k a1 is made = exit r g goal k [] te (arm_part ∷ calling ∷ []) is (nothing_walked a0) made.grows made.walk

  module _ (a1 : Arena) (n1 : Supply) (about : code.Valued) (made : MakesValue (Ok about) (valued p (routine_in p body.here) n e) (by.test e n) a0 a1 n1) (sorted : expression_sort p (routine_in p body.here) e ≡ Some (sort_at a1 about.term)) where
    w1 : Walked (in_order (te ∷ [])) a0 a1
    w1 = went [] te (nothing_walked a0) made.walk

    number : sort_at a1 about.term ≡ sort.Int
    number = sort_of_test taking p here e sort.Int a1 about.term number_is sorted

    pub arms_fit : MayWalkArms taking p body a1 n1 about.term arms rest
    arms_fit = record {
      stands = Stands-Extends p body made.grows h.stands;
      right = case_arms taking p body line e arms h.right;
      value = made.value.term.there;
      number = number;
      there = made.value.there;
      within = within_then taking p body h made.grows;
    }

    arms_at : (r : Listed) (a2 : Arena) (m : Supply) → WalksArms r by p body (tree a1 about.term) arms (made_of a1 rest n1) a1 a2 m → WalksArms r by p body w.term arms q0 a1 a2 m
    arms_at r a2 m c =
        let term = made.value.term.is_tree in
        subst (λ (q : Made). WalksArms r by p body w.term arms q a1 a2 m) (behind_given rest rest n1 w.supply refl made.grows h.within made.value.supply)
        (subst (λ (y : Term). WalksArms r by p body y arms (made_of a1 rest n1) a1 a2 m) term c)

    pub case_arms_stop : (r : Listed) (g : GenFault) (k m : Supply) (a2 : Arena) → IsErrAnd r (λ y. y ≡ g) → WalksArms (Err g) by p body (tree a1 about.term) arms (made_of a1 rest n1) a1 a2 m
        → WalksBy r by p body.here (Case line e arms) (made_of a0 rest n) a0 a2 k
    case_arms_stop r g k m a2 is c =
        let d = arms_at (Err g) a2 m c in
        exit r g goal k (te ∷ []) arm_part (calling ∷ []) is w1 d.grows d.walk

    pub case_comes : (v : Pending) (r : Listed) (a2 : Arena) (m : Supply) → WalksArms (Ok v) by p body (tree a1 about.term) arms (made_of a1 rest n1) a1 a2 m
        → PutsInFront r body.here about v.items → WalksBy r by p body.here (Case line e arms) (made_of a0 rest n) a0 a2 m
    case_comes v r a2 m c puts =
        let d = arms_at (Ok v) a2 m c in
        let left = d.made.supply in
        let k = puts a2 w.calls made_arms.conditions (IsValueOf-Extends about w sort.Int d.grows (value_made about w sort.Int te a0 a1 n1 made number)).calls d.made.conditions m d.made.there in
        comes_last r goal m (te ∷ arm_part ∷ []) calling (went (te ∷ []) arm_part w1 d.walk)
        (comes_as goal m r (made_with (before_calls here w.calls made_arms.conditions) m) calling calling (λ i. made_with (before_calls here w.calls made_arms.conditions) (left i)) refl k)

-- ---- one arm

module _ (by : Making) (taking : Taking) (p : Program) (body : Body) (a0 : Arena) (n : Supply) (about : TermId) (case : Arm) (rest so_far : List Condition) (h : MayWalkArms taking p body a0 n about (arms_of (case ∷ [])) rest) (so_far_in : AreIn a0 so_far) where
  abbrev at : Option RoutineId
  at = body.here

  abbrev s : Statement
  s = case.body.value

  abbrev y : Term
  y = tree a0 about

  abbrev q : Made
  q = made_of a0 rest n

  abbrev so_far_are : List logic.Condition
  so_far_are = conditions_of a0 so_far

  abbrev first : Made
  first = before p at s q

  abbrev arm_goal : Made
  arm_goal = one_arm_made p body y case.labels s so_far_are q

  abbrev ending : List (List Event)
  ending = rule.arm_events y case.labels (length so_far) first.conditions

  pub arm_fits : (given : List Condition) → given ≡ rest → IsTaken p body.here taking case.body.value → MayWalk taking p body a0 n case.body.value given
  arm_fits given same right = record { stands = h.stands; right = right; there = h.there; within = subst (AreIn a0) (sym same) h.within }

  -- memory is wanting for the conditions behind it
  pub arm_never : (r : Listed) (g : GenFault) (k : Supply) → IsErrAnd r (λ z. z ≡ g) → g ≡ fault.Memory
      → Comes r (one_arm_made p body (tree a0 about) case.labels case.body.value (conditions_of a0 so_far) (made_of a0 rest n)) (in_order (one_arm_events by p body (tree a0 about) case.labels case.body.value (length so_far) (made_of a0 rest n))) a0 a0 k
  arm_never r g k is memory = comes_never arm_goal k r g (in_order (events_by by p at s q ∷ ending)) is memory (Extends-refl a0)

  pub arm_stops : (r : Listed) (g : GenFault) (k m : Supply) (a1 : Arena) → IsErrAnd r (λ z. z ≡ g) → WalksBy (Err g) by p body.here case.body.value (made_of a0 rest n) a0 a1 m
      → Comes r (one_arm_made p body (tree a0 about) case.labels case.body.value (conditions_of a0 so_far) (made_of a0 rest n)) (in_order (one_arm_events by p body (tree a0 about) case.labels case.body.value (length so_far) (made_of a0 rest n))) a0 a1 k
  arm_stops r g k m a1 is c = exit r g arm_goal k [] (events_by by p at s q) ending is (nothing_walked a0) c.grows c.walk

  module _ (a1 : Arena) (m : Supply) (v : Pending) (c : WalksBy (Ok v) by p body.here case.body.value (made_of a0 rest n) a0 a1 m) where
    pub about_there : about.0 < length a1.nodes
    about_there = let longer = length-Extends c.grows in let there = h.value in omega (arith, longer, there)

    pub about_sort : sort_at a1 about ≡ sort.Int
    about_sort = sort_at-Extends c.grows about h.value ∙ h.number

    pub so_far_then : AreIn a1 so_far
    so_far_then = AreIn-Extends c.grows so_far so_far_in

    pub first_then : AreIn a1 v.items
    first_then = c.made.conditions.in_range

    pub arm_comes : (r : Listed) (a2 : Arena) (given : List ℤ) → given ≡ case.labels
        → ComesTo r (arm_made (tree a1 about) given (conditions_of a1 so_far) (conditions_of a1 v.items)) (in_order (rule.arm_events (tree a1 about) given (length so_far) (conditions_of a1 v.items))) a1 a2
        → Comes r (one_arm_made p body (tree a0 about) case.labels case.body.value (conditions_of a0 so_far) (made_of a0 rest n)) (in_order (one_arm_events by p body (tree a0 about) case.labels case.body.value (length so_far) (made_of a0 rest n))) a0 a2 m
    arm_comes r a2 given labels comes =
        let term : tree a1 about ≡ y = tree-Extends c.grows about h.value in
        let before_it : conditions_of a1 so_far ≡ so_far_are = conditions_of-Extends c.grows so_far so_far_in in
        let now = c.made.conditions.same in
        let left = c.made.supply in
        comes_on r arm_goal m (events_by by p at s q ∷ []) ending (went [] (events_by by p at s q) (nothing_walked a0) c.walk)
        (comes_as arm_goal m r
        (made_with (arm_made (tree a1 about) given (conditions_of a1 so_far) (conditions_of a1 v.items)) m)
        (in_order (rule.arm_events (tree a1 about) given (length so_far) (conditions_of a1 v.items)))
        (in_order ending)
        (λ i. made_with (arm_made (term i) (labels i) (before_it i) (now i)) (left i))
        (λ i. in_order (rule.arm_events (term i) (labels i) (length so_far) (now i)))
        (comes m c.made.there))

-- what was walked is this statement, behind these conditions
pub one_arm_at : (r : Listed) (by : Making) (p : Program) (here : Option RoutineId) (s given : Statement) (kept rest : List Condition) (a : Arena) (n : Supply) (b : Arena) (m : Supply) → s ≡ given → kept ≡ rest
    → WalksBy r by p here given (made_of a kept n) a b m → WalksBy r by p here s (made_of a rest n) a b m
one_arm_at r by p here s given kept rest a n b m is same h =
    walks_as r by p here s given (made_of a rest n) a b m is (walks_behind r by p here given (made_of a kept n) (made_of a rest n) a b m (ap (λ (l : List Condition). made_of a l n) same) h)

-- ---- all arms

-- the first arms are walked: with those that are left, their conditions and events are those of all arms
pub record ArmsSoFar (by : Making) (p : Program) (here : Option RoutineId) (x : Term) (all left : Arms) (q : Made) (old a : Arena) (n : Supply) (items : List Condition) : Type 0 where
  pub done : List (List Event)
  pub walked : Walked (in_order done) old a
  pub there : AreThere a n
  pub within : AreIn a items
  pub events_are : in_order done ++ arm_events_by by p here x left (length items) (made_with q.conditions n) ≡ arm_events_by by p here x all 0 q
  pub conditions_are : conditions_of a items ++ (before_arms p here x left (made_with q.conditions n)).conditions ≡ (before_arms p here x all q).conditions
  pub supply_is : (before_arms p here x left (made_with q.conditions n)).supply ≡ (before_arms p here x all q).supply

pub arms_begin : (by : Making) (p : Program) (here : Option RoutineId) (x : Term) (all : Arms) (a : Arena) (n : Supply) (rest items : List Condition) → items ≡ [] → AreThere a n → ArmsSoFar by p here x all all (made_of a rest n) a a n items
arms_begin by p here x all a n rest items none there = subst (λ (l : List Condition). ArmsSoFar by p here x all all (made_of a rest n) a a n l) (sym none) (record {
  done = [];
  walked = nothing_walked a;
  there = there;
  within = tt;
  events_are = refl;
  conditions_are = refl;
  supply_is = refl;
})

-- the arm in front of those that are left
pub next_arms : (cases : List Arm) (i : ℕ) (case d : Arm) → i < length cases → case ≡ get_or cases i d → arms_of (drop i cases) ≡ arm case.labels case.body.value (arms_of (drop (i + 1) cases))
next_arms cases i case d within is = ap arms_of (drop_more cases i d within) ∙ ap (λ (k : Arm). arms_of (k ∷ drop (i + 1) cases)) (sym is)

module _ (by : Making) (taking : Taking) (p : Program) (body : Body) (about : TermId) (all : Arms) (rest : List Condition) (old a : Arena) (start n : Supply) (items : List Condition) (case : Arm) (others : Arms)
    (h : MayWalkArms taking p body old start about all rest)
    (so_far : ArmsSoFar by p body.here (tree old about) all (arm case.labels case.body.value others) (made_of old rest start) old a n items) where
  abbrev in_body : Option RoutineId
  in_body = body.here

  abbrev z : Term
  z = tree old about

  abbrev cs : List logic.Condition
  cs = conditions_of old rest

  abbrev now : Made
  now = made_with cs n

  abbrev taken : Made
  taken = before p in_body case.body.value now

  abbrev three : List (List Event)
  three = one_arm_events by p body z case.labels case.body.value (length items) now

  abbrev next_events : ℕ → Supply → List Event
  next_events count m = arm_events_by by p in_body z others count (made_with cs m)

  more : Extends old a
  more = so_far.walked.grows

  pub case_fits : AreTakenArms taking p body (arms_of (case ∷ [])) → MayWalkArms taking p body a n about (arms_of (case ∷ [])) rest
  case_fits right = record {
    stands = Stands-Extends p body more h.stands;
    right = right;
    value = let longer = length-Extends more in let there = h.value in omega (arith, longer, there);
    number = sort_at-Extends more about h.value ∙ h.number;
    there = so_far.there;
    within = AreIn-Extends more rest h.within;
  }

  arm_at : (r : Listed) (b : Arena) (m : Supply)
      → Comes r (one_arm_made p body (tree a about) case.labels case.body.value (conditions_of a items) (made_of a rest n)) (in_order (one_arm_events by p body (tree a about) case.labels case.body.value (length items) (made_of a rest n))) a b m
      → Comes r (one_arm_made p body z case.labels case.body.value (conditions_of a items) now) (in_order three) a b m
  arm_at r b m c =
      let term : tree a about ≡ z = tree-Extends more about h.value in
      let same : made_of a rest n ≡ now = behind_made rest n n more h.within refl in
      comes_as (one_arm_made p body z case.labels case.body.value (conditions_of a items) now) m r
      (one_arm_made p body (tree a about) case.labels case.body.value (conditions_of a items) (made_of a rest n))
      (in_order (one_arm_events by p body (tree a about) case.labels case.body.value (length items) (made_of a rest n))) (in_order three)
      (λ i. one_arm_made p body (term i) case.labels case.body.value (conditions_of a items) (same i))
      (λ i. in_order (one_arm_events by p body (term i) case.labels case.body.value (length items) (same i))) c

  -- the events of this arm, and behind them those of the others
  parted : in_order (so_far.done ++ (three ++ next_events (length items + length taken.conditions) taken.supply ∷ [])) ≡ arm_events_by by p in_body z all 0 (made_of old rest start)
  parted = in_order_both so_far.done (three ++ next_events (length items + length taken.conditions) taken.supply ∷ []) ∙ so_far.events_are

  pub arms_stop : (r : Listed) (g : GenFault) (k m : Supply) (b : Arena) → IsErrAnd r (λ w. w ≡ g)
      → Comes (Err g) (one_arm_made p body (tree a about) case.labels case.body.value (conditions_of a items) (made_of a rest n)) (in_order (one_arm_events by p body (tree a about) case.labels case.body.value (length items) (made_of a rest n))) a b m
      → WalksArms r by p body (tree old about) all (made_of old rest start) old b k
  arms_stop r g k m b is c =
      let d = arm_at (Err g) b m c in
      comes_not (before_arms p in_body z all (made_of old rest start)) k r g (arm_events_by by p in_body z all 0 (made_of old rest start)) is (Extends-trans more d.grows)
      (subst (λ (l : List Event). Stops g l old b) parted (stopped_among so_far.done three (next_events (length items + length taken.conditions) taken.supply ∷ []) g old a b so_far.walked d.walk))

  pub arms_go_on : (v : Pending) (m : Supply) (b : Arena)
      → Comes (Ok v) (one_arm_made p body (tree a about) case.labels case.body.value (conditions_of a items) (made_of a rest n)) (in_order (one_arm_events by p body (tree a about) case.labels case.body.value (length items) (made_of a rest n))) a b m
      → ArmsSoFar by p body.here (tree old about) all others (made_of old rest start) old b m v.items
  arms_go_on v m b c =
      let d = arm_at (Ok v) b m c in
      let labelled = all_assuming (is_label z case.labels) taken.conditions in
      let made : conditions_of b v.items ≡ conditions_of a items ++ labelled = d.made.conditions.same in
      let left : m ≡ taken.supply = d.made.supply in
      let long : length v.items ≡ length items + length taken.conditions =
      let here_long = long_conditions a items in
      let arm_long = length-map taken.conditions (assuming (is_label z case.labels)) in
      sym (long_conditions b v.items) ∙ ap (λ (l : List logic.Condition). length l) made ∙ length-append (conditions_of a items) labelled ∙ (λ i. here_long i + arm_long i) in
      record {
        done = so_far.done ++ three;
        walked = went_on so_far.done three so_far.walked d.walk;
        there = d.made.there;
        within = d.made.conditions.in_range;
        events_are =
            (λ i. in_order (so_far.done ++ three) ++ next_events (long i) (left i))
            ∙ ap (λ (l : List Event). l ++ next_events (length items + length taken.conditions) taken.supply) (in_order_both so_far.done three)
            ∙ append_assoc (in_order so_far.done) (in_order three) (next_events (length items + length taken.conditions) taken.supply)
            ∙ ap (λ (l : List Event). in_order so_far.done ++ (in_order three ++ l)) (sym (append_nil (next_events (length items + length taken.conditions) taken.supply)))
            ∙ ap (λ (l : List Event). in_order so_far.done ++ l) (sym (in_order_both three (next_events (length items + length taken.conditions) taken.supply ∷ [])))
            ∙ so_far.events_are;
        conditions_are =
            (λ i. made i ++ (before_arms p in_body z others (made_with cs (left i))).conditions)
            ∙ append_assoc (conditions_of a items) labelled (before_arms p in_body z others (made_with cs taken.supply)).conditions
            ∙ so_far.conditions_are;
        supply_is = ap (λ (k : Supply). (before_arms p in_body z others (made_with cs k)).supply) left ∙ so_far.supply_is;
      }

pub arms_come : (by : Making) (p : Program) (body : Body) (about : TermId) (all left : Arms) (rest : List Condition) (old a : Arena) (start n : Supply) (items : List Condition) (v : Pending) → left ≡ no_arms → v.items ≡ items
    → ArmsSoFar by p body.here (tree old about) all left (made_of old rest start) old a n items → WalksArms (Ok v) by p body (tree old about) all (made_of old rest start) old a n
arms_come by p body about all left rest old a start n items v none same h = from (subst (λ (l : Arms). ArmsSoFar by p body.here (tree old about) all l (made_of old rest start) old a n v.items) none
    (subst (λ (l : List Condition). ArmsSoFar by p body.here (tree old about) all left (made_of old rest start) old a n l) (sym same) h))
  where
    from : ArmsSoFar by p body.here (tree old about) all no_arms (made_of old rest start) old a n v.items → WalksArms (Ok v) by p body (tree old about) all (made_of old rest start) old a n
    from k = record {
      grows = k.walked.grows;
      walk = subst (λ (l : List Event). Walked l old a) (sym (append_nil (in_order k.done)) ∙ k.events_are) k.walked;
      made = record {
        conditions = record { same = sym (append_nil (conditions_of a v.items)) ∙ k.conditions_are; in_range = k.within };
        supply = k.supply_is;
        there = k.there;
      };
    }
