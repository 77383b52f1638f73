-- The conditions before the creation of a cell at a place.
use Rattle.std.proofs.Common.{◌≡◌, ◌<◌, ◌≤◌, ℕ, List, [], ◌∷◌, length, Ok, Err, IfOk, IfErr, IsErrAnd, refl, ap, subst, ◌∙◌, arith}
use Rattle.spv_logic.specs.declared.conditions.TermId.{TermId}
use Rattle.spv_logic.specs.declared.types.TypeId.{TypeId}
use Rattle.spv_logic.specs.declared.operators.Head.{Head}
use Rattle.spv_logic.specs.declared.operators.Head.TheVariants as head
use Rattle.spv_logic.specs.Terms.{Term}
use Rattle.spv_logic.specs.Conditions as logic
use Rattle.spv_term.specs.declared.nodes.Condition.{Condition}
use Rattle.spv_term.specs.Arena.{Arena, Extends, tree}
use Rattle.spv_term.proofs.ArenaLemmas.{Extends-trans, tree-Extends}
use Rattle.spv_program.specs.Places as place
use Rattle.spv_program.specs.Places.{whole_with}
use Rattle.spv_program.specs.Terms.{alone, binary, ternary}
use Rattle.spv_program.specs.Supplies.{Supply, full_supply}
use Rattle.spv_assign.specs.declared.pending.pending.Pending.{Pending}
use Rattle.spv_assign.specs.supply.Numbers.{AreThere}
use Rattle.spv_assign.proofs.supply.FreshLemmas.{AreThere-Extends}
use Rattle.spv_assign.specs.Conditions.{Assumes, conditions_of}
use Rattle.spv_meaning.specs.Before.{Made, all_assuming, before_creation, negated, replaced}
use Rattle.spv_assign.specs.declared.creation_trace.faults.GenFault.{GenFault}
use Rattle.spv_assign.specs.declared.creation_trace.faults.GenFault.TheVariants as fault
use Rattle.spv_assign.specs.creation_trace.Events.{Event, Walked, Stops}
use Rattle.spv_assign.specs.creation_trace.StatementEvents.{in_order, one, replacing_events, several}
use Rattle.spv_assign.proofs.creation_trace.Walks.{nothing_walked}
use Rattle.spv_assign.proofs.limited_steps.Renamings.{stops_at_one, stops_at_two, walked_two}
use Rattle.spv_assign.specs.declared.structures.places.Target.{Target}
use Rattle.spv_assign.specs.limited_steps.Makes.{IsTerm}
use Rattle.spv_assign.specs.structures.Targets.{target_in}
use Rattle.spv_flow_parts.specs.Walks.{AreThese, Comes, ComesTo, Listed}
use Rattle.spv_flow_parts.specs.assigning.Events.{creation_events}
use Rattle.spv_flow_parts.proofs.Conditions.{under_term}
use Rattle.spv_flow_parts.proofs.Steps.{comes_never, exit, went, AreThese-Extends, IsTerm-Extends}

nothing_taken : (a : Arena) → AreThere a full_supply
nothing_taken a = record { names = λ x k low high. absurd (none k low high); classes = λ t k low high. absurd (none k low high) }
  where
    none : (k : ℕ) → 0 < k → k ≤ 0 → ⊥
    none k low high = omega (arith, low, high)

-- the conditions that come, whatever was taken
pub comes_these : (v : Pending) (cs : List logic.Condition) (events : List Event) (a b : Arena) → ComesTo (Ok v) cs events a b → AreThese b v.items cs
comes_these v cs events a b comes = (comes full_supply (nothing_taken a)).made.conditions

pub comes_grows : (v : Pending) (cs : List logic.Condition) (events : List Event) (a b : Arena) → ComesTo (Ok v) cs events a b → Extends a b
comes_grows v cs events a b comes = (comes full_supply (nothing_taken a)).grows

module _ (t : TypeId) (d : Target) (pointer content : TermId) (a : Arena) (p_there : pointer.0 < length a.nodes) (c_there : content.0 < length a.nodes) (rest : List Condition) where
  abbrev to : place.Target
  to = target_in a d

  abbrev class : Term
  class = alone (head.ClassVar t 0)

  abbrev to_place : List (Head × Term)
  to_place = (to.root, whole_with to (tree a pointer)) ∷ []

  abbrev cell : List (Head × Term)
  cell = (head.ClassVar t 0, ternary head.Extend class (tree a pointer) (tree a content)) ∷ []

  abbrev placed : List logic.Condition
  placed = replaced to_place (conditions_of a rest)

  abbrev extended : List logic.Condition
  extended = replaced cell placed

  abbrev no_member : Term
  no_member = negated (binary head.PointerTo (tree a pointer) class)

  abbrev not_nil : Term
  not_nil = negated (binary head.Eq (tree a pointer) (alone (head.Nil t)))

  abbrev created : List logic.Condition
  created = before_creation t to (tree a pointer) (tree a content) (conditions_of a rest)

  abbrev all : List Event
  all = creation_events t to (tree a pointer) (tree a content) (conditions_of a rest)

  abbrev e1 : List Event
  e1 = replacing_events to_place (conditions_of a rest)

  abbrev e2 : List Event
  e2 = replacing_events cell placed

  abbrev e3 : List Event
  e3 = several (no_member ∷ not_nil ∷ [])

  abbrev so : Supply → Made
  so n = record { conditions = created; supply = n }

  pub placed_stops : (o : Listed) (e : GenFault) (b : Arena) → IsErrAnd o (λ f. f ≡ e) → ComesTo (Err e) placed e1 a b → ComesTo o created all a b
  placed_stops o e b is comes n numbers = exit o e (so n) n [] e1 (e2 ∷ e3 ∷ []) is (nothing_walked a) (comes n numbers).grows (comes n numbers).walk

  module _ (b : Arena) (v : Pending) (first : ComesTo (Ok v) placed e1 a b) where
    pub placed_these : AreThese b v.items placed
    placed_these = comes_these v placed e1 a b first

    one_come : Comes (Ok v) (record { conditions = placed; supply = full_supply }) e1 a b full_supply
    one_come = first full_supply (nothing_taken a)

    w1 : Walked (in_order (e1 ∷ [])) a b
    w1 = went [] e1 (nothing_walked a) one_come.walk

    abbrev cell_then : List (Head × Term)
    cell_then = (head.ClassVar t 0, ternary head.Extend class (tree b pointer) (tree b content)) ∷ []

    cell_is : (P : List (Head × Term) → List logic.Condition → Type 0) → P cell_then (conditions_of b v.items) → P cell placed
    cell_is P h =
        subst (λ (l : List logic.Condition). P cell l) placed_these.same
        (subst (λ (x : Term). P ((head.ClassVar t 0, ternary head.Extend class (tree a pointer) x) ∷ []) (conditions_of b v.items)) (tree-Extends one_come.grows content c_there)
        (subst (λ (x : Term). P ((head.ClassVar t 0, ternary head.Extend class x (tree b content)) ∷ []) (conditions_of b v.items)) (tree-Extends one_come.grows pointer p_there) h))

    pub cell_stops : (o : Listed) (e : GenFault) (c : Arena) → IsErrAnd o (λ f. f ≡ e) → ComesTo (Err e) (replaced cell_then (conditions_of b v.items)) (replacing_events cell_then (conditions_of b v.items)) b c → ComesTo o created all a c
    cell_stops o e c is comes n numbers =
        let second = cell_is (λ ps l. Comes (Err e) (record { conditions = replaced ps l; supply = n }) (replacing_events ps l) b c n) (comes n (AreThere-Extends a b n one_come.grows numbers)) in
        exit o e (so n) n (e1 ∷ []) e2 (e3 ∷ []) is w1 second.grows second.walk

    module _ (c : Arena) (w : Pending) (second : ComesTo (Ok w) (replaced cell_then (conditions_of b v.items)) (replacing_events cell_then (conditions_of b v.items)) b c) where
      two_come : Comes (Ok w) (record { conditions = extended; supply = full_supply }) e2 b c full_supply
      two_come = cell_is (λ ps l. Comes (Ok w) (record { conditions = replaced ps l; supply = full_supply }) (replacing_events ps l) b c full_supply) (second full_supply (nothing_taken b))

      more : Extends a c
      more = Extends-trans one_come.grows two_come.grows

      w2 : Walked (in_order (e1 ∷ e2 ∷ [])) a c
      w2 = went (e1 ∷ []) e2 w1 two_come.walk

      member_is : negated (binary head.PointerTo (tree c pointer) class) ≡ no_member
      member_is = ap (λ (x : Term). negated (binary head.PointerTo x class)) (tree-Extends more pointer p_there)

      pub member_stops : (o : Listed) (e : GenFault) (k : Arena) → IsErrAnd o (λ f. f ≡ e) → Extends c k → Stops e (one (negated (binary head.PointerTo (tree c pointer) class))) c k → ComesTo o created all a k
      member_stops o e k is grows stops n numbers =
          exit o e (so n) n (e1 ∷ e2 ∷ []) e3 [] is w2 grows (stops_at_one no_member not_nil e c k (subst (λ (x : Term). Stops e (one x) c k) member_is stops))

      module _ (k : Arena) (x : TermId) (grows3 : Extends c k) (walked3 : Walked (one (negated (binary head.PointerTo (tree c pointer) class))) c k) (x_is : IsTerm k x (negated (binary head.PointerTo (tree c pointer) class))) where
        w3 : Walked (one no_member) c k
        w3 = subst (λ (y : Term). Walked (one y) c k) member_is walked3

        nil_is : negated (binary head.Eq (tree k pointer) (alone (head.Nil t))) ≡ not_nil
        nil_is = ap (λ (y : Term). negated (binary head.Eq y (alone (head.Nil t)))) (tree-Extends (Extends-trans more grows3) pointer p_there)

        pub nil_stops : (o : Listed) (e : GenFault) (m : Arena) → IsErrAnd o (λ f. f ≡ e) → Extends k m → Stops e (one (negated (binary head.Eq (tree k pointer) (alone (head.Nil t))))) k m → ComesTo o created all a m
        nil_stops o e m is grows stops n numbers =
            exit o e (so n) n (e1 ∷ e2 ∷ []) e3 [] is w2 (Extends-trans grows3 grows) (stops_at_two no_member not_nil e c k m w3 (subst (λ (y : Term). Stops e (one y) k m) nil_is stops))

        module _ (m : Arena) (y : TermId) (grows4 : Extends k m) (walked4 : Walked (one (negated (binary head.Eq (tree k pointer) (alone (head.Nil t))))) k m) (y_is : IsTerm m y (negated (binary head.Eq (tree k pointer) (alone (head.Nil t))))) where
          all_walked : Walked all a m
          all_walked = went (e1 ∷ e2 ∷ []) e3 w2 (walked_two no_member not_nil c k m w3 (subst (λ (z : Term). Walked (one z) k m) nil_is walked4))

          pub created_never : (o : Listed) (e : GenFault) → IsErrAnd o (λ f. f ≡ e) → e ≡ fault.Memory → ComesTo o created all a m
          created_never o e is memory n numbers = comes_never (so n) n o e all is memory all_walked.grows

          pub created_comes : (u : Pending) → Assumes x w.items u.items → (o : Listed) → IfOk o (λ l. Assumes y u.items l.items) → IfErr o (λ e. e ≡ fault.Memory) → ComesTo o created all a m
          created_comes u under (Ok l) assumes err n numbers = record {
            grows = all_walked.grows;
            walk = all_walked;
            made = record {
              conditions =
                  under_term y u.items l.items m not_nil (all_assuming no_member extended) assumes (record { there = y_is.there; is_tree = y_is.is_tree ∙ nil_is })
                  (under_term x w.items u.items m no_member extended under (IsTerm-Extends x no_member grows4 (record { there = x_is.there; is_tree = x_is.is_tree ∙ member_is }))
                  (AreThese-Extends w.items extended (Extends-trans grows3 grows4) two_come.made.conditions));
              supply = refl;
              there = AreThere-Extends a m n all_walked.grows numbers;
            };
          }
          created_comes u under (Err e) assumes err n numbers = comes_never (so n) n (Err e) e all refl err all_walked.grows
