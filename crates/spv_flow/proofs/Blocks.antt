-- The conditions before a block, from its last statement to its first.
use Rattle.std.proofs.Common.{◌≡◌, ◌<◌, ◌≤◌, ◌-◌, ◌+◌, ℕ, List, [], ◌∷◌, ◌++◌, length, get_or, take, drop, arith, Ok, Err, IsErrAnd, Option, refl, sym, ap, subst, ◌∙◌}
use Rattle.std.proofs.lemmas.List.{drop_more, take-append-drop}
use Rattle.spv_logic.specs.declared.conditions.RoutineId.{RoutineId}
use Rattle.spv_term.specs.declared.nodes.Condition.{Condition}
use Rattle.spv_term.specs.Arena.{Arena}
use Rattle.spv_term.proofs.ArenaLemmas.{Extends-trans}
use Rattle.spv_program.specs.Statements.{Statement}
use Rattle.spv_program.specs.Programs.{Program}
use Rattle.spv_program.specs.Supplies.{Supply}
use Rattle.spv_assign.specs.declared.pending.pending.Pending.{Pending}
use Rattle.spv_assign.specs.supply.Numbers.{AreThere}
use Rattle.spv_assign.specs.Conditions.{AreIn}
use Rattle.spv_program.specs.typed.StatementViews.{block_of}
use Rattle.spv_meaning.specs.Before.{Made, before}
use Rattle.spv_assign.specs.declared.creation_trace.faults.GenFault.{GenFault}
use Rattle.spv_assign.specs.creation_trace.Events.{Walked, Stops}
use Rattle.spv_assign.proofs.creation_trace.Walks.{nothing_walked}
use Rattle.spv_flow_parts.specs.declared.bodies.Body.{Body}
use Rattle.spv_flow_parts.specs.Walks.{IsMade, Listed, made_of}
use Rattle.spv_flow_parts.proofs.Steps.{went, stopped_at, comes_not}
use Rattle.spv_flow_parts.specs.leaves.Parts.{IsTaken, Making, Taking}
use Rattle.spv_flow.specs.statement_rules.Events.{events_by}
use Rattle.spv_flow.specs.Walking.{MayWalk, WalksBy}
use Rattle.spv_flow.proofs.Growing.{may_walk_on, walks_behind, made_is}

-- the last statements are walked: these are the conditions before them
pub record BlockSoFar (by : Making) (p : Program) (here : Option RoutineId) (done : List Statement) (q : Made) (old a : Arena) (n : Supply) (items : List Condition) : Type 0 where
  pub walked : Walked (events_by by p here (block_of done) q) old a
  pub made : IsMade a n items (before p here (block_of done) q)

pub block_begins : (by : Making) (p : Program) (here : Option RoutineId) (done : List Statement) (a : Arena) (n : Supply) (rest items : List Condition) → done ≡ [] → items ≡ rest → AreThere a n → AreIn a rest
    → BlockSoFar by p here done (made_of a rest n) a a n items
block_begins by p here done a n rest items none same there within =
    subst (λ (l : List Statement). BlockSoFar by p here l (made_of a rest n) a a n items) (sym none)
    (subst (λ (l : List Condition). BlockSoFar by p here [] (made_of a rest n) a a n l) (sym same) (record {
      walked = nothing_walked a;
      made = record { conditions = record { same = refl; in_range = within }; supply = refl; there = there };
    }))

-- what stops a part of a block stops the block
stops_in_front : (by : Making) (p : Program) (here : Option RoutineId) (xs ys : List Statement) (q : Made) (g : GenFault) (a b : Arena) → Stops g (events_by by p here (block_of ys) q) a b → Stops g (events_by by p here (block_of (xs ++ ys)) q) a b
stops_in_front by p here [] ys q g a b h = h
stops_in_front by p here (x ∷ xs) ys q g a b h =
    stopped_at [] (events_by by p here (block_of (xs ++ ys)) q) (events_by by p here x (before p here (block_of (xs ++ ys)) q) ∷ []) g a a b (nothing_walked a) (stops_in_front by p here xs ys q g a b h)

-- the statement in front of those that are done
pub one_before : (all : List Statement) (place : ℕ) (s d : Statement) → 0 < place → place ≤ length all → s ≡ get_or all (place - 1) d → drop (place - 1) all ≡ s ∷ drop place all
one_before all place s d some within is =
    let e : place - 1 + 1 ≡ place = omega (arith, some) in
    let below : place - 1 < length all = omega (arith, some, within) in
    subst (λ (k : ℕ). drop (place - 1) all ≡ s ∷ drop k all) e (drop_more all (place - 1) d below ∙ ap (λ (x : Statement). x ∷ drop (place - 1 + 1) all) (sym is))

module _ (by : Making) (taking : Taking) (p : Program) (body : Body) (old a : Arena) (start n : Supply) (all done : List Statement) (rest items : List Condition)
    (h : MayWalk taking p body old start (block_of all) rest) (so_far : BlockSoFar by p body.here done (made_of old rest start) old a n items) where
  abbrev here : Option RoutineId
  here = body.here

  abbrev q0 : Made
  q0 = made_of old rest start

  abbrev q1 : Made
  q1 = before p here (block_of done) q0

  pub next_fits : (s : Statement) (given : List Condition) → given ≡ items → IsTaken p body.here taking s → MayWalk taking p body a n s given
  next_fits s given same right = may_walk_on taking p body h n s given so_far.walked.grows right so_far.made.there (subst (AreIn a) (sym same) so_far.made.conditions.in_range)

  next_at : (r : Listed) (s : Statement) (given : List Condition) (b : Arena) (m : Supply) → given ≡ items → WalksBy r by p here s (made_of a given n) a b m → WalksBy r by p here s q1 a b m
  next_at r s given b m same c =
      walks_behind r by p here s (made_of a given n) q1 a b m (ap (λ (l : List Condition). made_of a l n) same ∙ made_is items q1 so_far.made) c

  pub block_goes_on : (v : Pending) (s : Statement) (given : List Condition) (next : List Statement) (b : Arena) (m : Supply) → given ≡ items → next ≡ s ∷ done → WalksBy (Ok v) by p body.here s (made_of a given n) a b m
      → BlockSoFar by p body.here next (made_of old rest start) old b m v.items
  block_goes_on v s given next b m same is c =
      let k = next_at (Ok v) s given b m same c in
      subst (λ (l : List Statement). BlockSoFar by p here l q0 old b m v.items) (sym is) (record {
        walked = went (events_by by p here (block_of done) q0 ∷ []) (events_by by p here s q1) (went [] (events_by by p here (block_of done) q0) (nothing_walked old) so_far.walked) k.walk;
        made = k.made;
      })

  pub block_stops : (r : Listed) (g : GenFault) (s : Statement) (given : List Condition) (place : ℕ) (b : Arena) (m l : Supply) → given ≡ items → drop place all ≡ s ∷ done → IsErrAnd r (λ y. y ≡ g)
      → WalksBy (Err g) by p body.here s (made_of a given n) a b m → WalksBy r by p body.here (block_of all) (made_of old rest start) old b l
  block_stops r g s given place b m l same is err c =
      let k = next_at (Err g) s given b m same c in
      let stops : Stops g (events_by by p here (block_of (s ∷ done)) q0) old b =
      stopped_at (events_by by p here (block_of done) q0 ∷ []) (events_by by p here s q1) [] g old a b (went [] (events_by by p here (block_of done) q0) (nothing_walked old) so_far.walked) k.walk in
      let whole : take place all ++ s ∷ done ≡ all = ap (λ (l : List Statement). take place all ++ l) (sym is) ∙ take-append-drop place all in
      comes_not (before p here (block_of all) q0) l r g (events_by by p here (block_of all) q0) err (Extends-trans so_far.walked.grows k.grows)
      (subst (λ (l : List Statement). Stops g (events_by by p here (block_of l) q0) old b) whole (stops_in_front by p here (take place all) (s ∷ done) q0 g old b stops))

  pub block_comes : (v : Pending) → v.items ≡ items → done ≡ all → WalksBy (Ok v) by p body.here (block_of all) (made_of old rest start) old a n
  block_comes v same is = record {
    grows = so_far.walked.grows;
    walk = subst (λ (l : List Statement). Walked (events_by by p here (block_of l) q0) old a) is so_far.walked;
    made = subst (λ (l : List Statement). IsMade a n v.items (before p here (block_of l) q0)) is (subst (λ (l : List Condition). IsMade a n l q1) (sym same) so_far.made);
  }
