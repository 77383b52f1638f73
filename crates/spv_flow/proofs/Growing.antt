-- What is asked at a part of a statement, where the arena has grown.
use Rattle.std.proofs.Common.{◌≡◌, List, Option, refl, sym, subst, ◌∙◌}
use Rattle.spv_term.specs.declared.nodes.Condition.{Condition}
use Rattle.spv_term.specs.Arena.{Arena, Extends}
use Rattle.spv_program.specs.Statements.{Statement}
use Rattle.spv_program.specs.Programs.{Program}
use Rattle.spv_program.specs.Supplies.{Supply}
use Rattle.spv_logic.specs.declared.conditions.RoutineId.{RoutineId}
use Rattle.spv_assign.specs.supply.Numbers.{AreThere}
use Rattle.spv_assign.specs.Conditions.{AreIn}
use Rattle.spv_assign.proofs.Growing.{AreIn-Extends}
use Rattle.spv_meaning.specs.Before.{Made}
use Rattle.spv_flow_parts.specs.declared.bodies.Body.{Body}
use Rattle.spv_flow_parts.specs.Walks.{IsMade, Listed, made_of}
use Rattle.spv_flow_parts.proofs.Steps.{Stands-Extends}
use Rattle.spv_flow_parts.specs.leaves.Parts.{IsTaken, Making, Taking}
use Rattle.spv_flow_parts.proofs.leaves.Chains.{behind_made}
use Rattle.spv_flow.specs.Walking.{MayWalk, WalksBy}

module _ (taking : Taking) (p : Program) (body : Body) {a : Arena} {n : Supply} {whole : Statement} {items : List Condition} (h : MayWalk taking p body a n whole items) where
  -- at a part, with the numbers that were taken since
  pub may_walk_on : {b : Arena} (m : Supply) (s : Statement) (given : List Condition) → Extends a b → IsTaken p body.here taking s → AreThere b m → AreIn b given → MayWalk taking p body b m s given
  may_walk_on m s given more right there within = record { stands = Stands-Extends p body more h.stands; right = right; there = there; within = within }

  pub within_then : {b : Arena} → Extends a b → AreIn b items
  within_then more = AreIn-Extends more items h.within

-- by another name for the statement
pub may_walk_as : (taking : Taking) (p : Program) (body : Body) (a : Arena) (n : Supply) (s t : Statement) (items : List Condition) → s ≡ t → MayWalk taking p body a n s items → MayWalk taking p body a n t items
may_walk_as taking p body a n s t items is h = subst (λ (u : Statement). MayWalk taking p body a n u items) is h

pub walks_as : (r : Listed) (by : Making) (p : Program) (here : Option RoutineId) (s t : Statement) (q : Made) (a b : Arena) (n : Supply) → s ≡ t → WalksBy r by p here t q a b n → WalksBy r by p here s q a b n
walks_as r by p here s t q a b n is h = subst (λ (u : Statement). WalksBy r by p here u q a b n) (sym is) h

-- behind the same conditions
pub walks_behind : (r : Listed) (by : Making) (p : Program) (here : Option RoutineId) (s : Statement) (q k : Made) (a b : Arena) (n : Supply) → q ≡ k → WalksBy r by p here s q a b n → WalksBy r by p here s k a b n
walks_behind r by p here s q k a b n is h = subst (λ (m : Made). WalksBy r by p here s m a b n) is h

-- ---- what was made

pub whole_made : (m : Made) → record { conditions = m.conditions; supply = m.supply } ≡ m
whole_made m = refl

pub made_is : {a : Arena} {n : Supply} (items : List Condition) (m : Made) → IsMade a n items m → made_of a items n ≡ m
made_is items m h = let conditions = h.conditions.same in let supply = h.supply in (λ i. record { conditions = conditions i; supply = supply i }) ∙ whole_made m

-- behind the same conditions by another name, with the supply of what was made since
pub behind_given : {a b : Arena} (rest given : List Condition) (n m : Supply) → given ≡ rest → Extends a b → AreIn a rest → n ≡ m → made_of b given n ≡ made_of a rest m
behind_given {a} {b} rest given n m same more within e = subst (λ (l : List Condition). made_of b l n ≡ made_of a rest m) (sym same) (behind_made rest n m more within e)

pub same_items : (given now rest : List Condition) → given ≡ now → now ≡ rest → given ≡ rest
same_items given now rest e f = e ∙ f
