-- What is asked where the walk comes to a statement, and what it answers at a part of one.
use Rattle.std.specs.Prelude.{◌≡◌, ℕ, ℤ, ◌<◌, List, ◌∷◌, length, Option, IsTrue}
use Rattle.spv_logic.specs.declared.conditions.RoutineId.{RoutineId}
use Rattle.spv_logic.specs.declared.conditions.TermId.{TermId}
use Rattle.spv_logic.specs.declared.types.Sort.TheVariants as sort
use Rattle.spv_logic.specs.Terms.{Term}
use Rattle.spv_logic.specs.Conditions as logic
use Rattle.spv_term.specs.declared.nodes.Condition.{Condition}
use Rattle.spv_term.specs.Arena.{Arena, sort_at}
use Rattle.spv_program.specs.Statements.{Statement, Arms}
use Rattle.spv_program.specs.Programs.{Program, routine_in}
use Rattle.spv_program.specs.Supplies.{Supply}
use Rattle.spv_program.specs.Typing.{arms_ok}
use Rattle.spv_assign.specs.supply.Numbers.{AreThere}
use Rattle.spv_assign.specs.Conditions.{AreIn}
use Rattle.spv_rule_soundness.specs.statements.Parts.{arms_pass}
use Rattle.spv_meaning.specs.Before.{Made, before, before_arms}
use Rattle.spv_assign.specs.creation_trace.Events.{Event}
use Rattle.spv_flow_parts.specs.declared.bodies.Body.{Body}
use Rattle.spv_flow_parts.specs.Standing.{Stands}
use Rattle.spv_flow_parts.specs.Walks.{Listed, Comes}
use Rattle.spv_flow_parts.specs.leaves.Parts.{IsTaken, Making, Taking, passing}
use Rattle.spv_flow.specs.statement_rules.Events.{arm_events_by, events_by}
use Rattle.spv_flow.specs.statement_rules.Rules as rule

-- the conditions before a statement, made by its events
abbrev pub WalksBy : Listed → Making → Program → Option RoutineId → Statement → Made → Arena → Arena → Supply → Type 0
WalksBy r by p here s q a b n = Comes r (before p here s q) (events_by by p here s q) a b n

-- a statement of a body whose parts are taken, and conditions behind it; each fresh variable that was taken is there
pub record MayWalk (taking : Taking) (p : Program) (b : Body) (a : Arena) (n : Supply) (s : Statement) (items : List Condition) : Type 0 where
  pub stands : Stands p b a
  pub right : IsTaken p b.here taking s
  pub there : AreThere a n
  pub within : AreIn a items

-- ---- arms

-- well typed arms of a body's CASE whose parts are taken
pub record AreTakenArms (taking : Taking) (p : Program) (b : Body) (arms : Arms) : Type 0 where
  pub typed : IsTrue (arms_ok p (routine_in p b.here) arms)
  pub passes : IsTrue (arms_pass (passing p b.here taking) arms)

-- a number that they tell apart, and conditions behind them
pub record MayWalkArms (taking : Taking) (p : Program) (b : Body) (a : Arena) (n : Supply) (t : TermId) (arms : Arms) (items : List Condition) : Type 0 where
  pub stands : Stands p b a
  pub right : AreTakenArms taking p b arms
  pub value : t.0 < length a.nodes
  pub number : sort_at a t ≡ sort.Int
  pub there : AreThere a n
  pub within : AreIn a items

-- the conditions before the arms of a CASE
abbrev pub WalksArms : Listed → Making → Program → Body → Term → Arms → Made → Arena → Arena → Supply → Type 0
WalksArms r by p b x arms q old new n = Comes r (before_arms p b.here x arms q) (arm_events_by by p b.here x arms 0 q) old new n

-- the conditions of the arms so far, and behind them those before one more arm
abbrev pub one_arm_made : Program → Body → Term → List ℤ → Statement → List logic.Condition → Made → Made
one_arm_made p b x labels s so_far q =
    let first = before p b.here s q in
    record { conditions = rule.arm_made x labels so_far first.conditions; supply = first.supply }

abbrev pub one_arm_events : Making → Program → Body → Term → List ℤ → Statement → ℕ → Made → List (List Event)
one_arm_events by p b x labels s so_far q = events_by by p b.here s q ∷ rule.arm_events x labels so_far (before p b.here s q).conditions
