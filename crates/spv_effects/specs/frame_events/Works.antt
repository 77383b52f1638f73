-- What is still to be looked at; the last of a list comes first.
use Rattle.std.specs.Prelude.{ℕ, suc, ◌+◌, ◌≡◌, ◌<◌, Bool, true, false, ◌&&◌, if◌then◌else◌, List, [], ◌∷◌, ◌++◌, option_map}
use Rattle.spv_logic.specs.declared.names.names.Symbol.{Symbol}
use Rattle.spv_program.specs.Uses.{name_root}
use Rattle.spv_program.specs.typed.ExpressionViews.{selectors_of, arguments_of}
use Rattle.spv_program.specs.typed.FormulaViews.{formulas_of, annotation_of}
use Rattle.spv_program.specs.typed.StatementViews.{block_of, arms_of}
use Rattle.spv_effects.specs.frame_walk.Events as plain
use Rattle.spv_effects.specs.frame_walk.Events.{expression_events, designator_events, selector_events, call_events, argument_events, formula_events, formulas_events, annotation_events, statement_events, arms_events}
use Rattle.spv_effects.specs.declared.frame_events.works.Work.{Work}
use Rattle.spv_effects.specs.declared.frame_events.works.Work.TheVariants as work
use Rattle.spv_effects.specs.declared.frame_events.works.Opened.{Opened}
use Rattle.spv_effects.specs.declared.frame_events.events.Event.{Event}
use Rattle.spv_effects.specs.frame_events.EventViews.{event_of, events_of}
use Rattle.spv_effects.specs.frame_events.Weights.{expression_weight, designator_weight, selectors_weight, call_weight, arguments_weight, formula_weight, formulas_weight, annotation_weight, statement_weight, arms_weight}

abbrev pub work_events : (Symbol → Bool) → Work → List plain.Event
work_events own (work.Statement s) = statement_events own s.now
work_events own (work.Statements ss) = statement_events own (block_of ss.now)
work_events own (work.Arms arms) = arms_events own (arms_of arms.now)
work_events own (work.Annotation a) = annotation_events own (option_map annotation_of a.now)
work_events own (work.Noted f) = formula_events own f.now
work_events own (work.AllNoted fs) = formulas_events own (formulas_of fs.now)
work_events own (work.Value e) = expression_events own e.now
work_events own (work.Place d writes) = designator_events own writes d.now
work_events own (work.Selectors ss writes) = selector_events own writes (selectors_of ss.now)
work_events own (work.Call c) = call_events own c.now
work_events own (work.Arguments xs) = argument_events own (arguments_of xs.now)
work_events own (work.Head line count) =
    plain.Used (record { root = name_root own count.now.variable; changes = true; line = line })
    ∷ (expression_events own count.now.first ++ expression_events own count.now.last)
work_events own (work.Known e) = event_of e ∷ []
work_events own work.Nothing = []

abbrev pub work_weight : Work → ℕ
work_weight (work.Statement s) = suc (statement_weight s.now)
work_weight (work.Statements ss) = statement_weight (block_of ss.now)
work_weight (work.Arms arms) = arms_weight (arms_of arms.now)
work_weight (work.Annotation a) = annotation_weight (option_map annotation_of a.now)
work_weight (work.Noted f) = formula_weight f.now
work_weight (work.AllNoted fs) = formulas_weight (formulas_of fs.now)
work_weight (work.Value e) = expression_weight e.now
work_weight (work.Place d writes) = designator_weight d.now
work_weight (work.Selectors ss writes) = selectors_weight (selectors_of ss.now)
work_weight (work.Call c) = call_weight c.now
work_weight (work.Arguments xs) = arguments_weight (arguments_of xs.now)
work_weight (work.Head line count) = suc (suc (expression_weight count.now.first + expression_weight count.now.last))
work_weight (work.Known e) = 1
work_weight work.Nothing = 1

-- ---- what comes in place of a work

abbrev pub is_nothing : Work → Bool
is_nothing work.Nothing = true
is_nothing _ = false

-- nothing is not put on a stack
abbrev pub put_weight : Work → ℕ
put_weight w = if is_nothing w then 0 else work_weight w

abbrev pub behind : List plain.Event → Bool → List plain.Event → List plain.Event
behind events true others = events
behind events false others = events ++ others

-- without an empty list at the end, so that it is the definition's
abbrev pub opened_events : (Symbol → Bool) → Opened → List plain.Event
opened_events own o =
    behind (work_events own o.first) (is_nothing o.second && is_nothing o.third)
    (behind (work_events own o.second) (is_nothing o.third) (work_events own o.third))

abbrev pub opened_weight : Opened → ℕ
opened_weight o = put_weight o.first + (put_weight o.second + put_weight o.third)

-- these come in place of the work
pub record Opens (own : Symbol → Bool) (w : Work) (o : Opened) : Type 0 where
  pub same : opened_events own o ≡ work_events own w
  pub falls : opened_weight o < work_weight w

-- ---- stacks

abbrev pub stack_events : (Symbol → Bool) → List Work → List plain.Event
stack_events own [] = []
stack_events own (w ∷ works) = stack_events own works ++ work_events own w

abbrev pub stack_weight : List Work → ℕ
stack_weight [] = 0
stack_weight (w ∷ works) = work_weight w + stack_weight works

-- this was put on top
pub record Pushed (w : Work) (old new : List Work) : Type 0 where
  pub events : (own : Symbol → Bool) → stack_events own new ≡ work_events own w ++ stack_events own old
  pub weight : stack_weight new ≡ put_weight w + stack_weight old

-- these were put on top
pub record PushedAll (o : Opened) (old new : List Work) : Type 0 where
  pub events : (own : Symbol → Bool) → stack_events own new ≡ opened_events own o ++ stack_events own old
  pub weight : stack_weight new ≡ opened_weight o + stack_weight old

-- one work is done: with what is out, what is left uses and calls what it did
pub record IsStep (own : Symbol → Bool) (w : Work) (old new : List Work) (before after : List Event) : Type 0 where
  pub same : events_of after ++ stack_events own new ≡ events_of before ++ (work_events own w ++ stack_events own old)
  pub falls : stack_weight new < work_weight w + stack_weight old
