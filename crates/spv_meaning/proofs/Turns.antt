-- A run that ended or stopped does so alike with more turns.
use Rattle.std.proofs.Common.{◌≡◌, ℕ, zero, suc, ◌≤◌, Bool, true, false, cond, List, [], ◌∷◌, ◌++◌, refl, sym, ap, ◌∙◌, Option, Some, None, option_map, ℤ, int_eq, arith}
use Rattle.std.proofs.lemmas.Bool.{false≢true}
use Rattle.std.specs.List.{list_any}
use Rattle.spv_logic.specs.declared.conditions.RoutineId.{RoutineId}
use Rattle.spv_logic.specs.Values.{Value, Number, truth_of, number_of}
use Rattle.spv_program.specs.Expressions.{Expression, Designator, Selectors, Call, Arguments, Numeral, Boolean, NilOf, Read, Result, Through, Negative, Calculated, Compared, Negated, Joined, designator, no_selectors, at_index, at_field, at_cell, call, no_arguments, by_value, by_place}
use Rattle.spv_program.specs.Statements.{Statement, Arms, Empty, Assign, Perform, New, Sequence, If, Case, While, Repeat, For, Assert, no_arms, arm}
use Rattle.spv_program.specs.Programs.{Formal, Routine, Program, routine_at}
use Rattle.spv_program.specs.Scopes.{result_name}
use Rattle.spv_meaning.specs.declared.faults.Fault.TheVariants as fault
use Rattle.spv_meaning.specs.Places.{State, put}
use Rattle.spv_meaning.specs.Views.{entry_view}
use Rattle.spv_meaning.specs.Outcomes.{End, Ended, Stopped, Jump, Going, Met, Outcome, go_on, and_then, meets, stops_unless}
use Rattle.spv_meaning.specs.Levels.{Here, Loop, Level, Bound, with_turn, reached_entry, push, choose_all, run_routine, enter}
use Rattle.spv_meaning.specs.Evaluation.{Fixed, to_element, to_field, to_cell, holds_now, for_parameter, formals_of, evaluate, fix, select, result, arguments}
use Rattle.spv_meaning.specs.Walks.{reaches, counter_place, counter_takes, is_past, next_candidate, count_on, walk, walk_arms, level_over, level, run}
use Rattle.spv_meaning.specs.Laws.{is_done}

-- where the first run is done, the second is the same
record Keeps {A : Type 0} (first second : Outcome A) : Type 0 where
  same : is_done first.end ≡ true → first ≡ second

keeps_all : {A : Type 0} (x : Outcome A) → Keeps x x
keeps_all x = record { same = λ done. refl }

go_keeps : {A B : Type 0} (e : End A) (met : List Met) (rest : List Value) (a : Outcome A) (k l : A → List Value → Outcome B) → Keeps (record { end = e; met = met; rest = rest }) a → ((x : A) (last : List Value) → Keeps (k x last) (l x last)) → is_done (go_on e met rest k).end ≡ true → go_on e met rest k ≡ go_on a.end a.met a.rest l
go_keeps {A} {B} (Ended x) met rest a k l first next done =
    let after = (next x rest).same done in
    ap (λ (o : Outcome B). record { end = o.end; met = met ++ o.met; rest = o.rest }) after ∙ ap (λ (o : Outcome A). go_on o.end o.met o.rest l) (first.same refl)
go_keeps {A} {B} (Stopped f) met rest a k l first next done = ap (λ (o : Outcome A). go_on o.end o.met o.rest l) (first.same refl)
go_keeps {A} {B} (Jump label state) met rest a k l first next done = ap (λ (o : Outcome A). go_on o.end o.met o.rest l) (first.same refl)
go_keeps (Going) met rest a k l first next done = absurd (false≢true done)

keeps_then : {A B : Type 0} (a b : Outcome A) {k l : A → List Value → Outcome B} → Keeps a b → ((x : A) (rest : List Value) → Keeps (k x rest) (l x rest)) → Keeps (and_then a k) (and_then b l)
keeps_then a b {k} {l} first next = record { same = go_keeps a.end a.met a.rest b k l first next }

-- the same beginning
keeps_on : {A B : Type 0} (a : Outcome A) {k l : A → List Value → Outcome B} → ((x : A) (rest : List Value) → Keeps (k x rest) (l x rest)) → Keeps (and_then a k) (and_then a l)
keeps_on a next = keeps_then a a (keeps_all a) next

keeps_either : {A : Type 0} (b : Bool) {x y u v : Outcome A} → Keeps x u → Keeps y v → Keeps (cond b x y) (cond b u v)
keeps_either true first second = first
keeps_either false first second = second

-- ---- levels

record LevelKeeps (l m : Level) : Type 0 where
  runs : (here : Here) (s : Statement) (state : State) (choices : List Value) → Keeps (l.run here s state choices) (m.run here s state choices)
  counts : (here : Here) (loop : Loop) (end candidate : ℤ) (state : State) (choices : List Value) → Keeps (l.next here loop end candidate state choices) (m.next here loop end candidate state choices)

BelowKeeps : Option Level → Option Level → Type 0
BelowKeeps None other = Unit {0}
BelowKeeps (Some l) None = ⊥
BelowKeeps (Some l) (Some m) = LevelKeeps l m

keeps_turn : {A : Type 0} (b c : Option Level) → BelowKeeps b c → (rest : List Value) {f g : Level → Outcome A} → ((l m : Level) → LevelKeeps l m → Keeps (f l) (g m)) → Keeps (with_turn b rest f) (with_turn c rest g)
unfolding BelowKeeps
keeps_turn None c keeps rest go = record { same = λ done. absurd (false≢true done) }
keeps_turn (Some l) None keeps rest go = absurd keeps
keeps_turn (Some l) (Some m) keeps rest go = go l m keeps

module _ (p : Program) where
  enter_keeps : (l m : Level) → LevelKeeps l m → (id : RoutineId) (r : Option Routine) (bound : Bound) (choices : List Value) → Keeps (enter p l id r bound choices) (enter p m id r bound choices)
  enter_keeps l m keeps id None bound choices = keeps_all _
  enter_keeps l m keeps id (Some r) bound choices =
      keeps_on (choose_all p (result_name r.name r.result ++ r.locals) choices) (λ own rest. routine_keeps (push id (bound.names ++ own) bound.state) rest)
    where
      routine_keeps : (state : State) (choices : List Value) → Keeps (run_routine p l id r state choices) (run_routine p m id r state choices)
      routine_keeps state choices =
          let here : Here = record { routine = Some id; entry = entry_view p (Some id) state } in
          keeps_on (meets (option_map (reached_entry p here r state) r.entry) state choices) (λ begun rest. keeps_then (l.run here r.body begun rest) (m.run here r.body begun rest) (keeps.runs here r.body begun rest) (λ after last. keeps_all _))

  module _ (b c : Option Level) (keeps : BelowKeeps b c) (here : Here) where
    mutual
      value_keeps : (e : Expression) (state : State) (choices : List Value) → Keeps (evaluate p b here e state choices) (evaluate p c here e state choices)
      value_keeps (Numeral z) state choices = keeps_all _
      value_keeps (Boolean t) state choices = keeps_all _
      value_keeps (NilOf t) state choices = keeps_all _
      value_keeps (Read d) state choices = keeps_then (fix p b here d state choices) (fix p c here d state choices) (place_keeps d state choices) (λ x rest. keeps_all _)
      value_keeps (Result k) state choices = result_keeps k state choices
      value_keeps (Through k line t others) state choices =
          keeps_then (result p b here k state choices) (result p c here k state choices) (result_keeps k state choices) (λ got rest.
          keeps_on (to_cell t got.value got.state rest) (λ cell last.
          keeps_then (select p b here others cell last) (select p c here others cell last) (select_keeps others cell last) (λ fixed end. keeps_all _)))
      value_keeps (Negative e) state choices = keeps_then (evaluate p b here e state choices) (evaluate p c here e state choices) (value_keeps e state choices) (λ x rest. keeps_all _)
      value_keeps (Calculated o u v) state choices =
          keeps_then (evaluate p b here u state choices) (evaluate p c here u state choices) (value_keeps u state choices) (λ left rest.
          keeps_then (evaluate p b here v left.state rest) (evaluate p c here v left.state rest) (value_keeps v left.state rest) (λ right last. keeps_all _))
      value_keeps (Compared o u v) state choices =
          keeps_then (evaluate p b here u state choices) (evaluate p c here u state choices) (value_keeps u state choices) (λ left rest.
          keeps_then (evaluate p b here v left.state rest) (evaluate p c here v left.state rest) (value_keeps v left.state rest) (λ right last. keeps_all _))
      value_keeps (Negated e) state choices = keeps_then (evaluate p b here e state choices) (evaluate p c here e state choices) (value_keeps e state choices) (λ x rest. keeps_all _)
      value_keeps (Joined o u v) state choices =
          keeps_then (evaluate p b here u state choices) (evaluate p c here u state choices) (value_keeps u state choices) (λ left rest.
          keeps_then (evaluate p b here v left.state rest) (evaluate p c here v left.state rest) (value_keeps v left.state rest) (λ right last. keeps_all _))

      place_keeps : (d : Designator) (state : State) (choices : List Value) → Keeps (fix p b here d state choices) (fix p c here d state choices)
      place_keeps (designator line x others) state choices = select_keeps others _ choices

      select_keeps : (others : Selectors) (fixed : Fixed) (choices : List Value) → Keeps (select p b here others fixed choices) (select p c here others fixed choices)
      select_keeps no_selectors fixed choices = keeps_all _
      select_keeps (at_index t e others) fixed choices =
          keeps_then (evaluate p b here e fixed.state choices) (evaluate p c here e fixed.state choices) (value_keeps e fixed.state choices) (λ index rest.
          keeps_on (to_element p t fixed.place index rest) (λ next last. select_keeps others next last))
      select_keeps (at_field t f others) fixed choices = select_keeps others (to_field p t f fixed) choices
      select_keeps (at_cell line t others) fixed choices = keeps_on (to_cell t (holds_now fixed) fixed.state choices) (λ next rest. select_keeps others next rest)

      result_keeps : (k : Call) (state : State) (choices : List Value) → Keeps (result p b here k state choices) (result p c here k state choices)
      result_keeps (call r line given) state choices =
          keeps_turn b c keeps choices (λ l m below.
          keeps_then (arguments p b here (formals_of (routine_at p r)) given state choices) (arguments p c here (formals_of (routine_at p r)) given state choices) (arguments_keep (formals_of (routine_at p r)) given state choices) (λ bound rest.
          keeps_then (enter p l r (routine_at p r) bound rest) (enter p m r (routine_at p r) bound rest) (enter_keeps l m below r (routine_at p r) bound rest) (λ after last. keeps_all _)))

      arguments_keep : (formals : List Formal) (given : Arguments) (state : State) (choices : List Value) → Keeps (arguments p b here formals given state choices) (arguments p c here formals given state choices)
      arguments_keep formals no_arguments state choices = keeps_all _
      arguments_keep [] (by_value e others) state choices = keeps_all _
      arguments_keep [] (by_place d others) state choices = keeps_all _
      arguments_keep (f ∷ formals) (by_value e others) state choices =
          keeps_then (evaluate p b here e state choices) (evaluate p c here e state choices) (value_keeps e state choices) (λ got rest.
          keeps_on (for_parameter p f got rest) (λ taken last.
          keeps_then (arguments p b here formals others taken.state last) (arguments p c here formals others taken.state last) (arguments_keep formals others taken.state last) (λ bound end. keeps_all _)))
      arguments_keep (f ∷ formals) (by_place d others) state choices =
          keeps_then (fix p b here d state choices) (fix p c here d state choices) (place_keeps d state choices) (λ fixed rest.
          keeps_then (arguments p b here formals others fixed.state rest) (arguments p c here formals others fixed.state rest) (arguments_keep formals others fixed.state rest) (λ bound end. keeps_all _))

    count_keeps : (loop : Loop) (end candidate : ℤ) (state : State) (choices : List Value) → Keeps (count_on p b here loop end candidate state choices) (count_on p c here loop end candidate state choices)
    count_keeps loop end candidate state choices =
        keeps_turn b c keeps choices (λ l m below.
        keeps_on (reaches p here loop.invariant (put state (counter_place here loop state) (Number candidate)) state choices) (λ now rest.
        keeps_either (is_past loop.count.direction end candidate) (keeps_all _)
        (keeps_on (stops_unless (counter_takes p here loop candidate) fault.Range (put now (counter_place here loop now) (Number candidate)) rest) (λ set more.
        keeps_then (l.run here loop.body set more) (m.run here loop.body set more) (below.runs here loop.body set more) (λ after last. below.counts here loop end (next_candidate loop.count.direction candidate) after last)))))

    mutual
      walk_keeps : (s : Statement) (state : State) (choices : List Value) → Keeps (walk p b here s state choices) (walk p c here s state choices)
      walk_keeps Empty state choices = keeps_all _
      walk_keeps (Assign d e) state choices =
          keeps_then (fix p b here d state choices) (fix p c here d state choices) (place_keeps d state choices) (λ fixed rest.
          keeps_then (evaluate p b here e fixed.state rest) (evaluate p c here e fixed.state rest) (value_keeps e fixed.state rest) (λ got last. keeps_all _))
      walk_keeps (Perform (call r line given)) state choices =
          keeps_turn b c keeps choices (λ l m below.
          keeps_then (arguments p b here (formals_of (routine_at p r)) given state choices) (arguments p c here (formals_of (routine_at p r)) given state choices) (arguments_keep (formals_of (routine_at p r)) given state choices) (λ bound rest.
          keeps_then (enter p l r (routine_at p r) bound rest) (enter p m r (routine_at p r) bound rest) (enter_keeps l m below r (routine_at p r) bound rest) (λ after last. keeps_all _)))
      walk_keeps (New line d t) state choices = keeps_then (fix p b here d state choices) (fix p c here d state choices) (place_keeps d state choices) (λ fixed rest. keeps_all _)
      walk_keeps (Sequence u v) state choices =
          keeps_then (walk p b here u state choices) (walk p c here u state choices) (walk_keeps u state choices) (λ after rest. walk_keeps v after rest)
      walk_keeps (If line e u v) state choices =
          keeps_then (evaluate p b here e state choices) (evaluate p c here e state choices) (value_keeps e state choices) (λ got rest.
          keeps_either (truth_of got.value) (walk_keeps u got.state rest) (walk_keeps v got.state rest))
      walk_keeps (Case line e arms) state choices =
          keeps_then (evaluate p b here e state choices) (evaluate p c here e state choices) (value_keeps e state choices) (λ got rest. arms_keep (number_of got.value) arms got.state rest)
      walk_keeps (While line f e s) state choices =
          keeps_turn b c keeps choices (λ l m below.
          keeps_on (reaches p here f state state choices) (λ now rest.
          keeps_then (evaluate p b here e now rest) (evaluate p c here e now rest) (value_keeps e now rest) (λ got more.
          keeps_either (truth_of got.value)
          (keeps_then (l.run here s got.state more) (m.run here s got.state more) (below.runs here s got.state more) (λ after last. below.runs here (While line f e s) after last))
          (keeps_all _))))
      walk_keeps (Repeat line f s e) state choices =
          keeps_turn b c keeps choices (λ l m below.
          keeps_on (reaches p here f state state choices) (λ now rest.
          keeps_then (l.run here s now rest) (m.run here s now rest) (below.runs here s now rest) (λ after more.
          keeps_then (evaluate p b here e after more) (evaluate p c here e after more) (value_keeps e after more) (λ got last.
          keeps_either (truth_of got.value) (keeps_all _) (below.runs here (Repeat line f s e) got.state last)))))
      walk_keeps (For line f count s) state choices =
          keeps_then (evaluate p b here count.first state choices) (evaluate p c here count.first state choices) (value_keeps count.first state choices) (λ first rest.
          keeps_then (evaluate p b here count.last first.state rest) (evaluate p c here count.last first.state rest) (value_keeps count.last first.state rest) (λ end more.
          count_keeps (record { invariant = f; count = count; body = s }) (number_of end.value) (number_of first.value) end.state more))
      walk_keeps (Assert a) state choices = keeps_all _

      arms_keep : (z : ℤ) (arms : Arms) (state : State) (choices : List Value) → Keeps (walk_arms p b here z arms state choices) (walk_arms p c here z arms state choices)
      arms_keep z no_arms state choices = keeps_all _
      arms_keep z (arm labels s others) state choices = keeps_either (list_any (int_eq z) labels) (walk_keeps s state choices) (arms_keep z others state choices)

  -- what there is with fewer turns below keeps what there is with more
  over_keeps : (b c : Option Level) → BelowKeeps b c → LevelKeeps (level_over p b) (level_over p c)
  over_keeps b c keeps = record {
    runs = λ here s state choices. walk_keeps b c keeps here s state choices;
    counts = λ here loop end candidate state choices. count_keeps b c keeps here loop end candidate state choices;
  }

  levels_keep : (n m : ℕ) → n ≤ m → LevelKeeps (level p n) (level p m)
  unfolding BelowKeeps
  levels_keep zero zero h = over_keeps None None tt
  levels_keep zero (suc m) h = over_keeps None (Some (level p m)) tt
  levels_keep (suc n) zero h = absurd (impossible h)
    where
      impossible : suc n ≤ 0 → ⊥
      impossible h = omega (arith, h)
  levels_keep (suc n) (suc m) h = over_keeps (Some (level p n)) (Some (level p m)) (levels_keep n m (omega (arith, h)))

  pub more_turns : (n m : ℕ) → n ≤ m → (here : Here) (s : Statement) (state : State) (choices : List Value) → is_done (run p n here s state choices).end ≡ true → run p m here s state choices ≡ run p n here s state choices
  more_turns n m h here s state choices done = sym (((levels_keep n m h).runs here s state choices).same done)
