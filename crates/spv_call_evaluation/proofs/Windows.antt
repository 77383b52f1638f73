-- Windows that widen, and evaluations one after the other.
use Rattle.std.proofs.Common.{◌≡◌, Bool, true, false, List, [], ◌++◌, refl, sym, subst, ◌∙◌, Option, Some, None}
use Rattle.std.proofs.lemmas.Bool.{false≢true}
use Rattle.spv_logic.specs.declared.operators.Head.{Head}
use Rattle.spv_logic.specs.Values.{Value}
use Rattle.spv_logic.specs.Conditions.{Meaning, Valuation, IsValuation, View, Shows, Condition, both, shown_or}
use Rattle.spv_program.specs.Programs.{Program, shapes}
use Rattle.spv_program.specs.Supplies.{Supply}
use Rattle.spv_program.specs.ExpressionTerms.{Called}
use Rattle.spv_program.specs.Typing.{well_typed}
use Rattle.spv_meaning.specs.declared.faults.Fault.{Fault}
use Rattle.spv_meaning.specs.Places.{State}
use Rattle.spv_meaning.specs.Views.{now_view}
use Rattle.spv_meaning.specs.Outcomes.{Outcome, Ended, ends, and_then, stops_unless}
use Rattle.spv_meaning.specs.Levels.{Here}
use Rattle.spv_meaning.specs.Starts.{IsStart}
use Rattle.spv_meaning.specs.Before.{before_calls}
use Rattle.spv_rule_soundness.specs.statements.Truth.{IsWindow, IsEntry, meaning_in, shown, IsTrueFor}
use Rattle.spv_rule_soundness.specs.statements.Runs.{all_allowed, Reaches}
use Rattle.spv_rule_soundness.proofs.evaluation.Settings.{setting}
use Rattle.spv_rule_soundness.proofs.statements.Views.{state_old, in_first}
use Rattle.spv_rule_soundness.proofs.statements.Lists.{not_new, later_after}
use Rattle.spv_rule_soundness.proofs.statements.Reaching.{reach_then, reach_ends, reach_stops, reach_as}
use Rattle.spv_rule_soundness.proofs.statements.Supplied.{calls-append}
use Rattle.spv_call_evaluation.specs.Known.{Knows, Widens, Widely}
use Rattle.spv_call_evaluation.specs.Laws.{IsTrueBefore}

-- what knows a wider window knows a narrower one
pub narrower : (p : Program) (symbols : Meaning) (here : Here) (state : State) (window wider : View) → ((h : Head) (w : Value) → window h ≡ Some w → wider h ≡ Some w) → (v : Valuation) → Knows p symbols here state wider v → Knows p symbols here state window v
narrower p symbols here state window wider keeps v knows = record { setting = knows.setting; shows = λ h w e. knows.shows h w (keeps h w e) }

-- what has a value in a window shows beside a state, which shows no fresh variable
pub window_shown : (p : Program) (here : Here) → IsEntry p here.entry → (n : Supply) (window : View) → IsWindow p n window → (state : State) (h : Head) (w : Value) → window h ≡ Some w → shown p here window state h ≡ Some w
window_shown p here entry n window is state h w e = by_state (both here.entry (now_view p here.routine state) h) refl
  where
    by_state : (o : Option Value) → both here.entry (now_view p here.routine state) h ≡ o → shown_or o (window h) ≡ Some w
    by_state None there = e
    by_state (Some u) there = absurd (false≢true (sym (state_old p here entry state h u there) ∙ is.fresh h w e))

-- a valuation of what is shown knows the state and the window
pub knows_shown : (p : Program) → well_typed p ≡ true → (world : Meaning) (here : Here) → IsEntry p here.entry → (n : Supply) (window : View) → IsWindow p n window → (state : State) → IsStart p here.routine state → (v : Valuation) → IsValuation (shapes p) v → Shows (shown p here window state) v → Knows p (meaning_in p world) here state window v
knows_shown p typed world here entry n window is state start v val shows = record {
  setting = setting p typed world v here state (record { valuation = val; start = start; shows = λ h w e. shows h w (in_first _ (window h) w (in_first _ (here.entry h) w e)) });
  shows = λ h w e. shows h w (window_shown p here entry n window is state h w e);
}

module _ (p : Program) (world : Meaning) where
  -- a test that stops where it fails
  pub checked : {A : Type 0} (P : A → Type 0) (test : Bool) (f : Fault) (x : A) (rest : List Value) → (test ≡ true → P x) → Reaches p world all_allowed A P (stops_unless test f x rest)
  checked P true f x rest passes = reach_ends p world all_allowed P x rest (passes refl)
  checked P false f x rest passes = reach_stops p world all_allowed P f rest refl

  pub checked_then : {A B : Type 0} (Q : B → Type 0) (test : Bool) (f : Fault) (x : A) (rest : List Value) (next : A → List Value → Outcome B) → (test ≡ true → Reaches p world all_allowed B Q (next x rest)) → Reaches p world all_allowed B Q (and_then (stops_unless test f x rest) next)
  checked_then Q true f x rest next later = let second = later refl in record { holds = second.holds; ended = second.ended; stopped = second.stopped; jumped = second.jumped }
  checked_then Q false f x rest next later = reach_stops p world all_allowed Q f rest refl

  -- what ended, and that it did
  pub record Given (A : Type 0) (P : A → Type 0) (o : Outcome A) (x : A) : Type 0 where
    pub passes : P x
    pub ended : o.end ≡ Ended x

  pub reach_with : {A : Type 0} (P : A → Type 0) (o : Outcome A) → Reaches p world all_allowed A P o → Reaches p world all_allowed A (Given A P o) o
  reach_with P o first = record { holds = first.holds; ended = λ x e. record { passes = first.ended x e; ended = e }; stopped = first.stopped; jumped = first.jumped }

  module _ (here : Here) (state : State) where
    -- where nothing is called the window stays
    pub as_it_was : (n : Supply) (window : View) (wanted : List Condition) → IsTrueBefore p world here state n window [] wanted → Widens p world here state n n window window wanted
    as_it_was n window wanted from =
        record { later = λ h new. new; is_window = from.is_window; keeps = λ h w e. e; adds = λ h old. refl; true_there = from.true_there }

    pub widens_then : (n m k : Supply) (window wider widest : View) (one two : List Condition) → Widens p world here state n m window wider one → Widens p world here state m k wider widest two → Widens p world here state n k window widest two
    widens_then n m k window wider widest one two a b = record {
      later = later_after n m k a.later b.later;
      is_window = b.is_window;
      keeps = λ h w e. b.keeps h w (a.keeps h w e);
      adds = λ h old. b.adds h (not_new n m h a.later old) ∙ a.adds h old;
      true_there = b.true_there;
    }

    pub behind_them : (n m : Supply) (window wider : View) (calls : List Called) (wanted : List Condition) → Widens p world here state n m window wider (before_calls here.routine calls wanted) → IsTrueBefore p world here state m wider calls wanted
    behind_them n m window wider calls wanted a = record { is_window = a.is_window; true_there = a.true_there }

    pub first_calls : (n : Supply) (window : View) (xs ys : List Called) (wanted : List Condition) → IsTrueBefore p world here state n window (xs ++ ys) wanted → IsTrueBefore p world here state n window xs (before_calls here.routine ys wanted)
    first_calls n window xs ys wanted from =
        record { is_window = from.is_window; true_there = subst (IsTrueFor p world (shown p here window state)) (calls-append here.routine xs ys wanted) from.true_there }

    -- something with no calls passes
    pub gives_now : {A : Type 0} (P : View → A → Type 0) (n : Supply) (window : View) (wanted : List Condition) (x : A) (rest : List Value) → IsTrueBefore p world here state n window [] wanted → P window x → Reaches p world all_allowed A (Widely p world here state n n window wanted A P) (ends x rest)
    gives_now P n window wanted x rest from passes =
        reach_ends p world all_allowed _ x rest (record { wider = window; widens = as_it_was n window wanted from; passes = passes })

    -- one behind the other: the second begins with the window of the first
    pub gives_then : {A B : Type 0} (P : View → A → Type 0) (Q : View → B → Type 0) (n m k : Supply) (window : View) (one two : List Condition) (o : Outcome A) (next : A → List Value → Outcome B)
        → Reaches p world all_allowed A (Widely p world here state n m window one A P) o
        → ((x : A) → o.end ≡ Ended x → (wider : View) → Widens p world here state n m window wider one → P wider x → (rest : List Value) → Reaches p world all_allowed B (Widely p world here state m k wider two B Q) (next x rest))
        → Reaches p world all_allowed B (Widely p world here state n k window two B Q) (and_then o next)
    gives_then P Q n m k window one two o next first later =
        reach_then p world all_allowed _ _ o next (reach_with _ o first) (λ x given rest.
        reach_as p world all_allowed _ _ (next x rest)
        (λ y second. record {
          wider = second.wider;
          widens = widens_then n m k window given.passes.wider second.wider one two given.passes.widens second.widens;
          passes = second.passes;
        })
        (later x given.ended given.passes.wider given.passes.widens given.passes.passes rest))

    -- and something is made of what was given
    pub gives_map : {A B : Type 0} (P : View → A → Type 0) (Q : View → B → Type 0) (n m : Supply) (window : View) (wanted : List Condition) (f : A → B) (o : Outcome A)
        → Reaches p world all_allowed A (Widely p world here state n m window wanted A P) o
        → ((x : A) (wider : View) → Widens p world here state n m window wider wanted → P wider x → Q wider (f x))
        → Reaches p world all_allowed B (Widely p world here state n m window wanted B Q) (and_then o (λ x rest. ends (f x) rest))
    gives_map P Q n m window wanted f o first made =
        reach_then p world all_allowed _ _ o (λ x rest. ends (f x) rest) first (λ x given rest.
        reach_ends p world all_allowed _ (f x) rest (record { wider = given.wider; widens = given.widens; passes = made x given.wider given.widens given.passes }))
