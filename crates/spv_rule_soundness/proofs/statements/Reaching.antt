-- Runs one after the other, and annotations that hold where they are reached.
use Rattle.std.proofs.Common.{◌≡◌, ℕ, Bool, true, false, List, [], ◌∷◌, ◌++◌, refl, sym, ap, subst, ◌∙◌, Option, Some, None, option_map}
use Rattle.std.specs.Option.{unwrap_or}
use Rattle.std.specs.Cmp.Derive.{both_true}
use Rattle.std.proofs.lemmas.Bool.{false≢true}
use Rattle.spv_logic.specs.declared.conditions.Kind.{Kind}
use Rattle.spv_logic.specs.declared.conditions.RoutineId.{RoutineId}
use Rattle.spv_logic.specs.declared.operators.Head.{Head}
use Rattle.spv_logic.specs.declared.operators.Head.TheVariants as head
use Rattle.spv_logic.specs.Values.{Value, truth_of}
use Rattle.spv_logic.specs.Terms.{Term}
use Rattle.spv_logic.specs.Shapes.{shapes_ok}
use Rattle.spv_logic.specs.Fits.{default_of}
use Rattle.spv_logic.specs.Sorts.{variable_sort}
use Rattle.spv_logic.specs.Conditions.{Meaning, Valuation, IsValuation, View, Shows, Condition, both, shown_or, holds}
use Rattle.spv_logic.proofs.list.Tests.{left_true, right_true}
use Rattle.spv_logic.proofs.Defaults.{default_fits}
use Rattle.spv_program.specs.Formulas.{Annotation}
use Rattle.spv_program.specs.Programs.{Program, shapes, routine_in}
use Rattle.spv_program.specs.Supplies.{Supply, full_supply}
use Rattle.spv_program.specs.Terms.{body_term}
use Rattle.spv_program.proofs.SortFacts.{nothing_there, some_is}
use Rattle.spv_meaning.specs.Places.{State}
use Rattle.spv_meaning.specs.Views.{now_view}
use Rattle.spv_meaning.specs.declared.faults.Fault.{Fault}
use Rattle.spv_meaning.specs.Outcomes.{End, Met, is_going, Outcome, Ended, Stopped, Jump, Going, ends, stops, go_on, and_then, meets, stops_unless}
use Rattle.spv_meaning.specs.Levels.{Here, reached_in_body}
use Rattle.spv_meaning.specs.Starts.{IsStart}
use Rattle.spv_meaning.specs.Correct.{valuation_of, met_holds, all_hold}
use Rattle.spv_meaning.specs.Before.{all_assuming, assuming_if_there, wanted, annotation_term, wanted_if_there}
use Rattle.spv_rule_soundness.specs.statements.Truth.{is_new, IsWindow, IsEntry, meaning_in, shown, IsTrueFor, TermIgnores}
use Rattle.spv_rule_soundness.specs.statements.Runs.{Allowed, Reaches}
use Rattle.spv_rule_soundness.proofs.statements.Lists.{first_part, second_part, assumed}
use Rattle.spv_rule_soundness.proofs.statements.Views.{within, laid_over}
use Rattle.spv_rule_soundness.proofs.statements.States.{shown_fit}
use Rattle.spv_rule_soundness.proofs.statements.Annotations.{annotation_ignores}

stopped_no_end : {A : Type 0} (f : Fault) (x : A) → Stopped f ≡ Ended x → ⊥
stopped_no_end f x e = cc

jump_no_end : {A : Type 0} (label : ℕ) (state : State) (x : A) → Jump label state ≡ Ended x → ⊥
jump_no_end label state x e = cc

going_no_end : {A : Type 0} (x : A) → Going ≡ Ended x → ⊥
going_no_end x e = cc

stopped_no_jump : {A : Type 0} (x : End A) (f : Fault) (label : ℕ) (state : State) → x ≡ Stopped f → x ≡ Jump label state → ⊥
stopped_no_jump x f label state d e = cc

going_no_stop : {A : Type 0} (x : End A) (f : Fault) → x ≡ Going → x ≡ Stopped f → ⊥
going_no_stop x f d e = cc

going_no_jump : {A : Type 0} (x : End A) (label : ℕ) (state : State) → x ≡ Going → x ≡ Jump label state → ⊥
going_no_jump x label state d e = cc

ended_is : {A : Type 0} {x y : A} → Ended x ≡ Ended y → x ≡ y
ended_is {A} {x} {y} e = cc

stopped_is : {A : Type 0} (x : End A) (f g : Fault) → x ≡ Stopped f → x ≡ Stopped g → f ≡ g
stopped_is x f g d e = cc

label_is : {A : Type 0} (x : End A) (k l : ℕ) (s t : State) → x ≡ Jump k s → x ≡ Jump l t → k ≡ l
label_is x k l s t d e = cc

state_is : {A : Type 0} (x : End A) (k l : ℕ) (s t : State) → x ≡ Jump k s → x ≡ Jump l t → s ≡ t
state_is x k l s t d e = cc

all_hold-append : (p : Program) (world : Meaning) (xs ys : List Met) → all_hold p world xs ≡ true → all_hold p world ys ≡ true → all_hold p world (xs ++ ys) ≡ true
all_hold-append p world [] ys a b = b
all_hold-append p world (x ∷ xs) ys a b = both_true (left_true (met_holds p world x) _ a) (all_hold-append p world xs ys (right_true (met_holds p world x) _ a) b)

module _ (p : Program) (world : Meaning) (allowed : Allowed) where
  stopped_with : {A : Type 0} (P : A → Type 0) (f : Fault) (met : List Met) (rest : List Value) → all_hold p world met ≡ true → allowed.fault f ≡ true → Reaches p world allowed A P (record { end = Stopped f; met = met; rest = rest })
  stopped_with P f met rest holds passes = record {
    holds = holds;
    ended = λ y e. absurd (stopped_no_end f y e);
    stopped = λ g e. subst (λ h. allowed.fault h ≡ true) (stopped_is (Stopped f) f g refl e) passes;
    jumped = λ l s e. absurd (stopped_no_jump (Stopped f) f l s refl e);
  }

  ended_with : {A : Type 0} (P : A → Type 0) (x : A) (met : List Met) (rest : List Value) → all_hold p world met ≡ true → P x → Reaches p world allowed A P (record { end = Ended x; met = met; rest = rest })
  ended_with P x met rest holds passes = record {
    holds = holds;
    ended = λ y e. subst P (ended_is e) passes;
    stopped = λ f e. absurd (stopped_no_end f x (sym e));
    jumped = λ l s e. absurd (jump_no_end l s x (sym e));
  }

  pub reach_then : {A B : Type 0} (P : A → Type 0) (Q : B → Type 0) (o : Outcome A) (next : A → List Value → Outcome B) → Reaches p world allowed A P o → ((x : A) → P x → (rest : List Value) → Reaches p world allowed B Q (next x rest)) → Reaches p world allowed B Q (and_then o next)
  reach_then P Q o next first later = by_end o.end o.met o.rest first.holds first.ended first.stopped first.jumped
    where
      by_end : (e : End _) (met : List Met) (rest : List Value) → all_hold p world met ≡ true → ((x : _) → e ≡ Ended x → P x) → ((f : Fault) → e ≡ Stopped f → allowed.fault f ≡ true) → ((label : ℕ) (state : State) → e ≡ Jump label state → allowed.jump label state ≡ true) → Reaches p world allowed _ Q (go_on e met rest next)
      by_end (Ended x) met rest holds passes stopped jumped =
          let second = later x (passes x refl) rest in
          record { holds = all_hold-append p world met (next x rest).met holds second.holds; ended = second.ended; stopped = second.stopped; jumped = second.jumped }
      by_end (Stopped f) met rest holds passes stopped jumped = stopped_with Q f met rest holds (stopped f refl)
      by_end (Jump label state) met rest holds passes stopped jumped = record {
        holds = holds;
        ended = λ y e. absurd (jump_no_end label state y e);
        stopped = λ f e. absurd (stopped_no_jump (Jump label state) f label state e refl);
        jumped = λ l s e. subst (λ k. allowed.jump k s ≡ true) (label_is (Jump label state) label l state s refl e) (subst (λ t. allowed.jump label t ≡ true) (state_is (Jump label state) label l state s refl e) (jumped label state refl));
      }
      by_end Going met rest holds passes stopped jumped = record {
        holds = holds;
        ended = λ y e. absurd (going_no_end y e);
        stopped = λ f e. absurd (going_no_stop Going f refl e);
        jumped = λ l s e. absurd (going_no_jump Going l s refl e);
      }

  pub reach_ends : {A : Type 0} (P : A → Type 0) (x : A) (rest : List Value) → P x → Reaches p world allowed A P (ends x rest)
  reach_ends P x rest passes = ended_with P x [] rest refl passes

  pub reach_stops : {A : Type 0} (P : A → Type 0) (f : Fault) (rest : List Value) → allowed.fault f ≡ true → Reaches p world allowed A P (stops f rest)
  reach_stops P f rest passes = stopped_with P f [] rest refl passes

  pub reach_going : {A : Type 0} (P : A → Type 0) (rest : List Value) → Reaches p world allowed A P (is_going rest)
  reach_going P rest = record {
    holds = refl;
    ended = λ y e. absurd (going_no_end y e);
    stopped = λ f e. absurd (going_no_stop Going f refl e);
    jumped = λ l s e. absurd (going_no_jump Going l s refl e);
  }

  pub reach_unless : {A : Type 0} (P : A → Type 0) (test : Bool) (f : Fault) (x : A) (rest : List Value) → allowed.fault f ≡ true → P x → Reaches p world allowed A P (stops_unless test f x rest)
  reach_unless P true f x rest may passes = reach_ends P x rest passes
  reach_unless P false f x rest may passes = reach_stops P f rest may

  pub reach_as : {A : Type 0} (P Q : A → Type 0) (o : Outcome A) → ((x : A) → P x → Q x) → Reaches p world allowed A P o → Reaches p world allowed A Q o
  reach_as P Q o change first = record { holds = first.holds; ended = λ x e. change x (first.ended x e); stopped = first.stopped; jumped = first.jumped }

  pub reach_meets : {A : Type 0} (P : A → Type 0) (m : Option Met) (x : A) (rest : List Value) → ((y : Met) → m ≡ Some y → met_holds p world y ≡ true) → P x → Reaches p world allowed A P (meets m x rest)
  reach_meets P None x rest holds passes = reach_ends P x rest passes
  reach_meets P (Some m) x rest holds passes = ended_with P x (m ∷ []) rest (both_true (holds m refl) refl) passes

module _ (p : Program) (world : Meaning) where
  -- ---- lists that are true

  pub true_first : (view : View) (xs ys : List Condition) → IsTrueFor p world view (xs ++ ys) → IsTrueFor p world view xs
  true_first view xs ys is v val shows = first_part (meaning_in p world) v xs ys (is v val shows)

  pub true_second : (view : View) (xs ys : List Condition) → IsTrueFor p world view (xs ++ ys) → IsTrueFor p world view ys
  true_second view xs ys is v val shows = second_part (meaning_in p world) v xs ys (is v val shows)

  pub true_assumed : (view : View) (h : Term) (conditions : List Condition) → ((v : Valuation) → IsValuation (shapes p) v → Shows view v → holds (meaning_in p world) v h ≡ true) → IsTrueFor p world view (all_assuming h conditions) → IsTrueFor p world view conditions
  true_assumed view h conditions known is v val shows = assumed (meaning_in p world) v h conditions (known v val shows) (is v val shows)

  -- a wanted formula holds under each valuation
  pub wanted_holds : (view : View) (here : Option RoutineId) (k : Kind) (line : ℕ) (t : Term) → IsTrueFor p world view (wanted here k line t ∷ []) → (v : Valuation) → IsValuation (shapes p) v → Shows view v → holds (meaning_in p world) v t ≡ true
  wanted_holds view here k line t is v val shows = left_true (holds (meaning_in p world) v t) _ (is v val shows)

  pub true_under : (here : Here) (view : View) (f : Option Annotation) (k : Kind) (conditions : List Condition) → IsTrueFor p world view (wanted_if_there p here.routine k f) → IsTrueFor p world view (assuming_if_there (annotation_term p here.routine f) conditions) → IsTrueFor p world view conditions
  true_under here view None k conditions known is = is
  true_under here view (Some a) k conditions known is =
      true_assumed view (body_term p (routine_in p here.routine) a) conditions (wanted_holds view here.routine k a.line (body_term p (routine_in p here.routine) a) known) is

  -- ---- annotations that are reached

  module _ (ok : shapes_ok (shapes p) ≡ true) (here : Here) (entry : IsEntry p here.entry) where
    pub formula_holds : (n : Supply) (window : View) → IsWindow p n window → (state : State) → IsStart p here.routine state → (t : Term) → TermIgnores p world full_supply t → ((v : Valuation) → IsValuation (shapes p) v → Shows (shown p here window state) v → holds (meaning_in p world) v t ≡ true) → holds (meaning_in p world) (valuation_of (shapes p) (both here.entry (now_view p here.routine state))) t ≡ true
    formula_holds n window is state start t ignores known =
        let view = shown p here window state in
        let base : Valuation = λ h. default_of (shapes p) (variable_sort h) in
        let v = within view base in
        let val = laid_over p view (shown_fit p ok world here entry n window is state start) base (record {
          variables = λ x s m. default_fits (shapes p) ok s;
          classes = λ t m. default_fits (shapes p) ok (variable_sort (head.ClassVar t m));
          starts = λ x s. default_fits (shapes p) ok s;
        }) in
        ap truth_of (ignores.alike (valuation_of (shapes p) (both here.entry (now_view p here.routine state))) v (λ h variable old. by_state h old (both here.entry (now_view p here.routine state) h) refl))
        ∙ known v val (λ h w e. ap (λ o. unwrap_or o (base h)) e)
      where
        by_window : (h : Head) → is_new full_supply h ≡ false → (o : Option Value) → window h ≡ o → default_of (shapes p) (variable_sort h) ≡ unwrap_or o (default_of (shapes p) (variable_sort h))
        by_window h old None e = refl
        by_window h old (Some w) e = absurd (false≢true (sym old ∙ is.fresh h w e))

        by_state : (h : Head) → is_new full_supply h ≡ false → (o : Option Value) → both here.entry (now_view p here.routine state) h ≡ o → unwrap_or o (default_of (shapes p) (variable_sort h)) ≡ unwrap_or (shown_or o (window h)) (default_of (shapes p) (variable_sort h))
        by_state h old (Some w) e = refl
        by_state h old None e = by_window h old (window h) refl

    -- an annotation that is wanted holds where it is reached
    pub reached_holds : (n : Supply) (window : View) → IsWindow p n window → (state : State) → IsStart p here.routine state → (f : Option Annotation) (k kind : Kind) → IsTrueFor p world (shown p here window state) (wanted_if_there p here.routine k f) → (m : Met) → option_map (reached_in_body p here kind state) f ≡ Some m → met_holds p world m ≡ true
    reached_holds n window is state start None k kind known m e = absurd (nothing_there e)
    reached_holds n window is state start (Some a) k kind known m e =
        let t = body_term p (routine_in p here.routine) a in
        ap (met_holds p world) (sym (some_is e)) ∙ formula_holds n window is state start t (annotation_ignores p world full_supply (routine_in p here.routine) a) (wanted_holds (shown p here window state) here.routine k a.line t known)
