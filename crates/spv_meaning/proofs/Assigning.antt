-- An assignment of a variable or a constant to a variable: what it does, and the conditions before it.
use Rattle.std.proofs.Common.{◌≡◌, ℕ, Bool, true, false, cond, List, [], ◌∷◌, map, pos, refl, sym, ap, ◌∙◌, Option, Some, None, option_map, is_some}
use Rattle.std.specs.Option.{option_and_then}
use Rattle.std.specs.List.{list_all}
use Rattle.std.proofs.lemmas.Bool.{false≢true}
use Rattle.spv_logic.specs.declared.names.names.Symbol.{Symbol}
use Rattle.spv_logic.specs.declared.types.TypeId.{TypeId}
use Rattle.spv_logic.specs.declared.types.Sort.{Sort}
use Rattle.spv_logic.specs.declared.types.Sort.TheVariants as sort
use Rattle.spv_logic.specs.declared.operators.Head.{Head}
use Rattle.spv_logic.specs.declared.operators.Head.TheVariants as head
use Rattle.spv_logic.specs.Values.{Value, Number, Truth, Pointer, truth_of}
use Rattle.spv_logic.specs.Terms.{Term, head_eq, sort_eq, eval}
use Rattle.spv_logic.specs.Shapes.{is_pointer}
use Rattle.spv_logic.specs.Fits.{fits}
use Rattle.spv_logic.specs.Conditions.{Meaning, Valuation, Sequent, Condition, View, IsValuation, Shows, answers, holds, follows}
use Rattle.spv_logic.specs.Substitution.{Replacement, is_variable, substitute, under, value_under}
use Rattle.spv_logic.proofs.Equality.{head_eq-true}
use Rattle.spv_logic.proofs.Substitution.{eval-substitute, eval-same}
use Rattle.spv_program.specs.declared.types.Item.TheVariants.{Variable}
use Rattle.spv_program.specs.Lists.{found}
use Rattle.spv_program.specs.Types.{sort_of, type_exists}
use Rattle.spv_program.specs.Expressions.{Expression, Numeral, Boolean, NilOf, Read, designator, no_selectors, at_index, at_field, at_cell}
use Rattle.spv_program.specs.Programs.{Program, shapes}
use Rattle.spv_program.specs.ExpressionTypes.{expression_sort}
use Rattle.spv_program.specs.Terms.{alone, numeral, truth, item_head}
use Rattle.spv_program.specs.Supplies.{Supply}
use Rattle.spv_program.specs.Calls.{replacing}
use Rattle.spv_program.specs.ExpressionTerms.{without_calls, valued}
use Rattle.spv_program.proofs.SortFacts.{nothing_there, some_is, sort_told}
use Rattle.spv_meaning.specs.Places.{State, put, value_or_zero}
use Rattle.spv_meaning.specs.Views.{now_view}
use Rattle.spv_meaning.specs.Levels.{Here, Level}
use Rattle.spv_meaning.specs.Evaluation.{evaluate, gives}
use Rattle.spv_meaning.specs.Starts.{IsStart}
use Rattle.spv_meaning.specs.Before.{replaced, substitute_in}
use Rattle.spv_meaning.specs.Assignments.{is_simple}
use Rattle.spv_meaning.proofs.MainViews.{variable, look-variable, IsDeclared, head_is, view-declared, declared_there, value_fits, view-other, view-same}

-- where the main block runs
abbrev pub in_main : View → Here
in_main entry = record { routine = None; entry = entry }

-- ---- simple expressions

pub value_of : State → Expression → Value
value_of state (Numeral z) = Number z
value_of state (Boolean b) = Truth b
value_of state (NilOf t) = Pointer 0
value_of state (Read (designator line x others)) = value_or_zero (found state.variables x)
value_of state _ = Number (pos 0)

pub term_for : Program → Expression → Term
term_for p (Numeral z) = numeral z
term_for p (Boolean b) = truth b
term_for p (NilOf t) = alone (head.Nil t)
term_for p (Read (designator line x others)) = alone (item_head p None (Variable x))
term_for p _ = numeral (pos 0)

-- a simple expression gives its value, and nothing else happens
pub evaluates : (p : Program) (below : Option Level) (entry : View) (e : Expression) → is_simple e ≡ true → (state : State) (choices : List Value) → evaluate p below (in_main entry) e state choices ≡ gives (value_of state e) state choices
unfolding value_of
evaluates p below entry (Numeral z) h state choices = refl
evaluates p below entry (Boolean b) h state choices = refl
evaluates p below entry (NilOf t) h state choices = refl
evaluates p below entry (Read (designator line x no_selectors)) h state choices =
    ap (λ o. gives (value_or_zero o) state choices) (look-variable state x)
evaluates p below entry (Read (designator line x (at_index t e others))) h state choices = absurd (false≢true h)
evaluates p below entry (Read (designator line x (at_field t f others))) h state choices = absurd (false≢true h)
evaluates p below entry (Read (designator line x (at_cell l t others))) h state choices = absurd (false≢true h)
evaluates p below entry _ h state choices = absurd (false≢true h)

-- its term makes no call
pub term_is : (p : Program) (n : Supply) (e : Expression) → is_simple e ≡ true → valued p None n e ≡ without_calls n (term_for p e)
unfolding term_for
term_is p n (Numeral z) h = refl
term_is p n (Boolean b) h = refl
term_is p n (NilOf t) h = refl
term_is p n (Read (designator line x no_selectors)) h = refl
term_is p n (Read (designator line x (at_index t e others))) h = absurd (false≢true h)
term_is p n (Read (designator line x (at_field t f others))) h = absurd (false≢true h)
term_is p n (Read (designator line x (at_cell l t others))) h = absurd (false≢true h)
term_is p n _ h = absurd (false≢true h)

-- ---- the variables in them

-- a declared variable with its sort
pub record Declared (p : Program) (x : Symbol) (s : Sort) : Type 0 where
  pub type : TypeId
  pub is : IsDeclared p x type
  pub sort_is : sort_of p.forms type ≡ s

pub declared_as : (p : Program) (x : Symbol) (s : Sort) → option_map (sort_of p.forms) (option_and_then (λ t. Some t) (found p.variables x)) ≡ Some s → Declared p x s
declared_as p x s e = by_type (found p.variables x) refl e
  where
    by_type : (o : Option TypeId) → found p.variables x ≡ o → option_map (sort_of p.forms) (option_and_then (λ t. Some t) o) ≡ Some s → Declared p x s
    by_type None is e = absurd (nothing_there e)
    by_type (Some t) is e = record { type = t; is = record { is = is }; sort_is = some_is e }

-- under a valuation that gives the names what the state shows, a simple expression's term is worth its value
pub term_worth : (p : Program) (state : State) → IsStart p None state → (symbols : Meaning) (v : Valuation) → Shows (now_view p None state) v → (e : Expression) → is_simple e ≡ true → (s : Sort) → expression_sort p None e ≡ Some s → eval symbols v (term_for p e) ≡ value_of state e
unfolding value_of term_for
term_worth p state start symbols v shows (Numeral z) h s typed = refl
term_worth p state start symbols v shows (Boolean true) h s typed = refl
term_worth p state start symbols v shows (Boolean false) h s typed = refl
term_worth p state start symbols v shows (NilOf t) h s typed = refl
term_worth p state start symbols v shows (Read (designator line x no_selectors)) h s typed =
    let d = declared_as p x s typed in
    ap v (head_is p x d.type d.is) ∙ shown (found state.variables x) refl (declared_there p state start x d.type d.is) (shows (head.Var x (sort_of p.forms d.type) 0)) (view-declared p state x d.type d.is)
  where
    shown : {k : Value} (o : Option Value) → found state.variables x ≡ o → is_some (found state.variables x) ≡ true → {o' : Option Value} → ((w : Value) → o' ≡ Some w → k ≡ w) → o' ≡ found state.variables x → k ≡ value_or_zero (found state.variables x)
    shown None e there say same = absurd (false≢true (sym (ap is_some e) ∙ there))
    shown (Some w) e there say same = say w (same ∙ e) ∙ ap value_or_zero (sym e)
term_worth p state start symbols v shows (Read (designator line x (at_index t e others))) h s typed = absurd (false≢true h)
term_worth p state start symbols v shows (Read (designator line x (at_field t f others))) h s typed = absurd (false≢true h)
term_worth p state start symbols v shows (Read (designator line x (at_cell l t others))) h s typed = absurd (false≢true h)
term_worth p state start symbols v shows _ h s typed = absurd (false≢true h)

-- its value has its sort
pub simple_fits : (p : Program) (state : State) → IsStart p None state → (e : Expression) → is_simple e ≡ true → (s : Sort) → expression_sort p None e ≡ Some s → fits (shapes p) (value_of state e) s ≡ true
unfolding value_of
simple_fits p state start (Numeral z) h s typed = ap (λ r. sort_eq r sort.Int) (sym (some_is typed))
simple_fits p state start (Boolean b) h s typed = ap (λ r. sort_eq r sort.Bool) (sym (some_is typed))
simple_fits p state start (NilOf t) h s typed = ap is_pointer (sym (sort_told (type_exists p.forms t) (sort.Ptr t) s typed))
simple_fits p state start (Read (designator line x no_selectors)) h s typed =
    let d = declared_as p x s typed in
    ap (fits (shapes p) (value_or_zero (found state.variables x))) (sym d.sort_is) ∙ value_fits p state start x d.type d.is
simple_fits p state start (Read (designator line x (at_index t e others))) h s typed = absurd (false≢true h)
simple_fits p state start (Read (designator line x (at_field t f others))) h s typed = absurd (false≢true h)
simple_fits p state start (Read (designator line x (at_cell l t others))) h s typed = absurd (false≢true h)
simple_fits p state start _ h s typed = absurd (false≢true h)

-- ---- the valuation before an assignment, from one after it

-- the head of a variable of the main block
abbrev pub head_of : Program → Symbol → Head
head_of p x = item_head p None (Variable x)

abbrev pub earlier : Program → State → Symbol → Valuation → Valuation
earlier p state x v h = cond (head_eq h (head_of p x)) (value_or_zero (found state.variables x)) (v h)

fits_earlier : (p : Program) (state : State) → IsStart p None state → (x : Symbol) (t : TypeId) → IsDeclared p x t → (h : Head) (s : Sort) (v : Value) → (h ≡ head.Var x (sort_of p.forms t) 0 → s ≡ sort_of p.forms t) → fits (shapes p) v s ≡ true → (b : Bool) → head_eq h (head_of p x) ≡ b → fits (shapes p) (cond b (value_or_zero (found state.variables x)) v) s ≡ true
fits_earlier p state start x t d h s v is fit true e =
    ap (fits (shapes p) (value_or_zero (found state.variables x))) (is (head_eq-true h (head_of p x) e ∙ head_is p x t d)) ∙ value_fits p state start x t d
fits_earlier p state start x t d h s v is fit false e = fit

same_sort_of : (y : Symbol) (s : Sort) (n : ℕ) (x : Symbol) (r : Sort) → head.Var y s n ≡ head.Var x r 0 → s ≡ r
same_sort_of y s n x r e = cc

class_sort : (u : TypeId) (n : ℕ) (x : Symbol) (r s : Sort) → head.ClassVar u n ≡ head.Var x r 0 → s ≡ r
class_sort u n x r s e = cc

start_sort : (y : Symbol) (u : Sort) (x : Symbol) (r s : Sort) → head.Start y u ≡ head.Var x r 0 → s ≡ r
start_sort y u x r s e = cc

earlier_valuation : (p : Program) (state : State) → IsStart p None state → (x : Symbol) (t : TypeId) → IsDeclared p x t → (v : Valuation) → IsValuation (shapes p) v → IsValuation (shapes p) (earlier p state x v)
earlier_valuation p state start x t d v ok = record {
  variables = λ y s n. fits_earlier p state start x t d (head.Var y s n) s (v (head.Var y s n)) (same_sort_of y s n x (sort_of p.forms t)) (ok.variables y s n) (head_eq (head.Var y s n) (head_of p x)) refl;
  classes = λ u n. fits_earlier p state start x t d (head.ClassVar u n) (sort.Class u) (v (head.ClassVar u n)) (class_sort u n x (sort_of p.forms t) (sort.Class u)) (ok.classes u n) (head_eq (head.ClassVar u n) (head_of p x)) refl;
  starts = λ y s. fits_earlier p state start x t d (head.Start y s) s (v (head.Start y s)) (start_sort y s x (sort_of p.forms t) s) (ok.starts y s) (head_eq (head.Start y s) (head_of p x)) refl;
}

shows_earlier : (p : Program) (state : State) (x : Symbol) (w : Value) (t : TypeId) → IsDeclared p x t → (v : Valuation) → Shows (now_view p None (put state (variable x) w)) v → (h : Head) (u : Value) → now_view p None state h ≡ Some u → (b : Bool) → head_eq h (head_of p x) ≡ b → cond b (value_or_zero (found state.variables x)) (v h) ≡ u
shows_earlier p state x w t d v shows h u e true is =
    let at : h ≡ head.Var x (sort_of p.forms t) 0 = head_eq-true h (head_of p x) is ∙ head_is p x t d in
    ap value_or_zero (sym (view-declared p state x t d) ∙ (sym (ap (now_view p None state) at) ∙ e))
shows_earlier p state x w t d v shows h u e false is =
    shows h u (view-other p state x w t d h (ap (head_eq h) (sym (head_is p x t d)) ∙ is) ∙ e)

replaced_value : (p : Program) (state : State) → IsStart p None state → (x : Symbol) (t : TypeId) → IsDeclared p x t → (e : Expression) → is_simple e ≡ true → (s : Sort) → expression_sort p None e ≡ Some s → (symbols : Meaning) (v : Valuation) → Shows (now_view p None (put state (variable x) (value_of state e))) v → Shows (now_view p None state) (earlier p state x v) → (k : Head) (b : Bool) → head_eq k (head_of p x) ≡ b
    → value_under symbols (earlier p state x v) (cond b (Some (term_for p e)) None) (cond b (value_or_zero (found state.variables x)) (v k)) ≡ v k
replaced_value p state start x t d e simple s typed symbols v shows before_shows k true is =
    let at : k ≡ head.Var x (sort_of p.forms t) 0 = head_eq-true k (head_of p x) is ∙ head_is p x t d in
    term_worth p state start symbols (earlier p state x v) before_shows e simple s typed
    ∙ sym (ap v at ∙ shows (head.Var x (sort_of p.forms t) 0) (value_of state e) (view-same p state start x (value_of state e) t d))
replaced_value p state start x t d e simple s typed symbols v shows before_shows k false is = refl

-- ---- conditions

list_all-map : {X Y : Type 0} (test : Y → Bool) (other : X → Bool) (f : X → Y) → ((x : X) → test (f x) ≡ other x) → (xs : List X) → list_all test (map f xs) ≡ list_all other xs
list_all-map test other f same [] = refl
list_all-map test other f same (x ∷ xs) =
    let e = same x in
    let g = list_all-map test other f same xs in
    cc (e, g)

claim_after : (symbols : Meaning) (by : Replacement) (v w : Valuation) (c : Sequent) → ((k : Head) → is_variable k ≡ true → under symbols by v k ≡ w k) → follows symbols v (substitute_in by c) ≡ follows symbols w c
claim_after symbols by v w c same =
    let one : (t : Term) → holds symbols v (substitute by t) ≡ holds symbols w t = λ t. ap truth_of (eval-substitute symbols by v t ∙ eval-same symbols (under symbols by v) w t same) in
    let all = list_all-map (holds symbols v) (holds symbols w) (substitute by) one c.given in
    let goal = one c.goal in
    cc (all, goal)

-- a sequent is true of what a state shows the main block
abbrev pub TrueNow : Program → Meaning → Sequent → State → Type 0
TrueNow p world c state = (v : Valuation) → IsValuation (shapes p) v → Shows (now_view p None state) v → follows (answers (shapes p) p.symbols world) v c ≡ true

abbrev pub AllTrueNow : Program → Meaning → List Condition → State → Type 0
AllTrueNow p world [] state = Unit {0}
AllTrueNow p world (c ∷ cs) state = TrueNow p world c.claim state × AllTrueNow p world cs state

abbrev pub pair : Program → Symbol → Expression → List (Head × Term)
pair p x e = (head_of p x, term_for p e) ∷ []

-- what is true before the assignment with the expression in the variable's place is true after it
assignment_true : (p : Program) (world : Meaning) (state : State) → IsStart p None state → (x : Symbol) (t : TypeId) → IsDeclared p x t → (e : Expression) → is_simple e ≡ true → (s : Sort) → expression_sort p None e ≡ Some s → (c : Sequent) → TrueNow p world (substitute_in (replacing (pair p x e)) c) state → TrueNow p world c (put state (variable x) (value_of state e))
assignment_true p world state start x t d e simple s typed c holds_before v ok shows =
    let symbols = answers (shapes p) p.symbols world in
    let before_shows : Shows (now_view p None state) (earlier p state x v) = λ h u is. shows_earlier p state x (value_of state e) t d v shows h u is (head_eq h (head_of p x)) refl in
    let same = claim_after symbols (replacing (pair p x e)) (earlier p state x v) v c (λ k is. replaced_value p state start x t d e simple s typed symbols v shows before_shows k (head_eq k (head_of p x)) refl) in
    sym same ∙ holds_before (earlier p state x v) (earlier_valuation p state start x t d v ok) before_shows

pub all_assigned : (p : Program) (world : Meaning) (state : State) → IsStart p None state → (x : Symbol) (t : TypeId) → IsDeclared p x t → (e : Expression) → is_simple e ≡ true → (s : Sort) → expression_sort p None e ≡ Some s → (cs : List Condition) → AllTrueNow p world (replaced (pair p x e) cs) state → AllTrueNow p world cs (put state (variable x) (value_of state e))
all_assigned p world state start x t d e simple s typed [] h = tt
all_assigned p world state start x t d e simple s typed (c ∷ cs) h =
    (assignment_true p world state start x t d e simple s typed c.claim h.0, all_assigned p world state start x t d e simple s typed cs h.1)
