-- The truth of lists of conditions in a state, with fresh variables of which some have fixed values.
use Rattle.std.specs.Prelude.{◌≡◌, Bool, true, false, List, Some, nat_lt}
use Rattle.std.specs.List.{list_all}
use Rattle.spv_logic.specs.declared.operators.Head.{Head}
use Rattle.spv_logic.specs.declared.operators.Head.TheVariants as head
use Rattle.spv_logic.specs.Values.{Value}
use Rattle.spv_logic.specs.Terms.{Term, eval}
use Rattle.spv_logic.specs.Fits.{fits}
use Rattle.spv_logic.specs.Sorts.{variable_sort}
use Rattle.spv_logic.specs.Substitution.{is_variable}
use Rattle.spv_logic.specs.Conditions.{Meaning, Valuation, IsValuation, View, Shows, Condition, both, answers, follows}
use Rattle.spv_program.specs.Programs.{Program, shapes}
use Rattle.spv_program.specs.Supplies.{Supply, full_supply}
use Rattle.spv_meaning.specs.Places.{State}
use Rattle.spv_meaning.specs.Views.{now_view}
use Rattle.spv_meaning.specs.Levels.{Here}

-- ---- fresh variables

-- whether a variable or class is one that a supply has still to give
abbrev pub is_new : Supply → Head → Bool
is_new n (head.Var x s m) = nat_lt (n.names x) m
is_new n (head.ClassVar t m) = nat_lt (n.classes t) m
is_new n _ = false

-- a later supply gives nothing that an earlier one could not
abbrev pub IsLater : Supply → Supply → Type 0
IsLater earlier later = (h : Head) → is_new later h ≡ true → is_new earlier h ≡ true

-- values of fresh variables that were taken from a supply
pub record IsWindow (p : Program) (n : Supply) (window : View) : Type 0 where
  pub fit : (h : Head) (w : Value) → window h ≡ Some w → fits (shapes p) w (variable_sort h) ≡ true
  pub taken : (h : Head) (w : Value) → window h ≡ Some w → is_new n h ≡ false
  pub fresh : (h : Head) (w : Value) → window h ≡ Some w → is_new full_supply h ≡ true

-- what showed when a routine began: values of their sorts, of no fresh variable
pub record IsEntry (p : Program) (entry : View) : Type 0 where
  pub fit : (h : Head) (w : Value) → entry h ≡ Some w → fits (shapes p) w (variable_sort h) ≡ true
  pub old : (h : Head) (w : Value) → entry h ≡ Some w → is_new full_supply h ≡ false

-- ---- truth

abbrev pub meaning_in : Program → Meaning → Meaning
meaning_in p world = answers (shapes p) p.symbols world

-- whether each condition of a list is true
abbrev pub all_follow : Meaning → Valuation → List Condition → Bool
all_follow symbols v conditions = list_all (λ c. follows symbols v c.claim) conditions

-- what a state shows in a routine: what shows now, what showed at the entry, and the fixed fresh variables
abbrev pub shown : Program → Here → View → State → View
shown p here window state = both window (both here.entry (now_view p here.routine state))

-- a list is true at a view: under each valuation that shows it
abbrev pub IsTrueFor : Program → Meaning → View → List Condition → Type 0
IsTrueFor p world view conditions =
    (v : Valuation) → IsValuation (shapes p) v → Shows view v → all_follow (meaning_in p world) v conditions ≡ true

-- the truth of a list has nothing to do with what a supply has still to give
pub record Ignores (p : Program) (world : Meaning) (n : Supply) (conditions : List Condition) : Type 0 where
  pub alike : (v w : Valuation) → ((h : Head) → is_variable h ≡ true → is_new n h ≡ false → v h ≡ w h) → all_follow (meaning_in p world) v conditions ≡ all_follow (meaning_in p world) w conditions

-- what a term is worth has nothing to do with what a supply has still to give
pub record TermIgnores (p : Program) (world : Meaning) (n : Supply) (t : Term) : Type 0 where
  pub alike : (v w : Valuation) → ((h : Head) → is_variable h ≡ true → is_new n h ≡ false → v h ≡ w h) → eval (meaning_in p world) v t ≡ eval (meaning_in p world) w t
