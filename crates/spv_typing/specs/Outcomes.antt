-- What a step of the walk answers: a value, or the first fault.
use Rattle.std.specs.Prelude.{ℕ, Bool, true, false, List, [], ◌∷◌, Option, Some, None, Result, Ok, Err}
use Rattle.spv_tree.specs.declared.syntax.names.Name.{Name}
use Rattle.spv_typing.specs.declared.faults.TypeFault.{TypeFault}
use Rattle.spv_typing.specs.declared.faults.TypeFault.TheVariants.{Undeclared, DeclaredTwice, WrongType}

abbrev pub Outcome : Type 0 → Type 0
Outcome A = Result A TypeFault

-- what comes next, where nothing was wrong
abbrev pub after : {A B : Type 0} → Outcome A → (A → Outcome B) → Outcome B
after (Ok x) next = next x
after (Err fault) next = Err fault

-- something that depends on a rule
abbrev pub where_so : {A : Type 0} → Bool → TypeFault → Outcome A → Outcome A
where_so true fault next = next
where_so false fault next = Err fault

-- a value that is there, or a fault
abbrev pub or_fault : {A : Type 0} → TypeFault → Option A → Outcome A
or_fault fault None = Err fault
or_fault fault (Some x) = Ok x

-- each item of a list, in order; what was found so far goes along
abbrev pub each : {S X : Type 0} → (S → X → Outcome S) → S → List X → Outcome S
each step state [] = Ok state
each step state (x ∷ xs) = after (step state x) (λ next. each step next xs)

-- a value for each item of a list, in order
abbrev pub all_of : {X A : Type 0} → (X → Outcome A) → List X → Outcome (List A)
all_of step [] = Ok []
all_of step (x ∷ xs) = after (step x) (λ a. after (all_of step xs) (λ others. Ok (a ∷ others)))

-- a value for what may be there
abbrev pub if_there : {X A : Type 0} → (X → Outcome A) → Option X → Outcome (Option A)
if_there step None = Ok None
if_there step (Some x) = after (step x) (λ a. Ok (Some a))

-- ---- faults at a name

abbrev pub undeclared : Name → TypeFault
undeclared name = Undeclared name.line name.symbol

abbrev pub twice : Name → TypeFault
twice name = DeclaredTwice name.line name.symbol

abbrev pub wrong : ℕ → TypeFault
wrong line = WrongType line
