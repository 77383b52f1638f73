-- What is true of a run's end, where it ended.
use Rattle.std.proofs.Common.{◌≡◌, ℕ, Bool, true, false, cond, List, [], ◌∷◌, refl, subst, Option, Some, None}
use Rattle.spv_logic.specs.declared.types.Sort.{Sort}
use Rattle.spv_logic.specs.declared.types.Shape.{Shape}
use Rattle.spv_logic.specs.Values.{Value}
use Rattle.spv_logic.specs.Fits.{fits}
use Rattle.spv_meaning.specs.declared.faults.Fault.{Fault}
use Rattle.spv_meaning.specs.declared.faults.Fault.TheVariants as fault
use Rattle.spv_meaning.specs.Places.{State}
use Rattle.spv_meaning.specs.Outcomes.{End, Ended, Stopped, Jump, Going, Met, Outcome, ends, stops, is_going, go_on, and_then, meets, stops_unless, take_choice}
use Rattle.spv_meaning.specs.Levels.{Level, with_turn}

-- what a run gave has a property, where it ended; and it did not end by a jump
pub record IfEnded {A : Type 0} (P : A → Type 0) (o : Outcome A) : Type 0 where
  pub holds : (x : A) → o.end ≡ Ended x → P x
  pub jumped : (label : ℕ) (state : State) → o.end ≡ Jump label state → ⊥

not_stopped : {A : Type 0} (f : Fault) (x : A) → Stopped f ≡ Ended x → ⊥
not_stopped f x e = cc

not_going : {A : Type 0} (x : A) → Going ≡ Ended x → ⊥
not_going x e = cc

ended_no_jump : {A : Type 0} (x : A) (label : ℕ) (state : State) → Ended x ≡ Jump label state → ⊥
ended_no_jump x label state e = cc

stopped_no_jump : {A : Type 0} (end : End A) (f : Fault) (label : ℕ) (state : State) → end ≡ Stopped f → end ≡ Jump label state → ⊥
stopped_no_jump end f label state d e = cc

going_no_jump : {A : Type 0} (end : End A) (label : ℕ) (state : State) → end ≡ Going → end ≡ Jump label state → ⊥
going_no_jump end label state d e = cc

ended_is : {A : Type 0} (x y : A) → Ended x ≡ Ended y → x ≡ y
ended_is x y e = cc

-- ---- the runs that are put together

ends_with : {A : Type 0} (P : A → Type 0) (x : A) (met : List Met) (rest : List Value) → P x → IfEnded P (record { end = Ended x; met = met; rest = rest })
ends_with P x met rest h = record { holds = λ y e. subst P (ended_is x y e) h; jumped = ended_no_jump x }

stops_with : {A : Type 0} (P : A → Type 0) (f : Fault) (met : List Met) (rest : List Value) → IfEnded P (record { end = Stopped f; met = met; rest = rest })
stops_with P f met rest = record { holds = λ y e. absurd (not_stopped f y e); jumped = λ label state e. stopped_no_jump (Stopped f) f label state refl e }

goes_with : {A : Type 0} (P : A → Type 0) (met : List Met) (rest : List Value) → IfEnded P (record { end = Going; met = met; rest = rest })
goes_with P met rest = record { holds = λ y e. absurd (not_going y e); jumped = λ label state e. going_no_jump Going label state refl e }

pub if_ends : {A : Type 0} (P : A → Type 0) (x : A) (rest : List Value) → P x → IfEnded P (ends x rest)
if_ends P x rest h = ends_with P x [] rest h

pub if_stops : {A : Type 0} (P : A → Type 0) (f : Fault) (rest : List Value) → IfEnded P (stops f rest)
if_stops P f rest = stops_with P f [] rest

pub if_going : {A : Type 0} (P : A → Type 0) (rest : List Value) → IfEnded P (is_going rest)
if_going P rest = goes_with P [] rest

pub if_then : {A B : Type 0} (P : A → Type 0) (Q : B → Type 0) (first : Outcome A) (next : A → List Value → Outcome B) → IfEnded P first → ((x : A) (rest : List Value) → P x → IfEnded Q (next x rest)) → IfEnded Q (and_then first next)
if_then {A} {B} P Q first next h later = by_end first.end refl
  where
    by_end : (e : End A) → first.end ≡ e → IfEnded Q (go_on e first.met first.rest next)
    by_end (Ended x) is =
        let behind = later x first.rest (h.holds x is) in
        record { holds = λ y e. behind.holds y e; jumped = λ label state e. behind.jumped label state e }
    by_end (Stopped f) is = stops_with Q f first.met first.rest
    by_end (Jump label state) is = absurd (h.jumped label state is)
    by_end Going is = goes_with Q first.met first.rest

pub if_unless : {A : Type 0} (P : A → Type 0) (test : Bool) (f : Fault) (x : A) (rest : List Value) → (test ≡ true → P x) → IfEnded P (stops_unless test f x rest)
if_unless P true f x rest h = if_ends P x rest (h refl)
if_unless P false f x rest h = if_stops P f rest

pub if_meets : {A : Type 0} (P : A → Type 0) (m : Option Met) (x : A) (rest : List Value) → P x → IfEnded P (meets m x rest)
if_meets P None x rest h = if_ends P x rest h
if_meets P (Some m) x rest h = ends_with P x (m ∷ []) rest h

pub if_turn : {A : Type 0} (P : A → Type 0) (below : Option Level) (rest : List Value) (go : Level → Outcome A) → ((level : Level) → below ≡ Some level → IfEnded P (go level)) → IfEnded P (with_turn below rest go)
if_turn P None rest go h = if_going P rest
if_turn P (Some level) rest go h = h level refl

-- a choice that was taken is of its sort
pub if_taken : (shapes : List Shape) (s : Sort) (choices : List Value) → IfEnded (λ v. fits shapes v s ≡ true) (take_choice shapes s choices)
if_taken shapes s [] = if_stops (λ v. fits shapes v s ≡ true) fault.Choice []
if_taken shapes s (v ∷ rest) = by_fit (fits shapes v s) refl
  where
    by_fit : (b : Bool) → fits shapes v s ≡ b → IfEnded (λ v. fits shapes v s ≡ true) (cond b (ends v rest) (stops fault.Choice (v ∷ rest)))
    by_fit true fit = if_ends (λ v. fits shapes v s ≡ true) v rest fit
    by_fit false fit = if_stops (λ v. fits shapes v s ≡ true) fault.Choice (v ∷ rest)
