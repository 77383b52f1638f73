-- A callee's clause in other words.
use Rattle.std.proofs.Common.{◌≡◌, List, ◌∷◌, sym, ap, ◌∙◌}
use Rattle.std.specs.Prelude.{Result, Ok, Err, IfOk, IfErr, IsErrAnd}
use Rattle.spv_typing.specs.Outcomes.{Outcome, after, each}

pub if_ok : {T E : Type 0} (r : Result T E) (P Q : T → Type 0) → IfOk r P → ((t : T) → P t → Q t) → IfOk r Q
if_ok (Ok t) P Q h more = more t h
if_ok (Err e) P Q h more = tt

pub if_err : {T E : Type 0} (r : Result T E) (P Q : E → Type 0) → IfErr r P → ((e : E) → P e → Q e) → IfErr r Q
if_err (Ok t) P Q h more = tt
if_err (Err e) P Q h more = more e h

-- a first item was looked at
pub begun : {S X : Type 0} (step : S → X → Outcome S) (none empty next : S) (first : X) (more : List X) → none ≡ empty → step none first ≡ Ok next
    → each step next more ≡ each step empty (first ∷ more)
begun step none empty next first more same h =
    sym (ap (λ s. after (step s first) (λ n. each step n more)) (sym same) ∙ ap (λ o. after o (λ n. each step n more)) h)

-- at the exit of a `?`
pub if_stopped : {T E : Type 0} (r : Result T E) (P Q : E → Type 0) → IsErrAnd r P → ((e : E) → P e → Q e) → IfErr r Q
if_stopped (Ok t) P Q h more = tt
if_stopped (Err e) P Q h more = more e h
