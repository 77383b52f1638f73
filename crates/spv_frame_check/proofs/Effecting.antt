-- What a routine reads and writes.
use Rattle.std.proofs.Common.{◌≡◌, Bool, true, false, List, [], ◌++◌, map, filter, Result, Ok, Err, IfOk, ap, ◌∙◌}
use Rattle.spv_program.specs.Programs.{Routine}
use Rattle.spv_program.specs.Uses.{Use}
use Rattle.spv_program.specs.Frames.{Effects, items_once, effects_of, routine_uses}
use Rattle.spv_effects.specs.frame_walk.Events.{Event, clause_events, body_events}
use Rattle.spv_effects.proofs.frame_laws.Parts.{parts_of_routine}
use Rattle.spv_frame_check.specs.Effects.{kept, wanted}

items_are : (writes : Bool) (r : Routine) (es : List Event) → es ≡ clause_events r ++ body_events r
    → items_once [] (kept writes es) ≡ items_once [] (map (λ (u : Use). u.root) (filter (λ (u : Use). wanted writes u.changes) (routine_uses r)))
items_are writes r es h =
    ap (λ (fs : List Event). items_once [] (kept writes fs)) h
    ∙ ap (λ (us : List Use). items_once [] (map (λ (u : Use). u.root) (filter (λ (u : Use). wanted writes u.changes) us))) (parts_of_routine r).uses

effects_are : (r : Routine) (es : List Event) (e : Effects) → es ≡ clause_events r ++ body_events r → e.reads ≡ items_once [] (kept false es) → e.writes ≡ items_once [] (kept true es)
    → e ≡ effects_of r
effects_are r es e h reads writes at = record { reads = (reads ∙ items_are false r es h) at; writes = (writes ∙ items_are true r es h) at }

pub made_are : {E : Type 0} (r : Routine) (es : List Event) (made : Result Effects E) → es ≡ clause_events r ++ body_events r
    → IfOk made (λ e. e.reads ≡ items_once [] (kept false es)) → IfOk made (λ e. e.writes ≡ items_once [] (kept true es)) → IfOk made (λ e. e ≡ effects_of r)
made_are r es (Ok e) h reads writes = effects_are r es e h reads writes
made_are r es (Err e) h reads writes = tt
