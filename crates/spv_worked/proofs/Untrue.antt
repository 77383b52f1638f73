-- Programs that are not correct.
use Rattle.std.proofs.Common.{◌≡◌, true, [], ◌∷◌, refl, Some, None, pos}
use Rattle.std.proofs.lemmas.Bool.{false≢true}
use Rattle.spv_logic.proofs.list.Tests.{left_true}
use Rattle.spv_logic.specs.Values.{Number}
use Rattle.spv_logic.specs.Conditions.{Meaning, answers}
use Rattle.spv_logic.proofs.Equality.{value_eq-true}
use Rattle.spv_program.specs.Programs.{shapes}
use Rattle.spv_meaning.specs.Correct.{Correct}
use Rattle.spv_meaning.specs.Laws.{with_defaults, with_own_defaults}
use Rattle.spv_meaning.proofs.MainStart.{defaults_start}
use Rattle.spv_meaning.proofs.RoutineStarts.{routine_start}
use Rattle.spv_worked.specs.Small.{Fact, routine}
use Rattle.spv_worked.specs.Doubts.{wrong, about_fact, careless, promising}

pub wrong_not_correct : (world : Meaning) → Correct wrong world → ⊥
wrong_not_correct world correct =
    false≢true ((correct.each None refl 0).ended (with_defaults wrong) (record { is_start = defaults_start wrong refl; entry = refl }) [] _ refl)

pub fact_is_one : (world : Meaning) → Correct about_fact world → answers (shapes about_fact) about_fact.symbols world Fact.0 (Number (pos 0) ∷ []) ≡ Number (pos 1)
fact_is_one world correct =
    let holds = (correct.each None refl 0).ended (with_defaults about_fact) (record { is_start = defaults_start about_fact refl; entry = refl }) [] (with_defaults about_fact) refl in
    value_eq-true (answers (shapes about_fact) about_fact.symbols world Fact.0 (Number (pos 0) ∷ [])) (Number (pos 1)) (left_true _ true holds)

pub promising_not_correct : (world : Meaning) → Correct promising world → ⊥
promising_not_correct world correct =
    false≢true ((correct.each (Some (routine 0)) refl 0).ended (with_own_defaults promising (routine 0) careless)
    (record { is_start = routine_start promising refl (routine 0) careless refl; entry = refl }) [] _ refl)
