-- Terms and lists that have nothing to do with fresh variables that are taken later.
use Rattle.std.specs.Prelude.{◌≡◌, true, false, List, [], ◌∷◌}
use Rattle.spv_logic.specs.Terms.{Term}
use Rattle.spv_logic.specs.Substitution.{is_variable}
use Rattle.spv_logic.specs.Conditions.{Meaning, Condition}
use Rattle.spv_program.specs.Expressions.{Designator, Arguments}
use Rattle.spv_program.specs.Programs.{Program, routine_in}
use Rattle.spv_program.specs.Supplies.{Supply}
use Rattle.spv_program.specs.Places.{Target, present, whole_with}
use Rattle.spv_program.specs.Calls.{Argument, Given, AtPlace}
use Rattle.spv_program.specs.ExpressionTerms.{Called, placed, argued}
use Rattle.spv_meaning.specs.Levels.{Here}
use Rattle.spv_meaning.specs.Before.{before_calls}
use Rattle.spv_rule_soundness.specs.statements.Truth.{is_new, IsLater, Ignores, TermIgnores}

-- calls between two supplies take their fresh variables from the first, and where the list behind them ignores what is left, so does
-- the list with them in front
pub record AreSupplied (p : Program) (world : Meaning) (here : Here) (n m : Supply) (calls : List Called) : Type 0 where
  pub later : IsLater n m
  pub in_front : (k : Supply) → IsLater m k → (wanted : List Condition) → Ignores p world k wanted → Ignores p world k (before_calls here.routine calls wanted)

-- a place in terms: its root is no fresh variable that is left, and what stands there ignores what is left; so does its whole with a term
-- there, where the term does
pub record TargetIgnores (p : Program) (world : Meaning) (n : Supply) (d : Target) : Type 0 where
  pub variable : is_variable d.root ≡ true
  pub old : is_new n d.root ≡ false
  pub present : TermIgnores p world n (present d)
  pub whole : (m : Supply) → IsLater n m → (t : Term) → TermIgnores p world m t → TermIgnores p world m (whole_with d t)

abbrev pub ArgumentIgnores : Program → Meaning → Supply → Argument → Type 0
ArgumentIgnores p world n (Given t) = TermIgnores p world n t
ArgumentIgnores p world n (AtPlace d) = TargetIgnores p world n d

abbrev pub ArgumentsIgnore : Program → Meaning → Supply → List Argument → Type 0
ArgumentsIgnore p world n [] = Unit {0}
ArgumentsIgnore p world n (a ∷ arguments) = ArgumentIgnores p world n a × ArgumentsIgnore p world n arguments

pub record IsSuppliedPlace (p : Program) (world : Meaning) (here : Here) (d : Designator) (n : Supply) : Type 0 where
  pub supplied : AreSupplied p world here n (placed p (routine_in p here.routine) n d).supply (placed p (routine_in p here.routine) n d).calls
  pub target : TargetIgnores p world (placed p (routine_in p here.routine) n d).supply (placed p (routine_in p here.routine) n d).target

pub record AreSuppliedArguments (p : Program) (world : Meaning) (here : Here) (given : Arguments) (n : Supply) : Type 0 where
  pub supplied : AreSupplied p world here n (argued p (routine_in p here.routine) n given).supply (argued p (routine_in p here.routine) n given).calls
  pub arguments : ArgumentsIgnore p world (argued p (routine_in p here.routine) n given).supply (argued p (routine_in p here.routine) n given).arguments
