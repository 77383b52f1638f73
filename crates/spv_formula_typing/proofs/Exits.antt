-- A fault goes through what would come next.
use Rattle.std.proofs.Common.{ap}
use Rattle.spv_typing.specs.declared.faults.TypeFault.{TypeFault}
use Rattle.spv_typing.specs.declared.faults.TypeFault.TheVariants.{Undeclared, DeclaredTwice, LabelTwice, WrongType, Count, Nested, ProcParameter, ControlChanged, Memory}
use Rattle.spv_typing.specs.Outcomes.{Outcome, after}
use Rattle.spv_environments.specs.Answers.{Stops}

pub stops_after : {A B : Type 0} (e : TypeFault) (o : Outcome A) (next : A → Outcome B) → Stops e o → Stops e (after o next)
stops_after Memory o next h = tt
stops_after (Undeclared line x) o next h = ap (λ r. after r next) h
stops_after (DeclaredTwice line x) o next h = ap (λ r. after r next) h
stops_after (LabelTwice line z) o next h = ap (λ r. after r next) h
stops_after (WrongType line) o next h = ap (λ r. after r next) h
stops_after (Count line) o next h = ap (λ r. after r next) h
stops_after (Nested line x) o next h = ap (λ r. after r next) h
stops_after (ProcParameter line x) o next h = ap (λ r. after r next) h
stops_after (ControlChanged line x) o next h = ap (λ r. after r next) h
