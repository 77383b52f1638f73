use Rattle.std.proofs.Common.{refl}
use Rattle.spv_call_evaluation.proofs.Evaluating.{evaluated, fixed_at, argued_at}
use Rattle.spv_call_evaluation.proofs.laws.law_evaluation.Goals as goal

pub returns-clause-expressions : goal.returns-clause-expressions
returns-clause-expressions c p world here below state ready e s sort calls uses n window wanted from choices =
    evaluated p world here below state ready e s sort calls uses n window wanted from state refl choices

pub returns-clause-places : goal.returns-clause-places
returns-clause-places c p world here below state ready d t type calls writes uses n window wanted from choices =
    fixed_at p world here below state ready d t type calls writes uses n window wanted from state refl choices

pub returns-clause-arguments : goal.returns-clause-arguments
returns-clause-arguments c p world here below state ready formals given fit calls uses n window wanted from choices =
    argued_at p world here below state ready formals given fit calls uses n window wanted from state refl choices
