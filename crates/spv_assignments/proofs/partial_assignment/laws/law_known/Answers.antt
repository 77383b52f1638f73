use Rattle.std.proofs.Common.{refl}
use Rattle.spv_assignments.proofs.partial_assignment.Told.{facts_are_true}
use Rattle.spv_assignments.proofs.partial_assignment.Supposing.{open_one}
use Rattle.spv_assignments.proofs.partial_assignment.Places.{cores_quiet, clash_follows, supposed_quiet, values_agree, loud_one, listed_one}
use Rattle.spv_assignments.proofs.partial_assignment.Ending.{still_finished, all_cited}
use Rattle.spv_assignments.proofs.partial_assignment.laws.law_known.Goals as goal

pub returns-clause-facts : goal.returns-clause-facts
returns-clause-facts c = facts_are_true

pub returns-clause-quiet : goal.returns-clause-quiet
returns-clause-quiet c = λ a ok facts direct cores all known. cores_quiet a ok facts known.0.literals known.0.over direct cores all known.1 known.2

pub returns-clause-follow : goal.returns-clause-follow
returns-clause-follow c = λ a ok facts direct cores all known f e s t inside is clash.
    clash_follows a ok facts known.0.literals known.0.over direct cores all known.1 known.2 s inside f is _ refl (open_one e) t clash

pub returns-clause-none : goal.returns-clause-none
returns-clause-none c = λ a ok facts direct cores all known f e s inside is none u.
    supposed_quiet a ok facts known.0.literals known.0.over direct cores all known.1 known.2 s inside f is _ refl e none u

pub returns-clause-agree : goal.returns-clause-agree
returns-clause-agree c = λ a ok facts direct cores all known none u. values_agree a ok facts known.0.literals known.0.over direct cores all known.1 known.2 none u

pub returns-clause-loud : goal.returns-clause-loud
returns-clause-loud c = λ a ok facts direct cores all is lists t loud. loud_one a ok facts is.literals is.over direct cores all lists t loud

pub returns-clause-listed : goal.returns-clause-listed
returns-clause-listed c = λ a ok facts direct cores all known t clash. listed_one a ok facts known.0.literals known.0.over direct cores all known.1 known.2 t clash

pub returns-clause-finished : goal.returns-clause-finished
returns-clause-finished c = still_finished

pub returns-clause-cited : goal.returns-clause-cited
returns-clause-cited c = all_cited
