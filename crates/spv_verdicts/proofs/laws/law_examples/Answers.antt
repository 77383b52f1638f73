use Rattle.std.proofs.Common.{◌≡◌, ℕ, zero, suc, Bool, true, false, Ok, refl, sym, ap, arith}
use Rattle.std.specs.Prelude.{Some, None, Result, length}
use Rattle.std.proofs.lemmas.Bool.{false≢true}
use Rattle.spv_verdicts.specs.Examples as example
use Rattle.spv_verdicts.proofs.SmallClaim.{survives-here}
use Rattle.spv_verdicts.proofs.laws.law_examples.Goals as goal

one_truth : {E : Type 0} (b c : Bool) (r : Result Bool E) → r ≡ Ok b → r ≡ Ok c → b ≡ c
one_truth b c r e f = cc

none_is : {A : Type 0} (x : A) → None ≡ Some x → ⊥
none_is x e = cc

zero_is : (n : ℕ) → zero ≡ suc n → ⊥
zero_is n e = omega (arith)

pub returns-clause-expected : goal.returns-clause-expected
returns-clause-expected c a = record { survives = survives-here; no_instances = refl }

pub returns-clause-other_branch : goal.returns-clause-other_branch
returns-clause-other_branch c a v = false≢true (one_truth false true _ v.survives.falsifies.goal_false (v.survives.truths 0 (example.p, true) refl))

pub returns-clause-no_branch : goal.returns-clause-no_branch
returns-clause-no_branch c a v = zero_is 0 (ap length v.survives.atoms)

pub returns-clause-true_table : goal.returns-clause-true_table
returns-clause-true_table c a v = false≢true (one_truth false true _ v.survives.falsifies.goal_false refl)

pub returns-clause-no_table : goal.returns-clause-no_table
returns-clause-no_table c a v = zero_is 0 (ap length v.survives.falsifies.lists)

pub returns-clause-few_terms : goal.returns-clause-few_terms
returns-clause-few_terms c a v = omega (arith, v.reached.limit)

pub returns-clause-no_relation : goal.returns-clause-no_relation
returns-clause-no_relation c a v = none_is v.reached.sides v.reached.are

pub returns-clause-with_instance : goal.returns-clause-with_instance
returns-clause-with_instance c a v = zero_is 0 (sym (ap length v.no_instances))

pub returns-clause-no_more_instances : goal.returns-clause-no_more_instances
returns-clause-no_more_instances c a v = v.reached

pub returns-clause-not_accepted : goal.returns-clause-not_accepted
returns-clause-not_accepted c a v = v
