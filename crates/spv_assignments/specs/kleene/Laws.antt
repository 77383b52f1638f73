-- What is true of computed values.
use Rattle.std.specs.Prelude.{◌≡◌, Bool, Option}
use Rattle.spv_logic.specs.Terms.{Term}
use Rattle.spv_atoms.specs.Tables.{computed}
use Rattle.spv_proof_rules.specs.Evaluation.{clashes}
use Rattle.spv_assignments.specs.kleene.Given.{valued, Agree}

-- where two ways to give values agree, they compute the same value for each term
abbrev pub ComputeTheSame : Type 0
ComputeTheSame = (is_truth : Term → Bool) (first second : Term → Option Bool) → Agree is_truth first second → (t : Term) → computed is_truth first t ≡ computed is_truth second t

-- and each term has the same value
abbrev pub ComeToTheSame : Type 0
ComeToTheSame = (is_truth : Term → Bool) (first second : Term → Option Bool) → Agree is_truth first second → (t : Term) → valued is_truth first t ≡ valued is_truth second t

-- a term to which both give the same clashes for both or for none
abbrev pub ClashTogether : Type 0
ClashTogether = (is_truth : Term → Bool) (first second : Term → Option Bool) → Agree is_truth first second → (t : Term) → first t ≡ second t
    → clashes is_truth first t ≡ clashes is_truth second t
