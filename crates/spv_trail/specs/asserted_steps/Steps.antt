-- Facts that come to a path.
use Rattle.std.specs.Prelude.{◌≡◌, ℕ, List, [], ◌∷◌, ◌++◌, Some}
use Rattle.spv_logic.specs.Terms.{Term}
use Rattle.spv_proof_rules.specs.Effects.{Question, numbered}
use Rattle.spv_derivations.specs.declared.derivation.entries.Entry.{Entry}
use Rattle.spv_derivations.specs.branches.Paths.{facts_in, IsPath, IsGrown}

-- a path goes on by this fact, which has this number
pub record IsDerived (q : Question) (cases : List Term) (old new : List Entry) (n : ℕ) (f : Term) : Type 0 where
  pub path : IsPath q cases new
  pub grown : IsGrown old new
  pub facts_are : facts_in q new ≡ facts_in q old ++ f ∷ []
  pub number : numbered (facts_in q new) n ≡ Some f

-- a path goes on by other facts, and this one has this number
pub record HasNumber (q : Question) (cases : List Term) (old new : List Entry) (n : ℕ) (f : Term) : Type 0 where
  pub path : IsPath q cases new
  pub grown : IsGrown old new
  pub more : List Term
  pub facts_are : facts_in q new ≡ facts_in q old ++ more
  pub number : numbered (facts_in q new) n ≡ Some f
