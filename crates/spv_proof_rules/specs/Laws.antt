-- What an accepted proof shows.
use Rattle.std.specs.Prelude.{◌≡◌, ℕ, Bool, IsTrue, List}
use Rattle.spv_logic.specs.Terms.{Term}
use Rattle.spv_logic.specs.Shapes.{shapes_ok}
use Rattle.spv_logic.specs.Conditions.{Meaning, TrueIn}
use Rattle.spv_term.specs.declared.nodes.Condition.{Condition}
use Rattle.spv_term.specs.Arena.{Arena, IsArena, sequent}
use Rattle.spv_atoms.specs.declared.proofs.ProofNode.{ProofNode}
use Rattle.spv_proof_rules.specs.Rules.{Rule, RulesHold}
use Rattle.spv_proof_rules.specs.Effects.{Question}
use Rattle.spv_proof_rules.specs.Accepted.{accepts}
use Rattle.spv_proof_rules.specs.Stand.{IsProof, question_under}
use Rattle.spv_proof_rules.specs.Outcomes.{Comes, IsFirst, outcome}

-- what an accepted proof is to show is true in a world in which its rules hold
abbrev pub AcceptedIsTrueIn : Meaning → Type 0
AcceptedIsTrueIn world =
    (q : Question) → IsTrue (shapes_ok q.shapes) → RulesHold q.shapes q.decls world q.rules → (nodes : List ProofNode) → IsTrue (accepts q nodes) → TrueIn q.shapes q.decls world q.sequent

-- a condition with a proof is true in a world
abbrev pub ProvedIsTrueIn : Meaning → Type 0
ProvedIsTrueIn world =
    (a : Arena) → IsArena a → (c : Condition) (nodes : List ProofNode) → IsProof a c nodes → TrueIn a.shapes a.decls world (sequent a c)

-- and one with a proof under rules is, where these hold
abbrev pub ProvedUnderIsTrueIn : Meaning → Type 0
ProvedUnderIsTrueIn world =
    (rules : List Rule) (a : Arena) → IsArena a → RulesHold a.shapes a.decls world rules → (c : Condition) (nodes : List ProofNode)
    → IsTrue (accepts (question_under rules a c) nodes) → TrueIn a.shapes a.decls world (sequent a c)

-- a check that nothing stops comes to whether its proof is accepted, however many terms there are and may be
abbrev pub UnstoppedIsExact : Type 0
UnstoppedIsExact = (most : ℕ) (q : Question) (known : List Term) (nodes : List ProofNode) (b : Bool) → (outcome most q known nodes).ending ≡ Comes b → accepts q nodes ≡ b

-- the terms that there are stay, and others come behind them
abbrev pub TermsStay : Type 0
TermsStay = (most : ℕ) (q : Question) (known : List Term) (nodes : List ProofNode) → IsFirst known (outcome most q known nodes).known
