-- What was decided stays right with another proof, in an arena that has grown.
use Rattle.std.proofs.Common.{◌≡◌, ◌<◌, true, Bool, List, length, IsTrue, ◌∙◌, subst}
use Rattle.spv_term.specs.declared.nodes.Condition.{Condition}
use Rattle.spv_term.specs.Arena.{AllBelow, Arena, Extends}
use Rattle.spv_term.proofs.ArenaLemmas.{AllBelow-Extends}
use Rattle.spv_atoms.specs.declared.proofs.ProofNode.{ProofNode}
use Rattle.spv_proof_rules.specs.Stand.{question, IsProof}
use Rattle.spv_proof_rules.proofs.Staying.{below-Extends}
use Rattle.spv_verdicts.specs.Verdicts.{IsRight}
use Rattle.spv_verdicts.specs.declared.answers.verdicts.Decided.{Decided}
use Rattle.spv_verdicts.specs.declared.answers.verdicts.Verdict.{Verdict}
use Rattle.spv_verdicts.specs.declared.answers.verdicts.Verdict.TheVariants as verdict
use Rattle.spv_verdicts.specs.answers.Views.{VerdictIn, verdict_in}
use Rattle.spv_trimming.specs.Deciding.{WasDecided, StaysDecided}
use Rattle.spv_trimming.proofs.Growing.{claim-Extends}

true-is : (b : Bool) → b ≡ true → IsTrue b
true-is b e = cc

is-true : (b : Bool) → IsTrue b → b ≡ true
is-true b e = cc

abbrev decided : Arena → Condition → Verdict → Decided
decided a c v = record { terms = a; condition = c; verdict = v }

pub given-there : (d : Decided) → WasDecided d → AllBelow (length d.terms.nodes) d.condition.given
given-there d w = w.decided.claim.given_in

pub goal-there : (d : Decided) → WasDecided d → d.condition.goal.0 < length d.terms.nodes
goal-there d w = w.decided.claim.goal_in

pub proof-there : (a : Arena) (c : Condition) (v : Verdict) (nodes : List ProofNode) → v ≡ verdict.Proved nodes → WasDecided (decided a c v) → IsProof a c nodes
proof-there a c v nodes same w = record {
  terms = subst (λ (x : Verdict). VerdictIn a x) same w.decided.terms_in;
  accepted = true-is _ (subst (λ (x : Verdict). IsRight a (question a c) w.limits (verdict_in a x)) same w.decided.right);
}

-- another proof takes the place of the verdict
pub stays-decided : (old new : Arena) (c : Condition) (v : Verdict) (others : List ProofNode) → Extends old new → IsProof new c others → StaysDecided (decided old c v) (decided new c (verdict.Proved others))
stays-decided old new c v others more p a d limits is = record {
  claim = record {
    given_in = AllBelow-Extends more c.given is.claim.given_in;
    goal_in = below-Extends more c.goal.0 is.claim.goal_in;
    claim = claim-Extends more c is.claim.given_in is.claim.goal_in ∙ is.claim.claim;
    origin = is.claim.origin;
  };
  shapes = more.shapes ∙ is.shapes;
  decls = more.decls ∙ is.decls;
  terms_in = p.terms;
  right = is-true _ p.accepted;
}
