-- What is found of a condition in an arena of its own, told of the one whose copy it is.
use Rattle.std.proofs.Common.{◌≡◌, ℕ, ◌<◌, Bool, true, List, length, IsTrue, sym, ◌∙◌, subst}
use Rattle.spv_term.specs.declared.nodes.Condition.{Condition}
use Rattle.spv_term.specs.Arena.{AllBelow, Arena, Extends}
use Rattle.spv_term.proofs.ArenaLemmas.{AllBelow-Extends}
use Rattle.spv_atoms.specs.declared.proofs.ProofNode.{ProofNode}
use Rattle.spv_proof_rules.specs.Stand.{IsProof}
use Rattle.spv_proof_rules.proofs.Staying.{below-Extends}
use Rattle.spv_search_terms.specs.declared.condition_copy.filling.Copied.{Copied}
use Rattle.spv_search_terms.specs.condition_copy.Copies.{IsCopy}
use Rattle.spv_verdicts.specs.Verdicts.{Limits}
use Rattle.spv_verdicts.specs.declared.answers.verdicts.Unproved.{Unproved}
use Rattle.spv_verdicts.specs.declared.answers.verdicts.Verdict.TheVariants as verdict
use Rattle.spv_verdicts.specs.answers.Views.{IsDecided}
use Rattle.spv_search.specs.Finding.{IsFound}
use Rattle.spv_fact_search.specs.Asking.{IsOwn}
use Rattle.spv_fact_search.specs.Stages.{CopyGrows, StageGrows}
use Rattle.spv_fact_search.specs.declared.stages.Stage.{Stage}
use Rattle.spv_fact_search.specs.Guessing.{IsUnprovedBy}
use Rattle.spv_trimming.proofs.Growing.{claim-Extends, proof_grows}

is-true : (b : Bool) → IsTrue b → b ≡ true
is-true b e = cc

-- ---- an arena of its own

pub own-copy : (a : Arena) (c : Condition) (limit : ℕ) (k : Copied) → IsCopy a c limit k → IsOwn a c k.terms k.condition
own-copy a c limit k is = record { claim = is.condition; shapes = is.shapes; decls = is.decls }

-- a copy of its own of one that is of its own is one too
own-own : (a : Arena) (c : Condition) (b : Arena) (d : Condition) (e : Arena) (f : Condition) → IsOwn a c b d → IsOwn b d e f → IsOwn a c e f
own-own a c b d e f first second = record {
  claim = record {
    given_in = second.claim.given_in;
    goal_in = second.claim.goal_in;
    claim = second.claim.claim ∙ first.claim.claim;
    origin = second.claim.origin ∙ first.claim.origin;
  };
  shapes = second.shapes ∙ first.shapes;
  decls = second.decls ∙ first.decls;
}

pub own-grows : (a : Arena) (c : Condition) (old new : Arena) (d : Condition) → Extends old new → IsOwn a c old d → IsOwn a c new d
own-grows a c old new d more is = record {
  claim = record {
    given_in = AllBelow-Extends more d.given is.claim.given_in;
    goal_in = below-Extends more d.goal.0 is.claim.goal_in;
    claim = claim-Extends more d is.claim.given_in is.claim.goal_in ∙ is.claim.claim;
    origin = is.claim.origin;
  };
  shapes = more.shapes ∙ is.shapes;
  decls = more.decls ∙ is.decls;
}

pub proved-own : (a : Arena) (c : Condition) (limits : Limits) (old new : Arena) (d : Condition) (nodes : List ProofNode) → IsOwn a c old d → Extends old new → IsProof old d nodes
    → IsDecided a c limits (record { terms = new; condition = d; verdict = verdict.Proved nodes })
proved-own a c limits old new d nodes is more proof =
    let own = own-grows a c old new d more is in
    let there = proof_grows old new d nodes more is.claim.given_in is.claim.goal_in proof in
    record { claim = own.claim; shapes = own.shapes; decls = own.decls; terms_in = there.terms; right = is-true _ there.accepted }

pub unproved-own : (a : Arena) (c : Condition) (limits : Limits) (b : Arena) (d : Condition) (u : Unproved) → IsOwn a c b d → IsUnprovedBy b d u
    → IsDecided a c limits (record { terms = b; condition = d; verdict = verdict.Unproved u })
unproved-own a c limits b d u is found =
    let there : IsFound b d limits (verdict.Unproved u) = found limits in
    record { claim = is.claim; shapes = is.shapes; decls = is.decls; terms_in = there.terms_in; right = there.right }

-- ---- a stage that has grown

module _ (old new : Stage) (grows : StageGrows old new) where
  own-stage : (a : Arena) (c : Condition) → IsOwn a c old.terms old.condition → IsOwn a c new.terms new.condition
  own-stage a c is = subst (IsOwn a c new.terms) (sym grows.condition) (own-grows a c old.terms new.terms old.condition grows.terms is)

  pub grown-given : AllBelow (length old.terms.nodes) old.condition.given → AllBelow (length new.terms.nodes) new.condition.given
  grown-given h = subst (λ (c : Condition). AllBelow (length new.terms.nodes) c.given) (sym grows.condition) (AllBelow-Extends grows.terms old.condition.given h)

  pub grown-goal : old.condition.goal.0 < length old.terms.nodes → new.condition.goal.0 < length new.terms.nodes
  grown-goal h = subst (λ (c : Condition). c.goal.0 < length new.terms.nodes) (sym grows.condition) (below-Extends grows.terms old.condition.goal.0 h)

  pub shown-of : (b : Arena) (d : Condition) (u : Unproved) → IsOwn new.terms new.condition b d → IsUnprovedBy b d u → (a : Arena) (c : Condition) (limits : Limits) → IsOwn a c old.terms old.condition
      → IsDecided a c limits (record { terms = b; condition = d; verdict = verdict.Unproved u })
  shown-of b d u own found a c limits is = unproved-own a c limits b d u (own-own a c new.terms new.condition b d (own-stage a c is) own) found

pub proved-of : (old mid new : Stage) → StageGrows old mid → StageGrows mid new → (nodes : List ProofNode) → IsProof mid.terms mid.condition nodes → (a : Arena) (c : Condition) (limits : Limits) → IsOwn a c old.terms old.condition
    → IsDecided a c limits (record { terms = new.terms; condition = new.condition; verdict = verdict.Proved nodes })
proved-of old mid new first second nodes proof a c limits is =
    subst (λ (k : Condition). IsDecided a c limits (record { terms = new.terms; condition = k; verdict = verdict.Proved nodes })) (sym second.condition)
    (proved-own a c limits mid.terms new.terms mid.condition nodes (own-stage old mid first a c is) second.terms proof)

-- a copy that has grown is one still
pub stage-own : (a : Arena) (c : Condition) (old new : Copied) → CopyGrows old new → IsOwn a c old.terms old.condition → IsOwn a c new.terms new.condition
stage-own a c old new grows is = subst (IsOwn a c new.terms) (sym grows.condition) (own-grows a c old.terms new.terms old.condition grows.terms is)
