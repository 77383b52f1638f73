-- What was decided of the claim is found of the condition with its rounds.
use Rattle.std.proofs.Common.{◌≡◌, ◌<◌, Option, Some, None, Result, Ok, Err, IfOk, List, [], length, sym, ap, ◌∙◌, subst}
use Rattle.spv_logic.specs.Terms.{Term}
use Rattle.spv_term.specs.declared.nodes.Condition.{Condition}
use Rattle.spv_term.specs.Arena.{Arena, Extends, tree, sequent}
use Rattle.spv_proof_rules.specs.Rules.{Rule}
use Rattle.spv_proof_rules.specs.Effects.{Question}
use Rattle.spv_proof_rules.specs.Stand.{question, question_under}
use Rattle.spv_verdicts.specs.Verdicts as verdicts
use Rattle.spv_verdicts.specs.Verdicts.{Limits}
use Rattle.spv_verdicts.specs.Schemas.{IsRightWith}
use Rattle.spv_verdicts.specs.declared.answers.verdicts.Decided.{Decided}
use Rattle.spv_verdicts.specs.answers.Views.{IsDecidedWith, VerdictIn, rounds_in, verdict_in}
use Rattle.spv_rounds.specs.Claims.{formulas, claim}
use Rattle.spv_rounds.specs.Rounds.{members_of}
use Rattle.spv_rounds.specs.declared.knowing.known.Known.{Known}
use Rattle.spv_rounds.specs.declared.knowing.known.Settled.{Settled}
use Rattle.spv_rounds.specs.knowing.Known.{IsClaim, IsKnown, IsSettled, RoundsStand, members_in}
use Rattle.spv_rounds.specs.telling.Told.{settled_question, settled_members, settled_claim}
use Rattle.spv_rounds.specs.judging.Judged.{IsFoundIn, Judged}
use Rattle.spv_verdicts.specs.declared.answers.verdicts.Round.{Round}
use Rattle.spv_rounds.proofs.knowing.SettleLemmas.{same-formulas}
use Rattle.spv_rounds.proofs.growing.GrowLemmas.{known-stays, rounds-stay}

pub claim-decided : (a : Arena) (c : Condition) (fs : List Term) (limits : Limits) (t : Arena) (k : Condition) (d : Decided) → IsClaim a c fs t k → IsDecidedWith t k limits d → IsClaim a c fs d.terms d.condition
claim-decided a c fs limits t k d is found = record {
  given_in = found.claim.given_in;
  goal_in = found.claim.goal_in;
  claim = found.claim.claim ∙ is.claim;
  origin = found.claim.origin ∙ is.origin;
  shapes = found.shapes ∙ is.shapes;
  decls = found.decls ∙ is.decls;
}

module _ (rules : List Rule) (a : Arena) (c : Condition) (limits : Limits) (k : Known) (d : Decided) (s : Settled) (same_terms : s.terms ≡ d.terms) (is : IsSettled rules a c s)
    (claims : IsClaim a c (formulas (question_under rules a c) (members_in k.terms k.rounds.items)) d.terms d.condition) (e : Arena) (same : rounds_in s.terms s.rounds ≡ rounds_in e k.rounds.items) (stays : rounds_in e k.rounds.items ≡ rounds_in k.terms k.rounds.items) where
  abbrev fs : List Term
  fs = formulas (question_under rules a c) (members_in k.terms k.rounds.items)

  same_fs : fs ≡ formulas (settled_question rules s) (settled_members s)
  same_fs = same-formulas rules a c s.terms s.condition is.claim is.shapes is.decls k.terms k.rounds.items s.rounds (record { there = is.rounds.there; same = same ∙ stays })

  sequents : sequent s.terms d.condition ≡ (settled_claim rules s).sequent
  sequents =
      ap (λ t. sequent t d.condition) same_terms
      ∙ (claims.claim ∙ (λ i. (claim (record { shapes = a.shapes; decls = a.decls; at = tree a; sequent = sym is.claim.claim i; rules = [] }) (same_fs i)).sequent))

  questions : question s.terms d.condition ≡ settled_claim rules s
  questions = λ i. record { shapes = s.terms.shapes; decls = s.terms.decls; at = tree s.terms; sequent = sequents i; rules = [] }

  pub found-in : IsDecidedWith k.terms k.claim limits d → IsFoundIn rules limits s d.verdict
  found-in found = record {
    terms_in = subst (λ (t : Arena). VerdictIn t d.verdict) (sym same_terms) found.terms_in;
    right = subst (λ (q : Question). IsRightWith s.terms q limits (verdict_in s.terms d.verdict)) questions
        (subst (λ (t : Arena). IsRightWith t (question t d.condition) limits (verdict_in t d.verdict)) (sym same_terms) found.right);
  }

-- what is known, in the arena that grew
module _ (rules : List Rule) (a : Arena) (c : Condition) (limits : Limits) (k : Known) (d : Decided) (is : IsKnown rules a c limits k) (found : IsDecidedWith k.terms k.claim limits d) (n : Arena) (more : Extends k.terms n) where
  pub stay : rounds_in n k.rounds.items ≡ rounds_in k.terms k.rounds.items
  stay = (rounds-stay more k.rounds.items is.rounds.there).same

  pub claims-known : IsClaim a c (formulas (question_under rules a c) (members_in k.terms k.rounds.items)) d.terms d.condition
  claims-known = claim-decided a c (formulas (question_under rules a c) (members_in k.terms k.rounds.items)) limits k.terms k.claim d is.is_claim found

  pub claims-there : (rounds : List Round) → rounds ≡ k.rounds.items → IsClaim a c (formulas (question_under rules a c) (members_in n rounds)) d.terms d.condition
  claims-there rounds e =
      subst (λ (rs : List verdicts.Round). IsClaim a c (formulas (question_under rules a c) (members_of rs)) d.terms d.condition) (sym (ap (rounds_in n) e ∙ stay)) claims-known

  pub stand-there : (rounds : List Round) → rounds ≡ k.rounds.items → RoundsStand (question_under rules a c) n rounds
  stand-there rounds e = subst (RoundsStand (question_under rules a c) n) (sym e) (known-stays rules a c limits k n more is).rounds

  judged-on : (new : Known) (o : Option Decided) → Judged rules a c limits (record { terms = n; claim = k.claim; rounds = k.rounds }) o new → Judged rules a c limits k o new
  judged-on new (Some x) j = j
  judged-on new None j = record { known = j.known; more = subst (λ (rs : List verdicts.Round). length (members_of rs) < length (members_in new.terms new.rounds.items)) stay j.more }

  pub goes-on : {E : Type 0} (r : Result (Option Decided) E) (new : Known) (Q : Option Decided → Type 0) → IfOk r Q → ((o : Option Decided) → Q o → Judged rules a c limits (record { terms = n; claim = k.claim; rounds = k.rounds }) o new) → IfOk r (λ o. Judged rules a c limits k o new)
  goes-on (Ok o) new Q q go = judged-on new o (go o q)
  goes-on (Err e) new Q q go = tt
