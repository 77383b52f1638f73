-- A proof that a recheck finds accepted is accepted for the condition.
use Rattle.std.proofs.Common.{◌≡◌, ℕ, Bool, true, false, List, Option, refl, sym, ap, subst, ◌∙◌}
use Rattle.spv_logic.specs.Terms.{Term}
use Rattle.spv_logic.specs.Conditions.{Sequent}
use Rattle.spv_term.specs.declared.nodes.Condition.{Condition}
use Rattle.spv_term.specs.Arena.{Arena, sequent, tree}
use Rattle.spv_term.proofs.ArenaLemmas.{tree-Extends}
use Rattle.spv_atoms.specs.declared.proofs.ProofNode.{ProofNode}
use Rattle.spv_proof_rules.specs.Accepted.{accepts}
use Rattle.spv_proof_rules.specs.Stand.{NodesIn, question_under}
use Rattle.spv_proof_rules.specs.Stops as stop
use Rattle.spv_proof_rules.specs.Outcomes.{Ending, Comes, Stops, outcome}
use Rattle.spv_proof_rules.proofs.Outcomes.{outcome-accepts}
use Rattle.spv_verdicts.specs.Verdicts as verdicts
use Rattle.spv_verdicts.specs.declared.answers.verdicts.Decided.{Decided}
use Rattle.spv_verdicts.specs.declared.answers.verdicts.Verdict.TheVariants.{Proved}
use Rattle.spv_verdicts.specs.answers.Views.{verdict_in}
use Rattle.spv_listing_values.specs.declared.data.Header.{Header}
use Rattle.spv_listing_values.specs.declared.data.Claim.{Claim}
use Rattle.spv_listing_values.specs.declared.data.ProofNode as said_node
use Rattle.spv_listing_values.specs.Written.{Written}
use Rattle.spv_rechecking.specs.Rechecked.{Recheck, Reading, Other, TooMany, Reads, verdict_by, question_over, IsChecked, IsVerdictOf, IsRechecked, vocabulary, reading}
use Rattle.spv_rechecking.proofs.Agreeing.{accepts_same}

-- what a verdict PROVED says of the check
record IsAccepted (ending : Ending Bool) (own nodes : List ProofNode) : Type 0 where
  came : ending ≡ Comes true
  same : own ≡ nodes

accepted_by : (most : ℕ) (own nodes : List ProofNode) (e : Ending Bool) → verdicts.Proved nodes ≡ verdict_by most own e → IsAccepted e own nodes
accepted_by most own nodes (Comes true) h = record { came = refl; same = cc }
accepted_by most own nodes (Comes false) h = absurd cc
accepted_by most own nodes (Stops (stop.WideSum op x y)) h = absurd cc
accepted_by most own nodes (Stops (stop.WideForm t)) h = absurd cc
accepted_by most own nodes (Stops stop.TooMany) h = absurd cc

checked_accepts : (r : Recheck) (c : Sequent) (terms : List Term) (said : List (said_node.ProofNode Term)) (last : Arena) (nodes : List ProofNode) → IsChecked r c terms said last (verdicts.Proved nodes)
    → accepts (question_over r.rules last c) nodes ≡ true
checked_accepts r c terms said last nodes is =
    let came = accepted_by r.most is.nodes nodes (outcome r.most (question_over r.rules is.first c) terms is.nodes).ending is.verdict in
    let first : accepts (question_over r.rules is.first c) is.nodes ≡ true = outcome-accepts r.most (question_over r.rules is.first c) terms is.nodes true came.came in
    let own_in : NodesIn is.first nodes = subst (NodesIn is.first) came.same is.nodes_in in
    let over_last : question_over r.rules last c ≡ record { shapes = is.first.shapes; decls = is.first.decls; at = tree last; sequent = c; rules = r.rules } =
    λ i. record { shapes = is.grows.shapes i; decls = is.grows.decls i; at = tree last; sequent = c; rules = r.rules } in
    ap (λ q. accepts q nodes) over_last
    ∙ (sym (accepts_same is.first.shapes is.first.decls c r.rules is.first (tree is.first) (tree last) (λ t h. sym (tree-Extends is.grows t h)) nodes own_in)
    ∙ (ap (accepts (question_over r.rules is.first c)) (sym came.same) ∙ first))

verdict_accepts : (r : Recheck) (c : Sequent) (read : Reading) (last : Arena) (nodes : List ProofNode) → IsVerdictOf r c read last (verdicts.Proved nodes) → accepts (question_over r.rules last c) nodes ≡ true
verdict_accepts r c Other last nodes h = absurd cc
verdict_accepts r c TooMany last nodes h = absurd cc
verdict_accepts r c (Reads terms said) last nodes h = checked_accepts r c terms said last nodes h

pub rechecked_accepts : (r : Recheck) (header : Header) (a : Arena) (c : Condition) (entry : Option (Claim Written)) (d : Decided) (nodes : List ProofNode) → IsRechecked r header a c entry d
    → d.verdict ≡ Proved nodes → accepts (question_under r.rules d.terms d.condition) nodes ≡ true
rechecked_accepts r header a c entry d nodes is proved =
    ap (λ s. accepts (question_over r.rules d.terms s) nodes) is.claim.claim
    ∙ verdict_accepts r (sequent a c) (reading (vocabulary r a.shapes a.decls (sequent a c)) r.most header (sequent a c) entry) d.terms nodes
    (subst (IsVerdictOf r (sequent a c) (reading (vocabulary r a.shapes a.decls (sequent a c)) r.most header (sequent a c) entry) d.terms) (ap (verdict_in d.terms) proved) is.verdict)
