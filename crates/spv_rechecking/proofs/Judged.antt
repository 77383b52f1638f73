-- Which verdict is judged, where the texts of a listing have ids, over plain variables.
use Rattle.std.proofs.Common.{◌≡◌, ℕ, Bool, true, false, ◌&&◌, Option, Some, None, Result, Ok, Err, List, [], ◌∷◌, IfOk, IfErr, OnOk, refl, sym, ap, subst, ◌∙◌}
use Rattle.std.specs.List.{list_all}
use Rattle.spv_logic.specs.Terms.{Term}
use Rattle.spv_logic.proofs.list.Tests.{and_false}
use Rattle.spv_term.specs.declared.nodes.Condition.{Condition}
use Rattle.spv_term.specs.Arena.{Arena, Extends, sequent, tree, trees_of}
use Rattle.spv_atoms.specs.declared.proofs.Step.{Step}
use Rattle.spv_atoms.specs.declared.proofs.Split.{Split}
use Rattle.spv_atoms.specs.declared.proofs.ProofNode.{ProofNode}
use Rattle.spv_proof_rules.specs.Stand.{StepsIn, SplitIn, NodesIn, question_under}
use Rattle.spv_proof_rules.specs.Outcomes.{Outcome, outcome}
use Rattle.spv_proof_rules.proofs.Staying.{below-Extends, StepIn-Extends}
use Rattle.spv_proof.specs.declared.checker.stops.CheckStop.{CheckStop}
use Rattle.spv_proof.specs.declared.checker.stops.CheckStop.TheVariants as stop
use Rattle.spv_proof.specs.checker.Ends.{EndsAs}
use Rattle.spv_verdicts.specs.Verdicts as verdicts
use Rattle.spv_verdicts.specs.declared.answers.verdicts.Verdict.{Verdict}
use Rattle.spv_verdicts.specs.declared.answers.verdicts.Verdict.TheVariants as verdict
use Rattle.spv_verdicts.specs.answers.Views.{VerdictIn, verdict_in}
use Rattle.spv_listing_values.specs.declared.data.ProofNode as said_node
use Rattle.spv_listing_values.specs.declared.data.Claim.{Claim}
use Rattle.spv_listing_values.specs.Written.{Written}
use Rattle.spv_rechecking.specs.written_terms.Standing.{Vocabulary}
use Rattle.spv_rechecking.specs.Rechecked.{Recheck, is_same, is_node, nodes_of, verdict_by}
use Rattle.spv_rechecking.specs.Listed.{listed_nodes}
use Rattle.spv_rechecking.specs.Converted.{AreNodesOf}
use Rattle.spv_rechecking.specs.Asked.{verdict_after, IsChosen, IsJudged}
use Rattle.spv_listing_values.proofs.Numerals.{both_true}

-- ---- the terms of a verdict stay where the arena grows

module _ {first last : Arena} (more : Extends first last) where
  steps_stay : (steps : List Step) → StepsIn first steps → StepsIn last steps
  steps_stay [] h = tt
  steps_stay (s ∷ steps) h = (StepIn-Extends more s h.0, steps_stay steps h.1)

  split_stays : (o : Option Split) → SplitIn first o → SplitIn last o
  split_stays None h = tt
  split_stays (Some s) h = below-Extends more s.atom.0 h

  pub nodes_stay : (nodes : List ProofNode) → NodesIn first nodes → NodesIn last nodes
  nodes_stay [] h = tt
  nodes_stay (n ∷ nodes) h = (steps_stay n.steps h.0, split_stays n.split h.1, nodes_stay nodes h.2)

  some_same : (v w : Verdict) → Some v ≡ Some w → v ≡ w
  some_same v w e = cc

  pub answer_in : (most : ℕ) (nodes : List ProofNode) → NodesIn first nodes → (o : Outcome Bool) (answer : Result Bool CheckStop) → IfErr answer (λ e. EndsAs last e o) → (v : Verdict) → Some v ≡ verdict_after most nodes answer → VerdictIn last v
  answer_in most nodes inside o (Ok true) stops v is = subst (VerdictIn last) (sym (some_same v _ is)) (nodes_stay nodes inside)
  answer_in most nodes inside o (Ok false) stops v is = subst (VerdictIn last) (sym (some_same v _ is)) tt
  answer_in most nodes inside o (Err (stop.Wide op x y)) stops v is = subst (VerdictIn last) (sym (some_same v _ is)) (tt, nodes_stay nodes inside)
  answer_in most nodes inside o (Err (stop.Form t)) stops v is = subst (VerdictIn last) (sym (some_same v _ is)) (tt, stops.form)
  answer_in most nodes inside o (Err stop.Size) stops v is = subst (VerdictIn last) (sym (some_same v _ is)) (tt, tt)
  answer_in most nodes inside o (Err stop.Memory) stops v is = absurd cc

-- ---- what is judged

module _ (r : Recheck) (v : Vocabulary) (first : Arena) (c : Condition) (e : Claim Written) where
  abbrev lines : Bool
  lines = is_same v (sequent first c) e

  abbrev steps : Bool
  steps = list_all (is_node v.words.names) (nodes_of v e)

  not_judged : (last : Arena) → (lines && steps) ≡ false → IsJudged r v first c e last verdict.NotAccepted
  not_judged last h = record { terms_in = tt; chosen = subst (λ (b : Bool). IsChosen b r (sequent first c) (nodes_of v e) first last verdicts.NotAccepted) (sym h) refl }

  -- the lines are those of another condition
  pub other_lines : (last : Arena) → lines ≡ false → IsJudged r v first c e last verdict.NotAccepted
  other_lines last h = not_judged last (ap (λ b. b && steps) h)

  module _ (same : lines ≡ true) (said : List (said_node.ProofNode Term)) (said_are : said ≡ nodes_of v e) (found : Option (List ProofNode)) (made : AreNodesOf v.words.names first said found) where
    -- a step is none over terms
    pub other_steps : (last : Arena) → found ≡ None → IsJudged r v first c e last verdict.NotAccepted
    other_steps last none = by found made none
      where
        by : (o : Option (List ProofNode)) → AreNodesOf v.words.names first said o → o ≡ None → IsJudged r v first c e last verdict.NotAccepted
        by None h f = not_judged last (and_false lines steps (ap (list_all (is_node v.words.names)) (sym said_are) ∙ h))
        by (Some o) h f = absurd cc

    module _ (nodes : List ProofNode) (is : found ≡ Some nodes) where
      made_nodes : AreNodesOf v.words.names first said (Some nodes)
      made_nodes = subst (AreNodesOf v.words.names first said) is made

      pub inside : NodesIn first nodes
      inside = made_nodes.1

      pub judged : {E : Type 0} (names_are : v.words.names ≡ r.names) (most_is : first.most ≡ r.most) (last : Arena) (answer : Result Verdict E) → IfOk answer (VerdictIn last)
          → IfOk answer (λ w. verdict_in last w ≡ verdict_by first.most nodes (outcome first.most (question_under r.rules first c) (trees_of first.nodes) nodes).ending) → OnOk answer (Extends first last)
          → IfOk answer (IsJudged r v first c e last)
      judged names_are most_is last (Err x) terms_in verdict_is grows = tt
      judged names_are most_is last (Ok w) terms_in verdict_is grows = record {
        terms_in = terms_in;
        chosen = subst (λ (b : Bool). IsChosen b r (sequent first c) (nodes_of v e) first last (verdict_in last w)) (sym both) checked;
      }
        where
          both : (lines && steps) ≡ true
          both = both_true lines steps same (ap (list_all (is_node v.words.names)) (sym said_are) ∙ made_nodes.2)

          checked : IsChosen true r (sequent first c) (nodes_of v e) first last (verdict_in last w)
          checked = record {
            first = first;
            terms_are = refl;
            grows = grows;
            nodes = nodes;
            nodes_in = inside;
            nodes_are = ap (λ ns. listed_nodes ns (tree first) nodes) (sym names_are) ∙ (made_nodes.0 ∙ said_are);
            verdict = verdict_is ∙ ap (λ n. verdict_by n nodes (outcome n (question_under r.rules first c) (trees_of first.nodes) nodes).ending) most_is;
          }
