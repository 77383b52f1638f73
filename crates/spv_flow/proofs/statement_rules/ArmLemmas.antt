-- Arms of a CASE.
use Rattle.std.proofs.Common.{◌≡◌, ◌+◌, ℤ, List, [], ◌∷◌, ◌++◌, map, length, IfOk, IsErrAnd, sym, subst, ◌∙◌}
use Rattle.spv_logic.specs.declared.conditions.TermId.{TermId}
use Rattle.spv_logic.specs.Terms.{Term}
use Rattle.spv_logic.specs.Conditions as logic
use Rattle.spv_term.specs.declared.nodes.Condition.{Condition}
use Rattle.spv_term.specs.Arena.{Arena, Extends}
use Rattle.spv_program.specs.Supplies.{Supply}
use Rattle.spv_assign.specs.supply.Numbers.{AreThere}
use Rattle.spv_assign.proofs.supply.FreshLemmas.{AreThere-Extends}
use Rattle.spv_assign.specs.Conditions.{conditions_of, AreIn, with_given, Assumes}
use Rattle.spv_meaning.specs.Before.{all_assuming, is_label}
use Rattle.spv_assign.specs.declared.creation_trace.faults.GenFault.{GenFault}
use Rattle.spv_assign.specs.creation_trace.Events.{Walked, Stops, Answers}
use Rattle.spv_assign.specs.creation_trace.StatementEvents.{one, counted, in_order}
use Rattle.spv_assign.proofs.creation_trace.Walks.{nothing_walked}
use Rattle.spv_assign.specs.limited_steps.Makes.{IsTerm}
use Rattle.spv_flow_parts.specs.Walks.{Listed, Comes}
use Rattle.spv_flow_parts.proofs.Steps.{went, exit, comes_last}
use Rattle.spv_flow_parts.proofs.Conditions.{joined_comes, as_long, long_conditions, under_term}
use Rattle.spv_flow.specs.statement_rules.Rules.{arm_made, arm_events}
use Rattle.spv_flow.proofs.statement_rules.WayLemmas.{made_with, conditions_then}

module _ (a b : Arena) (x : Term) (labels : List ℤ) (so_far first : List Condition) (n : Supply) where
  abbrev goal : List logic.Condition
  goal = arm_made x labels (conditions_of a so_far) (conditions_of a first)

  pub label_stops : (r : Listed) (g : GenFault) → IsErrAnd r (λ e. e ≡ g) → Extends a b → Stops g (one (is_label x labels)) a b
      → Comes r (made_with (arm_made x labels (conditions_of a so_far) (conditions_of a first)) n) (in_order (arm_events x labels (length so_far) (conditions_of a first))) a b n
  label_stops r g is grows stops = exit r g (made_with goal n) n [] (one (is_label x labels)) (counted (length so_far + length (conditions_of a first)) ∷ []) is (nothing_walked a) grows stops

  pub arm_comes : (r : Listed) (test : TermId) (under : List Condition) → AreThere a n → AreIn a so_far → AreIn a first → IsTerm b test (is_label x labels) → Walked (one (is_label x labels)) a b
      → under ≡ map (with_given test) first → Assumes test first under → IfOk r (λ all. all.items ≡ so_far ++ under) → Answers r (counted (length so_far + length under)) b b
      → Comes r (made_with (arm_made x labels (conditions_of a so_far) (conditions_of a first)) n) (in_order (arm_events x labels (length so_far) (conditions_of a first))) a b n
  arm_comes r test under numbers so_far_in first_in term walked is assumes joined answers =
      let before = conditions_then so_far walked.grows so_far_in in
      let now = under_term test first under b (is_label x labels) (conditions_of a first) assumes term (conditions_then first walked.grows first_in) in
      let long : length under ≡ length (conditions_of a first) = as_long test first under is ∙ sym (long_conditions a first) in
      comes_last r (made_with goal n) n (one (is_label x labels) ∷ []) (counted (length so_far + length (conditions_of a first))) (went [] (one (is_label x labels)) (nothing_walked a) walked)
      (subst (λ count. Comes r (made_with goal n) (counted (length so_far + count)) b b n) long
      (joined_comes r so_far under (conditions_of a so_far) (all_assuming (is_label x labels) (conditions_of a first)) b joined answers before now n (AreThere-Extends a b n walked.grows numbers)))
