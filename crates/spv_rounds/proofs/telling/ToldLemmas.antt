-- Steps for the members of rounds say what these say.
use Rattle.std.proofs.Common.{◌≡◌, List, [], ◌∷◌, ◌++◌, map, length, refl, sym, ap, ◌∙◌, subst, Result, Ok, Err, IfOk}
use Rattle.std.proofs.lemmas.List.{length-map, map-append}
use Rattle.spv_logic.specs.declared.conditions.TermId.{TermId}
use Rattle.spv_logic.specs.declared.operators.Head.TheVariants.{False}
use Rattle.spv_logic.specs.Terms.{Term, term, no_terms}
use Rattle.spv_term.specs.Arena.{Arena, tree}
use Rattle.spv_atoms.specs.declared.proofs.Step.{Step}
use Rattle.spv_atoms.specs.declared.proofs.ProofNode.{ProofNode}
use Rattle.spv_proof_rules.specs.Rules.{Rule}
use Rattle.spv_proof_rules.specs.Accepted.{accepts}
use Rattle.spv_proof_rules.specs.Effects.{Question}
use Rattle.spv_proof_rules.specs.Stand.{StepsIn, NodesIn}
use Rattle.spv_models.specs.split_trees.Trees.{Tree}
use Rattle.spv_search_terms.specs.condition_copy.Copies.{StandsFor}
use Rattle.spv_verdicts.specs.Verdicts.{Limits}
use Rattle.spv_verdicts.specs.declared.answers.trees.SplitNode.{SplitNode}
use Rattle.spv_verdicts.specs.declared.answers.verdicts.Instance.{Instance}
use Rattle.spv_verdicts.specs.declared.answers.verdicts.Round.{Round}
use Rattle.spv_verdicts.specs.declared.answers.verdicts.Limit.TheVariants as limit
use Rattle.spv_verdicts.specs.answers.Nodes.{tree_at}
use Rattle.spv_verdicts.specs.answers.Views.{InstancesIn, RoundsIn, SplitNodesIn, instance_in, instances_in}
use Rattle.spv_verdicts.specs.translation.Exchanged.{exchanged_nodes}
use Rattle.spv_verdicts.specs.translation.ExchangedTrees.{exchanged_tree}
use Rattle.spv_verdicts.specs.translation.Replacements.{replacements}
use Rattle.spv_rounds.specs.Claims.{formula_of, formulas}
use Rattle.spv_rounds.specs.Right.{IsKeptUnder}
use Rattle.spv_rounds.specs.Laws.{said_by, StepsSay, AnsweredUnder, KeptUnder}
use Rattle.spv_rounds.specs.declared.knowing.known.Settled.{Settled}
use Rattle.spv_rounds.specs.knowing.Known.{RoundsStand, members_in}
use Rattle.spv_rounds.specs.telling.Told.{rule_step, all_members, settled_question, settled_members, ProofTold, LimitTold}

-- ---- members

pub members-are : (a : Arena) (rounds : List Round) → instances_in a (all_members rounds) ≡ members_in a rounds
members-are a [] = refl
members-are a (r ∷ rounds) = map-append _ r.members (all_members rounds) ∙ ap (λ is. instances_in a r.members ++ is) (members-are a rounds)

instances-append : (a : Arena) (is js : List Instance) → InstancesIn a is → InstancesIn a js → InstancesIn a (is ++ js)
instances-append a [] js h k = k
instances-append a (i ∷ is) js h k = (h.0, instances-append a is js h.1 k)

pub members-there : (a : Arena) (rounds : List Round) → RoundsIn a rounds → InstancesIn a (all_members rounds)
members-there a [] h = tt
members-there a (r ∷ rounds) h = instances-append a r.members (all_members rounds) h.1 (members-there a rounds h.2)

steps-there : (a : Arena) (is : List Instance) → InstancesIn a is → StepsIn a (map rule_step is)
steps-there a [] h = tt
steps-there a (i ∷ is) h = (h.0, steps-there a is h.1)

pub steps-in : (a : Arena) (rounds : List Round) (steps : List Step) → steps ≡ map rule_step (all_members rounds) → RoundsIn a rounds → StepsIn a steps
steps-in a rounds steps e h = subst (StepsIn a) (sym e) (steps-there a (all_members rounds) (members-there a rounds h))

-- ---- what they say

module _ (rules : List Rule) (s : Settled) where
  abbrev q : Question
  q = settled_question rules s

  said : (is : List Instance) → map (said_by q) (map rule_step is) ≡ map (formula_of q) (instances_in s.terms is)
  said [] = refl
  said (i ∷ is) = ap (λ os. formula_of q (instance_in s.terms i) ∷ os) (said is)

  pub steps-say : RoundsStand q s.terms s.rounds → StepsSay q (map rule_step (all_members s.rounds)) (formulas q (settled_members s))
  steps-say stand = said (all_members s.rounds) ∙ (ap (map (formula_of q)) (members-are s.terms s.rounds) ∙ stand.say)

  many : length q.sequent.given ≡ length s.condition.given
  many = length-map s.condition.given (tree s.terms)

  module _ (stand : RoundsStand q s.terms s.rounds) (falsity : StandsFor s.terms s.falsity (term False no_terms)) (table : List Step) (is : table ≡ replacements (length s.condition.given) s.falsity (map rule_step (all_members s.rounds)))
      (in_range : StandsFor s.terms s.falsity (term False no_terms) → RoundsIn s.terms s.rounds → StepsIn s.terms table) where
    same_table : replacements (length q.sequent.given) s.falsity (map rule_step (all_members s.rounds)) ≡ table
    same_table = ap (λ n. replacements n s.falsity (map rule_step (all_members s.rounds))) many ∙ sym is

    pub proof-told : AnsweredUnder → (old new : List ProofNode) → new ≡ exchanged_nodes table old → ((a : Arena) → StepsIn a table → NodesIn a old → NodesIn a new) → ProofTold rules s old new
    proof-told law old new e there = record {
      there = there s.terms (in_range falsity stand.there);
      accepted = λ h. ap (accepts q) (e ∙ ap (λ ss. exchanged_nodes ss old) (sym same_table)) ∙ law q (formulas q (settled_members s)) s.falsity (map rule_step (all_members s.rounds)) falsity.is (steps-say stand) old h;
    }

    pub splits-told : KeptUnder → (limits : Limits) (old new : List SplitNode) → ((at : TermId → Term) → tree_at at new ≡ exchanged_tree table (tree_at at old)) → ((a : Arena) → StepsIn a table → SplitNodesIn a old → SplitNodesIn a new)
        → LimitTold rules limits s (limit.Splits old) (limit.Splits new)
    splits-told law limits old new e there = record {
      there = there s.terms (in_range falsity stand.there);
      reached = λ h.
          subst (λ (t : Tree). IsKeptUnder q (formulas q (settled_members s)) limits.splits t) (sym (e (tree s.terms) ∙ ap (λ ss. exchanged_tree ss (tree_at (tree s.terms) old)) (sym same_table)))
          (law q (formulas q (settled_members s)) s.falsity (map rule_step (all_members s.rounds)) falsity.is (steps-say stand) limits.splits (tree_at (tree s.terms) old) h);
    }

pub if_told : {T E : Type 0} (r : Result T E) (P Q R : T → Type 0) → IfOk r P → IfOk r Q → ((x : T) → P x → Q x → R x) → IfOk r R
if_told (Ok x) P Q R p q go = go x p q
if_told (Err e) P Q R p q go = tt
