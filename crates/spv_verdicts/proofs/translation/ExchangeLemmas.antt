-- Proofs in which other steps stand where hypotheses were cited lead to where the first ones do.
use Rattle.std.proofs.Common.{◌≡◌, ℕ, suc, Bool, true, ◌&&◌, List, [], ◌∷◌, ◌++◌, refl, sym, ap, ◌∙◌, Option, Some, None}
use Rattle.std.specs.Prelude.{nat_eq}
use Rattle.spv_logic.specs.Terms.{Term}
use Rattle.spv_logic.specs.Conditions.{Sequent}
use Rattle.spv_atoms.specs.declared.proofs.Step.{Step}
use Rattle.spv_atoms.specs.declared.proofs.Step.TheVariants as step
use Rattle.spv_atoms.specs.declared.proofs.Split.{Split}
use Rattle.spv_atoms.specs.declared.proofs.ProofNode.{ProofNode}
use Rattle.spv_atoms.specs.Shape.{has_cases, parts_of, in_order, is_tree}
use Rattle.spv_proof_rules.specs.Effects.{Question, Effect, Adds, Ends, Fails, effect}
use Rattle.spv_proof_rules.specs.Accepted.{Path, Open, Closed, Broken, closed_if_last, on_effect, walk, after_node, on_opened, closes, accepts}
use Rattle.spv_verdicts.specs.translation.Exchanged.{exchanged_step, exchanged_steps, exchanged_nodes, Exchanges}

-- a question with other hypotheses and another goal
abbrev with_sequent : Question → Sequent → Question
with_sequent q c = record { shapes = q.shapes; decls = q.decls; at = q.at; sequent = c; rules = q.rules }

is_other : (e q : Question) (table : List Step) → Exchanges e q table → e ≡ with_sequent q e.sequent
is_other e q table x =
    let shapes = x.shapes in
    let decls = x.decls in
    let at = x.at in
    let rules = x.rules in
    λ i. record { shapes = shapes i; decls = decls i; at = at i; sequent = e.sequent; rules = rules i }

-- ---- what is the same at each place is so on the whole

effect-onward : (x : Effect) (f g : Term → Path) (p r : Path) → ((t : Term) → f t ≡ g t) → p ≡ r → on_effect x f p ≡ on_effect x g r
effect-onward (Adds t) f g p r h e = h t
effect-onward Ends f g p r h e = e
effect-onward Fails f g p r h e = refl

opened-onward : (o : Option (List (List Term))) (f g : List (List Term) → Bool) → ((paths : List (List Term)) → f paths ≡ g paths) → on_opened o f ≡ on_opened o g
opened-onward None f g h = refl
opened-onward (Some paths) f g h = h paths

last-same : (table steps : List Step) → closed_if_last steps ≡ closed_if_last (exchanged_steps table steps)
last-same table [] = refl
last-same table (s ∷ steps) = refl

module _ (q : Question) (c : Sequent) (table : List Step)
    (effects : (k : ℕ) (facts : List Term) → effect (with_sequent q c) facts (step.Given k) ≡ effect q facts (exchanged_step table (step.Given k))) where
  abbrev other : Question
  other = with_sequent q c

  effect-same : (facts : List Term) (s : Step) → effect other facts s ≡ effect q facts (exchanged_step table s)
  effect-same facts (step.Given k) = effects k facts
  effect-same facts (step.Refl t) = refl
  effect-same facts (step.Symm i) = refl
  effect-same facts (step.Trans i j) = refl
  effect-same facts (step.Cong t u ks) = refl
  effect-same facts (step.Linear r first second) = refl
  effect-same facts (step.Schema kind ts field) = refl
  effect-same facts (step.Rule r ts) = refl
  effect-same facts (step.Eval s ks) = refl
  effect-same facts (step.Contra i j) = refl

  walk-same : (facts : List Term) (steps : List Step) → walk other facts steps ≡ walk q facts (exchanged_steps table steps)
  walk-same facts [] = refl
  walk-same facts (s ∷ steps) =
      ap (λ x. on_effect x (λ t. walk other (facts ++ t ∷ []) steps) (closed_if_last steps)) (effect-same facts s)
      ∙ effect-onward (effect q facts (exchanged_step table s)) (λ t. walk other (facts ++ t ∷ []) steps) (λ t. walk q (facts ++ t ∷ []) (exchanged_steps table steps)) (closed_if_last steps) (closed_if_last (exchanged_steps table steps))
      (λ t. walk-same (facts ++ t ∷ []) steps) (last-same table steps)

  after-same : (p : Path) (split : Option Split) → after_node other p split ≡ after_node q p split
  after-same Closed None = refl
  after-same Closed (Some s) = refl
  after-same (Open facts) None = refl
  after-same (Open facts) (Some s) = refl
  after-same Broken None = refl
  after-same Broken (Some s) = refl

  closes-same : (paths : List (List Term)) (nodes : List ProofNode) → closes other paths nodes ≡ closes q paths (exchanged_nodes table nodes)
  closes-same [] [] = refl
  closes-same [] (n ∷ nodes) = refl
  closes-same (facts ∷ paths) [] = refl
  closes-same (facts ∷ paths) (n ∷ nodes) =
      ap (λ o. on_opened o (λ new. closes other (new ++ paths) nodes)) (after-same (walk other facts n.steps) n.split ∙ ap (λ p. after_node q p n.split) (walk-same facts n.steps))
      ∙ opened-onward (after_node q (walk q facts (exchanged_steps table n.steps)) n.split) (λ new. closes other (new ++ paths) nodes) (λ new. closes q (new ++ paths) (exchanged_nodes table nodes)) (λ new. closes-same (new ++ paths) nodes)

module _ (e q : Question) (table : List Step) (x : Exchanges e q table) where
  pub walk-exchanged : (facts : List Term) (steps : List Step) → walk e facts steps ≡ walk q facts (exchanged_steps table steps)
  walk-exchanged facts steps = ap (λ y. walk y facts steps) (is_other e q table x) ∙ walk-same q e.sequent table x.effects facts steps

  pub closes-exchanged : (paths : List (List Term)) (nodes : List ProofNode) → closes e paths nodes ≡ closes q paths (exchanged_nodes table nodes)
  closes-exchanged paths nodes = ap (λ y. closes y paths nodes) (is_other e q table x) ∙ closes-same q e.sequent table x.effects paths nodes

  pub accepts-exchanged : (nodes : List ProofNode) → accepts e nodes ≡ true → accepts q (exchanged_nodes table nodes) ≡ true
  accepts-exchanged nodes h = sym (closes-exchanged ([] ∷ []) nodes) ∙ h

-- ---- the nodes stand as they did

order-stays : (table : List Step) (place : ℕ) (wanted : List ℕ) (nodes : List ProofNode) → in_order place wanted (exchanged_nodes table nodes) ≡ in_order place wanted nodes
order-stays table place [] [] = refl
order-stays table place [] (n ∷ nodes) = refl
order-stays table place (w ∷ others) [] = refl
order-stays table place (w ∷ others) (n ∷ nodes) = ap (λ b. nat_eq w place && (has_cases n.split && b)) (order-stays table (suc place) (parts_of n.split ++ others) nodes)

pub tree-stays : (table : List Step) (nodes : List ProofNode) → is_tree nodes ≡ true → is_tree (exchanged_nodes table nodes) ≡ true
tree-stays table nodes h = order-stays table 0 (0 ∷ []) nodes ∙ h
