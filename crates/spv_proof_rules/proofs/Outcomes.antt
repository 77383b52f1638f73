-- A check that nothing stops comes to whether its proof is accepted, and only adds terms.
use Rattle.std.proofs.Common.{◌≡◌, ℕ, Bool, true, false, ◌&&◌, List, [], ◌∷◌, ◌++◌, map, length, Option, Some, None, Result, Ok, Err, nat_eq, refl, sym, ap, ◌∙◌}
use Rattle.std.specs.Option.{option_map}
use Rattle.std.proofs.lemmas.List.{map-append}
use Rattle.spv_logic.specs.Terms.{Term}
use Rattle.spv_atoms.specs.declared.proofs.Step.{Step}
use Rattle.spv_atoms.specs.declared.proofs.Split.{Split}
use Rattle.spv_atoms.specs.declared.proofs.ProofNode.{ProofNode}
use Rattle.spv_atoms.specs.Atoms.{is_atom}
use Rattle.spv_proof_rules.specs.Effects.{Question, Effect, Adds, Ends, Fails, is_truth, effect}
use Rattle.spv_proof_rules.specs.Accepted.{Path, Open, Closed, Broken, closed_if_last, on_effect, walk, cases_of, opened_if, after_node, on_opened, closes, accepts}
use Rattle.spv_proof_rules.specs.Stops.{Halt, kept, all_kept}
use Rattle.spv_proof_rules.specs.Outcomes.{Trial, Does, Halts, does_unless, halt_by, trial, Ending, Comes, Stops, Outcome, comes, by_ending, then_outcome, on_kept, add_fact, on_does, on_trial, made_by, where_made, steps_outcome, Branch, root, begin_with, begin, case_after, branches_if, branches_after, node_outcome, on_branches, nodes_outcome, outcome}

-- ---- one step

does-unless : (o : Option Halt) (e f : Effect) → does_unless o e ≡ Does f → e ≡ f
does-unless None e f h = cc
does-unless (Some x) e f h = absurd (cc)

module _ (most : ℕ) (q : Question) where
  trial-does : (known facts : List Term) (s : Step) (e : Effect) → trial most q known facts s ≡ Does e → effect q facts s ≡ e
  trial-does known facts s e h = does-unless (halt_by most q known facts s) (effect q facts s) e h

  -- ---- the steps of a node

  -- what comes to a value was stopped by nothing
  kept-comes : {T : Type 0} (known : List Term) (o : Option (List Term)) (go : List Term → Outcome T) (x : T) → (on_kept known o go).ending ≡ Comes x → (more : List Term) × ((go more).ending ≡ Comes x)
  kept-comes known None go x h = absurd (cc)
  kept-comes known (Some more) go x h = (more, h)

  made-comes : {T : Type 0} (r : Result (List Term) (List Term)) (go : List Term → Outcome T) (x : T) → (where_made r go).ending ≡ Comes x → (known : List Term) × ((go known).ending ≡ Comes x)
  made-comes (Ok known) go x h = (known, h)
  made-comes (Err known) go x h = absurd (cc)

  by_effect : (known facts : List Term) (s : Step) (steps : List Step) (p : Path) (e : Effect) → effect q facts s ≡ e
      → ((t : Term) (more : List Term) → (steps_outcome most q more (facts ++ t ∷ []) steps).ending ≡ Comes p → walk q (facts ++ t ∷ []) steps ≡ p)
      → (on_does known e (λ t. add_fact most known t (λ more. steps_outcome most q more (facts ++ t ∷ []) steps)) (closed_if_last steps)).ending ≡ Comes p
      → on_effect e (λ t. walk q (facts ++ t ∷ []) steps) (closed_if_last steps) ≡ p
  by_effect known facts s steps p (Adds t) is later h =
      let k = kept-comes known (kept most known t) (λ more. steps_outcome most q more (facts ++ t ∷ []) steps) p h in
      later t k.0 k.1
  by_effect known facts s steps p Ends is later h = cc
  by_effect known facts s steps p Fails is later h = cc

  by_trial : (known facts : List Term) (s : Step) (steps : List Step) (p : Path) (r : Trial) → trial most q known facts s ≡ r
      → ((t : Term) (more : List Term) → (steps_outcome most q more (facts ++ t ∷ []) steps).ending ≡ Comes p → walk q (facts ++ t ∷ []) steps ≡ p)
      → (on_trial known r (λ t. add_fact most known t (λ more. steps_outcome most q more (facts ++ t ∷ []) steps)) (closed_if_last steps)).ending ≡ Comes p
      → walk q facts (s ∷ steps) ≡ p
  by_trial known facts s steps p (Does e) is later h =
      let does = trial-does known facts s e is in
      ap (λ f. on_effect f (λ t. walk q (facts ++ t ∷ []) steps) (closed_if_last steps)) does ∙ by_effect known facts s steps p e does later h
  by_trial known facts s steps p (Halts x) is later h = absurd (cc)

  steps-come : (steps : List Step) (known facts : List Term) (p : Path) → (steps_outcome most q known facts steps).ending ≡ Comes p → walk q facts steps ≡ p
  steps-come [] known facts p h = cc
  steps-come (s ∷ steps) known facts p h =
      let k = made-comes (all_kept most known (made_by q s)) _ p h in
      by_trial k.0 facts s steps p (trial most q k.0 facts s) refl (λ t more g. steps-come steps more (facts ++ t ∷ []) p g) k.1

  -- ---- nodes

  abbrev added_case : List Term → Option Term → List Term
  added_case facts None = facts
  added_case facts (Some t) = facts ++ t ∷ []

  -- the facts of a path when its node begins
  abbrev facts_of : Branch → List Term
  facts_of b = added_case b.before b.opens

  opened-branches : (facts cases : List Term) → map facts_of (map (case_after facts) cases) ≡ map (λ f. facts ++ f ∷ []) cases
  opened-branches facts [] = refl
  opened-branches facts (c ∷ cases) = ap (λ xs. (facts ++ c ∷ []) ∷ xs) (opened-branches facts cases)

  opened-if : (b : Bool) (facts cases : List Term) → opened_if b facts cases ≡ option_map (map facts_of) (branches_if b facts cases)
  opened-if true facts cases = ap Some (sym (opened-branches facts cases))
  opened-if false facts cases = refl

  after-branches : (p : Path) (split : Option Split) → after_node q p split ≡ option_map (map facts_of) (branches_after q p split)
  after-branches Closed None = refl
  after-branches Closed (Some s) = refl
  after-branches (Open facts) None = refl
  after-branches (Open facts) (Some s) = opened-if (is_atom (is_truth q) (q.at s.atom) && nat_eq (length s.parts) (length (cases_of q (q.at s.atom)))) facts (cases_of q (q.at s.atom))
  after-branches Broken split = refl

  begin-comes : (known facts : List Term) (o : Option Term) (x : List Term) → (begin_with most known facts o).ending ≡ Comes x → added_case facts o ≡ x
  begin-comes known facts None x h = cc
  begin-comes known facts (Some t) x h = same ((kept-comes known (kept most known t) (λ more. comes more (facts ++ t ∷ [])) x h).1)
    where
      same : {xs : List Term} → Comes xs ≡ Comes x → xs ≡ x
      same e = cc

  ending-comes : {S T : Type 0} (known : List Term) (e : Ending S) (go : List Term → S → Outcome T) (x : T) → (by_ending known e go).ending ≡ Comes x
      → (s : S) × (e ≡ Comes s) × ((go known s).ending ≡ Comes x)
  ending-comes known (Comes s) go x h = (s, refl, h)
  ending-comes known (Stops s) go x h = absurd (cc)

  node-comes : (known : List Term) (p : Branch) (n : ProofNode) (left : Option (List Branch)) → (node_outcome most q known p n).ending ≡ Comes left
      → after_node q (walk q (facts_of p) n.steps) n.split ≡ option_map (map facts_of) left
  node-comes known p n left h =
      let start = begin most known p in
      let k = ending-comes start.known start.ending (λ start facts. then_outcome (steps_outcome most q start facts n.steps) (λ more path. comes more (branches_after q path n.split))) left h in
      let facts = begin-comes known p.before p.opens k.0 k.1 in
      let o = steps_outcome most q start.known k.0 n.steps in
      let e = ending-comes o.known o.ending (λ more path. comes more (branches_after q path n.split)) left k.2 in
      let leads = steps-come n.steps start.known k.0 e.0 e.1 in
      let same : branches_after q e.0 n.split ≡ left = came e.2 in
      ap (λ fs. after_node q (walk q fs n.steps) n.split) facts
      ∙ (ap (λ w. after_node q w n.split) leads ∙ (after-branches e.0 n.split ∙ ap (option_map (map facts_of)) same))
    where
      came : {x y : Option (List Branch)} → Comes x ≡ Comes y → x ≡ y
      came e = cc

  by_branches : (more : List Term) (others : List Branch) (nodes : List ProofNode) (b : Bool) (o : Option (List Branch))
      → ((new : List Branch) → (nodes_outcome most q more (new ++ others) nodes).ending ≡ Comes b → closes q (map facts_of (new ++ others)) nodes ≡ b)
      → (on_branches more o (λ new. nodes_outcome most q more (new ++ others) nodes)).ending ≡ Comes b
      → on_opened (option_map (map facts_of) o) (λ new. closes q (new ++ map facts_of others) nodes) ≡ b
  by_branches more others nodes b None later h = cc
  by_branches more others nodes b (Some new) later h = ap (λ paths. closes q paths nodes) (sym (map-append facts_of new others)) ∙ later new h

  nodes-come : (nodes : List ProofNode) (known : List Term) (paths : List Branch) (b : Bool) → (nodes_outcome most q known paths nodes).ending ≡ Comes b → closes q (map facts_of paths) nodes ≡ b
  nodes-come [] known [] b h = cc
  nodes-come [] known (p ∷ others) b h = cc
  nodes-come (n ∷ nodes) known [] b h = cc
  nodes-come (n ∷ nodes) known (p ∷ others) b h =
      let whole = node_outcome most q known p n in
      let k = ending-comes whole.known whole.ending (λ more left. on_branches more left (λ new. nodes_outcome most q more (new ++ others) nodes)) b h in
      let leads = node-comes known p n k.0 k.1 in
      ap (λ r. on_opened r (λ new. closes q (new ++ map facts_of others) nodes)) leads
      ∙ by_branches whole.known others nodes b k.0 (λ new g. nodes-come nodes whole.known (new ++ others) b g) k.2

  -- what nothing stops is accepted or not
  pub outcome-accepts : (known : List Term) (nodes : List ProofNode) (b : Bool) → (outcome most q known nodes).ending ≡ Comes b → accepts q nodes ≡ b
  outcome-accepts known nodes b h = nodes-come nodes known (root ∷ []) b h
