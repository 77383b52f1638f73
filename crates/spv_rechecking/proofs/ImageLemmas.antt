-- What is said of the ids of texts is what is said of the terms that they stand for, over plain variables.
use Rattle.std.proofs.Common.{◌≡◌, ◌<◌, ◌&&◌, Option, Some, None, List, [], ◌∷◌, map, length, refl, sym, ap, ◌∙◌}
use Rattle.std.specs.Option.{option_map}
use Rattle.std.proofs.lemmas.List.{length-map}
use Rattle.spv_logic.specs.declared.conditions.TermId.{TermId}
use Rattle.spv_logic.specs.Terms.{term_eq}
use Rattle.spv_logic.specs.Conditions.{Sequent}
use Rattle.spv_term.specs.Arena as arena
use Rattle.spv_term.specs.Arena.{Arena}
use Rattle.spv_listing_values.specs.declared.texts.Text.{Text}
use Rattle.spv_listing_values.specs.declared.data.Step.{Step}
use Rattle.spv_listing_values.specs.declared.data.Step.TheVariants as step
use Rattle.spv_listing_values.specs.declared.data.Split.{Split}
use Rattle.spv_listing_values.specs.declared.data.ProofNode.{ProofNode}
use Rattle.spv_listing_values.specs.declared.data.Claim.{Claim}
use Rattle.spv_listing_values.specs.Written.{word}
use Rattle.spv_listing_values.specs.Mapped.{step_at, split_at, node_at, split_terms}
use Rattle.spv_listing_values.specs.Places.{Flat, AreBefore, trees, tree}
use Rattle.spv_listing_values.specs.Entries.{written_claim}
use Rattle.spv_rechecking.specs.written_terms.Standing.{Vocabulary}
use Rattle.spv_rechecking.specs.Rechecked.{term_of, proof_of, terms_eq, is_same, nodes_of}
use Rattle.spv_rechecking.specs.Made.{AreImages}
use Rattle.spv_rechecking.specs.Converted.{term_at, StepPlaced, StepsPlaced, NodesPlaced}
use Rattle.spv_rechecking.proofs.written_terms.Lists.{mapped-at}
use Rattle.spv_rechecking.proofs.written_terms.Levels.{so_many_trees}
use Rattle.spv_rechecking.proofs.ReadLemmas.{said_nodes}

module _ (v : Vocabulary) (a : Arena) (fs : List Flat) (images : List TermId) (are : AreImages v a (trees fs) images) where
  pub so_many_images : length images ≡ length fs
  so_many_images = sym (length-map images (arena.tree a)) ∙ (ap length are.trees ∙ (length-map (trees fs) (term_of v) ∙ so_many_trees fs))

  same_term : (t : Text) → t.0 < length images → term_at a images t ≡ term_of v (tree fs t)
  same_term t low = mapped-at (arena.tree a) (term_of v) images (trees fs) are.trees t.0 low (record { 0 = 0 }) (word [])

  same_terms : (ts : List Text) → AreBefore (length images) ts → map (term_at a images) ts ≡ map (term_of v) (map (tree fs) ts)
  same_terms [] h = refl
  same_terms (t ∷ ts) h = let first = same_term t h.0 in let others = same_terms ts h.1 in λ i. first i ∷ others i

  same_step : (s : Step Text) → StepPlaced (length images) s → step_at (term_at a images) s ≡ step_at (term_of v) (step_at (tree fs) s)
  same_step (step.Given k) h = refl
  same_step (step.Refl t) h = ap (λ u. step.Refl u) (same_term t h.0)
  same_step (step.Symm i) h = refl
  same_step (step.Trans i j) h = refl
  same_step (step.Cong t u facts) h = let p = same_term t h.0 in let q = same_term u h.1.0 in λ i. step.Cong (p i) (q i) facts
  same_step (step.Linear r first second) h = ap (λ u. step.Linear u first second) (same_term r h.0)
  same_step (step.Schema k ts name) h = ap (λ us. step.Schema k us name) (same_terms ts h)
  same_step (step.Rule k ts) h = ap (λ us. step.Rule k us) (same_terms ts h)
  same_step (step.Eval t facts) h = ap (λ u. step.Eval u facts) (same_term t h.0)
  same_step (step.Contra i j) h = refl

  same_steps : (ss : List (Step Text)) → StepsPlaced (length images) ss → map (step_at (term_at a images)) ss ≡ map (step_at (term_of v)) (map (step_at (tree fs)) ss)
  same_steps [] h = refl
  same_steps (s ∷ ss) h = let first = same_step s h.0 in let others = same_steps ss h.1 in λ i. first i ∷ others i

  same_split : (s : Option (Split Text)) → AreBefore (length images) (split_terms s) → option_map (split_at (term_at a images)) s ≡ option_map (split_at (term_of v)) (option_map (split_at (tree fs)) s)
  same_split None h = refl
  same_split (Some s) h = let atom = same_term s.atom h.0 in λ i. Some (record { cases = s.cases; atom = atom i })

  same_nodes : (ns : List (ProofNode Text)) → NodesPlaced (length images) ns → map (node_at (term_at a images)) ns ≡ map (node_at (term_of v)) (map (node_at (tree fs)) ns)
  same_nodes [] h = refl
  same_nodes (n ∷ ns) h =
      let steps = same_steps n.steps h.0.0 in
      let split = same_split n.split h.0.1 in
      let others = same_nodes ns h.1 in
      λ i. record { steps = steps i; split = split i } ∷ others i

  module _ (claim : Claim Text) where
    pub same_lines : (c : Sequent) → AreBefore (length images) claim.given → claim.goal.0 < length images
        → (terms_eq (map (term_at a images) claim.given) c.given && term_eq (term_at a images claim.goal) c.goal) ≡ is_same v c (written_claim fs claim)
    same_lines c given goal =
        let ts = same_terms claim.given given in
        let t = same_term claim.goal goal in
        λ i. terms_eq (ts i) c.given && term_eq (t i) c.goal

    pub same_proof : (nodes : List (ProofNode Text)) → nodes ≡ proof_of claim.verdict → NodesPlaced (length images) nodes → map (node_at (term_at a images)) nodes ≡ nodes_of v (written_claim fs claim)
    same_proof nodes e h = same_nodes nodes h ∙ (ap (λ ns. map (node_at (term_of v)) (map (node_at (tree fs)) ns)) e ∙ sym (said_nodes v fs claim))
