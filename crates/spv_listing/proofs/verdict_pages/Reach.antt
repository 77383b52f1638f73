-- That each of the terms that are named is there, as loops ask for it.
use Rattle.std.proofs.Common.{ℕ, zero, suc, ◌<◌, Bool, List, [], ◌∷◌, length, get_or, All, arith}
use Rattle.spv_whole.specs.Fraction.{Fraction}
use Rattle.spv_logic.specs.declared.conditions.TermId.{TermId}
use Rattle.spv_term.specs.Arena.{Arena, AllBelow}
use Rattle.spv_atoms.specs.declared.proofs.Step.{Step}
use Rattle.spv_atoms.specs.declared.proofs.ProofNode.{ProofNode}
use Rattle.spv_table.specs.Kept.{PairsIn}
use Rattle.spv_proof_rules.specs.Stand.{StepIn, StepsIn, NodesIn}
use Rattle.spv_verdicts.specs.declared.answers.verdicts.Instance.{Instance}
use Rattle.spv_verdicts.specs.answers.Views.{CasesIn, InstancesIn}
use Rattle.spv_listing.specs.verdict_pages.Counting.{NodeIn}

nowhere : (k : ℕ) → k < 0 → ⊥
nowhere k h = omega (arith, h)

-- of no item anything holds
no_items : {X : Type 0} (P : X → Type 0) → All P []
no_items P = λ k d h. absurd (nowhere k h)

item_at : {X : Type 0} (P : X → Type 0) (x : X) (xs : List X) → P x → All P xs → (k : ℕ) (d : X) → k < suc (length xs) → P (get_or (x ∷ xs) k d)
item_at P x xs here there zero d h = here
item_at P x xs here there (suc k) d h = there k d (omega (arith, h))

one_more : {X : Type 0} (P : X → Type 0) (x : X) (xs : List X) → P x → All P xs → All P (x ∷ xs)
one_more P x xs here there = λ k d h. item_at P x xs here there k d h

pub all_below : (count : ℕ) (ts : List TermId) → AllBelow count ts → All (λ t. t.0 < count) ts
all_below count [] h = no_items (λ t. t.0 < count)
all_below count (t ∷ ts) h = one_more (λ t. t.0 < count) t ts h.0 (all_below count ts h.1)

pub all_steps : (a : Arena) (steps : List Step) → StepsIn a steps → All (λ s. StepIn a s) steps
all_steps a [] h = no_items (λ s. StepIn a s)
all_steps a (s ∷ steps) h = one_more (λ s. StepIn a s) s steps h.0 (all_steps a steps h.1)

pub all_nodes : (a : Arena) (nodes : List ProofNode) → NodesIn a nodes → All (λ n. NodeIn a n) nodes
all_nodes a [] h = no_items (λ n. NodeIn a n)
all_nodes a (n ∷ nodes) h = one_more (λ n. NodeIn a n) n nodes (h.0, h.1) (all_nodes a nodes h.2)

pub all_cases : (a : Arena) (branch : List (TermId × Bool)) → CasesIn a branch → All (λ row. row.0.0 < length a.nodes) branch
all_cases a [] h = no_items (λ row. row.0.0 < length a.nodes)
all_cases a (p ∷ branch) h = one_more (λ row. row.0.0 < length a.nodes) p branch h.0 (all_cases a branch h.1)

pub all_pairs : (a : Arena) (values : List (TermId × Fraction)) → PairsIn a values → All (λ row. row.0.0 < length a.nodes) values
all_pairs a [] h = no_items (λ row. row.0.0 < length a.nodes)
all_pairs a (p ∷ values) h = one_more (λ row. row.0.0 < length a.nodes) p values h.0 (all_pairs a values h.1)

pub all_instances : (a : Arena) (instances : List Instance) → InstancesIn a instances → All (λ i. AllBelow (length a.nodes) i.values) instances
all_instances a [] h = no_items (λ i. AllBelow (length a.nodes) i.values)
all_instances a (i ∷ instances) h = one_more (λ i. AllBelow (length a.nodes) i.values) i instances h.0 (all_instances a instances h.1)
