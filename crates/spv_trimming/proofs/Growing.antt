-- A proof stays one where the arena grows.
use Rattle.std.proofs.Common.{◌≡◌, ◌<◌, Bool, ◌&&◌, List, [], ◌∷◌, ◌++◌, length, Option, Some, None, IsTrue, nat_eq, refl, sym, ap, ◌∙◌, subst}
use Rattle.spv_logic.specs.Terms.{Term}
use Rattle.spv_term.specs.declared.nodes.Condition.{Condition}
use Rattle.spv_term.specs.Arena.{AllBelow, Arena, Extends, sequent}
use Rattle.spv_term.proofs.ArenaLemmas.{tree-Extends, map_tree-Extends}
use Rattle.spv_atoms.specs.declared.proofs.Step.{Step}
use Rattle.spv_atoms.specs.declared.proofs.Split.{Split}
use Rattle.spv_atoms.specs.declared.proofs.ProofNode.{ProofNode}
use Rattle.spv_atoms.specs.Atoms.{is_atom}
use Rattle.spv_proof_rules.specs.Evaluation.{sides}
use Rattle.spv_proof_rules.specs.Effects.{Effect, Adds, Ends, Fails}
use Rattle.spv_proof_rules.specs.Accepted.{Path, Open, Closed, Broken, after_node, cases_by_sides, closed_if_last, closes, on_effect, on_opened, opened_if, walk}
use Rattle.spv_proof_rules.specs.Stand.{question, NodesIn, SplitIn, StepsIn, IsProof}
use Rattle.spv_proof_rules.proofs.Staying.{below-Extends, StepIn-Extends, effect-Extends, number-Extends, truth-Extends}

on_effect-same : (e : Effect) (f g : Term → Path) (last : Path) → ((t : Term) → f t ≡ g t) → on_effect e f last ≡ on_effect e g last
on_effect-same (Adds t) f g last same = same t
on_effect-same Ends f g last same = refl
on_effect-same Fails f g last same = refl

on_opened-same : (o : Option (List (List Term))) (f g : List (List Term) → Bool) → ((paths : List (List Term)) → f paths ≡ g paths) → on_opened o f ≡ on_opened o g
on_opened-same None f g same = refl
on_opened-same (Some paths) f g same = same paths

module _ {old new : Arena} (more : Extends old new) where
  -- ---- the terms that a proof names

  StepsIn-Extends : (steps : List Step) → StepsIn old steps → StepsIn new steps
  StepsIn-Extends [] h = tt
  StepsIn-Extends (s ∷ steps) h = (StepIn-Extends more s h.0, StepsIn-Extends steps h.1)

  SplitIn-Extends : (o : Option Split) → SplitIn old o → SplitIn new o
  SplitIn-Extends None h = tt
  SplitIn-Extends (Some s) h = below-Extends more s.atom.0 h

  pub NodesIn-Extends : (nodes : List ProofNode) → NodesIn old nodes → NodesIn new nodes
  NodesIn-Extends [] h = tt
  NodesIn-Extends (n ∷ nodes) h = (StepsIn-Extends n.steps h.0, SplitIn-Extends n.split h.1, NodesIn-Extends nodes h.2)

  pub claim-Extends : (c : Condition) → AllBelow (length old.nodes) c.given → c.goal.0 < length old.nodes → sequent new c ≡ sequent old c
  claim-Extends c given goal = λ i. record { given = map_tree-Extends more c.given given i; goal = tree-Extends more c.goal goal i }

  -- ---- where it leads

  module _ (c : Condition) (given : AllBelow (length old.nodes) c.given) (goal : c.goal.0 < length old.nodes) where
    walk-Extends : (facts : List Term) (steps : List Step) → StepsIn old steps → walk (question new c) facts steps ≡ walk (question old c) facts steps
    walk-Extends facts [] h = refl
    walk-Extends facts (s ∷ steps) h =
        ap (λ e. on_effect e (λ t. walk (question new c) (facts ++ t ∷ []) steps) (closed_if_last steps))
        (effect-Extends more (sequent new c) (sequent old c) (claim-Extends c given goal) [] facts s h.0)
        ∙ on_effect-same _ (λ t. walk (question new c) (facts ++ t ∷ []) steps) (λ t. walk (question old c) (facts ++ t ∷ []) steps) (closed_if_last steps)
        (λ t. walk-Extends (facts ++ t ∷ []) steps h.1)

    after-Extends : (p : Path) (o : Option Split) → SplitIn old o → after_node (question new c) p o ≡ after_node (question old c) p o
    after-Extends Closed None h = refl
    after-Extends Closed (Some s) h = refl
    after-Extends (Open facts) None h = refl
    after-Extends (Open facts) (Some s) h =
        let n = number-Extends more (sequent new c) (sequent old c) (claim-Extends c given goal) [] in
        let b = truth-Extends more (sequent new c) (sequent old c) (claim-Extends c given goal) [] in
        let t = tree-Extends more s.atom h in
        (λ i. opened_if (is_atom (b i) (t i) && nat_eq (length s.parts) (length (cases_by_sides (n i) (sides (t i)) (t i)))) facts (cases_by_sides (n i) (sides (t i)) (t i)))
    after-Extends Broken o h = refl

    closes-Extends : (paths : List (List Term)) (nodes : List ProofNode) → NodesIn old nodes → closes (question new c) paths nodes ≡ closes (question old c) paths nodes
    closes-Extends [] [] h = refl
    closes-Extends [] (n ∷ nodes) h = refl
    closes-Extends (facts ∷ paths) [] h = refl
    closes-Extends (facts ∷ paths) (n ∷ nodes) h =
        ap (λ o. on_opened o (λ left. closes (question new c) (left ++ paths) nodes))
        (ap (λ p. after_node (question new c) p n.split) (walk-Extends facts n.steps h.0) ∙ after-Extends (walk (question old c) facts n.steps) n.split h.1)
        ∙ on_opened-same _ (λ left. closes (question new c) (left ++ paths) nodes) (λ left. closes (question old c) (left ++ paths) nodes)
        (λ left. closes-Extends (left ++ paths) nodes h.2)

    pub IsProof-Extends : (nodes : List ProofNode) → IsProof old c nodes → IsProof new c nodes
    IsProof-Extends nodes p = record {
      terms = NodesIn-Extends nodes p.terms;
      accepted = subst IsTrue (sym (closes-Extends ([] ∷ []) nodes p.terms)) p.accepted;
    }

pub proof_grows : (old new : Arena) (c : Condition) (nodes : List ProofNode) → Extends old new → AllBelow (length old.nodes) c.given → c.goal.0 < length old.nodes → IsProof old c nodes → IsProof new c nodes
proof_grows old new c nodes more given goal p = IsProof-Extends more c given goal nodes p
