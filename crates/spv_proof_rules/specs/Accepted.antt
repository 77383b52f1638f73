-- Which proofs are accepted.
use Rattle.std.specs.Prelude.{Bool, true, false, ◌&&◌, List, [], ◌∷◌, ◌++◌, map, length, Option, Some, None, nat_eq, if◌then◌else◌}
use Rattle.spv_logic.specs.Terms.{Term}
use Rattle.spv_logic.specs.Formulas.{negation, equation, below}
use Rattle.spv_atoms.specs.declared.proofs.Step.{Step}
use Rattle.spv_atoms.specs.declared.proofs.Split.{Split}
use Rattle.spv_atoms.specs.declared.proofs.ProofNode.{ProofNode}
use Rattle.spv_atoms.specs.Atoms.{is_atom}
use Rattle.spv_proof_rules.specs.Evaluation.{sides}
use Rattle.spv_proof_rules.specs.Effects.{Question, Effect, Adds, Ends, Fails, is_truth, is_number, effect}

-- ---- the steps of a node

-- where the steps of a node lead: the path goes on with these facts, it has ended, or a step does not follow
pub data Path : Type 0 where
  Open : List Term → Path
  Closed : Path
  Broken : Path

abbrev pub closed_if_last : List Step → Path
closed_if_last [] = Closed
closed_if_last (s ∷ steps) = Broken

abbrev pub on_effect : Effect → (Term → Path) → Path → Path
on_effect (Adds t) go last = go t
on_effect Ends go last = last
on_effect Fails go last = Broken

-- where steps lead from these facts; a step behind an end does not follow
abbrev pub walk : Question → List Term → List Step → Path
walk q facts [] = Open facts
walk q facts (s ∷ steps) = on_effect (effect q facts s) (λ t. walk q (facts ++ t ∷ []) steps) (closed_if_last steps)

-- ---- cases

-- the two or three ways in which an atom splits
abbrev pub two_cases : Term → List Term
two_cases t = t ∷ negation t ∷ []

abbrev pub three_cases : Term × Term → List Term
three_cases st = equation st.0 st.1 ∷ below st.0 st.1 ∷ below st.1 st.0 ∷ []

abbrev pub cases_by_sides : (Term → Bool) → Option (Term × Term) → Term → List Term
cases_by_sides is_number None t = two_cases t
cases_by_sides is_number (Some st) t = if is_number st.0 && is_number st.1 then three_cases st else two_cases t

-- the cases of an atom: three for an equation of whole numbers, two for every other one
abbrev pub cases_of : Question → Term → List Term
cases_of q t = cases_by_sides (is_number q) (sides t) t

-- ---- nodes

-- each case after these facts, where the atom is one and there are so many cases
abbrev pub opened_if : Bool → List Term → List Term → Option (List (List Term))
opened_if true facts cases = Some (map (λ f. facts ++ f ∷ []) cases)
opened_if false facts cases = None

abbrev pub opened : Question → List Term → Split → Option (List (List Term))
opened q facts s =
    let t = q.at s.atom in
    opened_if (is_atom (is_truth q) t && nat_eq (length s.parts) (length (cases_of q t))) facts (cases_of q t)

-- the paths that a node leaves open: none where its steps end the path, or the cases of its split
abbrev pub after_node : Question → Path → Option Split → Option (List (List Term))
after_node q Closed None = Some []
after_node q (Open facts) (Some s) = opened q facts s
after_node q _ split = None

-- ---- proofs

abbrev pub on_opened : Option (List (List Term)) → (List (List Term) → Bool) → Bool
on_opened None go = false
on_opened (Some paths) go = go paths

-- whether nodes, each with its cases behind it, close these paths, each given by its facts
abbrev pub closes : Question → List (List Term) → List ProofNode → Bool
closes q [] [] = true
closes q [] (n ∷ nodes) = false
closes q (facts ∷ paths) [] = false
closes q (facts ∷ paths) (n ∷ nodes) = on_opened (after_node q (walk q facts n.steps) n.split) (λ new. closes q (new ++ paths) nodes)

-- whether a proof is accepted: it closes the path without facts
abbrev pub accepts : Question → List ProofNode → Bool
accepts q nodes = closes q ([] ∷ []) nodes
