-- The places of the cases of a proof's nodes.
use Rattle.std.specs.Prelude.{ℕ, zero, suc, ◌+◌, Bool, true, false, ◌&&◌, List, [], ◌∷◌, ◌++◌, map, length, Option, Some, None, nat_eq, nat_lt}
use Rattle.spv_listing_values.specs.declared.data.Split.{Split}
use Rattle.spv_listing_values.specs.declared.data.ProofNode.{ProofNode}

-- how many cases a split has; none where there is none
abbrev pub cases_of : {T : Type 0} → Option (Split T) → ℕ
cases_of None = 0
cases_of (Some s) = s.cases

abbrev pub counts : {T : Type 0} → List (ProofNode T) → List ℕ
counts nodes = map (λ n. cases_of n.split) nodes

-- whether nodes with so many cases, each followed by its cases, are so many trees
abbrev pub are_trees : ℕ → List ℕ → Bool
are_trees zero [] = true
are_trees zero (c ∷ cs) = false
are_trees (suc n) [] = false
are_trees (suc n) (c ∷ cs) = are_trees (c + n) cs

-- whether from a place on nodes with so many cases are those that are wanted, each followed by its cases, whose places are these
abbrev pub are_placed : ℕ → List ℕ → List ℕ → List (List ℕ) → Bool
are_placed place [] [] [] = true
are_placed place (w ∷ wanted) (c ∷ cs) (p ∷ parts) = nat_eq w place && (nat_eq c (length p) && are_placed (suc place) (p ++ wanted) cs parts)
are_placed place _ _ _ = false

-- a split has a case
abbrev pub has_cases : {T : Type 0} → ProofNode T → Bool
has_cases n = elim n.split as (λ _. Bool) [ None ↦ true | Some s ↦ nat_lt 0 s.cases ]
