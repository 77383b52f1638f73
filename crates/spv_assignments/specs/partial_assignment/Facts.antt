-- Facts that are known, over an arena.
use Rattle.std.specs.Prelude.{◌≡◌, ℕ, List, [], ◌∷◌, map, Some}
use Rattle.spv_logic.specs.Terms.{Term}
use Rattle.spv_term.specs.Arena.{Arena, tree}
use Rattle.spv_proof_rules.specs.Effects.{numbered}
use Rattle.spv_derivations.specs.derivation.Derivation.{literal}
use Rattle.spv_assignments.specs.declared.partial_assignment.facts.Known.{Known}

-- the fact that is known
abbrev pub fact_of : Arena → Known → Term
fact_of a k = literal (tree a k.term) k.part

abbrev pub facts_of : Arena → List Known → List Term
facts_of a known = map (fact_of a) known

-- their numbers
abbrev pub numbers_of : List Known → List ℕ
numbers_of known = map (λ (k : Known). k.fact) known

-- each is the fact of its number on a path
abbrev pub AreNumbered : Arena → List Term → List Known → Type 0
AreNumbered a facts [] = Unit {0}
AreNumbered a facts (k ∷ known) = (numbered facts k.fact ≡ Some (fact_of a k)) × AreNumbered a facts known
