-- Facts that are orders of the sides of an equation.
use Rattle.std.specs.Prelude.{◌≡◌, Bool, List, [], ◌∷◌, is_some}
use Rattle.std.specs.List.{list_any}
use Rattle.spv_logic.specs.declared.conditions.TermId.{TermId}
use Rattle.spv_logic.specs.Terms.{Term}
use Rattle.spv_term.specs.Arena.{Arena, tree}
use Rattle.spv_proof_rules.specs.Evaluation.{sides, apart}
use Rattle.spv_derivations.specs.declared.derivation.entries.Part.{Part}
use Rattle.spv_derivations.specs.declared.derivation.entries.Part.TheVariants.{True, False, Below, Above}
use Rattle.spv_derivations.specs.derivation.Derivation.{literal}
use Rattle.spv_assignments.specs.declared.partial_assignment.facts.Known.{Known}
use Rattle.spv_assignments.specs.partial_assignment.Facts.{fact_of}

-- whether a formula is an order of the sides of an equation
abbrev pub crosses : Term → Term → Bool
crosses e o = is_some (apart (o ∷ []) (sides e))

-- whether a fact is an order of the sides of a term
abbrev pub orders : Arena → TermId → Known → Bool
orders a t k = crosses (tree a t) (fact_of a k)

-- how a fact that is an order of the sides of a term is told of the term
abbrev pub IsOrderPart : Arena → TermId → Known → Part → Type 0
IsOrderPart a t k True = ⊥
IsOrderPart a t k False = ⊥
IsOrderPart a t k Below = literal (tree a t) Below ≡ fact_of a k
IsOrderPart a t k Above = literal (tree a t) Above ≡ fact_of a k

-- whether one of these facts is
abbrev pub has_order : Arena → List Known → TermId → Bool
has_order a known t = list_any (orders a t) known
