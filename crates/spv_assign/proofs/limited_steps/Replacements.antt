-- What a replacement in conditions makes.
use Rattle.std.proofs.Common.{◌≡◌, List, [], ◌∷◌, ◌++◌, map, length, Result, Ok, Err, IfOk, refl, subst}
use Rattle.spv_logic.specs.declared.conditions.TermId.{TermId}
use Rattle.spv_logic.specs.Conditions as logic
use Rattle.spv_term.specs.declared.nodes.Condition.{Condition}
use Rattle.spv_term.specs.declared.nodes.TermFault.{TermFault}
use Rattle.spv_term.specs.declared.nodes.TermFault.TheVariants.{Size}
use Rattle.spv_term.specs.Arena.{Arena, AllBelow, Extends, tree}
use Rattle.spv_term.specs.substitution.Parts.{AddsParts, LacksPart}
use Rattle.spv_assign.specs.Conditions.{conditions_of, AreIn, all_terms_in}
use Rattle.spv_assign.specs.creation_trace.Events.{HasTerms}
use Rattle.spv_assign.proofs.creation_trace.Walks.{has_both}
use Rattle.spv_assign.specs.limited_steps.Makes.{Makes}

ids_there : (a : Arena) (ts : List TermId) → AllBelow (length a.nodes) ts → HasTerms a (map (tree a) ts)
ids_there a [] h = tt
ids_there a (t ∷ ts) h = (record { id = t; there = h.0; is_tree = refl }, ids_there a ts h.1)

pub terms_there : (a : Arena) (cs : List Condition) → AreIn a cs → HasTerms a (all_terms_in (conditions_of a cs))
terms_there a [] h = tt
terms_there a (c ∷ cs) h =
    has_both a (map (tree a) c.given ++ tree a c.goal ∷ []) (all_terms_in (conditions_of a cs))
    (has_both a (map (tree a) c.given) (tree a c.goal ∷ []) (ids_there a c.given h.0.given) (record { id = c.goal; there = h.0.goal; is_tree = refl }, tt))
    (terms_there a cs h.1)

pub replaced_makes : {X : Type 0} (items : X → List Condition) (a b : Arena) (r : Result X TermFault) (wanted : List logic.Condition)
    → IfOk r (λ cs. conditions_of b (items cs) ≡ wanted) → IfOk r (λ cs. AreIn b (items cs)) → Extends a b → AddsParts a b (all_terms_in wanted)
    → (r ≡ Err Size → LacksPart b (all_terms_in wanted)) → Makes r a b (all_terms_in wanted)
replaced_makes items a b (Ok cs) wanted is there grows only size = record {
  grows = grows;
  there = subst (λ (l : List logic.Condition). HasTerms b (all_terms_in l)) is (terms_there b _ there);
  only = only;
  size = size;
}
replaced_makes items a b (Err e) wanted is there grows only size = record { grows = grows; there = tt; only = only; size = size }
