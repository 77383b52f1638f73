-- A step to the cell that a pointer leads to.
use Rattle.std.proofs.Common.{◌≡◌, true, List, [], ◌∷◌, Result, Ok, Err, IfOk, IsSome, Some, refl, sym, ap, subst, ◌∙◌}
use Rattle.spv_logic.specs.declared.conditions.TermId.{TermId}
use Rattle.spv_logic.specs.declared.types.TypeId.{TypeId}
use Rattle.spv_logic.specs.declared.operators.Head.TheVariants as head
use Rattle.spv_logic.specs.Terms.{Term}
use Rattle.spv_logic.specs.Sorts.{term_sort}
use Rattle.spv_logic.specs.Substitution.{is_variable}
use Rattle.spv_term.specs.declared.nodes.TermFault.{TermFault}
use Rattle.spv_term.specs.Arena.{Arena, Extends, tree}
use Rattle.spv_term.specs.substitution.Images.{head_of, head_at}
use Rattle.spv_term.proofs.ArenaLemmas.{tree-Extends, Extends-trans}
use Rattle.spv_program.specs.Terms.{alone, binary}
use Rattle.spv_program.specs.Places.{present, cell_behind}
use Rattle.spv_assign.specs.declared.creation_trace.faults.GenFault.{GenFault}
use Rattle.spv_assign.specs.creation_trace.Events.{Stops, Walked}
use Rattle.spv_assign.specs.creation_trace.StatementEvents.{one}
use Rattle.spv_assign.specs.declared.structures.elements.Step.{Step}
use Rattle.spv_assign.specs.declared.structures.places.Target.{Target}
use Rattle.spv_assign.specs.limited_steps.Makes.{IsTerm, Makes}
use Rattle.spv_assign.specs.structures.Making.{GivesTerm}
use Rattle.spv_assign.specs.structures.Steps.{AreSteps, steps_in}
use Rattle.spv_assign.specs.structures.Targets.{target_in}
use Rattle.spv_assign.proofs.creation_trace.Covering.{AreCovered, covered_stops, covered_walked, covered_behind}
use Rattle.spv_assign.proofs.limited_steps.Limits.{first_covered}
use Rattle.spv_assign.proofs.limited_steps.Renamings.{ok_at}
use Rattle.spv_assign.proofs.structures.Parts.{sorted_stays}
use Rattle.spv_flow_parts.specs.declared.calls.places.Way.{Way}
use Rattle.spv_flow_parts.specs.calls.Arguments.{IsWay}
use Rattle.spv_flow_parts.proofs.Steps.{IsTerm-Extends}

pub gives_makes : (r : Result TermId TermFault) (x : Term) (a b : Arena) → GivesTerm r x a b → Makes r a b (x ∷ [])
gives_makes (Ok t) x a b h = record { grows = h.grows; there = (record { id = t; there = h.term.there; is_tree = h.term.is_tree }, tt); only = h.only; size = h.size }
gives_makes (Err e) x a b h = record { grows = h.grows; there = tt; only = h.only; size = h.size }

module _ (a : Arena) (w : Way) (t : TypeId) where
  abbrev class_term : Term
  class_term = alone (head.ClassVar t 0)

  abbrev cell_term : Term
  cell_term = binary head.Cell class_term (present (target_in a w.target))

  class_inside : AreCovered (class_term ∷ []) (cell_term ∷ [])
  class_inside = first_covered head.Cell class_term (present (target_in a w.target))

  pub class_stops : (b : Arena) (e : GenFault) → Stops e (one class_term) a b → Stops e (one cell_term) a b
  class_stops b e stops = covered_stops (one class_term) refl (cell_term ∷ []) class_inside e a b stops

  module _ (b : Arena) (h : IsWay a w) (grows : Extends a b) (class : TermId) (is : IsTerm b class class_term) where
    made_is : binary head.Cell (tree b class) (tree b w.term) ≡ cell_term
    made_is = let first = is.is_tree in let second = tree-Extends grows w.term h.term.there ∙ h.term.is_tree in λ i. binary head.Cell (first i) (second i)

    pub cell_sorts : IsSome (term_sort a.shapes a.decls cell_term) → IsSome (term_sort b.shapes b.decls (binary head.Cell (tree b class) (tree b w.term)))
    cell_sorts sorts = subst (λ x. IsSome (term_sort b.shapes b.decls x)) (sym made_is) (sorted_stays grows cell_term sorts)

    module _ (walked : Walked (one class_term) a b) (c : Arena) where
      pub cell_stops : (e : GenFault) → Stops e (one (binary head.Cell (tree b class) (tree b w.term))) b c → Stops e (one cell_term) a c
      cell_stops e stops = covered_behind (one class_term) refl (cell_term ∷ []) class_inside e a b c walked (subst (λ (x : Term). Stops e (one x) b c) made_is stops)

      pub cell_walked : Walked (one (binary head.Cell (tree b class) (tree b w.term))) b c → Walked (one cell_term) a c
      cell_walked rest = covered_walked (one class_term) refl (cell_term ∷ []) class_inside a b c walked (subst (λ (x : Term). Walked (one x) b c) made_is rest)

    module _ (c : Arena) (more : Extends b c) (path : List Step) (none : path ≡ []) where
      abbrev there : Target
      there = record { root = class; pointer = Some w.term; path = path }

      class_stays : head_at c class ≡ head.ClassVar t 0
      class_stays = ap (λ (x : Term). head_of x) (tree-Extends more class is.there ∙ is.is_tree)

      pointer_is : tree c w.term ≡ present (target_in a w.target)
      pointer_is = (IsTerm-Extends w.term (present (target_in a w.target)) (Extends-trans grows more) h.term).is_tree

      pub cell_target : target_in c there ≡ cell_behind t (present (target_in a w.target))
      cell_target = let root = class_stays in let pointer = pointer_is in let steps = ap (steps_in c) none in λ i. record { root = root i; pointer = Some (pointer i); path = steps i }

      pub cell_way : (q : TermId) (r : Result TermId TermFault) → r ≡ Ok q → IfOk r (λ u. IsTerm c u (binary head.Cell (tree b class) (tree b w.term))) → IsWay c (record { target = there; term = q })
      cell_way q r told made =
          let at = ok_at (λ (u : TermId). IsTerm c u (binary head.Cell (tree b class) (tree b w.term))) r q told made in
          record {
            target = record {
              root = (IsTerm-Extends class class_term more is).there;
              variable = subst (λ k. is_variable k ≡ true) (sym class_stays) refl;
              pointer = (IsTerm-Extends w.term (present (target_in a w.target)) (Extends-trans grows more) h.term).there;
              path = subst (AreSteps c) (sym none) tt;
            };
            term = record { there = at.there; is_tree = at.is_tree ∙ (made_is ∙ sym (ap present cell_target)) };
          }
