-- Places in an arena that grows, and one step further.
use Rattle.std.proofs.Common.{◌≡◌, List, [], ◌∷◌, ◌++◌, option_map, Result, Ok, IfOk, refl, sym, ap, ◌∙◌, subst}
use Rattle.std.proofs.lemmas.List.{map_push}
use Rattle.spv_logic.specs.declared.conditions.TermId.{TermId}
use Rattle.spv_logic.specs.Terms.{Term}
use Rattle.spv_term.specs.Arena.{Arena, Extends, tree}
use Rattle.spv_term.specs.substitution.Images.{head_at}
use Rattle.spv_program.specs.Places as place
use Rattle.spv_program.specs.Places.{ToElement, ToField, further, part, part_behind, base, present}
use Rattle.spv_assign.specs.declared.structures.elements.Step.{Step}
use Rattle.spv_assign.specs.declared.structures.places.Target.{Target}
use Rattle.spv_term.specs.declared.nodes.TermFault.{TermFault}
use Rattle.spv_assign.specs.limited_steps.Makes.{IsTerm}
use Rattle.spv_assign.proofs.limited_steps.Renamings.{ok_at}
use Rattle.spv_assign.specs.structures.Steps.{step_in, steps_in, IsStep, AreSteps}
use Rattle.spv_assign.specs.structures.Targets.{IsTarget, target_in}
use Rattle.spv_flow_parts.specs.declared.calls.places.Way.{Way}
use Rattle.spv_flow_parts.specs.calls.Arguments.{IsWay}
use Rattle.spv_flow_parts.proofs.Steps.{IsTerm-Extends}
use Rattle.spv_flow_parts.proofs.calls.Passing.{IsTarget-Extends, target_in-Extends}

-- ---- arenas that grow

module _ {a b : Arena} (more : Extends a b) where
  pub IsWay-Extends : (w : Way) → IsWay a w → IsWay b w
  IsWay-Extends w h = record {
    target = IsTarget-Extends more w.target h.target;
    term = subst (λ d. IsTerm b w.term (present d)) (sym (target_in-Extends more w.target h.target)) (IsTerm-Extends w.term (present (target_in a w.target)) more h.term);
  }

-- ---- one step further

steps_both : (a : Arena) (path : List Step) (s : Step) → AreSteps a path → IsStep a s → AreSteps a (path ++ s ∷ [])
steps_both a [] s h k = (k, tt)
steps_both a (t ∷ path) s h k = (h.0, steps_both a path s h.1 k)

-- a place with a step more
abbrev with_path : Target → List Step → Target
with_path d path = record { root = d.root; pointer = d.pointer; path = path }

module _ {a b : Arena} (more : Extends a b) (d : Target) (s : Step) (h : IsTarget a d) (k : IsStep a s) (path : List Step) (is : path ≡ d.path ++ s ∷ []) where
  path_there : AreSteps a path
  path_there = subst (AreSteps a) (sym is) (steps_both a d.path s h.path k)

  there : IsTarget a (with_path d path)
  there = record { root = h.root; variable = h.variable; pointer = h.pointer; path = path_there }

  pub target_further : target_in b (with_path d path) ≡ further (step_in a s) (target_in a d)
  target_further =
      let steps = ap (steps_in a) is ∙ map_push (step_in a) d.path s in
      target_in-Extends more (with_path d path) there ∙ (λ i. record { root = head_at a d.root; pointer = option_map (tree a) d.pointer; path = steps i })

  IsTarget-further : IsTarget b (with_path d path)
  IsTarget-further = IsTarget-Extends more (with_path d path) there

-- what stands a step further is a part of what stood there
pub present_further : (d : place.Target) (s : place.Step) → present (further s d) ≡ part (present d) s
present_further d s = fold_on (base d.root d.pointer) d.path
  where
    fold_on : (t : Term) (path : List place.Step) → part_behind t (path ++ s ∷ []) ≡ part (part_behind t path) s
    fold_on t [] = refl
    fold_on t (u ∷ path) = fold_on (part t u) path

module _ {a b : Arena} (more : Extends a b) (w : Way) (s : Step) (h : IsWay a w) (k : IsStep a s) (path : List Step) (is : path ≡ w.target.path ++ s ∷ []) where
  stands_there : present (target_in b (with_path w.target path)) ≡ part (tree a w.term) (step_in a s)
  stands_there =
      ap present (target_further more w.target s h.target k path is)
      ∙ (present_further (target_in a w.target) (step_in a s) ∙ ap (λ (x : Term). part x (step_in a s)) (sym h.term.is_tree))

  pub way_further : (t : TermId) (r : Result TermId TermFault) → r ≡ Ok t → IfOk r (λ u. IsTerm b u (part (tree a w.term) (step_in a s))) → IsWay b (record { target = with_path w.target path; term = t })
  way_further t r told there =
      let made = ok_at (λ (u : TermId). IsTerm b u (part (tree a w.term) (step_in a s))) r t told there in
      record { target = IsTarget-further more w.target s h.target k path is; term = record { there = made.there; is_tree = made.is_tree ∙ sym stands_there } }
