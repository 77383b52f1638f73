-- Places in the cells of classes, and in variables.
use Rattle.std.proofs.Common.{◌≡◌, ◌<◌, true, List, [], length, Some, None, Result, Ok, Err, IsErrAnd, IsSome, option_map, sym, ap, ◌∙◌, subst, arith}
use Rattle.std.proofs.lemmas.List.{length-map}
use Rattle.spv_logic.specs.declared.conditions.TermId.{TermId}
use Rattle.spv_logic.specs.declared.operators.Head.TheVariants as head
use Rattle.spv_logic.specs.Terms.{Term, no_terms}
use Rattle.spv_logic.specs.Sorts.{term_sort}
use Rattle.spv_logic.specs.Substitution.{is_variable}
use Rattle.spv_term.specs.declared.nodes.TermFault.{TermFault}
use Rattle.spv_term.specs.Arena.{Arena, IsArena, tree}
use Rattle.spv_term.proofs.ArenaLemmas.{tree-Extends, length-Extends}
use Rattle.spv_term.specs.substitution.Images.{head_at}
use Rattle.spv_term.proofs.substitution.ImageLemmas.{variable_alone}
use Rattle.spv_term.specs.substitution.Parts.{is_part}
use Rattle.spv_program.specs.Terms.{alone, binary, ternary}
use Rattle.spv_program.specs.Places.{part_behind, changed_part, base, present, in_root, whole_with}
use Rattle.spv_assign.specs.declared.structures.elements.Step.{Step}
use Rattle.spv_assign.specs.declared.structures.places.Target.{Target}
use Rattle.spv_assign.specs.structures.Making.{GivesTerm}
use Rattle.spv_assign.specs.structures.Steps.{step_in, steps_in, AreSteps}
use Rattle.spv_assign.specs.structures.Targets.{target_in, read_of_cell, changed_cell}
use Rattle.spv_assign.proofs.creation_trace.Covering.{part_of_part}
use Rattle.spv_assign.proofs.structures.Parts.{part_sorted, sorted_stays, Toward, toward_begins, toward_more, part_stopped, behind}
use Rattle.spv_assign.proofs.structures.Paths.{structure_in, whole_in, third_part, steps_stay, steps_there}

-- ---- in the cell of a class

module _ (old : Arena) (class q : TermId) (path : List Step) (steps : AreSteps old path) where
  abbrev the_cell : Term
  the_cell = binary head.Cell (tree old class) (tree old q)

  abbrev read_goal : Term
  read_goal = read_of_cell (tree old class) (tree old q) (steps_in old path)

  cell_in : is_part the_cell read_goal ≡ true
  cell_in = structure_in the_cell (steps_in old path)

  pub read_cell_sorts : IsSome (term_sort old.shapes old.decls read_goal) → IsSome (term_sort old.shapes old.decls the_cell)
  read_cell_sorts h = part_sorted old.shapes old.decls the_cell read_goal cell_in h

  pub read_cell_stopped : (b : Arena) (r : Result TermId TermFault) (e : TermFault) → IsErrAnd r (λ f. f ≡ e) → GivesTerm (Err e) the_cell old b → GivesTerm r read_goal old b
  read_cell_stopped b r e told m = part_stopped old old b read_goal the_cell cell_in (toward_begins old read_goal) r e told m

  module _ (b : Arena) (content : TermId) (made : GivesTerm (Ok content) the_cell old b) where
    read_is : part_behind (tree b content) (steps_in b path) ≡ read_goal
    read_is = let is = made.term.is_tree in let stay = steps_stay made.grows path steps in λ i. part_behind (is i) (stay i)

    pub content_steps : AreSteps b path
    content_steps = steps_there made.grows path steps

    pub read_behind_sorts : IsSome (term_sort old.shapes old.decls read_goal) → IsSome (term_sort b.shapes b.decls (part_behind (tree b content) (steps_in b path)))
    read_behind_sorts h = subst (λ x. IsSome (term_sort b.shapes b.decls x)) (sym read_is) (sorted_stays made.grows read_goal h)

    pub read_cell_done : (c : Arena) (r : Result TermId TermFault) → GivesTerm r (part_behind (tree b content) (steps_in b path)) b c → GivesTerm r read_goal old c
    read_cell_done c r m =
        behind old b c read_goal (part_behind (tree b content) (steps_in b path)) read_is (toward_more old old b read_goal the_cell cell_in (toward_begins old read_goal) (Ok content) made) r m

  module _ (v : TermId) (some : 0 < length path) (hc : class.0 < length old.nodes) (hq : q.0 < length old.nodes) (hv : v.0 < length old.nodes) where
    abbrev changed : Term
    changed = changed_part the_cell (steps_in old path) (tree old v)

    abbrev write_goal : Term
    write_goal = changed_cell (tree old class) (tree old q) (steps_in old path) (tree old v)

    changed_in : is_part changed write_goal ≡ true
    changed_in = third_part head.SetCell (tree old class) (tree old q) changed no_terms

    cell_in_changed : is_part the_cell write_goal ≡ true
    cell_in_changed = part_of_part the_cell changed write_goal (whole_in the_cell (steps_in old path) (tree old v) (subst (λ n. 0 < n) (sym (length-map path (step_in old))) some)) changed_in

    pub write_cell_sorts : IsSome (term_sort old.shapes old.decls write_goal) → IsSome (term_sort old.shapes old.decls the_cell)
    write_cell_sorts h = part_sorted old.shapes old.decls the_cell write_goal cell_in_changed h

    pub write_cell_stopped : (b : Arena) (r : Result TermId TermFault) (e : TermFault) → IsErrAnd r (λ f. f ≡ e) → GivesTerm (Err e) the_cell old b → GivesTerm r write_goal old b
    write_cell_stopped b r e told m = part_stopped old old b write_goal the_cell cell_in_changed (toward_begins old write_goal) r e told m

    module _ (b : Arena) (content : TermId) (made : GivesTerm (Ok content) the_cell old b) where
      toward_cell : Toward old b write_goal
      toward_cell = toward_more old old b write_goal the_cell cell_in_changed (toward_begins old write_goal) (Ok content) made

      changed_is : changed_part (tree b content) (steps_in b path) (tree b v) ≡ changed
      changed_is = let is = made.term.is_tree in let stay = steps_stay made.grows path steps in let same = tree-Extends made.grows v hv in λ i. changed_part (is i) (stay i) (same i)

      pub value_there : v.0 < length b.nodes
      value_there = omega (arith, length-Extends made.grows, hv)

      pub changed_sorts : IsSome (term_sort old.shapes old.decls write_goal) → IsSome (term_sort b.shapes b.decls (changed_part (tree b content) (steps_in b path) (tree b v)))
      changed_sorts h = subst (λ x. IsSome (term_sort b.shapes b.decls x)) (sym changed_is) (sorted_stays made.grows changed (part_sorted old.shapes old.decls changed write_goal changed_in h))

      module _ (c : Arena) where
        pub changed_stopped : (r : Result TermId TermFault) (e : TermFault) → IsErrAnd r (λ f. f ≡ e) → GivesTerm (Err e) (changed_part (tree b content) (steps_in b path) (tree b v)) b c → GivesTerm r write_goal old c
        changed_stopped r e told m = part_stopped old b c write_goal changed changed_in toward_cell r e told (subst (λ x. GivesTerm (Err e) x b c) changed_is m)

        module _ (u : TermId) (m : GivesTerm (Ok u) (changed_part (tree b content) (steps_in b path) (tree b v)) b c) where
          set_is : ternary head.SetCell (tree c class) (tree c q) (tree c u) ≡ write_goal
          set_is =
              let first = tree-Extends m.grows class class_there ∙ tree-Extends made.grows class hc in
              let second = tree-Extends m.grows q pointer_there ∙ tree-Extends made.grows q hq in
              let third = m.term.is_tree ∙ changed_is in
              λ i. ternary head.SetCell (first i) (second i) (third i)
            where
              class_there : class.0 < length b.nodes
              class_there = omega (arith, length-Extends made.grows, hc)

              pointer_there : q.0 < length b.nodes
              pointer_there = omega (arith, length-Extends made.grows, hq)

          toward_changed : Toward old c write_goal
          toward_changed = toward_more old b c write_goal changed changed_in toward_cell (Ok u) (subst (λ x. GivesTerm (Ok u) x b c) changed_is m)

          pub class_stays : class.0 < length c.nodes
          class_stays = omega (arith, length-Extends made.grows, length-Extends m.grows, hc)

          pub pointer_stays : q.0 < length c.nodes
          pointer_stays = omega (arith, length-Extends made.grows, length-Extends m.grows, hq)

          pub set_sorts : IsSome (term_sort old.shapes old.decls write_goal) → IsSome (term_sort c.shapes c.decls (ternary head.SetCell (tree c class) (tree c q) (tree c u)))
          set_sorts h = subst (λ x. IsSome (term_sort c.shapes c.decls x)) (sym set_is) (sorted_stays toward_changed.grows write_goal h)

          pub set_done : (d : Arena) (r : Result TermId TermFault) → GivesTerm r (ternary head.SetCell (tree c class) (tree c q) (tree c u)) c d → GivesTerm r write_goal old d
          set_done d r n = behind old c d write_goal (ternary head.SetCell (tree c class) (tree c q) (tree c u)) set_is toward_changed r n

-- where there are no steps
pub set_whole : (old : Arena) (class q v : TermId) (path : List Step) → path ≡ [] → ternary head.SetCell (tree old class) (tree old q) (tree old v) ≡ changed_cell (tree old class) (tree old q) (steps_in old path) (tree old v)
set_whole old class q v path none = ap (λ xs. changed_cell (tree old class) (tree old q) (steps_in old xs) (tree old v)) (sym none)

-- ---- at the place of a designator

module _ (a : Arena) (ok : IsArena a) (d : Target) (there : d.root.0 < length a.nodes) (variable : is_variable (head_at a d.root) ≡ true) (path : List Step) (is : path ≡ d.path) where
  root_is : alone (head_at a d.root) ≡ tree a d.root
  root_is = sym (variable_alone a ok d.root there variable)

  pub present_of_variable : d.pointer ≡ None → part_behind (tree a d.root) (steps_in a path) ≡ present (target_in a d)
  present_of_variable none = sym (λ i. part_behind (base_is i) (steps_in a (sym is i)))
    where
      base_is : base (head_at a d.root) (option_map (tree a) d.pointer) ≡ tree a d.root
      base_is = ap (λ o. base (head_at a d.root) (option_map (tree a) o)) none ∙ root_is

  pub present_of_cell : (q : TermId) → d.pointer ≡ Some q → read_of_cell (tree a d.root) (tree a q) (steps_in a path) ≡ present (target_in a d)
  present_of_cell q some = sym (λ i. part_behind (base_is i) (steps_in a (sym is i)))
    where
      base_is : base (head_at a d.root) (option_map (tree a) d.pointer) ≡ binary head.Cell (tree a d.root) (tree a q)
      base_is = ap (λ o. base (head_at a d.root) (option_map (tree a) o)) some ∙ ap (λ r. binary head.Cell r (tree a q)) root_is

  pub whole_of_variable : (v : TermId) → d.pointer ≡ None → changed_part (tree a d.root) (steps_in a path) (tree a v) ≡ whole_with (target_in a d) (tree a v)
  whole_of_variable v none = sym (unfolded ∙ (λ i. changed_part (root_is i) (steps_in a (sym is i)) (tree a v)))
    where
      unfolded : whole_with (target_in a d) (tree a v) ≡ changed_part (alone (head_at a d.root)) (steps_in a d.path) (tree a v)
      unfolded = ap (λ o. in_root (head_at a d.root) (option_map (tree a) o) (changed_part (base (head_at a d.root) (option_map (tree a) o)) (steps_in a d.path) (tree a v))) none

  pub whole_of_cell : (v q : TermId) → d.pointer ≡ Some q → changed_cell (tree a d.root) (tree a q) (steps_in a path) (tree a v) ≡ whole_with (target_in a d) (tree a v)
  whole_of_cell v q some = sym (unfolded ∙ (λ i. changed_cell (root_is i) (tree a q) (steps_in a (sym is i)) (tree a v)))
    where
      unfolded : whole_with (target_in a d) (tree a v) ≡ changed_cell (alone (head_at a d.root)) (tree a q) (steps_in a d.path) (tree a v)
      unfolded = ap (λ o. in_root (head_at a d.root) (option_map (tree a) o) (changed_part (base (head_at a d.root) (option_map (tree a) o)) (steps_in a d.path) (tree a v))) some

-- ---- the same term under another name

pub sorted_as : (a : Arena) (x y : Term) → x ≡ y → IsSome (term_sort a.shapes a.decls y) → IsSome (term_sort a.shapes a.decls x)
sorted_as a x y same h = subst (λ z. IsSome (term_sort a.shapes a.decls z)) (sym same) h

pub makes_as : (a b : Arena) (r : Result TermId TermFault) (x y : Term) → x ≡ y → GivesTerm r x a b → GivesTerm r y a b
makes_as a b r x y same m = subst (λ z. GivesTerm r z a b) same m
