-- Statements that the walk answers are well typed.
use Rattle.std.proofs.Common.{◌≡◌, ℕ, Bool, true, false, ◌||◌, not, List, [], ◌∷◌, ◌++◌, Option, Some, ℤ, refl, sym, ap, ◌∙◌, subst}
use Rattle.std.specs.Prelude.{Ok}
use Rattle.std.specs.List.{list_any}
use Rattle.std.specs.Ordering.{int_eq}
use Rattle.std.specs.Cmp.Derive.{both_true}
use Rattle.std.proofs.lemmas.List.{append-nil, append_assoc}
use Rattle.spv_logic.specs.declared.names.names.Symbol.{Symbol}
use Rattle.spv_logic.specs.declared.types.Sort.{Sort}
use Rattle.spv_logic.specs.declared.types.Sort.TheVariants as sort
use Rattle.spv_tree.specs.syntax.Statements as tree
use Rattle.spv_program.specs.Lists.{same_name, all_differ}
use Rattle.spv_program.specs.Expressions.{Expression, Call}
use Rattle.spv_program.specs.Formulas.{Annotation}
use Rattle.spv_program.specs.FormulaTypes.{is_sort, annotation_ok}
use Rattle.spv_program.specs.Statements.{Counting, Statement, Arms, Empty, Sequence, If, Case, While, Repeat, For, Assert, no_arms, arm}
use Rattle.spv_program.specs.Programs.{Routine, Program}
use Rattle.spv_program.specs.Scopes.{body_scope}
use Rattle.spv_program.specs.Uses.{Root, Use, name_root, expression_uses, annotation_uses, statement_uses, arms_uses, expression_calls, statement_calls, arms_calls}
use Rattle.spv_program.specs.Typing.{labels_in, arms_ok}
use Rattle.spv_typing.specs.Outcomes.{after, if_there}
use Rattle.spv_typing.specs.Known.{Scope}
use Rattle.spv_typing.specs.FormulaWalk.{annotation}
use Rattle.spv_typing.specs.ExpressionWalk.{expression_of}
use Rattle.spv_typing.specs.StatementWalk.{counting_kept, test_of, counting, inside_for, ArmsSoFar, one_more, new_labels, dropped, statement_walk, otherwise_walk, block_walk, more_statements_walk, arm_walk, more_arms_walk, loop_walk}
use Rattle.spv_type_soundness.proofs.well_typed.Outcomes.{fine, same_value, went}
use Rattle.spv_type_soundness.specs.well_typed_programs.Statements.{Stands, StatementsAreWellTyped}
use Rattle.spv_type_soundness.proofs.well_typed_programs.Differ.{or_left, or_right, name-refl, same_names}
use Rattle.spv_type_soundness.proofs.well_typed_programs.Labels.{MoreLabels, labels_more, dropped_more}
use Rattle.spv_type_soundness.proofs.well_typed_programs.Keeping.{leaves_none, leaves_append, leaves_use, leaves_silent, annotation_silent, not_changed}
use Rattle.spv_type_soundness.proofs.well_typed_programs.StatementParts.{at, walk_own, own, Agrees, test, AllLeft, Fine, Tested, Heads, annotation_fine, annotations_fine, test_fine, choice_fine, assigned_fine, created_fine, call_fine, counting_fine}

module _ (inside noted : Scope) (q p : Program) (here : Option Routine) (stands : Stands inside noted q p here) where
  abbrev Good : List Symbol → Statement → Type 0
  Good counted s = Fine inside noted q p here stands counted s

  abbrev Left : List Symbol → List Use → List Call → Type 0
  Left counted us cs = AllLeft inside noted q p here stands counted us cs

  abbrev Agreed : List Symbol → Type 0
  Agreed counted = Agrees inside noted q p here stands counted

  abbrev GoodTest : List Symbol → Expression → Sort → Type 0
  GoodTest counted e s = Tested inside noted q p here stands counted e s

  abbrev mine : Symbol → Bool
  mine = own inside noted q p here stands

  abbrev on : Symbol → Root → Bool
  on v = test inside noted q p here stands v

  left_append : (counted : List Symbol) (us ws : List Use) (cs ds : List Call) → Left counted us cs → Left counted ws ds
      → Left counted (us ++ ws) (cs ++ ds)
  left_append counted us ws cs ds g h = record { each = λ v k. leaves_append p (on v) us ws cs ds (g.each v k) (h.each v k) }

  left_none : (counted : List Symbol) → Left counted [] []
  left_none counted = record { each = λ v k. leaves_none p (on v) }

  left_annotation : (counted : List Symbol) (f : Option Annotation) → Left counted (annotation_uses mine f) []
  left_annotation counted f = record { each = λ v k. leaves_silent p (on v) (annotation_uses mine f) (annotation_silent mine f) }

  fine_empty : (counted : List Symbol) → Good counted Empty
  fine_empty counted = record { ok = refl; left = left_none counted }

  fine_sequence : (counted : List Symbol) (a b : Statement) → Good counted a → Good counted b → Good counted (Sequence a b)
  fine_sequence counted a b g h = record {
    ok = both_true g.ok h.ok;
    left = left_append counted (statement_uses mine a) (statement_uses mine b) (statement_calls a) (statement_calls b) g.left h.left;
  }

  fine_if : (counted : List Symbol) (line : ℕ) (e : Expression) (a b : Statement) → GoodTest counted e sort.Bool → Good counted a
      → Good counted b → Good counted (If line e a b)
  fine_if counted line e a b t g h =
      let both = fine_sequence counted a b g h in
      record {
        ok = both_true (ap (is_sort sort.Bool) t.is) both.ok;
        left = left_append counted (expression_uses mine e) (statement_uses mine a ++ statement_uses mine b) (expression_calls e)
            (statement_calls a ++ statement_calls b) t.left both.left;
      }

  fine_while : (counted : List Symbol) (line : ℕ) (f : Option Annotation) (e : Expression) (s : Statement)
      → annotation_ok p (body_scope p here) f ≡ true → GoodTest counted e sort.Bool → Good counted s → Good counted (While line f e s)
  fine_while counted line f e s k t g = record {
    ok = both_true k (both_true (ap (is_sort sort.Bool) t.is) g.ok);
    left = left_append counted (annotation_uses mine f) (expression_uses mine e ++ statement_uses mine s) []
        (expression_calls e ++ statement_calls s) (left_annotation counted f)
        (left_append counted (expression_uses mine e) (statement_uses mine s) (expression_calls e) (statement_calls s) t.left g.left);
  }

  fine_repeat : (counted : List Symbol) (line : ℕ) (f : Option Annotation) (s : Statement) (e : Expression)
      → annotation_ok p (body_scope p here) f ≡ true → GoodTest counted e sort.Bool → Good counted s → Good counted (Repeat line f s e)
  fine_repeat counted line f s e k t g = record {
    ok = both_true k (both_true (ap (is_sort sort.Bool) t.is) g.ok);
    left = left_append counted (annotation_uses mine f) (statement_uses mine s ++ expression_uses mine e) []
        (statement_calls s ++ expression_calls e) (left_annotation counted f)
        (left_append counted (statement_uses mine s) (expression_uses mine e) (statement_calls s) (expression_calls e) g.left t.left);
  }

  fine_for : (counted : List Symbol) (line : ℕ) (f : Option Annotation) (count : Counting) (s : Statement)
      → annotation_ok p (body_scope p here) f ≡ true → Heads inside noted q p here stands counted count
      → Good (count.variable ∷ counted) s → Good counted (For line f count s)
  fine_for counted line f count s k head g =
      let v = count.variable in
      let inner = g.left.each v (or_left (same_name v v) _ (name-refl v)) in
      let counter : Use = record { root = name_root mine v; changes = true; line = line } in
      let body : Left counted (statement_uses mine s) (statement_calls s) =
      record { each = λ u h. g.left.each u (or_right (same_name u v) _ h) } in
      let ends = left_append counted (expression_uses mine count.first) (expression_uses mine count.last ++ statement_uses mine s)
      (expression_calls count.first) (expression_calls count.last ++ statement_calls s) head.first.left
      (left_append counted (expression_uses mine count.last) (statement_uses mine s) (expression_calls count.last) (statement_calls s)
      head.last.left body) in
      record {
        ok = both_true k (both_true
            (both_true head.may (both_true head.variable
            (both_true (ap (is_sort sort.Int) head.first.is)
            (both_true (ap (is_sort sort.Int) head.last.is) (ap not (not_changed p here (on v) s inner))))))
            g.ok);
        left = left_append counted (annotation_uses mine f)
            (counter ∷ (expression_uses mine count.first ++ (expression_uses mine count.last ++ statement_uses mine s))) []
            (expression_calls count.first ++ (expression_calls count.last ++ statement_calls s)) (left_annotation counted f)
            (record {
              each = λ u h. leaves_use p (on u) counter
                  (expression_uses mine count.first ++ (expression_uses mine count.last ++ statement_uses mine s))
                  (expression_calls count.first ++ (expression_calls count.last ++ statement_calls s)) (head.other u h) (ends.each u h);
            });
      }

  agrees_inside : (counted : List Symbol) (v : Symbol) → Agreed counted → walk_own inside noted q p here stands v ≡ mine v
      → Agreed (v ∷ counted)
  agrees_inside counted v a e = record { each = λ u h. by_name u (same_name u v) refl h }
    where
      by_name : (u : Symbol) (b : Bool) → same_name u v ≡ b → (b || list_any (same_name u) counted) ≡ true
          → walk_own inside noted q p here stands u ≡ mine u
      by_name u true is h = subst (λ w. walk_own inside noted q p here stands w ≡ mine w) (sym (same_names u v is)) e
      by_name u false is h = a.each u h

  -- ---- arms

  -- arms that stand in front of others
  record FrontArms (counted : List Symbol) (labels : List ℤ) (front : Arms → Arms) : Type 0 where
    labelled : (others : Arms) → labels_in (front others) ≡ labels ++ labels_in others
    ok : (others : Arms) → arms_ok p here others ≡ true → arms_ok p here (front others) ≡ true
    left : (others : Arms) → Left counted (arms_uses mine others) (arms_calls others)
        → Left counted (arms_uses mine (front others)) (arms_calls (front others))
    differ : all_differ int_eq labels ≡ true

  abbrev GoodArms : List Symbol → ArmsSoFar → Type 0
  GoodArms counted so_far = FrontArms counted so_far.labels so_far.arms

  one_arm : (counted : List Symbol) (so_far : ArmsSoFar) (all : List ℤ) (s : Statement) → GoodArms counted so_far
      → MoreLabels so_far.labels all → Good counted s
      → GoodArms counted (one_more so_far all (dropped so_far.labels all) s)
  one_arm counted so_far all s g m h =
      let new = dropped so_far.labels all in
      let new_is : new ≡ m.more = ap (dropped so_far.labels) m.is ∙ dropped_more so_far.labels m.more in
      record {
        labelled = λ others. g.labelled (arm new s others)
            ∙ (ap (λ ls. so_far.labels ++ (ls ++ labels_in others)) new_is
            ∙ (sym (append_assoc so_far.labels m.more (labels_in others)) ∙ ap (λ ls. ls ++ labels_in others) (sym m.is)));
        ok = λ others k. g.ok (arm new s others) (both_true h.ok k);
        left = λ others k. g.left (arm new s others)
            (left_append counted (statement_uses mine s) (arms_uses mine others) (statement_calls s) (arms_calls others) h.left k);
        differ = m.differ;
      }

  fine_case : (counted : List Symbol) (line : ℕ) (e : Expression) (all : ArmsSoFar) → GoodTest counted e sort.Int → GoodArms counted all
      → Good counted (Case line e (all.arms no_arms))
  fine_case counted line e all t g = record {
    ok = both_true (ap (is_sort sort.Int) t.is) (both_true
        (ap (all_differ int_eq) (g.labelled no_arms ∙ append-nil all.labels) ∙ g.differ) (g.ok no_arms refl));
    left = left_append counted (expression_uses mine e) (arms_uses mine (all.arms no_arms)) (expression_calls e)
        (arms_calls (all.arms no_arms)) t.left (g.left no_arms (left_none counted));
  }

  no_arms_yet : (counted : List Symbol) → GoodArms counted (record { labels = []; arms = λ others. others })
  no_arms_yet counted = record { labelled = λ others. refl; ok = λ others k. k; left = λ others k. k; differ = refl }

  -- ---- the walk

  mutual
    statement_fine : (s : tree.Statement) (counted : List Symbol) → Agreed counted → (z : Statement)
        → statement_walk (at inside noted q p here stands counted) s ≡ Ok z → Good counted z
    statement_fine (tree.empty line) counted a z e = subst (Good counted) (same_value e) (fine_empty counted)
    statement_fine (tree.assignment line d f) counted a z e = assigned_fine inside noted q p here stands counted a line d f z e
    statement_fine (tree.call line x given) counted a z e = call_fine inside noted q p here stands counted a line x given z e
    statement_fine (tree.creation line d) counted a z e = created_fine inside noted q p here stands counted a line d z e
    statement_fine (tree.compound line b) counted a z e = block_fine b counted a z e
    statement_fine (tree.conditional line f s other) counted a z e =
        let here_at = at inside noted q p here stands counted in
        let one = went (test_of here_at line f)
        (λ x. after (statement_walk here_at s) (λ t. after (otherwise_walk here_at other) (λ u. fine (If line x t u)))) z e in
        let two = went (statement_walk here_at s) (λ t. after (otherwise_walk here_at other) (λ u. fine (If line one.value t u))) z
        one.rest in
        let three = went (otherwise_walk here_at other) (λ u. fine (If line one.value two.value u)) z two.rest in
        subst (Good counted) (same_value three.rest)
        (fine_if counted line one.value two.value three.value (test_fine inside noted q p here stands counted a line f one.value one.first)
        (statement_fine s counted a two.value two.first) (otherwise_fine other counted a three.value three.first))
    statement_fine (tree.selection line f first more) counted a z e =
        let here_at = at inside noted q p here stands counted in
        let start : ArmsSoFar = record { labels = []; arms = λ others. others } in
        let arms = λ (x : Expression).
        after (arm_walk here_at start first)
        (λ so_far. after (more_arms_walk here_at so_far more) (λ all. fine (Case line x (all.arms no_arms)))) in
        let one = went (expression_of inside sort.Int f) (λ n. after (counting_kept here_at line (If line n Empty Empty) n) arms) z e in
        let two = went (counting_kept here_at line (If line one.value Empty Empty) one.value) arms z one.rest in
        let three = went (arm_walk here_at start first)
        (λ so_far. after (more_arms_walk here_at so_far more) (λ all. fine (Case line two.value (all.arms no_arms)))) z two.rest in
        let four = went (more_arms_walk here_at three.value more) (λ all. fine (Case line two.value (all.arms no_arms))) z three.rest in
        subst (Good counted) (same_value four.rest)
        (fine_case counted line two.value four.value
        (choice_fine inside noted q p here stands counted a line f one.value two.value one.first two.first)
        (more_arms_fine more counted a three.value four.value
        (arm_fine first counted a start three.value (no_arms_yet counted) three.first) four.first))
    statement_fine (tree.repetition line invariant l) counted a z e =
        let one = went (if_there (annotation noted) invariant) (λ f. loop_walk (at inside noted q p here stands counted) line f l) z e in
        loop_fine l counted a line one.value z (annotations_fine inside noted q p here stands invariant one.value one.first) one.rest
    statement_fine (tree.assertion line f) counted a z e =
        let one = went (annotation noted f) (λ b. fine (Assert b)) z e in
        subst (Good counted) (same_value one.rest)
        (record {
          ok = annotation_fine inside noted q p here stands f one.value one.first;
          left =
              left_annotation counted (Some one.value);
        })

    otherwise_fine : (other : tree.Otherwise) (counted : List Symbol) → Agreed counted → (z : Statement)
        → otherwise_walk (at inside noted q p here stands counted) other ≡ Ok z → Good counted z
    otherwise_fine tree.nothing_otherwise counted a z e = subst (Good counted) (same_value e) (fine_empty counted)
    otherwise_fine (tree.otherwise s) counted a z e = statement_fine s counted a z e

    pub block_fine : (b : tree.Block) (counted : List Symbol) → Agreed counted → (z : Statement)
        → block_walk (at inside noted q p here stands counted) b ≡ Ok z → Good counted z
    block_fine (tree.block line first more) counted a z e =
        let here_at = at inside noted q p here stands counted in
        let one = went (statement_walk here_at first) (λ x. after (more_statements_walk here_at more) (λ y. fine (Sequence x y))) z e in
        let two = went (more_statements_walk here_at more) (λ y. fine (Sequence one.value y)) z one.rest in
        subst (Good counted) (same_value two.rest)
        (fine_sequence counted one.value two.value (statement_fine first counted a one.value one.first)
        (more_statements_fine more counted a two.value two.first))

    more_statements_fine : (more : tree.MoreStatements) (counted : List Symbol) → Agreed counted → (z : Statement)
        → more_statements_walk (at inside noted q p here stands counted) more ≡ Ok z → Good counted z
    more_statements_fine tree.no_more_statements counted a z e = subst (Good counted) (same_value e) (fine_empty counted)
    more_statements_fine (tree.more_statements s more) counted a z e =
        let here_at = at inside noted q p here stands counted in
        let one = went (statement_walk here_at s) (λ x. after (more_statements_walk here_at more) (λ y. fine (Sequence x y))) z e in
        let two = went (more_statements_walk here_at more) (λ y. fine (Sequence one.value y)) z one.rest in
        subst (Good counted) (same_value two.rest)
        (fine_sequence counted one.value two.value (statement_fine s counted a one.value one.first)
        (more_statements_fine more counted a two.value two.first))

    arm_fine : (one : tree.Arm) (counted : List Symbol) → Agreed counted → (so_far next : ArmsSoFar) → GoodArms counted so_far
        → arm_walk (at inside noted q p here stands counted) so_far one ≡ Ok next → GoodArms counted next
    arm_fine (tree.no_arm line) counted a so_far next g e = subst (GoodArms counted) (same_value e) g
    arm_fine (tree.arm line cs s) counted a so_far next g e =
        let here_at = at inside noted q p here stands counted in
        let one = went (new_labels inside so_far.labels cs)
        (λ all. after (statement_walk here_at s) (λ x. fine (one_more so_far all (dropped so_far.labels all) x))) next e in
        let two = went (statement_walk here_at s) (λ x. fine (one_more so_far one.value (dropped so_far.labels one.value) x)) next
        one.rest in
        subst (GoodArms counted) (same_value two.rest)
        (one_arm counted so_far one.value two.value g (labels_more inside so_far.labels one.value cs g.differ one.first)
        (statement_fine s counted a two.value two.first))

    more_arms_fine : (more : tree.MoreArms) (counted : List Symbol) → Agreed counted → (so_far next : ArmsSoFar) → GoodArms counted so_far
        → more_arms_walk (at inside noted q p here stands counted) so_far more ≡ Ok next → GoodArms counted next
    more_arms_fine tree.no_more_arms counted a so_far next g e = subst (GoodArms counted) (same_value e) g
    more_arms_fine (tree.more_arms one more) counted a so_far next g e =
        let here_at = at inside noted q p here stands counted in
        let step = went (arm_walk here_at so_far one) (λ s. more_arms_walk here_at s more) next e in
        more_arms_fine more counted a step.value next (arm_fine one counted a so_far step.value g step.first) step.rest

    loop_fine : (l : tree.Loop) (counted : List Symbol) → Agreed counted → (line : ℕ) (f : Option Annotation) (z : Statement)
        → annotation_ok p (body_scope p here) f ≡ true → loop_walk (at inside noted q p here stands counted) line f l ≡ Ok z
        → Good counted z
    loop_fine (tree.while_loop on_line t s) counted a line f z k e =
        let here_at = at inside noted q p here stands counted in
        let one = went (test_of here_at line t) (λ x. after (statement_walk here_at s) (λ y. fine (While line f x y))) z e in
        let two = went (statement_walk here_at s) (λ y. fine (While line f one.value y)) z one.rest in
        subst (Good counted) (same_value two.rest)
        (fine_while counted line f one.value two.value k (test_fine inside noted q p here stands counted a line t one.value one.first)
        (statement_fine s counted a two.value two.first))
    loop_fine (tree.repeat_loop on_line first more t) counted a line f z k e =
        let here_at = at inside noted q p here stands counted in
        let last = λ (x y : Statement). after (test_of here_at line t) (λ u. fine (Repeat line f (Sequence x y) u)) in
        let one = went (statement_walk here_at first) (λ x. after (more_statements_walk here_at more) (last x)) z e in
        let two = went (more_statements_walk here_at more) (last one.value) z one.rest in
        let three = went (test_of here_at line t) (λ u. fine (Repeat line f (Sequence one.value two.value) u)) z two.rest in
        subst (Good counted) (same_value three.rest)
        (fine_repeat counted line f (Sequence one.value two.value) three.value k
        (test_fine inside noted q p here stands counted a line t three.value three.first)
        (fine_sequence counted one.value two.value (statement_fine first counted a one.value one.first)
        (more_statements_fine more counted a two.value two.first)))
    loop_fine (tree.for_loop on_line x from towards to s) counted a line f z k e =
        let here_at = at inside noted q p here stands counted in
        let one = went (counting here_at line x from towards to)
        (λ count. after (statement_walk (inside_for here_at count.variable) s) (λ y. fine (For line f count y))) z e in
        let two = went (statement_walk (inside_for here_at one.value.variable) s) (λ y. fine (For line f one.value y)) z one.rest in
        let head = counting_fine inside noted q p here stands counted a line x from towards to one.value one.first in
        subst (Good counted) (same_value two.rest)
        (fine_for counted line f one.value two.value k head
        (statement_fine s (one.value.variable ∷ counted) (agrees_inside counted one.value.variable a head.agree) two.value two.first))

pub statements_are_well_typed : StatementsAreWellTyped
statements_are_well_typed place q p here stands agree b s e =
    (block_fine place.inside place.noted q p here stands b place.counted (record { each = agree }) s e).ok
