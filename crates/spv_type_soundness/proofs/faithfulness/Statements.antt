-- Statements come from their trees.
use Rattle.std.proofs.Common.{◌≡◌, ℕ, true, refl, sym, ap, ◌∙◌, subst}
use Rattle.std.specs.Prelude.{List, [], ◌∷◌, ◌++◌, ◌&&◌, not, ℤ, length, Option, Some, None, Ok, Err, is_some}
use Rattle.std.specs.List.{list_any}
use Rattle.std.specs.Ordering.{int_eq}
use Rattle.std.proofs.lemmas.List.{append_assoc, append-nil}
use Rattle.spv_logic.specs.declared.names.names.Symbol.{Symbol}
use Rattle.spv_logic.specs.declared.types.TypeId.{TypeId}
use Rattle.spv_logic.specs.declared.types.Sort.TheVariants as sort
use Rattle.spv_logic.specs.Terms.{sort_eq}
use Rattle.spv_tree.specs.declared.syntax.lists.Several.{Several}
use Rattle.spv_tree.specs.declared.syntax.names.Name.{Name}
use Rattle.spv_tree.specs.declared.syntax.names.Constant.{Constant}
use Rattle.spv_tree.specs.declared.syntax.operators.Direction.{Direction as DirectionSign}
use Rattle.spv_tree.specs.declared.syntax.operators.Direction.TheVariants as direction_sign
use Rattle.spv_tree.specs.syntax.Formulas as formulas
use Rattle.spv_tree.specs.syntax.Statements as tree
use Rattle.spv_program.specs.declared.operators.Direction.{Direction}
use Rattle.spv_program.specs.Types.{form_at, sort_of, target_of}
use Rattle.spv_program.specs.Expressions.{Expression, Designator, Call, NilOf}
use Rattle.spv_program.specs.Formulas.{Annotation}
use Rattle.spv_program.specs.Statements.{Counting, Statement, Arms, Empty, Assign, Perform, New, Sequence, If, Case, While, Repeat, For, Assert, no_arms, arm}
use Rattle.spv_program.specs.Uses.{name_root}
use Rattle.spv_typing.specs.declared.faults.TypeFault.TheVariants.{LabelTwice}
use Rattle.spv_typing.specs.Outcomes.{Outcome, after, where_so, each, if_there, wrong}
use Rattle.spv_typing.specs.Known.{Function, Meaning, OfType, OfList, OfConstant, OfPlace, OfStart, OfSymbol, OfRoutine, Heading, meaning, function}
use Rattle.spv_typing.specs.TypeWalk.{constant}
use Rattle.spv_typing.specs.FormulaWalk.{annotation, arity}
use Rattle.spv_typing.specs.OperatorWalk.{Operand, Argument, settled, formula_line}
use Rattle.spv_typing.specs.ExpressionWalk.{Reached, designator_at, call_of, no_call, operand, expression_of, written}
use Rattle.spv_typing.specs.StatementWalk.{Setting, own_in, counted_as, unless_counted, first_counted, changes, counting_kept, with_place, assigned, on_target, designator_line, created, arguments_of, performed, no_procedure, called_function, called, test_of, new_label, may_count, counter_of, is_declared, counting, inside_for, ArmsSoFar, one_more, new_labels, dropped, statement_walk, otherwise_walk, block_walk, more_statements_walk, arm_walk, more_arms_walk, loop_walk}
use Rattle.spv_typing.specs.StatementWalk as walk
use Rattle.spv_type_soundness.proofs.well_typed.Outcomes.{fine, no_fault, same_value, went, behind_test}
use Rattle.spv_type_soundness.specs.faithfulness.Names.{View, names_place}
use Rattle.spv_type_soundness.specs.faithfulness.Formulas.{IfThere, not_there, there}
use Rattle.spv_type_soundness.specs.faithfulness.Expressions.{ExpressionFrom}
use Rattle.spv_type_soundness.specs.faithfulness.Statements.{direction_of, all_of, ConstantFrom, ConstantsFrom, no_constants, one_constant, StatementFrom, OtherwiseFrom, BlockFrom, StatementsFrom, ArmsFrom}
use Rattle.spv_type_soundness.specs.faithfulness.Statements as origin
use Rattle.spv_type_soundness.specs.faithfulness.Laws.{Sees, SeesPlaces, StatementsComeFromTheirTrees, BlocksComeFromTheirTrees}
use Rattle.spv_type_soundness.proofs.faithfulness.Operators.{settled_from}
use Rattle.spv_type_soundness.proofs.faithfulness.Annotations.{annotations_come}
use Rattle.spv_type_soundness.proofs.faithfulness.Expressions.{operand_comes, expression_comes, place_comes, procedure_comes}
use Rattle.spv_type_soundness.proofs.faithfulness.Constants.{constant_from}

-- what is kept, where no variable that counts is changed
kept : {A : Type 0} (line : ℕ) (o : Option Symbol) (x y : A) → unless_counted line o x ≡ Ok y → x ≡ y
kept line None x y e = same_value e
kept line (Some u) x y e = absurd (no_fault e)

same_direction : (d : DirectionSign) → walk.direction_of d ≡ direction_of d
same_direction direction_sign.Up = refl
same_direction direction_sign.Down = refl

-- the head of a FOR
abbrev head_with : Name → Direction → Expression → Expression → Counting
head_with x d first last = record { variable = x.symbol; direction = d; first = first; last = last }

abbrev head_of : DirectionSign → Name → Expression → Expression → Counting
head_of towards x first last = head_with x (walk.direction_of towards) first last

abbrev count_of : Name → DirectionSign → Expression → Expression → Counting
count_of x towards first last = head_with x (direction_of towards) first last

dropped_all : (before own : List ℤ) → dropped before (before ++ own) ≡ own
dropped_all [] own = refl
dropped_all (z ∷ before) own = dropped_all before own

module _ (v w : View) where
  abbrev SeesBoth : Setting → Type 0
  SeesBoth at = SeesPlaces at.inside v × Sees at.noted w

  -- ---- assignments, calls and NEW

  record Placed (line : ℕ) (r : Reached) (P : Designator → Type 0) : Type 0 where
    pub place : Designator
    pub is : designator_at r ≡ Some place
    pub so : P place

  placed : {A : Type 0} (line : ℕ) (r : Reached) (go : Designator → Outcome A) (z : A) → with_place line (designator_at r) go ≡ Ok z
      → Placed line r (λ d. go d ≡ Ok z)
  placed {A} line r go z e = by_place (designator_at r) refl e
    where
      by_place : (o : Option Designator) → designator_at r ≡ o → with_place line o go ≡ Ok z → Placed line r (λ d. go d ≡ Ok z)
      by_place None k q = absurd (no_fault q)
      by_place (Some d) k q = record { place = d; is = k; so = q }

  kept_by : {A : Type 0} (at : Setting) (line : ℕ) (own : Statement) (x y : A) → counting_kept at line own x ≡ Ok y → x ≡ y
  kept_by at line own x y e = kept line (first_counted (own_in at.inside) at.counted (changes at.inside own)) x y e

  assigned_comes : (at : Setting) → SeesBoth at → (line : ℕ) (d : formulas.Designator) (f : formulas.Formula) (s : Statement)
      → assigned at line d f ≡ Ok s → StatementFrom v w s (tree.assignment line d f)
  assigned_comes at sees line d f s e =
      let wanted = λ (r : Reached). sort_of at.inside.known.program.forms r.type in
      let last = λ (r : Reached) (x : Expression). with_place line (designator_at r)
      (λ place. counting_kept at line (Assign place x) (Assign place x)) in
      let one = went (written at.inside d) (λ r. after (operand at.inside f) (λ o. after (settled NilOf (wrong line) (wanted r) o)
      (last r))) s e in
      let two = went (operand at.inside f) (λ o. after (settled NilOf (wrong line) (wanted one.value) o) (last one.value)) s one.rest in
      let three = went (settled NilOf (wrong line) (wanted one.value) two.value) (last one.value) s two.rest in
      let four = placed line one.value (λ place. counting_kept at line (Assign place three.value) (Assign place three.value)) s three.rest
      in
      let place = place_comes at.inside v sees.0 d one.value one.first four.place four.is in
      let value = settled_from NilOf (λ x. ExpressionFrom v x f) (wrong line) (wanted one.value) two.value three.value
      (operand_comes at.inside v sees.0 f two.value two.first) three.first in
      subst (λ q. StatementFrom v w q (tree.assignment line d f))
      (kept_by at line (Assign four.place three.value) (Assign four.place three.value) s four.so) (origin.assignment place value)

  created_comes : (at : Setting) → SeesBoth at → (line : ℕ) (d : formulas.Designator) (s : Statement) → created at line d ≡ Ok s
      → StatementFrom v w s (tree.creation line d)
  created_comes at sees line d s e =
      let one = went (written at.inside d) (λ r. on_target (designator_line d) (target_of (form_at at.inside.known.program.forms
      r.type.0)) (λ t. with_place line (designator_at r) (λ place. counting_kept at line (New line place t) (New line place t)))) s e in
      by_target one.value one.first (target_of (form_at at.inside.known.program.forms one.value.type.0)) one.rest
    where
      by_target : (r : Reached) → written at.inside d ≡ Ok r → (o : Option TypeId)
          → on_target (designator_line d) o (λ t. with_place line (designator_at r) (λ place. counting_kept at line (New line place t)
          (New line place t))) ≡ Ok s → StatementFrom v w s (tree.creation line d)
      by_target r k None q = absurd (no_fault q)
      by_target r k (Some t) q =
          let two = placed line r (λ place. counting_kept at line (New line place t) (New line place t)) s q in
          subst (λ p. StatementFrom v w p (tree.creation line d)) (kept_by at line (New line two.place t) (New line two.place t) s two.so)
          (origin.creation (place_comes at.inside v sees.0 d r k two.place two.is))

  no_procedure_comes : (line : ℕ) (n : Option ℕ) (given : List (Argument Expression Reached)) (s : Statement)
      → no_procedure line n given ≡ Ok s → ⊥
  no_procedure_comes line n given s e = no_fault (went (no_call line n given) (λ r. Err (wrong line)) s e).rest

  performed_comes : (at : Setting) (line : ℕ) (h : Heading) (c : Call) (s : Statement) → performed at line h c ≡ Ok s → Perform c ≡ s
  performed_comes at line h c s e = kept_by at line (Perform c) (Perform c) s
      (behind_test (not (is_some h.result)) (wrong line) (counting_kept at line (Perform c) (Perform c)) s e)

  called_comes : (at : Setting) → SeesBoth at → (line : ℕ) (x : Name) (m : Option Meaning) (given : Option (Several formulas.Formula))
      (s : Statement) → meaning at.inside x.symbol ≡ m → called at line x m (arguments_of at.inside given) ≡ Ok s
      → StatementFrom v w s (tree.call line x given)
  called_comes at sees line x None given s h e = by_function (function at.inside x.symbol) e
    where
      by_function : (o : Option Function) → called_function line x o (arguments_of at.inside given) ≡ Ok s
          → StatementFrom v w s (tree.call line x given)
      by_function None k = absurd (no_fault k)
      by_function (Some b) k = absurd (no_procedure_comes line (Some (arity b)) (arguments_of at.inside given) s k)
  called_comes at sees line x (Some (OfRoutine q)) given s h e =
      let one = went (call_of at.inside line x.line q (arguments_of at.inside given)) (performed at line q) s e in
      subst (λ p. StatementFrom v w p (tree.call line x given)) (performed_comes at line q one.value s one.rest)
      (origin.procedure (procedure_comes at.inside v sees.0 line x q h given one.value one.first))
  called_comes at sees line x (Some (OfSymbol d)) given s h e = absurd
      (no_procedure_comes line (Some (length d.args)) (arguments_of at.inside given) s e)
  called_comes at sees line x (Some (OfType t)) given s h e = absurd (no_procedure_comes line None (arguments_of at.inside given) s e)
  called_comes at sees line x (Some OfList) given s h e = absurd (no_procedure_comes line None (arguments_of at.inside given) s e)
  called_comes at sees line x (Some (OfConstant z)) given s h e = absurd (no_procedure_comes line None (arguments_of at.inside given) s e)
  called_comes at sees line x (Some (OfPlace t)) given s h e = absurd (no_procedure_comes line None (arguments_of at.inside given) s e)
  called_comes at sees line x (Some (OfStart r)) given s h e = absurd (no_procedure_comes line None (arguments_of at.inside given) s e)

  -- ---- tests, labels, counters

  test_comes : (at : Setting) → SeesBoth at → (line : ℕ) (f : formulas.Formula) (e : Expression) → test_of at line f ≡ Ok e
      → ExpressionFrom v e f
  test_comes at sees line f e k =
      let one = went (expression_of at.inside sort.Bool f) (λ x. counting_kept at line (If line x Empty Empty) x) e k in
      subst (λ x. ExpressionFrom v x f) (kept_by at line (If line one.value Empty Empty) one.value e one.rest)
      (expression_comes at.inside v sees.0 sort.Bool f one.value one.first)

  -- further labels
  record Labelled (before after : List ℤ) (cs : List Constant) : Type 0 where
    pub own : List ℤ
    pub from : ConstantsFrom v own cs
    pub is : before ++ own ≡ after

  labels_come : (at : Setting) → SeesBoth at → (cs : List Constant) (before after : List ℤ)
      → each (new_label at.inside) before cs ≡ Ok after → Labelled before after cs
  labels_come at sees [] before after e = record { own = []; from = no_constants; is = append-nil before ∙ same_value e }
  labels_come at sees (c ∷ cs) before after e =
      let one = went (new_label at.inside before c) (λ next. each (new_label at.inside) next cs) after e in
      let z = went (constant at.inside c) (λ z. where_so (not (list_any (int_eq z) before)) (LabelTwice c.line z)
      (fine (before ++ z ∷ []))) one.value one.first in
      let next = same_value (behind_test (not (list_any (int_eq z.value) before)) (LabelTwice c.line z.value)
      (fine (before ++ z.value ∷ [])) one.value z.rest) in
      let rest = labels_come at sees cs one.value after one.rest in
      record {
        own = z.value ∷ rest.own;
        from = one_constant (constant_from at.inside v (sees.0).constants c z.value z.first) rest.from;
        is = sym (append_assoc before (z.value ∷ []) rest.own) ∙ (ap (λ ls. ls ++ rest.own) next ∙ rest.is);
      }

  record CountingFrom (x : Name) (from : formulas.Formula) (towards : DirectionSign) (to : formulas.Formula) (count : Counting) : Type 0
    where
      pub first : Expression
      pub last : Expression
      pub named : names_place v x.symbol ≡ true
      pub first_from : ExpressionFrom v first from
      pub last_from : ExpressionFrom v last to
      pub is : count_of x towards first last ≡ count

  counter_comes : (at : Setting) → SeesBoth at → (x y : Name) (m : Option Meaning) → meaning at.inside x.symbol ≡ m
      → counter_of at.inside x m ≡ Ok y → (x ≡ y) × (names_place v x.symbol ≡ true)
  counter_comes at sees x y None h e = absurd (no_fault e)
  counter_comes at sees x y (Some (OfPlace t)) h e = (
    same_value (behind_test (may_count at.inside x.symbol && sort_eq
        (sort_of at.inside.known.program.forms t) sort.Int) (wrong x.line) (fine x) y e),
    (sees.0).places x.symbol t h,
  )
  counter_comes at sees x y (Some (OfType t)) h e = absurd (no_fault e)
  counter_comes at sees x y (Some OfList) h e = absurd (no_fault e)
  counter_comes at sees x y (Some (OfConstant z)) h e = absurd (no_fault e)
  counter_comes at sees x y (Some (OfStart r)) h e = absurd (no_fault e)
  counter_comes at sees x y (Some (OfSymbol d)) h e = absurd (no_fault e)
  counter_comes at sees x y (Some (OfRoutine q)) h e = absurd (no_fault e)

  declared_is : (x y : Name) (m : Option Meaning) → is_declared x m ≡ Ok y → x ≡ y
  declared_is x y None e = absurd (no_fault e)
  declared_is x y (Some m) e = same_value e

  counting_comes : (at : Setting) → SeesBoth at → (line : ℕ) (x : Name) (from : formulas.Formula) (towards : DirectionSign)
      (to : formulas.Formula) (count : Counting) → counting at line x from towards to ≡ Ok count → CountingFrom x from towards to count
  counting_comes at sees line x from towards to count e =
      let head = λ (first last : Expression) (u : Name). counting_kept at line (For line None (head_of towards u first last) Empty)
      (head_of towards u first last) in
      let seven = λ (first last : Expression) (c : Name). after
      (unless_counted line (counted_as (own_in at.inside) at.counted (name_root (own_in at.inside) c.symbol)) c) (head first last) in
      let six = λ (b : Operand Expression) (c : Name) (first : Expression). after (settled NilOf (wrong (formula_line to)) sort.Int b)
      (λ last. seven first last c) in
      let five = λ (a b : Operand Expression) (c : Name). after (settled NilOf (wrong (formula_line from)) sort.Int a) (six b c) in
      let four = λ (a b : Operand Expression) (y : Name). after (counter_of at.inside y (meaning at.inside y.symbol)) (five a b) in
      let one = went (is_declared x (meaning at.inside x.symbol))
      (λ y. after (operand at.inside from) (λ a. after (operand at.inside to) (λ b. four a b y))) count e in
      let two = went (operand at.inside from) (λ a. after (operand at.inside to) (λ b. four a b one.value)) count one.rest in
      let three = went (operand at.inside to) (λ b. four two.value b one.value) count two.rest in
      let c = went (counter_of at.inside one.value (meaning at.inside one.value.symbol)) (five two.value three.value) count three.rest in
      let first = went (settled NilOf (wrong (formula_line from)) sort.Int two.value) (six three.value c.value) count c.rest in
      let last = went (settled NilOf (wrong (formula_line to)) sort.Int three.value) (λ last. seven first.value last c.value) count
      first.rest in
      let u = went (unless_counted line (counted_as (own_in at.inside) at.counted (name_root (own_in at.inside) c.value.symbol)) c.value)
      (head first.value last.value) count last.rest in
      let same : x ≡ one.value = declared_is x one.value (meaning at.inside x.symbol) one.first in
      let counter = counter_comes at sees one.value c.value (meaning at.inside one.value.symbol) refl c.first in
      let uncounted : c.value ≡ u.value = kept line (counted_as (own_in at.inside) at.counted
      (name_root (own_in at.inside) c.value.symbol)) c.value u.value u.first in
      record {
        first = first.value;
        last = last.value;
        named = subst (λ (y : Name). names_place v y.symbol ≡ true) (sym same) counter.1;
        first_from = settled_from NilOf (λ q. ExpressionFrom v q from) (wrong (formula_line from)) sort.Int two.value first.value
            (operand_comes at.inside v sees.0 from two.value two.first) first.first;
        last_from = settled_from NilOf (λ q. ExpressionFrom v q to) (wrong (formula_line to)) sort.Int three.value last.value
            (operand_comes at.inside v sees.0 to three.value three.first) last.first;
        is = ap (λ d. head_with x d first.value last.value) (sym (same_direction towards))
            ∙ (ap (λ (y : Name). head_of towards y first.value last.value) (same ∙ (counter.0 ∙ uncounted))
            ∙ kept_by at line (For line None (head_of towards u.value first.value last.value) Empty)
            (head_of towards u.value first.value last.value) count u.rest);
      }

  invariant_comes : (at : Setting) → SeesBoth at → (f : Option formulas.Formula) (i : Option Annotation)
      → if_there (annotation at.noted) f ≡ Ok i → IfThere w i f
  invariant_comes at sees None i e = subst (λ q. IfThere w q None) (same_value e) not_there
  invariant_comes at sees (Some f) i e =
      let one = went (annotation at.noted f) (λ a. fine (Some a)) i e in
      subst (λ q. IfThere w q (Some f)) (same_value one.rest) (there (annotations_come at.noted w sees.1 f one.value one.first))

  -- ---- statements

  -- the arms that are left
  record ArmsRest (so_far : ArmsSoFar) (more : tree.MoreArms) (all : ArmsSoFar) : Type 0 where
    pub rest : Arms
    pub from : ArmsFrom v w rest more
    pub is : so_far.arms rest ≡ all.arms no_arms

  unlabelled_rest : (so_far next all : ArmsSoFar) (line : ℕ) (more : tree.MoreArms) → so_far ≡ next → ArmsRest next more all
      → ArmsRest so_far (tree.more_arms (tree.no_arm line) more) all
  unlabelled_rest so_far next all line more same h = record {
    rest = h.rest;
    from = origin.without_labels h.from;
    is = ap (λ (q : ArmsSoFar). q.arms h.rest) same ∙ h.is;
  }

  labelled_rest : (so_far next all : ArmsSoFar) (line : ℕ) (cs : Several Constant) (t : tree.Statement) (more : tree.MoreArms)
      (labels : List ℤ) (a : Statement) → Labelled so_far.labels labels (cs.first ∷ cs.more)
      → one_more so_far labels (dropped so_far.labels labels) a ≡ next → StatementFrom v w a t → ArmsRest next more all
      → ArmsRest so_far (tree.more_arms (tree.arm line cs t) more) all
  labelled_rest so_far next all line cs t more labels a ls same from h =
      let own : dropped so_far.labels labels ≡ ls.own = ap (dropped so_far.labels) (sym ls.is) ∙ dropped_all so_far.labels ls.own in
      record {
        rest = arm ls.own a h.rest;
        from = origin.labelled ls.from from h.from;
        is = ap (λ zs. so_far.arms (arm zs a h.rest)) (sym own) ∙ (ap (λ (q : ArmsSoFar). q.arms h.rest) same ∙ h.is);
      }

  mutual
    pub statement_comes : (at : Setting) → SeesBoth at → (t : tree.Statement) (s : Statement) → statement_walk at t ≡ Ok s
        → StatementFrom v w s t
    statement_comes at sees (tree.empty line) s e = subst (λ q. StatementFrom v w q (tree.empty line)) (same_value e) origin.empty
    statement_comes at sees (tree.assignment line d f) s e = assigned_comes at sees line d f s e
    statement_comes at sees (tree.call line x given) s e = called_comes at sees line x (meaning at.inside x.symbol) given s refl e
    statement_comes at sees (tree.creation line d) s e = created_comes at sees line d s e
    statement_comes at sees (tree.compound line b) s e = origin.compound (block_comes at sees b s e)
    statement_comes at sees (tree.conditional line f t other) s e =
        let one = went (test_of at line f) (λ x. after (statement_walk at t) (λ a. after (otherwise_walk at other)
        (λ b. fine (If line x a b)))) s e in
        let two = went (statement_walk at t) (λ a. after (otherwise_walk at other) (λ b. fine (If line one.value a b))) s one.rest in
        let three = went (otherwise_walk at other) (λ b. fine (If line one.value two.value b)) s two.rest in
        subst (λ q. StatementFrom v w q (tree.conditional line f t other)) (same_value three.rest)
        (origin.conditional (test_comes at sees line f one.value one.first) (statement_comes at sees t two.value two.first)
        (otherwise_comes at sees other three.value three.first))
    statement_comes at sees (tree.selection line f first more) s e =
        let last = λ (x : Expression) (all : ArmsSoFar). fine (Case line x (all.arms no_arms)) in
        let start : ArmsSoFar = record { labels = []; arms = λ others. others } in
        let one = went (expression_of at.inside sort.Int f)
        (λ n. after (counting_kept at line (If line n Empty Empty) n)
        (λ x. after (arm_walk at start first) (λ a. after (more_arms_walk at a more) (last x)))) s e in
        let two = went (counting_kept at line (If line one.value Empty Empty) one.value)
        (λ x. after (arm_walk at start first) (λ a. after (more_arms_walk at a more) (last x))) s one.rest in
        let three = went (arm_walk at start first) (λ a. after (more_arms_walk at a more) (last two.value)) s two.rest in
        let four = went (more_arms_walk at three.value more) (last two.value) s three.rest in
        let x = subst (λ q. ExpressionFrom v q f) (kept_by at line (If line one.value Empty Empty) one.value two.value two.first)
        (expression_comes at.inside v sees.0 sort.Int f one.value one.first) in
        let arms = arm_comes at sees start first more three.value four.value three.first
        (more_arms_come at sees three.value more four.value four.first) in
        subst (λ q. StatementFrom v w q (tree.selection line f first more)) (ap (Case line two.value) arms.is ∙ same_value four.rest)
        (origin.selection x arms.from)
    statement_comes at sees (tree.repetition line invariant l) s e =
        let one = went (if_there (annotation at.noted) invariant) (λ i. loop_walk at line i l) s e in
        loop_comes at sees line invariant one.value l s (invariant_comes at sees invariant one.value one.first) one.rest
    statement_comes at sees (tree.assertion line f) s e =
        let one = went (annotation at.noted f) (λ a. fine (Assert a)) s e in
        subst (λ q. StatementFrom v w q (tree.assertion line f)) (same_value one.rest)
        (origin.assertion (annotations_come at.noted w sees.1 f one.value one.first))

    otherwise_comes : (at : Setting) → SeesBoth at → (t : tree.Otherwise) (s : Statement) → otherwise_walk at t ≡ Ok s
        → OtherwiseFrom v w s t
    otherwise_comes at sees tree.nothing_otherwise s e = subst (λ q. OtherwiseFrom v w q tree.nothing_otherwise) (same_value e)
        origin.nothing
    otherwise_comes at sees (tree.otherwise t) s e = origin.otherwise (statement_comes at sees t s e)

    pub block_comes : (at : Setting) → SeesBoth at → (t : tree.Block) (s : Statement) → block_walk at t ≡ Ok s → BlockFrom v w s t
    block_comes at sees (tree.block line first more) s e =
        let one = went (statement_walk at first) (λ a. after (more_statements_walk at more) (λ b. fine (Sequence a b))) s e in
        let two = went (more_statements_walk at more) (λ b. fine (Sequence one.value b)) s one.rest in
        subst (λ q. BlockFrom v w q (tree.block line first more)) (same_value two.rest)
        (origin.block (statement_comes at sees first one.value one.first) (more_statements_come at sees more two.value two.first))

    more_statements_come : (at : Setting) → SeesBoth at → (t : tree.MoreStatements) (s : Statement) → more_statements_walk at t ≡ Ok s
        → StatementsFrom v w s t
    more_statements_come at sees tree.no_more_statements s e = subst (λ q. StatementsFrom v w q tree.no_more_statements) (same_value e)
        origin.no_statements
    more_statements_come at sees (tree.more_statements t more) s e =
        let one = went (statement_walk at t) (λ a. after (more_statements_walk at more) (λ b. fine (Sequence a b))) s e in
        let two = went (more_statements_walk at more) (λ b. fine (Sequence one.value b)) s one.rest in
        subst (λ q. StatementsFrom v w q (tree.more_statements t more)) (same_value two.rest)
        (origin.one_statement (statement_comes at sees t one.value one.first) (more_statements_come at sees more two.value two.first))

    arm_comes : (at : Setting) → SeesBoth at → (so_far : ArmsSoFar) (t : tree.Arm) (more : tree.MoreArms) (next all : ArmsSoFar)
        → arm_walk at so_far t ≡ Ok next → ArmsRest next more all → ArmsRest so_far (tree.more_arms t more) all
    arm_comes at sees so_far (tree.no_arm line) more next all e h = unlabelled_rest so_far next all line more (same_value e) h
    arm_comes at sees so_far (tree.arm line cs t) more next all e h =
        let one = went (new_labels at.inside so_far.labels cs)
        (λ ls. after (statement_walk at t) (λ a. fine (one_more so_far ls (dropped so_far.labels ls) a))) next e in
        let two = went (statement_walk at t) (λ a. fine (one_more so_far one.value (dropped so_far.labels one.value) a)) next one.rest in
        labelled_rest so_far next all line cs t more one.value two.value
        (labels_come at sees (cs.first ∷ cs.more) so_far.labels one.value one.first) (same_value two.rest)
        (statement_comes at sees t two.value two.first) h

    more_arms_come : (at : Setting) → SeesBoth at → (so_far : ArmsSoFar) (more : tree.MoreArms) (all : ArmsSoFar)
        → more_arms_walk at so_far more ≡ Ok all → ArmsRest so_far more all
    more_arms_come at sees so_far tree.no_more_arms all e = record
        { rest = no_arms; from = origin.no_more; is = ap (λ (q : ArmsSoFar). q.arms no_arms) (same_value e) }
    more_arms_come at sees so_far (tree.more_arms t more) all e =
        let one = went (arm_walk at so_far t) (λ next. more_arms_walk at next more) all e in
        arm_comes at sees so_far t more one.value all one.first (more_arms_come at sees one.value more all one.rest)

    loop_comes : (at : Setting) → SeesBoth at → (line : ℕ) (invariant : Option formulas.Formula) (i : Option Annotation) (l : tree.Loop)
        (s : Statement) → IfThere w i invariant → loop_walk at line i l ≡ Ok s → StatementFrom v w s (tree.repetition line invariant l)
    loop_comes at sees line invariant i (tree.while_loop on test t) s h e =
        let one = went (test_of at line test) (λ x. after (statement_walk at t) (λ a. fine (While line i x a))) s e in
        let two = went (statement_walk at t) (λ a. fine (While line i one.value a)) s one.rest in
        subst (λ q. StatementFrom v w q (tree.repetition line invariant (tree.while_loop on test t))) (same_value two.rest)
        (origin.while h (test_comes at sees line test one.value one.first) (statement_comes at sees t two.value two.first))
    loop_comes at sees line invariant i (tree.repeat_loop on first more test) s h e =
        let one = went (statement_walk at first) (λ a. after (more_statements_walk at more)
        (λ b. after (test_of at line test) (λ x. fine (Repeat line i (Sequence a b) x)))) s e in
        let two = went (more_statements_walk at more) (λ b. after (test_of at line test) (λ x. fine
        (Repeat line i (Sequence one.value b) x))) s one.rest in
        let three = went (test_of at line test) (λ x. fine (Repeat line i (Sequence one.value two.value) x)) s two.rest in
        subst (λ q. StatementFrom v w q (tree.repetition line invariant (tree.repeat_loop on first more test))) (same_value three.rest)
        (origin.repeat h (statement_comes at sees first one.value one.first) (more_statements_come at sees more two.value two.first)
        (test_comes at sees line test three.value three.first))
    loop_comes at sees line invariant i (tree.for_loop on x from towards to t) s h e =
        let one = went (counting at line x from towards to)
        (λ count. after (statement_walk (inside_for at count.variable) t) (λ a. fine (For line i count a))) s e in
        let two = went (statement_walk (inside_for at one.value.variable) t) (λ a. fine (For line i one.value a)) s one.rest in
        let c = counting_comes at sees line x from towards to one.value one.first in
        subst (λ q. StatementFrom v w q (tree.repetition line invariant (tree.for_loop on x from towards to t)))
        (ap (λ count. For line i count two.value) c.is ∙ same_value two.rest)
        (origin.for h c.named c.first_from c.last_from (statement_comes (inside_for at one.value.variable) sees t two.value two.first))

pub statements_come : StatementsComeFromTheirTrees
statements_come at v w sees noted t s e = statement_comes v w at (sees, noted) t s e

pub blocks_come : BlocksComeFromTheirTrees
blocks_come at v w sees noted b s e = block_comes v w at (sees, noted) b s e
