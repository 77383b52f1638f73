-- The walk over statements.
use Rattle.std.specs.Prelude.{ℕ, Bool, true, false, ◌&&◌, ◌||◌, not, List, [], ◌∷◌, ◌++◌, map, filter, Option, Some, None, Ok, Err, ℤ, is_some, nat_eq, if◌then◌else◌}
use Rattle.std.specs.List.{list_any, flat_map}
use Rattle.std.specs.Ordering.{int_eq}
use Rattle.spv_logic.specs.declared.names.names.Symbol.{Symbol}
use Rattle.spv_logic.specs.declared.types.TypeId.{TypeId}
use Rattle.spv_logic.specs.declared.types.Sort.TheVariants as sort
use Rattle.spv_logic.specs.Terms.{sort_eq}
use Rattle.spv_tree.specs.declared.syntax.lists.Several.{Several}
use Rattle.spv_tree.specs.declared.syntax.names.Name.{Name}
use Rattle.spv_tree.specs.declared.syntax.names.Constant.{Constant}
use Rattle.spv_tree.specs.declared.syntax.operators.Direction.{Direction as DirectionSign}
use Rattle.spv_tree.specs.declared.syntax.operators.Direction.TheVariants as direction_sign
use Rattle.spv_tree.specs.syntax.Formulas as formulas
use Rattle.spv_tree.specs.syntax.Statements as tree
use Rattle.spv_program.specs.declared.operators.Direction.{Direction}
use Rattle.spv_program.specs.declared.operators.Direction.TheVariants as direction
use Rattle.spv_program.specs.Types.{form_at, sort_of, target_of}
use Rattle.spv_program.specs.Lists.{same_name}
use Rattle.spv_program.specs.Expressions.{Expression, Designator, Call, NilOf, call}
use Rattle.spv_program.specs.Formulas.{Annotation}
use Rattle.spv_program.specs.Statements.{Counting, Statement, Arms, Empty, Assign, Perform, New, Sequence, If, Case, While, Repeat, For, Assert, no_arms, arm}
use Rattle.spv_program.specs.Uses.{Root, Shared, same_root, name_root, statement_uses, statement_calls}
use Rattle.spv_program.specs.Changes.{var_items}
use Rattle.spv_typing.specs.declared.faults.TypeFault.TheVariants.{LabelTwice, ControlChanged}
use Rattle.spv_typing.specs.Outcomes.{Outcome, after, where_so, each, if_there, undeclared, wrong}
use Rattle.spv_typing.specs.Known.{Meaning, OfPlace, OfSymbol, OfRoutine, Function, Heading, Scope, meaning, function}
use Rattle.spv_typing.specs.TypeWalk.{all_names, constant}
use Rattle.spv_typing.specs.FormulaWalk.{annotation, arity}
use Rattle.spv_typing.specs.OperatorWalk.{Argument, settled, argument, formula_line, formula_walk, written_place}
use Rattle.spv_typing.specs.ExpressionWalk.{Reached, designator_at, call_of, no_call, expression_forms, operand, expression_of, written}

-- where a statement stands: what its expressions see, what its annotations see, and the variables that the FORs around it
-- count with, innermost first
pub record Setting : Type 0 where
  pub inside : Scope
  pub noted : Scope
  pub counted : List Symbol

-- ---- the variables that count

abbrev pub is_place : Option Meaning → Bool
is_place (Some (OfPlace t)) = true
is_place other = false

abbrev pub is_name_of : Option Heading → Symbol → Bool
is_name_of None x = false
is_name_of (Some h) x = same_name h.name x

-- whether a name is the routine's own
abbrev pub own_in : Scope → Symbol → Bool
own_in s x = is_place (found_own s x) || is_name_of s.routine x
  where
    found_own : Scope → Symbol → Option Meaning
    found_own s x = Rattle.spv_program.specs.Lists.found s.own x

abbrev pub items_of : List Heading → Call → List Root
items_of headings (call r line given) =
    flat_map (λ h. map Shared (var_items h.globals)) (filter (λ h. nat_eq h.number.0 r.0) headings)

-- what a statement itself changes, and what the routines that it calls may change
abbrev pub changes : Scope → Statement → List Root
changes s st =
    map (λ u. u.root) (filter (λ u. u.changes) (statement_uses (own_in s) st))
    ++ flat_map (items_of s.known.headings) (statement_calls st)

abbrev pub counted_as : (Symbol → Bool) → List Symbol → Root → Option Symbol
counted_as own [] r = None
counted_as own (v ∷ counted) r = if same_root (name_root own v) r then Some v else counted_as own counted r

abbrev pub first_counted : (Symbol → Bool) → List Symbol → List Root → Option Symbol
first_counted own counted [] = None
first_counted own counted (r ∷ roots) = or_later (counted_as own counted r) (first_counted own counted roots)
  where
    or_later : Option Symbol → Option Symbol → Option Symbol
    or_later (Some v) later = Some v
    or_later None later = later

abbrev pub unless_counted : {A : Type 0} → ℕ → Option Symbol → A → Outcome A
unless_counted line None x = Ok x
unless_counted line (Some v) x = Err (ControlChanged line v)

-- a statement that begins on a line, where its own parts, such as those of `own`, change no variable that counts
abbrev pub counting_kept : {A : Type 0} → Setting → ℕ → Statement → A → Outcome A
counting_kept at line own result =
    unless_counted line (first_counted (own_in at.inside) at.counted (changes at.inside own)) result

-- ---- assignments and calls

abbrev pub with_place : {A : Type 0} → ℕ → Option Designator → (Designator → Outcome A) → Outcome A
with_place line None go = Err (wrong line)
with_place line (Some d) go = go d

abbrev pub assigned : Setting → ℕ → formulas.Designator → formulas.Formula → Outcome Statement
assigned at line d f =
    after (written at.inside d) (λ r.
    after (operand at.inside f) (λ o.
    after (settled NilOf (wrong line) (sort_of at.inside.known.program.forms r.type) o) (λ e.
    with_place line (designator_at r) (λ place. counting_kept at line (Assign place e) (Assign place e)))))

abbrev pub on_target : {A : Type 0} → ℕ → Option TypeId → (TypeId → Outcome A) → Outcome A
on_target line None go = Err (wrong line)
on_target line (Some t) go = go t

abbrev pub designator_line : formulas.Designator → ℕ
designator_line (formulas.designator line x behind) = line

abbrev pub created : Setting → ℕ → formulas.Designator → Outcome Statement
created at line d =
    after (written at.inside d) (λ r.
    on_target (designator_line d) (target_of (form_at at.inside.known.program.forms r.type.0)) (λ t.
    with_place line (designator_at r) (λ place. counting_kept at line (New line place t) (New line place t))))

abbrev pub arguments_of : Scope → Option (Several formulas.Formula) → List (Argument Expression Reached)
arguments_of s None = []
arguments_of s (Some fs) =
    map (λ f. argument f (formula_walk (expression_forms s) f) (written_place (expression_forms s) f)) (all_names fs)

-- a procedure has no result
abbrev pub performed : Setting → ℕ → Heading → Call → Outcome Statement
performed at line h c =
    where_so (not (is_some h.result)) (wrong line) (counting_kept at line (Perform c) (Perform c))

abbrev pub no_procedure : ℕ → Option ℕ → List (Argument Expression Reached) → Outcome Statement
no_procedure line arity given = after (no_call line arity given) (λ r. Err (wrong line))

-- a function that is known from the start, where nothing else has the name
abbrev pub called_function : ℕ → Name → Option Function → List (Argument Expression Reached) → Outcome Statement
called_function line x None given = Err (undeclared x)
called_function line x (Some b) given = no_procedure line (Some (arity b)) given

abbrev pub called : Setting → ℕ → Name → Option Meaning → List (Argument Expression Reached) → Outcome Statement
called at line x None given = called_function line x (function at.inside x.symbol) given
called at line x (Some (OfRoutine h)) given = after (call_of at.inside line x.line h given) (performed at line h)
called at line x (Some (OfSymbol d)) given = no_procedure line (Some (Rattle.std.specs.Prelude.length d.args)) given
called at line x (Some other) given = no_procedure line None given

-- ---- tests, labels, counters

-- the test of a statement that begins on a line
abbrev pub test_of : Setting → ℕ → formulas.Formula → Outcome Expression
test_of at line f =
    after (expression_of at.inside sort.Bool f) (λ e. counting_kept at line (If line e Empty Empty) e)

abbrev pub new_label : Scope → List ℤ → Constant → Outcome (List ℤ)
new_label s labels c =
    after (constant s c) (λ z. where_so (not (list_any (int_eq z) labels)) (LabelTwice c.line z) (Ok (labels ++ z ∷ [])))

-- what a FOR counts with: a name that is a variable of the program in the main block, and in a routine a local variable or a
-- value parameter; of integer type
abbrev pub direction_of : DirectionSign → Direction
direction_of direction_sign.Up = direction.Up
direction_of direction_sign.Down = direction.Down

abbrev pub is_by_place : Option Heading → Symbol → Bool
is_by_place None x = false
is_by_place (Some h) x = list_any (λ f. same_name f.name x && f.by_place) h.formals

abbrev pub may_count : Scope → Symbol → Bool
may_count s x = of_routine s.routine
  where
    of_routine : Option Heading → Bool
    of_routine None = true
    of_routine (Some h) = own_in s x && (not (is_by_place (Some h) x) && not (same_name h.name x))

abbrev pub counter_of : Scope → Name → Option Meaning → Outcome Name
counter_of s x None = Err (undeclared x)
counter_of s x (Some (OfPlace t)) =
    where_so (may_count s x.symbol && sort_eq (sort_of s.known.program.forms t) sort.Int) (wrong x.line) (Ok x)
counter_of s x (Some other) = Err (wrong x.line)

abbrev pub is_declared : Name → Option Meaning → Outcome Name
is_declared x None = Err (undeclared x)
is_declared x (Some m) = Ok x

-- the head of a FOR that begins on a line: its name first, then its ends, then their types, then whether it counts already
abbrev pub counting : Setting → ℕ → Name → formulas.Formula → DirectionSign → formulas.Formula → Outcome Counting
counting at line x from towards to =
    after (is_declared x (meaning at.inside x.symbol)) (λ v.
    after (operand at.inside from) (λ a.
    after (operand at.inside to) (λ b.
    after (counter_of at.inside v (meaning at.inside v.symbol)) (λ w.
    after (settled NilOf (wrong (formula_line from)) sort.Int a) (λ first.
    after (settled NilOf (wrong (formula_line to)) sort.Int b) (λ last.
    after (unless_counted line (counted_as (own_in at.inside) at.counted (name_root (own_in at.inside) w.symbol)) w) (λ u.
    let count : Counting = record { variable = u.symbol; direction = direction_of towards; first = first; last = last } in
    counting_kept at line (For line None count Empty) count)))))))

abbrev pub inside_for : Setting → Symbol → Setting
inside_for at v = record { inside = at.inside; noted = at.noted; counted = v ∷ at.counted }

-- ---- statements

-- the labels so far, and the arms in order
pub record ArmsSoFar : Type 0 where
  pub labels : List ℤ
  pub arms : Arms → Arms

abbrev pub one_more : ArmsSoFar → List ℤ → List ℤ → Statement → ArmsSoFar
one_more so_far all own s = record { labels = all; arms = λ others. so_far.arms (arm own s others) }

abbrev pub new_labels : Scope → List ℤ → Several Constant → Outcome (List ℤ)
new_labels s labels cs = each (new_label s) labels (all_names cs)

abbrev pub dropped : List ℤ → List ℤ → List ℤ
dropped [] all = all
dropped (z ∷ before) [] = []
dropped (z ∷ before) (w ∷ all) = dropped before all

abbrev mutual
  pub statement_walk : Setting → tree.Statement → Outcome Statement
  statement_walk at (tree.empty line) = Ok Empty
  statement_walk at (tree.assignment line d f) = assigned at line d f
  statement_walk at (tree.call line x given) =
      called at line x (meaning at.inside x.symbol) (arguments_of at.inside given)
  statement_walk at (tree.creation line d) = created at line d
  statement_walk at (tree.compound line b) = block_walk at b
  statement_walk at (tree.conditional line f s other) =
      after (test_of at line f) (λ e. after (statement_walk at s) (λ a. after (otherwise_walk at other) (λ b. Ok (If line e a b))))
  statement_walk at (tree.selection line f first more) =
      after (expression_of at.inside sort.Int f) (λ n.
      after (counting_kept at line (If line n Empty Empty) n) (λ e.
      after (arm_walk at (record { labels = []; arms = λ others. others }) first) (λ one.
      after (more_arms_walk at one more) (λ all. Ok (Case line e (all.arms no_arms))))))
  statement_walk at (tree.repetition line invariant l) =
      after (if_there (annotation at.noted) invariant) (λ f. loop_walk at line f l)
  statement_walk at (tree.assertion line f) = after (annotation at.noted f) (λ a. Ok (Assert a))

  pub otherwise_walk : Setting → tree.Otherwise → Outcome Statement
  otherwise_walk at tree.nothing_otherwise = Ok Empty
  otherwise_walk at (tree.otherwise s) = statement_walk at s

  pub block_walk : Setting → tree.Block → Outcome Statement
  block_walk at (tree.block line first more) =
      after (statement_walk at first) (λ a. after (more_statements_walk at more) (λ b. Ok (Sequence a b)))

  pub more_statements_walk : Setting → tree.MoreStatements → Outcome Statement
  more_statements_walk at tree.no_more_statements = Ok Empty
  more_statements_walk at (tree.more_statements s more) =
      after (statement_walk at s) (λ a. after (more_statements_walk at more) (λ b. Ok (Sequence a b)))

  -- the labels of an arm differ from one another and from those of the arms before
  pub arm_walk : Setting → ArmsSoFar → tree.Arm → Outcome ArmsSoFar
  arm_walk at so_far (tree.no_arm line) = Ok so_far
  arm_walk at so_far (tree.arm line cs s) =
      after (new_labels at.inside so_far.labels cs) (λ all.
      after (statement_walk at s) (λ a. Ok (one_more so_far all (dropped so_far.labels all) a)))

  pub more_arms_walk : Setting → ArmsSoFar → tree.MoreArms → Outcome ArmsSoFar
  more_arms_walk at so_far tree.no_more_arms = Ok so_far
  more_arms_walk at so_far (tree.more_arms a more) = after (arm_walk at so_far a) (λ next. more_arms_walk at next more)

  -- a loop whose statement begins on a line, with its INVARIANT
  pub loop_walk : Setting → ℕ → Option Annotation → tree.Loop → Outcome Statement
  loop_walk at line f (tree.while_loop on test s) =
      after (test_of at line test) (λ e. after (statement_walk at s) (λ a. Ok (While line f e a)))
  loop_walk at line f (tree.repeat_loop on first more test) =
      after (statement_walk at first) (λ a. after (more_statements_walk at more) (λ b.
      after (test_of at line test) (λ e. Ok (Repeat line f (Sequence a b) e))))
  loop_walk at line f (tree.for_loop on x from towards to s) =
      after (counting at line x from towards to) (λ count.
      after (statement_walk (inside_for at count.variable) s) (λ a. Ok (For line f count a)))
