-- From which trees statements may come.
use Rattle.std.specs.Prelude.{◌≡◌, ℕ, true, List, [], ◌∷◌, Option, Some, None, ℤ, pos, ◌*ℤ◌, negsuc}
use Rattle.spv_logic.specs.declared.types.TypeId.{TypeId}
use Rattle.spv_tree.specs.declared.syntax.lists.Several.{Several}
use Rattle.spv_tree.specs.declared.syntax.names.Name.{Name}
use Rattle.spv_tree.specs.declared.syntax.names.Scalar.{Scalar}
use Rattle.spv_tree.specs.declared.syntax.names.Scalar.TheVariants as scalar
use Rattle.spv_tree.specs.declared.syntax.names.Constant.{Constant}
use Rattle.spv_tree.specs.declared.syntax.operators.PlusOrMinus.TheVariants as sign
use Rattle.spv_tree.specs.declared.syntax.operators.Direction.{Direction as DirectionSign}
use Rattle.spv_tree.specs.declared.syntax.operators.Direction.TheVariants as direction_sign
use Rattle.spv_tree.specs.syntax.Formulas as formulas
use Rattle.spv_tree.specs.syntax.Statements as tree
use Rattle.spv_program.specs.declared.operators.Direction.{Direction}
use Rattle.spv_program.specs.declared.operators.Direction.TheVariants as direction
use Rattle.spv_program.specs.Expressions.{Expression, Designator, Call}
use Rattle.spv_program.specs.Formulas.{Annotation}
use Rattle.spv_program.specs.Statements.{Statement, Arms, Empty, Assign, Perform, New, Sequence, If, Case, While, Repeat, For, Assert, no_arms, arm}
use Rattle.spv_type_soundness.specs.faithfulness.Names.{View, constant_named, names_place}
use Rattle.spv_type_soundness.specs.faithfulness.Formulas.{AnnotationFrom, IfThere}
use Rattle.spv_type_soundness.specs.faithfulness.Expressions.{CallFrom, ExpressionFrom, PlaceFrom}

-- ---- constants

module _ (v : View) where
  pub data ScalarFrom : ℤ → Scalar → Type 0 where
    number : {n : ℕ} → ScalarFrom (pos n) (scalar.Number n)
    name : {z : ℤ} {x : Name} → constant_named v x.symbol ≡ Some z → ScalarFrom z (scalar.Name x)

  pub data ConstantFrom : ℤ → Constant → Type 0 where
    unsigned : {z : ℤ} {line : ℕ} {s : Scalar} → ScalarFrom z s → ConstantFrom z (record { line = line; sign = None; value = s })
    plus : {z : ℤ} {line : ℕ} {s : Scalar} → ScalarFrom z s → ConstantFrom z (record { line = line; sign = Some sign.Plus; value = s })
    minus : {z : ℤ} {line : ℕ} {s : Scalar} → ScalarFrom z s
        → ConstantFrom (negsuc 0 *ℤ z) (record { line = line; sign = Some sign.Minus; value = s })

  pub data ConstantsFrom : List ℤ → List Constant → Type 0 where
    no_constants : ConstantsFrom [] []
    one_constant : {z : ℤ} {zs : List ℤ} {c : Constant} {cs : List Constant} → ConstantFrom z c → ConstantsFrom zs cs
        → ConstantsFrom (z ∷ zs) (c ∷ cs)

-- ---- what a procedure is given

abbrev pub direction_of : DirectionSign → Direction
direction_of direction_sign.Up = direction.Up
direction_of direction_sign.Down = direction.Down

abbrev pub more_of : List formulas.Formula → formulas.MoreFormulas
more_of [] = formulas.no_more_formulas
more_of (f ∷ fs) = formulas.more_formulas f (more_of fs)

abbrev pub all_of : Option (Several formulas.Formula) → formulas.MoreFormulas
all_of None = formulas.no_more_formulas
all_of (Some fs) = formulas.more_formulas fs.first (more_of fs.more)

-- ---- statements, by what their expressions see and what their annotations see

module _ (v w : View) where
  mutual
    pub data StatementFrom : Statement → tree.Statement → Type 0 where
      empty : {line : ℕ} → StatementFrom Empty (tree.empty line)
      assignment : {line : ℕ} {d : Designator} {e : Expression} {place : formulas.Designator} {f : formulas.Formula}
          → PlaceFrom v d place → ExpressionFrom v e f → StatementFrom (Assign d e) (tree.assignment line place f)
      procedure : {line : ℕ} {c : Call} {x : Name} {given : Option (Several formulas.Formula)} → CallFrom v c x (all_of given)
          → StatementFrom (Perform c) (tree.call line x given)
      creation : {line : ℕ} {d : Designator} {t : TypeId} {place : formulas.Designator} → PlaceFrom v d place
          → StatementFrom (New line d t) (tree.creation line place)
      compound : {line : ℕ} {s : Statement} {b : tree.Block} → BlockFrom s b → StatementFrom s (tree.compound line b)
      conditional : {line : ℕ} {e : Expression} {a b : Statement} {f : formulas.Formula} {s : tree.Statement} {other : tree.Otherwise}
          → ExpressionFrom v e f → StatementFrom a s → OtherwiseFrom b other
          → StatementFrom (If line e a b) (tree.conditional line f s other)
      selection : {line : ℕ} {e : Expression} {arms : Arms} {f : formulas.Formula} {first : tree.Arm} {more : tree.MoreArms}
          → ExpressionFrom v e f → ArmsFrom arms (tree.more_arms first more)
          → StatementFrom (Case line e arms) (tree.selection line f first more)
      while : {line on : ℕ} {i : Option Annotation} {e : Expression} {a : Statement} {invariant : Option formulas.Formula}
          {test : formulas.Formula} {s : tree.Statement}
          → IfThere w i invariant → ExpressionFrom v e test → StatementFrom a s
          → StatementFrom (While line i e a) (tree.repetition line invariant (tree.while_loop on test s))
      repeat : {line on : ℕ} {i : Option Annotation} {e : Expression} {a b : Statement} {invariant : Option formulas.Formula}
          {test : formulas.Formula} {first : tree.Statement} {more : tree.MoreStatements}
          → IfThere w i invariant → StatementFrom a first → StatementsFrom b more → ExpressionFrom v e test
          → StatementFrom (Repeat line i (Sequence a b) e) (tree.repetition line invariant (tree.repeat_loop on first more test))
      for : {line on : ℕ} {i : Option Annotation} {x : Name} {towards : DirectionSign} {first last : Expression} {a : Statement}
          {invariant : Option formulas.Formula} {from to : formulas.Formula} {s : tree.Statement}
          → IfThere w i invariant → names_place v x.symbol ≡ true → ExpressionFrom v first from → ExpressionFrom v last to
          → StatementFrom a s
          → StatementFrom (For line i (record { variable = x.symbol; direction = direction_of towards; first = first; last = last }) a)
          (tree.repetition line invariant (tree.for_loop on x from towards to s))
      assertion : {line : ℕ} {a : Annotation} {f : formulas.Formula} → AnnotationFrom w a f
          → StatementFrom (Assert a) (tree.assertion line f)

    pub data OtherwiseFrom : Statement → tree.Otherwise → Type 0 where
      nothing : OtherwiseFrom Empty tree.nothing_otherwise
      otherwise : {s : Statement} {t : tree.Statement} → StatementFrom s t → OtherwiseFrom s (tree.otherwise t)

    -- a block is a chain of its statements
    pub data BlockFrom : Statement → tree.Block → Type 0 where
      block : {line : ℕ} {a b : Statement} {first : tree.Statement} {more : tree.MoreStatements}
          → StatementFrom a first → StatementsFrom b more → BlockFrom (Sequence a b) (tree.block line first more)

    pub data StatementsFrom : Statement → tree.MoreStatements → Type 0 where
      no_statements : StatementsFrom Empty tree.no_more_statements
      one_statement : {a b : Statement} {s : tree.Statement} {more : tree.MoreStatements}
          → StatementFrom a s → StatementsFrom b more → StatementsFrom (Sequence a b) (tree.more_statements s more)

    -- an arm without labels is left out
    pub data ArmsFrom : Arms → tree.MoreArms → Type 0 where
      no_more : ArmsFrom no_arms tree.no_more_arms
      without_labels : {line : ℕ} {arms : Arms} {more : tree.MoreArms} → ArmsFrom arms more
          → ArmsFrom arms (tree.more_arms (tree.no_arm line) more)
      labelled : {line : ℕ} {labels : List ℤ} {a : Statement} {arms : Arms} {cs : Several Constant} {s : tree.Statement}
          {more : tree.MoreArms}
          → ConstantsFrom v labels (cs.first ∷ cs.more) → StatementFrom a s → ArmsFrom arms more
          → ArmsFrom (arm labels a arms) (tree.more_arms (tree.arm line cs s) more)
