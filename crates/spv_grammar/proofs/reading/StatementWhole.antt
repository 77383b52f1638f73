-- A statement that is spelled is read.
use Rattle.std.proofs.Common.{◌≡◌, ℕ, zero, suc, ◌≤◌, Bool, true, false, ◌||◌, List, [], ◌∷◌, Option, Some, None, length, refl, sym, ap, ◌∙◌, arith}
use Rattle.std.proofs.lemmas.Bool.{false≢true}
use Rattle.spv_logic.proofs.list.Tests.{left_true, right_true, left_false, right_false}
use Rattle.spv_tree.specs.declared.tokens.token.Token.{Token}
use Rattle.spv_tree.specs.declared.tokens.token.TokenKind.{TokenKind}
use Rattle.spv_tree.specs.declared.tokens.token.TokenKind.TheVariants as kind
use Rattle.spv_tree.specs.declared.tokens.token.Word.TheVariants as word
use Rattle.spv_tree.specs.declared.tokens.token.Sign.TheVariants as sign
use Rattle.spv_tree.specs.declared.syntax.lists.Several.{Several}
use Rattle.spv_tree.specs.declared.syntax.names.Name.{Name}
use Rattle.spv_tree.specs.declared.syntax.names.Scalar.{Scalar}
use Rattle.spv_tree.specs.declared.syntax.names.Scalar.TheVariants as scalar
use Rattle.spv_tree.specs.declared.syntax.names.Constant.{Constant}
use Rattle.spv_tree.specs.declared.syntax.operators.PlusOrMinus.{PlusOrMinus}
use Rattle.spv_tree.specs.declared.syntax.operators.Direction.{Direction}
use Rattle.spv_tree.specs.syntax.Formulas.{Formula, Designator, designator, Selectors, no_selectors}
use Rattle.spv_tree.specs.syntax.Statements.{Statement, empty, assignment, call, creation, compound, conditional, selection, repetition, assertion, Otherwise, nothing_otherwise, otherwise, Block, block, MoreStatements, no_more_statements, more_statements, Arm, no_arm, arm, MoreArms, no_more_arms, more_arms, Loop, while_loop, repeat_loop, for_loop}
use Rattle.spv_tree.specs.syntax.FormulaSpelling.{formula_spelling}
use Rattle.spv_tree.specs.syntax.StatementSpelling.{direction_kind, loop_spelling, more_statements_spelling, statement_spelling}
use Rattle.spv_tree.specs.syntax.Steps.{Step, passes, first_line}
use Rattle.spv_tree.specs.syntax.Reads.{may_end, statement_ok, otherwise_ok, block_ok, more_statements_ok, arm_ok, more_arms_ok, loop_ok}
use Rattle.spv_grammar.specs.reading.Readers.{Read, first, front, after, is, Reader, behind, items}
use Rattle.spv_grammar.specs.reading.FormulaReaders.{prefix_of, read_designator, read_inner, read_formula}
use Rattle.spv_grammar.specs.reading.StatementReaders.{scalar_by, read_scalar, signed_by, read_constant, read_constants, begins_constant, direction_of, read_block_behind, block_by, read_arm, read_otherwise, read_to, loop_by, read_repetition, read_plain_call, read_becomes, statement_on, statement_by, read_lower, read_statement, read_block}
use Rattle.spv_grammar.specs.reading.Continuing.{continues_selectors, continues_formula, begins_statement, continues_action, continues_statement, continues_statements, continues_arm, continues_arms, continues_loop, continues_otherwise}
use Rattle.spv_grammar.specs.reading.Depths.{formula_depth, designator_depth, selectors_depth, formulas_depth, statement_depth, otherwise_depth, block_depth, more_statements_depth, arm_depth, more_arms_depth, loop_depth}
use Rattle.spv_grammar.specs.reading.Parts.{Stands, formula_part, designator_part, constant_part, constants_part, statement_part, otherwise_part, block_part, more_statements_part, arm_part, more_arms_part, loop_part}
use Rattle.spv_grammar.proofs.reading.Whole.{Answers, Complete, CompleteList, Each, front_of, begun_of, taken_of, if_true, if_false, none_complete, more_complete, name_complete, behind_complete, behind_none, done, then_answers, past_answers, answers_after, several_complete}
use Rattle.spv_grammar.proofs.reading.WholeHeads.{never}
use Rattle.spv_grammar.proofs.reading.FormulaEnds.{prefix_back, selectors_end, formula_factor}
use Rattle.spv_grammar.proofs.reading.StatementEnds.{direction_back, direction_ends, no_sign, constant_begins, more_statements_ends, more_arms_ends, then_ends}
use Rattle.spv_grammar.proofs.reading.FormulaWhole.{inner_of, formula_complete, selectors_complete}
use Rattle.spv_tree.specs.syntax.Members.{in_kinds, in_lines}
use Rattle.spv_tree.specs.syntax.TypeSpelling.{scalar_spelling, scalar_kind}

-- ---- constants

scalar_is : (x : Scalar) {tokens : List Token} {spelled : List TokenKind} {steps : List Step} → Stands tokens (scalar_kind x ∷ spelled) (scalar_spelling in_lines x steps) → Answers (read_scalar tokens) x tokens spelled steps
scalar_is (scalar.Number n) {tokens} s =
    let p = taken_of s in
    record { rest = after tokens; is = ap (λ o. scalar_by o tokens) p.front; stands = p.stands; shorter = omega (arith, p.shorter) }
scalar_is (scalar.Name x) {tokens} s =
    let b = begun_of s in
    let p = taken_of b.stands in
    record {
      rest = after tokens;
      is = ap (λ o. scalar_by o tokens) p.front ∙ ap (λ l. Read (scalar.Name (record { line = l; symbol = x.symbol }), after tokens)) b.line;
      stands = p.stands;
      shorter = omega (arith, p.shorter);
    }

signed_complete : (line : ℕ) (s : Option PlusOrMinus) (x : Scalar) → Complete constant_part never read_constant (record { line = line; sign = s; value = x })
signed_complete line None x tokens spelled steps s e =
    let b = begun_of s in
    answers_after (omega arith) (ap (λ o. signed_by o tokens) (ap prefix_of (front_of s) ∙ no_sign x)) (then_answers (scalar_is x b.stands) (λ y is_y rest r. done {y = record { line = first_line tokens; sign = None; value = y }} r (λ i. record { line = b.line i; sign = None; value = is_y i })))
signed_complete line (Some sign) x tokens spelled steps s e =
    let b = begun_of s in
    let p = taken_of b.stands in
    answers_after (omega (arith, p.shorter)) (ap (λ o. signed_by o tokens) (ap prefix_of p.front ∙ prefix_back sign)) (then_answers (scalar_is x p.stands) (λ y is_y rest r. done {y = record { line = first_line tokens; sign = Some sign; value = y }} r (λ i. record { line = b.line i; sign = Some sign; value = is_y i })))

pub constant_complete : (c : Constant) → Complete constant_part never read_constant c
constant_complete c = signed_complete c.line c.sign c.value

all_constants : (cs : List Constant) → Each (Complete constant_part never read_constant) cs
all_constants [] = tt
all_constants (c ∷ cs) = (constant_complete c, all_constants cs)

-- what ends the constants of an arm is no comma
constants_complete : (cs : Several Constant) → Complete constants_part (is (kind.Sign sign.Comma)) read_constants cs
constants_complete cs tokens spelled steps s e =
    several_complete (kind.Sign sign.Comma) constant_part never read_constant refl refl cs (constant_complete cs.first) (all_constants cs.more) tokens spelled steps (record { spelled = s.spelled; lined = s.lined }) (or_false _ e)
  where
    or_false : (b : Bool) → b ≡ false → (b || false) ≡ false
    or_false b h = ap (λ c. c || false) h

-- ---- statements one level down

lower_of : (n : ℕ) (s : Statement) → ((m : ℕ) → statement_depth s ≤ m → Complete statement_part (continues_statement s) (read_statement m) s) → suc (statement_depth s) ≤ n → Complete statement_part (continues_statement s) (read_lower n) s
lower_of zero s h d = absurd (omega arith)
lower_of (suc n) s h d = h n (omega arith)

-- what does not go on with a statement does not go on with a formula
action_formula : (o : Option TokenKind) → continues_action o ≡ false → continues_formula o ≡ false
action_formula o e = right_false (is (kind.Sign sign.Becomes) o) _ (right_false (begins_statement o) _ e)

module _ (lower : Reader Statement) where
  abbrev IsLower : Statement → Type 0
  IsLower s = Complete statement_part (continues_statement s) lower s

  abbrev AllLower : MoreStatements → Type 0
  AllLower more = CompleteList more_statements_part continues_statements (items no_more_statements more_statements (behind (kind.Sign sign.Semicolon) lower)) more

  -- ---- blocks and arms

  block_behind_step : (line here : ℕ) (t : Statement) (more : MoreStatements) → here ≡ line → IsLower t → AllLower more → (tokens : List Token) (spelled : List TokenKind) (steps : List Step) → Stands tokens (statement_spelling in_kinds t (more_statements_spelling in_kinds more (kind.Word word.End ∷ spelled))) (statement_part.lined t (more_statements_part.lined more (passes ∷ steps))) → Answers (read_block_behind lower here tokens) (block line t more) tokens spelled steps
  block_behind_step line here t more same g h tokens spelled steps s =
      then_answers (g tokens _ _ s (more_statements_ends t more _ refl)) (λ u is_u mid m. then_answers (h (length mid) mid _ _ (omega arith) m refl) (λ us is_us last q. past_answers _ refl q (λ rest r. done {y = block here u us} r (cc (same, is_u, is_us)))))

  block_step : (line : ℕ) (t : Statement) (more : MoreStatements) → IsLower t → AllLower more → Complete block_part never (block_by lower) (block line t more)
  block_step line t more g h tokens spelled steps s e =
      let b = begun_of s in
      past_answers _ refl b.stands (λ mid m. block_behind_step line (first_line tokens) t more b.line g h mid spelled steps m)

  arm_step : (line : ℕ) (cs : Several Constant) (t : Statement) → IsLower t → Complete arm_part (continues_statement t) (read_arm lower) (arm line cs t)
  arm_step line cs t g tokens spelled steps s e =
      let b = begun_of s in
      let here = ap begins_constant (front_of s) ∙ constant_begins cs.first.sign cs.first.value _ in
      answers_after (omega arith) (if_true _ here refl) (then_answers (constants_complete cs tokens (kind.Sign sign.Colon ∷ statement_spelling in_kinds t spelled) (passes ∷ statement_part.lined t steps) b.stands refl) (λ ds is_ds mid m. past_answers _ refl m (λ last q. then_answers (g last spelled steps q e) (λ u is_u rest r. done {y = arm (first_line tokens) ds u} r (cc (b.line, is_ds, is_u))))))

  no_arm_step : (line : ℕ) → Complete arm_part begins_constant (read_arm lower) (no_arm line)
  no_arm_step line tokens spelled steps s e =
      let b = begun_of s in
      answers_after (omega arith) (if_false _ (ap begins_constant (front_of s) ∙ e) refl) (done {y = no_arm (first_line tokens)} b.stands (ap no_arm b.line))

  nothing_otherwise_step : Complete otherwise_part (continues_otherwise nothing_otherwise) (read_otherwise lower) nothing_otherwise
  nothing_otherwise_step tokens spelled steps s e =
      answers_after (omega arith) (if_false _ (ap (is (kind.Word word.Else)) (front_of s) ∙ right_false (continues_action (first spelled)) _ e) refl) (done s refl)

  otherwise_step : (t : Statement) → IsLower t → Complete otherwise_part (continues_otherwise (otherwise t)) (read_otherwise lower) (otherwise t)
  otherwise_step t g tokens spelled steps s e =
      let p = taken_of s in
      answers_after (omega (arith, p.shorter)) (if_true _ (ap (is (kind.Word word.Else)) p.front) refl) (then_answers (g (after tokens) spelled steps p.stands e) (λ u is_u rest r. done {y = otherwise u} r (ap otherwise is_u)))

  -- ---- loops

  module _ (read : Reader Formula) where
    abbrev IsFormula : Formula → Type 0
    IsFormula f = Complete formula_part continues_formula read f

    abbrev IsLoop : Loop → Type 0
    IsLoop l = Complete loop_part (continues_loop l) (λ rest. loop_by lower read (front rest) rest) l

    while_step : (line : ℕ) (f : Formula) (t : Statement) → IsFormula f → IsLower t → IsLoop (while_loop line f t)
    while_step line f t g h tokens spelled steps s e =
        let b = begun_of s in
        let p = taken_of b.stands in
        answers_after (omega (arith, p.shorter)) (ap (λ o. loop_by lower read o tokens) p.front) (then_answers (g (after tokens) _ _ p.stands refl) (λ x is_x mid m. past_answers _ refl m (λ last q. then_answers (h last spelled steps q e) (λ u is_u rest r. done {y = while_loop (first_line tokens) x u} r (cc (b.line, is_x, is_u))))))

    repeat_step : (line : ℕ) (t : Statement) (more : MoreStatements) (f : Formula) → IsLower t → AllLower more → IsFormula f → IsLoop (repeat_loop line t more f)
    repeat_step line t more f g h k tokens spelled steps s e =
        let b = begun_of s in
        let p = taken_of b.stands in
        answers_after (omega (arith, p.shorter)) (ap (λ o. loop_by lower read o tokens) p.front) (then_answers (g (after tokens) _ _ p.stands (more_statements_ends t more _ refl)) (λ u is_u mid m. then_answers (h (length mid) mid _ _ (omega arith) m refl) (λ us is_us last q. past_answers _ refl q (λ next n. then_answers (k next spelled steps n (action_formula (first spelled) (left_false (continues_action (first spelled)) _ e))) (λ x is_x rest r. done {y = repeat_loop (first_line tokens) u us x} r (cc (b.line, is_u, is_us, is_x)))))))

    for_step : (line : ℕ) (x : Name) (from : Formula) (towards : Direction) (to : Formula) (t : Statement) → IsFormula from → IsFormula to → IsLower t → IsLoop (for_loop line x from towards to t)
    for_step line x from towards to t g h k tokens spelled steps s e =
        let b = begun_of s in
        let p = taken_of b.stands in
        answers_after (omega (arith, p.shorter)) (ap (λ o. loop_by lower read o tokens) p.front) (then_answers (name_complete x p.stands) (λ y is_y next n. past_answers _ refl n (λ behind q. then_answers (g behind _ _ q (direction_ends towards)) (λ v is_v last m. to_step y is_y v is_v last m))))
      where
        to_step : (y : Name) → y ≡ x → (v : Formula) → v ≡ from → (last : List Token) → Stands last (direction_kind towards ∷ formula_spelling in_kinds to (kind.Word word.Do ∷ statement_spelling in_kinds t spelled)) (passes ∷ formula_part.lined to (passes ∷ statement_part.lined t steps)) → Answers (read_to lower read (first_line tokens) y v (direction_of (front last)) last) (for_loop line x from towards to t) last spelled steps
        to_step y is_y v is_v last m =
            let d = taken_of m in
            let line_is : first_line tokens ≡ line = (begun_of s).line in
            answers_after (omega (arith, d.shorter)) (ap (λ o. read_to lower read (first_line tokens) y v o last) (ap direction_of d.front ∙ direction_back towards)) (then_answers (h (after last) _ _ d.stands refl) (λ w is_w more q. past_answers _ refl q (λ ending r. then_answers (k ending spelled steps r e) (λ u is_u rest z. done {y = for_loop (first_line tokens) y v towards w u} z (cc (line_is, is_y, is_v, is_w, is_u))))))

    -- ---- statements

    module _ (inner : Reader Formula) where
      abbrev IsStatement : Statement → Type 0
      IsStatement t = Complete statement_part (continues_statement t) (statement_by lower read inner) t

      abbrev IsInner : Formula → Type 0
      IsInner f = Complete formula_part continues_formula inner f

      empty_step : (line : ℕ) → IsStatement (empty line)
      empty_step line tokens spelled steps s e =
          let b = begun_of s in
          answers_after (omega arith) (ap (λ o. statement_on lower read inner o tokens) (front_of s) ∙ no_statement (first spelled) (left_false (begins_statement (first spelled)) _ (left_false (continues_action (first spelled)) _ e))) (done b.stands (ap empty b.line))
        where
          no_statement : (o : Option TokenKind) → begins_statement o ≡ false → statement_on lower read inner o tokens ≡ Read (empty (first_line tokens), tokens)
          no_statement (Some (kind.Name x)) f = absurd (false≢true (sym f))
          no_statement (Some (kind.Word word.New)) f = absurd (false≢true (sym f))
          no_statement (Some (kind.Word word.Begin)) f = absurd (false≢true (sym f))
          no_statement (Some (kind.Word word.If)) f = absurd (false≢true (sym f))
          no_statement (Some (kind.Word word.Case)) f = absurd (false≢true (sym f))
          no_statement (Some (kind.Word word.Invariant)) f = absurd (false≢true (sym f))
          no_statement (Some (kind.Word word.While)) f = absurd (false≢true (sym f))
          no_statement (Some (kind.Word word.Repeat)) f = absurd (false≢true (sym f))
          no_statement (Some (kind.Word word.For)) f = absurd (false≢true (sym f))
          no_statement (Some (kind.Word word.Assert)) f = absurd (false≢true (sym f))
          no_statement _ f = refl

      assertion_step : (line : ℕ) (f : Formula) → IsFormula f → IsStatement (assertion line f)
      assertion_step line f g tokens spelled steps s e =
          let b = begun_of s in
          let p = taken_of b.stands in
          answers_after (omega (arith, p.shorter)) (ap (λ o. statement_on lower read inner o tokens) p.front) (then_answers (g (after tokens) spelled steps p.stands (action_formula (first spelled) (left_false (continues_action (first spelled)) _ e))) (λ x is_x rest r. done {y = assertion (first_line tokens) x} r (cc (b.line, is_x))))

      creation_step : (line : ℕ) (d : Designator) → Complete designator_part continues_selectors (read_designator inner) d → IsStatement (creation line d)
      creation_step line d g tokens spelled steps s e =
          let b = begun_of s in
          let p = taken_of b.stands in
          answers_after (omega (arith, p.shorter)) (ap (λ o. statement_on lower read inner o tokens) p.front) (past_answers (kind.Sign sign.OpenParenthesis) refl p.stands (λ mid m. then_answers (g mid _ _ m refl) (λ x is_x last q. past_answers (kind.Sign sign.CloseParenthesis) refl q (λ rest r. done {y = creation (first_line tokens) x} r (cc (b.line, is_x))))))

      compound_step : (line here : ℕ) (t : Statement) (more : MoreStatements) → IsLower t → AllLower more → IsStatement (compound line (block here t more))
      compound_step line here t more g h tokens spelled steps s e =
          let b = begun_of s in
          let c = begun_of b.stands in
          let p = taken_of c.stands in
          answers_after (omega (arith, p.shorter)) (ap (λ o. statement_on lower read inner o tokens) p.front) (then_answers (block_behind_step here (first_line tokens) t more c.line g h (after tokens) spelled steps p.stands) (λ x is_x rest r. done {y = compound (first_line tokens) x} r (cc (b.line, is_x))))

      conditional_step : (line : ℕ) (f : Formula) (t : Statement) (other : Otherwise) → may_end t other ≡ true → IsFormula f → IsLower t → Complete otherwise_part (continues_otherwise other) (read_otherwise lower) other → IsStatement (conditional line f t other)
      conditional_step line f t other may g h k tokens spelled steps s e =
          let b = begun_of s in
          let p = taken_of b.stands in
          answers_after (omega (arith, p.shorter)) (ap (λ o. statement_on lower read inner o tokens) p.front) (then_answers (g (after tokens) _ _ p.stands refl) (λ x is_x mid m. past_answers (kind.Word word.Then) refl m (λ last q. then_answers (h last _ _ q (then_ends t other spelled may e)) (λ u is_u next n. then_answers (k next spelled steps n e) (λ z is_z rest r. done {y = conditional (first_line tokens) x u z} r (cc (b.line, is_x, is_u, is_z)))))))

      selection_step : (line : ℕ) (f : Formula) (a : Arm) (more : MoreArms) → IsFormula f → Complete arm_part (continues_arm a) (read_arm lower) a → CompleteList more_arms_part continues_arms (items no_more_arms more_arms (behind (kind.Sign sign.Semicolon) (read_arm lower))) more → IsStatement (selection line f a more)
      selection_step line f a more g h k tokens spelled steps s e =
          let b = begun_of s in
          let p = taken_of b.stands in
          answers_after (omega (arith, p.shorter)) (ap (λ o. statement_on lower read inner o tokens) p.front) (then_answers (g (after tokens) _ _ p.stands refl) (λ x is_x mid m. past_answers (kind.Word word.Of) refl m (λ last q. then_answers (h last _ _ q (more_arms_ends a more _ refl)) (λ u is_u next n. then_answers (k (length next) next _ _ (omega arith) n refl) (λ us is_us ending v. past_answers (kind.Word word.End) refl v (λ rest r. done {y = selection (first_line tokens) x u us} r (cc (b.line, is_x, is_u, is_us))))))))

      plain_step : (line : ℕ) (l : Loop) → IsLoop l → IsStatement (repetition line None l)
      plain_step line l g tokens spelled steps s e =
          let b = begun_of s in
          answers_after (omega arith) (ap (λ o. statement_on lower read inner o tokens) (front_of s) ∙ on_loop l) (then_answers (g tokens spelled steps b.stands e) (λ x is_x rest r. done {y = repetition (first_line tokens) None x} r (cc (b.line, is_x))))
        where
          on_loop : (m : Loop) → statement_on lower read inner (first (loop_spelling in_kinds m spelled)) tokens ≡ read_repetition lower read (first_line tokens) None tokens
          on_loop (while_loop at f t) = refl
          on_loop (repeat_loop at t more f) = refl
          on_loop (for_loop at x from towards to t) = refl

      invariant_step : (line : ℕ) (f : Formula) (l : Loop) → IsFormula f → IsLoop l → IsStatement (repetition line (Some f) l)
      invariant_step line f l g h tokens spelled steps s e =
          let b = begun_of s in
          let p = taken_of b.stands in
          answers_after (omega (arith, p.shorter)) (ap (λ o. statement_on lower read inner o tokens) p.front) (then_answers (g (after tokens) _ _ p.stands (loop_ends l)) (λ x is_x mid m. then_answers (h mid spelled steps m e) (λ y is_y rest r. done {y = repetition (first_line tokens) (Some x) y} r (λ i. repetition (b.line i) (Some (is_x i)) (is_y i)))))
        where
          loop_ends : (m : Loop) → continues_formula (first (loop_spelling in_kinds m spelled)) ≡ false
          loop_ends (while_loop at x t) = refl
          loop_ends (repeat_loop at t more x) = refl
          loop_ends (for_loop at x from towards to t) = refl

-- ---- what begins with a name

-- the name that is read is this one
pub name_same : (tokens : List Token) (x : Name) → first_line tokens ≡ x.line → record { line = first_line tokens; symbol = x.symbol } ≡ x
name_same tokens x e = ap (λ l. record { line = l; symbol = x.symbol }) e

-- no name, assignment or bracket goes on with a call without arguments
plain_ends : (o : Option TokenKind) → continues_action o ≡ false → (is (kind.Sign sign.Becomes) o ≡ false) × (is (kind.Sign sign.OpenParenthesis) o ≡ false) × (continues_selectors o ≡ false)
plain_ends o e =
    let becomes = right_false (begins_statement o) _ e in
    let factor = formula_factor o (right_false (is (kind.Sign sign.Becomes) o) _ becomes) in
    (left_false (is (kind.Sign sign.Becomes) o) _ becomes, left_false (is (kind.Sign sign.OpenParenthesis) o) _ factor, right_false (is (kind.Sign sign.OpenParenthesis) o) _ factor)

module _ (lower : Reader Statement) (n : ℕ) where
  abbrev IsAction : Statement → Type 0
  IsAction t = Complete statement_part (continues_statement t) (statement_by lower (read_formula n) (read_inner n)) t

  assignment_step : (line here : ℕ) (x : Name) (behind : Selectors) (f : Formula) → selectors_depth behind ≤ n → formula_depth f ≤ n → IsAction (assignment line (designator here x behind) f)
  assignment_step line here x behind f d l tokens spelled steps s e =
      let b = begun_of s in
      let m = begun_of b.stands in
      let y = begun_of m.stands in
      let p = taken_of y.stands in
      let shut = ap (is (kind.Sign sign.OpenParenthesis)) (front_of p.stands) ∙ selectors_end behind (kind.Sign sign.Becomes ∷ formula_spelling in_kinds f spelled) refl in
      answers_after (omega (arith, p.shorter)) (ap (λ o. statement_on lower (read_formula n) (read_inner n) o tokens) p.front ∙ if_false _ shut refl) (then_answers (selectors_complete behind n d (length (after tokens)) (after tokens) _ _ (omega arith) p.stands refl) (λ ss is_ss last q. becomes ss is_ss last q))
    where
      becomes : (ss : Selectors) → ss ≡ behind → (last : List Token) → Stands last (kind.Sign sign.Becomes ∷ formula_spelling in_kinds f spelled) (passes ∷ formula_part.lined f steps) → Answers (read_becomes (read_formula n) (read_inner n) (record { line = first_line tokens; symbol = x.symbol }) ss last) (assignment line (designator here x behind) f) last spelled steps
      becomes ss is_ss last q =
          let b = begun_of s in
          let m = begun_of b.stands in
          let y = begun_of m.stands in
          let line_is : first_line tokens ≡ line = b.line in
          let here_is : first_line tokens ≡ here = m.line in
          let name_is : record { line = first_line tokens; symbol = x.symbol } ≡ x = name_same tokens x y.line in
          let r = taken_of q in
          answers_after (omega (arith, r.shorter)) (if_true _ (ap (is (kind.Sign sign.Becomes)) r.front) refl) (then_answers (formula_complete f n l (after last) spelled steps r.stands (action_formula (first spelled) (left_false (continues_action (first spelled)) _ e))) (λ g is_g rest z. done {y = assignment (first_line tokens) (designator (first_line tokens) (record { line = first_line tokens; symbol = x.symbol }) ss) g} z (cc (line_is, here_is, name_is, is_ss, is_g))))

  plain_call_step : (line : ℕ) (x : Name) → IsAction (call line x None)
  plain_call_step line x tokens spelled steps s e =
      let b = begun_of s in
      let y = begun_of b.stands in
      let p = taken_of y.stands in
      let ends = plain_ends (first spelled) (left_false (continues_action (first spelled)) _ e) in
      let line_is : first_line tokens ≡ line = b.line in
      let name_is : record { line = first_line tokens; symbol = x.symbol } ≡ x = name_same tokens x y.line in
      let shut = ap (is (kind.Sign sign.OpenParenthesis)) (front_of p.stands) ∙ ends.1 in
      answers_after (omega (arith, p.shorter)) (ap (λ o. statement_on lower (read_formula n) (read_inner n) o tokens) p.front ∙ if_false _ shut refl) (then_answers (selectors_complete no_selectors n (omega arith) (length (after tokens)) (after tokens) spelled steps (omega arith) p.stands ends.2) (λ ss is_ss last q. answers_after (omega arith) (if_false _ (ap (is (kind.Sign sign.Becomes)) (front_of q) ∙ ends.0) (ap (λ z. read_plain_call (record { line = first_line tokens; symbol = x.symbol }) z last) is_ss)) (done {y = call (first_line tokens) (record { line = first_line tokens; symbol = x.symbol }) None} q (cc (line_is, name_is)))))

  call_step : (line : ℕ) (x : Name) (fs : Several Formula) → Complete formula_part continues_formula (read_inner n) fs.first → Each (Complete formula_part continues_formula (read_inner n)) fs.more → IsAction (call line x (Some fs))
  call_step line x fs g h tokens spelled steps s e =
      let b = begun_of s in
      let y = begun_of b.stands in
      let p = taken_of y.stands in
      let o = taken_of p.stands in
      let line_is : first_line tokens ≡ line = b.line in
      let name_is : record { line = first_line tokens; symbol = x.symbol } ≡ x = name_same tokens x y.line in
      let open_at = ap (is (kind.Sign sign.OpenParenthesis)) o.front in
      answers_after (omega (arith, p.shorter, o.shorter)) (ap (λ z. statement_on lower (read_formula n) (read_inner n) z tokens) p.front ∙ if_true _ open_at refl) (then_answers (several_complete (kind.Sign sign.Comma) formula_part continues_formula (read_inner n) refl refl fs g h (after (after tokens)) (kind.Sign sign.CloseParenthesis ∷ spelled) (passes ∷ steps) o.stands refl) (λ gs is_gs last q. past_answers (kind.Sign sign.CloseParenthesis) refl q (λ rest r. done {y = call (first_line tokens) (record { line = first_line tokens; symbol = x.symbol }) (Some gs)} r (λ i. call (line_is i) (name_is i) (Some (is_gs i))))))

-- ---- designators

pub designator_complete : (d : Designator) (n : ℕ) → designator_depth d ≤ n → Complete designator_part continues_selectors (read_designator (read_inner n)) d
designator_complete (designator line x behind) n d tokens spelled steps s e =
    let b = begun_of s in
    then_answers (name_complete x b.stands) (λ y is_y mid m. then_answers (selectors_complete behind n d (length mid) mid spelled steps (omega arith) m e) (λ ss is_ss rest r. done {y = designator y.line y ss} r (same_designator y is_y ss is_ss)))
  where
    same_designator : (y : Name) → y ≡ x → (ss : Selectors) → ss ≡ behind → designator y.line y ss ≡ designator line x behind
    same_designator y is_y ss is_ss =
        let b = begun_of s in
        let line_is : y.line ≡ line = ap (λ z. z.line) is_y ∙ sym (begun_of b.stands).line ∙ b.line in
        cc (line_is, is_y, is_ss)

-- ---- at every level

formulas_complete : (fs : List Formula) (n : ℕ) → formulas_depth fs ≤ n → Each (Complete formula_part continues_formula (read_inner n)) fs
formulas_complete [] n d = tt
formulas_complete (f ∷ fs) n d = (inner_of n f (λ m h. formula_complete f m h) (omega arith), formulas_complete fs n (omega arith))

-- the calls of the levels
mutual
  pub statement_complete : (t : Statement) (n : ℕ) → statement_ok t ≡ true → statement_depth t ≤ n → Complete statement_part (continues_statement t) (read_statement n) t
  statement_complete (empty line) n ok d = empty_step (read_lower n) (read_formula n) (read_inner n) line
  statement_complete (assignment line (designator here x behind) f) n ok d = assignment_step (read_lower n) n line here x behind f (omega arith) (omega arith)
  statement_complete (call line x None) n ok d = plain_call_step (read_lower n) n line x
  statement_complete (call line x (Some fs)) n ok d =
      call_step (read_lower n) n line x fs (inner_of n fs.first (λ m h. formula_complete fs.first m h) (omega arith)) (formulas_complete fs.more n (omega arith))
  statement_complete (creation line x) n ok d = creation_step (read_lower n) (read_formula n) (read_inner n) line x (designator_complete x n d)
  statement_complete (compound line (block here t more)) n ok d =
      compound_step (read_lower n) (read_formula n) (read_inner n) line here t more (lower_of n t (λ m h. statement_complete t m (left_true _ _ ok) h) (omega arith)) (more_statements_complete more n (right_true (statement_ok t) _ ok) (omega arith))
  statement_complete (conditional line f t other) n ok d =
      conditional_step (read_lower n) (read_formula n) (read_inner n) line f t other (right_true (otherwise_ok other) _ (right_true (statement_ok t) _ ok)) (formula_complete f n (omega arith)) (lower_of n t (λ m h. statement_complete t m (left_true _ _ ok) h) (omega arith)) (otherwise_complete other n (left_true _ _ (right_true (statement_ok t) _ ok)) (omega arith))
  statement_complete (selection line f a more) n ok d =
      selection_step (read_lower n) (read_formula n) (read_inner n) line f a more (formula_complete f n (omega arith)) (arm_complete a n (left_true _ _ ok) (omega arith)) (more_arms_complete more n (right_true (arm_ok a) _ ok) (omega arith))
  statement_complete (repetition line None l) n ok d = plain_step (read_lower n) (read_formula n) (read_inner n) line l (loop_complete l n ok (omega arith))
  statement_complete (repetition line (Some f) l) n ok d =
      invariant_step (read_lower n) (read_formula n) (read_inner n) line f l (formula_complete f n (omega arith)) (loop_complete l n ok (omega arith))
  statement_complete (assertion line f) n ok d = assertion_step (read_lower n) (read_formula n) (read_inner n) line f (formula_complete f n d)

  otherwise_complete : (other : Otherwise) (n : ℕ) → otherwise_ok other ≡ true → otherwise_depth other ≤ n → Complete otherwise_part (continues_otherwise other) (read_otherwise (read_lower n)) other
  otherwise_complete nothing_otherwise n ok d = nothing_otherwise_step (read_lower n)
  otherwise_complete (otherwise t) n ok d = otherwise_step (read_lower n) t (lower_of n t (λ m h. statement_complete t m ok h) d)

  pub block_complete : (b : Block) (n : ℕ) → block_ok b ≡ true → block_depth b ≤ n → Complete block_part never (read_block n) b
  block_complete (block line t more) n ok d =
      block_step (read_lower n) line t more (lower_of n t (λ m h. statement_complete t m (left_true _ _ ok) h) (omega arith)) (more_statements_complete more n (right_true (statement_ok t) _ ok) (omega arith))

  more_statements_complete : (ts : MoreStatements) (n : ℕ) → more_statements_ok ts ≡ true → more_statements_depth ts ≤ n → AllLower (read_lower n) ts
  more_statements_complete no_more_statements n ok d m tokens spelled steps l s e =
      none_complete _ _ _ m s (behind_none (kind.Sign sign.Semicolon) (read_lower n) tokens (ap (is (kind.Sign sign.Semicolon)) (front_of s) ∙ left_false _ _ e))
  more_statements_complete (more_statements t more) n ok d m tokens spelled steps l s e =
      let a = behind_complete (kind.Sign sign.Semicolon) (read_lower n) statement_part (continues_statement t) t refl (lower_of n t (λ k h. statement_complete t k (left_true _ _ ok) h) (omega arith)) tokens _ _ s (more_statements_ends t more spelled e) in
      more_complete _ _ _ m l a (λ k h. more_statements_complete more n (right_true (statement_ok t) _ ok) (omega arith) k a.rest spelled steps h a.stands e)

  arm_complete : (a : Arm) (n : ℕ) → arm_ok a ≡ true → arm_depth a ≤ n → Complete arm_part (continues_arm a) (read_arm (read_lower n)) a
  arm_complete (no_arm line) n ok d = no_arm_step (read_lower n) line
  arm_complete (arm line cs t) n ok d = arm_step (read_lower n) line cs t (lower_of n t (λ m h. statement_complete t m ok h) d)

  more_arms_complete : (ts : MoreArms) (n : ℕ) → more_arms_ok ts ≡ true → more_arms_depth ts ≤ n → CompleteList more_arms_part continues_arms (items no_more_arms more_arms (behind (kind.Sign sign.Semicolon) (read_arm (read_lower n)))) ts
  more_arms_complete no_more_arms n ok d m tokens spelled steps l s e =
      none_complete _ _ _ m s (behind_none (kind.Sign sign.Semicolon) (read_arm (read_lower n)) tokens (ap (is (kind.Sign sign.Semicolon)) (front_of s) ∙ left_false _ _ (right_false (begins_constant (first spelled)) _ e)))
  more_arms_complete (more_arms t more) n ok d m tokens spelled steps l s e =
      let a = behind_complete (kind.Sign sign.Semicolon) (read_arm (read_lower n)) arm_part (continues_arm t) t refl (arm_complete t n (left_true _ _ ok) (omega arith)) tokens _ _ s (more_arms_ends t more spelled e) in
      more_complete _ _ _ m l a (λ k h. more_arms_complete more n (right_true (arm_ok t) _ ok) (omega arith) k a.rest spelled steps h a.stands e)

  loop_complete : (l : Loop) (n : ℕ) → loop_ok l ≡ true → loop_depth l ≤ n → IsLoop (read_lower n) (read_formula n) l
  loop_complete (while_loop line f t) n ok d =
      while_step (read_lower n) (read_formula n) line f t (formula_complete f n (omega arith)) (lower_of n t (λ m h. statement_complete t m ok h) (omega arith))
  loop_complete (repeat_loop line t more f) n ok d =
      repeat_step (read_lower n) (read_formula n) line t more f (lower_of n t (λ m h. statement_complete t m (left_true _ _ ok) h) (omega arith)) (more_statements_complete more n (right_true (statement_ok t) _ ok) (omega arith)) (formula_complete f n (omega arith))
  loop_complete (for_loop line x from towards to t) n ok d =
      for_step (read_lower n) (read_formula n) line x from towards to t (formula_complete from n (omega arith)) (formula_complete to n (omega arith)) (lower_of n t (λ m h. statement_complete t m ok h) (omega arith))
