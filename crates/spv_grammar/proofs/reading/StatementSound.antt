-- What is read as a statement is spelled at the front, on its lines, and each ELSE belongs to the nearest IF.
use Rattle.std.proofs.Common.{◌≡◌, ℕ, zero, suc, Bool, true, false, ◌&&◌, not, List, ◌∷◌, Option, Some, None, refl, sym, ap}
use Rattle.std.specs.Cmp.Derive.{both_true}
use Rattle.spv_tree.specs.declared.tokens.token.Token.{Token}
use Rattle.spv_tree.specs.declared.tokens.token.TokenKind.{TokenKind}
use Rattle.spv_tree.specs.declared.tokens.token.TokenKind.TheVariants as kind
use Rattle.spv_tree.specs.declared.tokens.token.Word.TheVariants as word
use Rattle.spv_tree.specs.declared.tokens.token.Sign.TheVariants as sign
use Rattle.spv_tree.specs.declared.syntax.names.Name.{Name}
use Rattle.spv_tree.specs.declared.syntax.names.Scalar.{Scalar}
use Rattle.spv_tree.specs.declared.syntax.names.Scalar.TheVariants as scalar
use Rattle.spv_tree.specs.declared.syntax.operators.PlusOrMinus.{PlusOrMinus}
use Rattle.spv_tree.specs.declared.syntax.operators.Direction.{Direction}
use Rattle.spv_tree.specs.syntax.Formulas.{Formula, designator, Selectors, no_selectors, selectors}
use Rattle.spv_tree.specs.syntax.Statements.{Statement, empty, assignment, call, creation, compound, conditional, selection, repetition, assertion, Otherwise, nothing_otherwise, otherwise, Block, block, no_more_statements, more_statements, Arm, no_arm, arm, no_more_arms, more_arms, Loop, while_loop, repeat_loop, for_loop}
use Rattle.spv_tree.specs.syntax.StatementSpelling.{direction_kind}
use Rattle.spv_tree.specs.syntax.Steps.{first_line}
use Rattle.spv_tree.specs.syntax.Reads.{ends_open, otherwise_ends_open, loop_ends_open, may_end, statement_ok, otherwise_ok, block_ok, more_statements_ok, arm_ok, more_arms_ok, loop_ok}
use Rattle.spv_grammar.specs.reading.Readers.{Read, front, after, is, Reader, and_then, behind}
use Rattle.spv_grammar.specs.reading.FormulaReaders.{prefix_of, read_inner, read_formula}
use Rattle.spv_grammar.specs.reading.StatementReaders.{scalar_by, signed_by, read_constant, read_constants, begins_constant, direction_of, read_more_statements, read_block_behind, block_by, read_arm, read_more_arms, read_otherwise, read_while, read_repeat, read_to, read_for, loop_by, read_repetition, read_call, read_plain_call, read_becomes, read_action, read_creation, read_conditional, read_selection, statement_on, statement_by, read_lower, read_statement, read_block}
use Rattle.spv_grammar.specs.reading.Parts.{InFront, BeginsWith, name_part, led, formula_part, selectors_part, constant_part, constants_part, statement_part, otherwise_part, block_part, more_statements_part, arm_part, more_arms_part, loop_part}
use Rattle.spv_grammar.proofs.reading.Fronts.{Passed, some_is, passed, is-true, begun, join, starting_at, started}
use Rattle.spv_grammar.proofs.reading.Sound.{On, on_none, on_some, on_then, on_if, on_past, on_both, on_more, name_begins, name_sound, IsList, items_sound, items_all, behind_sound, behind_all, several_sound}
use Rattle.spv_grammar.proofs.reading.FormulaSound.{prefix_is, selectors_sound, designator_sound, inner_sound, formula_sound}
use Rattle.spv_tree.specs.syntax.Members.{in_lines}
use Rattle.spv_tree.specs.syntax.TypeSpelling.{scalar_spelling, scalar_kind}

-- ---- constants

-- what stands behind the sign, at its place among the lines
abbrev ScalarAt : List Token → Scalar → List Token → Type 0
ScalarAt tokens x rest = InFront (λ ks. scalar_kind x ∷ ks) (scalar_spelling in_lines x) tokens rest

scalar_sound : (tokens : List Token) (o : Option TokenKind) → front tokens ≡ o → On (scalar_by o tokens) (ScalarAt tokens)
scalar_sound tokens (Some (kind.Number n)) e =
    let p = passed _ tokens e in
    on_some _ (scalar.Number n) (after tokens) p
scalar_sound tokens (Some (kind.Name x)) e =
    let n = name_begins tokens x e in
    on_some _ (scalar.Name (record { line = first_line tokens; symbol = x })) (after tokens) n
scalar_sound tokens _ e = on_none _

signed_sound : (tokens : List Token) (o : Option PlusOrMinus) → prefix_of (front tokens) ≡ o → On (signed_by o tokens) (BeginsWith constant_part tokens)
signed_sound tokens None e =
    on_then (scalar_sound tokens (front tokens) refl) (λ x rest a. on_some _ (record { line = first_line tokens; sign = None; value = x }) rest (started a))
signed_sound tokens (Some s) e =
    let p = passed _ tokens (prefix_is (front tokens) s e) in
    on_then (scalar_sound (after tokens) (front (after tokens)) refl) (λ x rest a. on_some _ (record { line = first_line tokens; sign = Some s; value = x }) rest (started (join p a)))

pub constant_sound : (tokens : List Token) → On (read_constant tokens) (BeginsWith constant_part tokens)
constant_sound tokens = signed_sound tokens (prefix_of (front tokens)) refl

pub constants_sound : (tokens : List Token) → On (read_constants tokens) (BeginsWith constants_part tokens)
constants_sound tokens = on_more (several_sound (kind.Sign sign.Comma) constant_part read_constant constant_sound tokens) (λ x rest b. b)

direction_is : (o : Option TokenKind) (d : Direction) → direction_of o ≡ Some d → o ≡ Some (direction_kind d)
direction_is (Some (kind.Word word.To)) d e = ap (λ x. Some (direction_kind x)) (some_is _ _ e)
direction_is (Some (kind.Word word.Downto)) d e = ap (λ x. Some (direction_kind x)) (some_is _ _ e)
direction_is _ d e = absurd (cc)

-- ---- statements

abbrev Else : TokenKind
Else = kind.Word word.Else

-- the statement is at the front, well formed, and no ELSE stands behind an IF without one
pub record StatementAt (tokens : List Token) (s : Statement) (rest : List Token) : Type 0 where
  pub here : BeginsWith statement_part tokens s rest
  pub ok : statement_ok s ≡ true
  pub shut : (ends_open s && is Else (front rest)) ≡ false

pub record OtherwiseAt (tokens : List Token) (other : Otherwise) (rest : List Token) : Type 0 where
  pub here : BeginsWith otherwise_part tokens other rest
  pub ok : otherwise_ok other ≡ true
  pub shut : (otherwise_ends_open other && is Else (front rest)) ≡ false
  pub may : (s : Statement) → (ends_open s && is Else (front tokens)) ≡ false → may_end s other ≡ true

pub record LoopAt (tokens : List Token) (l : Loop) (rest : List Token) : Type 0 where
  pub here : BeginsWith loop_part tokens l rest
  pub ok : loop_ok l ≡ true
  pub shut : (loop_ends_open l && is Else (front rest)) ≡ false

pub record BlockAt (tokens : List Token) (b : Block) (rest : List Token) : Type 0 where
  pub here : BeginsWith block_part tokens b rest
  pub ok : block_ok b ≡ true

pub record ArmAt (tokens : List Token) (a : Arm) (rest : List Token) : Type 0 where
  pub here : BeginsWith arm_part tokens a rest
  pub ok : arm_ok a ≡ true

module _ (lower : Reader Statement) (lower_sound : (tokens : List Token) → On (lower tokens) (StatementAt tokens)) where
  lower_here : (tokens : List Token) → On (lower tokens) (BeginsWith statement_part tokens)
  lower_here tokens = on_more (lower_sound tokens) (λ s rest a. a.here)

  more_statements_list : IsList no_more_statements more_statements (led (kind.Sign sign.Semicolon) statement_part) more_statements_part
  more_statements_list = record {
    none_spelled = λ rest. refl;
    none_lined = λ steps. refl;
    add_spelled = λ x xs rest. refl;
    add_lined = λ x xs steps. refl;
  }

  more_statements_sound : (tokens : List Token) → On (read_more_statements lower tokens) (λ ss rest. BeginsWith more_statements_part tokens ss rest × (more_statements_ok ss ≡ true))
  more_statements_sound tokens =
      on_both (items_sound more_statements_list _ (behind_sound statement_part _ lower lower_here) _ tokens) (items_all (λ s. statement_ok s ≡ true) (λ ss. more_statements_ok ss ≡ true) refl (λ s ss a b. both_true a b) _ (behind_all _ lower _ (λ others. on_more (lower_sound others) (λ s rest a. a.ok))) _ tokens)

  block_sound : (tokens mid : List Token) → Passed (kind.Word word.Begin) tokens mid → On (read_block_behind lower (first_line tokens) mid) (BlockAt tokens)
  block_sound tokens mid p =
      on_then (lower_sound mid) (λ s next a. on_then (more_statements_sound next) (λ more last b. on_past _ last (λ rest q. on_some _ (block (first_line tokens) s more) rest (record {
        here = started (join p (join a.here (join b.0 q)));
        ok = both_true a.ok b.1;
      }))))

  pub block_by_sound : (tokens : List Token) → On (block_by lower tokens) (BlockAt tokens)
  block_by_sound tokens = on_past _ tokens (λ rest p. block_sound tokens rest p)

  arm_sound : (tokens : List Token) → On (read_arm lower tokens) (ArmAt tokens)
  arm_sound tokens =
      on_if (begins_constant (front tokens)) _ _ (λ h. on_then (constants_sound tokens) (λ cs mid a. on_past _ mid (λ last q. on_then (lower_sound last) (λ s rest b. on_some _ (arm (first_line tokens) cs s) rest (record {
        here = started (join a (join q b.here));
        ok = b.ok;
      }))))) (λ h. on_some _ (no_arm (first_line tokens)) tokens (record {
        here = record { spelled = refl; lined = λ steps. begun tokens steps };
        ok = refl;
      }))

  more_arms_list : IsList no_more_arms more_arms (led (kind.Sign sign.Semicolon) arm_part) more_arms_part
  more_arms_list = record {
    none_spelled = λ rest. refl;
    none_lined = λ steps. refl;
    add_spelled = λ x xs rest. refl;
    add_lined = λ x xs steps. refl;
  }

  more_arms_sound : (tokens : List Token) → On (read_more_arms lower tokens) (λ ss rest. BeginsWith more_arms_part tokens ss rest × (more_arms_ok ss ≡ true))
  more_arms_sound tokens =
      on_both (items_sound more_arms_list _ (behind_sound arm_part _ (read_arm lower) (λ others. on_more (arm_sound others) (λ x rest a. a.here))) _ tokens) (items_all (λ s. arm_ok s ≡ true) (λ ss. more_arms_ok ss ≡ true) refl (λ s ss a b. both_true a b) _ (behind_all _ (read_arm lower) _ (λ others. on_more (arm_sound others) (λ s rest a. a.ok))) _ tokens)

  not_open : (b c : Bool) → (b && c) ≡ false → c ≡ true → not b ≡ true
  not_open true true e f = sym e
  not_open true false e f = f
  not_open false c e f = refl

  otherwise_sound : (tokens : List Token) → On (read_otherwise lower tokens) (OtherwiseAt tokens)
  otherwise_sound tokens =
      on_if (is Else (front tokens)) _ _ (λ h. else_sound _ (passed Else tokens (is-true Else (front tokens) h)) h) (λ h. on_some _ nothing_otherwise tokens (record {
        here = record { spelled = refl; lined = λ steps. refl };
        ok = refl;
        shut = h;
        may = λ s e. refl;
      }))
    where
      else_sound : (mid : List Token) → Passed Else tokens mid → is Else (front tokens) ≡ true → On (and_then (lower mid) (λ s rest. Read (otherwise s, rest))) (OtherwiseAt tokens)
      else_sound mid p h =
          on_then (lower_sound mid) (λ s rest a. on_some _ (otherwise s) rest (record {
            here = join p a.here;
            ok = a.ok;
            shut = a.shut;
            may = λ t e. not_open (ends_open t) _ e h;
          }))

  -- ---- loops and statements

  module _ (read inner : Reader Formula) (read_sound : (tokens : List Token) → On (read tokens) (BeginsWith formula_part tokens)) (inner_is_sound : (tokens : List Token) → On (inner tokens) (BeginsWith formula_part tokens)) where
    while_sound : (tokens mid : List Token) → Passed (kind.Word word.While) tokens mid → On (read_while lower read (first_line tokens) mid) (LoopAt tokens)
    while_sound tokens mid p =
        on_then (read_sound mid) (λ f next a. on_past _ next (λ last q. on_then (lower_sound last) (λ s rest b. on_some _ (while_loop (first_line tokens) f s) rest (record {
          here = started (join p (join a (join q b.here)));
          ok = b.ok;
          shut = b.shut;
        }))))

    repeat_sound : (tokens mid : List Token) → Passed (kind.Word word.Repeat) tokens mid → On (read_repeat lower read (first_line tokens) mid) (LoopAt tokens)
    repeat_sound tokens mid p =
        on_then (lower_sound mid) (λ s next a. on_then (more_statements_sound next) (λ more last b. on_past _ last (λ behind q. on_then (read_sound behind) (λ f rest d. on_some _ (repeat_loop (first_line tokens) s more f) rest (record {
          here = started (join p (join a.here (join b.0 (join q d))));
          ok = both_true a.ok b.1;
          shut = refl;
        })))))

    for_sound : (tokens mid : List Token) → Passed (kind.Word word.For) tokens mid → On (read_for lower read (first_line tokens) mid) (LoopAt tokens)
    for_sound tokens mid p =
        on_then (name_sound mid) (λ x next n. on_past _ next (λ behind q. on_then (read_sound behind) (λ from last a. to_sound x from next behind last n q a (direction_of (front last)) refl)))
      where
        to_sound : (x : Name) (from : Formula) (next behind last : List Token) → BeginsWith name_part mid x next → Passed (kind.Sign sign.Becomes) next behind → BeginsWith formula_part behind from last → (o : Option Direction) → direction_of (front last) ≡ o → On (read_to lower read (first_line tokens) x from o last) (LoopAt tokens)
        to_sound x from next behind last n q a None e = on_none _
        to_sound x from next behind last n q a (Some towards) e =
            let d = passed _ last (direction_is (front last) towards e) in
            on_then (read_sound (after last)) (λ to more b. on_past _ more (λ ending r. on_then (lower_sound ending) (λ s rest l. on_some _ (for_loop (first_line tokens) x from towards to s) rest (record {
              here = started (join p (join n (join q (join a (join d (join b (join r l.here)))))));
              ok = l.ok;
              shut = l.shut;
            }))))

    loop_sound : (tokens : List Token) (o : Option TokenKind) → front tokens ≡ o → On (loop_by lower read o tokens) (LoopAt tokens)
    loop_sound tokens (Some (kind.Word word.While)) e = while_sound tokens _ (passed _ tokens e)
    loop_sound tokens (Some (kind.Word word.Repeat)) e = repeat_sound tokens _ (passed _ tokens e)
    loop_sound tokens (Some (kind.Word word.For)) e = for_sound tokens _ (passed _ tokens e)
    loop_sound tokens _ e = on_none _

    plain_sound : (tokens : List Token) → On (read_repetition lower read (first_line tokens) None tokens) (StatementAt tokens)
    plain_sound tokens =
        on_then (loop_sound tokens (front tokens) refl) (λ l rest a. on_some _ (repetition (first_line tokens) None l) rest (record {
          here = started a.here;
          ok = a.ok;
          shut = a.shut;
        }))

    invariant_sound : (tokens mid : List Token) → Passed (kind.Word word.Invariant) tokens mid → On (and_then (read mid) (λ f rest. read_repetition lower read (first_line tokens) (Some f) rest)) (StatementAt tokens)
    invariant_sound tokens mid p =
        on_then (read_sound mid) (λ f next a. on_then (loop_sound next (front next) refl) (λ l rest b. on_some _ (repetition (first_line tokens) (Some f) l) rest (record {
          here = started (join p (join a b.here));
          ok = b.ok;
          shut = b.shut;
        })))

    call_sound : (x : Name) (tokens mid last : List Token) → BeginsWith name_part tokens x mid → Passed (kind.Sign sign.OpenParenthesis) mid last → x.line ≡ first_line tokens → On (read_call inner x last) (StatementAt tokens)
    call_sound x tokens mid last n p l =
        on_then (several_sound (kind.Sign sign.Comma) formula_part inner inner_is_sound last) (λ fs next a. on_past _ next (λ rest q. on_some _ (call x.line x (Some fs)) rest (record {
          here = starting_at x.line l (join n (join p (join a q)));
          ok = refl;
          shut = refl;
        })))

    becomes_sound : (x : Name) (selected : Selectors) (tokens mid last : List Token) → BeginsWith name_part tokens x mid → BeginsWith selectors_part mid selected last → x.line ≡ first_line tokens → On (read_becomes read inner x selected last) (StatementAt tokens)
    becomes_sound x selected tokens mid last n s l =
        on_if (is (kind.Sign sign.Becomes) (front last)) _ _ (λ h. assigned (after last) (passed _ last (is-true _ (front last) h))) (λ h. by_selectors selected s)
      where
        assigned : (next : List Token) → Passed (kind.Sign sign.Becomes) last next → On (and_then (read next) (λ f rest. Read (assignment x.line (designator x.line x selected) f, rest))) (StatementAt tokens)
        assigned next p =
            on_then (read_sound next) (λ f rest a. on_some _ (assignment x.line (designator x.line x selected) f) rest (record {
              here = starting_at x.line l (starting_at x.line l (join n (join s (join p a))));
              ok = refl;
              shut = refl;
            }))

        by_selectors : (behind : Selectors) → BeginsWith selectors_part mid behind last → On (read_plain_call x behind last) (StatementAt tokens)
        by_selectors no_selectors b =
            on_some _ (call x.line x None) last (record {
              here = starting_at x.line l (join n b);
              ok = refl;
              shut = refl;
            })
        by_selectors (selectors y more) b = on_none _

    action_sound : (x : Name) (tokens mid : List Token) → BeginsWith name_part tokens x mid → x.line ≡ first_line tokens → On (read_action read inner x mid) (StatementAt tokens)
    action_sound x tokens mid n l =
        on_if (is (kind.Sign sign.OpenParenthesis) (front mid)) _ _ (λ h. call_sound x tokens mid (after mid) n (passed _ mid (is-true _ (front mid) h)) l) (λ h. on_then (selectors_sound inner inner_is_sound mid) (λ selected last s. becomes_sound x selected tokens mid last n s l))

    creation_sound : (tokens mid : List Token) → Passed (kind.Word word.New) tokens mid → On (read_creation inner (first_line tokens) mid) (StatementAt tokens)
    creation_sound tokens mid p =
        on_past (kind.Sign sign.OpenParenthesis) mid (λ next q. on_then (designator_sound inner inner_is_sound next) (λ d last a. on_past (kind.Sign sign.CloseParenthesis) last (λ rest r. on_some _ (creation (first_line tokens) d) rest (record {
          here = started (join p (join q (join a r)));
          ok = refl;
          shut = refl;
        }))))

    compound_sound : (tokens mid : List Token) → Passed (kind.Word word.Begin) tokens mid → On (and_then (read_block_behind lower (first_line tokens) mid) (λ b rest. Read (compound (first_line tokens) b, rest))) (StatementAt tokens)
    compound_sound tokens mid p =
        on_then (block_sound tokens mid p) (λ b rest a. on_some _ (compound (first_line tokens) b) rest (record {
          here = started a.here;
          ok = a.ok;
          shut = refl;
        }))

    conditional_sound : (tokens mid : List Token) → Passed (kind.Word word.If) tokens mid → On (read_conditional lower read (first_line tokens) mid) (StatementAt tokens)
    conditional_sound tokens mid p =
        on_then (read_sound mid) (λ f next a. on_past _ next (λ last q. on_then (lower_sound last) (λ s behind b. on_then (otherwise_sound behind) (λ other rest d. on_some _ (conditional (first_line tokens) f s other) rest (record {
          here = started (join p (join a (join q (join b.here d.here))));
          ok = both_true b.ok (both_true d.ok (d.may s b.shut));
          shut = d.shut;
        })))))

    selection_sound : (tokens mid : List Token) → Passed (kind.Word word.Case) tokens mid → On (read_selection lower read (first_line tokens) mid) (StatementAt tokens)
    selection_sound tokens mid p =
        on_then (read_sound mid) (λ f next a. on_past _ next (λ last q. on_then (arm_sound last) (λ x behind b. on_then (more_arms_sound behind) (λ more ending d. on_past (kind.Word word.End) ending (λ rest r. on_some _ (selection (first_line tokens) f x more) rest (record {
          here = started (join p (join a (join q (join b.here (join d.0 r)))));
          ok = both_true b.ok d.1;
          shut = refl;
        }))))))

    assertion_sound : (tokens mid : List Token) → Passed (kind.Word word.Assert) tokens mid → On (and_then (read mid) (λ f rest. Read (assertion (first_line tokens) f, rest))) (StatementAt tokens)
    assertion_sound tokens mid p =
        on_then (read_sound mid) (λ f rest a. on_some _ (assertion (first_line tokens) f) rest (record {
          here = started (join p a);
          ok = refl;
          shut = refl;
        }))

    empty_sound : (tokens : List Token) → On (Read (empty (first_line tokens), tokens)) (StatementAt tokens)
    empty_sound tokens = on_some _ (empty (first_line tokens)) tokens (record {
      here = record { spelled = refl; lined = λ steps. begun tokens steps };
      ok = refl;
      shut = refl;
    })

    statement_on_sound : (tokens : List Token) (o : Option TokenKind) → front tokens ≡ o → On (statement_on lower read inner o tokens) (StatementAt tokens)
    statement_on_sound tokens (Some (kind.Name x)) e = action_sound (record { line = first_line tokens; symbol = x }) tokens (after tokens) (name_begins tokens x e) refl
    statement_on_sound tokens (Some (kind.Word word.New)) e = creation_sound tokens _ (passed _ tokens e)
    statement_on_sound tokens (Some (kind.Word word.Begin)) e = compound_sound tokens _ (passed _ tokens e)
    statement_on_sound tokens (Some (kind.Word word.If)) e = conditional_sound tokens _ (passed _ tokens e)
    statement_on_sound tokens (Some (kind.Word word.Case)) e = selection_sound tokens _ (passed _ tokens e)
    statement_on_sound tokens (Some (kind.Word word.Invariant)) e = invariant_sound tokens _ (passed _ tokens e)
    statement_on_sound tokens (Some (kind.Word word.While)) e = plain_sound tokens
    statement_on_sound tokens (Some (kind.Word word.Repeat)) e = plain_sound tokens
    statement_on_sound tokens (Some (kind.Word word.For)) e = plain_sound tokens
    statement_on_sound tokens (Some (kind.Word word.Assert)) e = assertion_sound tokens _ (passed _ tokens e)
    statement_on_sound tokens _ e = empty_sound tokens

    statement_by_sound : (tokens : List Token) → On (statement_by lower read inner tokens) (StatementAt tokens)
    statement_by_sound tokens = statement_on_sound tokens (front tokens) refl

-- ---- at every level

pub lower_sound : (n : ℕ) (tokens : List Token) → On (read_lower n tokens) (StatementAt tokens)
lower_sound zero tokens = on_none _
lower_sound (suc n) tokens = statement_by_sound (read_lower n) (lower_sound n) (read_formula n) (read_inner n) (formula_sound n) (inner_sound n) tokens

pub statement_sound : (n : ℕ) (tokens : List Token) → On (read_statement n tokens) (StatementAt tokens)
statement_sound n tokens = statement_by_sound (read_lower n) (lower_sound n) (read_formula n) (read_inner n) (formula_sound n) (inner_sound n) tokens

pub block_is_sound : (n : ℕ) (tokens : List Token) → On (read_block n tokens) (BlockAt tokens)
block_is_sound n tokens = block_by_sound (read_lower n) (lower_sound n) tokens
