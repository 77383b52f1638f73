use Rattle.std.proofs.Common.{◌≡◌, ◌-◌, length, take, drop, sym, arith, None}
use Rattle.spv_lexer.proofs.Progress.{Reached-start, Reached-piece, Reached-grown, Reached-refused, Reached-end, step_size, next_line, lines-bound, if_err, on_err}
use Rattle.std.specs.Char.{to_ascii_uppercase}
use Rattle.std.proofs.lemmas.List.{take_rest, drop-drop, drop-map}
use Rattle.std.proofs.Math.ListN.{drop_of_length-le}
use Rattle.spv_lexer.specs.Reading.{reading}
use Rattle.spv_lexer.specs.Tokens.{numbered, names_after, HasTextCause}
use Rattle.spv_lexer.proofs.lexer.read.Goals as goal

pub loop-at-init : goal.loop-at-init
loop-at-init c = record {
  reached = rw c.new-tokens.ensures.items (Reached-start c.args.names.now c.args.text.now);
  within = omega arith;
  lines = omega arith;
  room = omega arith;
}

pub read_piece-requires-clause-folded : goal.read_piece-requires-clause-folded
read_piece-requires-clause-folded c = rw (take_rest c.args.upper.now c.loop-at.at, take_rest c.args.text.now c.loop-at.at, c.requires.folded) (drop-map to_ascii_uppercase c.loop-at.at c.args.text.now)

pub returns-in_err-piece-clause-cause : goal.returns-in_err-piece-clause-cause
returns-in_err-piece-clause-cause c = if_err c.from_residual.result _ (HasTextCause c.args.text.now) c.from_residual.ensures.1 (λ e is. rw is (Reached-refused _ _ _ _ _ _ c.loop-at.invariant.reached c.in_err-piece.field-0.0 (rw take_rest at c.in_err-piece.ensures.refused)))

pub returns-in_err-piece-clause-grown : goal.returns-in_err-piece-clause-grown
returns-in_err-piece-clause-grown c = on_err c.from_residual.result _ (rw c.in_err-piece.ensures.err (Reached-grown _ _ _ _ _ _ c.loop-at.invariant.reached))

pub returns-in_err-push_token-clause-grown : goal.returns-in_err-push_token-clause-grown
returns-in_err-push_token-clause-grown c =
    let reached = Reached-piece _ _ _ _ _ _ c.loop-at.invariant.reached c.in_ok-piece.piece c.read_piece.new.names (rw take_rest at c.in_ok-piece.ensures.piece) in
    on_err c.from_residual-in_err-push_token.result _ (Reached-grown _ _ _ _ _ _ reached)

pub overflow_add-at : goal.overflow_add-at
overflow_add-at c =
    let size = step_size c.args.text.now c.loop-at.at c.loop-at.names c.read_piece.new.names c.in_ok-piece.piece c.loop-at-test.true c.in_ok-piece.ensures.piece in
    omega arith

pub loop-at-smaller : goal.loop-at-smaller
loop-at-smaller c =
    let size = step_size c.args.text.now c.loop-at.at c.loop-at.names c.read_piece.new.names c.in_ok-piece.piece c.loop-at-test.true c.in_ok-piece.ensures.piece in
    omega arith

pub overflow_add-line : goal.overflow_add-line
overflow_add-line c =
    let size = step_size c.args.text.now c.loop-at.at c.loop-at.names c.read_piece.new.names c.in_ok-piece.piece c.loop-at-test.true c.in_ok-piece.ensures.piece in
    let few = lines-bound (take (length c.args.text.now - c.loop-at.at) (drop c.loop-at.at c.args.text.now)) c.in_ok-piece.piece.len c.in_ok-piece.piece.lines c.in_ok-piece.ensures.lines in
    omega arith

pub loop-at-preserved : goal.loop-at-preserved
loop-at-preserved c =
    let size = step_size c.args.text.now c.loop-at.at c.loop-at.names c.read_piece.new.names c.in_ok-piece.piece c.loop-at-test.true c.in_ok-piece.ensures.piece in
    let few = lines-bound (take (length c.args.text.now - c.loop-at.at) (drop c.loop-at.at c.args.text.now)) c.in_ok-piece.piece.len c.in_ok-piece.piece.lines c.in_ok-piece.ensures.lines in
    let reached = Reached-piece _ _ _ _ _ _ c.loop-at.invariant.reached c.in_ok-piece.piece c.read_piece.new.names (rw take_rest at c.in_ok-piece.ensures.piece) in
    record {
      reached = rw (next_line c.args.text.now c.loop-at.line c.loop-at.at c.in_ok-piece.piece.len c.in_ok-piece.piece.lines c.in_ok-piece.ensures.lines, c.in_ok-push_token.ensures, sym (drop-drop c.in_ok-piece.piece.len c.loop-at.at c.args.text.now)) reached;
      within = omega arith;
      lines = omega arith;
      room = omega arith;
    }

ended : (c : goal.After-loop-at) → (c.loop-at.tokens.items ≡ numbered c.args.names.now (reading c.args.text.now).tokens) × ((reading c.args.text.now).stop ≡ None) × (c.loop-at.names ≡ names_after c.args.names.now (reading c.args.text.now).tokens)
ended c = Reached-end _ _ _ _ _ _ c.loop-at.invariant.reached (drop_of_length-le c.args.text.now (omega arith))

pub returns-clause-tokens : goal.returns-clause-tokens
returns-clause-tokens c = (ended c).0

pub returns-clause-whole : goal.returns-clause-whole
returns-clause-whole c = (ended c).1

pub returns-clause-names : goal.returns-clause-names
returns-clause-names c = (ended c).2
