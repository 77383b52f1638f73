use Rattle.std.proofs.Common.{◌≡◌, ◌≤◌, ◌∙◌, ℕ, List, length, take, Some, refl, ap, sym}
use Rattle.std.specs.Char.{is_ascii_alphanumeric, is_ascii_digit}
use Rattle.std.specs.List.{take_while}
use Rattle.std.proofs.lemmas.List.{length-take-le}
use Rattle.std.proofs.lemmas.List.Folds.{length-prefix_len}
use Rattle.spv_logic.specs.names.Names.{folded}
use Rattle.spv_logic.proofs.names.NameTable.{IsFolded-folded}
use Rattle.spv_lexer.specs.Spelling.{number, sign, word_or_name}
use Rattle.spv_lexer.specs.Front.{token, letters, front}
use Rattle.spv_lexer.proofs.Lines.{piece_lines, gap_within}
use Rattle.spv_lexer.proofs.Fronts.{run_fits, run_folded, numeral-some, numeral-none}
use Rattle.spv_lexer.proofs.lexer.read_piece.Goals as goal

pub slice_bounds-word_or_name_kind-end : goal.slice_bounds-word_or_name_kind-end
slice_bounds-word_or_name_kind-end c =
    let fits : c.letters-len.result ≤ length c.args.upper.now = rw c.letters-len.ensures (run_fits is_ascii_alphanumeric c.args.rest.now c.args.upper.now c.requires.folded) in
    sym (length-take-le _ _ fits)

pub word_or_name_kind-requires-clause-folded : goal.word_or_name_kind-requires-clause-folded
word_or_name_kind-requires-clause-folded c = rw (c.letters-len.ensures, run_folded is_ascii_alphanumeric c.args.rest.now c.args.upper.now c.requires.folded) (IsFolded-folded (take_while is_ascii_alphanumeric c.args.rest.now))

pub returns-in_ok-kind-in-Letters-clause-piece : goal.returns-in_ok-kind-in-Letters-clause-piece
unfolding letters
returns-in_ok-kind-in-Letters-clause-piece c =
    let run : take c.letters-len.result c.args.upper.now ≡ folded (take_while is_ascii_alphanumeric c.args.rest.now) =
    rw c.letters-len.ensures (run_folded is_ascii_alphanumeric c.args.rest.now c.args.upper.now c.requires.folded) in
    rw (sym c.in-Letters.ensures.front) (
      c.token.ensures.kind ∙ ap Some (rw run at c.in_ok-kind-in-Letters.ensures.kind),
      c.token.ensures.len ∙ c.letters-len.ensures ∙ sym (length-prefix_len is_ascii_alphanumeric c.args.rest.now),
      rw run at c.in_ok-kind-in-Letters.ensures.names,
    )

pub slice_bounds-line_ends-end : goal.slice_bounds-line_ends-end
slice_bounds-line_ends-end c = sym (length-take-le _ _ (gap_within c.args.rest.now c.in-Comment.len (sym c.in-Comment.ensures.front)))

pub returns-in_ok-kind-in-Letters-clause-lines : goal.returns-in_ok-kind-in-Letters-clause-lines
unfolding letters
returns-in_ok-kind-in-Letters-clause-lines c =
    let run : List ℕ = take_while is_ascii_alphanumeric c.args.rest.now in
    piece_lines c.args.rest.now (word_or_name (folded run)) (length run) c.token.result (sym c.in-Letters.ensures.front)
    (c.token.ensures.len ∙ c.letters-len.ensures ∙ sym (length-prefix_len is_ascii_alphanumeric c.args.rest.now)) c.token.ensures.lines

-- the number that is read
read_number : (c : goal.After-token-in-Some) → front c.args.rest.now ≡ token (number c.in-Some.number) (length (take_while is_ascii_digit c.args.rest.now))
read_number c =
    sym (numeral-some (take_while is_ascii_digit c.args.rest.now) c.in-Some.number (rw c.digits-len.ensures at c.in-Some.ensures) ∙ c.in-Digits.ensures.front)

number_long : (c : goal.After-token-in-Some) → c.token-in-Some.result.len ≡ length (take_while is_ascii_digit c.args.rest.now)
number_long c = c.token-in-Some.ensures.len ∙ c.digits-len.ensures ∙ sym (length-prefix_len is_ascii_digit c.args.rest.now)

pub returns-in-Some-clause-piece : goal.returns-in-Some-clause-piece
returns-in-Some-clause-piece c = rw (read_number c) (c.token-in-Some.ensures.kind, number_long c, refl)

pub returns-in-Some-clause-lines : goal.returns-in-Some-clause-lines
returns-in-Some-clause-lines c =
    piece_lines c.args.rest.now (number c.in-Some.number) (length (take_while is_ascii_digit c.args.rest.now)) c.token-in-Some.result (read_number c) (number_long c) c.token-in-Some.ensures.lines

pub returns-in-None-clause-refused : goal.returns-in-None-clause-refused
returns-in-None-clause-refused c =
    (sym (numeral-none (take_while is_ascii_digit c.args.rest.now) (rw c.digits-len.ensures at c.in-None.ensures) ∙ c.in-Digits.ensures.front), refl)

pub returns-in-ShortSign-clause-lines : goal.returns-in-ShortSign-clause-lines
returns-in-ShortSign-clause-lines c =
    piece_lines c.args.rest.now (sign c.in-ShortSign.sign) 1 c.token-in-ShortSign.result (sym c.in-ShortSign.ensures.front) c.token-in-ShortSign.ensures.len c.token-in-ShortSign.ensures.lines

pub returns-in-LongSign-clause-lines : goal.returns-in-LongSign-clause-lines
returns-in-LongSign-clause-lines c =
    piece_lines c.args.rest.now (sign c.in-LongSign.sign) 2 c.token-in-LongSign.result (sym c.in-LongSign.ensures.front) c.token-in-LongSign.ensures.len c.token-in-LongSign.ensures.lines
