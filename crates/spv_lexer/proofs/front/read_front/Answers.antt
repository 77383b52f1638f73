use Rattle.std.proofs.Common.{◌≡◌, ◌∙◌, ◌∷◌, ℕ, [], None, Some, true, false, nat_eq, slice_index_or, codes, refl, sym, rules}
use Rattle.std.specs.Char.{is_ascii_alphabetic, is_ascii_digit}
use Rattle.std.specs.Map.{lookup}
use Rattle.std.specs.Str.{bytes_eq}
use Rattle.spv_tree.specs.declared.tokens.token.Sign.TheVariants.{Plus, Minus, Star, Equal, Less, Greater, CloseParenthesis, OpenBracket, CloseBracket, Comma, Colon, Semicolon, Period, Caret, Hash}
use Rattle.spv_lexer.specs.Spelling.{short_signs, sign}
use Rattle.spv_lexer.specs.Front.{gap, token, fault, bad_byte, is_blank, comment, longest_sign, front}
use Rattle.spv_lexer.specs.Seen.{parenthesis_or_comment}
use Rattle.spv_lexer.proofs.Fronts.{front-same, short-same, front-front_by, front-bad_byte, no_blank}
use Rattle.spv_lexer.proofs.front.read_front.Goals as goal

pub returns-in-10-clause-front : goal.returns-in-10-clause-front
unfolding front
returns-in-10-clause-front c = front-same (λ _. gap 1) 10 c.args.text.now c.requires c.in-10.is (λ _. refl)

pub returns-in-32-clause-front : goal.returns-in-32-clause-front
returns-in-32-clause-front c =
    let blank : is_blank (slice_index_or c.args.text.now 0 0) ≡ true = search rules in
    rw (front-front_by c.args.text.now c.requires, blank) refl

pub returns-in-123-clause-front : goal.returns-in-123-clause-front
unfolding front
returns-in-123-clause-front c = c.comment.ensures.front ∙ front-same (comment (codes "{") (codes "}")) 123 c.args.text.now c.requires c.in-123.is (λ _. refl)

pub returns-in-40-clause-front : goal.returns-in-40-clause-front
unfolding front longest_sign
returns-in-40-clause-front c = c.parenthesis.ensures.front ∙ front-same parenthesis_or_comment 40 c.args.text.now c.requires c.in-40.is (λ _. refl)

pub longest_sign-requires : goal.longest_sign-requires
longest_sign-requires c = short-same 60 (Some Less) c.args.text.now c.requires c.in-60.is refl

pub returns-in-60-clause-front : goal.returns-in-60-clause-front
unfolding front
returns-in-60-clause-front c = c.longest_sign.ensures.front ∙ front-same longest_sign 60 c.args.text.now c.requires c.in-60.is (λ _. refl)

pub longest_sign-requires-in-62 : goal.longest_sign-requires-in-62
longest_sign-requires-in-62 c = short-same 62 (Some Greater) c.args.text.now c.requires c.in-62.is refl

pub returns-in-62-clause-front : goal.returns-in-62-clause-front
unfolding front
returns-in-62-clause-front c = c.longest_sign-in-62.ensures.front ∙ front-same longest_sign 62 c.args.text.now c.requires c.in-62.is (λ _. refl)

pub longest_sign-requires-in-58 : goal.longest_sign-requires-in-58
longest_sign-requires-in-58 c = short-same 58 (Some Colon) c.args.text.now c.requires c.in-58.is refl

pub returns-in-58-clause-front : goal.returns-in-58-clause-front
unfolding front
returns-in-58-clause-front c = c.longest_sign-in-58.ensures.front ∙ front-same longest_sign 58 c.args.text.now c.requires c.in-58.is (λ _. refl)

pub longest_sign-requires-in-46 : goal.longest_sign-requires-in-46
longest_sign-requires-in-46 c = short-same 46 (Some Period) c.args.text.now c.requires c.in-46.is refl

pub returns-in-46-clause-front : goal.returns-in-46-clause-front
unfolding front
returns-in-46-clause-front c = c.longest_sign-in-46.ensures.front ∙ front-same longest_sign 46 c.args.text.now c.requires c.in-46.is (λ _. refl)

pub longest_sign-requires-in-45 : goal.longest_sign-requires-in-45
longest_sign-requires-in-45 c = short-same 45 (Some Minus) c.args.text.now c.requires c.in-45.is refl

pub returns-in-45-clause-front : goal.returns-in-45-clause-front
unfolding front
returns-in-45-clause-front c = c.longest_sign-in-45.ensures.front ∙ front-same longest_sign 45 c.args.text.now c.requires c.in-45.is (λ _. refl)

pub returns-in-43-clause-front : goal.returns-in-43-clause-front
unfolding front longest_sign
returns-in-43-clause-front c = front-same (λ _. token (sign Plus) 1) 43 c.args.text.now c.requires c.in-43.is (λ _. refl)

pub returns-in-42-clause-front : goal.returns-in-42-clause-front
unfolding front longest_sign
returns-in-42-clause-front c = front-same (λ _. token (sign Star) 1) 42 c.args.text.now c.requires c.in-42.is (λ _. refl)

pub returns-in-61-clause-front : goal.returns-in-61-clause-front
unfolding front longest_sign
returns-in-61-clause-front c = front-same (λ _. token (sign Equal) 1) 61 c.args.text.now c.requires c.in-61.is (λ _. refl)

pub returns-in-41-clause-front : goal.returns-in-41-clause-front
unfolding front longest_sign
returns-in-41-clause-front c = front-same (λ _. token (sign CloseParenthesis) 1) 41 c.args.text.now c.requires c.in-41.is (λ _. refl)

pub returns-in-91-clause-front : goal.returns-in-91-clause-front
unfolding front longest_sign
returns-in-91-clause-front c = front-same (λ _. token (sign OpenBracket) 1) 91 c.args.text.now c.requires c.in-91.is (λ _. refl)

pub returns-in-93-clause-front : goal.returns-in-93-clause-front
unfolding front longest_sign
returns-in-93-clause-front c = front-same (λ _. token (sign CloseBracket) 1) 93 c.args.text.now c.requires c.in-93.is (λ _. refl)

pub returns-in-44-clause-front : goal.returns-in-44-clause-front
unfolding front longest_sign
returns-in-44-clause-front c = front-same (λ _. token (sign Comma) 1) 44 c.args.text.now c.requires c.in-44.is (λ _. refl)

pub returns-in-59-clause-front : goal.returns-in-59-clause-front
unfolding front longest_sign
returns-in-59-clause-front c = front-same (λ _. token (sign Semicolon) 1) 59 c.args.text.now c.requires c.in-59.is (λ _. refl)

pub returns-in-94-clause-front : goal.returns-in-94-clause-front
unfolding front longest_sign
returns-in-94-clause-front c = front-same (λ _. token (sign Caret) 1) 94 c.args.text.now c.requires c.in-94.is (λ _. refl)

pub returns-in-35-clause-front : goal.returns-in-35-clause-front
unfolding front longest_sign
returns-in-35-clause-front c = front-same (λ _. token (sign Hash) 1) 35 c.args.text.now c.requires c.in-35.is (λ _. refl)

pub returns-in_default-clause-front : goal.returns-in_default-clause-front
returns-in_default-clause-front c =
    let blank : is_blank (slice_index_or c.args.text.now 0 0) ≡ false = no_blank is_ascii_alphabetic refl refl refl refl (slice_index_or c.args.text.now 0 0) (sym c.if-is_ascii_alphabetic.ensures.value) in
    rw (front-front_by c.args.text.now c.requires, blank, sym c.if-is_ascii_alphabetic.ensures.value) refl

pub returns-in_default-2-clause-front : goal.returns-in_default-2-clause-front
returns-in_default-2-clause-front c =
    let blank : is_blank (slice_index_or c.args.text.now 0 0) ≡ false = no_blank is_ascii_digit refl refl refl refl (slice_index_or c.args.text.now 0 0) (sym c.if-is_ascii_digit.ensures.value) in
    rw (front-front_by c.args.text.now c.requires, blank, sym c.if-is_ascii_alphabetic.ensures.value, sym c.if-is_ascii_digit.ensures.value) refl

pub returns-in_default-3-clause-front : goal.returns-in_default-3-clause-front
returns-in_default-3-clause-front c =
    let b : ℕ = slice_index_or c.args.text.now 0 0 in
    let blank : is_blank b ≡ false = search rules in
    let brace : nat_eq 123 b ≡ false = search rules in
    let parenthesis : nat_eq 40 b ≡ false = search rules in
    let less : nat_eq b 60 ≡ false = search rules in
    let greater : nat_eq b 62 ≡ false = search rules in
    let colon : nat_eq b 58 ≡ false = search rules in
    let period : nat_eq b 46 ≡ false = search rules in
    let minus : nat_eq b 45 ≡ false = search rules in
    let none : lookup (bytes_eq (b ∷ [])) short_signs ≡ None = search rules in
    front-same (λ _. fault bad_byte) b c.args.text.now c.requires refl
    (λ rest. sym (front-bad_byte b rest blank (sym c.if-is_ascii_alphabetic.ensures.value) (sym c.if-is_ascii_digit.ensures.value) brace parenthesis less greater colon period minus none))
