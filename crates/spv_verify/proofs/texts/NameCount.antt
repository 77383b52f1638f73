-- A text has no more names than tokens.
use Rattle.std.proofs.Common.{◌≡◌, ℕ, suc, ◌+◌, ◌≤◌, ◌<◌, Bool, true, false, if◌then◌else◌, List, [], ◌∷◌, ◌++◌, length, refl, ap, arith}
use Rattle.std.specs.List.{list_any}
use Rattle.std.specs.Str.{bytes_eq}
use Rattle.std.proofs.lemmas.List.{length-append}
use Rattle.spv_lexer.specs.Spelling.{Spelling, word, name, number, sign}
use Rattle.spv_lexer.specs.Reading.{Spelled, reading}
use Rattle.spv_lexer.specs.Tokens.{with_name, names_after, numbered}
use Rattle.spv_parser.specs.language.Texts.{longest_text, names_with, tokens_of}

with_name-length : (names : List (List ℕ)) (kind : Spelling) → length (with_name names kind) ≤ length names + 1
with_name-length names (word w) = omega arith
with_name-length names (name text) = by (list_any (bytes_eq text) names)
  where
    by : (b : Bool) → length (if b then names else names ++ text ∷ []) ≤ length names + 1
    by true = omega arith
    by false = omega (arith, length-append names (text ∷ []))
with_name-length names (number n) = omega arith
with_name-length names (sign s) = omega arith

names_after-length : (names : List (List ℕ)) (tokens : List Spelled) → length (names_after names tokens) ≤ length names + length tokens
names_after-length names [] = omega arith
names_after-length names (t ∷ tokens) = omega (arith, with_name-length names t.kind, names_after-length (with_name names t.kind) tokens)

numbered-length : (names : List (List ℕ)) (tokens : List Spelled) → length (numbered names tokens) ≡ length tokens
unfolding numbered
numbered-length names [] = refl
numbered-length names (t ∷ tokens) = ap suc (numbered-length (with_name names t.kind) tokens)

pub few_names : (old new : List (List ℕ)) (text : List ℕ) → old ≡ [] → new ≡ names_with old text → length (tokens_of old text) ≤ longest_text → length new < 2143289344
few_names old new text empty same few =
    let after : length (names_after old (reading text).tokens) ≤ length old + length (reading text).tokens = names_after-length old (reading text).tokens in
    let tokens : length (numbered old (reading text).tokens) ≡ length (reading text).tokens = numbered-length old (reading text).tokens in
    let none : length old ≡ 0 = ap length empty in
    let all : length new ≡ length (names_after old (reading text).tokens) = ap length same in
    omega (arith, after, tokens, none, all, few)
