-- A listing's page has no small letter.
use Rattle.std.proofs.Common.{◌≡◌, ℕ, Bool, true, false, not, Option, Some, None, List, [], ◌∷◌, ◌++◌, flat_map, refl, ◌∙◌}
use Rattle.std.specs.Char.{is_ascii_lowercase}
use Rattle.std.specs.List.{AllByRecursion, list_all}
use Rattle.std.proofs.lemmas.Bool.{false≢true}
use Rattle.std.proofs.lemmas.List.Folds.{list_all-append}
use Rattle.spv_logic.proofs.list.Tests.{left_true, right_true}
use Rattle.spv_logic.specs.names.Names.{IsFolded}
use Rattle.spv_listing_values.specs.declared.data.Claim.{Claim}
use Rattle.spv_listing_values.specs.Written.{Alone, Applied, Written, Writtens, written, no_written, writtens, name_bytes, written_bytes, argument_bytes, rest_bytes, line_bytes}
use Rattle.spv_listing_values.specs.Page.{page_lines, page}
use Rattle.spv_listing_values.specs.Scanning.{class_of, takes_name}
use Rattle.spv_listing_values.specs.Forms.{is_plain_class, is_word_byte, is_word, is_listing}
use Rattle.spv_listing_values.proofs.Numerals.{both_true}
use Rattle.spv_listing_values.proofs.Scans.{IsNamed, IsSpelled, AreSpelled, IsLine}
use Rattle.spv_listing_values.proofs.Spelled.{page_are_lines}

abbrev is_large : ℕ → Bool
is_large b = not (is_ascii_lowercase b)

large_append : (a b : List ℕ) → list_all is_large a ≡ true → list_all is_large b ≡ true → list_all is_large (a ++ b) ≡ true
large_append a b h k = list_all-append is_large a b ∙ both_true (list_all is_large a) (list_all is_large b) h k

large_bytes : (text : List ℕ) → list_all is_word_byte text ≡ true → list_all is_large text ≡ true
large_bytes [] h = refl
large_bytes (b ∷ text) h =
    both_true (is_large b) (list_all is_large text) (right_true (is_plain_class (class_of b)) (is_large b) (left_true (is_word_byte b) (list_all is_word_byte text) h))
    (large_bytes text (right_true (is_word_byte b) (list_all is_word_byte text) h))

large_word : (text : List ℕ) → is_word text ≡ true → list_all is_large text ≡ true
large_word [] h = absurd (false≢true h)
large_word (b ∷ text) h = large_bytes (b ∷ text) h

large_name : (b : Bool) (name : Option (List ℕ)) → IsNamed b name → list_all is_large (name_bytes name) ≡ true
large_name true None h = absurd h
large_name true (Some name) h = large_word name h
large_name false None h = refl
large_name false (Some name) h = absurd h

mutual
  large_term : (t : Written) → IsSpelled t → list_all is_large (written_bytes t) ≡ true
  large_term (written (Alone text) no_written) h = large_word text h
  large_term (written (Alone text) (writtens t ts)) h = absurd h
  large_term (written (Applied text name) ts) h =
      large_append text (name_bytes name ++ argument_bytes ts) (large_word text h.0)
      (large_append (name_bytes name) (argument_bytes ts) (large_name (takes_name text) name h.1) (large_arguments ts h.2))

  large_arguments : (ts : Writtens) → AreSpelled ts → list_all is_large (argument_bytes ts) ≡ true
  large_arguments no_written h = refl
  large_arguments (writtens t ts) h = large_append (written_bytes t) (argument_bytes ts) (large_term t h.0) (large_arguments ts h.1)

large_rest : (ts : List Written) → AllByRecursion IsSpelled ts → list_all is_large (rest_bytes ts) ≡ true
large_rest [] h = refl
large_rest (t ∷ ts) h = large_append (written_bytes t) (rest_bytes ts) (large_term t h.0) (large_rest ts h.1)

large_line : (l : List Written) → IsLine l → list_all is_large (line_bytes l) ≡ true
large_line [] h = absurd h
large_line (t ∷ ts) h = large_append (written_bytes t) (rest_bytes ts) (large_term t h.0) (large_rest ts h.1)

large_lines : (ls : List (List Written)) → AllByRecursion IsLine ls → list_all is_large (flat_map line_bytes ls) ≡ true
large_lines [] h = refl
large_lines (l ∷ ls) h = large_append (line_bytes l) (flat_map line_bytes ls) (large_line l h.0) (large_lines ls h.1)

pub page_folded : (cs : List (Claim Written)) → is_listing cs ≡ true → IsFolded (page cs)
page_folded cs h = large_lines (page_lines cs) (page_are_lines cs h)
