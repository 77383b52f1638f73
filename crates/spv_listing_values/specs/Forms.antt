-- Which values are listings.
use Rattle.std.specs.Prelude.{ℕ, suc, Bool, true, false, ◌&&◌, ◌||◌, not, ◌^◌, List, [], ◌∷◌, ◌++◌, length, Option, Some, None, nat_eq, nat_lt, nat_le, if◌then◌else◌, codes}
use Rattle.std.specs.Char.{is_ascii_lowercase}
use Rattle.std.specs.List.{list_all, list_any}
use Rattle.std.specs.Map.{lookup}
use Rattle.std.specs.Str.{bytes_eq}
use Rattle.std.specs.Str.Parse.{digits_value}
use Rattle.spv_whole.specs.Fraction.{Fraction}
use Rattle.spv_listing_values.specs.declared.data.Header.{Header}
use Rattle.spv_listing_values.specs.declared.data.Step.{Step}
use Rattle.spv_listing_values.specs.declared.data.Step.TheVariants as step
use Rattle.spv_listing_values.specs.declared.data.Split.{Split}
use Rattle.spv_listing_values.specs.declared.data.ProofNode.{ProofNode}
use Rattle.spv_listing_values.specs.declared.data.Instance.{Instance}
use Rattle.spv_listing_values.specs.declared.data.Limit.{Limit}
use Rattle.spv_listing_values.specs.declared.data.Limit.TheVariants as limit
use Rattle.spv_listing_values.specs.declared.data.Verdict.{Verdict}
use Rattle.spv_listing_values.specs.declared.data.Verdict.TheVariants.{Proved, Unproved, GaveUp}
use Rattle.spv_listing_values.specs.declared.data.Claim.{Claim}
use Rattle.spv_listing_values.specs.Written.{Head, Alone, Applied, Written, Writtens, written, no_written, writtens}
use Rattle.spv_listing_values.specs.Lines.{is_equation}
use Rattle.spv_listing_values.specs.Page.{case_numbers}
use Rattle.spv_listing_values.specs.Scanning.{Class, Plain, class_of, takes_name}
use Rattle.spv_listing_values.specs.Reading.{is_fraction}

-- ---- words

abbrev pub is_plain_class : Class → Bool
is_plain_class Plain = true
is_plain_class _ = false

-- a byte of a word ends no word and is no small letter
abbrev pub is_word_byte : ℕ → Bool
is_word_byte b = is_plain_class (class_of b) && not (is_ascii_lowercase b)

-- a word has a byte, and only such
abbrev pub is_word : List ℕ → Bool
is_word [] = false
is_word (b ∷ text) = list_all is_word_byte (b ∷ text)

abbrev pub is_letter : ℕ → Bool
is_letter b = nat_le 65 b && nat_le b 90

abbrev pub is_digit : ℕ → Bool
is_digit b = nat_le 48 b && nat_le b 57

-- the words of the language, which name nothing
abbrev pub reserved : List (List ℕ)
reserved =
    codes "AND" ∷ codes "ARRAY" ∷ codes "ASSERT" ∷ codes "BEGIN" ∷ codes "BY" ∷ codes "CASE" ∷ codes "CONST" ∷ codes "DECLARE" ∷ codes "DIV" ∷ codes "DO"
    ∷ codes "DOWNTO" ∷ codes "ELSE" ∷ codes "END" ∷ codes "ENTRY" ∷ codes "EXIT" ∷ codes "FALSE" ∷ codes "FOR" ∷ codes "FORWARD" ∷ codes "FROM" ∷ codes "FUNCTION"
    ∷ codes "GLOBAL" ∷ codes "IF" ∷ codes "INFER" ∷ codes "INITIAL" ∷ codes "INVARIANT" ∷ codes "MOD" ∷ codes "NEW" ∷ codes "NIL" ∷ codes "NOT" ∷ codes "OF"
    ∷ codes "OR" ∷ codes "PROCEDURE" ∷ codes "PROGRAM" ∷ codes "RECORD" ∷ codes "REPEAT" ∷ codes "REPLACE" ∷ codes "THEN" ∷ codes "TO" ∷ codes "TRUE" ∷ codes "TYPE"
    ∷ codes "UNTIL" ∷ codes "VAR" ∷ codes "WHERE" ∷ codes "WHILE" ∷ codes "PACKED" ∷ codes "SET" ∷ codes "FILE" ∷ codes "WITH" ∷ codes "IN" ∷ codes "GOTO" ∷ codes "LABEL" ∷ []

abbrev pub is_name_byte : ℕ → Bool
is_name_byte b = is_letter b || is_digit b

-- a name is a letter in upper case with letters and digits behind it, and no word of the language
abbrev pub is_name : List ℕ → Bool
is_name [] = false
is_name (b ∷ text) = is_letter b && (list_all is_name_byte text && not (list_any (bytes_eq (b ∷ text)) reserved))

-- digits of a number without a zero in front
abbrev pub is_decimal : List ℕ → Bool
is_decimal [] = false
is_decimal (b ∷ digits) = list_all is_digit (b ∷ digits) && (not (nat_eq b 48) || nat_eq (length digits) 0)

-- a number above 0
abbrev pub is_positive : List ℕ → Bool
is_positive digits = is_decimal digits && nat_lt 0 (digits_value 10 digits)

-- a whole number of 128 bits
abbrev pub is_numeral : List ℕ → Bool
is_numeral [] = false
is_numeral (b ∷ digits) =
    (is_decimal (b ∷ digits) && nat_lt (digits_value 10 (b ∷ digits)) (2 ^ 127))
    || (nat_eq b 45 && (is_positive digits && nat_le (digits_value 10 digits) (2 ^ 127)))

-- what stands in front of the first mark of a fresh name, and what stands behind it
abbrev pub unmarked : List ℕ → List ℕ
unmarked [] = []
unmarked (b ∷ text) = if nat_eq b 64 then [] else b ∷ unmarked text

abbrev pub mark_of : List ℕ → Option (List ℕ)
mark_of [] = None
mark_of (b ∷ text) = if nat_eq b 64 then Some text else mark_of text

-- the number of a fresh name
abbrev pub is_number : List ℕ → Bool
is_number digits = is_positive digits && nat_lt (digits_value 10 digits) (2 ^ 32)

abbrev pub is_mark : Option (List ℕ) → Bool
is_mark None = true
is_mark (Some digits) = is_number digits

-- a name, or a fresh one with its number
abbrev pub is_variable : List ℕ → Bool
is_variable text = is_name (unmarked text) && is_mark (mark_of text)

-- the class of a type
abbrev pub is_class : List ℕ → Bool
is_class [] = false
is_class (b ∷ text) = nat_eq b 35 && is_variable text

-- what stands alone: a truth value, a numeral, a variable or a class
abbrev pub stands_alone : List ℕ → Bool
stands_alone text =
    list_any (bytes_eq text) (codes "TRUE" ∷ codes "FALSE" ∷ []) || (is_numeral text || (is_variable text || is_class text))

-- the operators, each with the number of its arguments
abbrev pub operators : List (List ℕ × ℕ)
operators =
    (codes "+", 2) ∷ (codes "-", 2) ∷ (codes "*", 2) ∷ (codes "DIV", 2) ∷ (codes "MOD", 2) ∷ (codes "=", 2) ∷ (codes "<", 2) ∷ (codes "<=", 2)
    ∷ (codes "NOT", 1) ∷ (codes "AND", 2) ∷ (codes "OR", 2) ∷ (codes "IMPLIES", 2) ∷ (codes "SELECT", 2) ∷ (codes "STORE", 3) ∷ (codes "FIELD", 1)
    ∷ (codes "PUT", 2) ∷ (codes "CELL", 2) ∷ (codes "SETCELL", 3) ∷ (codes "EXTEND", 3) ∷ (codes "POINTERTO", 2) ∷ (codes "CAR", 1) ∷ (codes "CDR", 1)
    ∷ (codes "CONS", 2) ∷ (codes "ATOM", 1) ∷ (codes "NIL", 0) ∷ []

-- an operator has its number of arguments, and a declared symbol any
abbrev pub has_arity : Option ℕ → List ℕ → ℕ → Bool
has_arity None text n = is_name text
has_arity (Some k) text n = nat_eq n k

abbrev pub is_applied_to : List ℕ → ℕ → Bool
is_applied_to text n = has_arity (lookup (bytes_eq text) operators) text n

-- ---- terms

abbrev pub count : Writtens → ℕ
count no_written = 0
count (writtens t ts) = suc (count ts)

-- a name is there where one belongs to the word, and only there
abbrev pub names_rightly : Bool → Option (List ℕ) → Bool
names_rightly true (Some name) = is_word name && is_name name
names_rightly false None = true
names_rightly _ _ = false

abbrev pub is_head : Head → ℕ → Bool
is_head (Alone text) n = is_word text && (stands_alone text && nat_eq n 0)
is_head (Applied text name) n = is_word text && (names_rightly (takes_name text) name && is_applied_to text n)

abbrev mutual
  -- whether it is a term of the language as it is written
  pub is_term : Written → Bool
  is_term (written h ts) = is_head h (count ts) && are_terms ts

  pub are_terms : Writtens → Bool
  are_terms no_written = true
  are_terms (writtens t ts) = is_term t && are_terms ts

-- ---- proofs

abbrev pub is_short : ℕ → Bool
is_short n = nat_lt n (2 ^ 32)

abbrev pub is_long : ℕ → Bool
is_long n = nat_lt n (2 ^ 64)

abbrev pub is_multiple : Fraction × ℕ → Bool
is_multiple m = is_fraction m.0 && is_short m.1

abbrev pub is_relation : Written → Bool
is_relation (written (Alone text) ts) = false
is_relation (written (Applied text name) ts) = list_any (bytes_eq text) (codes "=" ∷ codes "<=" ∷ [])

-- an equation may have multiples for the other direction, and nothing else has them
abbrev pub are_sums : Bool → List (Fraction × ℕ) → Bool
are_sums true second = list_all is_multiple second
are_sums false [] = true
are_sums false (m ∷ second) = false

-- the name of a field is there in a fact of kind 4, and only there
abbrev pub is_field : Bool → Option (List ℕ) → Bool
is_field true (Some name) = is_word name && is_name name
is_field false None = true
is_field _ _ = false

abbrev pub is_fact : Option ℕ → Bool
is_fact None = true
is_fact (Some i) = is_short i

abbrev pub is_step : Step Written → Bool
is_step (step.Given k) = is_short k
is_step (step.Refl t) = is_term t
is_step (step.Symm i) = is_short i
is_step (step.Trans i j) = is_short i && is_short j
is_step (step.Cong t u facts) = is_term t && (is_term u && list_all is_short facts)
is_step (step.Linear r first second) = is_term r && (is_relation r && (list_all is_multiple first && are_sums (is_equation r) second))
is_step (step.Schema k ts name) = nat_lt k (2 ^ 8) && (list_all is_term ts && is_field (nat_eq k 4) name)
is_step (step.Rule r ts) = is_short r && list_all is_term ts
is_step (step.Eval f facts) = is_term f && list_all is_short facts
is_step (step.Contra i j) = is_short i && is_fact j

abbrev pub is_end : Step Written → Bool
is_end (step.Contra i j) = true
is_end _ = false

-- the last step ends the path, and no other does
abbrev pub ends_path : List (Step Written) → Bool
ends_path [] = false
ends_path (s ∷ []) = is_end s
ends_path (s ∷ t ∷ steps) = not (is_end s) && ends_path (t ∷ steps)

-- a split has a case, and its node no step that ends the path; a node without a split ends it
abbrev pub ends_rightly : List (Step Written) → Option (Split Written) → Bool
ends_rightly steps None = ends_path steps
ends_rightly steps (Some s) = (nat_lt 0 s.cases && is_short s.cases) && (is_term s.atom && list_all (λ p. not (is_end p)) steps)

abbrev pub is_node : ProofNode Written → Bool
is_node n = list_all is_step n.steps && ends_rightly n.steps n.split

-- whether nodes are those of the cases that are still to come, each followed by its own cases
abbrev pub is_tree : List ℕ → List (ProofNode Written) → Bool
is_tree [] [] = true
is_tree [] (n ∷ nodes) = false
is_tree (i ∷ waiting) [] = false
is_tree (i ∷ waiting) (n ∷ nodes) = is_tree (case_numbers n.split ++ waiting) nodes

-- a proof has a root; without a node there is none
abbrev pub is_proof : List (ProofNode Written) → Bool
is_proof [] = true
is_proof (n ∷ nodes) = list_all is_node (n ∷ nodes) && is_tree (0 ∷ []) (n ∷ nodes)

-- ---- conditions

abbrev pub is_limit : Limit Written → Bool
is_limit (limit.Splits n) = is_long n
is_limit (limit.Instances n) = is_long n
is_limit (limit.Pivots n) = is_long n
is_limit limit.Terms = true
is_limit (limit.Form t) = is_term t
is_limit (limit.Wide o left right) = is_fraction left && is_fraction right

abbrev pub is_instance : Instance Written → Bool
is_instance i = is_short i.rule && list_all is_term i.values

abbrev pub is_row : Written × Fraction → Bool
is_row row = is_term row.0 && is_fraction row.1

abbrev pub is_verdict : Verdict Written → Bool
is_verdict (Proved nodes) = is_proof nodes
is_verdict (Unproved branch instances table) = list_all is_term branch && (list_all is_instance instances && list_all is_row table)
is_verdict (GaveUp l) = is_limit l

abbrev pub is_header : Header → Bool
is_header h = (is_word h.routine && is_name h.routine) && is_short h.line

abbrev pub is_claim : Claim Written → Bool
is_claim c = is_header c.header && (list_all is_term c.given && (is_term c.goal && is_verdict c.verdict))

-- whether conditions and their verdicts are a listing
abbrev pub is_listing : List (Claim Written) → Bool
is_listing cs = is_short (length cs) && list_all is_claim cs
