-- What is printed of terms and of lines is read back byte by byte.
use Rattle.std.proofs.Common.{◌≡◌, ℕ, Bool, true, false, not, if◌then◌else◌, List, [], ◌∷◌, ◌++◌, Option, Some, None, refl, sym, ap, ◌∙◌, append_assoc}
use Rattle.std.proofs.lemmas.Bool.{false≢true}
use Rattle.std.proofs.lemmas.List.{append-nil}
use Rattle.std.specs.Char.{is_ascii_lowercase}
use Rattle.std.specs.List.{AllByRecursion, list_all, flat_map}
use Rattle.spv_logic.proofs.list.Tests.{left_true, right_true}
use Rattle.spv_listing_values.specs.Written.{Head, Alone, Applied, Written, Writtens, written, no_written, writtens, written_bytes, argument_bytes, rest_bytes, line_bytes}
use Rattle.spv_listing_values.specs.Scanning.{Class, Plain, Blank, Opening, Closing, Ending, class_of, takes_name, Wanted, AnItem, AHead, ANameOf, Group, Scan, between, with_item, with_group, with_word, settle, joined, close, act, step, run, lines_in}
use Rattle.spv_listing_values.specs.Forms.{is_plain_class, is_word_byte, is_word}

-- ---- what can be read back

-- a name is there where one belongs to the word, and only there
abbrev pub IsNamed : Bool → Option (List ℕ) → Type 0
IsNamed true (Some name) = is_word name ≡ true
IsNamed false None = Unit {0}
IsNamed _ _ = ⊥

abbrev mutual
  -- each word is one, and one that stands alone has no arguments
  pub IsSpelled : Written → Type 0
  IsSpelled (written (Alone text) no_written) = is_word text ≡ true
  IsSpelled (written (Alone text) (writtens t ts)) = ⊥
  IsSpelled (written (Applied text name) ts) = (is_word text ≡ true) × IsNamed (takes_name text) name × AreSpelled ts

  pub AreSpelled : Writtens → Type 0
  AreSpelled no_written = Unit {0}
  AreSpelled (writtens t ts) = IsSpelled t × AreSpelled ts

-- a line has an item
abbrev pub IsLine : List Written → Type 0
IsLine [] = ⊥
IsLine (t ∷ ts) = AllByRecursion IsSpelled (t ∷ ts)

-- ---- words

abbrev at : List ℕ → Wanted → List Group → List Written → List (List Written) → Scan
at text wanted groups items lines = record { text = text; wanted = wanted; groups = groups; items = items; lines = lines }

plain_is : (c : Class) → is_plain_class c ≡ true → c ≡ Plain
plain_is Plain h = refl
plain_is Blank h = absurd (false≢true h)
plain_is Opening h = absurd (false≢true h)
plain_is Closing h = absurd (false≢true h)
plain_is Ending h = absurd (false≢true h)

plain_run : (text : List ℕ) → list_all is_word_byte text ≡ true → (seen : List ℕ) (w : Wanted) (groups : List Group) (items : List Written) (lines : List (List Written))
    → run (at seen w groups items lines) text ≡ at (seen ++ text) w groups items lines
plain_run [] h seen w groups items lines = ap (λ (x : List ℕ). at x w groups items lines) (sym (append-nil seen))
plain_run (b ∷ text) h seen w groups items lines =
    ap (λ (c : Class). run (act c b (at seen w groups items lines)) text) (plain_is (class_of b) (left_true (is_plain_class (class_of b)) (not (is_ascii_lowercase b)) (left_true (is_word_byte b) (list_all is_word_byte text) h)))
    ∙ (plain_run text (right_true (is_word_byte b) (list_all is_word_byte text) h) (seen ++ b ∷ []) w groups items lines
    ∙ ap (λ (x : List ℕ). at x w groups items lines) (append_assoc seen (b ∷ []) text))

run_append : (a b : List ℕ) (s : Scan) → run s (a ++ b) ≡ run (run s a) b
run_append [] b s = refl
run_append (x ∷ a) b s = run_append a b (step s x)

-- what follows a word ends it first
pub record Settles (k : List ℕ) : Type 0 where
  pub same : (a b : Scan) → settle a ≡ settle b → run a k ≡ run b k

settles_blank : (k : List ℕ) → Settles (32 ∷ k)
settles_blank k = record { same = λ a b e. ap (λ (s : Scan). run s k) e }

settles_closing : (k : List ℕ) → Settles (41 ∷ k)
settles_closing k = record { same = λ a b e. ap (λ (s : Scan). run (close s) k) e }

settles_ending : (k : List ℕ) → Settles (10 ∷ k)
settles_ending k = record { same = λ a b e. ap (λ (s : Scan). run (between [] [] (s.lines ++ s.items ∷ [])) k) e }

item_rests : (groups : List Group) (items : List Written) (lines : List (List Written)) (t : Written) → settle (with_item groups items lines t) ≡ with_item groups items lines t
item_rests [] items lines t = refl
item_rests (g ∷ groups) items lines t = refl

-- behind the word of a head, with a name to come or without
head_rests : (b : Bool) (text : List ℕ) (groups : List Group) (items : List Written) (lines : List (List Written))
    → settle (if b then at [] (ANameOf text) groups items lines else with_group groups items lines (Applied text None))
    ≡ (if b then at [] (ANameOf text) groups items lines else with_group groups items lines (Applied text None))
head_rests true text groups items lines = refl
head_rests false text groups items lines = refl

-- after a word no word is being read
word_rests : (w : Wanted) (groups : List Group) (items : List Written) (lines : List (List Written)) (text : List ℕ)
    → settle (with_word w groups items lines text) ≡ with_word w groups items lines text
word_rests AnItem groups items lines text = item_rests groups items lines (written (Alone text) no_written)
word_rests AHead groups items lines text = head_rests (takes_name text) text groups items lines
word_rests (ANameOf head) groups items lines text = refl

word_read : (text : List ℕ) → is_word text ≡ true → (w : Wanted) (groups : List Group) (items : List Written) (lines : List (List Written)) (k : List ℕ) → Settles k
    → run (at [] w groups items lines) (text ++ k) ≡ run (with_word w groups items lines text) k
word_read [] h w groups items lines k settles = absurd (false≢true h)
word_read (b ∷ text) h w groups items lines k settles =
    run_append (b ∷ text) k (at [] w groups items lines)
    ∙ (ap (λ (s : Scan). run s k) (plain_run (b ∷ text) h [] w groups items lines)
    ∙ settles.same (at (b ∷ text) w groups items lines) (with_word w groups items lines (b ∷ text)) (sym (word_rests w groups items lines (b ∷ text))))

-- ---- terms

settles_arguments : (ts : Writtens) (k : List ℕ) → Settles (argument_bytes ts ++ k)
settles_arguments no_written k = settles_closing k
settles_arguments (writtens t ts) k = settles_blank ((written_bytes t ++ argument_bytes ts) ++ k)

joined_more : (args : List Written) (t : Written) (ts : Writtens) → joined (args ++ t ∷ []) ts ≡ joined args (writtens t ts)
joined_more [] t ts = refl
joined_more (a ∷ args) t ts = ap (λ (x : Writtens). writtens a x) (joined_more args t ts)

unnamed : (b : Bool) → IsNamed b None → b ≡ false
unnamed true h = absurd h
unnamed false h = refl

named : (b : Bool) (name : List ℕ) → IsNamed b (Some name) → (b ≡ true) × (is_word name ≡ true)
named true name h = (refl, h)
named false name h = absurd h

-- behind a bracket: a word without a name
bare_head : (text rest : List ℕ) → is_word text ≡ true → takes_name text ≡ false → (groups : List Group) (items : List Written) (lines : List (List Written)) → Settles rest
    → run (at [] AHead groups items lines) (text ++ rest) ≡ run (with_group groups items lines (Applied text None)) rest
bare_head text rest h bare groups items lines settles =
    word_read text h AHead groups items lines rest settles
    ∙ ap (λ (b : Bool). run (if b then at [] (ANameOf text) groups items lines else with_group groups items lines (Applied text None)) rest) bare

-- and one with its name
named_head : (text name rest : List ℕ) → is_word text ≡ true → is_word name ≡ true → takes_name text ≡ true → (groups : List Group) (items : List Written) (lines : List (List Written))
    → Settles rest → run (at [] AHead groups items lines) (text ++ (32 ∷ (name ++ rest))) ≡ run (with_group groups items lines (Applied text (Some name))) rest
named_head text name rest h g takes groups items lines settles =
    word_read text h AHead groups items lines (32 ∷ (name ++ rest)) (settles_blank (name ++ rest))
    ∙ (ap (λ (b : Bool). run (if b then at [] (ANameOf text) groups items lines else with_group groups items lines (Applied text None)) (32 ∷ (name ++ rest))) takes
    ∙ word_read name g (ANameOf text) groups items lines rest settles)

mutual
  pub written_read : (t : Written) → IsSpelled t → (groups : List Group) (items : List Written) (lines : List (List Written)) (k : List ℕ) → Settles k
      → run (between groups items lines) (written_bytes t ++ k) ≡ run (with_item groups items lines t) k
  written_read (written (Alone text) no_written) h groups items lines k settles = word_read text h AnItem groups items lines k settles
  written_read (written (Alone text) (writtens t ts)) h groups items lines k settles = absurd h
  written_read (written (Applied text None) ts) h groups items lines k settles =
      ap (λ (x : List ℕ). run (at [] AHead groups items lines) x) (append_assoc text (argument_bytes ts) k)
      ∙ (bare_head text (argument_bytes ts ++ k) h.0 (unnamed (takes_name text) h.1) groups items lines (settles_arguments ts k)
      ∙ arguments_read ts h.2 (Applied text None) [] groups items lines k)
  written_read (written (Applied text (Some name)) ts) h groups items lines k settles =
      let name-is = named (takes_name text) name h.1 in
      ap (λ (x : List ℕ). run (at [] AHead groups items lines) x)
      (append_assoc text (32 ∷ (name ++ argument_bytes ts)) k ∙ ap (λ (x : List ℕ). text ++ (32 ∷ x)) (append_assoc name (argument_bytes ts) k))
      ∙ (named_head text name (argument_bytes ts ++ k) h.0 name-is.1 name-is.0 groups items lines (settles_arguments ts k)
      ∙ arguments_read ts h.2 (Applied text (Some name)) [] groups items lines k)

  pub arguments_read : (ts : Writtens) → AreSpelled ts → (h : Head) (args : List Written) (groups : List Group) (items : List Written) (lines : List (List Written)) (k : List ℕ)
      → run (between (record { head = h; args = args } ∷ groups) items lines) (argument_bytes ts ++ k) ≡ run (with_item groups items lines (written h (joined args ts))) k
  arguments_read no_written s h args groups items lines k = refl
  arguments_read (writtens t ts) s h args groups items lines k =
      ap (λ (x : List ℕ). run (between (record { head = h; args = args } ∷ groups) items lines) x) (append_assoc (written_bytes t) (argument_bytes ts) k)
      ∙ (written_read t s.0 (record { head = h; args = args } ∷ groups) items lines (argument_bytes ts ++ k) (settles_arguments ts k)
      ∙ (arguments_read ts s.1 h (args ++ t ∷ []) groups items lines k
      ∙ ap (λ (x : Writtens). run (with_item groups items lines (written h x)) k) (joined_more args t ts)))

-- ---- lines

settles_rest : (ts : List Written) (k : List ℕ) → Settles (rest_bytes ts ++ k)
settles_rest [] k = settles_ending k
settles_rest (t ∷ ts) k = settles_blank ((written_bytes t ++ rest_bytes ts) ++ k)

rest_read : (ts : List Written) → AllByRecursion IsSpelled ts → (items : List Written) (lines : List (List Written)) (k : List ℕ)
    → run (between [] items lines) (rest_bytes ts ++ k) ≡ run (between [] [] (lines ++ (items ++ ts) ∷ [])) k
rest_read [] h items lines k = ap (λ (x : List Written). run (between [] [] (lines ++ x ∷ [])) k) (sym (append-nil items))
rest_read (t ∷ ts) h items lines k =
    ap (λ (x : List ℕ). run (between [] items lines) x) (append_assoc (written_bytes t) (rest_bytes ts) k)
    ∙ (written_read t h.0 [] items lines (rest_bytes ts ++ k) (settles_rest ts k)
    ∙ (rest_read ts h.1 (items ++ t ∷ []) lines k
    ∙ ap (λ (x : List Written). run (between [] [] (lines ++ x ∷ [])) k) (append_assoc items (t ∷ []) ts)))

line_read : (l : List Written) → IsLine l → (lines : List (List Written)) (k : List ℕ)
    → run (between [] [] lines) (line_bytes l ++ k) ≡ run (between [] [] (lines ++ l ∷ [])) k
line_read [] h lines k = absurd h
line_read (t ∷ ts) h lines k =
    ap (λ (x : List ℕ). run (between [] [] lines) x) (append_assoc (written_bytes t) (rest_bytes ts) k)
    ∙ (written_read t h.0 [] [] lines (rest_bytes ts ++ k) (settles_rest ts k) ∙ rest_read ts h.1 (t ∷ []) lines k)

all_read : (ls : List (List Written)) → AllByRecursion IsLine ls → (lines : List (List Written)) → run (between [] [] lines) (flat_map line_bytes ls) ≡ between [] [] (lines ++ ls)
all_read [] h lines = ap (λ (x : List (List Written)). between [] [] x) (sym (append-nil lines))
all_read (l ∷ ls) h lines =
    line_read l h.0 lines (flat_map line_bytes ls)
    ∙ (all_read ls h.1 (lines ++ l ∷ []) ∙ ap (λ (x : List (List Written)). between [] [] x) (append_assoc lines (l ∷ []) ls))

-- the lines of what is printed are those that were printed
pub lines_read : (ls : List (List Written)) → AllByRecursion IsLine ls → lines_in (flat_map line_bytes ls) ≡ ls
lines_read ls h = ap (λ (s : Scan). s.lines) (all_read ls h [])
