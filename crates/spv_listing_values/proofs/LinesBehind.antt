-- Lines that were read before stay in front of those that are read.
use Rattle.std.proofs.Common.{◌≡◌, ℕ, Bool, true, false, if◌then◌else◌, None, List, [], ◌∷◌, ◌++◌, drop, refl, sym, ap, ◌∙◌, append_assoc}
use Rattle.spv_listing_values.specs.Written.{Written, written, word, Applied, no_written}
use Rattle.spv_listing_values.specs.Scanning.{Class, Plain, Blank, Opening, Closing, Ending, class_of, Wanted, AnItem, AHead, ANameOf, Group, Scan, between, with_item, with_group, with_word, settled, settle, takes_name, joined, closed, close, act, step, run, lines_in}
use Rattle.spv_listing_values.specs.Reading.{Reading, with_line, with_lines, nothing}

module _ (ls : List (List Written)) where
  abbrev behind : Scan → Scan
  behind s = record s { lines = ls ++ s.lines }

  item_behind : (groups : List Group) (items : List Written) (lines : List (List Written)) (t : Written) → with_item groups items (ls ++ lines) t ≡ behind (with_item groups items lines t)
  item_behind [] items lines t = refl
  item_behind (g ∷ groups) items lines t = refl

  head_behind : (b : Bool) (groups : List Group) (items : List Written) (lines : List (List Written)) (text : List ℕ)
      → (if b then record { text = []; wanted = ANameOf text; groups = groups; items = items; lines = ls ++ lines } else with_group groups items (ls ++ lines) (Applied text None))
      ≡ behind (if b then record { text = []; wanted = ANameOf text; groups = groups; items = items; lines = lines } else with_group groups items lines (Applied text None))
  head_behind true groups items lines text = refl
  head_behind false groups items lines text = refl

  word_behind : (w : Wanted) (groups : List Group) (items : List Written) (lines : List (List Written)) (text : List ℕ) → with_word w groups items (ls ++ lines) text ≡ behind (with_word w groups items lines text)
  word_behind AnItem groups items lines text = item_behind groups items lines (word text)
  word_behind AHead groups items lines text = head_behind (takes_name text) groups items lines text
  word_behind (ANameOf head) groups items lines text = refl

  settled_behind : (text : List ℕ) (s : Scan) → settled text (behind s) ≡ behind (settled text s)
  settled_behind [] s = refl
  settled_behind (b ∷ text) s = word_behind s.wanted s.groups s.items s.lines (b ∷ text)

  settle_behind : (s : Scan) → settle (behind s) ≡ behind (settle s)
  settle_behind s = settled_behind s.text s

  closed_behind : (groups : List Group) (s : Scan) → closed groups (behind s) ≡ behind (closed groups s)
  closed_behind [] s = refl
  closed_behind (g ∷ groups) s = item_behind groups s.items s.lines (written g.head (joined g.args no_written))

  act_behind : (c : Class) (b : ℕ) (s : Scan) → act c b (behind s) ≡ behind (act c b s)
  act_behind Plain b s = refl
  act_behind Blank b s = settle_behind s
  act_behind Opening b s = ap (λ (t : Scan). record t { wanted = AHead }) (settle_behind s)
  act_behind Closing b s = ap close (settle_behind s) ∙ closed_behind (settle s).groups (settle s)
  act_behind Ending b s =
      ap (λ (t : Scan). between [] [] (t.lines ++ t.items ∷ [])) (settle_behind s)
      ∙ ap (λ (l : List (List Written)). between [] [] l) (append_assoc ls (settle s).lines ((settle s).items ∷ []))

  run_behind : (bytes : List ℕ) (s : Scan) → run (behind s) bytes ≡ behind (run s bytes)
  run_behind [] s = refl
  run_behind (b ∷ bytes) s = ap (λ (t : Scan). run t bytes) (act_behind (class_of b) b s) ∙ run_behind bytes (step s b)

-- the lines that end in bytes
abbrev lines_of : List ℕ → List (List Written)
lines_of bytes = (run (between [] [] []) bytes).lines

-- the first line that ends, and those behind it
pub first_line : (items : List Written) (bytes rest : List ℕ) → run (between [] [] []) bytes ≡ run (between [] [] (items ∷ [])) rest → lines_of bytes ≡ items ∷ lines_of rest
first_line items bytes rest e = ap (λ (s : Scan). s.lines) (e ∙ run_behind (items ∷ []) rest (between [] [] []))

-- what was read of the lines so far, and the lines that are left
pub record IsLeft (bytes : List ℕ) (s : Reading) (at : ℕ) : Type 0 where
  pub is : with_lines s (run (between [] [] []) (drop at bytes)).lines ≡ with_lines nothing (lines_in bytes)

pub left_more : (bytes : List ℕ) (s t : Reading) (at next : ℕ) (items : List Written) → IsLeft bytes s at → run (between [] [] []) (drop at bytes) ≡ run (between [] [] (items ∷ [])) (drop next bytes)
    → t ≡ with_line s items → IsLeft bytes t next
left_more bytes s t at next items left e now = record {
  is =
      ap (λ (r : Reading). with_lines r (lines_of (drop next bytes))) now
      ∙ (ap (with_lines s) (sym (first_line items (drop at bytes) (drop next bytes) e)) ∙ left.is);
}
