-- Bytes that are read one by one.
use Rattle.std.proofs.Common.{◌≡◌, ℕ, ◌+◌, ◌-◌, ◌<◌, ◌≤◌, Bool, true, false, if◌then◌else◌, Option, Some, None, All, map, reverse, List, [], ◌∷◌, ◌++◌, length, take, drop, get_or, refl, sym, ap, subst, ◌∙◌, slice_range, nat_eq, arith}
use Rattle.std.proofs.lemmas.Bool.{false≢true, eqb-true}
use Rattle.std.proofs.lemmas.List.{drop_more, drop_all, take_more, length-take, length-drop, get_or-drop, map-append, reverse-append}
use Rattle.std.proofs.lemmas.List.Elements.{All-from_recursion}
use Rattle.spv_listing_values.specs.declared.scanning.Span.{Span}
use Rattle.spv_listing_values.specs.declared.scanning.PartHead.TheVariants as part
use Rattle.spv_listing_values.specs.declared.scanning.Part.{Part}
use Rattle.spv_listing_values.specs.declared.scanning.Item.{Item}
use Rattle.spv_listing_values.specs.declared.scanning.Line.{Line}
use Rattle.spv_listing_values.specs.Written.{Head, Alone, Applied, Written, written, no_written, word}
use Rattle.spv_listing_values.specs.Scanning.{Class, Plain, Blank, Opening, Closing, Ending, class_of, Wanted, AnItem, AHead, ANameOf, Group, Scan, between, with_item, with_group, with_word, takes_name, settled, settle, joined, closed, act, step, run}
use Rattle.spv_listing_values.specs.Forms.{count, is_plain_class}
use Rattle.spv_listing_values.specs.Reading.{text_of}
use Rattle.spv_listing_values.specs.Parts.{Piece, pieces, all_pieces, text_at, head_in, piece_at, item_at, open_pieces, IsItem, IsLine, items_at, ranges, IsScanned, marked}
use Rattle.spv_listing_values.proofs.Stacks.{items_again}

-- ---- a word that ends

settled_some : (text : List ℕ) (s : Scan) → 0 < length text → settled text s ≡ with_word s.wanted s.groups s.items s.lines text
settled_some [] s h = absurd (omega (arith, h))
settled_some (b ∷ text) s h = refl

pub settle_some : (s : Scan) (text : List ℕ) → s.text ≡ text → 0 < length text → settle s ≡ with_word s.wanted s.groups s.items s.lines text
settle_some s text e h = ap (λ (t : List ℕ). settled t s) e ∙ settled_some text s h

pub settle_none : (s : Scan) → s.text ≡ [] → settle s ≡ s
settle_none s e = ap (λ (t : List ℕ). settled t s) e

pub range_length : {X : Type 0} (xs : List X) (a b : ℕ) → a ≤ b → b ≤ length xs → length (slice_range xs a b) ≡ b - a
range_length {X} xs a b h k =
    let size = length-take (b - a) (drop a xs) in
    let rest = length-drop a xs in
    omega (arith, size, rest, h, k)

-- what was read between two words: no word, and the lines before
pub record IsBetween (s : Scan) (lines : List (List Written)) : Type 0 where
  pub no_text : s.text ≡ []
  pub same_lines : s.lines ≡ lines

item_between : (groups : List Group) (items : List Written) (lines : List (List Written)) (t : Written) → IsBetween (with_item groups items lines t) lines
item_between [] items lines t = record { no_text = refl; same_lines = refl }
item_between (g ∷ groups) items lines t = record { no_text = refl; same_lines = refl }

word_between : (w : Wanted) (groups : List Group) (items : List Written) (lines : List (List Written)) (text : List ℕ) → IsBetween (with_word w groups items lines text) lines
word_between AnItem groups items lines text = item_between groups items lines (word text)
word_between AHead groups items lines text = by (takes_name text)
  where
    by : (b : Bool) → IsBetween (if b then record { text = []; wanted = ANameOf text; groups = groups; items = items; lines = lines } else with_group groups items lines (Applied text None)) lines
    by true = record { no_text = refl; same_lines = refl }
    by false = record { no_text = refl; same_lines = refl }
word_between (ANameOf head) groups items lines text = record { no_text = refl; same_lines = refl }

settled_between : (text : List ℕ) (s : Scan) → s.text ≡ text → IsBetween (settled text s) s.lines
settled_between [] s e = record { no_text = e; same_lines = refl }
settled_between (b ∷ text) s e = word_between s.wanted s.groups s.items s.lines (b ∷ text)

pub settle_between : (s : Scan) → IsBetween (settle s) s.lines
settle_between s = settled_between s.text s refl

closed_between : (groups : List Group) (s : Scan) (lines : List (List Written)) → IsBetween s lines → IsBetween (closed groups s) lines
closed_between [] s lines h = h
closed_between (g ∷ groups) s lines h =
    let one = item_between groups s.items s.lines (written g.head (joined g.args no_written)) in
    record { no_text = one.no_text; same_lines = one.same_lines ∙ h.same_lines }

pub marked_between : (c : Class) (s : Scan) (lines : List (List Written)) → IsBetween s lines → IsBetween (marked c s) lines
marked_between Plain s lines h = h
marked_between Blank s lines h = h
marked_between Opening s lines h = record { no_text = h.no_text; same_lines = h.same_lines }
marked_between Closing s lines h = closed_between s.groups s lines h
marked_between Ending s lines h = h

-- ---- one byte more

pub run_more : (s : Scan) (bytes : List ℕ) (at : ℕ) → at < length bytes → run s (drop at bytes) ≡ run (step s (get_or bytes at 0)) (drop (at + 1) bytes)
run_more s bytes at h = ap (run s) (drop_more bytes at 0 h)

plain_acts : (c : Class) (b : ℕ) (s : Scan) → is_plain_class c ≡ true → act c b s ≡ record s { text = s.text ++ b ∷ [] }
plain_acts Plain b s h = refl
plain_acts Blank b s h = absurd (false≢true h)
plain_acts Opening b s h = absurd (false≢true h)
plain_acts Closing b s h = absurd (false≢true h)
plain_acts Ending b s h = absurd (false≢true h)

-- a byte of a word
pub plain_step : (s : Scan) (b : ℕ) → is_plain_class (class_of b) ≡ true → step s b ≡ record s { text = s.text ++ b ∷ [] }
plain_step s b h = plain_acts (class_of b) b s h

mark_acts : (c : Class) (b : ℕ) (s : Scan) → is_plain_class c ≡ false → (c ≡ Ending → ⊥) → act c b s ≡ marked c (settle s)
mark_acts Plain b s h never = absurd (false≢true (sym h))
mark_acts Blank b s h never = refl
mark_acts Opening b s h never = refl
mark_acts Closing b s h never = refl
mark_acts Ending b s h never = absurd (never refl)

ends_where : (a b c d : Bool) → (if a then Blank else (if b then Opening else (if c then Closing else (if d then Ending else Plain)))) ≡ Ending → d ≡ true
ends_where true b c d e = absurd cc
ends_where false true c d e = absurd cc
ends_where false false true d e = absurd cc
ends_where false false false true e = refl
ends_where false false false false e = absurd cc

-- a byte behind a word that does not end the line
pub mark_step : (s : Scan) (b : ℕ) → is_plain_class (class_of b) ≡ false → (b ≡ 10 → ⊥) → step s b ≡ marked (class_of b) (settle s)
mark_step s b h never = mark_acts (class_of b) b s h (λ e. never (eqb-true b 10 (ends_where (nat_eq b 32) (nat_eq b 40) (nat_eq b 41) (nat_eq b 10) e)))

-- the line's end
pub end_step : (s : Scan) (b : ℕ) → b ≡ 10 → step s b ≡ between [] [] ((settle s).lines ++ (settle s).items ∷ [])
end_step s b e = ap (λ (c : ℕ). act (class_of c) c s) e

pub range_push : {X : Type 0} (xs : List X) (a b : ℕ) (d : X) → a ≤ b → b < length xs → slice_range xs a (b + 1) ≡ slice_range xs a b ++ get_or xs b d ∷ []
range_push {X} xs a b d h k =
    ap (λ (n : ℕ). take n (drop a xs)) one_more
    ∙ (take_more (drop a xs) (b - a) d (omega (arith, length-drop a xs, h, k)) ∙ ap (λ (x : X). slice_range xs a b ++ x ∷ []) (get_or-drop a xs (b - a) d ∙ ap (λ (n : ℕ). get_or xs n d) place))
  where
    one_more : b + 1 - a ≡ b - a + 1
    one_more = omega (arith, h)

    place : a + (b - a) ≡ b
    place = omega (arith, h)

-- ---- a line that was read

-- where reading stands: what was read since the last mark, and that the line began before
pub record Stands (bytes : List ℕ) (line : Line) (from start at : ℕ) : Type 0 where
  pub scan : Scan
  pub scanned : IsScanned bytes line scan
  pub text_is : scan.text ≡ slice_range bytes start at
  pub no_lines : scan.lines ≡ []
  pub in_order : start ≤ at
  pub runs : run (between [] [] []) (drop from bytes) ≡ run scan (drop at bytes)

pub line_again : (bytes : List ℕ) (line : Line) (s : Scan) → IsScanned bytes line s → IsLine bytes line × (items_at bytes line.parts.items line.items.items ≡ s.items)
line_again bytes line s has =
    let are = items_again bytes line.parts.items [] (open_pieces s.groups) s.items 0 refl has.parts_are in (
      record { parts = has.spans; items = subst (All (IsItem bytes line.parts.items)) (sym has.items_are) (All-from_recursion (IsItem bytes line.parts.items) (ranges 0 s.items) are.each) },
      ap (items_at bytes line.parts.items) has.items_are ∙ are.terms,
    )

-- ---- the head of an item

abbrev pub head_of : Written → Head
head_of (written h ts) = h

last_same : {X : Type 0} (a b : List X) (x y : X) → a ++ x ∷ [] ≡ b ++ y ∷ [] → x ≡ y
last_same a b x y e =
    let turned : x ∷ reverse a ≡ y ∷ reverse b = sym (reverse-append a (x ∷ [])) ∙ (ap reverse e ∙ reverse-append b (y ∷ [])) in
    cc

last_piece : (t : Written) (ps : List Piece) (q : Piece) → pieces t ≡ ps ++ q ∷ [] → head_of t ≡ q.head
last_piece (written h ts) ps q e = ap (λ (p : Piece). p.head) (last_same (all_pieces ts) ps (record { head = h; args = count ts }) q e)

pub item_head : (bytes : List ℕ) (ps : List Part) (i : Item) (p : Part) → IsItem bytes ps i → p ≡ get_or ps (i.end - 1) p → head_of (item_at bytes ps i) ≡ head_in bytes p.head
item_head bytes ps i p item is =
    last_piece (item_at bytes ps i) (map (piece_at bytes) (slice_range ps i.first (i.end - 1))) (piece_at bytes p)
    (item.pieces_are
    ∙ (ap (λ (n : ℕ). map (piece_at bytes) (slice_range ps i.first n)) last
    ∙ (ap (map (piece_at bytes)) (range_push ps i.first (i.end - 1) p first within)
    ∙ (map-append (piece_at bytes) (slice_range ps i.first (i.end - 1)) (get_or ps (i.end - 1) p ∷ [])
    ∙ ap (λ (q : Part). map (piece_at bytes) (slice_range ps i.first (i.end - 1)) ++ piece_at bytes q ∷ []) (sym is)))))
  where
    last : i.end ≡ i.end - 1 + 1
    last = omega (arith, item.in_order)

    first : i.first ≤ i.end - 1
    first = omega (arith, item.in_order)

    within : i.end - 1 < length ps
    within = omega (arith, item.in_order, item.in_range)

alone_word : (t : Written) (text : List ℕ) → head_of t ≡ Alone text → text_of t ≡ text
alone_word (written (Alone word) ts) text e = cc
alone_word (written (Applied word name) ts) text e = absurd cc

applied_word : (t : Written) (text : List ℕ) (name : Option (List ℕ)) → head_of t ≡ Applied text name → text_of t ≡ []
applied_word (written (Alone word) ts) text name e = absurd cc
applied_word (written (Applied word n) ts) text name e = refl

pub item_alone : (bytes : List ℕ) (ps : List Part) (i : Item) (p : Part) (span : Span) → IsItem bytes ps i → p ≡ get_or ps (i.end - 1) p → p.head ≡ part.Alone span
    → text_of (item_at bytes ps i) ≡ text_at bytes span
item_alone bytes ps i p span item is e = alone_word (item_at bytes ps i) (text_at bytes span) (item_head bytes ps i p item is ∙ ap (head_in bytes) e)

applied_in : (bytes : List ℕ) (span : Span) (name : Option Span) (t : Written) → head_of t ≡ head_in bytes (part.Applied span name) → text_of t ≡ []
applied_in bytes span None t e = applied_word t (text_at bytes span) None e
applied_in bytes span (Some n) t e = applied_word t (text_at bytes span) (Some (text_at bytes n)) e

pub item_applied : (bytes : List ℕ) (ps : List Part) (i : Item) (p : Part) (span : Span) (name : Option Span) → IsItem bytes ps i → p ≡ get_or ps (i.end - 1) p
    → p.head ≡ part.Applied span name → text_of (item_at bytes ps i) ≡ []
item_applied bytes ps i p span name item is e = applied_in bytes span name (item_at bytes ps i) (item_head bytes ps i p item is ∙ ap (head_in bytes) e)

-- ---- reading goes on

pub stands_first : (bytes : List ℕ) (line : Line) (from : ℕ) → IsScanned bytes line (between [] [] []) → Stands bytes line from from from
stands_first bytes line from has = record {
  scan = between [] [] [];
  scanned = has;
  text_is = ap (λ (n : ℕ). take n (drop from bytes)) (sym none);
  no_lines = refl;
  in_order = same;
  runs = refl;
}
  where
    none : from - from ≡ 0
    none = omega arith

    same : from ≤ from
    same = omega arith

module _ (bytes : List ℕ) (line : Line) (from start at : ℕ) (st : Stands bytes line from start at) (within : at < length bytes) where
  runs_on : run (between [] [] []) (drop from bytes) ≡ run (step st.scan (get_or bytes at 0)) (drop (at + 1) bytes)
  runs_on = st.runs ∙ run_more st.scan bytes at within

  next_place : start ≤ at + 1
  next_place = omega (arith, st.in_order)

  -- a byte of a word
  pub stands_plain : is_plain_class (class_of (get_or bytes at 0)) ≡ true → Stands bytes line from start (at + 1)
  stands_plain plain = record {
    scan = record st.scan { text = st.scan.text ++ get_or bytes at 0 ∷ [] };
    scanned = record {
      spans = st.scanned.spans;
      parts_are = st.scanned.parts_are;
      items_are = st.scanned.items_are;
      ended_is = st.scanned.ended_is;
      open_spans = st.scanned.open_spans;
      groups_are = st.scanned.groups_are;
      expected_is = st.scanned.expected_is;
    };
    text_is = ap (λ (l : List ℕ). l ++ get_or bytes at 0 ∷ []) st.text_is ∙ sym (range_push bytes start at 0 st.in_order within);
    no_lines = st.no_lines;
    in_order = next_place;
    runs = runs_on ∙ ap (λ (s : Scan). run s (drop (at + 1) bytes)) (plain_step st.scan (get_or bytes at 0) plain);
  }

  -- a byte behind a word
  pub stands_marked : is_plain_class (class_of (get_or bytes at 0)) ≡ false → (get_or bytes at 0 ≡ 10 → ⊥) → (new : Line)
      → IsScanned bytes new (marked (class_of (get_or bytes at 0)) (settle st.scan)) → Stands bytes new from (at + 1) (at + 1)
  stands_marked mark never new has =
      let between_words = marked_between (class_of (get_or bytes at 0)) (settle st.scan) st.scan.lines (settle_between st.scan) in
      record {
        scan = marked (class_of (get_or bytes at 0)) (settle st.scan);
        scanned = has;
        text_is = between_words.no_text ∙ ap (λ (n : ℕ). take n (drop (at + 1) bytes)) (sym none);
        no_lines = between_words.same_lines ∙ st.no_lines;
        in_order = same;
        runs = runs_on ∙ ap (λ (s : Scan). run s (drop (at + 1) bytes)) (mark_step st.scan (get_or bytes at 0) mark never);
      }
    where
      none : at + 1 - (at + 1) ≡ 0
      none = omega arith

      same : at + 1 ≤ at + 1
      same = omega arith

  -- the byte that ends the line
  pub line_ends : get_or bytes at 0 ≡ 10 → (new : Line) → IsScanned bytes new (settle st.scan)
      → IsLine bytes new
      × (run (between [] [] []) (drop from bytes) ≡ run (between [] [] (items_at bytes new.parts.items new.items.items ∷ [])) (drop (at + 1) bytes))
  line_ends end new has =
      let again = line_again bytes new (settle st.scan) has in
      let lines : (settle st.scan).lines ≡ [] = (settle_between st.scan).same_lines ∙ st.no_lines in (
        again.0,
        runs_on
            ∙ (ap (λ (s : Scan). run s (drop (at + 1) bytes)) (end_step st.scan (get_or bytes at 0) end)
            ∙ (ap (λ (ls : List (List Written)). run (between [] [] (ls ++ (settle st.scan).items ∷ [])) (drop (at + 1) bytes)) lines
            ∙ ap (λ (is : List Written). run (between [] [] (is ∷ [])) (drop (at + 1) bytes)) (sym again.1))),
      )

-- no line ends any more
pub no_line : (bytes : List ℕ) (line : Line) (from start at : ℕ) → Stands bytes line from start at → length bytes ≤ at → (run (between [] [] []) (drop from bytes)).lines ≡ []
no_line bytes line from start at st past =
    ap (λ (s : Scan). s.lines) (st.runs ∙ ap (run st.scan) (drop_all at bytes past)) ∙ st.no_lines
