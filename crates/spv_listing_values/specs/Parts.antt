-- A line of words and terms as a list of pieces, each term behind its arguments.
use Rattle.std.specs.Prelude.{◌≡◌, ℕ, ◌+◌, ◌<◌, ◌≤◌, List, [], ◌∷◌, ◌++◌, All, length, map, reverse, take, drop, Some, None, slice_range}
use Rattle.std.specs.List.{flat_map}
use Rattle.spv_listing_values.specs.declared.scanning.Span.{Span}
use Rattle.spv_listing_values.specs.declared.scanning.PartHead.{PartHead}
use Rattle.spv_listing_values.specs.declared.scanning.PartHead.TheVariants as part
use Rattle.spv_listing_values.specs.declared.scanning.Part.{Part}
use Rattle.spv_listing_values.specs.declared.scanning.Item.{Item}
use Rattle.spv_listing_values.specs.declared.scanning.Expected.{Expected}
use Rattle.spv_listing_values.specs.declared.scanning.Expected.TheVariants as expected
use Rattle.spv_listing_values.specs.declared.scanning.Line.{Line}
use Rattle.spv_listing_values.specs.Written.{Head, Alone, Applied, Written, Writtens, written, no_written, writtens, word}
use Rattle.spv_listing_values.specs.Scanning.{Class, Opening, Closing, Wanted, AnItem, AHead, ANameOf, Group, Scan, joined, close}
use Rattle.spv_listing_values.specs.Forms.{count}

-- a head, and how many of the terms in front of it are its arguments
pub record Piece : Type 0 where
  pub head : Head
  pub args : ℕ

abbrev mutual
  -- the pieces of a term: those of its arguments, and its head
  pub pieces : Written → List Piece
  pieces (written h ts) = all_pieces ts ++ record { head = h; args = count ts } ∷ []

  pub all_pieces : Writtens → List Piece
  all_pieces no_written = []
  all_pieces (writtens t ts) = pieces t ++ all_pieces ts

-- the terms that pieces make, behind other terms, the last one first
abbrev pub stacked : List Written → List Piece → List Written
stacked terms [] = terms
stacked terms (p ∷ ps) = stacked (written p.head (joined (reverse (take p.args terms)) no_written) ∷ drop p.args terms) ps

abbrev pub first_term : List Written → Written
first_term [] = word []
first_term (t ∷ ts) = t

-- the term of these pieces
abbrev pub term_of : List Piece → Written
term_of ps = first_term (stacked [] ps)

-- ---- as they are kept

abbrev pub text_at : List ℕ → Span → List ℕ
text_at bytes s = slice_range bytes s.start s.end

abbrev pub head_in : List ℕ → PartHead → Head
head_in bytes (part.Alone s) = Alone (text_at bytes s)
head_in bytes (part.Applied s None) = Applied (text_at bytes s) None
head_in bytes (part.Applied s (Some name)) = Applied (text_at bytes s) (Some (text_at bytes name))

abbrev pub piece_at : List ℕ → Part → Piece
piece_at bytes p = record { head = head_in bytes p.head; args = p.args }

pub record IsSpan (bytes : List ℕ) (s : Span) : Type 0 where
  pub in_order : s.start ≤ s.end
  pub in_range : s.end ≤ length bytes

abbrev pub HasSpans : List ℕ → PartHead → Type 0
HasSpans bytes (part.Alone s) = IsSpan bytes s
HasSpans bytes (part.Applied s None) = IsSpan bytes s
HasSpans bytes (part.Applied s (Some name)) = IsSpan bytes s × IsSpan bytes name

abbrev pub AreParts : List ℕ → List Part → Type 0
AreParts bytes ps = All (λ p. HasSpans bytes p.head) ps

-- the pieces of an item, and its term
abbrev pub item_pieces : List ℕ → List Part → Item → List Piece
item_pieces bytes ps i = map (piece_at bytes) (slice_range ps i.first i.end)

abbrev pub item_at : List ℕ → List Part → Item → Written
item_at bytes ps i = term_of (item_pieces bytes ps i)

pub record IsItem (bytes : List ℕ) (ps : List Part) (i : Item) : Type 0 where
  pub in_order : i.first < i.end
  pub in_range : i.end ≤ length ps
  pub pieces_are : pieces (item_at bytes ps i) ≡ item_pieces bytes ps i

pub record IsLine (bytes : List ℕ) (line : Line) : Type 0 where
  pub parts : AreParts bytes line.parts.items
  pub items : All (IsItem bytes line.parts.items) line.items.items

-- the terms of items
abbrev pub items_at : List ℕ → List Part → List Item → List Written
items_at bytes ps is = map (item_at bytes ps) is

-- ---- a line that is read

-- the pieces of terms whose last bracket is still to come, the innermost first
abbrev pub open_pieces : List Group → List Piece
open_pieces [] = []
open_pieces (g ∷ groups) = open_pieces groups ++ flat_map pieces g.args

-- such a term as a piece: its head, and its arguments so far
abbrev pub opened : Group → Piece
opened g = record { head = g.head; args = length g.args }

-- where terms stand among the parts, the first one from this place on
abbrev pub ranges : ℕ → List Written → List Item
ranges k [] = []
ranges k (t ∷ ts) = record { first = k; end = k + length (pieces t) } ∷ ranges (k + length (pieces t)) ts

abbrev pub IsExpected : List ℕ → Expected → Wanted → Type 0
IsExpected bytes expected.AnItem w = w ≡ AnItem
IsExpected bytes expected.AHead w = w ≡ AHead
IsExpected bytes (expected.ANameOf s) w = IsSpan bytes s × (w ≡ ANameOf (text_at bytes s))

-- a line holds what was read of it
pub record IsScanned (bytes : List ℕ) (line : Line) (s : Scan) : Type 0 where
  pub spans : AreParts bytes line.parts.items
  pub parts_are : map (piece_at bytes) line.parts.items ≡ flat_map pieces s.items ++ open_pieces s.groups
  pub items_are : line.items.items ≡ ranges 0 s.items
  pub ended_is : line.ended ≡ length (flat_map pieces s.items)
  pub open_spans : AreParts bytes line.groups.items
  pub groups_are : map (piece_at bytes) (reverse line.groups.items) ≡ map opened s.groups
  pub expected_is : IsExpected bytes line.expected s.wanted

-- the same but for a last part, with which a term ends
pub record EndsWith (bytes : List ℕ) (line : Line) (p : Part) (s : Scan) (t : Written) : Type 0 where
  pub spans : AreParts bytes line.parts.items
  pub part_spans : HasSpans bytes p.head
  pub parts_are : map (piece_at bytes) line.parts.items ++ piece_at bytes p ∷ [] ≡ (flat_map pieces s.items ++ open_pieces s.groups) ++ pieces t
  pub items_are : line.items.items ≡ ranges 0 s.items
  pub ended_is : line.ended ≡ length (flat_map pieces s.items)
  pub open_spans : AreParts bytes line.groups.items
  pub groups_are : map (piece_at bytes) (reverse line.groups.items) ≡ map opened s.groups

-- what a byte does that stands behind a word
abbrev pub marked : Class → Scan → Scan
marked Opening s = record s { wanted = AHead }
marked Closing s = close s
marked _ s = s
