-- The pieces of a term make the term.
use Rattle.std.proofs.Common.{◌≡◌, ℕ, suc, ◌+◌, ◌-◌, ◌<◌, ◌≤◌, List, [], ◌∷◌, ◌++◌, map, reverse, length, take, drop, refl, sym, ap, ◌∙◌, append_assoc, append-nil, add-zero, add_assoc, slice_range, arith}
use Rattle.std.specs.List.{flat_map, AllByRecursion}
use Rattle.std.proofs.lemmas.List.{reverse-append, reverse-reverse, length-reverse, take_at, drop_at, take-map, drop-map, length-append, length-map}
use Rattle.spv_listing_values.specs.declared.scanning.Part.{Part}
use Rattle.spv_listing_values.specs.declared.scanning.Item.{Item}
use Rattle.spv_listing_values.specs.Written.{Head, Written, Writtens, written, no_written, writtens}
use Rattle.spv_listing_values.specs.Scanning.{joined}
use Rattle.spv_listing_values.specs.Forms.{count}
use Rattle.spv_listing_values.specs.Parts.{Piece, pieces, all_pieces, stacked, first_term, term_of, piece_at, item_pieces, item_at, IsItem, items_at, ranges}

-- arguments as a list
abbrev pub listed : Writtens → List Written
listed no_written = []
listed (writtens t ts) = t ∷ listed ts

pub joined_listed : (ts : Writtens) → joined (listed ts) no_written ≡ ts
joined_listed no_written = refl
joined_listed (writtens t ts) = ap (λ (us : Writtens). writtens t us) (joined_listed ts)

pub listed_joined : (ts : List Written) → listed (joined ts no_written) ≡ ts
listed_joined [] = refl
listed_joined (t ∷ ts) = ap (λ (us : List Written). t ∷ us) (listed_joined ts)

pub count_listed : (ts : Writtens) → count ts ≡ length (listed ts)
count_listed no_written = refl
count_listed (writtens t ts) = ap suc (count_listed ts)

pub count_joined : (ts : List Written) → count (joined ts no_written) ≡ length ts
count_joined ts = count_listed (joined ts no_written) ∙ ap length (listed_joined ts)

pub all_pieces_joined : (ts : List Written) → all_pieces (joined ts no_written) ≡ flat_map pieces ts
all_pieces_joined [] = refl
all_pieces_joined (t ∷ ts) = ap (λ (ps : List Piece). pieces t ++ ps) (all_pieces_joined ts)

-- ---- a term on top of others

-- a head over the terms on top
over_top : (h : Head) (ts : Writtens) (terms : List Written) (ps : List Piece)
    → stacked (reverse (listed ts) ++ terms) (record { head = h; args = count ts } ∷ ps) ≡ stacked (written h ts ∷ terms) ps
over_top h ts terms ps =
    let size : length (reverse (listed ts)) ≡ count ts = length-reverse (listed ts) ∙ sym (count_listed ts) in
    let top : reverse (take (count ts) (reverse (listed ts) ++ terms)) ≡ listed ts = ap reverse (take_at (reverse (listed ts)) terms (count ts) size) ∙ reverse-reverse (listed ts) in
    ap (λ (us : List Written). stacked (written h (joined us no_written) ∷ drop (count ts) (reverse (listed ts) ++ terms)) ps) top
    ∙ (ap (λ (us : Writtens). stacked (written h us ∷ drop (count ts) (reverse (listed ts) ++ terms)) ps) (joined_listed ts)
    ∙ ap (λ (us : List Written). stacked (written h ts ∷ us) ps) (drop_at (reverse (listed ts)) terms (count ts) size))

mutual
  one_stacked : (t : Written) (terms : List Written) (ps : List Piece) → stacked terms (pieces t ++ ps) ≡ stacked (t ∷ terms) ps
  one_stacked (written h ts) terms ps =
      ap (stacked terms) (append_assoc (all_pieces ts) (record { head = h; args = count ts } ∷ []) ps)
      ∙ (all_stacked ts terms (record { head = h; args = count ts } ∷ ps) ∙ over_top h ts terms ps)

  all_stacked : (ts : Writtens) (terms : List Written) (ps : List Piece) → stacked terms (all_pieces ts ++ ps) ≡ stacked (reverse (listed ts) ++ terms) ps
  all_stacked no_written terms ps = refl
  all_stacked (writtens t ts) terms ps =
      ap (stacked terms) (append_assoc (pieces t) (all_pieces ts) ps)
      ∙ (one_stacked t terms (all_pieces ts ++ ps)
      ∙ (all_stacked ts (t ∷ terms) ps
      ∙ ap (λ (us : List Written). stacked us ps) (sym (append_assoc (reverse (listed ts)) (t ∷ []) terms) ∙ ap (λ (us : List Written). us ++ terms) (sym (reverse-append (t ∷ []) (listed ts))))))

pub term_again : (t : Written) → term_of (pieces t) ≡ t
term_again t = ap (λ (ps : List Piece). first_term (stacked [] ps)) (sym (append-nil (pieces t))) ∙ ap first_term (one_stacked t [] [])

pub pieces_some : (t : Written) → 0 < length (pieces t)
pieces_some (written h ts) =
    let more = length-append (all_pieces ts) (record { head = h; args = count ts } ∷ []) in
    omega (arith, more)

-- ---- items of a line

part_of : {X : Type 0} (front mid back : List X) (k n : ℕ) → length front ≡ k → k + length mid ≡ n → slice_range (front ++ (mid ++ back)) k n ≡ mid
part_of {X} front mid back k n e f =
    ap (λ (l : List X). take (n - k) l) (drop_at front (mid ++ back) k e) ∙ take_at mid back (n - k) size
  where
    size : length mid ≡ n - k
    size = omega (arith, f)

abbrev at_places : List ℕ → List Part → List Piece
at_places bytes ps = map (piece_at bytes) ps

range_is : (bytes : List ℕ) (ps : List Part) (i : Item) → item_pieces bytes ps i ≡ slice_range (at_places bytes ps) i.first i.end
range_is bytes ps i = sym (take-map (piece_at bytes) (i.end - i.first) (drop i.first ps)) ∙ ap (take (i.end - i.first)) (sym (drop-map (piece_at bytes) i.first ps))

-- items that stand one behind the other
pub record AreItems (bytes : List ℕ) (ps : List Part) (is : List Item) (ts : List Written) : Type 0 where
  pub each : AllByRecursion (IsItem bytes ps) is
  pub terms : items_at bytes ps is ≡ ts

module _ (bytes : List ℕ) (ps : List Part) (front back : List Piece) (t : Written) (ts : List Written) (k : ℕ) (e : length front ≡ k)
    (are : at_places bytes ps ≡ front ++ (flat_map pieces (t ∷ ts) ++ back)) where
  abbrev first_item : Item
  first_item = record { first = k; end = k + length (pieces t) }

  split : at_places bytes ps ≡ front ++ (pieces t ++ (flat_map pieces ts ++ back))
  split = are ∙ ap (λ (l : List Piece). front ++ l) (append_assoc (pieces t) (flat_map pieces ts) back)

  mine : item_pieces bytes ps first_item ≡ pieces t
  mine =
      range_is bytes ps first_item
      ∙ (ap (λ (l : List Piece). slice_range l k (k + length (pieces t))) split ∙ part_of front (pieces t) (flat_map pieces ts ++ back) k (k + length (pieces t)) e refl)

  mine_term : item_at bytes ps first_item ≡ t
  mine_term = ap term_of mine ∙ term_again t

  longer : length (front ++ pieces t) ≡ k + length (pieces t)
  longer = length-append front (pieces t) ∙ ap (λ (n : ℕ). n + length (pieces t)) e

  behind : at_places bytes ps ≡ (front ++ pieces t) ++ (flat_map pieces ts ++ back)
  behind = split ∙ sym (append_assoc front (pieces t) (flat_map pieces ts ++ back))

  in_order : k < k + length (pieces t)
  in_order = let some = pieces_some t in omega (arith, some)

  within : k + length (pieces t) ≤ length ps
  within =
      let all : length (at_places bytes ps) ≡ length ps = length-map ps (piece_at bytes) in
      let whole : length (at_places bytes ps) ≡ length front + (length (pieces t) + length (flat_map pieces ts ++ back)) =
      ap length split ∙ (length-append front (pieces t ++ (flat_map pieces ts ++ back)) ∙ ap (λ (n : ℕ). length front + n) (length-append (pieces t) (flat_map pieces ts ++ back))) in
      omega (arith, all, whole, e)

  one_more : AreItems bytes ps (ranges (k + length (pieces t)) ts) ts → AreItems bytes ps (first_item ∷ ranges (k + length (pieces t)) ts) (t ∷ ts)
  one_more others = record {
    each = (record { in_order = in_order; in_range = within; pieces_are = ap pieces mine_term ∙ sym mine }, others.each);
    terms = ap (λ (u : Written). u ∷ items_at bytes ps (ranges (k + length (pieces t)) ts)) mine_term ∙ ap (λ (us : List Written). t ∷ us) others.terms;
  }

pub items_again : (bytes : List ℕ) (ps : List Part) (front back : List Piece) (ts : List Written) (k : ℕ) → length front ≡ k
    → at_places bytes ps ≡ front ++ (flat_map pieces ts ++ back) → AreItems bytes ps (ranges k ts) ts
items_again bytes ps front back [] k e are = record { each = tt; terms = refl }
items_again bytes ps front back (t ∷ ts) k e are =
    one_more bytes ps front back t ts k e are
    (items_again bytes ps (front ++ pieces t) back ts (k + length (pieces t)) (longer bytes ps front back t ts k e are) (behind bytes ps front back t ts k e are))

-- where items are that are put behind others
pub ranges-push : (ts : List Written) (t : Written) (k : ℕ)
    → ranges k (ts ++ t ∷ []) ≡ ranges k ts ++ record { first = k + length (flat_map pieces ts); end = k + length (flat_map pieces ts) + length (pieces t) } ∷ []
ranges-push [] t k = ap (λ (n : ℕ). record { first = n; end = n + length (pieces t) } ∷ []) (sym (add-zero k))
ranges-push (u ∷ ts) t k =
    let size : k + length (pieces u) + length (flat_map pieces ts) ≡ k + length (flat_map pieces (u ∷ ts)) =
    add_assoc k (length (pieces u)) (length (flat_map pieces ts)) ∙ ap (λ (n : ℕ). k + n) (sym (length-append (pieces u) (flat_map pieces ts))) in
    ap (λ (is : List Item). record { first = k; end = k + length (pieces u) } ∷ is)
    (ranges-push ts t (k + length (pieces u))
    ∙ ap (λ (n : ℕ). ranges (k + length (pieces u)) ts ++ record { first = n; end = n + length (pieces t) } ∷ []) size)
