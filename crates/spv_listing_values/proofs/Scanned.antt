-- What is read of a line, and what the line holds then.
use Rattle.std.proofs.Common.{◌≡◌, ℕ, suc, ◌+◌, List, [], ◌∷◌, ◌++◌, map, reverse, length, refl, sym, ap, subst, ◌∙◌, append_assoc, append-nil, arith}
use Rattle.std.specs.List.{flat_map}
use Rattle.std.proofs.lemmas.Grind.{flat_map-append}
use Rattle.std.proofs.lemmas.List.{reverse-append, length-append, length-map, map-append}
use Rattle.std.proofs.lemmas.List.Elements.{All-push, All-nil}
use Rattle.spv_listing_values.specs.declared.scanning.Span.{Span}
use Rattle.spv_listing_values.specs.declared.scanning.PartHead.TheVariants as part
use Rattle.spv_listing_values.specs.declared.scanning.Part.{Part}
use Rattle.spv_listing_values.specs.declared.scanning.Item.{Item}
use Rattle.spv_listing_values.specs.declared.scanning.Expected.{Expected}
use Rattle.spv_listing_values.specs.declared.scanning.Expected.TheVariants as expected
use Rattle.spv_listing_values.specs.declared.scanning.Line.{Line}
use Rattle.spv_listing_values.specs.Written.{Head, Alone, Written, written, no_written, word}
use Rattle.spv_listing_values.specs.Scanning.{AnItem, Group, Scan, with_item, joined}
use Rattle.spv_listing_values.specs.Forms.{count}
use Rattle.spv_listing_values.specs.Parts.{Piece, pieces, text_at, head_in, piece_at, IsSpan, HasSpans, AreParts, open_pieces, opened, ranges, IsExpected, IsScanned, EndsWith}
use Rattle.spv_listing_values.proofs.Stacks.{all_pieces_joined, count_joined, ranges-push}

module _ (bytes : List ℕ) where
  -- ---- a part is put

  -- what was put: the part goes last
  pub record IsPut (line new : Line) (p : Part) : Type 0 where
    pub parts : new.parts.items ≡ line.parts.items ++ p ∷ []
    pub expected : new.expected ≡ expected.AnItem

  spans_more : (line new : Line) (p : Part) (s : Scan) (t : Written) → EndsWith bytes line p s t → IsPut line new p → AreParts bytes new.parts.items
  spans_more line new p s t ends put = subst (AreParts bytes) (sym put.parts) (All-push (λ q. HasSpans bytes q.head) line.parts.items p ends.spans ends.part_spans)

  places_more : (line new : Line) (p : Part) (s : Scan) (t : Written) → EndsWith bytes line p s t → IsPut line new p
      → map (piece_at bytes) new.parts.items ≡ (flat_map pieces s.items ++ open_pieces s.groups) ++ pieces t
  places_more line new p s t ends put = ap (map (piece_at bytes)) put.parts ∙ (map-append (piece_at bytes) line.parts.items (p ∷ []) ∙ ends.parts_are)

  item_expected : (line new : Line) (p : Part) → IsPut line new p → IsExpected bytes new.expected AnItem
  item_expected line new p put = subst (λ (e : Expected). IsExpected bytes e AnItem) (sym put.expected) refl

  flat_push : (ts : List Written) (t : Written) → flat_map pieces (ts ++ t ∷ []) ≡ flat_map pieces ts ++ pieces t
  flat_push ts t = flat_map-append pieces ts (t ∷ []) ∙ ap (λ (l : List Piece). flat_map pieces ts ++ l) (append-nil (pieces t))

  -- it ends an argument of the innermost open term
  module _ (line new : Line) (p : Part) (s : Scan) (t : Written) (ends : EndsWith bytes line p s t) (put : IsPut line new p) (rest : List Part) (g : Part)
      (last : line.groups.items ≡ rest ++ g ∷ []) (front_spans : AreParts bytes rest) (group_spans : HasSpans bytes g.head)
      (items : new.items.items ≡ line.items.items) (ended : new.ended ≡ line.ended) (groups : new.groups.items ≡ rest ++ record { head = g.head; args = suc g.args } ∷ []) where
    abbrev more : Part
    more = record { head = g.head; args = suc g.args }

    turned : (r : List Part) (q : Part) → map (piece_at bytes) (reverse (r ++ q ∷ [])) ≡ piece_at bytes q ∷ map (piece_at bytes) (reverse r)
    turned r q = ap (map (piece_at bytes)) (reverse-append r (q ∷ []))

    groups_before : piece_at bytes g ∷ map (piece_at bytes) (reverse rest) ≡ map opened s.groups
    groups_before = sym (turned rest g) ∙ (ap (λ (l : List Part). map (piece_at bytes) (reverse l)) (sym last) ∙ ends.groups_are)

    by : (gs : List Group) → s.groups ≡ gs → IsScanned bytes new (with_item gs s.items s.lines t)
    by [] e =
        let none : piece_at bytes g ∷ map (piece_at bytes) (reverse rest) ≡ [] = groups_before ∙ ap (map opened) e in
        absurd cc
    by (h ∷ gs) e =
        let both : piece_at bytes g ∷ map (piece_at bytes) (reverse rest) ≡ opened h ∷ map opened gs = groups_before ∙ ap (map opened) e in
        let mine : piece_at bytes g ≡ opened h = cc in
        let others : map (piece_at bytes) (reverse rest) ≡ map opened gs = cc in
        let head : head_in bytes g.head ≡ h.head = ap (λ (q : Piece). q.head) mine in
        let args : g.args ≡ length h.args = ap (λ (q : Piece). q.args) mine in
        record {
          spans = spans_more line new p s t ends put;
          parts_are =
              places_more line new p s t ends put
              ∙ (ap (λ (l : List Group). (flat_map pieces s.items ++ open_pieces l) ++ pieces t) e
              ∙ (nested (flat_map pieces s.items) (open_pieces gs) (flat_map pieces h.args) (pieces t)
              ∙ ap (λ (l : List Piece). flat_map pieces s.items ++ (open_pieces gs ++ l)) (sym (flat_push h.args t))));
          items_are = items ∙ ends.items_are;
          ended_is = ended ∙ ends.ended_is;
          open_spans = subst (AreParts bytes) (sym groups) (All-push (λ q. HasSpans bytes q.head) rest more front_spans group_spans);
          groups_are =
              ap (λ (l : List Part). map (piece_at bytes) (reverse l)) groups
              ∙ (turned rest more
              ∙ (ap (λ (k : Head). record { head = k; args = suc g.args } ∷ map (piece_at bytes) (reverse rest)) head
              ∙ (ap (λ (n : ℕ). record { head = h.head; args = n } ∷ map (piece_at bytes) (reverse rest)) (ap suc args ∙ sym (length_more h.args))
              ∙ ap (λ (l : List Piece). record { head = h.head; args = length (h.args ++ t ∷ []) } ∷ l) others)));
          expected_is = item_expected line new p put;
        }
      where
        nested : (i o a u : List Piece) → (i ++ (o ++ a)) ++ u ≡ i ++ (o ++ (a ++ u))
        nested i o a u = simp (append_assoc) refl

        length_more : (ts : List Written) → length (ts ++ t ∷ []) ≡ suc (length ts)
        length_more ts = omega (arith, length-append ts (t ∷ []))

    pub put_argument : IsScanned bytes new (with_item s.groups s.items s.lines t)
    put_argument = by s.groups refl

  -- it ends an item
  module _ (line new : Line) (p : Part) (s : Scan) (t : Written) (ends : EndsWith bytes line p s t) (put : IsPut line new p) (end : ℕ)
      (none : line.groups.items ≡ []) (no_groups : new.groups.items ≡ []) (end_is : end ≡ length new.parts.items)
      (items : new.items.items ≡ line.items.items ++ record { first = line.ended; end = end } ∷ []) (ended : new.ended ≡ end) where
    no_group : (gs : List Group) → [] ≡ map opened gs → gs ≡ []
    no_group [] e = refl
    no_group (g ∷ gs) e = absurd cc

    nothing_open : s.groups ≡ []
    nothing_open = no_group s.groups (ap (λ (l : List Part). map (piece_at bytes) (reverse l)) (sym none) ∙ ends.groups_are)

    places : map (piece_at bytes) new.parts.items ≡ flat_map pieces (s.items ++ t ∷ [])
    places =
        places_more line new p s t ends put
        ∙ (ap (λ (l : List Group). (flat_map pieces s.items ++ open_pieces l) ++ pieces t) nothing_open
        ∙ (ap (λ (l : List Piece). l ++ pieces t) (append-nil (flat_map pieces s.items)) ∙ sym (flat_push s.items t)))

    size : end ≡ length (flat_map pieces (s.items ++ t ∷ []))
    size = end_is ∙ (sym (length-map new.parts.items (piece_at bytes)) ∙ ap length places)

    size_is : end ≡ length (flat_map pieces s.items) + length (pieces t)
    size_is = size ∙ (ap length (flat_push s.items t) ∙ length-append (flat_map pieces s.items) (pieces t))

    range : ◌≡◌ {A = Item} (record { first = line.ended; end = end }) (record { first = 0 + length (flat_map pieces s.items); end = 0 + length (flat_map pieces s.items) + length (pieces t) })
    range =
        let first : line.ended ≡ 0 + length (flat_map pieces s.items) = omega (arith, ends.ended_is) in
        let last : end ≡ 0 + length (flat_map pieces s.items) + length (pieces t) = omega (arith, size_is) in
        λ i. record { first = first i; end = last i }

    pub put_item : IsScanned bytes new (with_item s.groups s.items s.lines t)
    put_item = subst (λ (gs : List Group). IsScanned bytes new (with_item gs s.items s.lines t)) (sym nothing_open) (record {
      spans = spans_more line new p s t ends put;
      parts_are = places ∙ sym (append-nil (flat_map pieces (s.items ++ t ∷ [])));
      items_are = items ∙ (ap (λ (l : List Item). l ++ record { first = line.ended; end = end } ∷ []) ends.items_are ∙ (ap (λ (i : Item). ranges 0 s.items ++ i ∷ []) range ∙ sym (ranges-push s.items t 0)));
      ended_is = ended ∙ size;
      open_spans = subst (AreParts bytes) (sym no_groups) (All-nil (λ q. HasSpans bytes q.head));
      groups_are = ap (λ (l : List Part). map (piece_at bytes) (reverse l)) no_groups;
      expected_is = item_expected line new p put;
    })

  -- ---- words

  -- a word that stands alone
  pub word_ends : (line : Line) (s : Scan) (span : Span) → IsScanned bytes line s → IsSpan bytes span
      → EndsWith bytes line (record { head = part.Alone span; args = 0 }) s (word (text_at bytes span))
  word_ends line s span has is = record {
    spans = has.spans;
    part_spans = is;
    parts_are = ap (λ (l : List Piece). l ++ record { head = Alone (text_at bytes span); args = 0 } ∷ []) has.parts_are;
    items_are = has.items_are;
    ended_is = has.ended_is;
    open_spans = has.open_spans;
    groups_are = has.groups_are;
  }

  -- a term whose last bracket is there
  module _ (line : Line) (s : Scan) (has : IsScanned bytes line s) (rest : List Part) (g : Part) (last : line.groups.items ≡ rest ++ g ∷ []) (front_spans : AreParts bytes rest)
      (group_spans : HasSpans bytes g.head) (left : Line) (same_parts : left.parts.items ≡ line.parts.items) (same_items : left.items.items ≡ line.items.items)
      (same_ended : left.ended ≡ line.ended) (fewer : left.groups.items ≡ rest) where
    turned_last : map (piece_at bytes) (reverse line.groups.items) ≡ piece_at bytes g ∷ map (piece_at bytes) (reverse rest)
    turned_last = ap (λ (l : List Part). map (piece_at bytes) (reverse l)) last ∙ ap (map (piece_at bytes)) (reverse-append rest (g ∷ []))

    abbrev pub Closes : List Group → Type 0
    Closes gs = (h : Group) × (hs : List Group) × (gs ≡ h ∷ hs) × EndsWith bytes left g (record s { groups = hs }) (written h.head (joined h.args no_written))

    pub closes : (gs : List Group) → s.groups ≡ gs → Closes gs
    closes [] e =
        let none : piece_at bytes g ∷ map (piece_at bytes) (reverse rest) ≡ [] = sym turned_last ∙ (has.groups_are ∙ ap (map opened) e) in
        absurd cc
    closes (h ∷ hs) e =
        let both : piece_at bytes g ∷ map (piece_at bytes) (reverse rest) ≡ opened h ∷ map opened hs = sym turned_last ∙ (has.groups_are ∙ ap (map opened) e) in
        let mine : piece_at bytes g ≡ opened h = cc in
        let others : map (piece_at bytes) (reverse rest) ≡ map opened hs = cc in
        let whole : piece_at bytes g ≡ record { head = h.head; args = count (joined h.args no_written) } = mine ∙ ap (λ (n : ℕ). record { head = h.head; args = n }) (sym (count_joined h.args)) in (
          h,
          hs,
          refl,
          record {
            spans = subst (AreParts bytes) (sym same_parts) has.spans;
            part_spans = group_spans;
            parts_are =
                ap (λ (l : List Part). map (piece_at bytes) l ++ piece_at bytes g ∷ []) same_parts
                ∙ (ap (λ (l : List Piece). l ++ piece_at bytes g ∷ []) (has.parts_are ∙ ap (λ (gs : List Group). flat_map pieces s.items ++ open_pieces gs) e)
                ∙ (nested (flat_map pieces s.items) (open_pieces hs) (flat_map pieces h.args) (piece_at bytes g ∷ [])
                ∙ (ap (λ (q : Piece). (flat_map pieces s.items ++ open_pieces hs) ++ (flat_map pieces h.args ++ q ∷ [])) whole
                ∙ ap (λ (l : List Piece). (flat_map pieces s.items ++ open_pieces hs) ++ (l ++ record { head = h.head; args = count (joined h.args no_written) } ∷ [])) (sym (all_pieces_joined h.args)))));
            items_are = same_items ∙ has.items_are;
            ended_is = same_ended ∙ has.ended_is;
            open_spans = subst (AreParts bytes) (sym fewer) front_spans;
            groups_are = ap (λ (l : List Part). map (piece_at bytes) (reverse l)) fewer ∙ others;
          },
        )
      where
        nested : (i o a q : List Piece) → (i ++ (o ++ a)) ++ q ≡ (i ++ o) ++ (a ++ q)
        nested i o a q = simp (append_assoc) refl
