-- Tables of terms that get more.
use Rattle.std.proofs.Common.{◌≡◌, ℕ, zero, suc, ◌+◌, ◌-◌, ◌<◌, ◌≤◌, Bool, true, false, not, if◌then◌else◌, Some, None, List, [], ◌∷◌, ◌++◌, AllPairs, ◌≢◌, map, length, take, drop, get_or, slice_get, slice_range, refl, sym, ap, subst, ◌∙◌, append_assoc, append-nil, arith}
use Rattle.std.specs.BTreeMap.{BTreeMap}
use Rattle.std.specs.List.{list_any, position_or_len}
use Rattle.std.specs.Str.{bytes_eq}
use Rattle.std.proofs.lemmas.List.{length-append, length-map, map-append, drop_at, take_at, length-take}
use Rattle.std.proofs.lemmas.List.Elements.{All-push, All-weaker}
use Rattle.std.proofs.lemmas.Option.{slice_get_within, get_or_from_slice_get}
use Rattle.spv_logic.specs.declared.names.names.Symbol.{Symbol}
use Rattle.std.specs.Char.{is_ascii_lowercase}
use Rattle.std.specs.List.{list_all}
use Rattle.spv_logic.proofs.list.Tests.{left_true, right_true}
use Rattle.spv_logic.specs.names.Names.{IsFolded, with_text}
use Rattle.spv_listing_values.specs.declared.texts.Text.{Text}
use Rattle.spv_listing_values.specs.declared.texts.TextHead.{TextHead}
use Rattle.spv_listing_values.specs.declared.texts.TextHead.TheVariants as head
use Rattle.spv_listing_values.specs.declared.texts.Node.{Node}
use Rattle.spv_listing_values.specs.declared.scanning.Part.{Part}
use Rattle.spv_listing_values.specs.declared.scanning.Item.{Item}
use Rattle.spv_listing_values.specs.Written.{Head, Written, written}
use Rattle.spv_listing_values.specs.Waiting.{AreIn}
use Rattle.spv_listing_values.specs.Parts.{head_in, piece_at, item_at, IsItem}
use Rattle.spv_listing_values.specs.Places.{Flat, AreBefore, IsTable, name_at, head_at, flat_at, flat_eq, with_flat, place_of, Entered, entered, all_entered, HeadIn, IsNode, AreTexts}
use Rattle.spv_listing_values.specs.Interned.{numbers_of, code, code_at, found_by, ArePlaces, GoesOn, piece_entered, pieces_entered}
use Rattle.spv_listing_values.proofs.Numerals.{both_true}
use Rattle.spv_listing_values.proofs.Entering.{entering, AreEnough, enough_term, term_entered, range_more, range_none}
use Rattle.spv_listing_values.proofs.Grown.{new_place, table_more, placed}
use Rattle.spv_listing_values.proofs.Codes.{any_is, place_is, found_there, found_nowhere, head_stays, head_in_more, flats_stay, codes_stay, node_stays}

-- ---- tables of names

if_text : (b : Bool) (texts : List (List ℕ)) (text : List ℕ) → GoesOn texts (if b then texts else texts ++ text ∷ [])
if_text true texts text = ([], sym (append-nil texts))
if_text false texts text = (text ∷ [], refl)

pub goes_on_with : (old new : List (List ℕ)) (text : List ℕ) → new ≡ with_text old text → GoesOn old new
goes_on_with old new text e = subst (GoesOn old) (sym e) (if_text (list_any (bytes_eq text) old) old text)

pub stands_there : (texts : List (List ℕ)) (text : List ℕ) (x : Symbol) → slice_get texts x.0 ≡ Some text → (x.0 < length texts) × (name_at texts x ≡ text)
stands_there texts text x at = (slice_get_within texts x.0 text at, get_or_from_slice_get texts x.0 text [] at)

pub goes_on_twice : {X : Type 0} (a b c : List X) → GoesOn a b → GoesOn b c → GoesOn a c
goes_on_twice {X} a b c h k = (h.0 ++ k.0, k.1 ∙ (ap (λ (l : List X). l ++ k.0) h.1 ∙ append_assoc a h.0 k.0))

-- a head that is known stays known
pub record IsKnown (names : List (List ℕ)) (h : TextHead) (is : Head) : Type 0 where
  pub within : HeadIn names h
  pub head_is : head_at names h ≡ is

pub known_stays : (names more : List (List ℕ)) (h : TextHead) (is : Head) → IsKnown names h is → GoesOn names more → IsKnown more h is
known_stays names more h is known grows =
    subst (λ (ns : List (List ℕ)). IsKnown ns h is) (sym grows.1)
    (record { within = head_in_more names grows.0 h known.within; head_is = head_stays names grows.0 h known.within ∙ known.head_is })

-- ---- places that are in range

pub before_take : (n k : ℕ) (ts : List Text) → AreBefore n ts → AreBefore n (take k ts)
before_take n zero ts h = tt
before_take n (suc k) [] h = tt
before_take n (suc k) (t ∷ ts) h = (h.0, before_take n k ts h.1)

pub before_drop : (n k : ℕ) (ts : List Text) → AreBefore n ts → AreBefore n (drop k ts)
before_drop n zero ts h = h
before_drop n (suc k) [] h = tt
before_drop n (suc k) (t ∷ ts) h = before_drop n k ts h.1

pub before_push : (n : ℕ) (ts : List Text) (t : Text) → AreBefore n ts → t.0 < n → AreBefore n (ts ++ t ∷ [])
before_push n [] t h k = (k, tt)
before_push n (u ∷ ts) t h k = (h.0, before_push n ts t h.1 k)

-- ---- a node is put at the end

module _ (names : List (List ℕ)) (args w : List Text) (nodes : List Node) (h : TextHead) (texts : AreTexts names args nodes) (known : HeadIn names h) (before : AreBefore (length nodes) w) where
  abbrev pub last_node : Node
  last_node = record { head = h; first = length args; end = length args + length w }

  abbrev last_flat : Flat
  last_flat = record { head = head_at names h; args = w }

  last_range : slice_range (args ++ w) (length args) (length args + length w) ≡ w
  last_range =
      ap (λ (l : List Text). take (length args + length w - length args) l) (drop_at args w (length args) refl)
      ∙ (ap (λ (l : List Text). take (length args + length w - length args) l) (sym (append-nil w)) ∙ take_at w [] (length args + length w - length args) size)
    where
      size : length w ≡ length args + length w - length args
      size = omega arith

  no_names : (ns : List (List ℕ)) → ns ++ [] ≡ ns
  no_names ns = append-nil ns

  pub flats_more : map (flat_at names (args ++ w)) (nodes ++ last_node ∷ []) ≡ map (flat_at names args) nodes ++ last_flat ∷ []
  flats_more =
      map-append (flat_at names (args ++ w)) nodes (last_node ∷ [])
      ∙ (ap (λ (fs : List Flat). fs ++ flat_at names (args ++ w) last_node ∷ []) kept ∙ ap (λ (xs : List Text). map (flat_at names args) nodes ++ record { head = head_at names h; args = xs } ∷ []) last_range)
    where
      kept : map (flat_at names (args ++ w)) nodes ≡ map (flat_at names args) nodes
      kept = ap (λ (ns : List (List ℕ)). map (flat_at ns (args ++ w)) nodes) (sym (append-nil names)) ∙ flats_stay names [] args w nodes texts.each

  pub codes_more : map (code_at (args ++ w)) (nodes ++ last_node ∷ []) ≡ map (code_at args) nodes ++ code h w ∷ []
  codes_more =
      map-append (code_at (args ++ w)) nodes (last_node ∷ [])
      ∙ (ap (λ (cs : List (List ℕ)). cs ++ code_at (args ++ w) last_node ∷ []) (codes_stay names args w nodes texts.each)
      ∙ ap (λ (xs : List Text). map (code_at args) nodes ++ code h xs ∷ []) last_range)

  pub texts_more : AreTexts names (args ++ w) (nodes ++ last_node ∷ [])
  texts_more = record {
    each = All-push (λ n. IsNode names (args ++ w) n) nodes last_node
        (All-weaker (λ n. IsNode names args n) (λ n. IsNode names (args ++ w) n) (λ n node. subst (λ (ns : List (List ℕ)). IsNode ns (args ++ w) n) (append-nil names) (node_stays names [] args w n node)) nodes texts.each)
        (record { head = known; in_order = in_order; in_range = in_range });
    table = subst IsTable (sym flats_more) (table_more (map (flat_at names args) nodes) last_flat texts.table (subst (λ (n : ℕ). AreBefore n w) (sym (length-map nodes (flat_at names args))) before));
  }
    where
      in_order : length args ≤ length args + length w
      in_order = omega arith

      in_range : length args + length w ≤ length (args ++ w)
      in_range = let size = length-append args w in omega (arith, size)

-- more names change nothing
module _ (names words : List (List ℕ)) (args : List Text) (nodes : List Node) (texts : AreTexts names args nodes) where
  pub flats_kept : map (flat_at (names ++ words) args) nodes ≡ map (flat_at names args) nodes
  flats_kept = ap (λ (xs : List Text). map (flat_at (names ++ words) xs) nodes) (sym (append-nil args)) ∙ flats_stay names words args [] nodes texts.each

  pub texts_kept : AreTexts (names ++ words) args nodes
  texts_kept = record {
    each = All-weaker (λ n. IsNode names args n) (λ n. IsNode (names ++ words) args n)
        (λ n node. subst (λ (xs : List Text). IsNode (names ++ words) xs n) (append-nil args) (node_stays names words args [] n node)) nodes texts.each;
    table = subst IsTable (sym flats_kept) texts.table;
  }

-- ---- a term that is known, and a new one

pub known_flat : (fs : List Flat) (f : Flat) → list_any (flat_eq f) fs ≡ true → fs ≡ with_flat fs f
known_flat fs f e = ap (λ (b : Bool). if b then fs else fs ++ f ∷ []) (sym e)

pub new_flat : (fs : List Flat) (f : Flat) → list_any (flat_eq f) fs ≡ false → fs ++ f ∷ [] ≡ with_flat fs f
new_flat fs f e = ap (λ (b : Bool). if b then fs else fs ++ f ∷ []) (sym e)

-- ---- words of bytes without small letters

all_taken : {X : Type 0} (p : X → Bool) (n : ℕ) (xs : List X) → list_all p xs ≡ true → list_all p (take n xs) ≡ true
all_taken p zero xs h = refl
all_taken p (suc n) [] h = refl
all_taken p (suc n) (x ∷ xs) h = both_true (p x) (list_all p (take n xs)) (left_true (p x) (list_all p xs) h) (all_taken p n xs (right_true (p x) (list_all p xs) h))

all_dropped : {X : Type 0} (p : X → Bool) (n : ℕ) (xs : List X) → list_all p xs ≡ true → list_all p (drop n xs) ≡ true
all_dropped p zero xs h = h
all_dropped p (suc n) [] h = refl
all_dropped p (suc n) (x ∷ xs) h = all_dropped p n xs (right_true (p x) (list_all p xs) h)

pub folded_range : (bytes : List ℕ) (a b : ℕ) → IsFolded bytes → IsFolded (slice_range bytes a b)
folded_range bytes a b h = all_taken (λ c. not (is_ascii_lowercase c)) (b - a) (drop a bytes) (all_dropped (λ c. not (is_ascii_lowercase c)) a bytes h)

-- ---- codes

pub code_is : (h : TextHead) (args : List Text) → code h [] ++ numbers_of args ≡ code h args
code_is (head.Alone x) args = refl
code_is (head.Applied x None) args = refl
code_is (head.Applied x (Some y)) args = refl

-- ---- what is said of a push

pub record IsPushed (names : List (List ℕ)) (args more w : List Text) (nodes grown : List Node) (h : TextHead) : Type 0 where
  pub texts : AreTexts names more grown
  pub flats : map (flat_at names more) grown ≡ map (flat_at names args) nodes ++ record { head = head_at names h; args = w } ∷ []
  pub codes : map (code_at more) grown ≡ map (code_at args) nodes ++ code h w ∷ []
  pub size : length grown ≡ length nodes + 1

pub pushed : (names : List (List ℕ)) (args more w : List Text) (nodes grown : List Node) (h : TextHead) (first end : ℕ) → AreTexts names args nodes → HeadIn names h → AreBefore (length nodes) w
    → more ≡ args ++ w → first ≡ length args → end ≡ length more → grown ≡ nodes ++ record { head = h; first = first; end = end } ∷ [] → IsPushed names args more w nodes grown h
pushed names args more w nodes grown h first end texts known before e f g k =
    subst (λ (xs : List Text). IsPushed names args xs w nodes grown h) (sym e)
    (subst (λ (ns : List Node). IsPushed names args (args ++ w) w nodes ns h) (sym (k ∙ ap (λ (n : Node). nodes ++ n ∷ []) node)) (record {
      texts = texts_more names args w nodes h texts known before;
      flats = flats_more names args w nodes h texts known before;
      codes = codes_more names args w nodes h texts known before;
      size = length-append nodes (last_node names args w nodes h texts known before ∷ []);
    }))
  where
    last : end ≡ length args + length w
    last = g ∙ (ap length e ∙ length-append args w)

    node : ◌≡◌ {A = Node} (record { head = h; first = first; end = end }) (record { head = h; first = length args; end = length args + length w })
    node = λ i. record { head = h; first = f i; end = last i }

-- ---- what is said of a look-up

module _ (names : List (List ℕ)) (differ : AllPairs (λ a b. a ≢ b) names) (args w : List Text) (nodes : List Node) (h : TextHead) (texts : AreTexts names args nodes) (known : HeadIn names h)
    {K : Type 0} (key_of : K → List ℕ) (places : BTreeMap K ℕ) (are : ArePlaces key_of places (map (code_at args) nodes)) where
  abbrev flats_now : List Flat
  flats_now = map (flat_at names args) nodes

  abbrev wanted : Flat
  wanted = record { head = head_at names h; args = w }

  pub found_flat : (k : ℕ) → Some k ≡ found_by key_of places (code h w) → (flats_now ≡ with_flat flats_now wanted) × (record { 0 = k } ≡ place_of flats_now wanted)
  found_flat k e =
      let both = found_there key_of places (map (code_at args) nodes) are (code h w) k e in
      let same : k ≡ position_or_len (flat_eq wanted) flats_now = both.1 ∙ sym (place_is names differ args h w known nodes texts.each) in
      (known_flat flats_now wanted (any_is names differ args h w known nodes texts.each ∙ both.0), λ i. record { 0 = same i })

  pub lacking_code : None ≡ found_by key_of places (code h w) → list_any (bytes_eq (code h w)) (map (code_at args) nodes) ≡ false
  lacking_code e = found_nowhere key_of places (map (code_at args) nodes) are (code h w) e

  pub lacking_flat : None ≡ found_by key_of places (code h w) → list_any (flat_eq wanted) flats_now ≡ false
  lacking_flat e = any_is names differ args h w known nodes texts.each ∙ lacking_code e

  pub lacking_place : None ≡ found_by key_of places (code h w) → (k : ℕ) → k ≡ length nodes → record { 0 = k } ≡ place_of flats_now wanted
  lacking_place e k is =
      let same : k ≡ position_or_len (flat_eq wanted) flats_now = is ∙ (sym (length-map nodes (flat_at names args)) ∙ sym (new_place flats_now wanted (lacking_flat e))) in
      λ i. record { 0 = same i }

-- ---- a part is entered

-- the place of a term is that of a node
pub placed_within : (fs : List Flat) (f : Flat) → IsTable fs → AreIn fs f.args → (place_of fs f).0 < length (with_flat fs f)
placed_within fs f ok h = (placed fs f ok h).stands.in_range

-- what is said of an item of which some parts were entered
pub record IsEntering (bytes : List ℕ) (ps : List Part) (end : ℕ) (t : Written) (fs : List Flat) (e : Entered) (k : ℕ) : Type 0 where
  pub rest : pieces_entered e (map (piece_at bytes) (slice_range ps k end)) ≡ entered (entering fs []) t
  pub enough : AreEnough (length e.places) (map (piece_at bytes) (slice_range ps k end))

pub entering_begins : (bytes : List ℕ) (ps : List Part) (i : Item) (fs : List Flat) → IsItem bytes ps i → IsEntering bytes ps i.end (item_at bytes ps i) fs (entering fs []) i.first
entering_begins bytes ps i fs item = record {
  rest = ap (pieces_entered (entering fs [])) (sym item.pieces_are) ∙ term_entered (item_at bytes ps i) fs;
  enough = subst (AreEnough 0) item.pieces_are (enough_term (item_at bytes ps i));
}

module _ (bytes : List ℕ) (ps : List Part) (end : ℕ) (t : Written) (fs : List Flat) (e : Entered) (k : ℕ) (so_far : IsEntering bytes ps end t fs e k) (before : k < end) (within : end ≤ length ps)
    (p : Part) (is : p ≡ get_or ps k p) where
  pieces_left : map (piece_at bytes) (slice_range ps k end) ≡ piece_at bytes p ∷ map (piece_at bytes) (slice_range ps (k + 1) end)
  pieces_left = ap (map (piece_at bytes)) (range_more ps k end p before within) ∙ ap (λ (q : Part). piece_at bytes q ∷ map (piece_at bytes) (slice_range ps (k + 1) end)) (sym is)

  enough_left : AreEnough (length e.places) (piece_at bytes p ∷ map (piece_at bytes) (slice_range ps (k + 1) end))
  enough_left = subst (AreEnough (length e.places)) pieces_left so_far.enough

  pub args_there : p.args ≤ length e.places
  args_there = enough_left.0

  pub entering_more : IsEntering bytes ps end t fs (piece_entered (piece_at bytes p) e) (k + 1)
  entering_more = record {
    rest = ap (pieces_entered e) (sym pieces_left) ∙ so_far.rest;
    enough = subst (λ (n : ℕ). AreEnough n (map (piece_at bytes) (slice_range ps (k + 1) end))) (sym size) enough_left.1;
  }
    where
      size : length (piece_entered (piece_at bytes p) e).places ≡ suc (length e.places - p.args)
      size =
          let front = length-take (length e.places - p.args) e.places in
          let one = length-append (take (length e.places - p.args) e.places) (place_of e.flats (record { head = head_in bytes p.head; args = drop (length e.places - p.args) e.places }) ∷ []) in
          omega (arith, front, one)

pub entering_ends : (bytes : List ℕ) (ps : List Part) (end : ℕ) (t : Written) (fs : List Flat) (e : Entered) (k : ℕ) → IsEntering bytes ps end t fs e k → end ≤ k → e ≡ entered (entering fs []) t
entering_ends bytes ps end t fs e k so_far past = ap (λ (l : List Part). pieces_entered e (map (piece_at bytes) l)) (sym (range_none ps k end past)) ∙ so_far.rest

-- a term has one place
one_place : (t : Written) (fs : List Flat) → (p : Text) × ((entered (entering fs []) t).places ≡ p ∷ [])
one_place (written h ts) fs =
    let a = all_entered (entering fs []) ts in
    (place_of a.flats (record { head = h; args = a.places }), refl)

alone_last : (xs : List Text) (x y : Text) → xs ++ x ∷ [] ≡ y ∷ [] → (xs ≡ []) × (x ≡ y)
alone_last [] x y e = (refl, cc)
alone_last (z ∷ []) x y e = absurd cc
alone_last (z ∷ w ∷ xs) x y e = absurd cc

-- what is left where the only place was taken
pub record IsLeft (e : Entered) (t : Written) (fs : List Flat) (left : List Text) (place : Text) : Type 0 where
  pub none : left ≡ []
  pub whole : entering e.flats (place ∷ []) ≡ entered (entering fs []) t

pub last_taken : (e : Entered) (t : Written) (fs : List Flat) (left : List Text) (place : Text) → e ≡ entered (entering fs []) t → e.places ≡ left ++ place ∷ [] → IsLeft e t fs left place
last_taken e t fs left place is last =
    let one = one_place t fs in
    let both = alone_last left place one.0 (sym last ∙ (ap (λ (d : Entered). d.places) is ∙ one.1)) in
    record {
      none = both.0;
      whole = ap (λ (ps : List Text). entering e.flats ps) (sym (last ∙ ap (λ (l : List Text). l ++ place ∷ []) both.0)) ∙ is;
    }
