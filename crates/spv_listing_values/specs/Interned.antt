-- Terms that are entered one by one, each found where it is known.
use Rattle.std.specs.Prelude.{◌≡◌, ℕ, ◌-◌, List, [], ◌∷◌, ◌++◌, length, map, take, drop, Option, Some, None, position, slice_range}
use Rattle.std.specs.BTreeMap.{BTreeMap, get_by}
use Rattle.std.specs.Cmp.Lexicographic.{slice_cmp}
use Rattle.std.specs.Ordering.{nat_cmp}
use Rattle.std.specs.Str.{bytes_eq}
use Rattle.spv_listing_values.specs.declared.texts.Text.{Text}
use Rattle.spv_listing_values.specs.declared.texts.TextHead.{TextHead}
use Rattle.spv_listing_values.specs.declared.texts.TextHead.TheVariants as head
use Rattle.spv_listing_values.specs.declared.texts.Node.{Node}
use Rattle.spv_listing_values.specs.declared.interning.Table.{Table}
use Rattle.spv_listing_values.specs.Places.{Flat, AreBefore, flat_at, AreTexts, Entered, with_flat, place_of}
use Rattle.spv_listing_values.specs.Parts.{Piece}

-- ---- a piece becomes a term over the places that were entered last

abbrev pub piece_entered : Piece → Entered → Entered
piece_entered p e = record {
  flats = with_flat e.flats (record { head = p.head; args = drop (length e.places - p.args) e.places });
  places = take (length e.places - p.args) e.places ++ place_of e.flats (record { head = p.head; args = drop (length e.places - p.args) e.places }) ∷ [];
}

abbrev pub pieces_entered : Entered → List Piece → Entered
pieces_entered e [] = e
pieces_entered e (p ∷ ps) = pieces_entered (piece_entered p e) ps

-- ---- how a term is found

-- the places of terms, as numbers
abbrev pub numbers_of : List Text → List ℕ
numbers_of ts = map (λ t. t.0) ts

-- a head and arguments as numbers
abbrev pub code : TextHead → List Text → List ℕ
code (head.Alone x) args = 0 ∷ x.0 ∷ numbers_of args
code (head.Applied x None) args = 1 ∷ x.0 ∷ numbers_of args
code (head.Applied x (Some y)) args = 2 ∷ x.0 ∷ y.0 ∷ numbers_of args

abbrev pub code_at : List Text → Node → List ℕ
code_at args n = code n.head (slice_range args n.first n.end)

-- what a map has for numbers
abbrev pub found_by : {K : Type 0} → (K → List ℕ) → BTreeMap K ℕ → List ℕ → Option ℕ
found_by key_of places key = get_by (λ k. slice_cmp nat_cmp key (key_of k)) places

-- a map has the place of each of these lists of numbers, and of nothing else
pub record ArePlaces {K : Type 0} (key_of : K → List ℕ) (places : BTreeMap K ℕ) (codes : List (List ℕ)) : Type 0 where
  pub each : (key : List ℕ) → found_by key_of places key ≡ position (bytes_eq key) codes

-- ---- what a table keeps

abbrev pub flats_at : Table → List Flat
flats_at t = map (flat_at t.names t.args.items) t.nodes.items

abbrev pub entered_at : Table → Entered
entered_at t = record { flats = flats_at t; places = t.waiting.items }

pub record IsSound (t : Table) : Type 0 where
  pub texts : AreTexts t.names t.args.items t.nodes.items
  pub places : ArePlaces (λ k. k.items) t.places (map (code_at t.args.items) t.nodes.items)
  pub waiting : AreBefore (length t.nodes.items) t.waiting.items

-- one list goes on as the other
abbrev pub GoesOn : {X : Type 0} → List X → List X → Type 0
GoesOn {X} old new = (more : List X) × (new ≡ old ++ more)
