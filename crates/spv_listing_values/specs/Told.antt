-- What is read of a line that is looked at: its items as terms, and a thing over terms whose terms are entered.
use Rattle.std.specs.Prelude.{◌≡◌, ℕ, ◌+◌, List, [], ◌∷◌, ◌++◌, All, map, take, drop, Option, Some, None, option_and_then, ◌^◌}
use Rattle.spv_logic.specs.names.Names.{IsFolded}
use Rattle.spv_listing_values.specs.declared.data.Limit.{Limit}
use Rattle.spv_listing_values.specs.declared.texts.Text.{Text}
use Rattle.spv_listing_values.specs.declared.scanning.Item.{Item}
use Rattle.spv_listing_values.specs.declared.interning.Table.{Table}
use Rattle.spv_listing_values.specs.declared.told.Looked.{Looked}
use Rattle.spv_listing_values.specs.Written.{Written}
use Rattle.spv_listing_values.specs.Reading.{number_in, fact_in, wide_of, in_front, behind}
use Rattle.spv_listing_values.specs.Places.{Flat, tree, list_entered}
use Rattle.spv_listing_values.specs.Waiting.{AreIn}
use Rattle.spv_listing_values.specs.Parts.{IsItem, IsLine, item_at, items_at}
use Rattle.spv_listing_values.specs.Interned.{IsSound}

-- ---- lines that are looked at

-- the bytes have no small letter, and the line is one of them
pub record IsLooked (l : Looked) : Type 0 where
  pub line : IsLine l.bytes.now l.line.now
  pub folded : IsFolded l.bytes.now

abbrev pub IsItemOf : Looked → Item → Type 0
IsItemOf l i = IsItem l.bytes.now l.line.now.parts.items i

abbrev pub AreItemsOf : Looked → List Item → Type 0
AreItemsOf l is = All (IsItem l.bytes.now l.line.now.parts.items) is

-- the term of an item, and those of items
abbrev pub term_in : Looked → Item → Written
term_in l i = item_at l.bytes.now l.line.now.parts.items i

abbrev pub terms_in : Looked → List Item → List Written
terms_in l is = items_at l.bytes.now l.line.now.parts.items is

-- ---- terms that are entered

-- a table into which a term may be entered
pub record IsReady (t : Table) : Type 0 where
  pub sound : IsSound t
  pub idle : t.waiting.items ≡ []

-- terms are entered: each stands at its place, what stood there before stays, and nothing else is new
pub record Enters (fs gs : List Flat) (ts : List Written) (places : List Text) : Type 0 where
  pub more : List Flat
  pub goes_on : gs ≡ fs ++ more
  pub flats : gs ≡ (list_entered (record { flats = fs; places = [] }) ts).flats
  pub in_range : AreIn gs places
  pub trees : map (tree gs) places ≡ ts

-- a thing over terms was read exactly where the definition reads one, and with it its terms were entered; where nothing was read, no term was
abbrev pub Says : {A B : Type 0} → ((Text → Written) → A → B) → (A → List Text) → List Flat → List Flat → Option B → Option A → Type 0
Says at terms fs gs wanted None = (wanted ≡ None) × (gs ≡ fs)
Says at terms fs gs wanted (Some x) = (wanted ≡ Some (at (tree gs) x)) × Enters fs gs (map (tree gs) (terms x)) (terms x)

-- ---- the items round the first stroke

-- so many items stand in front of the first stroke
pub record StandInFront (ts : List Written) (n : ℕ) : Type 0 where
  pub front : in_front ts ≡ take n ts
  pub back : behind ts ≡ drop (n + 1) ts

-- ---- items by how many there are

-- the number of the one item
abbrev pub count_in : List Written → Option ℕ
count_in (t ∷ []) = number_in (2 ^ 64) t
count_in _ = None

-- an operation, and its two fractions where they are there
abbrev pub sides_in : Written → List Written → Option (Limit Written)
sides_in o (left ∷ right ∷ []) = wide_of o left right
sides_in o _ = None

abbrev pub operation_in : List Written → Option (Limit Written)
operation_in [] = None
operation_in (o ∷ ts) = sides_in o ts

abbrev pub one_fact : List Written → Option ℕ
one_fact (t ∷ []) = fact_in t
one_fact _ = None

abbrev pub two_facts : List Written → Option (ℕ × ℕ)
two_facts (t ∷ u ∷ []) = option_and_then (λ i. option_and_then (λ j. Some (i, j)) (fact_in u)) (fact_in t)
two_facts _ = None

abbrev pub two_items : List Item → Option (Item × Item)
two_items (i ∷ j ∷ []) = Some (i, j)
two_items _ = None
