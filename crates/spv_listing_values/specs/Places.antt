-- Terms that stand in a list, and are named by their places.
use Rattle.std.specs.Prelude.{ℕ, suc, ◌<◌, ◌≤◌, Bool, true, false, ◌&&◌, List, [], ◌∷◌, ◌++◌, All, length, map, Option, Some, None, option_map, nat_eq, slice_index_or, slice_range, if◌then◌else◌}
use Rattle.std.specs.List.{AllByRecursion, list_any, position_or_len}
use Rattle.std.specs.Str.{bytes_eq}
use Rattle.spv_logic.specs.declared.names.names.Symbol.{Symbol}
use Rattle.spv_listing_values.specs.declared.texts.Text.{Text}
use Rattle.spv_listing_values.specs.declared.texts.HeadText.{HeadText}
use Rattle.spv_listing_values.specs.declared.texts.HeadText.TheVariants as seen
use Rattle.spv_listing_values.specs.declared.texts.TextHead.{TextHead}
use Rattle.spv_listing_values.specs.declared.texts.TextHead.TheVariants as head
use Rattle.spv_listing_values.specs.declared.texts.Node.{Node}
use Rattle.spv_listing_values.specs.Written.{Head, Alone, Applied, Written, Writtens, written, no_written, writtens, word}
use Rattle.spv_listing_values.specs.Scanning.{joined}

-- a term over the places of its arguments
pub record Flat : Type 0 where
  pub head : Head
  pub args : List Text

abbrev pub no_flat : Flat
no_flat = record { head = Alone []; args = [] }

-- what stands at a place
abbrev pub flat_in : List Flat → Text → Flat
flat_in fs t = slice_index_or fs t.0 no_flat

abbrev pub AreBefore : ℕ → List Text → Type 0
AreBefore n args = AllByRecursion (λ a. a.0 < n) args

-- with so many terms in front of it, each term of a list stands behind its arguments
abbrev pub AreOrdered : ℕ → List Flat → Type 0
AreOrdered n [] = Unit {0}
AreOrdered n (f ∷ fs) = AreBefore n f.args × AreOrdered (suc n) fs

pub record IsTable (fs : List Flat) : Type 0 where
  pub ordered : AreOrdered 0 fs

-- ---- as trees

-- the term at a place
abbrev pub at : List Written → Text → Written
at terms t = slice_index_or terms t.0 (word [])

abbrev pub args_at : List Written → List Text → Writtens
args_at terms args = joined (map (at terms) args) no_written

-- over the terms before it
abbrev pub tree_of : List Written → Flat → Written
tree_of terms f = written f.head (args_at terms f.args)

-- terms, and behind them those of a list, each over those in front of it
abbrev pub trees_behind : List Written → List Flat → List Written
trees_behind terms [] = terms
trees_behind terms (f ∷ fs) = trees_behind (terms ++ tree_of terms f ∷ []) fs

abbrev pub trees : List Flat → List Written
trees fs = trees_behind [] fs

abbrev pub tree : List Flat → Text → Written
tree fs t = at (trees fs) t

-- ---- each term once

abbrev pub texts_eq : List Text → List Text → Bool
texts_eq [] [] = true
texts_eq (t ∷ ts) (u ∷ us) = nat_eq t.0 u.0 && texts_eq ts us
texts_eq _ _ = false

abbrev pub name_eq : Option (List ℕ) → Option (List ℕ) → Bool
name_eq None None = true
name_eq (Some a) (Some b) = bytes_eq a b
name_eq _ _ = false

abbrev pub head_eq : Head → Head → Bool
head_eq (Alone a) (Alone b) = bytes_eq a b
head_eq (Applied a m) (Applied b n) = bytes_eq a b && name_eq m n
head_eq _ _ = false

abbrev pub flat_eq : Flat → Flat → Bool
flat_eq f g = head_eq f.head g.head && texts_eq f.args g.args

-- the list after a term is entered: a new one goes last
abbrev pub with_flat : List Flat → Flat → List Flat
with_flat fs f = if list_any (flat_eq f) fs then fs else fs ++ f ∷ []

abbrev pub place_of : List Flat → Flat → Text
place_of fs f = record { 0 = position_or_len (flat_eq f) fs }

-- a list, and the places of terms that were entered into it
pub record Entered : Type 0 where
  pub flats : List Flat
  pub places : List Text

-- a term over the places that were entered last, behind those that were entered before
abbrev pub over_places : List Text → Head → Entered → Entered
over_places places h e =
    record { flats = with_flat e.flats (record { head = h; args = e.places }); places = places ++ place_of e.flats (record { head = h; args = e.places }) ∷ [] }

abbrev mutual
  -- a term is entered behind its arguments, and its place goes last
  pub entered : Entered → Written → Entered
  entered e (written h ts) = over_places e.places h (all_entered (record { flats = e.flats; places = [] }) ts)

  pub all_entered : Entered → Writtens → Entered
  all_entered e no_written = e
  all_entered e (writtens t ts) = all_entered (entered e t) ts

abbrev pub list_entered : Entered → List Written → Entered
list_entered e [] = e
list_entered e (t ∷ ts) = list_entered (entered e t) ts

-- the terms of a list and all their parts, each once, in the order of first appearance, arguments first
abbrev pub flats_of : List Written → List Flat
flats_of ts = (list_entered (record { flats = []; places = [] }) ts).flats

-- ---- as they are kept

-- the text of a name
abbrev pub name_at : List (List ℕ) → Symbol → List ℕ
name_at names x = slice_index_or names x.0 []

abbrev pub head_at : List (List ℕ) → TextHead → Head
head_at names (head.Alone x) = Alone (name_at names x)
head_at names (head.Applied x None) = Applied (name_at names x) None
head_at names (head.Applied x (Some y)) = Applied (name_at names x) (Some (name_at names y))

abbrev pub flat_at : List (List ℕ) → List Text → Node → Flat
flat_at names args n = record { head = head_at names n.head; args = slice_range args n.first n.end }

-- a head as it is lent
abbrev pub head_seen : HeadText → Head
head_seen (seen.Alone text) = Alone text.now
head_seen (seen.Applied text name) = Applied text.now (option_map (λ n. n.now) name)

-- its words are in the table
abbrev pub HeadIn : List (List ℕ) → TextHead → Type 0
HeadIn names (head.Alone x) = x.0 < length names
HeadIn names (head.Applied x None) = x.0 < length names
HeadIn names (head.Applied x (Some y)) = (x.0 < length names) × (y.0 < length names)

pub record IsNode (names : List (List ℕ)) (args : List Text) (n : Node) : Type 0 where
  pub head : HeadIn names n.head
  pub in_order : n.first ≤ n.end
  pub in_range : n.end ≤ length args

pub record AreTexts (names : List (List ℕ)) (args : List Text) (nodes : List Node) : Type 0 where
  pub each : All (λ n. IsNode names args n) nodes
  pub table : IsTable (map (flat_at names args) nodes)
