-- What a put does to places.
use Rattle.std.specs.Prelude.{◌≡◌, false, List, [], Some, IsTrue}
use Rattle.spv_logic.specs.declared.types.Sort.{Sort}
use Rattle.spv_logic.specs.declared.types.Shape.{Shape}
use Rattle.spv_logic.specs.Values.{Value}
use Rattle.spv_logic.specs.Fits.{fits}
use Rattle.spv_meaning.specs.Places.{PathStep, Place, State, root_value, look, exists, put}
use Rattle.spv_meaning.specs.Starts.{paths_meet}
use Rattle.spv_meaning.specs.FrameTypes.{path_sort}

-- a place of a sort: its root holds a value of some sort, and the path leads from that sort to this one
pub record IsPlace (shapes : List Shape) (state : State) (a : Place) (e : Sort) : Type 0 where
  pub whole : Value
  pub sort : Sort
  pub is : root_value state a.root ≡ Some whole
  pub fit : IsTrue (fits shapes whole sort)
  pub leads : path_sort shapes sort a.path ≡ Some e

-- what was put at a place is there
abbrev pub PutIsFound : Type 0
PutIsFound = (shapes : List Shape) (state : State) (a : Place) (e : Sort) → IsPlace shapes state a e → (v : Value) → look (put state a v) a ≡ Some v

-- what is at the end of a path that parts from it stays
abbrev pub PutLeavesPartingPaths : Type 0
PutLeavesPartingPaths =
    (shapes : List Shape) (state : State) (a : Place) (e : Sort) → IsPlace shapes state a e → (v : Value) (path : List PathStep) → paths_meet a.path path ≡ false
    → look (put state a v) (record { root = a.root; path = path }) ≡ look state (record { root = a.root; path = path })

-- a value of the place's sort leaves the root's value one of its sort
abbrev pub PutKeepsSorts : Type 0
PutKeepsSorts =
    (shapes : List Shape) (state : State) (a : Place) (e : Sort) (place : IsPlace shapes state a e) (v : Value) → IsTrue (fits shapes v e)
    → IsPlace shapes (put state a v) (record { root = a.root; path = [] }) place.sort

-- and all places that there are
abbrev pub PutKeepsPlaces : Type 0
PutKeepsPlaces =
    (shapes : List Shape) (state : State) (a : Place) (e : Sort) → IsPlace shapes state a e → (v : Value) → IsTrue (fits shapes v e)
    → (b : Place) → exists (put state a v) b ≡ exists state b
