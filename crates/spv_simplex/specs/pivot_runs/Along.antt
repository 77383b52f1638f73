-- A solved form and values along the steps of a check.
use Rattle.std.specs.Prelude.{◌≡◌, ℕ, ◌<◌, List, length, Some}
use Rattle.spv_frac.specs.rational.Rational.{Rational}
use Rattle.spv_tableau_rules.specs.declared.tableaux.side.Side.{Side}
use Rattle.spv_tableau_rules.specs.tableaux.Rows.{Rows, columns, Point}
use Rattle.spv_tableau_rules.specs.tableaux.Bounds.{Limits}
use Rattle.spv_tableau_rules.specs.tableaux.Solved.{At, Places, is_basic, IsSolved, point, exchanged}
use Rattle.spv_tableau_rules.specs.tableaux.Steps.{IsStep}
use Rattle.spv_dictionary.specs.declared.spot.Spot.TheVariants as spot
use Rattle.spv_dictionary.specs.Dictionary as form
use Rattle.spv_dictionary.specs.Dictionary.{Dictionary, IsDictionary, spot_of, entries}
use Rattle.spv_dictionary.specs.updates.Shifts.{value_in}
use Rattle.spv_tableau_rules.specs.pivots.Moved.{placed}
use Rattle.spv_dictionary.specs.pivoting.Moving.{AreMovedTo}
use Rattle.spv_dictionary.specs.declared.pivoting.choosing.Chosen.{Chosen}
use Rattle.spv_dictionary.specs.declared.pivoting.entering.Entry.{Entry}
use Rattle.spv_dictionary.specs.pivoting.Finding.{IsChosen}
use Rattle.spv_dictionary.specs.pivoting.Stepping.{IsMade}

-- the solved form of a placed basis, and the values of its point
pub record IsAt (rows : Rows) (limits : Limits) (held : Point) (places : Places) (d : Dictionary) (values : List Rational) : Type 0 where
  pub solved : IsSolved rows places (entries d)
  pub spots : length d.spots ≡ columns rows
  pub basis : (c : ℕ) → c < columns rows → is_basic (form.places d c) ≡ is_basic (places c)
  pub count : length values ≡ columns rows
  pub point_is : (c : ℕ) → c < columns rows → value_in values c ≡ point rows limits held places (entries d) c

-- what was chosen and made
pub record IsGone (limits : Limits) (d : Dictionary) (values : List Rational) (chosen : Chosen) (entry : Entry) (new : Dictionary) (after : List Rational) : Type 0 where
  pub old_form : IsDictionary d
  pub new_form : IsDictionary new
  pub chosen_is : IsChosen limits d (value_in values) chosen entry
  pub made : IsMade d values chosen.row entry.slot chosen.bound new after

-- it was a step, and leads to the solved form and the point of the placed basis after it
abbrev pub MakesStep : Type 0
MakesStep = (rows : Rows) (limits : Limits) (held : Point) (places : Places) (d : Dictionary) (values : List Rational) (chosen : Chosen) (entry : Entry)
    → IsAt rows limits held places d values → IsDictionary d → IsChosen limits d (value_in values) chosen entry
    → IsStep rows limits places (point rows limits held places (entries d)) (entries d) chosen.column chosen.side entry.column

abbrev pub StepIsAt : Type 0
StepIsAt = (rows : Rows) (limits : Limits) (held : Point) (places : Places) (d : Dictionary) (values : List Rational) (chosen : Chosen) (entry : Entry)
    (new : Dictionary) (after : List Rational) → IsAt rows limits held places d values → IsGone limits d values chosen entry new after
    → IsAt rows limits held (exchanged places chosen.column chosen.side entry.column) new after

-- a column outside the basis that was moved to its bound leads to the point of the basis with it there
abbrev pub MoveIsAt : Type 0
MoveIsAt = (rows : Rows) (limits : Limits) (held : Point) (places : Places) (d : Dictionary) (values : List Rational) (slot column : ℕ) (side : Side) (bound : Rational) (after : List Rational)
    → IsDictionary d → IsAt rows limits held places d values → column < columns rows → spot_of d column ≡ spot.Slot slot → limits column side ≡ Some bound
    → AreMovedTo d values slot bound after → IsAt rows limits held (placed places column (At side)) d after
