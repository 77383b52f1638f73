-- Steps of the simplex algorithm by the rule of the least column.
use Rattle.std.specs.Prelude.{◌≡◌, ℕ, zero, suc, ◌<◌, Bool, true, ◌&&◌, not, if◌then◌else◌}
use Rattle.spv_frac.specs.rational.Rational.{Rational, is_zero, is_positive}
use Rattle.spv_tableau_rules.specs.declared.tableaux.side.Side.{Side}
use Rattle.spv_tableau_rules.specs.declared.tableaux.side.Side.TheVariants.{Lower, Upper}
use Rattle.spv_tableau_rules.specs.tableaux.Rows.{Rows, columns, Point}
use Rattle.spv_tableau_rules.specs.tableaux.Bounds.{Limits, other_side, breaks_limit, has_room, is_out}
use Rattle.spv_tableau_rules.specs.tableaux.Solved.{Place, Basic, Held, At, Places, is_basic, Entries}

-- no column below n passes a test
abbrev pub none_to : ℕ → (ℕ → Bool) → Bool
none_to zero test = true
none_to (suc n) test = none_to n test && not (test n)

-- the least column that passes a test
abbrev pub is_least : (ℕ → Bool) → ℕ → Bool
is_least test c = test c && none_to c test

-- a column in the basis that is out of its bounds
abbrev pub may_leave : Limits → Places → Point → ℕ → Bool
may_leave limits places v c = is_basic (places c) && is_out limits v c

-- the side towards which a column with this entry has to move, for a sum to move away from a side
abbrev pub way : Side → Rational → Side
way side entry = if is_positive entry then other_side side else side

-- a column outside the basis that changes the leaving one, and may move such that this moves away from the side that it breaks
abbrev pub may_enter : Limits → Places → Point → Entries → ℕ → Side → ℕ → Bool
may_enter limits places v t leaving side c =
    not (is_basic (places c)) && (not (is_zero (t leaving c)) && has_room (way side (t leaving c)) (limits c (way side (t leaving c))) (v c))

-- a step: the least column that may leave breaks its bound on this side, and the least one that may enter does
pub record IsStep (rows : Rows) (limits : Limits) (places : Places) (v : Point) (t : Entries) (leaving : ℕ) (side : Side) (entering : ℕ) : Type 0 where
  pub leaving_in : leaving < columns rows
  pub leaves : is_least (may_leave limits places v) leaving ≡ true
  pub breaks : breaks_limit side (limits leaving side) (v leaving) ≡ true
  pub entering_in : entering < columns rows
  pub enters : is_least (may_enter limits places v t leaving side) entering ≡ true

-- a column that may leave breaks its bound on this side, and none may enter
pub record IsStuck (rows : Rows) (limits : Limits) (places : Places) (v : Point) (t : Entries) (leaving : ℕ) (side : Side) : Type 0 where
  pub leaving_in : leaving < columns rows
  pub leaves : may_leave limits places v leaving ≡ true
  pub breaks : breaks_limit side (limits leaving side) (v leaving) ≡ true
  pub enters : none_to (columns rows) (may_enter limits places v t leaving side) ≡ true

-- ---- before the first step

abbrev pub placed_inside : Limits → Point → ℕ → Place
placed_inside limits v c =
    if breaks_limit Lower (limits c Lower) (v c) then At Lower else if breaks_limit Upper (limits c Upper) (v c) then At Upper else Held

abbrev pub inside_of : Limits → Point → ℕ → Place → Place
inside_of limits held c Basic = Basic
inside_of limits held c Held = placed_inside limits held c
inside_of limits held c (At side) = At side

-- each column outside the basis is moved into its bounds
abbrev pub inside : Limits → Point → Places → Places
inside limits held places c = inside_of limits held c (places c)
