-- Multiples of bounds that sum to 0 <= c, with c below 0.
use Rattle.std.specs.Prelude.{◌≡◌, ℕ, ◌<◌, Bool, true, ◌&&◌, not, List, [], ◌∷◌, nat_lt}
use Rattle.std.specs.List.{list_all}
use Rattle.spv_frac.specs.rational.Rational.{Rational, plus, times, opposite, is_negative}
use Rattle.spv_tableau_rules.specs.declared.tableaux.side.Side.{Side}
use Rattle.spv_tableau_rules.specs.declared.tableaux.side.Side.TheVariants.{Lower, Upper}
use Rattle.spv_tableau_rules.specs.tableaux.Numbers.{nothing}
use Rattle.spv_tableau_rules.specs.tableaux.Rows.{Rows}
use Rattle.spv_tableau_rules.specs.tableaux.Bounds.{Bound, bound_on, is_none, or_nothing}

-- a bound, and what it is multiplied by
pub record Multiple : Type 0 where
  pub row : ℕ
  pub side : Side
  pub factor : Rational

-- A row is at most its upper bound, and with the other sign at most its lower bound with the other sign.
abbrev pub signed : Side → Rational → Rational
signed Lower a = opposite a
signed Upper a = a

-- what the multiples of the rows sum to at a part
abbrev pub coefficient_sum : Rows → List Multiple → ℕ → Rational
coefficient_sum rows [] c = nothing
coefficient_sum rows (m ∷ multiples) c = plus (signed m.side (times m.factor (rows.coefficient m.row c))) (coefficient_sum rows multiples c)

-- what the multiples of the bounds sum to
abbrev pub bound_sum : List Bound → List Multiple → Rational
bound_sum bounds [] = nothing
bound_sum bounds (m ∷ multiples) = plus (signed m.side (times m.factor (or_nothing (bound_on bounds m.row m.side)))) (bound_sum bounds multiples)

-- the row is there, the bound stands, and the factor is not negative
abbrev pub is_multiple : Rows → List Bound → Multiple → Bool
is_multiple rows bounds m = nat_lt m.row rows.count && (not (is_none (bound_on bounds m.row m.side)) && not (is_negative m.factor))

-- multiples of bounds in which all parts cancel, and the bounds sum to less than 0
pub record IsContradiction (rows : Rows) (bounds : List Bound) (multiples : List Multiple) : Type 0 where
  pub each : list_all (is_multiple rows bounds) multiples ≡ true
  pub cancel : (c : ℕ) → c < rows.parts → coefficient_sum rows multiples c ≡ nothing
  pub negative : is_negative (bound_sum bounds multiples) ≡ true
