-- The evidence for an answer, as contracts see it.
use Rattle.std.specs.Prelude.{ℕ, List, [], ◌∷◌, ◌++◌, map, pos}
use Rattle.spv_whole.specs.Fraction.{Fraction}
use Rattle.spv_frac.specs.rational.Rational.{Rational, number}
use Rattle.spv_frac.specs.declared.frac.Op.TheVariants.{Cmp}
use Rattle.spv_tableau_rules.specs.declared.tableaux.side.Side.{Side}
use Rattle.spv_tableau_rules.specs.tableaux.Bounds.{Bound}
use Rattle.spv_tableau_rules.specs.tableaux.Operations.{Operation, operation}
use Rattle.spv_tableau_rules.specs.tableaux.Walks.{Exchange, Start}
use Rattle.spv_dictionary.specs.Dictionary.{Dictionary}
use Rattle.spv_dictionary.specs.updates.Shifts.{value_in}
use Rattle.spv_simplex.specs.declared.evidence.Room.{Room}

pub record EvidenceValue : Type 0 where
  -- how much there is room for
  pub room : Room
  pub start : Start
  pub steps : List Exchange
  pub operation : Operation

abbrev pub bound_in : ℕ × Side × Fraction → Bound
bound_in b = record { row = b.0; side = b.1; value = number b.2 }

abbrev pub held_in : ℕ × Fraction → ℕ × Rational
held_in h = (h.0, number h.1)

abbrev pub exchange_in : ℕ × ℕ → Exchange
exchange_in s = record { leaving = s.0; entering = s.1 }

-- 0 compared with 0, which fits
abbrev pub no_operation : Operation
no_operation = operation Cmp (number (record { num = pos 0; den = 1 })) (number (record { num = pos 0; den = 1 }))

abbrev pub no_evidence : Room → EvidenceValue
no_evidence room = record { room = room; start = record { bounds = []; basis = []; held = [] }; steps = []; operation = no_operation }

-- ---- as a check begins

-- a column and what it holds
abbrev pub holding : List Rational → ℕ → ℕ × Rational
holding values c = (c, value_in values c)

-- the bounds that stand, the basis, and what the other columns hold
abbrev pub start_of : List Bound → Dictionary → List Rational → Start
start_of bounds d values = record { bounds = bounds; basis = d.basic; held = map (holding values) d.outside }

abbrev pub begun : Room → List Bound → Dictionary → List Rational → EvidenceValue
begun room bounds d values = record { room = room; start = start_of bounds d values; steps = []; operation = no_operation }

-- ---- as it goes on

abbrev pub exchange_of : ℕ → ℕ → Exchange
exchange_of leaving entering = record { leaving = leaving; entering = entering }

abbrev pub with_step : EvidenceValue → Exchange → EvidenceValue
with_step e x = record { room = e.room; start = e.start; steps = e.steps ++ x ∷ []; operation = e.operation }

abbrev pub with_operation : EvidenceValue → Operation → EvidenceValue
with_operation e o = record { room = e.room; start = e.start; steps = e.steps; operation = o }
