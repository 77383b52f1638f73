-- The counters that the code keeps.
use Rattle.std.specs.Prelude.{◌≡◌, reverse}
use Rattle.spv_grammar.specs.declared.nesting.scan.Scan.{Scan}
use Rattle.spv_grammar.specs.nesting.Level.{Counters, level}

-- those before the last are kept with the nearest at the end
abbrev pub counters : Scan → Counters
counters s = record { last = s.last; others = reverse s.others.items }

-- the level is kept beside them
pub record IsCounted (s : Scan) : Type 0 where
  pub level_is : s.level ≡ level (counters s)
