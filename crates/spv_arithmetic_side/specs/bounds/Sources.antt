-- Where the bounds of rows come from, as the code keeps it.
use Rattle.std.specs.Prelude.{false, List, Option, Some, None, slice_get}
use Rattle.spv_tableau_rules.specs.declared.tableaux.side.Side.{Side}
use Rattle.spv_tableau_rules.specs.declared.tableaux.side.Side.TheVariants.{Lower, Upper}
use Rattle.spv_tableau_rules.specs.declared.constraints.source.Source.{Source}
use Rattle.spv_tableau_rules.specs.constraints.Sources.{Sources}
use Rattle.spv_arithmetic_side.specs.declared.bounds.sources.RowSources.{RowSources}

-- nothing is noted
abbrev pub nowhere : Source
nowhere = record { fact = 0; is_equal = false }

abbrev pub none : RowSources
none = record { lower = nowhere; upper = nowhere }

abbrev pub source_on : RowSources → Side → Source
source_on s Lower = s.lower
source_on s Upper = s.upper

abbrev pub with_side : RowSources → Side → Source → RowSources
with_side s Lower source = record { lower = source; upper = s.upper }
with_side s Upper source = record { lower = s.lower; upper = source }

abbrev pub source_of : Option RowSources → Side → Source
source_of None side = nowhere
source_of (Some s) side = source_on s side

-- where the bound on each side of each row comes from
abbrev pub sources_in : List RowSources → Sources
sources_in sources row side = source_of (slice_get sources row) side
