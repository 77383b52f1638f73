-- What is known at the end of a program, with its main block.
use Rattle.std.specs.Prelude.{List, Option}
use Rattle.spv_logic.specs.declared.names.names.Symbol.{Symbol}
use Rattle.spv_program.specs.Programs.{Main, Program}
use Rattle.spv_environments.specs.declared.ending.Tables.{Tables}

-- a program with these titles and this main block
abbrev pub ended : Program → List (Option Symbol) → Main → Program
ended p titles main = record {
  forms = p.forms;
  titles = titles;
  types = p.types;
  constants = p.constants;
  variables = p.variables;
  symbols = p.symbols;
  routines = p.routines;
  main = main;
}

-- a program with these tables
abbrev pub tabled : Program → Tables → Program
tabled p tables = record {
  forms = p.forms;
  titles = p.titles;
  types = tables.types;
  constants = tables.constants;
  variables = tables.variables;
  symbols = tables.symbols;
  routines = p.routines;
  main = p.main;
}
