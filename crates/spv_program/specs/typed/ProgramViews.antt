-- What the code's routines and main blocks are as plain data.
use Rattle.std.specs.Prelude.{map, option_map}
use Rattle.spv_program.specs.declared.typed.programs.Formal.{Formal as FormalText}
use Rattle.spv_program.specs.declared.typed.programs.GlobalItem.{GlobalItem as GlobalText}
use Rattle.spv_program.specs.declared.typed.programs.Routine.{Routine as RoutineText}
use Rattle.spv_program.specs.declared.typed.programs.Main.{Main as MainText}
use Rattle.spv_program.specs.typed.FormulaViews.{annotation_of}
use Rattle.spv_program.specs.Programs.{Formal, GlobalItem, Routine, Main}

abbrev pub formal_of : FormalText → Formal
formal_of f = record { name = f.name; of = f.of; by_place = f.by_place; line = f.line }

abbrev pub global_of : GlobalText → GlobalItem
global_of g = record { item = g.item; is_var = g.is_var; line = g.line }

abbrev pub routine_of : RoutineText → Routine
routine_of r = record {
  name = r.name;
  line = r.line;
  formals = map formal_of r.formals;
  result = r.result;
  globals = map global_of r.globals;
  initial = r.initial;
  entry = option_map annotation_of r.entry;
  exit = option_map annotation_of r.exit;
  locals = r.locals;
  body = r.body;
}

abbrev pub main_of : MainText → Main
main_of m = record { entry = option_map annotation_of m.entry; exit = option_map annotation_of m.exit; body = m.body }
