-- The walk over the parts of a text, one behind the other.
use Rattle.std.specs.Prelude.{None, Ok}
use Rattle.spv_tree.specs.declared.syntax.programs.Program.{Program as ProgramText}
use Rattle.spv_tree.specs.declared.syntax.formula_texts.FormulaText.{FormulaText}
use Rattle.spv_program.specs.Statements.{Assert}
use Rattle.spv_program.specs.Programs.{Main}
use Rattle.spv_typing.specs.DeclarationWalk.{declarations_walk}
use Rattle.spv_typing.specs.Outcomes.{Outcome, after, if_there}
use Rattle.spv_typing.specs.Known.{Known, at_top}
use Rattle.spv_typing.specs.FormulaWalk.{annotation}
use Rattle.spv_typing.specs.StatementWalk.{block_walk}
use Rattle.spv_typing.specs.ProgramWalk.{routines_walk, main_setting, none_awaited}

-- ENTRY and EXIT, that no routine waits for its body, and the block
abbrev pub main_walk : Known → ProgramText → Outcome Main
main_walk k p =
    after (if_there (annotation (at_top k)) p.entry) (λ entry.
    after (if_there (annotation (at_top k)) p.exit) (λ exit.
    after (none_awaited k.awaited) (λ none.
    after (block_walk (main_setting k) p.block) (λ body. Ok (record { entry = entry; exit = exit; body = body })))))

-- what is known behind the routines of a text, and its main block
pub record Parts : Type 0 where
  pub known : Known
  pub main : Main

abbrev pub parts_walk : Known → ProgramText → Outcome Parts
parts_walk k p =
    after (declarations_walk k p.declarations) (λ declared.
    after (routines_walk declared p.routines) (λ all.
    after (main_walk all p) (λ main. Ok (record { known = all; main = main }))))

-- the same of a formula text, whose main block is its ASSERT
abbrev pub formula_parts_walk : Known → FormulaText → Outcome Parts
formula_parts_walk k t =
    after (declarations_walk k t.declarations) (λ declared.
    after (annotation (at_top declared) t.formula) (λ a.
    Ok (record { known = declared; main = record { entry = None; exit = None; body = Assert a } })))
