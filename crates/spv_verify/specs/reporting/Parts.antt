-- The parts of a report that are made of its program.
use Rattle.std.specs.Prelude.{◌≡◌, List, [], ◌∷◌, Option}
use Rattle.spv_proof_rules.specs.Rules.{Rule}
use Rattle.spv_term.specs.declared.nodes.Condition.{Condition}
use Rattle.spv_term.specs.Arena.{Arena, IsArena, Extends}
use Rattle.spv_proof_rules.specs.Stand.{question}
use Rattle.spv_models.specs.leaf_models.Laws.{AreFormulas}
use Rattle.spv_models.specs.leaf_models.Tables.{formulas_of}
use Rattle.spv_program.specs.Programs.{Program}
use Rattle.spv_meaning.specs.ProgramConditions as program
use Rattle.spv_assign.specs.Conditions.{conditions_of, AreIn}
use Rattle.spv_assign.specs.creation_trace.Events.{Walked}
use Rattle.spv_conditions.specs.Making.{program_events, empty_arena}
use Rattle.spv_listing_values.specs.declared.data.Claim.{Claim}
use Rattle.spv_listing_values.specs.Written.{Written}
use Rattle.spv_reports.specs.declared.mode.Mode.{Mode}
use Rattle.spv_reports.specs.declared.report.ProgramNames.{ProgramNames}
use Rattle.spv_verify.specs.declared.reporting.making.Parts.{Parts}
use Rattle.spv_reports.specs.Reports.{AreVerdictsIn}

-- the formulas of conditions are of sort Bool
abbrev pub AreFormulasIn : Arena → List Condition → Type 0
AreFormulasIn a [] = Unit {0}
AreFormulasIn a (c ∷ conditions) = AreFormulas a.shapes a.decls (formulas_of (question a c).sequent) × AreFormulasIn a conditions

-- the conditions are those of the program, and the verdicts are right under these rules and for this listing
pub record AreParts (p : Program) (named : ProgramNames) (mode : Mode) (listing : Option (List (Claim Written))) (rules : List Rule) (x : Parts) : Type 0 where
  pub sound : IsArena x.terms
  pub grows : Extends (empty_arena p) x.terms
  pub in_range : AreIn x.terms x.conditions.items
  pub conditions : conditions_of x.terms x.conditions.items ≡ program.conditions_of p
  pub within : Walked (program_events p) (empty_arena p) x.terms
  pub verdicts : AreVerdictsIn mode listing rules named x.terms x.conditions.items x.verdicts.items
