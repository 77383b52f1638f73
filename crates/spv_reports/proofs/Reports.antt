-- A report whose verdicts are all Proved makes its program correct.
use Rattle.std.proofs.Common.{◌≡◌, Bool, true, not, List, [], ◌∷◌, drop, Option, None, is_some, sym, ap, subst, ◌∙◌}
use Rattle.std.specs.Prelude.{slice_get}
use Rattle.std.proofs.lemmas.Bool.{false≢true}
use Rattle.spv_logic.proofs.list.Tests.{left_true, right_true}
use Rattle.spv_logic.specs.Shapes.{shapes_ok}
use Rattle.spv_logic.specs.declared.types.Shape.{Shape}
use Rattle.spv_logic.specs.declared.types.Decl.{Decl}
use Rattle.spv_logic.specs.Conditions.{Meaning}
use Rattle.spv_term.specs.declared.nodes.Condition.{Condition}
use Rattle.spv_term.specs.Arena.{Arena}
use Rattle.spv_program.specs.Programs.{Program, shapes}
use Rattle.spv_program.specs.Frames.{framed}
use Rattle.spv_effects.specs.declared.frame_walk.faults.FrameFault.{FrameFault}
use Rattle.spv_effects.specs.frame_walk.FrameWalk.{frame_fault}
use Rattle.spv_effects.proofs.frame_laws.Framed.{framed_is}
use Rattle.spv_meaning.specs.ProgramConditions.{AllTrueIn}
use Rattle.spv_assign.specs.Conditions.{conditions_of}
use Rattle.spv_conditions.proofs.Correct.{conditions_correct}
use Rattle.spv_proof_rules.specs.Rules.{Rule, RulesHold}
use Rattle.spv_verdicts.specs.Verdicts.{Limits}
use Rattle.spv_rules.specs.RuleSets.{rules_in}
use Rattle.spv_verdicts.specs.declared.answers.verdicts.Decided.{Decided}
use Rattle.spv_listing_values.specs.declared.data.Claim.{Claim}
use Rattle.spv_listing_values.specs.Written.{Written}
use Rattle.spv_reports.specs.declared.report.ProgramNames.{ProgramNames}
use Rattle.spv_reports.specs.declared.mode.Mode.{Mode}
use Rattle.spv_reports.specs.declared.mode.Mode.TheVariants.{Verify, Simplify, Check, Conditions, Drill}
use Rattle.spv_reports.specs.Headings.{header_of}
use Rattle.spv_reports.specs.Reports.{Findings, IsReport, IsReportOn, AreVerdicts, AreRechecked, AreVerdictsIn, entries_of, has_verdicts, recheck_of, is_proved, all_proved, ProvedIsCorrectIn}
use Rattle.spv_reports.proofs.Proved.{proved_true, rechecked_true}

-- proved conditions are true in every world in which the rules hold
all_true : (rules : List Rule) (a : Arena) (limits : Limits) (world : Meaning) → shapes_ok a.shapes ≡ true → RulesHold a.shapes a.decls world rules
    → (cs : List Condition) (ds : List Decided) → AreVerdicts rules a limits cs ds → all_proved ds ≡ true → AllTrueIn a.shapes a.decls world (conditions_of a cs)
all_true rules a limits world ok hold [] [] right proved = tt
all_true rules a limits world ok hold [] (d ∷ ds) right proved = absurd right
all_true rules a limits world ok hold (c ∷ cs) [] right proved = absurd right
all_true rules a limits world ok hold (c ∷ cs) (d ∷ ds) right proved = (
  proved_true rules a c limits d world ok hold right.0 (left_true _ _ proved),
  all_true rules a limits world ok hold cs ds right.1 (right_true (is_proved d.verdict) _ proved),
)

-- and so are those of which a listing has a proof that is accepted
all_accepted : (rules : List Rule) (named : ProgramNames) (a : Arena) (world : Meaning) → shapes_ok a.shapes ≡ true → RulesHold a.shapes a.decls world rules
    → (entries : List (Claim Written)) (cs : List Condition) (ds : List Decided) → AreRechecked rules named a entries cs ds → all_proved ds ≡ true → AllTrueIn a.shapes a.decls world (conditions_of a cs)
all_accepted rules named a world ok hold entries [] [] right proved = tt
all_accepted rules named a world ok hold entries [] (d ∷ ds) right proved = absurd right
all_accepted rules named a world ok hold entries (c ∷ cs) [] right proved = absurd right
all_accepted rules named a world ok hold entries (c ∷ cs) (d ∷ ds) right proved = (
  rechecked_true (recheck_of rules named) (header_of named c.origin) a c (slice_get entries 0) d world ok hold right.0 (left_true _ _ proved),
  all_accepted rules named a world ok hold (drop 1 entries) cs ds right.1 (right_true (is_proved d.verdict) _ proved),
)

-- with verdicts, they are on the conditions
all_right : (m : Mode) (listing : Option (List (Claim Written))) (rules : List Rule) (named : ProgramNames) (a : Arena) (world : Meaning) → shapes_ok a.shapes ≡ true → RulesHold a.shapes a.decls world rules
    → (cs : List Condition) (ds : List Decided) → has_verdicts m ≡ true → AreVerdictsIn m listing rules named a cs ds → all_proved ds ≡ true → AllTrueIn a.shapes a.decls world (conditions_of a cs)
all_right (Verify limits) listing rules named a world ok hold cs ds has right proved = all_true rules a limits world ok hold cs ds right proved
all_right (Simplify limits) listing rules named a world ok hold cs ds has right proved = all_true rules a limits world ok hold cs ds right proved
all_right Check listing rules named a world ok hold cs ds has right proved = all_accepted rules named a world ok hold (entries_of listing) cs ds right proved
all_right Conditions listing rules named a world ok hold cs ds has right proved = absurd (false≢true has)
all_right (Drill load limits) listing rules named a world ok hold cs ds has right proved = all_true rules a limits world ok hold cs ds right proved

-- where the walk meets no fault, the rules of frames hold
framed_right : (p : Program) → frame_fault p ≡ None → framed p ≡ true
framed_right p e = sym (framed_is p) ∙ ap (λ (o : Option FrameFault). not (is_some o)) e

pub proved_correct : (r : Findings) (world : Meaning) → ProvedIsCorrectIn r world
proved_correct r world has proved p is hold =
    let hold_here : RulesHold r.arena.shapes r.arena.decls world (rules_in r.rules) =
    subst (λ (s : List Shape). RulesHold s r.arena.decls world (rules_in r.rules)) (sym is.shapes) (subst (λ (d : List Decl). RulesHold (shapes p) d world (rules_in r.rules)) (sym is.decls) hold) in
    let here : AllTrueIn r.arena.shapes r.arena.decls world (conditions_of r.arena r.conditions) =
    all_right r.mode r.listing (rules_in r.rules) r.named r.arena world is.sound.shapes hold_here r.conditions r.verdicts has is.verdicts proved in
    let there : AllTrueIn (shapes p) r.arena.decls world (conditions_of r.arena r.conditions) = subst (λ (s : List Shape). AllTrueIn s r.arena.decls world (conditions_of r.arena r.conditions)) is.shapes here in
    let all : AllTrueIn (shapes p) p.symbols world (conditions_of r.arena r.conditions) = subst (λ (d : List Decl). AllTrueIn (shapes p) d world (conditions_of r.arena r.conditions)) is.decls there in
    conditions_correct world p is.typed (framed_right p is.framed) (subst (AllTrueIn (shapes p) p.symbols world) is.conditions all)

-- whether a page has proofs changes nothing of what a report is on
pub same_report_on : (p : Program) (r : Findings) (proofs : Bool) → IsReportOn p r → IsReportOn p (record r { proofs = proofs })
same_report_on p r proofs is = record {
  typed = is.typed;
  framed = is.framed;
  sound = is.sound;
  shapes = is.shapes;
  decls = is.decls;
  titles = is.titles;
  routines = is.routines;
  in_range = is.in_range;
  conditions = is.conditions;
  verdicts = is.verdicts;
}

pub same_report : (r : Findings) (proofs : Bool) → IsReport r → IsReport (record r { proofs = proofs })
same_report r proofs is = record { program = is.program; is_on = same_report_on is.program r proofs is.is_on }
