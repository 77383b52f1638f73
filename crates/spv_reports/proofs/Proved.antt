-- A condition whose verdict is Proved is true in every world in which the rules hold.
use Rattle.std.proofs.Common.{◌≡◌, true, List, [], ◌∷◌, Option, refl, sym, subst}
use Rattle.std.proofs.lemmas.Bool.{false≢true}
use Rattle.spv_logic.specs.Shapes.{shapes_ok}
use Rattle.spv_logic.specs.declared.types.Shape.{Shape}
use Rattle.spv_logic.specs.declared.types.Decl.{Decl}
use Rattle.spv_logic.specs.Conditions.{Meaning, Sequent, TrueIn}
use Rattle.spv_term.specs.declared.nodes.Condition.{Condition}
use Rattle.spv_term.specs.Arena.{Arena, sequent}
use Rattle.spv_proof_rules.specs.Rules.{Rule, RulesHold}
use Rattle.spv_proof_rules.specs.Effects.{Question}
use Rattle.spv_proof_rules.specs.Accepted.{accepts}
use Rattle.spv_proof_rules.specs.Stand.{question, question_under}
use Rattle.spv_proof_rules.proofs.Soundness.{accepted_true}
use Rattle.spv_verdicts.specs.Verdicts.{Limits}
use Rattle.spv_verdicts.specs.Schemas.{IsRightWith}
use Rattle.spv_verdicts.specs.declared.answers.verdicts.Decided.{Decided}
use Rattle.spv_verdicts.specs.declared.answers.verdicts.Verdict.{Verdict}
use Rattle.spv_verdicts.specs.declared.answers.verdicts.Verdict.TheVariants.{Proved, Unproved, GaveUp, NotAccepted}
use Rattle.spv_verdicts.specs.answers.Views.{IsDecidedWith, verdict_in}
use Rattle.spv_rounds.specs.Right.{IsRightUnder, IsDecidedByRounds, IsDecidedUnder}
use Rattle.spv_listing_values.specs.declared.data.Header.{Header}
use Rattle.spv_listing_values.specs.declared.data.Claim.{Claim}
use Rattle.spv_listing_values.specs.Written.{Written}
use Rattle.spv_rechecking.specs.Rechecked.{Recheck, IsRechecked}
use Rattle.spv_rechecking.proofs.Accepting.{rechecked_accepts}
use Rattle.spv_reports.specs.Reports.{is_proved}

-- ---- without rules

-- the copy that was decided claims the same, over the same types and symbols
alone_true : (a : Arena) (c : Condition) (limits : Limits) (d : Decided) (world : Meaning) → shapes_ok a.shapes ≡ true → IsDecidedWith a c limits d → is_proved d.verdict ≡ true
    → TrueIn a.shapes a.decls world (sequent a c)
alone_true a c limits d world ok is proved = here (copied d.verdict is.right proved)
  where
    shapes_there : shapes_ok d.terms.shapes ≡ true
    shapes_there = subst (λ (s : List Shape). shapes_ok s ≡ true) (sym is.shapes) ok

    copied : (v : Verdict) → IsRightWith d.terms (question d.terms d.condition) limits (verdict_in d.terms v) → is_proved v ≡ true → TrueIn d.terms.shapes d.terms.decls world (sequent d.terms d.condition)
    copied (Proved nodes) right proved = accepted_true world (question d.terms d.condition) shapes_there tt nodes right
    copied (Unproved u) right proved = absurd (false≢true proved)
    copied (GaveUp rounds l) right proved = absurd (false≢true proved)
    copied NotAccepted right proved = absurd right

    here : TrueIn d.terms.shapes d.terms.decls world (sequent d.terms d.condition) → TrueIn a.shapes a.decls world (sequent a c)
    here there =
        subst (λ (s : Sequent). TrueIn a.shapes a.decls world s) is.claim.claim
        (subst (λ (x : List Decl). TrueIn a.shapes x world (sequent d.terms d.condition)) is.decls
        (subst (λ (s : List Shape). TrueIn s d.terms.decls world (sequent d.terms d.condition)) is.shapes there))

-- ---- under rules

under_true : (rules : List Rule) (a : Arena) (c : Condition) (limits : Limits) (d : Decided) (world : Meaning) → shapes_ok a.shapes ≡ true → RulesHold a.shapes a.decls world rules
    → IsDecidedByRounds rules a c limits d → is_proved d.verdict ≡ true → TrueIn a.shapes a.decls world (sequent a c)
under_true rules a c limits d world ok hold is proved = here (copied d.verdict is.right proved)
  where
    shapes_there : shapes_ok d.terms.shapes ≡ true
    shapes_there = subst (λ (s : List Shape). shapes_ok s ≡ true) (sym is.shapes) ok

    hold_there : RulesHold d.terms.shapes d.terms.decls world rules
    hold_there =
        subst (λ (s : List Shape). RulesHold s d.terms.decls world rules) (sym is.shapes)
        (subst (λ (x : List Decl). RulesHold a.shapes x world rules) (sym is.decls) hold)

    copied : (v : Verdict) → IsRightUnder d.terms (question_under rules d.terms d.condition) limits (verdict_in d.terms v) → is_proved v ≡ true → TrueIn d.terms.shapes d.terms.decls world (sequent d.terms d.condition)
    copied (Proved nodes) right proved = accepted_true world (question_under rules d.terms d.condition) shapes_there hold_there nodes right
    copied (Unproved u) right proved = absurd (false≢true proved)
    copied (GaveUp rounds l) right proved = absurd (false≢true proved)
    copied NotAccepted right proved = absurd right

    here : TrueIn d.terms.shapes d.terms.decls world (sequent d.terms d.condition) → TrueIn a.shapes a.decls world (sequent a c)
    here there =
        subst (λ (s : Sequent). TrueIn a.shapes a.decls world s) is.claim.claim
        (subst (λ (x : List Decl). TrueIn a.shapes x world (sequent d.terms d.condition)) is.decls
        (subst (λ (s : List Shape). TrueIn s d.terms.decls world (sequent d.terms d.condition)) is.shapes there))

-- ---- rechecked

pub rechecked_true : (r : Recheck) (header : Header) (a : Arena) (c : Condition) (entry : Option (Claim Written)) (d : Decided) (world : Meaning)
    → shapes_ok a.shapes ≡ true → RulesHold a.shapes a.decls world r.rules → IsRechecked r header a c entry d → is_proved d.verdict ≡ true → TrueIn a.shapes a.decls world (sequent a c)
rechecked_true r header a c entry d world ok hold is proved = here (by_verdict d.verdict refl proved)
  where
    shapes_there : shapes_ok d.terms.shapes ≡ true
    shapes_there = subst (λ (s : List Shape). shapes_ok s ≡ true) (sym is.shapes) ok

    hold_there : RulesHold d.terms.shapes d.terms.decls world r.rules
    hold_there =
        subst (λ (s : List Shape). RulesHold s d.terms.decls world r.rules) (sym is.shapes)
        (subst (λ (x : List Decl). RulesHold a.shapes x world r.rules) (sym is.decls) hold)

    by_verdict : (v : Verdict) → d.verdict ≡ v → is_proved v ≡ true → TrueIn d.terms.shapes d.terms.decls world (sequent d.terms d.condition)
    by_verdict (Proved nodes) same proved =
        accepted_true world (question_under r.rules d.terms d.condition) shapes_there hold_there nodes (rechecked_accepts r header a c entry d nodes is same)
    by_verdict (Unproved u) same proved = absurd (false≢true proved)
    by_verdict (GaveUp rounds l) same proved = absurd (false≢true proved)
    by_verdict NotAccepted same proved = absurd (false≢true proved)

    here : TrueIn d.terms.shapes d.terms.decls world (sequent d.terms d.condition) → TrueIn a.shapes a.decls world (sequent a c)
    here there =
        subst (λ (s : Sequent). TrueIn a.shapes a.decls world s) is.claim.claim
        (subst (λ (x : List Decl). TrueIn a.shapes x world (sequent d.terms d.condition)) is.decls
        (subst (λ (s : List Shape). TrueIn s d.terms.decls world (sequent d.terms d.condition)) is.shapes there))

-- ---- with rules and without

pub proved_true : (rules : List Rule) (a : Arena) (c : Condition) (limits : Limits) (d : Decided) (world : Meaning) → shapes_ok a.shapes ≡ true → RulesHold a.shapes a.decls world rules
    → IsDecidedUnder rules a c limits d → is_proved d.verdict ≡ true → TrueIn a.shapes a.decls world (sequent a c)
proved_true [] a c limits d world ok hold is proved = alone_true a c limits d world ok is proved
proved_true (r ∷ rules) a c limits d world ok hold is proved = under_true (r ∷ rules) a c limits d world ok hold is proved
