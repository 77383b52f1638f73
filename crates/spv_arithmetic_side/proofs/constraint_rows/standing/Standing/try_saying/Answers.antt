use Rattle.std.proofs.Common.{◌≡◌, false, IfOk, refl, rules, sym, subst}
use Rattle.std.specs.Bool.{IsTrue}
use Rattle.spv_derivations.proofs.derivation.Bridges.{if_ok}
use Rattle.spv_simplex.specs.Checks.{IsFeasible}
use Rattle.spv_arithmetic_side.specs.declared.constraint_rows.standing.Standing.{Standing}
use Rattle.spv_arithmetic_side.specs.constraint_rows.Said.{IsOpposed}
use Rattle.spv_arithmetic_side.specs.constraint_rows.Forcing.{HasEvidence, IsRefutedBy, IsStopped}
use Rattle.spv_arithmetic_side.proofs.constraint_rows.Asserting.{asserted_still, tried_evidence}
use Rattle.spv_arithmetic_side.proofs.constraint_rows.Firsts.{tried_met}
use Rattle.spv_arithmetic_side.proofs.constraint_rows.Refuting.{back_same, refuted_met, refuted_stopped, refuted_tried}
use Rattle.spv_arithmetic_side.proofs.constraint_rows.Trying.{tried_is}
use Rattle.spv_arithmetic_side.proofs.constraint_rows.standing.Standing.try_saying.Goals as goal

pub refute-requires-clause-opposed : goal.refute-requires-clause-opposed
refute-requires-clause-opposed c =
    let none : c.say.result ≡ false = search rules in
    let same : c.say.new.self ≡ c.args.self.now = c.say.ensures.same none in
    subst (λ (b : Standing). IsOpposed b c.args.row c.args.saying) (sym same) (c.say.ensures.opposed none)

pub returns-then-not-say-clause-back : goal.returns-then-not-say-clause-back
returns-then-not-say-clause-back c = let none : c.say.result ≡ false = search rules in back_same c.args.self.now c.say.new.self (c.say.ensures.same none)

pub returns-then-not-say-clause-tried : goal.returns-then-not-say-clause-tried
returns-then-not-say-clause-tried c =
    let none : c.say.result ≡ false = search rules in
    let same : c.say.new.self ≡ c.args.self.now = c.say.ensures.same none in
    refuted_tried c.args.self.now c.args.row c.args.saying c.refute.result (subst (λ (b : Standing). IfOk c.refute.result (λ t. IsRefutedBy b c.args.row c.args.saying t)) same c.refute.ensures)

pub returns-then-not-say-clause-met : goal.returns-then-not-say-clause-met
returns-then-not-say-clause-met c = refuted_met c.say.new.self c.args.row c.args.saying c.refute.result (IsFeasible c.say.new.self.tableau) c.refute.ensures

pub returns-then-not-say-clause-stopped : goal.returns-then-not-say-clause-stopped
returns-then-not-say-clause-stopped c = refuted_stopped c.say.new.self c.args.row c.args.saying c.refute.result (IsStopped c.say.new.self) c.refute.ensures

pub returns-then-not-say-clause-asserted : goal.returns-then-not-say-clause-asserted
returns-then-not-say-clause-asserted c = λ known said h. c.say.ensures.asserted known said h

pub returns-then-not-say-clause-evidence : goal.returns-then-not-say-clause-evidence
returns-then-not-say-clause-evidence c = λ known said h. refuted_stopped c.say.new.self c.args.row c.args.saying c.refute.result (HasEvidence known c.say.new.self.tableau) c.refute.ensures

pub returns-clause-tried : goal.returns-clause-tried
returns-clause-tried c =
    let sure : IsTrue c.say.result = search rules in
    if_ok c.outcome-tried.result c.outcome-tried.ensures
    (λ t h.
    tried_is c.law_refuted.ensures.above c.args.self.now c.say.new.self c.args.row c.args.saying c.say.ensures.adds c.say.ensures.sourced c.requires.row (c.say.ensures.given sure) c.check-checked.new.self c.check-checked.result
    c.check-checked.ensures.checked c.law_tableau-2.ensures (record c.say.new.self { tableau = c.check-checked.new.self }) refl refl t h)

pub returns-clause-met : goal.returns-clause-met
returns-clause-met c =
    tried_met c.outcome-tried.result (record c.say.new.self { tableau = c.check-checked.new.self }) c.say.new.self.tableau c.check-checked.new.self c.check-checked.result c.mark-mark.result _ c.check-checked.ensures.checked c.undo.ensures
    c.outcome-tried.ensures

pub returns-clause-asserted : goal.returns-clause-asserted
returns-clause-asserted c = λ known said h.
    asserted_still c.law_asserted.ensures.undo known c.check-checked.new.self _ c.mark-mark.result c.undo.ensures (c.check-checked.ensures.held known (c.say.ensures.asserted known said h))

pub returns-clause-evidence : goal.returns-clause-evidence
returns-clause-evidence c = λ known said h.
    tried_evidence known c.outcome-tried.result (record c.say.new.self { tableau = c.check-checked.new.self }) c.say.new.self.tableau c.check-checked.new.self _ c.check-checked.result c.mark-mark.result c.law_tableau.ensures
    (c.say.ensures.asserted known said h) c.check-checked.ensures.checked c.undo.ensures c.outcome-tried.ensures
