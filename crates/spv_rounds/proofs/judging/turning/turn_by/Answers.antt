use Rattle.std.proofs.Common.{List, Option, ◌∙◌, ap, sym, subst}
use Rattle.spv_logic.specs.declared.conditions.TermId.{TermId}
use Rattle.spv_term.specs.Arena.{Arena}
use Rattle.spv_rules.specs.RuleSets.{rules_in}
use Rattle.spv_verdicts.specs.answers.Views.{rounds_in}
use Rattle.spv_rounds.specs.moving.Moves.{AreMoves}
use Rattle.spv_rounds.proofs.growing.GrowLemmas.{known-stays}
use Rattle.spv_rounds.proofs.judging.TurnLemmas.{stay, claims-known, claims-there, stand-there, found-in, goes-on}
use Rattle.spv_rounds.proofs.judging.turning.turn_by.Goals as goal

pub made_of-requires-clause-settled : goal.made_of-requires-clause-settled
made_of-requires-clause-settled c = record { rules = rules_in c.args.rules.now; from = c.args.from.now; whole = c.args.whole.now; is = (c.in_ok-s.ensures.settled (rules_in c.args.rules.now) (claims-there (rules_in c.args.rules.now) c.args.from.now c.args.whole.now c.args.limits.now c.args.known.now c.args.decided c.requires.known c.requires.decided c.bring.new.own c.in-Ok.ensures.grows c.as_slice-2.result.now c.as_slice-2.ensures.value) (stand-there (rules_in c.args.rules.now) c.args.from.now c.args.whole.now c.args.limits.now c.args.known.now c.args.decided c.requires.known c.requires.decided c.bring.new.own c.in-Ok.ensures.grows c.as_slice-2.result.now c.as_slice-2.ensures.value)) }

pub made_of-requires-clause-found : goal.made_of-requires-clause-found
made_of-requires-clause-found c =
    found-in (rules_in c.args.rules.now) c.args.from.now c.args.whole.now c.args.limits.now c.args.known.now c.args.decided c.in_ok-s.s c.in_ok-s.ensures.terms (c.in_ok-s.ensures.settled (rules_in c.args.rules.now) (claims-there (rules_in c.args.rules.now) c.args.from.now c.args.whole.now c.args.limits.now c.args.known.now c.args.decided c.requires.known c.requires.decided c.bring.new.own c.in-Ok.ensures.grows c.as_slice-2.result.now c.as_slice-2.ensures.value) (stand-there (rules_in c.args.rules.now) c.args.from.now c.args.whole.now c.args.limits.now c.args.known.now c.args.decided c.requires.known c.requires.decided c.bring.new.own c.in-Ok.ensures.grows c.as_slice-2.result.now c.as_slice-2.ensures.value))
    (claims-known (rules_in c.args.rules.now) c.args.from.now c.args.whole.now c.args.limits.now c.args.known.now c.args.decided c.requires.known c.requires.decided c.bring.new.own c.in-Ok.ensures.grows) c.bring.new.own (c.in_ok-s.ensures.same ∙ ap (rounds_in c.bring.new.own) c.as_slice-2.ensures.value) (stay (rules_in c.args.rules.now) c.args.from.now c.args.whole.now c.args.limits.now c.args.known.now c.args.decided c.requires.known c.requires.decided c.bring.new.own c.in-Ok.ensures.grows) c.requires.decided

pub made_of-requires-clause-moves : goal.made_of-requires-clause-moves
made_of-requires-clause-moves c =
    subst (λ (t : Arena). AreMoves t c.bring.new.own c.as_slice-4.result.now) (sym c.in_ok-s.ensures.terms)
    (subst (λ (ps : List (Option TermId)). AreMoves c.args.decided.terms c.bring.new.own ps) (sym c.as_slice-4.ensures.value) c.in-Ok.ensures.moves)

pub returns : goal.returns
returns c =
    goes-on (rules_in c.args.rules.now) c.args.from.now c.args.whole.now c.args.limits.now c.args.known.now c.args.decided c.requires.known c.requires.decided c.bring.new.own c.in-Ok.ensures.grows c.made_of.result c.made_of.new.known _ c.made_of.ensures
    (λ o told. told c.args.from.now c.args.whole.now (c.in_ok-s.ensures.settled (rules_in c.args.rules.now) (claims-there (rules_in c.args.rules.now) c.args.from.now c.args.whole.now c.args.limits.now c.args.known.now c.args.decided c.requires.known c.requires.decided c.bring.new.own c.in-Ok.ensures.grows c.as_slice-2.result.now c.as_slice-2.ensures.value) (stand-there (rules_in c.args.rules.now) c.args.from.now c.args.whole.now c.args.limits.now c.args.known.now c.args.decided c.requires.known c.requires.decided c.bring.new.own c.in-Ok.ensures.grows c.as_slice-2.result.now c.as_slice-2.ensures.value)) (known-stays (rules_in c.args.rules.now) c.args.from.now c.args.whole.now c.args.limits.now c.args.known.now c.bring.new.own c.in-Ok.ensures.grows c.requires.known)
    (c.in_ok-s.ensures.same ∙ ap (rounds_in c.bring.new.own) c.as_slice-2.ensures.value))
