use Rattle.std.proofs.Common.{◌∙◌, ap, length, sym, subst, map}
use Rattle.spv_term.specs.Arena.{AllBelow, tree}
use Rattle.spv_proof_rules.specs.Stand.{question_under}
use Rattle.spv_rounds.specs.Claims.{formulas}
use Rattle.spv_rounds.specs.knowing.Known.{members_in}
use Rattle.spv_rounds.proofs.knowing.OwnLemmas.{longer, others, others_in}
use Rattle.spv_rounds.proofs.knowing.SettleLemmas.{rounds-stand, same-formulas, falsity-there}
use Rattle.spv_rounds.proofs.knowing.settling.settle.Goals as goal

pub said_by-requires : goal.said_by-requires
said_by-requires c = longer c.args.from.now c.args.whole.now c.args.terms c.args.claim.now c.requires.claim.fs c.requires.claim.is (length c.as_slice.result.now) (ap length c.as_slice.ensures)

pub returns-clause-same : goal.returns-clause-same
returns-clause-same c = (c.in_ok-rounds.ensures c.args.own.now c.args.terms c.requires.moves).same

pub returns-clause-settled : goal.returns-clause-settled
returns-clause-settled c = λ rules is stand.
    let a = c.args.from.now in
    let t = c.args.terms in
    let told = c.in_ok-condition.condition in
    let fs = formulas (question_under rules a c.args.whole.now) (members_in c.args.own.now c.args.rounds.now) in
    let moved = c.in_ok-rounds.ensures c.args.own.now t c.requires.moves in
    record {
      claim = c.in_ok-condition.ensures;
      shapes = is.shapes;
      decls = is.decls;
      falsity = falsity-there a c.args.whole.now fs t c.args.claim.now is;
      rounds = rounds-stand rules a c.args.whole.now t told c.in_ok-condition.ensures is.shapes is.decls c.args.own.now c.args.rounds.now c.in_ok-rounds.rounds stand moved;
      formulas_in = subst (AllBelow (length t.nodes)) (sym c.in_ok-said.ensures) (others_in a c.args.whole.now t c.args.claim.now fs is (length c.as_slice.result.now) (ap length c.as_slice.ensures));
      are_formulas = ap (map (tree t)) c.in_ok-said.ensures ∙ (others a c.args.whole.now t c.args.claim.now fs is (length c.as_slice.result.now) (ap length c.as_slice.ensures)
          ∙ same-formulas rules a c.args.whole.now t told c.in_ok-condition.ensures is.shapes is.decls c.args.own.now c.args.rounds.now c.in_ok-rounds.rounds moved);
    }
