use Rattle.std.proofs.Common.{refl, rules}
use Rattle.std.specs.Bool.{IsTrue}
use Rattle.spv_arithmetic_side.proofs.constraint_rows.Adding.{one_adds, one_sourced}
use Rattle.spv_arithmetic_side.proofs.constraint_rows.Asserting.{asserted_once}
use Rattle.spv_arithmetic_side.proofs.constraint_rows.standing.Standing.assert_one.Goals as goal

pub returns-clause-adds : goal.returns-clause-adds
returns-clause-adds c =
    let sure : IsTrue c.may_take.result = search rules in
    one_adds c.args.self.now _ c.args.row c.args.side c.args.bound c.args.source
    (record { tableau = c.assert_bound.ensures; sources = c.note.ensures.noted; many = c.note.ensures.rows; forms = refl; free = (c.may_take.ensures.may sure).free })

pub returns-clause-sourced : goal.returns-clause-sourced
returns-clause-sourced c = λ a read h from.
    let sure : IsTrue c.may_take.result = search rules in
    one_sourced c.args.self.now (record c.args.self.now { tableau = c.assert_bound.new.self; sources = c.note.new.sources }) c.args.row c.args.side c.args.bound c.args.source
    (record { tableau = c.assert_bound.ensures; sources = c.note.ensures.noted; many = c.note.ensures.rows; forms = refl; free = (c.may_take.ensures.may sure).free }) a read h from

pub returns-clause-asserted : goal.returns-clause-asserted
returns-clause-asserted c = λ known k h. asserted_once c.law_asserted.ensures.assert known c.args.self.now.tableau c.assert_bound.new.self _ c.assert_bound.ensures k h
