use Rattle.std.specs.Bool.{IsTrue}
use Rattle.spv_tableau_rules.specs.declared.tableaux.side.Side.TheVariants.{Upper}
use Rattle.spv_arithmetic_side.proofs.constraint_rows.Asserting.{lower_among, upper_among}
use Rattle.spv_arithmetic_side.proofs.constraint_rows.Forms.{form_at}
use Rattle.spv_arithmetic_side.proofs.constraint_rows.Adding.{adds_then, all_adds, comes_along, constant_is, lower_comes, upper_comes}
use Rattle.spv_arithmetic_side.proofs.constraint_rows.Given.{lower_free, upper_free}
use Rattle.spv_arithmetic_side.proofs.constraint_rows.standing.Standing.assert_saying.Goals as goal

pub returns-clause-adds : goal.returns-clause-adds
returns-clause-adds c = record {
  more = _;
  adds = adds_then c.args.self.now c.assert_if-lower.new.self c.assert_if-upper.new.self _ _ c.assert_if-lower.ensures.adds c.assert_if-upper.ensures.adds;
}

pub returns-clause-all : goal.returns-clause-all
returns-clause-all c = λ both bounds are.
    all_adds c.args.self.now c.assert_if-lower.new.self c.assert_if-upper.new.self c.args.row c.args.saying c.constant-constant.result c.bounds_of-bounds.result c.assert_if-lower.result c.assert_if-upper.result
    c.constant-constant.ensures.form c.constant-constant.ensures.room c.bounds_of-bounds.ensures (c.both.ensures.left both) (c.both.ensures.right both) c.assert_if-lower.ensures.adds c.assert_if-upper.ensures.adds bounds are

pub returns-clause-bare : goal.returns-clause-bare
returns-clause-bare c = λ bare.
    let took : IsTrue c.assert_if-lower.result = c.assert_if-lower.ensures.free (lower_free c.args.self.now c.args.row c.bounds_of-bounds.result.lower c.requires.row bare) in
    c.both.ensures.all took
    (c.assert_if-upper.ensures.free
    (upper_free c.law_sides.ensures.lower c.law_sides.ensures.upper c.args.self.now c.assert_if-lower.new.self c.args.row c.args.saying c.constant-constant.result c.bounds_of-bounds.result c.assert_if-lower.result
    c.constant-constant.ensures.form c.constant-constant.ensures.room c.bounds_of-bounds.ensures c.requires.row bare c.assert_if-lower.ensures.adds took))

pub returns-clause-sourced : goal.returns-clause-sourced
returns-clause-sourced c = λ a read h said.
    c.assert_if-upper.ensures.sourced a read
    (c.assert_if-lower.ensures.sourced a read h
    (lower_comes c.law_sides.ensures.lower c.law_sides.ensures.upper a read c.args.self.now c.args.row c.args.saying c.args.fact _ c.bounds_of-bounds.result c.says_equal.result
    (λ f at. constant_is c.constant-constant.result f.constant c.constant-constant.ensures.room (c.constant-constant.ensures.form f at)) c.bounds_of-bounds.ensures c.says_equal.ensures said))
    (comes_along a read c.args.self.now c.assert_if-lower.new.self c.args.row Upper c.bounds_of-bounds.result.upper _ c.assert_if-lower.ensures.adds.forms
    (upper_comes c.law_sides.ensures.lower c.law_sides.ensures.upper a read c.args.self.now c.args.row c.args.saying c.args.fact _ c.bounds_of-bounds.result c.says_equal.result
    (λ f at. constant_is c.constant-constant.result f.constant c.constant-constant.ensures.room (c.constant-constant.ensures.form f at)) c.bounds_of-bounds.ensures c.says_equal.ensures said))

pub returns-clause-asserted : goal.returns-clause-asserted
returns-clause-asserted c = λ known said h.
    let form = form_at c.args.self.now.tableau.forms c.args.row c.requires.row in
    c.assert_if-upper.ensures.asserted known
    (upper_among known c.args.self.now c.args.row c.args.saying c.bounds_of-bounds.result c.constant-constant.result c.constant-constant.ensures.form c.constant-constant.ensures.room c.bounds_of-bounds.ensures said form.0 form.1)
    (c.assert_if-lower.ensures.asserted known
    (lower_among known c.args.self.now c.args.row c.args.saying c.bounds_of-bounds.result c.constant-constant.result c.constant-constant.ensures.form c.constant-constant.ensures.room c.bounds_of-bounds.ensures said form.0 form.1) h)
