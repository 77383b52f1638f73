use Rattle.std.proofs.Common.{refl}
use Rattle.spv_arithmetic_side.proofs.constraint_rows.OnRows.{all_stand, stand_lower, stand_upper}
use Rattle.spv_arithmetic_side.proofs.constraint_rows.standing.Standing.stands.Goals as goal

pub returns-then-has_if-clause-there : goal.returns-then-has_if-clause-there
returns-then-has_if-clause-there c =
    λ upper.
    all_stand c.law_sides.ensures.lower c.law_sides.ensures.upper c.args.self.now c.args.row c.args.saying c.constant.result c.bounds_of-bounds.result c.constant.ensures.form c.constant.ensures.room c.bounds_of-bounds.ensures
    (c.if-has_if.ensures.there refl) (c.has_if-then-has_if.ensures.there upper)

pub returns-then-has_if-clause-all : goal.returns-then-has_if-clause-all
returns-then-has_if-clause-all c = λ stands.
    c.has_if-then-has_if.ensures.all
    (stand_upper c.law_sides.ensures.lower c.law_sides.ensures.upper c.args.self.now c.args.row c.args.saying c.constant.result c.bounds_of-bounds.result c.constant.ensures.form c.constant.ensures.room c.bounds_of-bounds.ensures c.requires.row stands)

pub returns-else-has_if-clause-all : goal.returns-else-has_if-clause-all
returns-else-has_if-clause-all c = λ stands.
    c.has_if.ensures.all
    (stand_lower c.law_sides.ensures.lower c.law_sides.ensures.upper c.args.self.now c.args.row c.args.saying c.constant.result c.bounds_of-bounds.result c.constant.ensures.form c.constant.ensures.room c.bounds_of-bounds.ensures c.requires.row stands)
