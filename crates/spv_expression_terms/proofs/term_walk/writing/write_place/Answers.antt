use Rattle.std.proofs.Common.{◌≡◌, OnOk, ◌++◌, subst}
use Rattle.spv_logic.specs.Terms.{Term}
use Rattle.spv_program.specs.Terms.{name_in}
use Rattle.spv_expression_terms.specs.postfix.Postfix.{postfix}
use Rattle.spv_expression_terms.proofs.term_walk.Filled.{filled_place_nothing}
use Rattle.spv_expression_terms.proofs.term_walk.writing.write_place.Goals as goal

pub returns-clause-written : goal.returns-clause-written
returns-clause-written c =
    subst (λ (t : Term). OnOk c.write_filled_place.result (c.write_filled_place.new.pieces.items ≡ c.args.pieces.now.items ++ postfix t))
    (filled_place_nothing (name_in c.args.names.now) c.args.d.now) c.write_filled_place.ensures.written
