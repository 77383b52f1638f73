use Rattle.std.proofs.Common.{◌≡◌, ◌∙◌, false, refl, rules, sym}
use Rattle.std.proofs.lemmas.Bool.{false≢true}
use Rattle.std.specs.Bool.{IsTrue}
use Rattle.spv_arithmetic_side.specs.constraint_rows.Said.{added, stood}
use Rattle.spv_arithmetic_side.proofs.constraint_rows.Opposing.{opposed_now}
use Rattle.spv_arithmetic_side.proofs.constraint_rows.standing.Standing.say.Goals as goal

pub returns-then-stands-clause-given : goal.returns-then-stands-clause-given
returns-then-stands-clause-given c = λ sure. stood refl (c.stands.ensures.there (search rules))

pub returns-then-not-is_bare-clause-opposed : goal.returns-then-not-is_bare-clause-opposed
returns-then-not-is_bare-clause-opposed c = λ none.
    opposed_now c.args.self.now c.args.row c.args.saying c.requires.row
    (λ stands. let sure : IsTrue c.stands.result = c.stands.ensures.all stands in let not : c.stands.result ≡ false = search rules in false≢true (sym not ∙ sure))
    (λ bare. let sure : IsTrue c.is_bare.result = c.is_bare.ensures.other bare in let not : c.is_bare.result ≡ false = search rules in false≢true (sym not ∙ sure)) c.requires.may

pub returns-clause-given : goal.returns-clause-given
returns-clause-given c = λ sure. let bare : IsTrue c.is_bare.result = search rules in added (c.is_bare.ensures.bare bare) (c.assert_saying.ensures.all sure)

pub returns-clause-opposed : goal.returns-clause-opposed
returns-clause-opposed c = λ none.
    let bare : IsTrue c.is_bare.result = search rules in
    let sure : IsTrue c.assert_saying.result = c.assert_saying.ensures.bare (c.is_bare.ensures.bare bare) in
    absurd (false≢true (sym none ∙ sure))

pub returns-clause-same : goal.returns-clause-same
returns-clause-same c = λ none.
    let bare : IsTrue c.is_bare.result = search rules in
    let sure : IsTrue c.assert_saying.result = c.assert_saying.ensures.bare (c.is_bare.ensures.bare bare) in
    absurd (false≢true (sym none ∙ sure))
