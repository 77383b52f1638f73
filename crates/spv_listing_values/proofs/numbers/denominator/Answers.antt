use Rattle.std.proofs.Common.{ℕ, ◌+◌, ◌<◌, ◌^◌, ◌∙◌, List, SomeIff, ap, sym, subst, lit<}
use Rattle.std.proofs.lemmas.List.{take_rest}
use Rattle.spv_listing_values.specs.Reading.{below}
use Rattle.spv_listing_values.proofs.Digits.{stroke_found, no_stroke_found, where_below}
use Rattle.spv_listing_values.proofs.numbers.denominator.Goals as goal

pub returns-in-None : goal.returns-in-None
returns-in-None c =
    let one = (no_stroke_found c.args.text.now c.in-None.ensures).denominator_is in
    (subst (λ (n : ℕ). n < 170141183460469231731687303715884105728) (sym one) (lit< tt), sym one)

pub returns-in-Some : goal.returns-in-Some
returns-in-Some c =
    let is = (stroke_found c.args.text.now c.in-Some.at c.in-Some.ensures).denominator_is in
    subst (λ (n : ℕ). SomeIff c.wide.result (n < 170141183460469231731687303715884105728) n) (sym is)
    (where_below c.wide.result 170141183460469231731687303715884105728 _
    (c.wide.ensures.value ∙ ap (λ (l : List ℕ). below (2 ^ 127) l) (take_rest c.args.text.now (c.in-Some.at + 1))))
