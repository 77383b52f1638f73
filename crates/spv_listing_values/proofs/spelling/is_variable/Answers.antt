use Rattle.std.proofs.Common.{ℕ, Bool, ◌&&◌, ◌+◌, List, drop, sym, ap, ◌∙◌}
use Rattle.std.proofs.lemmas.List.{take_rest}
use Rattle.spv_listing_values.specs.Forms.{is_number}
use Rattle.spv_listing_values.proofs.Letters.{variable_plain, variable_marked}
use Rattle.spv_listing_values.proofs.spelling.is_variable.Goals as goal

pub returns-in-None : goal.returns-in-None
returns-in-None c = c.is_name.ensures ∙ variable_plain c.args.text.now c.in-None.ensures

pub returns-then-not-is_name : goal.returns-then-not-is_name
returns-then-not-is_name c =
    ap (λ (b : Bool). b && is_number (drop (c.in-Some.at + 1) c.args.text.now)) (sym c.if-not-is_name.true ∙ c.is_name-in-Some.ensures) ∙ variable_marked c.args.text.now c.in-Some.at c.in-Some.ensures

pub returns-else-not-is_name : goal.returns-else-not-is_name
returns-else-not-is_name c =
    c.is_number.ensures
    ∙ (ap (λ (l : List ℕ). is_number l) (take_rest c.args.text.now (c.in-Some.at + 1))
    ∙ (ap (λ (b : Bool). b && is_number (drop (c.in-Some.at + 1) c.args.text.now)) (sym c.if-not-is_name.false ∙ c.is_name-in-Some.ensures) ∙ variable_marked c.args.text.now c.in-Some.at c.in-Some.ensures))
