use Rattle.std.proofs.Common.{◌≡◌, Bool, true, ◌&&◌, nat_lt, sym, ap, ◌∙◌}
use Rattle.std.specs.Str.Parse.{digits_value}
use Rattle.spv_listing_values.specs.Forms.{is_decimal}
use Rattle.spv_listing_values.proofs.Letters.{positive_is}
use Rattle.spv_listing_values.proofs.spelling.is_positive.Goals as goal

pub returns : goal.returns
returns c =
    let ds = c.args.digits.now in
    let form : is_decimal ds ≡ true = sym c.is_decimal.ensures ∙ c.if-not-is_decimal.false in
    sym (ap (λ (b : Bool). b && nat_lt 0 (digits_value 10 ds)) form ∙ positive_is ds form)
