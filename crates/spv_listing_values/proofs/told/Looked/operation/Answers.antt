use Rattle.std.proofs.Common.{◌≡◌, List, option_map, subst}
use Rattle.spv_listing_values.specs.declared.scanning.Item.{Item}
use Rattle.spv_listing_values.specs.Mapped.{limit_at}
use Rattle.spv_listing_values.specs.Told.{terms_in, operation_in}
use Rattle.spv_listing_values.proofs.Telling.{first_item}
use Rattle.spv_listing_values.proofs.told.Looked.operation.Goals as goal

pub returns-in-len1-up-clause-limit : goal.returns-in-len1-up-clause-limit
returns-in-len1-up-clause-limit c f =
    subst (λ (is : List Item). option_map (limit_at f) c.sides.result ≡ operation_in (terms_in c.args.self.now is)) (first_item c.args.items.now _ c.in-len1-up.len_at_least) (c.sides.ensures.limit f)
