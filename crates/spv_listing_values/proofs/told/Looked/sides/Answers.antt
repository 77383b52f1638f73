use Rattle.std.proofs.Common.{◌≡◌, List, option_map, subst}
use Rattle.spv_listing_values.specs.declared.scanning.Item.{Item}
use Rattle.spv_listing_values.specs.Mapped.{limit_at}
use Rattle.spv_listing_values.specs.Told.{term_in, terms_in, sides_in}
use Rattle.spv_listing_values.proofs.Telling.{two_there, no_sides}
use Rattle.spv_listing_values.proofs.told.Looked.sides.Goals as goal

pub returns-in-None-clause-limit : goal.returns-in-None-clause-limit
returns-in-None-clause-limit c f = no_sides (term_in c.args.self.now) (term_in c.args.self.now c.args.op) c.args.items.now c.in-None.ensures.pair

pub returns-in-Some-clause-limit : goal.returns-in-Some-clause-limit
returns-in-Some-clause-limit c f =
    subst (λ (is : List Item). option_map (limit_at f) c.wide.result ≡ sides_in (term_in c.args.self.now c.args.op) (terms_in c.args.self.now is))
    (two_there c.args.items.now c.in-Some.left c.in-Some.right c.in-Some.ensures.pair) (c.wide.ensures.limit f)
