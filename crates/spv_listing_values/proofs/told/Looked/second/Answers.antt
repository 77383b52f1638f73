use Rattle.std.proofs.Common.{◌≡◌, ◌+◌, List, IfOk, subst}
use Rattle.spv_listing_values.specs.Written.{Written}
use Rattle.spv_listing_values.specs.Reading.{multiples_in}
use Rattle.spv_listing_values.specs.Told.{term_in}
use Rattle.spv_listing_values.proofs.Telling.{behind_place}
use Rattle.spv_listing_values.proofs.told.Looked.second.Goals as goal

pub returns-then-at-items : goal.returns-then-at-items
returns-then-at-items c =
    subst (λ (ts : List Written). IfOk c.multiples.result (λ multiples. multiples ≡ multiples_in ts)) (behind_place (term_in c.args.self.now) c.args.items.now (c.args.at + 1)) c.multiples.ensures
