use Rattle.std.proofs.Common.{◌≡◌, List, IfOk, subst, sym}
use Rattle.std.proofs.lemmas.List.{take-map}
use Rattle.spv_listing_values.specs.Written.{Written}
use Rattle.spv_listing_values.specs.Reading.{multiples_in}
use Rattle.spv_listing_values.specs.Told.{term_in}
use Rattle.spv_listing_values.proofs.told.Looked.first.Goals as goal

pub returns : goal.returns
returns c =
    subst (λ (ts : List Written). IfOk c.multiples.result (λ multiples. multiples ≡ multiples_in ts)) (sym (take-map (term_in c.args.self.now) c.args.at c.args.items.now)) c.multiples.ensures
