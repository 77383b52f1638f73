use Rattle.std.proofs.Common.{OnOk, subst}
use Rattle.spv_listing_values.specs.Reading.{Reading}
use Rattle.spv_listing_values.specs.Told.{term_in}
use Rattle.spv_listing_values.specs.Followed.{reading_of, Reads}
use Rattle.spv_listing_values.proofs.Telling.{instance_line}
use Rattle.spv_listing_values.proofs.reading.Reader.instance.Goals as goal

pub returns-in-Some : goal.returns-in-Some
returns-in-Some c =
    subst (λ (s : Reading). OnOk c.put_instance.result (Reads c.put_instance.new.self s))
    (instance_line (term_in c.args.looked.now) c.args.items.now _ c.in-Some.rule (reading_of c.args.self.now) c.in-len1-up.len_at_least c.in-Some.ensures) c.put_instance.ensures
