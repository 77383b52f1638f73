use Rattle.std.proofs.Common.{sym, ap}
use Rattle.spv_listing_values.specs.Places.{Entered}
use Rattle.spv_listing_values.proofs.Turns.{ended_judged}
use Rattle.spv_listing_values.proofs.reading.Reader.end_entry.Goals as goal

pub returns-in_ok-push-in-Judged : goal.returns-in_ok-push-in-Judged
returns-in_ok-push-in-Judged c =
    ended_judged c.args.self.now _ c.in-Judged.judged (record { texts = c.take-texts.result; claim = c.in_ok-claim-in-Judged.claim }) c.requires (sym c.in-Judged.ensures.value) c.take-texts.ensures.texts
    c.in_ok-claim-in-Judged.ensures c.in_ok-push-in-Judged.ensures.items (record { sound = c.take-texts.ensures.sound; idle = ap (λ (e : Entered). e.places) c.take-texts.ensures.empty })
    (ap (λ (e : Entered). e.flats) c.take-texts.ensures.empty)
