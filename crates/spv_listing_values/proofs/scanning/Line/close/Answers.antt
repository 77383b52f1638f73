use Rattle.std.proofs.Common.{List, Some, OnOk, sym, subst, refl}
use Rattle.std.proofs.lemmas.List.Elements.{All-pop}
use Rattle.spv_listing_values.specs.Scanning.{Group, closed}
use Rattle.spv_listing_values.specs.Parts.{HasSpans, IsScanned}
use Rattle.spv_listing_values.specs.Written.{written, no_written}
use Rattle.spv_listing_values.specs.Scanning.{joined}
use Rattle.spv_listing_values.proofs.Scanned.{closes}
use Rattle.spv_listing_values.proofs.scanning.Line.close.Goals as goal

pub returns-in-Some : goal.returns-in-Some
returns-in-Some c bytes s has =
    let self = c.args.self.now in
    let spans = All-pop (λ q. HasSpans bytes q.head) self.groups.items c.pop.new.self.items (Some c.in-Some.group) c.in-Some.ensures.items has.open_spans in
    let ends = closes bytes self s has c.pop.new.self.items c.in-Some.group c.in-Some.ensures.items spans.0 spans.1 (record self { groups = c.pop.new.self }) refl refl refl refl s.groups refl in
    subst (λ (gs : List Group). OnOk c.put.result (IsScanned bytes c.put.new.self (closed gs s))) (sym ends.2)
    (c.put.ensures bytes (record s { groups = ends.1 }) (written ends.0.head (joined ends.0.args no_written)) ends.3)
