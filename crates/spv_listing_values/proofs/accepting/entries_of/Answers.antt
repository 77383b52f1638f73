use Rattle.std.proofs.Common.{Some, map, ap, ◌∙◌}
use Rattle.std.specs.List.{list_all}
use Rattle.std.proofs.lemmas.List.Elements.{All-pop}
use Rattle.spv_listing_values.specs.declared.reading.Read.{Read}
use Rattle.spv_listing_values.specs.Forms.{is_claim}
use Rattle.spv_listing_values.specs.Entries.{written_claim}
use Rattle.spv_listing_values.specs.Followed.{IsRead}
use Rattle.spv_listing_values.proofs.Accepts.{formed_popped, formed_not, formed_pushed, formed_end, nothing_popped}
use Rattle.spv_listing_values.proofs.accepting.entries_of.Goals as goal

pub entry_of-requires : goal.entry_of-requires
entry_of-requires c = (All-pop (λ e. IsRead e.texts e.claim) c.loop-one.read.items c.pop.new.self.items (Some c.in-Some.one) c.in-Some.ensures.items c.loop-one.invariant.read).1

pub returns-in-None : goal.returns-in-None
returns-in-None c =
    let all = map (λ (e : Read). written_claim e.texts e.claim) c.args.read.items in
    let rest = map (λ (e : Read). written_claim e.texts e.claim) c.pop.new.self.items in
    let one = written_claim c.in-Some.one.texts c.in-Some.one.claim in
    formed_not all rest c.loop-one.entries.items one (formed_popped all c.loop-one.read.items c.pop.new.self.items c.in-Some.one c.loop-one.entries.items c.loop-one.invariant.formed c.in-Some.ensures.items)
    (rw c.in-None.is at c.in_ok-entry_of.ensures)

pub loop-one-preserved : goal.loop-one-preserved
loop-one-preserved c =
    let all = map (λ (e : Read). written_claim e.texts e.claim) c.args.read.items in
    let rest = map (λ (e : Read). written_claim e.texts e.claim) c.pop.new.self.items in
    let one = written_claim c.in-Some.one.texts c.in-Some.one.claim in
    record {
      read = (All-pop (λ e. IsRead e.texts e.claim) c.loop-one.read.items c.pop.new.self.items (Some c.in-Some.one) c.in-Some.ensures.items c.loop-one.invariant.read).0;
      formed = formed_pushed all rest c.loop-one.entries.items c.push.new.self.items one c.in-Some-2.entry
          (formed_popped all c.loop-one.read.items c.pop.new.self.items c.in-Some.one c.loop-one.entries.items c.loop-one.invariant.formed c.in-Some.ensures.items)
          (rw c.in-Some-2.is at c.in_ok-entry_of.ensures) c.in_ok-push-in-Some-2.ensures.items;
    }

pub returns : goal.returns
returns c =
    let all = map (λ (e : Read). written_claim e.texts e.claim) c.args.read.items in
    let left = map (λ (e : Read). written_claim e.texts e.claim) c.loop-one.read.items in
    let end = formed_end all left c.loop-one.entries.items c.loop-one.invariant.formed
    (ap (map (λ (e : Read). written_claim e.texts e.claim)) (nothing_popped c.loop-one.read.items c.pop.new.self.items _ c.in_default.ensures.items c.in_default.ensures.rest c.in_default.ensures.cases.0)) in
    (c.reversed.ensures ∙ end.0, ap (list_all is_claim) c.reversed.ensures ∙ end.1)
