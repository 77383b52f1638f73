use Rattle.std.proofs.Common.{◌≡◌, suc, ◌+◌, ◌++◌, [], List, Option, length, option_to_list, sym, ap, subst, ◌∙◌, arith}
use Rattle.spv_listing_values.specs.declared.texts.Text.{Text}
use Rattle.spv_listing_values.specs.Places.{Entered}
use Rattle.spv_listing_values.specs.Parts.{item_at}
use Rattle.spv_listing_values.specs.Interned.{flats_at, entered_at}
use Rattle.spv_listing_values.proofs.Entering.{entering, one_count}
use Rattle.spv_listing_values.proofs.Tables.{IsEntering, entering_begins, args_there, entering_more, entering_ends, last_taken}
use Rattle.spv_listing_values.proofs.interning.Table.enter.Goals as goal

pub loop-k-init : goal.loop-k-init
loop-k-init c =
    let fs = flats_at c.args.self.now in
    let ps = c.args.line.now.parts.items in
    record {
      sound = c.requires.sound;
      entering = subst (λ (ts : List Text). IsEntering c.args.bytes.now ps c.args.item.end (item_at c.args.bytes.now ps c.args.item) fs (entering fs ts) c.args.item.first) (sym c.requires.idle)
          (entering_begins c.args.bytes.now ps c.args.item fs c.requires.item);
    }

pub enter_part-requires-clause-args : goal.enter_part-requires-clause-args
enter_part-requires-clause-args c =
    args_there c.args.bytes.now c.args.line.now.parts.items c.args.item.end (item_at c.args.bytes.now c.args.line.now.parts.items c.args.item) (flats_at c.args.self.now) (entered_at c.loop-k.self) c.loop-k.k
    c.loop-k.invariant.entering c.loop-k-test.true c.requires.item.in_range c.index.result.now c.index.ensures

pub loop-k-preserved : goal.loop-k-preserved
loop-k-preserved c =
    let ps = c.args.line.now.parts.items in
    let t = item_at c.args.bytes.now ps c.args.item in
    let fs = flats_at c.args.self.now in
    record {
      sound = c.in_ok-enter_part.ensures.sound;
      entering = subst (λ (e : Entered). IsEntering c.args.bytes.now ps c.args.item.end t fs e (c.loop-k.k + 1)) (sym c.in_ok-enter_part.ensures.entered)
          (entering_more c.args.bytes.now ps c.args.item.end t fs (entered_at c.loop-k.self) c.loop-k.k c.loop-k.invariant.entering c.loop-k-test.true c.requires.item.in_range c.index.result.now c.index.ensures);
    }

pub unwrap-requires : goal.unwrap-requires
unwrap-requires c =
    let ps = c.args.line.now.parts.items in
    let t = item_at c.args.bytes.now ps c.args.item in
    let fs = flats_at c.args.self.now in
    let ends = entering_ends c.args.bytes.now ps c.args.item.end t fs (entered_at c.loop-k.self) c.loop-k.k c.loop-k.invariant.entering c.loop-k-test.false in
    let size : length c.loop-k.self.waiting.items ≡ suc 0 = ap (λ (e : Entered). length e.places) ends ∙ one_count t fs [] in
    c.pop.ensures.variant.1 (omega (arith, size, c.loop-k.self.waiting.ok.0))

pub returns-clause-idle : goal.returns-clause-idle
returns-clause-idle c =
    let ps = c.args.line.now.parts.items in
    let t = item_at c.args.bytes.now ps c.args.item in
    let fs = flats_at c.args.self.now in
    let ends = entering_ends c.args.bytes.now ps c.args.item.end t fs (entered_at c.loop-k.self) c.loop-k.k c.loop-k.invariant.entering c.loop-k-test.false in
    let last = c.pop.ensures.items ∙ ap (λ (o : Option Text). c.pop.new.self.items ++ option_to_list o) c.unwrap.ensures in
    (last_taken (entered_at c.loop-k.self) t fs c.pop.new.self.items c.unwrap.result ends last).none

pub returns-clause-entered : goal.returns-clause-entered
returns-clause-entered c =
    let ps = c.args.line.now.parts.items in
    let t = item_at c.args.bytes.now ps c.args.item in
    let fs = flats_at c.args.self.now in
    let ends = entering_ends c.args.bytes.now ps c.args.item.end t fs (entered_at c.loop-k.self) c.loop-k.k c.loop-k.invariant.entering c.loop-k-test.false in
    let last = c.pop.ensures.items ∙ ap (λ (o : Option Text). c.pop.new.self.items ++ option_to_list o) c.unwrap.ensures in
    (last_taken (entered_at c.loop-k.self) t fs c.pop.new.self.items c.unwrap.result ends last).whole
