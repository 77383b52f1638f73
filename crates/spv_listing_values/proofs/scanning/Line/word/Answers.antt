use Rattle.std.proofs.Common.{sym, ◌∙◌}
use Rattle.spv_listing_values.proofs.Marks.{item_alone, item_applied}
use Rattle.spv_listing_values.proofs.scanning.Line.word.Goals as goal

pub returns-in-Alone : goal.returns-in-Alone
returns-in-Alone c =
    c.of.ensures ∙ sym (item_alone c.args.bytes.now c.args.self.now.parts.items c.args.item c.index.result.now c.in-Alone.word c.requires.item c.index.ensures c.in-Alone.is)

pub returns-in-Applied : goal.returns-in-Applied
returns-in-Applied c =
    sym (item_applied c.args.bytes.now c.args.self.now.parts.items c.args.item c.index.result.now c.in-Applied.field-0 c.in-Applied.field-1 c.requires.item c.index.ensures c.in-Applied.is)
