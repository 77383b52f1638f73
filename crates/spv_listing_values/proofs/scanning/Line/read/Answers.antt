use Rattle.std.proofs.Common.{◌∙◌, sym, ◌<◌, ◌≤◌, ◌+◌, length, arith}
use Rattle.spv_listing_values.specs.Scanning.{settle}
use Rattle.spv_listing_values.proofs.Marks.{stands_first, stands_plain, stands_marked, line_ends}
use Rattle.spv_listing_values.proofs.scanning.Line.read.Goals as goal

pub loop-at-init : goal.loop-at-init
loop-at-init c = stands_first c.args.bytes.now c.clear.new.self c.args.from (c.clear.ensures c.args.bytes.now)

pub loop-at-preserved-then-is_plain : goal.loop-at-preserved-then-is_plain
loop-at-preserved-then-is_plain c =
    stands_plain c.args.bytes.now c.loop-at.self c.args.from c.loop-at.start c.loop-at.at c.loop-at.invariant c.loop-at-test.true (sym c.is_plain.ensures ∙ c.if-is_plain.true)

pub returns-then-byte-eq10 : goal.returns-then-byte-eq10
returns-then-byte-eq10 c =
    let st = c.loop-at.invariant in
    let ends = line_ends c.args.bytes.now c.loop-at.self c.args.from c.loop-at.start c.loop-at.at st c.loop-at-test.true c.if-byte-eq10.true c.settle.new.self (c.in_ok-settle.ensures st.scan st.scanned st.text_is) in
    let before : c.args.from < c.loop-at.at + 1 = omega (arith, c.loop-at.auto.at) in
    let within : c.loop-at.at + 1 ≤ length c.args.bytes.now = omega (arith, c.loop-at-test.true) in
    (ends.0, before, within, ends.1)

pub loop-at-preserved : goal.loop-at-preserved
loop-at-preserved c =
    let st = c.loop-at.invariant in
    stands_marked c.args.bytes.now c.loop-at.self c.args.from c.loop-at.start c.loop-at.at st c.loop-at-test.true (sym c.is_plain.ensures ∙ c.if-is_plain.false) c.if-byte-eq10.false c.mark.new.self
    (c.in_ok-mark.ensures c.args.bytes.now (settle st.scan) (c.in_ok-settle.ensures st.scan st.scanned st.text_is))
