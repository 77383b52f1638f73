use Rattle.spv_listing_values.specs.Followed.{reading_of}
use Rattle.spv_listing_values.proofs.LinesBehind.{left_more}
use Rattle.spv_listing_values.proofs.reading.claims_in.Goals as goal

pub loop-line-preserved : goal.loop-line-preserved
loop-line-preserved c =
    let told = rw c.in-Some.is at c.in_ok-next.ensures in
    record {
      within = told.2;
      reading = c.in_ok-line.ensures.reading;
      left = left_more c.args.bytes.now (reading_of c.loop-line.reader) (reading_of c.line.new.self) c.loop-line.at c.in-Some.next _ c.loop-line.invariant.left told.3 c.in_ok-line.ensures.is;
    }
