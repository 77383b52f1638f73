use Rattle.std.proofs.Common.{◌≡◌, List, length, OnOk, subst, arith}
use Rattle.spv_listing_values.specs.declared.scanning.Item.{Item}
use Rattle.spv_listing_values.specs.declared.keywords.LineWord.TheVariants as line_word
use Rattle.spv_listing_values.specs.Reading.{line_by}
use Rattle.spv_listing_values.specs.Told.{terms_in}
use Rattle.spv_listing_values.specs.Followed.{reading_of, Reads}
use Rattle.spv_listing_values.proofs.Telling.{one_item}
use Rattle.spv_listing_values.proofs.reading.Reader.given.Goals as goal

pub returns-in-len1 : goal.returns-in-len1
returns-in-len1 c =
    let one : length c.args.items.now ≡ 1 = omega (arith, c.in-len1.len_at_least, c.in-len1.len_below) in
    subst (λ (is : List Item). OnOk c.put_given.result (Reads c.put_given.new.self (line_by line_word.Given (terms_in c.args.looked.now is) (reading_of c.args.self.now)))) (one_item c.args.items.now _ one) c.put_given.ensures
