use Rattle.std.proofs.Common.{List, OnOk, subst}
use Rattle.spv_listing_values.specs.declared.scanning.Item.{Item}
use Rattle.spv_listing_values.specs.declared.keywords.LineWord.TheVariants as line_word
use Rattle.spv_listing_values.specs.Reading.{line_by}
use Rattle.spv_listing_values.specs.Told.{term_in, terms_in}
use Rattle.spv_listing_values.specs.Followed.{reading_of, Reads}
use Rattle.spv_listing_values.proofs.Telling.{two_there, no_split}
use Rattle.spv_listing_values.proofs.Following.{passed}
use Rattle.spv_listing_values.proofs.reading.Reader.split.Goals as goal

pub returns-in-None : goal.returns-in-None
returns-in-None c =
    passed c.args.self.now (line_by line_word.Split (terms_in c.args.looked.now c.args.items.now) (reading_of c.args.self.now)) c.requires.reading
    (no_split (term_in c.args.looked.now) c.args.items.now (reading_of c.args.self.now) c.in-None.ensures.pair)

pub returns-in-Some : goal.returns-in-Some
returns-in-Some c =
    subst (λ (is : List Item). OnOk c.split_of.result (Reads c.split_of.new.self (line_by line_word.Split (terms_in c.args.looked.now is) (reading_of c.args.self.now))))
    (two_there c.args.items.now c.in-Some.cases c.in-Some.atom c.in-Some.ensures.pair) c.split_of.ensures
