use Rattle.std.proofs.Common.{◌∙◌, List, [], sym, subst}
use Rattle.spv_listing_values.specs.declared.scanning.Item.{Item}
use Rattle.spv_listing_values.specs.declared.keywords.LineWord.TheVariants as line_word
use Rattle.spv_listing_values.specs.declared.current.Showing.{Showing}
use Rattle.spv_listing_values.specs.Written.{word}
use Rattle.spv_listing_values.specs.Reading.{line_by, with_verdict}
use Rattle.spv_listing_values.specs.Mapped.{verdict_at}
use Rattle.spv_listing_values.specs.Told.{terms_in}
use Rattle.spv_listing_values.specs.Kept.{shown}
use Rattle.spv_listing_values.specs.Followed.{reading_of, Reads}
use Rattle.spv_listing_values.proofs.Telling.{no_items}
use Rattle.spv_listing_values.proofs.reading.Reader.unproved.Goals as goal

pub returns-then-is_empty : goal.returns-then-is_empty
returns-then-is_empty c l =
    subst (λ (is : List Item). Reads c.put_verdict.new.self (line_by line_word.Unproved (terms_in l is) (reading_of c.args.self.now))) (no_items c.args.items.now (sym c.is_empty.ensures ∙ c.if-is_empty.true))
    (subst (λ (s : Showing). Reads c.put_verdict.new.self (with_verdict (verdict_at (λ t. word []) (shown s)) (reading_of c.args.self.now))) c.no_table.ensures (c.put_verdict.ensures (λ t. word [])))
