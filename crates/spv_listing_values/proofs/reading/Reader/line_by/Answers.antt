use Rattle.spv_listing_values.proofs.reading.Reader.line_by.Goals as goal

pub returns-in-Case : goal.returns-in-Case
returns-in-Case c = rw c.in-Case.is (c.case.ensures c.args.looked.now)
