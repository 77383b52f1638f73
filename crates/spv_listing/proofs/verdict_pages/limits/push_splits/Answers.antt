use Rattle.std.proofs.Common.{ap, ◌∙◌, ◌++◌, codes, decimal}
use Rattle.spv_listing.proofs.verdict_pages.Splits.{on_ok}
use Rattle.spv_listing.proofs.verdict_pages.limits.push_splits.Goals as goal

pub returns : goal.returns
returns c = λ at. on_ok c.push_split_count.result c.push_split_count.ensures (λ e. e ∙ ap (λ n. c.args.out.now.items ++ (codes "SPLITS " ++ decimal n)) (c.splits_of-number.ensures at))
