use Rattle.std.proofs.Common.{◌++◌, ◌-◌, codes, decimal, sym, ap, ◌∙◌}
use Rattle.spv_listing.proofs.verdict_pages.Splits.{on_ok}
use Rattle.spv_listing.proofs.verdict_pages.Rounds.{members_counted}
use Rattle.spv_listing.proofs.verdict_pages.instances.push_most_instances.Goals as goal

pub returns : goal.returns
returns c = λ a. on_ok c.push_number_of_instances.result c.push_number_of_instances.ensures (λ e.
    e ∙ ap (λ n. c.args.out.now.items ++ (codes "INSTANCES " ++ decimal n)) (c.one_less.ensures ∙ ap (λ n. n - 1) (c.in_ok-number.ensures ∙ sym (members_counted a c.args.rounds.now))))
