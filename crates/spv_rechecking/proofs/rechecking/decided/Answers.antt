use Rattle.std.proofs.Common.{sym, ap}
use Rattle.std.specs.Prelude.{option_copied}
use Rattle.spv_listing_values.specs.declared.data.Header.{Header}
use Rattle.spv_rules.specs.RuleSets.{rules_in}
use Rattle.spv_rechecking.specs.Rechecked.{Recheck}
use Rattle.spv_rechecking.proofs.CopyLemmas.{found_of_copy}
use Rattle.spv_rechecking.proofs.rechecking.decided.Goals as goal

pub returns-in_ok-verdict-in-Some : goal.returns-in_ok-verdict-in-Some
returns-in_ok-verdict-in-Some c =
    let r : Recheck = record { names = c.args.names.now; titles = c.args.titles.now; rules = rules_in c.args.rules.now; most = c.args.most } in
    let header : Header = record { routine = c.args.routine.now; kind = c.args.whole.now.origin.kind; line = c.args.whole.now.origin.line } in
    let own : Header = record { routine = c.args.routine.now; kind = c.args.copied.condition.origin.kind; line = c.args.copied.condition.origin.line } in
    found_of_copy c.args.from.now c.args.whole.now c.args.copied.terms.most c.args.copied c.requires.copied c.recheck_in.new.terms c.in_ok-verdict-in-Some.ensures.grows r header own
    (λ i. record { routine = c.args.routine.now; kind = (c.requires.copied.condition.origin i).kind; line = (c.requires.copied.condition.origin i).line })
    c.in-Some.entry.now (option_copied c.args.entry) (ap option_copied (sym c.in-Some.is)) c.in_ok-verdict-in-Some.verdict c.in_ok-verdict-in-Some.ensures.found
