use Rattle.std.proofs.Common.{false, arith}
use Rattle.spv_search_terms.specs.subterms.Flags.{beside}
use Rattle.spv_search_terms.proofs.subterms.FlagLemmas.{both_then, both_else}
use Rattle.spv_search_terms.proofs.subterms.flags.both.Goals as goal

pub returns-then-flag : goal.returns-then-flag
returns-then-flag c =
    both_then (beside false c.args.order.now c.args.flags.now) c.args.args.now (record { 0 = 0 }) (record { 0 = 0 }) (omega (arith, c.in-len2.len_at_least, c.in-len2.len_below)) c.flag.result c.flag-then-flag.result
    c.flag.ensures c.if-flag.true c.flag-then-flag.ensures

pub returns-else-flag : goal.returns-else-flag
returns-else-flag c =
    both_else (beside false c.args.order.now c.args.flags.now) c.args.args.now (record { 0 = 0 }) (record { 0 = 0 }) (omega (arith, c.in-len2.len_at_least, c.in-len2.len_below)) c.flag.result c.flag.result c.flag.ensures
    c.if-flag.false
