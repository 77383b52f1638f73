use Rattle.std.proofs.Common.{false, arith}
use Rattle.spv_search_terms.specs.subterms.Flags.{beside}
use Rattle.spv_search_terms.proofs.subterms.FlagLemmas.{one_then, one_else}
use Rattle.spv_search_terms.proofs.subterms.flags.one.Goals as goal

pub returns-then-flag : goal.returns-then-flag
returns-then-flag c =
    one_then (beside false c.args.order.now c.args.flags.now) c.args.args.now (record { 0 = 0 }) (record { 0 = 0 }) (omega (arith, c.in-len2.len_at_least, c.in-len2.len_below)) c.flag.result c.flag.result c.flag.ensures
    c.if-flag.true

pub returns-else-flag : goal.returns-else-flag
returns-else-flag c =
    one_else (beside false c.args.order.now c.args.flags.now) c.args.args.now (record { 0 = 0 }) (record { 0 = 0 }) (omega (arith, c.in-len2.len_at_least, c.in-len2.len_below)) c.flag.result c.flag-else-flag.result
    c.flag.ensures c.if-flag.false c.flag-else-flag.ensures
