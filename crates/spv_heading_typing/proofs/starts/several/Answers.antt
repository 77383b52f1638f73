use Rattle.std.proofs.Common.{[]}
use Rattle.spv_heading_typing.specs.Starts.{starts_of, start_in}
use Rattle.spv_environments.specs.Scopes.{own_of}
use Rattle.spv_typing.specs.Known.{named}
use Rattle.spv_heading_typing.proofs.Bridges.{begun}
use Rattle.spv_heading_typing.proofs.starts.several.Goals as goal

pub loop-start-init : goal.loop-start-init
loop-start-init c = (
  rw (c.as_slice-start-items.ensures)
      (begun (start_in c.args.known.now c.args.routine c.args.parameters.now c.args.shared.now) _ (record { initial = []; own = [] }) (starts_of c.in_ok-starts.starts)
      c.args.tree.now.first c.args.tree.now.more (λ i. record { initial = c.new.ensures i; own = named own_of (c.new-2.ensures i) }) c.in_ok-starts.ensures.ok),
  c.in_ok-starts.ensures.apart,
)
