use Rattle.std.proofs.Common.{◌≡◌, ℕ, ◌+◌, ◌-◌, map, length}
use Rattle.spv_congruence.specs.Keep.{uses_at}
use Rattle.spv_congruence.proofs.adding.grow_uses.Given as goal

abbrev pub invariant-loop-alloc : goal.invariant-loop-alloc
invariant-loop-alloc l = record {
  same : (x : ℕ) → uses_at (map (λ v. v.items) l.uses.items) x ≡ uses_at (map (λ v. v.items) l.fn.uses.items) x;
}

abbrev pub decreases-loop-alloc : goal.decreases-loop-alloc
decreases-loop-alloc l = l.place + 1 - length l.uses.items
