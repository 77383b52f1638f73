use Rattle.std.proofs.Common.{◌≡◌, length}
use Rattle.spv_congruence.specs.Keep.{Fits, GoesOn, IsNow}
use Rattle.spv_congruence.proofs.kept.Kept.enter_users.Given as goal

abbrev pub invariant-loop-t : goal.invariant-loop-t
invariant-loop-t l = record {
  fits : Fits l.self;
  level : IsNow l.self (length l.self.added) l.equals.items l.users.items;
  goes : GoesOn l.fn.self l.self;
  classes : l.self.classes ≡ l.fn.self.classes;
}

abbrev pub decreases-loop-t : goal.decreases-loop-t
decreases-loop-t l = length l.users.items
