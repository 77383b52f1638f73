-- Several clauses of one call.
use Rattle.std.proofs.Common.{Result, Ok, Err, OnOk}

pub on_three : {T E : Type 0} {P Q R S : Type 0} (r : Result T E) → OnOk r P → OnOk r Q → OnOk r R → (P → Q → R → S) → OnOk r S
on_three (Ok t) p q s go = go p q s
on_three (Err e) p q s go = tt
