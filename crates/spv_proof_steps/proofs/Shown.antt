-- Facts of the value in an option.
use Rattle.std.proofs.Common.{◌≡◌, Some, None, subst}
use Rattle.std.specs.Option.{ForSome}

pub some_in : {T : Type 0} (P : T → Type 0) (x : T) → P x → ForSome (Some x) P
some_in P x h y e = let same : x ≡ y = cc in subst P same h

pub none_in : {T : Type 0} (P : T → Type 0) → ForSome None P
none_in P y e = absurd (cc)
