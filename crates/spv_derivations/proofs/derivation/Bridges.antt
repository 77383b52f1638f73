-- Clauses of callees in one's own words.
use Rattle.std.proofs.Common.{Result, Ok, Err, IfOk, OnOk, OnErr}

pub if_both : {T E : Type 0} {P R : T → Type 0} {Q : Type 0} (r : Result T E) → IfOk r P → OnOk r Q → ((t : T) → P t → Q → R t) → IfOk r R
if_both (Ok t) p q go = go t p q
if_both (Err e) p q go = tt

pub if_ok : {T E : Type 0} {P R : T → Type 0} (r : Result T E) → IfOk r P → ((t : T) → P t → R t) → IfOk r R
if_ok (Ok t) p go = go t p
if_ok (Err e) p go = tt

pub on_ok : {T E : Type 0} {P Q : Type 0} (r : Result T E) → OnOk r P → (P → Q) → OnOk r Q
on_ok (Ok t) p go = go p
on_ok (Err e) p go = tt

-- what holds in both cases
pub in_both : {T E : Type 0} {P Q R : Type 0} (r : Result T E) → OnOk r P → OnErr r Q → (P → R) → (Q → R) → R
in_both (Ok t) p q go back = go p
in_both (Err e) p q go back = back q
