-- What comes out at the exit of a `?`.
use Rattle.std.proofs.Common.{◌≡◌, Result, Ok, Err, OnOk, sym, ◌∙◌}
use Rattle.std.specs.Prelude.{IsErrAnd}
use Rattle.spv_term.specs.declared.nodes.TermFault.{TermFault}

-- the fault of the call
pub same_fault : {T : Type 0} (e : TermFault) (r : Result T TermFault) → IsErrAnd r (λ f. f ≡ e) → (s : TermFault) → r ≡ Err s → e ≡ s
same_fault {T} e (Ok x) h s is = absurd h
same_fault {T} e (Err f) h s is = let same : f ≡ s = cc in sym h ∙ same

pub on_ok : {T E : Type 0} (r : Result T E) (P Q : Type 0) → OnOk r P → (P → Q) → OnOk r Q
on_ok (Ok x) P Q p go = go p
on_ok (Err e) P Q p go = tt
