-- What comes out at the `?` behind a part that is not read.
use Rattle.std.proofs.Common.{◌≡◌, subst, sym, ap, ◌∙◌}
use Rattle.std.specs.Prelude.{Result, Ok, Err, Some, IsErrAnd}
use Rattle.spv_grammar.specs.reading.Readers.{Stop, Outcome, Halted}
use Rattle.spv_formula_parser.specs.declared.primitives.fault.Fault.{Fault}
use Rattle.spv_formula_parser.specs.primitives.Faults.{IsStop}

-- the stop of the part
pub same_fault : {T : Type 0} (s : Stop) (e : Fault) (r : Result T Fault) → IsErrAnd r (λ f. f ≡ e) → IsErrAnd r (IsStop s) → IsStop s e
same_fault {T} s e (Ok x) h stop = absurd h
same_fault {T} s e (Err f) h stop = subst (IsStop s) h stop

some_is : (s t : Stop) → Some s ≡ Some t → s ≡ t
some_is s t e = cc

-- a fault is one stop
pub halted : {A : Type 0} (s : Stop) {t : Stop} (f : Fault) → IsStop t f → IsStop s f → ◌≡◌ {A = Outcome A} (Halted t) (Halted s)
halted s {t} f a b = ap Halted (some_is t s (sym a ∙ b))
