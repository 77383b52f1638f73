-- What stops a check: a number of a sum, or of a form, that is too wide, or a term too many.
use Rattle.std.specs.Prelude.{ℕ, zero, suc, Bool, true, ◌&&◌, List, [], ◌∷◌, ◌++◌, length, Option, Some, None, Result, Ok, Err, ℤ, pos, nat_eq, slice_get, if◌then◌else◌}
use Rattle.std.specs.List.{list_any}
use Rattle.std.specs.Option.{option_map}
use Rattle.std.specs.Ordering.{int_eq}
use Rattle.spv_whole.specs.Fraction.{Fraction, whole, sum, product}
use Rattle.spv_frac.specs.declared.frac.Op.{Op}
use Rattle.spv_frac.specs.declared.frac.Op.TheVariants.{Add, Mul}
use Rattle.spv_frac.specs.Range.{op_fits}
use Rattle.spv_frac.specs.rational.Rational.{number}
use Rattle.spv_logic.specs.Terms.{Term, Terms, term, no_terms, terms, term_eq}
use Rattle.spv_atoms.specs.Forms.{Sum, Form, with_part, form_fits, is_narrow}
use Rattle.spv_proof_rules.specs.Sums.{Comparison, Equals, IsBelow, IsAtMost, comparison, negated, Reading, difference, is_at_most_zero, reading, may_multiply}
use Rattle.spv_proof_rules.specs.Evaluation.{bare}

pub data Stop : Type 0 where
  -- this operation on these operands does not fit
  WideSum : Op → Fraction → Fraction → Stop
  -- the form of this relation does not fit
  WideForm : Term → Stop
  -- a term is new, and there may be no more
  TooMany : Stop

-- where a check stands that a stop ends: the terms that there are, and the stop
pub record Halt : Type 0 where
  pub known : List Term
  pub stop : Stop

-- ---- terms that are kept

-- the terms with one more, of at most so many: as they are where it is among them; none where it is one too many
abbrev pub kept : ℕ → List Term → Term → Option (List Term)
kept most known t = if list_any (term_eq t) known then Some known else if nat_eq (length known) most then None else Some (known ++ t ∷ [])

abbrev pub on_room : List Term → Option (List Term) → (List Term → Result (List Term) (List Term)) → Result (List Term) (List Term)
on_room known None go = Err known
on_room known (Some more) go = go more

-- the terms with these, one after the other; an error has those before the first for which there is no room
abbrev pub all_kept : ℕ → List Term → List Term → Result (List Term) (List Term)
all_kept most known [] = Ok known
all_kept most known (t ∷ ts) = on_room known (kept most known t) (λ more. all_kept most more ts)

-- the terms that there are then
abbrev pub terms_of : Result (List Term) (List Term) → List Term
terms_of (Ok known) = known
terms_of (Err known) = known

-- a term behind its subterms, arguments first and in their order
abbrev mutual
  pub layers : Term → List Term
  layers (term h ts) = layers_each ts ++ term h ts ∷ []

  pub layers_each : Terms → List Term
  layers_each no_terms = []
  layers_each (terms t ts) = layers t ++ layers_each ts

abbrev pub layers_if : Option Term → List Term
layers_if None = []
layers_if (Some t) = layers t

-- ---- forms

-- whether the form of left - right + more fits, and those of both sides
abbrev pub is_measured : Term → Term → ℤ → Bool
is_measured left right more = is_narrow left && (is_narrow right && form_fits (difference left right more))

abbrev pub narrow_true : Comparison → Bool
narrow_true (Equals a b) = is_measured a b (pos 0)
narrow_true (IsBelow a b) = is_measured a b (pos 1)
narrow_true (IsAtMost a b) = is_measured a b (pos 0)

abbrev pub narrow_false : Comparison → Bool
narrow_false (Equals a b) = true
narrow_false (IsBelow a b) = is_measured b a (pos 0)
narrow_false (IsAtMost a b) = is_measured b a (pos 1)

abbrev pub narrow_by : (Comparison → Bool) → Option Comparison → Bool
narrow_by narrow None = true
narrow_by narrow (Some c) = narrow c

abbrev pub narrow_reading : Option Term → Term → Bool
narrow_reading None t = narrow_by narrow_true (comparison t)
narrow_reading (Some u) t = narrow_by narrow_false (comparison u)

-- whether the form as which a fact is read fits
abbrev pub is_narrow_fact : Term → Bool
is_narrow_fact t = narrow_reading (negated t) t

-- ---- what is cited

-- what a cited number stands for: its reading, whether its form fits, and how the check ends where it does not
pub record Source : Type 0 where
  pub reading : Reading
  pub fits : Bool
  pub halt : Halt

abbrev pub fact_source : (Term → Bool) → List Term → Option Term → Option Source
fact_source is_number known None = None
fact_source is_number known (Some t) =
    option_map (λ r. record { reading = r; fits = is_narrow_fact t; halt = record { known = known; stop = WideForm (bare t) } }) (reading is_number t)

-- the cited fact of a number from 1; number 0 stands for the source `denied`
abbrev pub source : (Term → Bool) → List Term → List Term → Source → ℕ → Option Source
source is_number known facts denied zero = Some denied
source is_number known facts denied (suc k) = fact_source is_number known (slice_get facts k)

-- a relation is kept, where there is room, before its form is told
abbrev pub halt_after : List Term → Option (List Term) → Term → Halt
halt_after known None relation = record { known = known; stop = TooMany }
halt_after known (Some more) relation = record { known = more; stop = WideForm relation }

-- what number 0 stands for in a sum that shows a at most b: that a is above b; `relation` is what the step adds
abbrev pub denied : ℕ → List Term → Term → Term → Term → Source
denied most known relation a b = record {
  reading = is_at_most_zero (difference b a (pos 1));
  fits = is_measured b a (pos 1);
  halt = halt_after known (kept most known relation) relation;
}

-- ---- sums in fractions

-- a sum so far: what its terms are multiplied by, and a constant
abbrev pub Partial : Type 0
Partial = Sum Fraction

abbrev pub empty : Partial
empty = record { parts = []; constant = whole (pos 0) }

-- what comes of adding to a sum: a value, or what stops it; or nothing more is added, since the step does not follow
pub data Tally (T : Type 0) : Type 0 where
  Stands : T → Tally T
  Ended : Tally T
  Halted : Halt → Tally T

abbrev pub then_tally : {S T : Type 0} → Tally S → (S → Tally T) → Tally T
then_tally (Stands s) go = go s
then_tally Ended go = Ended
then_tally (Halted h) go = Halted h

-- an operation and its value
abbrev pub operate : List Term → Op → Fraction → Fraction → Fraction → Tally Fraction
operate known op a b value = if op_fits op a b then Stands value else Halted (record { known = known; stop = WideSum op a b })

-- n times m is added to what stands
abbrev pub add_number : List Term → Fraction → Fraction → ℤ → Tally Fraction
add_number known m stood n =
    then_tally (operate known Mul (whole n) m (product (whole n) m)) (λ p. operate known Add stood p (sum stood p))

-- what a term is multiplied by
abbrev pub factor_of : {N : Type 0} → N → List (Term × N) → Term → N
factor_of none [] t = none
factor_of none (p ∷ parts) t = if term_eq p.0 t then p.1 else factor_of none parts t

-- the parts of a form in the order of these terms, without those that are multiplied by 0
abbrev pub in_order : List (Term × ℤ) → List Term → List (Term × ℤ)
in_order parts [] = []
in_order parts (t ∷ ts) = (let n = factor_of (pos 0) parts t in if int_eq n (pos 0) then [] else (t, n) ∷ []) ++ in_order parts ts

abbrev pub with_factor : Partial → Term → Fraction → Partial
with_factor s t f = record { parts = with_part (λ old new. new) t f s.parts; constant = s.constant }

abbrev pub with_constant : Partial → Fraction → Partial
with_constant s f = record { parts = s.parts; constant = f }

-- one part after the other
abbrev pub add_parts : List Term → Fraction → List (Term × ℤ) → Partial → Tally Partial
add_parts known m [] s = Stands s
add_parts known m (p ∷ parts) s =
    then_tally (add_number known m (factor_of (whole (pos 0)) s.parts p.0) p.1) (λ f. add_parts known m parts (with_factor s p.0 f))

-- the parts of a form in the order of the terms that there are, and then the constant
abbrev pub add_multiple : List Term → Fraction → Form → Partial → Tally Partial
add_multiple known m f s =
    then_tally (add_parts known m (in_order f.parts known) s) (λ r. then_tally (add_number known m r.constant f.constant) (λ c. Stands (with_constant r c)))

abbrev pub add_source : List Term → Fraction → Option Source → Partial → Tally Partial
add_source known m None s = Ended
add_source known m (Some r) s =
    if may_multiply (number m) r.reading then (if r.fits then add_multiple known m r.reading.form s else Halted r.halt) else Ended

-- the sum of the cited multiples, fact by fact
abbrev pub add_all : List Term → (ℕ → Option Source) → List (Fraction × ℕ) → Partial → Tally Partial
add_all known cited [] s = Stands s
add_all known cited (m ∷ multiples) s = then_tally (add_source known m.0 (cited m.1) s) (λ r. add_all known cited multiples r)

abbrev pub halt_of : {T : Type 0} → Tally T → Option Halt
halt_of (Halted h) = Some h
halt_of _ = None

-- what stops the sum that is to show a at most b, if anything does
abbrev pub halt_in : (Term → Bool) → ℕ → List Term → List Term → Term → Term → Term → List (Fraction × ℕ) → Option Halt
halt_in is_number most known facts relation a b multiples = halt_of (add_all known (source is_number known facts (denied most known relation a b)) multiples empty)
