-- What facts of schemas say of terms of an arena.
use Rattle.std.specs.Prelude.{◌≡◌, ◌<◌, Option, Some, None, IsTrue, length, pos}
use Rattle.spv_logic.specs.declared.conditions.TermId.{TermId}
use Rattle.spv_logic.specs.declared.operators.Head.{Head}
use Rattle.spv_logic.specs.declared.operators.Head.TheVariants.{Num, Add, Mul, Div, Mod, Le, Or, PointerTo, Atom, Nil}
use Rattle.spv_logic.specs.Terms.{Term, term, no_terms}
use Rattle.spv_logic.specs.Formulas.{negation, equation}
use Rattle.spv_logic.specs.Sorts.{head_in_range, numeral_fits}
use Rattle.spv_schemas.specs.Facts.{one, two, implication, numeral, between, pointer_to_nil, cons_car_cdr}
use Rattle.spv_term.specs.Arena.{Arena, tree}
use Rattle.spv_proof.specs.declared.schema_facts.facts.Change.{Change}
use Rattle.spv_proof.specs.declared.schema_facts.facts.SchemaFact.{SchemaFact}
use Rattle.spv_proof.specs.declared.schema_facts.facts.SchemaFact.TheVariants.{SamePlace, OtherPlace, MembersStay, MembersExtended, NilIsNoMember, PartIs, SamePart, NoAtom, PairOfParts, Dividend, RemainderAbove, RemainderBelow, QuotientIs, RemainderIs}

abbrev pub said : (TermId → Term) → SchemaFact → Term
said at (SamePlace read c) = implication (equation (at c.place) (at c.other)) (equation (two read (at c.whole) (at c.other)) (at c.value))
said at (OtherPlace read c) =
    implication (negation (equation (at c.place) (at c.other))) (equation (two read (at c.whole) (at c.other)) (two read (at c.base) (at c.other)))
said at (MembersStay c) = equation (two PointerTo (at c.other) (at c.whole)) (two PointerTo (at c.other) (at c.base))
said at (MembersExtended class c) =
    implication (negation (equation (at c.place) (term (Nil class) no_terms)))
    (equation (two PointerTo (at c.other) (at c.whole)) (two Or (equation (at c.place) (at c.other)) (two PointerTo (at c.other) (at c.base))))
said at (NilIsNoMember class c) = pointer_to_nil (term (Nil class) no_terms) (at c)
said at (PartIs part whole value) = equation (one part (at whole)) (at value)
said at (SamePart part whole base) = equation (one part (at whole)) (one part (at base))
said at (NoAtom pair) = negation (one Atom (at pair))
said at (PairOfParts x) = cons_car_cdr (at x)
said at (Dividend d) = equation (at d.dividend) (two Add (two Mul (at d.divisor) (two Div (at d.dividend) (at d.divisor))) (two Mod (at d.dividend) (at d.divisor)))
said at (RemainderAbove d) = implication (two Le (numeral (pos 0)) (at d.dividend)) (between (numeral (pos 0)) (two Mod (at d.dividend) (at d.divisor)) (numeral d.greatest))
said at (RemainderBelow d) = implication (two Le (at d.dividend) (numeral (pos 0))) (between (numeral d.least) (two Mod (at d.dividend) (at d.divisor)) (numeral (pos 0)))
said at (QuotientIs d) = equation (two Div (at d.dividend) (at d.divisor)) (numeral d.quotient)
said at (RemainderIs d) = equation (two Mod (at d.dividend) (at d.divisor)) (numeral d.remainder)

-- ---- what may be made

abbrev pub In : Arena → TermId → Type 0
In a t = t.0 < length a.nodes

-- a head whose types are there and whose numeral fits
abbrev pub Fits : Arena → Head → Type 0
Fits a h = IsTrue (head_in_range a.shapes h) × IsTrue (numeral_fits h)

pub record ChangeIn (a : Arena) (c : Change) : Type 0 where
  pub whole : In a c.whole
  pub base : In a c.base
  pub place : In a c.place
  pub value : In a c.value
  pub other : In a c.other

-- the terms that a fact is about are in the arena, and the heads that it has fit
abbrev pub FactIn : Arena → SchemaFact → Type 0
FactIn a (SamePlace read c) = Fits a read × ChangeIn a c
FactIn a (OtherPlace read c) = Fits a read × ChangeIn a c
FactIn a (MembersStay c) = ChangeIn a c
FactIn a (MembersExtended class c) = Fits a (Nil class) × ChangeIn a c
FactIn a (NilIsNoMember class c) = Fits a (Nil class) × In a c
FactIn a (PartIs part whole value) = Fits a part × In a whole × In a value
FactIn a (SamePart part whole base) = Fits a part × In a whole × In a base
FactIn a (NoAtom pair) = In a pair
FactIn a (PairOfParts x) = In a x
FactIn a (Dividend d) = In a d.dividend × In a d.divisor
FactIn a (RemainderAbove d) = Fits a (Num d.greatest) × In a d.dividend × In a d.divisor
FactIn a (RemainderBelow d) = Fits a (Num d.least) × In a d.dividend × In a d.divisor
FactIn a (QuotientIs d) = Fits a (Num d.quotient) × In a d.dividend × In a d.divisor
FactIn a (RemainderIs d) = Fits a (Num d.remainder) × In a d.dividend × In a d.divisor

-- ---- a fact, or none

pub record Says (a : Arena) (o : Option Term) (f : SchemaFact) : Type 0 where
  pub is : o ≡ Some (said (tree a) f)
  pub within : FactIn a f

-- a fact says what there is to be said, where there is something
abbrev pub IsSaid : Arena → Option Term → Option SchemaFact → Type 0
IsSaid a o None = o ≡ None
IsSaid a o (Some f) = Says a o f
