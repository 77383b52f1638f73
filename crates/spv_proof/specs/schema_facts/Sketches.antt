-- The pieces of facts.
use Rattle.std.specs.Prelude.{List, [], ◌∷◌, ◌++◌, ℤ, pos}
use Rattle.spv_logic.specs.declared.conditions.TermId.{TermId}
use Rattle.spv_logic.specs.declared.types.TypeId.{TypeId}
use Rattle.spv_logic.specs.declared.operators.Head.{Head}
use Rattle.spv_logic.specs.declared.operators.Head.TheVariants.{Num, Add, Mul, Div, Mod, Eq, Le, Not, And, Or, Implies, PointerTo, Car, Cdr, Cons, Atom, Nil}
use Rattle.spv_rules.specs.declared.making.pieces.Piece.{Piece}
use Rattle.spv_rules.specs.declared.making.pieces.Piece.TheVariants.{Known, Over}
use Rattle.spv_proof.specs.declared.schema_facts.facts.Change.{Change}
use Rattle.spv_proof.specs.declared.schema_facts.facts.Division.{Division}
use Rattle.spv_proof.specs.declared.schema_facts.facts.NumeralDivision.{NumeralDivision}
use Rattle.spv_proof.specs.declared.schema_facts.facts.SchemaFact.{SchemaFact}
use Rattle.spv_proof.specs.declared.schema_facts.facts.SchemaFact.TheVariants.{SamePlace, OtherPlace, MembersStay, MembersExtended, NilIsNoMember, PartIs, SamePart, NoAtom, PairOfParts, Dividend, RemainderAbove, RemainderBelow, QuotientIs, RemainderIs}

abbrev there : TermId → List Piece
there t = Known t ∷ []

abbrev leaf : Head → List Piece
leaf h = Over h 0 ∷ []

abbrev one : Head → List Piece → List Piece
one h xs = xs ++ Over h 1 ∷ []

abbrev two : Head → List Piece → List Piece → List Piece
two h xs ys = xs ++ ys ++ Over h 2 ∷ []

abbrev numeral : ℤ → List Piece
numeral z = leaf (Num z)

abbrev between : List Piece → List Piece → List Piece → List Piece
between low t high = two And (two Le low t) (two Le t high)

abbrev pub same_place : Head → Change → List Piece
same_place read c = two Implies (two Eq (there c.place) (there c.other)) (two Eq (two read (there c.whole) (there c.other)) (there c.value))

abbrev pub other_place : Head → Change → List Piece
other_place read c =
    two Implies (one Not (two Eq (there c.place) (there c.other)))
    (two Eq (two read (there c.whole) (there c.other)) (two read (there c.base) (there c.other)))

abbrev pub members_stay : Change → List Piece
members_stay c = two Eq (two PointerTo (there c.other) (there c.whole)) (two PointerTo (there c.other) (there c.base))

abbrev pub members_extended : TypeId → Change → List Piece
members_extended class c =
    two Implies (one Not (two Eq (there c.place) (leaf (Nil class))))
    (two Eq (two PointerTo (there c.other) (there c.whole)) (two Or (two Eq (there c.place) (there c.other)) (two PointerTo (there c.other) (there c.base))))

abbrev pub nil_is_no_member : TypeId → TermId → List Piece
nil_is_no_member class c = one Not (two PointerTo (leaf (Nil class)) (there c))

abbrev pub part_is : Head → TermId → TermId → List Piece
part_is part whole value = two Eq (one part (there whole)) (there value)

abbrev pub same_part : Head → TermId → TermId → List Piece
same_part part whole base = two Eq (one part (there whole)) (one part (there base))

abbrev pub no_atom : TermId → List Piece
no_atom pair = one Not (one Atom (there pair))

abbrev pub pair_of_parts : TermId → List Piece
pair_of_parts x = two Implies (one Not (one Atom (there x))) (two Eq (two Cons (one Car (there x)) (one Cdr (there x))) (there x))

abbrev pub dividend : Division → List Piece
dividend d =
    two Eq (there d.dividend)
    (two Add (two Mul (there d.divisor) (two Div (there d.dividend) (there d.divisor))) (two Mod (there d.dividend) (there d.divisor)))

abbrev pub remainder_above : Division → List Piece
remainder_above d =
    two Implies (two Le (numeral (pos 0)) (there d.dividend)) (between (numeral (pos 0)) (two Mod (there d.dividend) (there d.divisor)) (numeral d.greatest))

abbrev pub remainder_below : Division → List Piece
remainder_below d =
    two Implies (two Le (there d.dividend) (numeral (pos 0))) (between (numeral d.least) (two Mod (there d.dividend) (there d.divisor)) (numeral (pos 0)))

abbrev pub quotient_is : NumeralDivision → List Piece
quotient_is d = two Eq (two Div (there d.dividend) (there d.divisor)) (numeral d.quotient)

abbrev pub remainder_is : NumeralDivision → List Piece
remainder_is d = two Eq (two Mod (there d.dividend) (there d.divisor)) (numeral d.remainder)

-- those of each fact
abbrev pub sketch : SchemaFact → List Piece
sketch (SamePlace read c) = same_place read c
sketch (OtherPlace read c) = other_place read c
sketch (MembersStay c) = members_stay c
sketch (MembersExtended class c) = members_extended class c
sketch (NilIsNoMember class c) = nil_is_no_member class c
sketch (PartIs part whole value) = part_is part whole value
sketch (SamePart part whole base) = same_part part whole base
sketch (NoAtom pair) = no_atom pair
sketch (PairOfParts x) = pair_of_parts x
sketch (Dividend d) = dividend d
sketch (RemainderAbove d) = remainder_above d
sketch (RemainderBelow d) = remainder_below d
sketch (QuotientIs d) = quotient_is d
sketch (RemainderIs d) = remainder_is d
