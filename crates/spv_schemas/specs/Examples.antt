-- Worked facts of schemas: one of each kind, what has none, and what is listed.
-- Behind some of them stands which wrong definition they refuse.
use Rattle.std.specs.Prelude.{◌≡◌, ℕ, List, [], ◌∷◌, Option, Some, None, ℤ, pos, negsuc}
use Rattle.spv_logic.specs.declared.names.names.Symbol.{Symbol}
use Rattle.spv_logic.specs.declared.types.TypeId.{TypeId}
use Rattle.spv_logic.specs.declared.types.Sort.{Sort}
use Rattle.spv_logic.specs.declared.types.Sort.TheVariants as sort
use Rattle.spv_logic.specs.declared.types.Field.{Field as RecordField}
use Rattle.spv_logic.specs.declared.types.Shape.{Shape}
use Rattle.spv_logic.specs.declared.types.Shape.TheVariants as shape
use Rattle.spv_logic.specs.declared.operators.Head.TheVariants.{Var, ClassVar, Num, Add, Mul, Div, Mod, Eq, Le, Not, And, Or, Implies, Select, Store, Field, Put, Cell, SetCell, Extend, PointerTo, Car, Cdr, Cons, Atom, Nil}
use Rattle.spv_logic.specs.Terms.{Term, term, no_terms}
use Rattle.spv_schemas.specs.declared.kinds.SchemaKind.{SchemaKind}
use Rattle.spv_schemas.specs.declared.kinds.SchemaKind.TheVariants.{SelectStoreSame, SelectStoreOther, FieldPutSame, FieldPutOther, CellSetCellSame, CellSetCellOther, PointerToSetCell, CellExtendSame, CellExtendOther, PointerToExtend, PointerToNil, CarCons, CdrCons, AtomCons, ConsCarCdr, DivMod, ModOfNonNegative, ModOfNonPositive, DivOfNumerals, ModOfNumerals}
use Rattle.spv_schemas.specs.Facts.{one, two, three, schema_fact}
use Rattle.spv_schemas.specs.Instances.{SchemaInstance, schemas}

-- ---- types and names

abbrev name : ℕ → Symbol
name n = record { 0 = n }

abbrev type : ℕ → TypeId
type n = record { 0 = n }

abbrev field : ℕ → Sort → RecordField
field n s = record { name = name n; sort = s }

-- the fields of one record, and that of another one
abbrev f : Symbol
f = name 20

abbrev g : Symbol
g = name 21

abbrev h : Symbol
h = name 22

abbrev val : Symbol
val = name 23

-- arrays of numbers; records of a number, a truth value and a number; arrays of truth values; records of a number; numbers
abbrev types : List Shape
types =
    shape.Array sort.Int
    ∷ shape.Record (field 20 sort.Int ∷ field 21 sort.Bool ∷ field 22 sort.Int ∷ [])
    ∷ shape.Array sort.Bool
    ∷ shape.Record (field 23 sort.Int ∷ [])
    ∷ shape.Int ∷ []

abbrev variable : ℕ → Sort → Term
variable n s = term (Var (name n) s 0) no_terms

abbrev num : ℤ → Term
num z = term (Num z) no_terms

-- numbers, and a truth value
abbrev i : Term
i = variable 0 sort.Int

abbrev j : Term
j = variable 1 sort.Int

abbrev k : Term
k = variable 15 sort.Int

abbrev v : Term
v = variable 2 sort.Int

abbrev b : Term
b = variable 3 sort.Bool

-- an array of numbers, one of truth values, and a record
abbrev a : Term
a = variable 4 (sort.Whole (type 0))

abbrev bits : Term
bits = variable 5 (sort.Whole (type 2))

abbrev r : Term
r = variable 6 (sort.Whole (type 1))

-- a class, four of its pointers and a content; another class and its pointer
abbrev c : Term
c = term (ClassVar (type 3) 0) no_terms

abbrev p : Term
p = variable 7 (sort.Ptr (type 3))

abbrev q : Term
q = variable 8 (sort.Ptr (type 3))

abbrev n : Term
n = variable 13 (sort.Ptr (type 3))

abbrev m : Term
m = variable 14 (sort.Ptr (type 3))

abbrev e : Term
e = variable 9 (sort.Whole (type 3))

abbrev d : Term
d = term (ClassVar (type 4) 0) no_terms

abbrev o : Term
o = variable 10 (sort.Ptr (type 4))

-- lists
abbrev x : Term
x = variable 11 sort.List

abbrev y : Term
y = variable 12 sort.List

-- ---- facts

-- what a kind says of terms; each of these laws refuses any other formula
abbrev Says : SchemaKind → List Term → Term → Type 0
Says kind ts fact = schema_fact types [] kind ts None ≡ Some fact

-- that it says nothing of them
abbrev SaysNothing : SchemaKind → List Term → Option Symbol → Type 0
SaysNothing kind ts field = schema_fact types [] kind ts field ≡ None

abbrev stored : Term
stored = three Store a i v

-- refuses: with NOT
abbrev pub SelectStoreSameSays : Type 0
SelectStoreSameSays = Says SelectStoreSame (stored ∷ j ∷ []) (two Implies (two Eq i j) (two Eq (two Select stored j) v))

-- refuses: without NOT
abbrev pub SelectStoreOtherSays : Type 0
SelectStoreOtherSays = Says SelectStoreOther (stored ∷ j ∷ []) (two Implies (one Not (two Eq i j)) (two Eq (two Select stored j) (two Select a j)))

abbrev put_number : Term
put_number = two (Put f) r v

abbrev pub FieldPutSameSays : Type 0
FieldPutSameSays = Says FieldPutSame (put_number ∷ []) (two Eq (one (Field f) put_number) v)

abbrev pub FieldPutOtherSays : Type 0
FieldPutOtherSays = schema_fact types [] FieldPutOther (put_number ∷ []) (Some g) ≡ Some (two Eq (one (Field g) put_number) (one (Field g) r))

abbrev changed : Term
changed = three SetCell c p e

-- refuses: without a condition on q
abbrev pub CellSetCellSameSays : Type 0
CellSetCellSameSays = Says CellSetCellSame (changed ∷ q ∷ []) (two Implies (two Eq p q) (two Eq (two Cell changed q) e))

-- refuses: without NOT
abbrev pub CellSetCellOtherSays : Type 0
CellSetCellOtherSays = Says CellSetCellOther (changed ∷ q ∷ []) (two Implies (one Not (two Eq p q)) (two Eq (two Cell changed q) (two Cell c q)))

-- refuses: p is a member, too
abbrev pub PointerToSetCellSays : Type 0
PointerToSetCellSays = Says PointerToSetCell (changed ∷ q ∷ []) (two Eq (two PointerTo q changed) (two PointerTo q c))

abbrev extended : Term
extended = three Extend c p e

abbrev pub CellExtendSameSays : Type 0
CellExtendSameSays = Says CellExtendSame (extended ∷ q ∷ []) (two Implies (two Eq p q) (two Eq (two Cell extended q) e))

abbrev pub CellExtendOtherSays : Type 0
CellExtendOtherSays = Says CellExtendOther (extended ∷ q ∷ []) (two Implies (one Not (two Eq p q)) (two Eq (two Cell extended q) (two Cell c q)))

abbrev nil : Term
nil = term (Nil (type 3)) no_terms

-- refuses: without a condition on p
abbrev pub PointerToExtendSays : Type 0
PointerToExtendSays =
    Says PointerToExtend (extended ∷ q ∷ []) (two Implies (one Not (two Eq p nil)) (two Eq (two PointerTo q extended) (two Or (two Eq p q) (two PointerTo q c))))

-- refuses: without NOT
abbrev pub PointerToNilSays : Type 0
PointerToNilSays = Says PointerToNil (c ∷ []) (one Not (two PointerTo nil c))

-- refuses: the other part
abbrev pub CarConsSays : Type 0
CarConsSays = Says CarCons (two Cons x y ∷ []) (two Eq (one Car (two Cons x y)) x)

abbrev pub CdrConsSays : Type 0
CdrConsSays = Says CdrCons (two Cons x y ∷ []) (two Eq (one Cdr (two Cons x y)) y)

-- refuses: without NOT
abbrev pub AtomConsSays : Type 0
AtomConsSays = Says AtomCons (two Cons x y ∷ []) (one Not (one Atom (two Cons x y)))

-- refuses: of an atom, too
abbrev pub ConsCarCdrSays : Type 0
ConsCarCdrSays = Says ConsCarCdr (x ∷ []) (two Implies (one Not (one Atom x)) (two Eq (two Cons (one Car x) (one Cdr x)) x))

-- the numerals -3, -2, 0 and 2
abbrev minus_three : Term
minus_three = num (negsuc 2)

abbrev minus_two : Term
minus_two = num (negsuc 1)

abbrev zero : Term
zero = num (pos 0)

abbrev plus_two : Term
plus_two = num (pos 2)

abbrev pub DivModSays : Type 0
DivModSays = Says DivMod (i ∷ minus_three ∷ []) (two Eq i (two Add (two Mul minus_three (two Div i minus_three)) (two Mod i minus_three)))

-- refuses: the divisor's sign left on; a remainder as large as the divisor
abbrev pub ModOfNonNegativeSays : Type 0
ModOfNonNegativeSays =
    Says ModOfNonNegative (i ∷ minus_three ∷ []) (two Implies (two Le zero i) (two And (two Le zero (two Mod i minus_three)) (two Le (two Mod i minus_three) plus_two)))

-- refuses: a remainder that is never negative
abbrev pub ModOfNonPositiveSays : Type 0
ModOfNonPositiveSays =
    Says ModOfNonPositive (i ∷ minus_three ∷ []) (two Implies (two Le i zero) (two And (two Le minus_two (two Mod i minus_three)) (two Le (two Mod i minus_three) zero)))

-- -7 DIV 2 is -3. refuses: a quotient that is rounded down
abbrev pub DivOfNumeralsSays : Type 0
DivOfNumeralsSays = Says DivOfNumerals (num (negsuc 6) ∷ plus_two ∷ []) (two Eq (two Div (num (negsuc 6)) plus_two) minus_three)

-- -7 MOD 2 is -1. refuses: the divisor's sign
abbrev pub ModOfNumeralsSays : Type 0
ModOfNumeralsSays = Says ModOfNumerals (num (negsuc 6) ∷ plus_two ∷ []) (two Eq (two Mod (num (negsuc 6)) plus_two) (num (negsuc 0)))

-- ---- what has no fact

-- refuses: the changed field among the others
abbrev pub ChangedFieldIsNoOther : Type 0
ChangedFieldIsNoOther = SaysNothing FieldPutOther (put_number ∷ []) (Some f)

abbrev pub FieldIsMissing : Type 0
FieldIsMissing = SaysNothing FieldPutOther (put_number ∷ []) None

abbrev pub FieldOfAnotherRecord : Type 0
FieldOfAnotherRecord = SaysNothing FieldPutOther (put_number ∷ []) (Some val)

-- refuses: a field that is not looked at
abbrev pub FieldTooMuch : Type 0
FieldTooMuch = SaysNothing FieldPutSame (put_number ∷ []) (Some g)

-- refuses, as all that follow on sorts: a fact that is no formula
abbrev pub IndexIsNoNumber : Type 0
IndexIsNoNumber = SaysNothing SelectStoreOther (stored ∷ b ∷ []) None

abbrev pub ElementOfAnotherSort : Type 0
ElementOfAnotherSort = SaysNothing SelectStoreSame (three Store a i b ∷ j ∷ []) None

abbrev pub ArrayIsNotChanged : Type 0
ArrayIsNotChanged = SaysNothing SelectStoreSame (a ∷ j ∷ []) None

abbrev pub IndexIsMissing : Type 0
IndexIsMissing = SaysNothing SelectStoreSame (stored ∷ []) None

abbrev pub IndexTooMuch : Type 0
IndexTooMuch = SaysNothing SelectStoreSame (stored ∷ i ∷ j ∷ []) None

-- refuses: EXTEND taken for SETCELL
abbrev pub ExtendedIsNoSetCell : Type 0
ExtendedIsNoSetCell = SaysNothing PointerToSetCell (extended ∷ q ∷ []) None

abbrev pub SetCellExtendsNothing : Type 0
SetCellExtendsNothing = SaysNothing PointerToExtend (changed ∷ q ∷ []) None

abbrev pub PointerOfAnotherClass : Type 0
PointerOfAnotherClass = SaysNothing PointerToExtend (extended ∷ o ∷ []) None

abbrev pub PointerIsNoClass : Type 0
PointerIsNoClass = SaysNothing PointerToNil (p ∷ []) None

abbrev pub ListIsNoPair : Type 0
ListIsNoPair = SaysNothing AtomCons (x ∷ []) None

abbrev pub NumberIsNoList : Type 0
NumberIsNoList = SaysNothing ConsCarCdr (i ∷ []) None

-- refuses: a divisor that is not looked at
abbrev pub DivisorIsZero : Type 0
DivisorIsZero = SaysNothing ModOfNonNegative (i ∷ zero ∷ []) None

abbrev pub DivisorIsNoNumeral : Type 0
DivisorIsNoNumeral = SaysNothing DivMod (i ∷ j ∷ []) None

abbrev pub DividendIsNoNumber : Type 0
DividendIsNoNumber = SaysNothing ModOfNonPositive (b ∷ plus_two ∷ []) None

abbrev pub DividendIsNoNumeral : Type 0
DividendIsNoNumeral = SaysNothing DivOfNumerals (i ∷ plus_two ∷ []) None

abbrev pub NumeralsByZero : Type 0
NumeralsByZero = SaysNothing ModOfNumerals (plus_two ∷ zero ∷ []) None

-- ---- what is listed

abbrev about : SchemaKind → List Term → SchemaInstance
about kind ts = record { kind = kind; about = ts; field = None }

-- these kinds, each about these terms
abbrev Lists : List Term → List SchemaInstance → Type 0
Lists used instances = schemas types [] used ≡ instances

-- what one formula uses of an array that is changed twice: NOT i = j implies that at i the first change is seen.
-- refuses: indices of SELECT alone; every number; pairs by the second term first; kinds in another order
abbrev once : Term
once = three Store a i (num (pos 1))

abbrev twice : Term
twice = three Store once j plus_two

abbrev seen : Term
seen = two Eq (two Select twice i) (num (pos 1))

abbrev pub ArraysAreListed : Type 0
ArraysAreListed =
    Lists (i ∷ j ∷ two Eq i j ∷ one Not (two Eq i j) ∷ a ∷ num (pos 1) ∷ once ∷ plus_two ∷ twice ∷ two Select twice i ∷ seen ∷ two Implies (one Not (two Eq i j)) seen ∷ [])
    (about SelectStoreSame (once ∷ i ∷ []) ∷ about SelectStoreSame (once ∷ j ∷ []) ∷ about SelectStoreSame (twice ∷ i ∷ []) ∷ about SelectStoreSame (twice ∷ j ∷ [])
    ∷ about SelectStoreOther (once ∷ i ∷ []) ∷ about SelectStoreOther (once ∷ j ∷ []) ∷ about SelectStoreOther (twice ∷ i ∷ []) ∷ about SelectStoreOther (twice ∷ j ∷ []) ∷ [])

-- an index comes once, whether it is read or changed at, and of which array of the type; an index of arrays of another type not at all.
-- refuses: indices of any array; indices of STORE alone
abbrev pub IndicesAreOfTheArray : Type 0
IndicesAreOfTheArray =
    Lists (bits ∷ j ∷ two Select bits j ∷ a ∷ i ∷ v ∷ stored ∷ two Select stored i ∷ k ∷ two Select a k ∷ [])
    (about SelectStoreSame (stored ∷ i ∷ []) ∷ about SelectStoreSame (stored ∷ k ∷ []) ∷ about SelectStoreOther (stored ∷ i ∷ []) ∷ about SelectStoreOther (stored ∷ k ∷ []) ∷ [])

abbrev put_truth : Term
put_truth = two (Put g) r b

-- the other fields come in the order of the record, and for each record behind those of the one before.
-- refuses: fields from the last on
abbrev pub RecordsAreListed : Type 0
RecordsAreListed =
    Lists (r ∷ b ∷ put_truth ∷ v ∷ two (Put f) put_truth v ∷ [])
    (about FieldPutSame (put_truth ∷ []) ∷ about FieldPutSame (two (Put f) put_truth v ∷ [])
    ∷ record { kind = FieldPutOther; about = put_truth ∷ []; field = Some f } ∷ record { kind = FieldPutOther; about = put_truth ∷ []; field = Some h }
    ∷ record { kind = FieldPutOther; about = two (Put f) put_truth v ∷ []; field = Some g } ∷ record { kind = FieldPutOther; about = two (Put f) put_truth v ∷ []; field = Some h } ∷ [])

abbrev grown : Term
grown = three Extend changed q e

-- the pointers of a class are those that it is read, changed, extended and asked at; each class has that NIL is no member.
-- refuses: without those of SETCELL, or of EXTEND
abbrev pub ClassesAreListed : Type 0
ClassesAreListed =
    Lists (c ∷ p ∷ e ∷ changed ∷ q ∷ grown ∷ d ∷ o ∷ two PointerTo o d ∷ [])
    (about CellSetCellSame (changed ∷ p ∷ []) ∷ about CellSetCellSame (changed ∷ q ∷ []) ∷ about CellSetCellOther (changed ∷ p ∷ []) ∷ about CellSetCellOther (changed ∷ q ∷ [])
    ∷ about PointerToSetCell (changed ∷ p ∷ []) ∷ about PointerToSetCell (changed ∷ q ∷ [])
    ∷ about CellExtendSame (grown ∷ p ∷ []) ∷ about CellExtendSame (grown ∷ q ∷ []) ∷ about CellExtendOther (grown ∷ p ∷ []) ∷ about CellExtendOther (grown ∷ q ∷ [])
    ∷ about PointerToExtend (grown ∷ p ∷ []) ∷ about PointerToExtend (grown ∷ q ∷ [])
    ∷ about PointerToNil (c ∷ []) ∷ about PointerToNil (changed ∷ []) ∷ about PointerToNil (grown ∷ []) ∷ about PointerToNil (d ∷ []) ∷ [])

-- a pointer is one of the class where CELL reads at it, where POINTERTO asks for it, or where it is the new member; one that only an equation has is none.
-- refuses: every pointer; without those of CELL, of POINTERTO, or of EXTEND
abbrev pub PointersAreOfTheClass : Type 0
PointersAreOfTheClass =
    Lists (p ∷ q ∷ n ∷ m ∷ two Eq p m ∷ c ∷ two Cell c q ∷ two PointerTo n c ∷ e ∷ extended ∷ [])
    (about CellExtendSame (extended ∷ p ∷ []) ∷ about CellExtendSame (extended ∷ q ∷ []) ∷ about CellExtendSame (extended ∷ n ∷ [])
    ∷ about CellExtendOther (extended ∷ p ∷ []) ∷ about CellExtendOther (extended ∷ q ∷ []) ∷ about CellExtendOther (extended ∷ n ∷ [])
    ∷ about PointerToExtend (extended ∷ p ∷ []) ∷ about PointerToExtend (extended ∷ q ∷ []) ∷ about PointerToExtend (extended ∷ n ∷ [])
    ∷ about PointerToNil (c ∷ []) ∷ about PointerToNil (extended ∷ []) ∷ [])

-- a list has its fact where it is taken apart, by CAR, CDR or ATOM.
-- refuses: every list; without one of the three
abbrev pub ListsAreListed : Type 0
ListsAreListed =
    Lists (x ∷ y ∷ two Cons x y ∷ one Car x ∷ one Atom y ∷ one Cdr (two Cons x y) ∷ [])
    (about CarCons (two Cons x y ∷ []) ∷ about CdrCons (two Cons x y ∷ []) ∷ about AtomCons (two Cons x y ∷ [])
    ∷ about ConsCarCdr (x ∷ []) ∷ about ConsCarCdr (y ∷ []) ∷ about ConsCarCdr (two Cons x y ∷ []) ∷ [])

abbrev three_is : Term
three_is = num (pos 3)

abbrev seven : Term
seven = num (pos 7)

-- a dividend and a divisor come once, whether DIV and MOD have them or one of these; a divisor that is no numeral, or is 0, does not come.
-- refuses: DIV alone; MOD alone; the quotient of what only MOD has, or the other way
abbrev pub QuotientsAreListed : Type 0
QuotientsAreListed =
    Lists (i ∷ three_is ∷ two Div i three_is ∷ two Mod i three_is ∷ seven ∷ two Mod seven three_is ∷ plus_two ∷ two Div seven plus_two
    ∷ j ∷ two Div j three_is ∷ two Div i j ∷ zero ∷ two Div i zero ∷ [])
    (about DivMod (i ∷ three_is ∷ []) ∷ about DivMod (seven ∷ three_is ∷ []) ∷ about DivMod (seven ∷ plus_two ∷ []) ∷ about DivMod (j ∷ three_is ∷ [])
    ∷ about ModOfNonNegative (i ∷ three_is ∷ []) ∷ about ModOfNonNegative (seven ∷ three_is ∷ []) ∷ about ModOfNonNegative (seven ∷ plus_two ∷ []) ∷ about ModOfNonNegative (j ∷ three_is ∷ [])
    ∷ about ModOfNonPositive (i ∷ three_is ∷ []) ∷ about ModOfNonPositive (seven ∷ three_is ∷ []) ∷ about ModOfNonPositive (seven ∷ plus_two ∷ []) ∷ about ModOfNonPositive (j ∷ three_is ∷ [])
    ∷ about DivOfNumerals (seven ∷ plus_two ∷ []) ∷ about ModOfNumerals (seven ∷ three_is ∷ []) ∷ [])
