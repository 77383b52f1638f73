-- The kinds of schemas, and the numbers that listings print for them.
use Rattle.std.specs.Prelude.{ℕ, zero, suc, List, [], ◌∷◌, Option, None, slice_get}
use Rattle.spv_schemas.specs.declared.kinds.SchemaKind.{SchemaKind}
use Rattle.spv_schemas.specs.declared.kinds.SchemaKind.TheVariants.{SelectStoreSame, SelectStoreOther, FieldPutSame, FieldPutOther, CellSetCellSame, CellSetCellOther, PointerToSetCell, CellExtendSame, CellExtendOther, PointerToExtend, PointerToNil, CarCons, CdrCons, AtomCons, ConsCarCdr, DivMod, ModOfNonNegative, ModOfNonPositive, DivOfNumerals, ModOfNumerals}

-- all kinds, in their order
abbrev pub kinds : List SchemaKind
kinds =
    SelectStoreSame ∷ SelectStoreOther ∷ FieldPutSame ∷ FieldPutOther
    ∷ CellSetCellSame ∷ CellSetCellOther ∷ PointerToSetCell ∷ CellExtendSame ∷ CellExtendOther ∷ PointerToExtend ∷ PointerToNil
    ∷ CarCons ∷ CdrCons ∷ AtomCons ∷ ConsCarCdr
    ∷ DivMod ∷ ModOfNonNegative ∷ ModOfNonPositive ∷ DivOfNumerals ∷ ModOfNumerals ∷ []

-- the number of a kind
abbrev pub number_of_kind : SchemaKind → ℕ
number_of_kind SelectStoreSame = 1
number_of_kind SelectStoreOther = 2
number_of_kind FieldPutSame = 3
number_of_kind FieldPutOther = 4
number_of_kind CellSetCellSame = 5
number_of_kind CellSetCellOther = 6
number_of_kind PointerToSetCell = 7
number_of_kind CellExtendSame = 8
number_of_kind CellExtendOther = 9
number_of_kind PointerToExtend = 10
number_of_kind PointerToNil = 11
number_of_kind CarCons = 12
number_of_kind CdrCons = 13
number_of_kind AtomCons = 14
number_of_kind ConsCarCdr = 15
number_of_kind DivMod = 16
number_of_kind ModOfNonNegative = 17
number_of_kind ModOfNonPositive = 18
number_of_kind DivOfNumerals = 19
number_of_kind ModOfNumerals = 20

-- the kind of a number; of any other number, none
abbrev pub kind_of_number : ℕ → Option SchemaKind
kind_of_number zero = None
kind_of_number (suc n) = slice_get kinds n
