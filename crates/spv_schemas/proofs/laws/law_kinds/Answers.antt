use Rattle.std.proofs.Common.{refl}
use Rattle.spv_schemas.specs.declared.kinds.SchemaKind.TheVariants.{SelectStoreSame, SelectStoreOther, FieldPutSame, FieldPutOther, CellSetCellSame, CellSetCellOther, PointerToSetCell, CellExtendSame, CellExtendOther, PointerToExtend, PointerToNil, CarCons, CdrCons, AtomCons, ConsCarCdr, DivMod, ModOfNonNegative, ModOfNonPositive, DivOfNumerals, ModOfNumerals}
use Rattle.spv_schemas.specs.Kinds.{number_of_kind, kind_of_number}
use Rattle.spv_schemas.specs.declared.kinds.SchemaKind.{SchemaKind}
use Rattle.std.proofs.Common.{◌≡◌, Some}
use Rattle.spv_schemas.proofs.laws.law_kinds.Goals as goal

told : (kind : SchemaKind) → kind_of_number (number_of_kind kind) ≡ Some kind
told SelectStoreSame = refl
told SelectStoreOther = refl
told FieldPutSame = refl
told FieldPutOther = refl
told CellSetCellSame = refl
told CellSetCellOther = refl
told PointerToSetCell = refl
told CellExtendSame = refl
told CellExtendOther = refl
told PointerToExtend = refl
told PointerToNil = refl
told CarCons = refl
told CdrCons = refl
told AtomCons = refl
told ConsCarCdr = refl
told DivMod = refl
told ModOfNonNegative = refl
told ModOfNonPositive = refl
told DivOfNumerals = refl
told ModOfNumerals = refl

pub returns : goal.returns
returns c = record { numbers = told }
