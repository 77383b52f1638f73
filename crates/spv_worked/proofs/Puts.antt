-- What small programs write, put by put.
use Rattle.std.proofs.Common.{[], ◌∷◌, pos, refl}
use Rattle.spv_logic.specs.declared.types.Sort.TheVariants as sort
use Rattle.spv_logic.specs.Values.{Pointer, ArrayOf, no_rows, row}
use Rattle.spv_meaning.specs.Places.{Place, ProgramVariable, CellOf, IndexStep, FieldStep, whole, put}
use Rattle.spv_meaning.specs.Walks.{with_new_cell}
use Rattle.spv_writes.specs.Writes.{nothing, puts, creates}
use Rattle.spv_worked.specs.Small.{a, i, q, val, row_of_nine, node, z}
use Rattle.spv_worked.specs.CellRuns.{node_with}
use Rattle.spv_worked.specs.WrittenRuns.{FillingWrites, MakingWrites, AddingWrites, first_of_a, unfilled, filled, unmade, made, unadded, added}

pub filling_writes : FillingWrites
filling_writes =
    puts unfilled filled (whole (ProgramVariable i)) sort.Int (z 2) (record { whole = z 1; sort = sort.Int; is = refl; fit = refl; leads = refl }) refl refl
    (puts (put unfilled (whole (ProgramVariable i)) (z 2)) filled first_of_a sort.Int (z 5) (record { whole = ArrayOf (z 0) no_rows; sort = sort.Whole row_of_nine; is = refl; fit = refl; leads = refl }) refl refl
    (nothing filled))

pub making_writes : MakingWrites
making_writes =
    creates unmade made 3 node (node_with 30) refl refl refl
    (puts (with_new_cell 3 node (node_with 30) unmade) made (whole (ProgramVariable q)) (sort.Ptr node) (Pointer 3) (record { whole = Pointer 1; sort = sort.Ptr node; is = refl; fit = refl; leads = refl }) refl refl
    (puts (put (with_new_cell 3 node (node_with 30) unmade) (whole (ProgramVariable q)) (Pointer 3)) made (record { root = CellOf 3; path = FieldStep val ∷ [] }) sort.Int (z 7) (record { whole = node_with 30; sort = sort.Whole node; is = refl; fit = refl; leads = refl }) refl refl
    (nothing made)))

abbrev second_of_a : Place
second_of_a = record { root = ProgramVariable a; path = IndexStep (pos 2) ∷ [] }

pub adding_writes : AddingWrites
adding_writes =
    puts unadded added second_of_a sort.Int (z 6) (record { whole = ArrayOf (z 4) no_rows; sort = sort.Whole row_of_nine; is = refl; fit = refl; leads = refl }) refl refl
    (puts (put unadded second_of_a (z 6)) added second_of_a sort.Int (z 7) (record { whole = ArrayOf (z 4) (row (pos 2) (z 6) no_rows); sort = sort.Whole row_of_nine; is = refl; fit = refl; leads = refl }) refl refl
    (nothing added))
