-- The facts of schemas: formulas about terms of one shape, which are true whatever these are worth.
use Rattle.std.specs.Prelude.{Bool, List, [], ◌∷◌, Option, Some, None, ℤ, pos, ◌-◌, neg_ℤ, nat_eq, if◌then◌else◌}
use Rattle.std.specs.Int.RustNames.{int_div, int_rem, unsigned_abs}
use Rattle.std.specs.Ordering.{int_eq}
use Rattle.spv_logic.specs.declared.names.names.Symbol.{Symbol}
use Rattle.spv_logic.specs.declared.types.Sort.{Sort}
use Rattle.spv_logic.specs.declared.types.Sort.TheVariants as sort
use Rattle.spv_logic.specs.declared.types.Shape.{Shape}
use Rattle.spv_logic.specs.declared.types.Decl.{Decl}
use Rattle.spv_logic.specs.declared.operators.Head.{Head}
use Rattle.spv_logic.specs.declared.operators.Head.TheVariants.{Num, Add, Mul, Div, Mod, Le, And, Or, Implies, Select, Store, Field, Put, Cell, SetCell, Extend, PointerTo, Car, Cdr, Cons, Atom, Nil}
use Rattle.spv_logic.specs.Terms.{Term, term, no_terms, terms, sort_eq}
use Rattle.spv_logic.specs.Formulas.{negation, equation}
use Rattle.spv_logic.specs.Fits.{on_sort}
use Rattle.spv_logic.specs.Sorts.{term_sort}
use Rattle.spv_schemas.specs.declared.kinds.SchemaKind.{SchemaKind}
use Rattle.spv_schemas.specs.declared.kinds.SchemaKind.TheVariants.{SelectStoreSame, SelectStoreOther, FieldPutSame, FieldPutOther, CellSetCellSame, CellSetCellOther, PointerToSetCell, CellExtendSame, CellExtendOther, PointerToExtend, PointerToNil, CarCons, CdrCons, AtomCons, ConsCarCdr, DivMod, ModOfNonNegative, ModOfNonPositive, DivOfNumerals, ModOfNumerals}

-- ---- terms by their parts

abbrev pub one : Head → Term → Term
one h t = term h (terms t no_terms)

abbrev pub two : Head → Term → Term → Term
two h t u = term h (terms t (terms u no_terms))

abbrev pub three : Head → Term → Term → Term → Term
three h t u w = term h (terms t (terms u (terms w no_terms)))

abbrev pub implication : Term → Term → Term
implication f g = two Implies f g

abbrev pub numeral : ℤ → Term
numeral z = term (Num z) no_terms

-- ---- arrays: a with v at the index i, and an index j

abbrev pub select_store_same : Term → Term → Term → Term → Term
select_store_same a i v j = implication (equation i j) (equation (two Select (three Store a i v) j) v)

abbrev pub select_store_other : Term → Term → Term → Term → Term
select_store_other a i v j = implication (negation (equation i j)) (equation (two Select (three Store a i v) j) (two Select a j))

-- ---- records: r with v in the field f, and another field g

abbrev pub field_put_same : Symbol → Term → Term → Term
field_put_same f r v = equation (one (Field f) (two (Put f) r v)) v

abbrev pub field_put_other : Symbol → Term → Term → Symbol → Term
field_put_other f r v g = equation (one (Field g) (two (Put f) r v)) (one (Field g) r)

-- ---- classes: c with the content v at the pointer p, by SETCELL or by EXTEND, and a pointer q

abbrev pub cell_same : Head → Term → Term → Term → Term → Term
cell_same change c p v q = implication (equation p q) (equation (two Cell (three change c p v) q) v)

abbrev pub cell_other : Head → Term → Term → Term → Term → Term
cell_other change c p v q = implication (negation (equation p q)) (equation (two Cell (three change c p v) q) (two Cell c q))

abbrev pub pointer_to_set_cell : Term → Term → Term → Term → Term
pointer_to_set_cell c p v q = equation (two PointerTo q (three SetCell c p v)) (two PointerTo q c)

abbrev pub pointer_to_extend : Term → Term → Term → Term → Term → Term
pointer_to_extend nil c p v q =
    implication (negation (equation p nil)) (equation (two PointerTo q (three Extend c p v)) (two Or (equation p q) (two PointerTo q c)))

abbrev pub pointer_to_nil : Term → Term → Term
pointer_to_nil nil c = negation (two PointerTo nil c)

-- ---- lists

abbrev pub car_cons : Term → Term → Term
car_cons x y = equation (one Car (two Cons x y)) x

abbrev pub cdr_cons : Term → Term → Term
cdr_cons x y = equation (one Cdr (two Cons x y)) y

abbrev pub atom_cons : Term → Term → Term
atom_cons x y = negation (one Atom (two Cons x y))

abbrev pub cons_car_cdr : Term → Term
cons_car_cdr x = implication (negation (one Atom x)) (equation (two Cons (one Car x) (one Cdr x)) x)

-- ---- quotients and remainders: of a by the numeral k

-- the greatest number that a remainder can be
abbrev pub greatest : ℤ → ℤ
greatest k = pos (unsigned_abs k - 1)

abbrev pub between : Term → Term → Term → Term
between low t high = two And (two Le low t) (two Le t high)

abbrev pub div_mod : Term → ℤ → Term
div_mod a k = equation a (two Add (two Mul (numeral k) (two Div a (numeral k))) (two Mod a (numeral k)))

abbrev pub mod_of_non_negative : Term → ℤ → Term
mod_of_non_negative a k =
    implication (two Le (numeral (pos 0)) a) (between (numeral (pos 0)) (two Mod a (numeral k)) (numeral (greatest k)))

abbrev pub mod_of_non_positive : Term → ℤ → Term
mod_of_non_positive a k =
    implication (two Le a (numeral (pos 0))) (between (numeral (neg_ℤ (greatest k))) (two Mod a (numeral k)) (numeral (pos 0)))

abbrev pub div_of_numerals : ℤ → ℤ → Term
div_of_numerals a k = equation (two Div (numeral a) (numeral k)) (numeral (int_div a k))

abbrev pub mod_of_numerals : ℤ → ℤ → Term
mod_of_numerals a k = equation (two Mod (numeral a) (numeral k)) (numeral (int_rem a k))

-- ---- the shapes that terms must have

abbrev pub about_store : (Term → Term → Term → Term → Term) → List Term → Option Term
about_store fact (term Store (terms a (terms i (terms v no_terms))) ∷ j ∷ []) = Some (fact a i v j)
about_store fact _ = None

abbrev pub about_put : List Term → Option Term
about_put (term (Put f) (terms r (terms v no_terms)) ∷ []) = Some (field_put_same f r v)
about_put _ = None

-- a field is no other one than itself
abbrev pub about_put_other : List Term → Symbol → Option Term
about_put_other (term (Put f) (terms r (terms v no_terms)) ∷ []) g = if nat_eq g.0 f.0 then None else Some (field_put_other f r v g)
about_put_other _ g = None

abbrev pub about_set_cell : (Term → Term → Term → Term → Term) → List Term → Option Term
about_set_cell fact (term SetCell (terms c (terms p (terms v no_terms))) ∷ q ∷ []) = Some (fact c p v q)
about_set_cell fact _ = None

abbrev pub about_extend : (Term → Term → Term → Term → Term) → List Term → Option Term
about_extend fact (term Extend (terms c (terms p (terms v no_terms))) ∷ q ∷ []) = Some (fact c p v q)
about_extend fact _ = None

abbrev pub about_one : (Term → Term) → List Term → Option Term
about_one fact (t ∷ []) = Some (fact t)
about_one fact _ = None

abbrev pub about_cons : (Term → Term → Term) → List Term → Option Term
about_cons fact (term Cons (terms x (terms y no_terms)) ∷ []) = Some (fact x y)
about_cons fact _ = None

-- no divisor is 0
abbrev pub about_quotient : (Term → ℤ → Term) → List Term → Option Term
about_quotient fact (a ∷ term (Num k) no_terms ∷ []) = if int_eq k (pos 0) then None else Some (fact a k)
about_quotient fact _ = None

abbrev pub about_numerals : (ℤ → ℤ → Term) → List Term → Option Term
about_numerals fact (term (Num a) no_terms ∷ term (Num k) no_terms ∷ []) = if int_eq k (pos 0) then None else Some (fact a k)
about_numerals fact _ = None

-- ---- the fact of a kind

-- NIL of the pointers of a class; of another sort any one, since then what is said with it is no formula
abbrev pub nil_of : Option Sort → Term
nil_of (Some (sort.Class t)) = term (Nil t) no_terms
nil_of _ = term (Nil (record { 0 = 0 })) no_terms

abbrev pub without_field : (Term → Option Sort) → SchemaKind → List Term → Option Term
without_field sorts SelectStoreSame ts = about_store select_store_same ts
without_field sorts SelectStoreOther ts = about_store select_store_other ts
without_field sorts FieldPutSame ts = about_put ts
without_field sorts FieldPutOther ts = None
without_field sorts CellSetCellSame ts = about_set_cell (cell_same SetCell) ts
without_field sorts CellSetCellOther ts = about_set_cell (cell_other SetCell) ts
without_field sorts PointerToSetCell ts = about_set_cell pointer_to_set_cell ts
without_field sorts CellExtendSame ts = about_extend (cell_same Extend) ts
without_field sorts CellExtendOther ts = about_extend (cell_other Extend) ts
without_field sorts PointerToExtend ts = about_extend (λ c p v q. pointer_to_extend (nil_of (sorts c)) c p v q) ts
without_field sorts PointerToNil ts = about_one (λ c. pointer_to_nil (nil_of (sorts c)) c) ts
without_field sorts CarCons ts = about_cons car_cons ts
without_field sorts CdrCons ts = about_cons cdr_cons ts
without_field sorts AtomCons ts = about_cons atom_cons ts
without_field sorts ConsCarCdr ts = about_one cons_car_cdr ts
without_field sorts DivMod ts = about_quotient div_mod ts
without_field sorts ModOfNonNegative ts = about_quotient mod_of_non_negative ts
without_field sorts ModOfNonPositive ts = about_quotient mod_of_non_positive ts
without_field sorts DivOfNumerals ts = about_numerals div_of_numerals ts
without_field sorts ModOfNumerals ts = about_numerals mod_of_numerals ts

abbrev pub with_field : SchemaKind → List Term → Symbol → Option Term
with_field FieldPutOther ts g = about_put_other ts g
with_field _ ts g = None

-- what a kind says of terms, where they have its shape, whatever their sorts are
abbrev pub of_shape : (Term → Option Sort) → SchemaKind → List Term → Option Symbol → Option Term
of_shape sorts kind ts None = without_field sorts kind ts
of_shape sorts kind ts (Some g) = with_field kind ts g

abbrev pub is_formula : List Shape → List Decl → Term → Bool
is_formula shapes decls t = on_sort (term_sort shapes decls t) (sort_eq sort.Bool)

abbrev pub if_formula : List Shape → List Decl → Option Term → Option Term
if_formula shapes decls None = None
if_formula shapes decls (Some t) = if is_formula shapes decls t then Some t else None

-- the fact of a kind about terms, and for one kind about a field: none where the terms lack its shape, or where their sorts do not fit it
abbrev pub schema_fact : List Shape → List Decl → SchemaKind → List Term → Option Symbol → Option Term
schema_fact shapes decls kind ts field = if_formula shapes decls (of_shape (term_sort shapes decls) kind ts field)
