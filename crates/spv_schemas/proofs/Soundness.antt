-- Each fact of a schema is true.
use Rattle.std.proofs.Common.{◌≡◌, Bool, true, false, cond, not, ◌||◌, List, [], ◌∷◌, ℤ, pos, Option, Some, None, refl, sym, ap, ◌∙◌, subst, nat_eq, if◌then◌else◌}
use Rattle.std.proofs.lemmas.Bool.{false≢true}
use Rattle.std.specs.Int.RustNames.{int_div, int_rem}
use Rattle.std.specs.Ordering.{int_eq}
use Rattle.std.specs.Cmp.Derive.{both_true}
use Rattle.std.specs.List.{list_all, list_any, filter_map, cons_option}
use Rattle.spv_logic.specs.declared.names.names.Symbol.{Symbol}
use Rattle.spv_logic.specs.declared.types.Sort.{Sort}
use Rattle.spv_logic.specs.declared.types.Sort.TheVariants as sort
use Rattle.spv_logic.specs.declared.types.Shape.{Shape}
use Rattle.spv_logic.specs.declared.types.Decl.{Decl}
use Rattle.spv_logic.specs.declared.operators.Head.TheVariants as head
use Rattle.spv_logic.specs.Values.{Value, Number, Truth, Pointer, value_eq, number_of, pointer_of, members_of, with_member}
use Rattle.spv_logic.specs.Terms.{Term, sort_eq, eval}
use Rattle.spv_logic.specs.Formulas.{negation, equation}
use Rattle.spv_logic.specs.Shapes.{shapes_ok}
use Rattle.spv_logic.specs.Fits.{fits, on_sort}
use Rattle.spv_logic.specs.Sorts.{term_sort}
use Rattle.spv_logic.specs.Conditions.{Meaning, Valuation, IsValuation, answers, holds}
use Rattle.spv_logic.proofs.Equality.{sort_eq-true, value_eq-refl}
use Rattle.spv_logic.proofs.Sorting.{eval-fits}
use Rattle.spv_schemas.specs.declared.kinds.SchemaKind.{SchemaKind}
use Rattle.spv_schemas.specs.declared.kinds.SchemaKind.TheVariants.{SelectStoreSame, SelectStoreOther, FieldPutSame, FieldPutOther, CellSetCellSame, CellSetCellOther, PointerToSetCell, CellExtendSame, CellExtendOther, PointerToExtend, PointerToNil, CarCons, CdrCons, AtomCons, ConsCarCdr, DivMod, ModOfNonNegative, ModOfNonPositive, DivOfNumerals, ModOfNumerals}
use Rattle.spv_schemas.specs.Facts as facts
use Rattle.spv_schemas.specs.Facts.{one, two, three, numeral, nil_of, of_shape, is_formula, if_formula, schema_fact}
use Rattle.spv_schemas.specs.Instances.{SchemaInstance, instance_fact, schemas, schema_facts}
use Rattle.spv_schemas.proofs.Shapes.{by_store, by_put, by_put_other, by_set_cell, by_extend, by_one, by_cons, by_quotient, by_numerals}
use Rattle.spv_schemas.proofs.Sorts.{of_negation, of_implication, of_equation, of_sum, of_select, of_store, of_field, of_put, of_cell, of_set_cell, of_extend, of_pointer_to}
use Rattle.spv_schemas.proofs.Values.{element_same, element_other, field_same, field_other, content_same, content_other, members_extended, nil_is_no_member, pair_of_parts, dividend, remainder_above, remainder_below}

-- ---- facts are formulas

pub bool_told : (o : Option Sort) → on_sort o (sort_eq sort.Bool) ≡ true → o ≡ Some sort.Bool
bool_told None h = absurd (false≢true h)
bool_told (Some s) h = ap Some (sym (sort_eq-true sort.Bool s h))

-- what is kept of a shape's fact
pub record Kept (shapes : List Shape) (decls : List Decl) (o : Option Term) (fact : Term) : Type 0 where
  pub is : o ≡ Some fact
  pub sorted : term_sort shapes decls fact ≡ Some sort.Bool

pub kept : (shapes : List Shape) (decls : List Decl) (o : Option Term) (fact : Term) → if_formula shapes decls o ≡ Some fact → Kept shapes decls o fact
kept shapes decls None fact h = cc
kept shapes decls (Some t) fact h = by_case (is_formula shapes decls t) refl h
  where
    by_case : (b : Bool) → is_formula shapes decls t ≡ b → cond b (Some t) None ≡ Some fact → Kept shapes decls (Some t) fact
    by_case true e g =
        let same : t ≡ fact = cc in
        record { is = ap Some same; sorted = ap (term_sort shapes decls) (sym same) ∙ bool_told (term_sort shapes decls t) e }
    by_case false e g = cc

-- ---- facts are true

module _ (shapes : List Shape) (ok : shapes_ok shapes ≡ true) (decls : List Decl) (world : Meaning) (v : Valuation) (val : IsValuation shapes v) where
  abbrev value : Term → Value
  value t = eval (answers shapes decls world) v t

  value-fits : (t : Term) (s : Sort) → term_sort shapes decls t ≡ Some s → fits shapes (value t) s ≡ true
  value-fits t s e = eval-fits shapes ok decls world v val t s e

  -- a formula is true
  abbrev IsTrueHere : Term → Type 0
  IsTrueHere t = holds (answers shapes decls world) v t ≡ true

  -- if it is well sorted
  abbrev Right : Term → Type 0
  Right t = term_sort shapes decls t ≡ Some sort.Bool → IsTrueHere t

  -- ---- arrays

  select_store_same : (a i w j : Term) → Right (facts.select_store_same a i w j)
  select_store_same a i w j h =
      let m = of_implication shapes decls (equation i j) (equation (two head.Select (three head.Store a i w) j) w) sort.Bool h in
      let e = of_equation shapes decls (two head.Select (three head.Store a i w) j) w sort.Bool m.1 in
      let r = of_select shapes decls (three head.Store a i w) j e.0 e.1 in
      let s = of_store shapes decls a i w r.0 r.1 in
      element_same shapes r.0 s.0 (value a) (value i) (value w) (value j) s.2 (value-fits a r.0 s.1)

  select_store_other : (a i w j : Term) → Right (facts.select_store_other a i w j)
  select_store_other a i w j h =
      let m = of_implication shapes decls (negation (equation i j)) (equation (two head.Select (three head.Store a i w) j) (two head.Select a j)) sort.Bool h in
      let e = of_equation shapes decls (two head.Select (three head.Store a i w) j) (two head.Select a j) sort.Bool m.1 in
      let r = of_select shapes decls (three head.Store a i w) j e.0 e.1 in
      let s = of_store shapes decls a i w r.0 r.1 in
      element_other shapes (value a) (value i) (value w) (value j) (value-fits i sort.Int s.3) (value-fits j sort.Int r.2)

  -- ---- records

  field_put_same : (f : Symbol) (r w : Term) → Right (facts.field_put_same f r w)
  field_put_same f r w h =
      let e = of_equation shapes decls (one (head.Field f) (two (head.Put f) r w)) w sort.Bool h in
      let k = of_field shapes decls f (two (head.Put f) r w) e.0 e.1 in
      let p = of_put shapes decls f r w k.0 k.2 in
      field_same shapes k.0 p.0 f.0 (value r) (value w) (Number (pos 0)) p.2 (value-fits r k.0 p.1)

  field_put_other : (f : Symbol) (r w : Term) (g : Symbol) → nat_eq g.0 f.0 ≡ false → Right (facts.field_put_other f r w g)
  field_put_other f r w g differ h = field_other f.0 g.0 (value r) (value w) (Number (pos 0)) differ

  -- ---- classes

  cell_set_cell_same : (c p w q : Term) → Right (facts.cell_same head.SetCell c p w q)
  cell_set_cell_same c p w q h =
      let m = of_implication shapes decls (equation p q) (equation (two head.Cell (three head.SetCell c p w) q) w) sort.Bool h in
      let e = of_equation shapes decls (two head.Cell (three head.SetCell c p w) q) w sort.Bool m.1 in
      let r = of_cell shapes decls (three head.SetCell c p w) q e.0 e.1 in
      let s = of_set_cell shapes decls c p w (sort.Class r.0) r.1 in
      content_same shapes s.0 (value c) (value p) (value w) (value q) (value-fits c (sort.Class s.0) s.2)

  cell_set_cell_other : (c p w q : Term) → Right (facts.cell_other head.SetCell c p w q)
  cell_set_cell_other c p w q h =
      let m = of_implication shapes decls (negation (equation p q)) (equation (two head.Cell (three head.SetCell c p w) q) (two head.Cell c q)) sort.Bool h in
      let e = of_equation shapes decls (two head.Cell (three head.SetCell c p w) q) (two head.Cell c q) sort.Bool m.1 in
      let r = of_cell shapes decls (three head.SetCell c p w) q e.0 e.1 in
      let s = of_set_cell shapes decls c p w (sort.Class r.0) r.1 in
      content_other shapes s.0 r.0 (value c) (value p) (value w) (value q) (value-fits p (sort.Ptr s.0) s.3) (value-fits q (sort.Ptr r.0) r.2)

  pointer_to_set_cell : (c p w q : Term) → Right (facts.pointer_to_set_cell c p w q)
  pointer_to_set_cell c p w q h = value_eq-refl (value (two head.PointerTo q c))

  cell_extend_same : (c p w q : Term) → Right (facts.cell_same head.Extend c p w q)
  cell_extend_same c p w q h =
      let m = of_implication shapes decls (equation p q) (equation (two head.Cell (three head.Extend c p w) q) w) sort.Bool h in
      let e = of_equation shapes decls (two head.Cell (three head.Extend c p w) q) w sort.Bool m.1 in
      let r = of_cell shapes decls (three head.Extend c p w) q e.0 e.1 in
      let s = of_extend shapes decls c p w (sort.Class r.0) r.1 in
      content_same shapes s.0 (value c) (value p) (value w) (value q) (value-fits c (sort.Class s.0) s.2)

  cell_extend_other : (c p w q : Term) → Right (facts.cell_other head.Extend c p w q)
  cell_extend_other c p w q h =
      let m = of_implication shapes decls (negation (equation p q)) (equation (two head.Cell (three head.Extend c p w) q) (two head.Cell c q)) sort.Bool h in
      let e = of_equation shapes decls (two head.Cell (three head.Extend c p w) q) (two head.Cell c q) sort.Bool m.1 in
      let r = of_cell shapes decls (three head.Extend c p w) q e.0 e.1 in
      let s = of_extend shapes decls c p w (sort.Class r.0) r.1 in
      content_other shapes s.0 r.0 (value c) (value p) (value w) (value q) (value-fits p (sort.Ptr s.0) s.3) (value-fits q (sort.Ptr r.0) r.2)

  nil_value : (o : Option Sort) → value (nil_of o) ≡ Pointer 0
  nil_value (Some (sort.Class t)) = refl
  nil_value _ = refl

  pointer_to_extend : (nil c p w q : Term) → value nil ≡ Pointer 0 → Right (facts.pointer_to_extend nil c p w q)
  pointer_to_extend nil c p w q is h =
      let m = of_implication shapes decls (negation (equation p nil)) (equation (two head.PointerTo q (three head.Extend c p w)) (two head.Or (equation p q) (two head.PointerTo q c))) sort.Bool h in
      let e = of_equation shapes decls (two head.PointerTo q (three head.Extend c p w)) (two head.Or (equation p q) (two head.PointerTo q c)) sort.Bool m.1 in
      let r = of_pointer_to shapes decls q (three head.Extend c p w) e.0 e.1 in
      let s = of_extend shapes decls c p w (sort.Class r.0) r.2 in
      subst (λ x. (not (not (value_eq (value p) x)) || value_eq (Truth (list_any (nat_eq (pointer_of (value q))) (with_member (members_of (value c)) (pointer_of (value p))))) (Truth (value_eq (value p) (value q) || list_any (nat_eq (pointer_of (value q))) (members_of (value c))))) ≡ true) (sym is)
      (members_extended shapes s.0 r.0 (value p) (value q) (members_of (value c)) (value-fits p (sort.Ptr s.0) s.3) (value-fits q (sort.Ptr r.0) r.1))

  pointer_to_nil : (nil c : Term) → value nil ≡ Pointer 0 → Right (facts.pointer_to_nil nil c)
  pointer_to_nil nil c is h =
      let r = of_pointer_to shapes decls nil c sort.Bool (of_negation shapes decls (two head.PointerTo nil c) sort.Bool h) in
      subst (λ x. not (list_any (nat_eq (pointer_of x)) (members_of (value c))) ≡ true) (sym is)
      (nil_is_no_member shapes r.0 (value c) (value-fits c (sort.Class r.0) r.2))

  -- ---- lists

  car_cons : (x y : Term) → Right (facts.car_cons x y)
  car_cons x y h = value_eq-refl (value x)

  cdr_cons : (x y : Term) → Right (facts.cdr_cons x y)
  cdr_cons x y h = value_eq-refl (value y)

  atom_cons : (x y : Term) → Right (facts.atom_cons x y)
  atom_cons x y h = refl

  cons_car_cdr : (x : Term) → Right (facts.cons_car_cdr x)
  cons_car_cdr x h = pair_of_parts (value x)

  -- ---- quotients and remainders

  div_mod : (a : Term) (k : ℤ) → Right (facts.div_mod a k)
  div_mod a k h =
      let sum = two head.Add (two head.Mul (numeral k) (two head.Div a (numeral k))) (two head.Mod a (numeral k)) in
      let e = of_equation shapes decls a sum sort.Bool h in
      let s = of_sum shapes decls (two head.Mul (numeral k) (two head.Div a (numeral k))) (two head.Mod a (numeral k)) e.0 e.2 in
      dividend shapes (value a) k (value-fits a sort.Int (e.1 ∙ ap Some s))

  mod_of_non_negative : (a : Term) (k : ℤ) → int_eq k (pos 0) ≡ false → Right (facts.mod_of_non_negative a k)
  mod_of_non_negative a k e h = remainder_above (number_of (value a)) k e

  mod_of_non_positive : (a : Term) (k : ℤ) → int_eq k (pos 0) ≡ false → Right (facts.mod_of_non_positive a k)
  mod_of_non_positive a k e h = remainder_below (number_of (value a)) k e

  div_of_numerals : (a k : ℤ) → Right (facts.div_of_numerals a k)
  div_of_numerals a k h = value_eq-refl (Number (int_div a k))

  mod_of_numerals : (a k : ℤ) → Right (facts.mod_of_numerals a k)
  mod_of_numerals a k h = value_eq-refl (Number (int_rem a k))

  -- ---- from shapes to facts

  -- what is said of a shape's fact is right
  abbrev RightIf : Option Term → Type 0
  RightIf o = (fact : Term) → o ≡ Some fact → Right fact

  said : (t : Term) → Right t → RightIf (Some t)
  said t right fact e h = let same : t ≡ fact = cc in subst IsTrueHere same (right (ap (term_sort shapes decls) same ∙ h))

  said_unless : (b : Bool) (t : Term) → (b ≡ false → Right t) → RightIf (if b then None else Some t)
  said_unless true t right = λ fact e. cc
  said_unless false t right = said t (right refl)

  nothing : (ts : List Term) → RightIf None
  nothing ts fact e = cc

  -- a case for each kind
  of_kind : (kind : SchemaKind) (ts : List Term) (field : Option Symbol) → RightIf (of_shape (term_sort shapes decls) kind ts field)
  of_kind SelectStoreSame ts None = by_store (λ ts o. RightIf o) nothing facts.select_store_same (λ a i w j. said (facts.select_store_same a i w j) (select_store_same a i w j)) ts
  of_kind SelectStoreOther ts None = by_store (λ ts o. RightIf o) nothing facts.select_store_other (λ a i w j. said (facts.select_store_other a i w j) (select_store_other a i w j)) ts
  of_kind FieldPutSame ts None = by_put (λ ts o. RightIf o) nothing (λ f r w. said (facts.field_put_same f r w) (field_put_same f r w)) ts
  of_kind FieldPutOther ts None = nothing ts
  of_kind CellSetCellSame ts None = by_set_cell (λ ts o. RightIf o) nothing (facts.cell_same head.SetCell) (λ c p w q. said (facts.cell_same head.SetCell c p w q) (cell_set_cell_same c p w q)) ts
  of_kind CellSetCellOther ts None = by_set_cell (λ ts o. RightIf o) nothing (facts.cell_other head.SetCell) (λ c p w q. said (facts.cell_other head.SetCell c p w q) (cell_set_cell_other c p w q)) ts
  of_kind PointerToSetCell ts None = by_set_cell (λ ts o. RightIf o) nothing facts.pointer_to_set_cell (λ c p w q. said (facts.pointer_to_set_cell c p w q) (pointer_to_set_cell c p w q)) ts
  of_kind CellExtendSame ts None = by_extend (λ ts o. RightIf o) nothing (facts.cell_same head.Extend) (λ c p w q. said (facts.cell_same head.Extend c p w q) (cell_extend_same c p w q)) ts
  of_kind CellExtendOther ts None = by_extend (λ ts o. RightIf o) nothing (facts.cell_other head.Extend) (λ c p w q. said (facts.cell_other head.Extend c p w q) (cell_extend_other c p w q)) ts
  of_kind PointerToExtend ts None =
      by_extend (λ ts o. RightIf o) nothing (λ c p w q. facts.pointer_to_extend (nil_of (term_sort shapes decls c)) c p w q)
      (λ c p w q. said (facts.pointer_to_extend (nil_of (term_sort shapes decls c)) c p w q) (pointer_to_extend (nil_of (term_sort shapes decls c)) c p w q (nil_value (term_sort shapes decls c)))) ts
  of_kind PointerToNil ts None =
      by_one (λ ts o. RightIf o) nothing (λ c. facts.pointer_to_nil (nil_of (term_sort shapes decls c)) c)
      (λ c. said (facts.pointer_to_nil (nil_of (term_sort shapes decls c)) c) (pointer_to_nil (nil_of (term_sort shapes decls c)) c (nil_value (term_sort shapes decls c)))) ts
  of_kind CarCons ts None = by_cons (λ ts o. RightIf o) nothing facts.car_cons (λ x y. said (facts.car_cons x y) (car_cons x y)) ts
  of_kind CdrCons ts None = by_cons (λ ts o. RightIf o) nothing facts.cdr_cons (λ x y. said (facts.cdr_cons x y) (cdr_cons x y)) ts
  of_kind AtomCons ts None = by_cons (λ ts o. RightIf o) nothing facts.atom_cons (λ x y. said (facts.atom_cons x y) (atom_cons x y)) ts
  of_kind ConsCarCdr ts None = by_one (λ ts o. RightIf o) nothing facts.cons_car_cdr (λ x. said (facts.cons_car_cdr x) (cons_car_cdr x)) ts
  of_kind DivMod ts None = by_quotient (λ ts o. RightIf o) nothing facts.div_mod (λ a k. said_unless (int_eq k (pos 0)) (facts.div_mod a k) (λ e. div_mod a k)) ts
  of_kind ModOfNonNegative ts None = by_quotient (λ ts o. RightIf o) nothing facts.mod_of_non_negative (λ a k. said_unless (int_eq k (pos 0)) (facts.mod_of_non_negative a k) (mod_of_non_negative a k)) ts
  of_kind ModOfNonPositive ts None = by_quotient (λ ts o. RightIf o) nothing facts.mod_of_non_positive (λ a k. said_unless (int_eq k (pos 0)) (facts.mod_of_non_positive a k) (mod_of_non_positive a k)) ts
  of_kind DivOfNumerals ts None = by_numerals (λ ts o. RightIf o) nothing facts.div_of_numerals (λ a k. said_unless (int_eq k (pos 0)) (facts.div_of_numerals a k) (λ e. div_of_numerals a k)) ts
  of_kind ModOfNumerals ts None = by_numerals (λ ts o. RightIf o) nothing facts.mod_of_numerals (λ a k. said_unless (int_eq k (pos 0)) (facts.mod_of_numerals a k) (λ e. mod_of_numerals a k)) ts
  of_kind FieldPutOther ts (Some g) = by_put_other (λ ts o. RightIf o) nothing g (λ f r w. said_unless (nat_eq g.0 f.0) (facts.field_put_other f r w g) (field_put_other f r w g)) ts
  of_kind _ ts (Some g) = nothing ts

  pub fact_true : (kind : SchemaKind) (ts : List Term) (field : Option Symbol) (fact : Term) → schema_fact shapes decls kind ts field ≡ Some fact → holds (answers shapes decls world) v fact ≡ true
  fact_true kind ts field fact h =
      let k = kept shapes decls (of_shape (term_sort shapes decls) kind ts field) fact h in
      of_kind kind ts field fact k.is k.sorted

  -- ---- lists of facts

  all_true : (instances : List SchemaInstance) → list_all (holds (answers shapes decls world) v) (filter_map (instance_fact shapes decls) instances) ≡ true
  all_true [] = refl
  all_true (i ∷ instances) = by_fact (instance_fact shapes decls i) refl (all_true instances)
    where
      by_fact : (o : Option Term) → instance_fact shapes decls i ≡ o → list_all (holds (answers shapes decls world) v) (filter_map (instance_fact shapes decls) instances) ≡ true
          → list_all (holds (answers shapes decls world) v) (cons_option o (filter_map (instance_fact shapes decls) instances)) ≡ true
      by_fact None e later = later
      by_fact (Some fact) e later = both_true (fact_true i.kind i.about i.field fact e) later

  pub listed_true : (used : List Term) → list_all (holds (answers shapes decls world) v) (schema_facts shapes decls used) ≡ true
  listed_true used = all_true (schemas shapes decls used)
