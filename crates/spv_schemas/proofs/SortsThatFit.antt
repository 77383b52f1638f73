-- A fact is a formula exactly where the sorts of its terms fit.
use Rattle.std.proofs.Common.{◌≡◌, Bool, true, false, cond, List, [], ◌∷◌, ℤ, pos, neg_ℤ, Option, Some, None, is_some, refl, sym, ap, ◌∙◌, nat_eq, if◌then◌else◌}
use Rattle.std.proofs.lemmas.Bool.{false≢true}
use Rattle.std.specs.Ordering.{int_eq}
use Rattle.spv_logic.specs.declared.names.names.Symbol.{Symbol}
use Rattle.spv_logic.specs.declared.types.TypeId.{TypeId}
use Rattle.spv_logic.specs.declared.types.Sort.{Sort}
use Rattle.spv_logic.specs.declared.types.Sort.TheVariants as sort
use Rattle.spv_logic.specs.declared.types.Shape.{Shape}
use Rattle.spv_logic.specs.declared.types.Decl.{Decl}
use Rattle.spv_logic.specs.declared.operators.Head.TheVariants as head
use Rattle.spv_logic.specs.Terms.{Term, sort_eq}
use Rattle.spv_logic.specs.Formulas.{negation, equation}
use Rattle.spv_logic.specs.Shapes.{fields_of, field_sort_of, pointer_sort, is_list, sort_of_type}
use Rattle.spv_logic.specs.Fits.{on_sort}
use Rattle.spv_logic.specs.Sorts.{term_sort}
use Rattle.spv_logic.proofs.Equality.{sort_eq-true, sort_eq-refl}
use Rattle.spv_schemas.specs.declared.kinds.SchemaKind.{SchemaKind}
use Rattle.spv_schemas.specs.declared.kinds.SchemaKind.TheVariants.{SelectStoreSame, SelectStoreOther, FieldPutSame, FieldPutOther, CellSetCellSame, CellSetCellOther, PointerToSetCell, CellExtendSame, CellExtendOther, PointerToExtend, PointerToNil, CarCons, CdrCons, AtomCons, ConsCarCdr, DivMod, ModOfNonNegative, ModOfNonPositive, DivOfNumerals, ModOfNumerals}
use Rattle.spv_schemas.specs.Facts as facts
use Rattle.spv_schemas.specs.Facts.{one, two, three, numeral, greatest, nil_of, of_shape, is_formula, if_formula}
use Rattle.spv_schemas.specs.SortsThatFit.{is_class, has_field, first_fits, two_fit, sorts_fit}
use Rattle.spv_schemas.proofs.Shapes.{by_store, by_put, by_put_other, by_set_cell, by_extend, by_one, by_cons, by_quotient, by_numerals}
use Rattle.spv_schemas.proofs.Sorts.{Sorted, of_negation, of_implication, of_equation, of_sum, of_select, of_store, of_field, of_put, of_cell, of_set_cell, of_extend, of_pointer_to, of_cons, of_atom, of_car, of_cdr, of_order}
use Rattle.spv_schemas.proofs.Sorted.{sorted_one, sorted_two, sorted_negation, sorted_implication, sorted_equation, sorted_select, sorted_field, sorted_cell, sorted_pointer_to}
use Rattle.spv_schemas.proofs.Soundness.{bool_told}

-- ---- tests on sorts

told_one : (o : Option Sort) (test : Sort → Bool) → on_sort o test ≡ true → (x : Sort) × (o ≡ Some x) × (test x ≡ true)
told_one None test h = absurd (false≢true h)
told_one (Some x) test h = (x, refl, h)

tell_one : (o : Option Sort) (test : Sort → Bool) (x : Sort) → o ≡ Some x → test x ≡ true → on_sort o test ≡ true
tell_one o test x e h = ap (λ p. on_sort p test) e ∙ h

told_two : (o p : Option Sort) (test : Sort → Sort → Bool) → on_sort o (λ x. on_sort p (test x)) ≡ true → (x : Sort) × (y : Sort) × (o ≡ Some x) × (p ≡ Some y) × (test x y ≡ true)
told_two None p test h = absurd (false≢true h)
told_two (Some x) None test h = absurd (false≢true h)
told_two (Some x) (Some y) test h = (x, y, refl, refl, h)

tell_two : (o p : Option Sort) (test : Sort → Sort → Bool) (x y : Sort) → o ≡ Some x → p ≡ Some y → test x y ≡ true → on_sort o (λ x. on_sort p (test x)) ≡ true
tell_two o p test x y e f h = ap (λ q. on_sort q (λ x. on_sort p (test x))) e ∙ (ap (λ q. on_sort q (test x)) f ∙ h)

list_is : (s : Sort) → is_list s ≡ true → s ≡ sort.List
list_is sort.List h = refl
list_is _ h = absurd (false≢true h)

class_is : (s : Sort) → is_class s ≡ true → (t : TypeId) × (s ≡ sort.Class t)
class_is (sort.Class t) h = (t, refl)
class_is _ h = absurd (false≢true h)

some_is : (o : Option Sort) → is_some o ≡ true → (s : Sort) × (o ≡ Some s)
some_is None h = absurd (false≢true h)
some_is (Some s) h = (s, refl)

-- ---- formulas and tests

module _ (shapes : List Shape) (decls : List Decl) where
  abbrev sort_of : Term → Option Sort
  sort_of t = term_sort shapes decls t

  abbrev IsSorted : Term → Sort → Type 0
  IsSorted t s = Sorted shapes decls t s

  -- a formula is well sorted exactly where a test says so
  record Agrees (t : Term) (b : Bool) : Type 0 where
    to : b ≡ true → Sorted shapes decls t sort.Bool
    from : Sorted shapes decls t sort.Bool → b ≡ true

  formula_is : (t : Term) (b : Bool) → Agrees t b → is_formula shapes decls t ≡ b
  formula_is t true a = ap (λ o. on_sort o (sort_eq sort.Bool)) (a.to refl)
  formula_is t false a = by_case (is_formula shapes decls t) refl
    where
      by_case : (c : Bool) → is_formula shapes decls t ≡ c → c ≡ false
      by_case true e = sym (a.from (bool_told (sort_of t) e))
      by_case false e = refl

  -- what is said of a shape's fact
  abbrev IsChosen : Bool → Option Term → Type 0
  IsChosen b o = if_formula shapes decls o ≡ (if b then o else None)

  nothing : (b : Bool) → IsChosen b None
  nothing true = refl
  nothing false = refl

  chosen : (t : Term) (b : Bool) → Agrees t b → IsChosen b (Some t)
  chosen t b a = ap (λ c. cond c (Some t) None) (formula_is t b a)

  chosen_unless : (z : Bool) (t : Term) (b : Bool) → Agrees t b → IsChosen b (if z then None else Some t)
  chosen_unless true t b a = nothing b
  chosen_unless false t b a = chosen t b a

  -- ---- arrays

  store_to : (a i w j : Term) → two_fit sort_of (λ s j. sort_eq sort.Int j) (three head.Store a i w ∷ j ∷ []) ≡ true
      → (s : Sort) × (e : Sort) × IsSorted (equation i j) sort.Bool × IsSorted (two head.Select (three head.Store a i w) j) e × IsSorted (two head.Select a j) e × IsSorted w e
  store_to a i w j h =
      let k = told_two (sort_of (three head.Store a i w)) (sort_of j) (λ s j. sort_eq sort.Int j) h in
      let q = of_store shapes decls a i w k.0 k.2 in
      let number : IsSorted j sort.Int = k.3 ∙ ap Some (sym (sort_eq-true sort.Int k.1 k.4)) in (
        k.0,
        q.0,
        sorted_equation shapes decls i j sort.Int q.3 number,
        sorted_select shapes decls (three head.Store a i w) j k.0 q.0 q.2 k.2 number,
        sorted_select shapes decls a j k.0 q.0 q.2 q.1 number,
        q.4,
      )

  select_from : (a i w j : Term) (s : Sort) → IsSorted (two head.Select (three head.Store a i w) j) s → two_fit sort_of (λ s j. sort_eq sort.Int j) (three head.Store a i w ∷ j ∷ []) ≡ true
  select_from a i w j s h =
      let r = of_select shapes decls (three head.Store a i w) j s h in
      tell_two (sort_of (three head.Store a i w)) (sort_of j) (λ s j. sort_eq sort.Int j) r.0 sort.Int r.1 r.2 refl

  select_store_same : (a i w j : Term) → Agrees (facts.select_store_same a i w j) (two_fit sort_of (λ s j. sort_eq sort.Int j) (three head.Store a i w ∷ j ∷ []))
  select_store_same a i w j = record {
    to = λ h. let k = store_to a i w j h in sorted_implication shapes decls (equation i j) (equation (two head.Select (three head.Store a i w) j) w) k.2 (sorted_equation shapes decls (two head.Select (three head.Store a i w) j) w k.1 k.3 k.5);
    from = λ h.
        let m = of_implication shapes decls (equation i j) (equation (two head.Select (three head.Store a i w) j) w) sort.Bool h in
        let e = of_equation shapes decls (two head.Select (three head.Store a i w) j) w sort.Bool m.1 in
        select_from a i w j e.0 e.1;
  }

  select_store_other : (a i w j : Term) → Agrees (facts.select_store_other a i w j) (two_fit sort_of (λ s j. sort_eq sort.Int j) (three head.Store a i w ∷ j ∷ []))
  select_store_other a i w j = record {
    to = λ h. let k = store_to a i w j h in sorted_implication shapes decls (negation (equation i j)) (equation (two head.Select (three head.Store a i w) j) (two head.Select a j)) (sorted_negation shapes decls (equation i j) k.2) (sorted_equation shapes decls (two head.Select (three head.Store a i w) j) (two head.Select a j) k.1 k.3 k.4);
    from = λ h.
        let m = of_implication shapes decls (negation (equation i j)) (equation (two head.Select (three head.Store a i w) j) (two head.Select a j)) sort.Bool h in
        let e = of_equation shapes decls (two head.Select (three head.Store a i w) j) (two head.Select a j) sort.Bool m.1 in
        select_from a i w j e.0 e.1;
  }

  -- ---- records

  field_put_same : (f : Symbol) (r w : Term) → Agrees (facts.field_put_same f r w) (first_fits sort_of (λ s. true) (two (head.Put f) r w ∷ []))
  field_put_same f r w = record {
    to = λ h.
        let k = told_one (sort_of (two (head.Put f) r w)) (λ s. true) h in
        let p = of_put shapes decls f r w k.0 k.1 in
        sorted_equation shapes decls (one (head.Field f) (two (head.Put f) r w)) w p.0 (sorted_field shapes decls f (two (head.Put f) r w) k.0 p.0 p.2 k.1) p.3;
    from = λ h.
        let e = of_equation shapes decls (one (head.Field f) (two (head.Put f) r w)) w sort.Bool h in
        let k = of_field shapes decls f (two (head.Put f) r w) e.0 e.1 in
        tell_one (sort_of (two (head.Put f) r w)) (λ s. true) k.0 k.2 refl;
  }

  field_put_other : (f : Symbol) (r w : Term) (g : Symbol) → Agrees (facts.field_put_other f r w g) (first_fits sort_of (has_field shapes (Some g)) (two (head.Put f) r w ∷ []))
  field_put_other f r w g = record {
    to = λ h.
        let k = told_one (sort_of (two (head.Put f) r w)) (has_field shapes (Some g)) h in
        let e = some_is (field_sort_of (fields_of shapes k.0) g.0) k.2 in
        let p = of_put shapes decls f r w k.0 k.1 in
        sorted_equation shapes decls (one (head.Field g) (two (head.Put f) r w)) (one (head.Field g) r) e.0 (sorted_field shapes decls g (two (head.Put f) r w) k.0 e.0 e.1 k.1) (sorted_field shapes decls g r k.0 e.0 e.1 p.1);
    from = λ h.
        let e = of_equation shapes decls (one (head.Field g) (two (head.Put f) r w)) (one (head.Field g) r) sort.Bool h in
        let k = of_field shapes decls g (two (head.Put f) r w) e.0 e.1 in
        tell_one (sort_of (two (head.Put f) r w)) (has_field shapes (Some g)) k.0 k.2 (ap is_some k.3);
  }

  -- ---- classes

  abbrev FitsClass : Term → Term → Bool
  FitsClass s q = two_fit sort_of (λ s q. sort_eq (pointer_sort s) q) (s ∷ q ∷ [])

  -- a changed class and its parts
  record Change (s c p w q : Term) : Type 0 where
    type : TypeId
    whole : Sorted shapes decls s (sort.Class type)
    class_sort : Sorted shapes decls c (sort.Class type)
    pointer : Sorted shapes decls p (sort.Ptr type)
    content : Sorted shapes decls w (sort_of_type shapes type)
    other : Sorted shapes decls q (sort.Ptr type)

  change_of : (s c p w q : Term) → ((x : Sort) → IsSorted s x → (t : TypeId) × (x ≡ sort.Class t) × IsSorted c (sort.Class t) × IsSorted p (sort.Ptr t) × IsSorted w (sort_of_type shapes t)) → FitsClass s q ≡ true → Change s c p w q
  change_of s c p w q parts h =
      let k = told_two (sort_of s) (sort_of q) (λ s q. sort_eq (pointer_sort s) q) h in
      let m = parts k.0 k.2 in
      record {
        type = m.0;
        whole = k.2 ∙ ap Some m.1;
        class_sort = m.2;
        pointer = m.3;
        content = m.4;
        other = k.3 ∙ ap Some (sym (sort_eq-true (sort.Ptr m.0) k.1 (ap (λ x. sort_eq (pointer_sort x) k.1) (sym m.1) ∙ k.4)));
      }

  set_cell_of : (c p w q : Term) → FitsClass (three head.SetCell c p w) q ≡ true → Change (three head.SetCell c p w) c p w q
  set_cell_of c p w q h = change_of (three head.SetCell c p w) c p w q (λ x e. of_set_cell shapes decls c p w x e) h

  extend_of : (c p w q : Term) → FitsClass (three head.Extend c p w) q ≡ true → Change (three head.Extend c p w) c p w q
  extend_of c p w q h = change_of (three head.Extend c p w) c p w q (λ x e. of_extend shapes decls c p w x e) h

  class_from : (s q : Term) (t : TypeId) → IsSorted s (sort.Class t) → IsSorted q (sort.Ptr t) → FitsClass s q ≡ true
  class_from s q t e f = tell_two (sort_of s) (sort_of q) (λ s q. sort_eq (pointer_sort s) q) (sort.Class t) (sort.Ptr t) e f (sort_eq-refl (sort.Ptr t))

  cell_from : (s q : Term) (x : Sort) → IsSorted (two head.Cell s q) x → FitsClass s q ≡ true
  cell_from s q x h = let r = of_cell shapes decls s q x h in class_from s q r.0 r.1 r.2

  member_from : (s q : Term) (x : Sort) → IsSorted (two head.PointerTo q s) x → FitsClass s q ≡ true
  member_from s q x h = let r = of_pointer_to shapes decls q s x h in class_from s q r.0 r.2 r.1

  same_content : (s c p w q : Term) → (FitsClass s q ≡ true → Change s c p w q) → Agrees (two head.Implies (equation p q) (equation (two head.Cell s q) w)) (FitsClass s q)
  same_content s c p w q change = record {
    to = λ h.
        let k = change h in
        sorted_implication shapes decls (equation p q) (equation (two head.Cell s q) w) (sorted_equation shapes decls p q (sort.Ptr k.type) k.pointer k.other)
        (sorted_equation shapes decls (two head.Cell s q) w (sort_of_type shapes k.type) (sorted_cell shapes decls s q k.type k.whole k.other) k.content);
    from = λ h.
        let m = of_implication shapes decls (equation p q) (equation (two head.Cell s q) w) sort.Bool h in
        let e = of_equation shapes decls (two head.Cell s q) w sort.Bool m.1 in
        cell_from s q e.0 e.1;
  }

  other_content : (s c p w q : Term) → (FitsClass s q ≡ true → Change s c p w q) → Agrees (two head.Implies (negation (equation p q)) (equation (two head.Cell s q) (two head.Cell c q))) (FitsClass s q)
  other_content s c p w q change = record {
    to = λ h.
        let k = change h in
        sorted_implication shapes decls (negation (equation p q)) (equation (two head.Cell s q) (two head.Cell c q)) (sorted_negation shapes decls (equation p q) (sorted_equation shapes decls p q (sort.Ptr k.type) k.pointer k.other))
        (sorted_equation shapes decls (two head.Cell s q) (two head.Cell c q) (sort_of_type shapes k.type) (sorted_cell shapes decls s q k.type k.whole k.other) (sorted_cell shapes decls c q k.type k.class_sort k.other));
    from = λ h.
        let m = of_implication shapes decls (negation (equation p q)) (equation (two head.Cell s q) (two head.Cell c q)) sort.Bool h in
        let e = of_equation shapes decls (two head.Cell s q) (two head.Cell c q) sort.Bool m.1 in
        cell_from s q e.0 e.1;
  }

  pointer_to_set_cell : (c p w q : Term) → Agrees (facts.pointer_to_set_cell c p w q) (FitsClass (three head.SetCell c p w) q)
  pointer_to_set_cell c p w q = record {
    to = λ h.
        let k = set_cell_of c p w q h in
        sorted_equation shapes decls (two head.PointerTo q (three head.SetCell c p w)) (two head.PointerTo q c) sort.Bool
        (sorted_pointer_to shapes decls q (three head.SetCell c p w) k.type k.other k.whole) (sorted_pointer_to shapes decls q c k.type k.other k.class_sort);
    from = λ h.
        let e = of_equation shapes decls (two head.PointerTo q (three head.SetCell c p w)) (two head.PointerTo q c) sort.Bool h in
        member_from (three head.SetCell c p w) q e.0 e.1;
  }

  -- NIL of a class is one of its pointers
  nil_sorted : (c : Term) (t : TypeId) → IsSorted c (sort.Class t) → IsSorted (nil_of (sort_of c)) (sort.Ptr t)
  nil_sorted c t e = ap (λ o. sort_of (nil_of o)) e

  pointer_to_extend : (c p w q : Term) → Agrees (facts.pointer_to_extend (nil_of (sort_of c)) c p w q) (FitsClass (three head.Extend c p w) q)
  pointer_to_extend c p w q = record {
    to = λ h.
        let k = extend_of c p w q h in
        sorted_implication shapes decls (negation (equation p (nil_of (sort_of c)))) (equation (two head.PointerTo q (three head.Extend c p w)) (two head.Or (equation p q) (two head.PointerTo q c)))
        (sorted_negation shapes decls (equation p (nil_of (sort_of c))) (sorted_equation shapes decls p (nil_of (sort_of c)) (sort.Ptr k.type) k.pointer (nil_sorted c k.type k.class_sort)))
        (sorted_equation shapes decls (two head.PointerTo q (three head.Extend c p w)) (two head.Or (equation p q) (two head.PointerTo q c)) sort.Bool
        (sorted_pointer_to shapes decls q (three head.Extend c p w) k.type k.other k.whole)
        (sorted_two shapes decls head.Or (equation p q) (two head.PointerTo q c) sort.Bool sort.Bool sort.Bool
        (sorted_equation shapes decls p q (sort.Ptr k.type) k.pointer k.other) (sorted_pointer_to shapes decls q c k.type k.other k.class_sort) refl));
    from = λ h.
        let m = of_implication shapes decls (negation (equation p (nil_of (sort_of c)))) (equation (two head.PointerTo q (three head.Extend c p w)) (two head.Or (equation p q) (two head.PointerTo q c))) sort.Bool h in
        let e = of_equation shapes decls (two head.PointerTo q (three head.Extend c p w)) (two head.Or (equation p q) (two head.PointerTo q c)) sort.Bool m.1 in
        member_from (three head.Extend c p w) q e.0 e.1;
  }

  pointer_to_nil : (c : Term) → Agrees (facts.pointer_to_nil (nil_of (sort_of c)) c) (first_fits sort_of is_class (c ∷ []))
  pointer_to_nil c = record {
    to = λ h.
        let k = told_one (sort_of c) is_class h in
        let t = class_is k.0 k.2 in
        let told : IsSorted c (sort.Class t.0) = k.1 ∙ ap Some t.1 in
        sorted_negation shapes decls (two head.PointerTo (nil_of (sort_of c)) c) (sorted_pointer_to shapes decls (nil_of (sort_of c)) c t.0 (nil_sorted c t.0 told) told);
    from = λ h.
        let r = of_pointer_to shapes decls (nil_of (sort_of c)) c sort.Bool (of_negation shapes decls (two head.PointerTo (nil_of (sort_of c)) c) sort.Bool h) in
        tell_one (sort_of c) is_class (sort.Class r.0) r.2 refl;
  }

  -- ---- lists

  abbrev IsThere : Term → Bool
  IsThere s = first_fits sort_of (λ s. true) (s ∷ [])

  -- a pair and its parts
  pair_to : (x y : Term) → IsThere (two head.Cons x y) ≡ true → IsSorted (two head.Cons x y) sort.List × IsSorted x sort.List × IsSorted y sort.List
  pair_to x y h =
      let k = told_one (sort_of (two head.Cons x y)) (λ s. true) h in
      let p = of_cons shapes decls x y k.0 k.1 in
      (k.1 ∙ ap Some p.0, p.1, p.2)

  pair_from : (s : Term) → IsSorted s sort.List → IsThere s ≡ true
  pair_from s e = tell_one (sort_of s) (λ s. true) sort.List e refl

  car_cons : (x y : Term) → Agrees (facts.car_cons x y) (IsThere (two head.Cons x y))
  car_cons x y = record {
    to = λ h. let k = pair_to x y h in sorted_equation shapes decls (one head.Car (two head.Cons x y)) x sort.List (sorted_one shapes decls head.Car (two head.Cons x y) sort.List sort.List k.0 refl) k.1;
    from = λ h. let e = of_equation shapes decls (one head.Car (two head.Cons x y)) x sort.Bool h in pair_from (two head.Cons x y) (of_car shapes decls (two head.Cons x y) e.0 e.1);
  }

  cdr_cons : (x y : Term) → Agrees (facts.cdr_cons x y) (IsThere (two head.Cons x y))
  cdr_cons x y = record {
    to = λ h. let k = pair_to x y h in sorted_equation shapes decls (one head.Cdr (two head.Cons x y)) y sort.List (sorted_one shapes decls head.Cdr (two head.Cons x y) sort.List sort.List k.0 refl) k.2;
    from = λ h. let e = of_equation shapes decls (one head.Cdr (two head.Cons x y)) y sort.Bool h in pair_from (two head.Cons x y) (of_cdr shapes decls (two head.Cons x y) e.0 e.1);
  }

  atom_cons : (x y : Term) → Agrees (facts.atom_cons x y) (IsThere (two head.Cons x y))
  atom_cons x y = record {
    to = λ h. let k = pair_to x y h in sorted_negation shapes decls (one head.Atom (two head.Cons x y)) (sorted_one shapes decls head.Atom (two head.Cons x y) sort.List sort.Bool k.0 refl);
    from = λ h. pair_from (two head.Cons x y) (of_atom shapes decls (two head.Cons x y) sort.Bool (of_negation shapes decls (one head.Atom (two head.Cons x y)) sort.Bool h));
  }

  cons_car_cdr : (x : Term) → Agrees (facts.cons_car_cdr x) (first_fits sort_of is_list (x ∷ []))
  cons_car_cdr x = record {
    to = λ h.
        let k = told_one (sort_of x) is_list h in
        let told : IsSorted x sort.List = k.1 ∙ ap Some (list_is k.0 k.2) in
        sorted_implication shapes decls (negation (one head.Atom x)) (equation (two head.Cons (one head.Car x) (one head.Cdr x)) x)
        (sorted_negation shapes decls (one head.Atom x) (sorted_one shapes decls head.Atom x sort.List sort.Bool told refl))
        (sorted_equation shapes decls (two head.Cons (one head.Car x) (one head.Cdr x)) x sort.List
        (sorted_two shapes decls head.Cons (one head.Car x) (one head.Cdr x) sort.List sort.List sort.List (sorted_one shapes decls head.Car x sort.List sort.List told refl) (sorted_one shapes decls head.Cdr x sort.List sort.List told refl) refl) told);
    from = λ h.
        let m = of_implication shapes decls (negation (one head.Atom x)) (equation (two head.Cons (one head.Car x) (one head.Cdr x)) x) sort.Bool h in
        tell_one (sort_of x) is_list sort.List (of_atom shapes decls x sort.Bool (of_negation shapes decls (one head.Atom x) sort.Bool m.0)) refl;
  }

  -- ---- quotients

  abbrev IsNumber : Term → ℤ → Bool
  IsNumber a k = first_fits sort_of (sort_eq sort.Int) (a ∷ numeral k ∷ [])

  number_to : (a : Term) (k : ℤ) → IsNumber a k ≡ true → IsSorted a sort.Int
  number_to a k h = let p = told_one (sort_of a) (sort_eq sort.Int) h in p.1 ∙ ap Some (sym (sort_eq-true sort.Int p.0 p.2))

  number_from : (a : Term) (k : ℤ) → IsSorted a sort.Int → IsNumber a k ≡ true
  number_from a k e = tell_one (sort_of a) (sort_eq sort.Int) sort.Int e refl

  order_sorted : (a b : Term) → IsSorted a sort.Int → IsSorted b sort.Int → IsSorted (two head.Le a b) sort.Bool
  order_sorted a b e f = sorted_two shapes decls head.Le a b sort.Int sort.Int sort.Bool e f refl

  mod_sorted : (a : Term) (k : ℤ) → IsSorted a sort.Int → IsSorted (two head.Mod a (numeral k)) sort.Int
  mod_sorted a k e = sorted_two shapes decls head.Mod a (numeral k) sort.Int sort.Int sort.Int e refl refl

  between_sorted : (low high : ℤ) (t : Term) → IsSorted t sort.Int → IsSorted (facts.between (numeral low) t (numeral high)) sort.Bool
  between_sorted low high t e =
      sorted_two shapes decls head.And (two head.Le (numeral low) t) (two head.Le t (numeral high)) sort.Bool sort.Bool sort.Bool (order_sorted (numeral low) t refl e) (order_sorted t (numeral high) e refl) refl

  div_mod : (a : Term) (k : ℤ) → Agrees (facts.div_mod a k) (IsNumber a k)
  div_mod a k = record {
    to = λ h.
        let e = number_to a k h in
        let divided = sorted_two shapes decls head.Div a (numeral k) sort.Int sort.Int sort.Int e refl refl in
        let product = sorted_two shapes decls head.Mul (numeral k) (two head.Div a (numeral k)) sort.Int sort.Int sort.Int refl divided refl in
        let whole = two head.Add (two head.Mul (numeral k) (two head.Div a (numeral k))) (two head.Mod a (numeral k)) in
        sorted_equation shapes decls a whole sort.Int e (sorted_two shapes decls head.Add (two head.Mul (numeral k) (two head.Div a (numeral k))) (two head.Mod a (numeral k)) sort.Int sort.Int sort.Int product (mod_sorted a k e) refl);
    from = λ h.
        let e = of_equation shapes decls a (two head.Add (two head.Mul (numeral k) (two head.Div a (numeral k))) (two head.Mod a (numeral k))) sort.Bool h in
        number_from a k (e.1 ∙ ap Some (of_sum shapes decls (two head.Mul (numeral k) (two head.Div a (numeral k))) (two head.Mod a (numeral k)) e.0 e.2));
  }

  mod_of_non_negative : (a : Term) (k : ℤ) → Agrees (facts.mod_of_non_negative a k) (IsNumber a k)
  mod_of_non_negative a k = record {
    to = λ h. let e = number_to a k h in sorted_implication shapes decls (two head.Le (numeral (pos 0)) a) (facts.between (numeral (pos 0)) (two head.Mod a (numeral k)) (numeral (greatest k))) (order_sorted (numeral (pos 0)) a refl e) (between_sorted (pos 0) (greatest k) (two head.Mod a (numeral k)) (mod_sorted a k e));
    from = λ h.
        let m = of_implication shapes decls (two head.Le (numeral (pos 0)) a) (facts.between (numeral (pos 0)) (two head.Mod a (numeral k)) (numeral (greatest k))) sort.Bool h in
        number_from a k (of_order shapes decls (numeral (pos 0)) a sort.Bool m.0).1;
  }

  mod_of_non_positive : (a : Term) (k : ℤ) → Agrees (facts.mod_of_non_positive a k) (IsNumber a k)
  mod_of_non_positive a k = record {
    to = λ h. let e = number_to a k h in sorted_implication shapes decls (two head.Le a (numeral (pos 0))) (facts.between (numeral (neg_ℤ (greatest k))) (two head.Mod a (numeral k)) (numeral (pos 0))) (order_sorted a (numeral (pos 0)) e refl) (between_sorted (neg_ℤ (greatest k)) (pos 0) (two head.Mod a (numeral k)) (mod_sorted a k e));
    from = λ h.
        let m = of_implication shapes decls (two head.Le a (numeral (pos 0))) (facts.between (numeral (neg_ℤ (greatest k))) (two head.Mod a (numeral k)) (numeral (pos 0))) sort.Bool h in
        number_from a k (of_order shapes decls a (numeral (pos 0)) sort.Bool m.0).0;
  }

  numerals : (t : Term) → IsSorted t sort.Bool → Agrees t true
  numerals t e = record { to = λ h. e; from = λ h. refl }

  -- ---- each kind

  abbrev Fits : SchemaKind → Option Symbol → List Term → Option Term → Type 0
  Fits kind field ts o = IsChosen (sorts_fit shapes sort_of kind ts field) o

  none : (kind : SchemaKind) (field : Option Symbol) (ts : List Term) → Fits kind field ts None
  none kind field ts = nothing (sorts_fit shapes sort_of kind ts field)

  pub fits_exactly : (kind : SchemaKind) (ts : List Term) (field : Option Symbol) → Fits kind field ts (of_shape sort_of kind ts field)
  fits_exactly SelectStoreSame ts None = by_store (Fits SelectStoreSame None) (none SelectStoreSame None) facts.select_store_same (λ a i w j. chosen _ _ (select_store_same a i w j)) ts
  fits_exactly SelectStoreOther ts None = by_store (Fits SelectStoreOther None) (none SelectStoreOther None) facts.select_store_other (λ a i w j. chosen _ _ (select_store_other a i w j)) ts
  fits_exactly FieldPutSame ts None = by_put (Fits FieldPutSame None) (none FieldPutSame None) (λ f r w. chosen _ _ (field_put_same f r w)) ts
  fits_exactly FieldPutOther ts None = none FieldPutOther None ts
  fits_exactly CellSetCellSame ts None =
      by_set_cell (Fits CellSetCellSame None) (none CellSetCellSame None) (facts.cell_same head.SetCell) (λ c p w q. chosen _ _ (same_content (three head.SetCell c p w) c p w q (set_cell_of c p w q))) ts
  fits_exactly CellSetCellOther ts None =
      by_set_cell (Fits CellSetCellOther None) (none CellSetCellOther None) (facts.cell_other head.SetCell) (λ c p w q. chosen _ _ (other_content (three head.SetCell c p w) c p w q (set_cell_of c p w q))) ts
  fits_exactly PointerToSetCell ts None = by_set_cell (Fits PointerToSetCell None) (none PointerToSetCell None) facts.pointer_to_set_cell (λ c p w q. chosen _ _ (pointer_to_set_cell c p w q)) ts
  fits_exactly CellExtendSame ts None =
      by_extend (Fits CellExtendSame None) (none CellExtendSame None) (facts.cell_same head.Extend) (λ c p w q. chosen _ _ (same_content (three head.Extend c p w) c p w q (extend_of c p w q))) ts
  fits_exactly CellExtendOther ts None =
      by_extend (Fits CellExtendOther None) (none CellExtendOther None) (facts.cell_other head.Extend) (λ c p w q. chosen _ _ (other_content (three head.Extend c p w) c p w q (extend_of c p w q))) ts
  fits_exactly PointerToExtend ts None =
      by_extend (Fits PointerToExtend None) (none PointerToExtend None) (λ c p w q. facts.pointer_to_extend (nil_of (sort_of c)) c p w q) (λ c p w q. chosen _ _ (pointer_to_extend c p w q)) ts
  fits_exactly PointerToNil ts None = by_one (Fits PointerToNil None) (none PointerToNil None) (λ c. facts.pointer_to_nil (nil_of (sort_of c)) c) (λ c. chosen _ _ (pointer_to_nil c)) ts
  fits_exactly CarCons ts None = by_cons (Fits CarCons None) (none CarCons None) facts.car_cons (λ x y. chosen _ _ (car_cons x y)) ts
  fits_exactly CdrCons ts None = by_cons (Fits CdrCons None) (none CdrCons None) facts.cdr_cons (λ x y. chosen _ _ (cdr_cons x y)) ts
  fits_exactly AtomCons ts None = by_cons (Fits AtomCons None) (none AtomCons None) facts.atom_cons (λ x y. chosen _ _ (atom_cons x y)) ts
  fits_exactly ConsCarCdr ts None = by_one (Fits ConsCarCdr None) (none ConsCarCdr None) facts.cons_car_cdr (λ x. chosen _ _ (cons_car_cdr x)) ts
  fits_exactly DivMod ts None = by_quotient (Fits DivMod None) (none DivMod None) facts.div_mod (λ a k. chosen_unless (int_eq k (pos 0)) _ _ (div_mod a k)) ts
  fits_exactly ModOfNonNegative ts None =
      by_quotient (Fits ModOfNonNegative None) (none ModOfNonNegative None) facts.mod_of_non_negative (λ a k. chosen_unless (int_eq k (pos 0)) _ _ (mod_of_non_negative a k)) ts
  fits_exactly ModOfNonPositive ts None =
      by_quotient (Fits ModOfNonPositive None) (none ModOfNonPositive None) facts.mod_of_non_positive (λ a k. chosen_unless (int_eq k (pos 0)) _ _ (mod_of_non_positive a k)) ts
  fits_exactly DivOfNumerals ts None =
      by_numerals (Fits DivOfNumerals None) (none DivOfNumerals None) facts.div_of_numerals (λ a k. chosen_unless (int_eq k (pos 0)) _ _ (numerals (facts.div_of_numerals a k) refl)) ts
  fits_exactly ModOfNumerals ts None =
      by_numerals (Fits ModOfNumerals None) (none ModOfNumerals None) facts.mod_of_numerals (λ a k. chosen_unless (int_eq k (pos 0)) _ _ (numerals (facts.mod_of_numerals a k) refl)) ts
  fits_exactly FieldPutOther ts (Some g) = by_put_other (Fits FieldPutOther (Some g)) (none FieldPutOther (Some g)) g (λ f r w. chosen_unless (nat_eq g.0 f.0) _ _ (field_put_other f r w g)) ts
  fits_exactly kind ts (Some g) = none kind (Some g) ts
