-- No instance is listed twice.
use Rattle.std.proofs.Common.{◌≡◌, ◌⊎◌, ℕ, zero, suc, Bool, true, false, cond, ◌&&◌, ◌||◌, not, List, [], ◌∷◌, ◌++◌, map, Option, Some, None, inl, inr, refl, sym, ap, ◌∙◌, subst, nat_eq, nat_lt, arith}
use Rattle.std.proofs.lemmas.Bool.{false≢true, eq-eqb}
use Rattle.std.proofs.lemmas.Bool.Decides.{nat_tests}
use Rattle.std.specs.Prelude.{slice_get, is_some}
use Rattle.std.specs.List.{list_any, filter, flat_map}
use Rattle.spv_logic.proofs.list.Tests.{left_true, right_true}
use Rattle.spv_logic.specs.declared.names.names.Symbol.{Symbol}
use Rattle.spv_logic.specs.declared.types.Sort.{Sort}
use Rattle.spv_logic.specs.declared.types.Sort.TheVariants as sort
use Rattle.spv_logic.specs.declared.types.Field.{Field}
use Rattle.spv_logic.specs.declared.types.Shape.{Shape}
use Rattle.spv_logic.specs.declared.types.Shape.TheVariants as shape
use Rattle.spv_logic.specs.declared.types.Decl.{Decl}
use Rattle.spv_logic.specs.Terms.{Term}
use Rattle.spv_logic.specs.Shapes.{shape_at, fields_of_shape, names_differ, shape_ok, shapes_ok}
use Rattle.spv_logic.specs.Sorts.{term_sort}
use Rattle.spv_logic.proofs.Ranges.{shape_ok-at}
use Rattle.spv_schemas.specs.declared.kinds.SchemaKind.{SchemaKind}
use Rattle.spv_schemas.specs.declared.kinds.SchemaKind.TheVariants.{SelectStoreSame, SelectStoreOther, FieldPutSame, FieldPutOther, CellSetCellSame, CellSetCellOther, PointerToSetCell, CellExtendSame, CellExtendOther, PointerToExtend, PointerToNil, CarCons, CdrCons, AtomCons, ConsCarCdr, DivMod, ModOfNonNegative, ModOfNonPositive, DivOfNumerals, ModOfNumerals}
use Rattle.spv_schemas.specs.Kinds.{kinds, number_of_kind}
use Rattle.spv_schemas.specs.Instances.{SchemaInstance, instance_fact, is_any, each, pairs, subjects, named, names_in, fields_for, instances_of, schemas}
use Rattle.spv_schemas.specs.Laws.{IsOnce}

-- ---- lists

abbrev In : {T : Type 0} → T → List T → Type 0
In z [] = ⊥
In z (x ∷ xs) = (z ≡ x) ⊎ In z xs

abbrev Once : {T : Type 0} → List T → Type 0
Once [] = Unit {0}
Once (x ∷ xs) = (In x xs → ⊥) × Once xs

at_in : {T : Type 0} (xs : List T) (i : ℕ) (x : T) → slice_get xs i ≡ Some x → In x xs
at_in [] i x e = absurd (cc)
at_in (y ∷ ys) zero x e = inl (cc)
at_in (y ∷ ys) (suc i) x e = inr (at_in ys i x e)

place_of : {T : Type 0} (xs : List T) (x : T) → In x xs → (i : ℕ) × (slice_get xs i ≡ Some x)
place_of [] x m = absurd m
place_of (y ∷ ys) x (inl e) = (zero, ap Some (sym e))
place_of (y ∷ ys) x (inr m) = let p = place_of ys x m in (suc p.0, p.1)

pub once_at : {T : Type 0} (xs : List T) → Once xs → IsOnce xs
once_at [] once i j x e f = absurd (cc)
once_at (y ∷ ys) once zero zero x e f = refl
once_at (y ∷ ys) once zero (suc j) x e f = let same : y ≡ x = cc in absurd (once.0 (subst (λ z. In z ys) (sym same) (at_in ys j x f)))
once_at (y ∷ ys) once (suc i) zero x e f = let same : y ≡ x = cc in absurd (once.0 (subst (λ z. In z ys) (sym same) (at_in ys i x e)))
once_at (y ∷ ys) once (suc i) (suc j) x e f = ap suc (once_at ys once.1 i j x e f)

pub at_once : {T : Type 0} (xs : List T) → IsOnce xs → Once xs
at_once [] h = tt
at_once (x ∷ xs) h = (
  λ m. let p = place_of xs x m in let no : zero ≡ suc p.0 = h zero (suc p.0) x refl p.1 in omega arith,
  at_once xs (λ i j y e f. let more : suc i ≡ suc j = h (suc i) (suc j) y e f in omega arith),
)

in_map : {S T : Type 0} (f : S → T) (xs : List S) (z : T) → In z (map f xs) → (x : S) × In x xs × (z ≡ f x)
in_map f [] z m = absurd m
in_map f (x ∷ xs) z (inl e) = (x, inl refl, e)
in_map f (x ∷ xs) z (inr m) = let p = in_map f xs z m in (p.0, inr p.1, p.2)

once_map : {S T : Type 0} (f : S → T) → ((x y : S) → f x ≡ f y → x ≡ y) → (xs : List S) → Once xs → Once (map f xs)
once_map f apart [] once = tt
once_map f apart (x ∷ xs) once = (
  λ m. let p = in_map f xs (f x) m in once.0 (subst (λ y. In y xs) (sym (apart x p.0 p.2)) p.1),
  once_map f apart xs once.1,
)

in_filter : {T : Type 0} (test : T → Bool) (xs : List T) (z : T) → In z (filter test xs) → In z xs
in_filter test [] z m = m
in_filter test (x ∷ xs) z m = by_test (test x) m (in_filter test xs z)
  where
    by_test : (b : Bool) → In z (cond b (x ∷ filter test xs) (filter test xs)) → (In z (filter test xs) → In z xs) → In z (x ∷ xs)
    by_test true (inl e) later = inl e
    by_test true (inr k) later = inr (later k)
    by_test false k later = inr (later k)

once_filter : {T : Type 0} (test : T → Bool) (xs : List T) → Once xs → Once (filter test xs)
once_filter test [] once = tt
once_filter test (x ∷ xs) once = by_test (test x) (once_filter test xs once.1)
  where
    by_test : (b : Bool) → Once (filter test xs) → Once (cond b (x ∷ filter test xs) (filter test xs))
    by_test true later = (λ m. once.0 (in_filter test xs x m), later)
    by_test false later = later

in_append : {T : Type 0} (xs ys : List T) (z : T) → In z (xs ++ ys) → In z xs ⊎ In z ys
in_append [] ys z m = inr m
in_append (x ∷ xs) ys z (inl e) = inl (inl e)
in_append (x ∷ xs) ys z (inr m) = elim (in_append xs ys z m) [ inl k ↦ inl (inr k) | inr k ↦ inr k ]

once_append : {T : Type 0} (xs ys : List T) → Once xs → Once ys → ((z : T) → In z xs → In z ys → ⊥) → Once (xs ++ ys)
once_append [] ys first second apart = second
once_append (x ∷ xs) ys first second apart = (
  λ m. elim (in_append xs ys x m) [ inl k ↦ first.0 k | inr k ↦ apart x (inl refl) k ],
  once_append xs ys first.1 second (λ z k l. apart z (inr k) l),
)

-- what has a list with an element of it
abbrev Has : {S T : Type 0} → (S → List T) → List S → T → Type 0
Has {S} f xs z = (x : S) × In x xs × In z (f x)

in_flat_map : {S T : Type 0} (f : S → List T) (xs : List S) (z : T) → In z (flat_map f xs) → Has f xs z
in_flat_map f [] z m = absurd m
in_flat_map f (x ∷ xs) z m = by_part (in_append (f x) (flat_map f xs) z m) (in_flat_map f xs z)
  where
    by_part : In z (f x) ⊎ In z (flat_map f xs) → (In z (flat_map f xs) → Has f xs z) → Has f (x ∷ xs) z
    by_part (inl k) later = (x, inl refl, k)
    by_part (inr k) later = let p = later k in (p.0, inr p.1, p.2)

-- lists that have nothing in common, each once
once_flat_map : {S T : Type 0} (f : S → List T) → ((x y : S) (z : T) → In z (f x) → In z (f y) → x ≡ y) → ((x : S) → Once (f x)) → (xs : List S) → Once xs → Once (flat_map f xs)
once_flat_map f apart inner [] once = tt
once_flat_map f apart inner (x ∷ xs) once =
    once_append (f x) (flat_map f xs) (inner x) (once_flat_map f apart inner xs once.1)
    (λ z k l. let p = in_flat_map f xs z l in once.0 (subst (λ y. In y xs) (sym (apart x p.0 z k p.2)) p.1))

-- ---- kinds

abbrev ascend_after : ℕ → List SchemaKind → Bool
ascend_after n [] = true
ascend_after n (k ∷ ks) = nat_lt n (number_of_kind k) && ascend_after (number_of_kind k) ks

is_above : (n m o : ℕ) → nat_lt n m ≡ true → nat_lt m o ≡ true → nat_lt n o ≡ true
is_above n m o h g = grind (arith, nat_tests)

in_above : (ks : List SchemaKind) (n : ℕ) (k : SchemaKind) → ascend_after n ks ≡ true → In k ks → nat_lt n (number_of_kind k) ≡ true
in_above [] n k h m = absurd m
in_above (l ∷ ks) n k h (inl e) = ap (λ x. nat_lt n (number_of_kind x)) e ∙ left_true _ _ h
in_above (l ∷ ks) n k h (inr m) = is_above n (number_of_kind l) (number_of_kind k) (left_true _ _ h) (in_above ks (number_of_kind l) k (right_true (nat_lt n (number_of_kind l)) _ h) m)

not_above : (n : ℕ) → nat_lt n n ≡ true → ⊥
not_above n h = grind (arith, nat_tests)

once_ascending : (ks : List SchemaKind) (n : ℕ) → ascend_after n ks ≡ true → Once ks
once_ascending [] n h = tt
once_ascending (k ∷ ks) n h =
    let later = right_true (nat_lt n (number_of_kind k)) _ h in
    (λ m. not_above (number_of_kind k) (in_above ks (number_of_kind k) k later m), once_ascending ks (number_of_kind k) later)

-- ---- fields

any_in : (test : Field → Bool) (fields : List Field) (f : Field) → In f fields → test f ≡ true → list_any test fields ≡ true
any_in test [] f m h = absurd m
any_in test (g ∷ fields) f (inl e) h = ap (λ b. b || list_any test fields) (ap test (sym e) ∙ h)
any_in test (g ∷ fields) f (inr m) h = by_first (test g) (any_in test fields f m h)
  where
    by_first : (b : Bool) → list_any test fields ≡ true → (b || list_any test fields) ≡ true
    by_first true later = refl
    by_first false later = later

once_names : (fields : List Field) → names_differ fields ≡ true → Once (map (λ f. Some f.name) fields)
once_names [] h = tt
once_names (f ∷ fields) h = (
  λ m. twice (in_map (λ g. Some g.name) fields (Some f.name) m),
  once_names fields (right_true (not (list_any (λ g. nat_eq f.name.0 g.name.0) fields)) _ h),
)
  where
    twice : (g : Field) × In g fields × (Some f.name ≡ Some g.name) → ⊥
    twice p =
        let same : f.name ≡ p.0.name = cc in
        let there = any_in (λ g. nat_eq f.name.0 g.name.0) fields p.0 p.1 (eq-eqb f.name.0 p.0.name.0 (ap (λ n. n.0) same)) in
        false≢true (sym (ap not there) ∙ left_true _ _ h)

once_in_shape : (shapes : List Shape) (s : Shape) → shape_ok shapes s ≡ true → Once (named (fields_of_shape s))
once_in_shape shapes (shape.Record fields) h = once_names fields (right_true _ _ h)
once_in_shape shapes (shape.Array e) h = tt
once_in_shape shapes _ h = tt

once_in_sort : (shapes : List Shape) → shapes_ok shapes ≡ true → (o : Option Sort) → Once (names_in shapes o)
once_in_sort shapes ok None = tt
once_in_sort shapes ok (Some (sort.Whole t)) = once_in_shape shapes (shape_at shapes t.0) (shape_ok-at shapes shapes t.0 (left_true _ _ ok))
once_in_sort shapes ok (Some _) = tt

alone : (field : Option Symbol) → Once (field ∷ [])
alone field = (λ m. m, tt)

once_fields : (shapes : List Shape) → shapes_ok shapes ≡ true → (sorts : Term → Option Sort) (kind : SchemaKind) (ts : List Term) → Once (fields_for shapes sorts kind ts)
once_fields shapes ok sorts FieldPutOther [] = tt
once_fields shapes ok sorts FieldPutOther (s ∷ ts) = once_in_sort shapes ok (sorts s)
once_fields shapes ok sorts _ ts = alone None

-- ---- used terms

once_each : (used : List Term) (test : Term → Bool) → Once used → Once (each used test)
once_each used test once = once_map (λ t. t ∷ []) (λ x y e. cc) (filter test used) (once_filter test used once)

once_pairs : (used : List Term) (test : Term → Term → Bool) → Once used → Once (pairs used test)
once_pairs used test once =
    once_flat_map (λ s. map (λ t. s ∷ t ∷ []) (filter (test s) used)) first_same
    (λ s. once_map (λ t. s ∷ t ∷ []) (λ x y e. cc) (filter (test s) used) (once_filter (test s) used once)) used once
  where
    first_same : (x y : Term) (z : List Term) → In z (map (λ t. x ∷ t ∷ []) (filter (test x) used)) → In z (map (λ t. y ∷ t ∷ []) (filter (test y) used)) → x ≡ y
    first_same x y z m n =
        let p = in_map (λ t. x ∷ t ∷ []) (filter (test x) used) z m in
        let q = in_map (λ t. y ∷ t ∷ []) (filter (test y) used) z n in
        same p.0 q.0 (sym p.2 ∙ q.2)
      where
        same : (t u : Term) → (x ∷ t ∷ []) ≡ (y ∷ u ∷ []) → x ≡ y
        same t u e = cc

once_subjects : (sorts : Term → Option Sort) (used : List Term) → Once used → (kind : SchemaKind) → Once (subjects sorts used kind)
once_subjects sorts used once SelectStoreSame = once_pairs used _ once
once_subjects sorts used once SelectStoreOther = once_pairs used _ once
once_subjects sorts used once FieldPutSame = once_each used is_any once
once_subjects sorts used once FieldPutOther = once_each used is_any once
once_subjects sorts used once CellSetCellSame = once_pairs used _ once
once_subjects sorts used once CellSetCellOther = once_pairs used _ once
once_subjects sorts used once PointerToSetCell = once_pairs used _ once
once_subjects sorts used once CellExtendSame = once_pairs used _ once
once_subjects sorts used once CellExtendOther = once_pairs used _ once
once_subjects sorts used once PointerToExtend = once_pairs used _ once
once_subjects sorts used once PointerToNil = once_each used is_any once
once_subjects sorts used once CarCons = once_each used is_any once
once_subjects sorts used once CdrCons = once_each used is_any once
once_subjects sorts used once AtomCons = once_each used is_any once
once_subjects sorts used once ConsCarCdr = once_each used _ once
once_subjects sorts used once DivMod = once_pairs used _ once
once_subjects sorts used once ModOfNonNegative = once_pairs used _ once
once_subjects sorts used once ModOfNonPositive = once_pairs used _ once
once_subjects sorts used once DivOfNumerals = once_pairs used _ once
once_subjects sorts used once ModOfNumerals = once_pairs used _ once

-- ---- instances

module _ (shapes : List Shape) (ok : shapes_ok shapes ≡ true) (decls : List Decl) (used : List Term) (once : Once used) where
  abbrev about : SchemaKind → List Term → List SchemaInstance
  about kind ts = map (λ field. record { kind = kind; about = ts; field = field }) (fields_for shapes (term_sort shapes decls) kind ts)

  is_about : (kind : SchemaKind) (ts : List Term) (i : SchemaInstance) → In i (about kind ts) → (i.kind ≡ kind) × (i.about ≡ ts)
  is_about kind ts i m =
      let p = in_map (λ field. record { kind = kind; about = ts; field = field }) (fields_for shapes (term_sort shapes decls) kind ts) i m in
      (ap (λ x. x.kind) p.2, ap (λ x. x.about) p.2)

  once_about : (kind : SchemaKind) (ts : List Term) → Once (about kind ts)
  once_about kind ts =
      once_map (λ field. record { kind = kind; about = ts; field = field }) (λ x y e. ap (λ i. i.field) e) (fields_for shapes (term_sort shapes decls) kind ts)
      (once_fields shapes ok (term_sort shapes decls) kind ts)

  once_of_kind : (kind : SchemaKind) → Once (instances_of shapes decls used kind)
  once_of_kind kind =
      once_filter (λ i. is_some (instance_fact shapes decls i)) (flat_map (about kind) (subjects (term_sort shapes decls) used kind))
      (once_flat_map (about kind) (λ ts us i m n. sym (is_about kind ts i m).1 ∙ (is_about kind us i n).1) (once_about kind)
      (subjects (term_sort shapes decls) used kind) (once_subjects (term_sort shapes decls) used once kind))

  kind_is : (kind : SchemaKind) (i : SchemaInstance) → In i (instances_of shapes decls used kind) → i.kind ≡ kind
  kind_is kind i m =
      let n = in_filter (λ k. is_some (instance_fact shapes decls k)) (flat_map (about kind) (subjects (term_sort shapes decls) used kind)) i m in
      let p = in_flat_map (about kind) (subjects (term_sort shapes decls) used kind) i n in
      (is_about kind p.0 i p.2).0

  pub listed_once : Once (schemas shapes decls used)
  listed_once =
      once_flat_map (instances_of shapes decls used) (λ k l i m n. sym (kind_is k i m) ∙ kind_is l i n) once_of_kind kinds (once_ascending kinds 0 refl)
