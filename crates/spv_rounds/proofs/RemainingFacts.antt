-- No fact of a schema is about a negation or FALSE, so without them the same facts are listed.
use Rattle.std.proofs.Common.{◌≡◌, Bool, true, false, cond, List, [], ◌∷◌, ◌++◌, ◌||◌, map, Option, Some, None, is_some, ℤ, refl, sym, ap, ◌∙◌}
use Rattle.std.specs.List.{filter, filter_map, flat_map}
use Rattle.std.proofs.lemmas.Grind.{flat_map-append}
use Rattle.std.proofs.lemmas.List.Elements.{filter-append}
use Rattle.std.proofs.lemmas.Option.{same_Some}
use Rattle.spv_logic.specs.declared.names.names.Symbol.{Symbol}
use Rattle.spv_logic.specs.declared.types.Sort.{Sort}
use Rattle.spv_logic.specs.declared.types.Sort.TheVariants as sort
use Rattle.spv_logic.specs.declared.types.Shape.{Shape}
use Rattle.spv_logic.specs.declared.types.Decl.{Decl}
use Rattle.spv_logic.specs.declared.operators.Head.TheVariants.{Num, Not, SetCell, Extend, Div, Mod, Car, Cdr, Atom, False}
use Rattle.spv_logic.specs.Terms.{Term, term, no_terms, terms, sort_eq}
use Rattle.spv_logic.specs.Shapes.{pointer_sort, is_list}
use Rattle.spv_logic.specs.Fits.{on_sort}
use Rattle.spv_logic.specs.Sorts.{sorts_eq, first_sort, class_change, result_sort, with_sorts, term_sort, term_sorts}
use Rattle.spv_atoms.specs.Atoms.{only_if}
use Rattle.spv_schemas.specs.declared.kinds.SchemaKind.{SchemaKind}
use Rattle.spv_schemas.specs.declared.kinds.SchemaKind.TheVariants.{SelectStoreSame, SelectStoreOther, FieldPutSame, FieldPutOther, CellSetCellSame, CellSetCellOther, PointerToSetCell, CellExtendSame, CellExtendOther, PointerToExtend, PointerToNil, CarCons, CdrCons, AtomCons, ConsCarCdr, DivMod, ModOfNonNegative, ModOfNonPositive, DivOfNumerals, ModOfNumerals}
use Rattle.spv_schemas.specs.Kinds.{kinds}
use Rattle.spv_schemas.specs.Facts.{one, two, select_store_same, select_store_other, cell_same, cell_other, pointer_to_set_cell, pointer_to_extend, nil_of, div_mod, mod_of_non_negative, mod_of_non_positive, div_of_numerals, mod_of_numerals, about_store, about_set_cell, about_extend, about_quotient, about_numerals, of_shape, if_formula, schema_fact}
use Rattle.spv_schemas.specs.SortsThatFit.{is_class, two_fit, sorts_fit}
use Rattle.spv_schemas.specs.Instances.{SchemaInstance, instance_fact, is_used, indexes, points, is_index, is_pointer, is_taken_apart, is_divided, is_any, each, pairs, subjects, fields_for, fields_of_first, instances_of, schema_facts}
use Rattle.spv_schemas.specs.Laws.{FactsAreWhereSortsFit}
use Rattle.spv_rounds.proofs.RemainingTerms.{remains, remaining, IsLeftOut, negated, untrue, left_out, has-passing-same, flat_map-passing, flat_map-same, any-passing}

-- ---- lists

flat_flat : {X Y A : Type 0} (f : Y → List A) (g : X → List Y) (xs : List X) → flat_map f (flat_map g xs) ≡ flat_map (λ x. flat_map f (g x)) xs
flat_flat f g [] = refl
flat_flat f g (x ∷ xs) = flat_map-append f (g x) (flat_map g xs) ∙ ap (λ us. flat_map f (g x) ++ us) (flat_flat f g xs)

filter_flat : {X A : Type 0} (test : A → Bool) (f : X → List A) (xs : List X) → filter test (flat_map f xs) ≡ flat_map (λ x. filter test (f x)) xs
filter_flat test f [] = refl
filter_flat test f (x ∷ xs) = filter-append test (f x) (flat_map f xs) ∙ ap (λ us. filter test (f x) ++ us) (filter_flat test f xs)

filter_same : (one other : Term → Bool) (ts : List Term) → ((t : Term) → one t ≡ other t) → filter one ts ≡ filter other ts
filter_same one other [] h = refl
filter_same one other (t ∷ ts) h = ap (λ b. cond b (t ∷ filter one ts) (filter one ts)) (h t) ∙ ap (λ us. cond (other t) (t ∷ us) us) (filter_same one other ts h)

-- what comes of the terms that pass a test
abbrev gathered : {A : Type 0} → (List Term → List A) → (Term → List Term) → (Term → Bool) → List Term → List A
gathered f wrap test ts = flat_map f (map wrap (filter test ts))

gathered_remaining : {A : Type 0} (f : List Term → List A) (wrap : Term → List Term) (test : Term → Bool) (ts : List Term) → ((t : Term) → IsLeftOut t → f (wrap t) ≡ [])
    → gathered f wrap test (remaining ts) ≡ gathered f wrap test ts
gathered_remaining f wrap test [] h = refl
gathered_remaining f wrap test (t ∷ ts) h = by (remains t) (test t) refl refl (gathered_remaining f wrap test ts h)
  where
    chosen : (c : Bool) → test t ≡ c → gathered f wrap test (remaining ts) ≡ gathered f wrap test ts
        → flat_map f (map wrap (cond c (t ∷ filter test (remaining ts)) (filter test (remaining ts)))) ≡ flat_map f (map wrap (cond c (t ∷ filter test ts) (filter test ts)))
    chosen true k later = ap (λ us. f (wrap t) ++ us) later
    chosen false k later = later

    passed : (c : Bool) → remains t ≡ false → gathered f wrap test (remaining ts) ≡ gathered f wrap test ts
        → gathered f wrap test (remaining ts) ≡ flat_map f (map wrap (cond c (t ∷ filter test ts) (filter test ts)))
    passed true e later = later ∙ ap (λ us. us ++ gathered f wrap test ts) (sym (h t (left_out t e)))
    passed false e later = later

    by : (b c : Bool) → remains t ≡ b → test t ≡ c → gathered f wrap test (remaining ts) ≡ gathered f wrap test ts
        → gathered f wrap test (only_if b t ++ remaining ts) ≡ gathered f wrap test (t ∷ ts)
    by true c e k later = chosen (test t) refl later
    by false c e k later = passed (test t) e later

-- nothing comes where nothing comes of each
gathered_nothing : {A : Type 0} (f : List Term → List A) (wrap : Term → List Term) (test : Term → Bool) (ts : List Term) → ((t : Term) → f (wrap t) ≡ []) → gathered f wrap test ts ≡ []
gathered_nothing f wrap test [] h = refl
gathered_nothing f wrap test (t ∷ ts) h = by (test t) (gathered_nothing f wrap test ts h)
  where
    by : (b : Bool) → gathered f wrap test ts ≡ [] → flat_map f (map wrap (cond b (t ∷ filter test ts) (filter test ts))) ≡ []
    by true later = ap (λ us. us ++ gathered f wrap test ts) (h t) ∙ later
    by false later = later

-- ---- shapes: what is left out has none of those that facts are about

no_store : (fact : Term → Term → Term → Term → Term) (s t : Term) → IsLeftOut s → about_store fact (s ∷ t ∷ []) ≡ None
no_store fact s t (negated ts) = refl
no_store fact s t (untrue ts) = refl

no_set_cell : (fact : Term → Term → Term → Term → Term) (s t : Term) → IsLeftOut s → about_set_cell fact (s ∷ t ∷ []) ≡ None
no_set_cell fact s t (negated ts) = refl
no_set_cell fact s t (untrue ts) = refl

no_extend : (fact : Term → Term → Term → Term → Term) (s t : Term) → IsLeftOut s → about_extend fact (s ∷ t ∷ []) ≡ None
no_extend fact s t (negated ts) = refl
no_extend fact s t (untrue ts) = refl

no_divisor : (fact : Term → ℤ → Term) (s t : Term) → IsLeftOut t → about_quotient fact (s ∷ t ∷ []) ≡ None
no_divisor fact s t (negated ts) = refl
no_divisor fact s t (untrue ts) = refl

no_dividend : (fact : ℤ → ℤ → Term) (s t : Term) → IsLeftOut s → about_numerals fact (s ∷ t ∷ []) ≡ None
no_dividend fact s t (negated ts) = refl
no_dividend fact s t (untrue ts) = refl

no_numeral : (fact : ℤ → ℤ → Term) (s t : Term) → IsLeftOut t → about_numerals fact (s ∷ t ∷ []) ≡ None
no_numeral fact (term (Num z) no_terms) t (negated ts) = refl
no_numeral fact (term (Num z) no_terms) t (untrue ts) = refl
no_numeral fact (term (Num z) (terms u us)) t l = refl
no_numeral fact (term h us) t l = refl

-- ---- tests: none of them looks at what is left out

no_indexes : (sorts : Term → Option Sort) (o : Option Sort) (j t : Term) → IsLeftOut t → indexes sorts o j t ≡ false
no_indexes sorts o j t (negated ts) = refl
no_indexes sorts o j t (untrue ts) = refl

no_points : (sorts : Term → Option Sort) (o : Option Sort) (q t : Term) → IsLeftOut t → points sorts o q t ≡ false
no_points sorts o q t (negated ts) = refl
no_points sorts o q t (untrue ts) = refl

same_index : (sorts : Term → Option Sort) (us : List Term) (s j : Term) → is_index sorts (remaining us) s j ≡ is_index sorts us s j
same_index sorts us s j = any-passing (indexes sorts (sorts s) j) remains us (λ t e. no_indexes sorts (sorts s) j t (left_out t e))

same_pointer : (sorts : Term → Option Sort) (us : List Term) (s q : Term) → is_pointer sorts (remaining us) s q ≡ is_pointer sorts us s q
same_pointer sorts us s q = any-passing (points sorts (sorts s) q) remains us (λ t e. no_points sorts (sorts s) q t (left_out t e))

same_divided : (us : List Term) (a k : Term) → is_divided (remaining us) a k ≡ is_divided us a k
same_divided us a k =
    ap (λ b. b || is_used (remaining us) (two Mod a k)) (has-passing-same remains us (two Div a k) refl) ∙ ap (λ b. is_used us (two Div a k) || b) (has-passing-same remains us (two Mod a k) refl)

same_taken_apart : (us : List Term) (x : Term) → is_taken_apart (remaining us) x ≡ is_taken_apart us x
same_taken_apart us x =
    ap (λ b. b || (is_used (remaining us) (one Cdr x) || is_used (remaining us) (one Atom x))) (has-passing-same remains us (one Car x) refl)
    ∙ (ap (λ b. is_used us (one Car x) || (b || is_used (remaining us) (one Atom x))) (has-passing-same remains us (one Cdr x) refl)
    ∙ ap (λ b. is_used us (one Car x) || (is_used us (one Cdr x) || b)) (has-passing-same remains us (one Atom x) refl))

pairs_by : (us : List Term) (one other : Term → Term → Bool) → ((s t : Term) → one s t ≡ other s t) → pairs us one ≡ pairs us other
pairs_by us one other h =
    flat_map-same (λ s. map (λ t. s ∷ t ∷ []) (filter (one s) us)) (λ s. map (λ t. s ∷ t ∷ []) (filter (other s) us)) us (λ s. ap (map (λ t. s ∷ t ∷ [])) (filter_same (one s) (other s) us (h s)))

-- ---- sorts

taken : (b : Bool) (s : Sort) (test : Sort → Bool) → test s ≡ false → on_sort (cond b (Some s) None) test ≡ false
taken true s test e = e
taken false s test e = refl

never : (o : Option Sort) (test : Sort → Bool) → ((s : Sort) → o ≡ Some s → test s ≡ false) → on_sort o test ≡ false
never None test h = refl
never (Some s) test h = h s refl

module _ (shapes : List Shape) (decls : List Decl) where
  abbrev sort_of : Term → Option Sort
  sort_of t = term_sort shapes decls t

  negation_sort : (o : Option (List Sort)) (test : Sort → Bool) → test sort.Bool ≡ false → on_sort (with_sorts o (result_sort shapes decls Not)) test ≡ false
  negation_sort None test e = refl
  negation_sort (Some given) test e = taken (sorts_eq (sort.Bool ∷ []) given) sort.Bool test e

  false_sort : (o : Option (List Sort)) (test : Sort → Bool) → test sort.Bool ≡ false → on_sort (with_sorts o (result_sort shapes decls False)) test ≡ false
  false_sort None test e = refl
  false_sort (Some given) test e = taken (sorts_eq [] given) sort.Bool test e

  -- what is left out is at most of sort Bool
  left_sort : (t : Term) → IsLeftOut t → (test : Sort → Bool) → test sort.Bool ≡ false → on_sort (sort_of t) test ≡ false
  left_sort t (negated ts) test e = negation_sort (term_sorts shapes decls ts) test e
  left_sort t (untrue ts) test e = false_sort (term_sorts shapes decls ts) test e

  -- a class that is changed has pointers, which are of no other sort
  class_sort : (b : Bool) (c x : Sort) → sort_eq (pointer_sort c) sort.Bool ≡ false → cond b (Some c) None ≡ Some x → sort_eq (pointer_sort x) sort.Bool ≡ false
  class_sort true c x e is = ap (λ s. sort_eq (pointer_sort s) sort.Bool) (sym (same_Some c x is)) ∙ e
  class_sort false c x e is = absurd (cc)

  changed_sort : (c : Sort) (given : List Sort) (x : Sort) → class_change shapes c given ≡ Some x → sort_eq (pointer_sort x) sort.Bool ≡ false
  changed_sort (sort.Class t) given x is = class_sort _ (sort.Class t) x refl is
  changed_sort c given x is = absurd (cc)

  set_cell_sort : (o : Option (List Sort)) (x : Sort) → with_sorts o (result_sort shapes decls SetCell) ≡ Some x → sort_eq (pointer_sort x) sort.Bool ≡ false
  set_cell_sort None x is = absurd (cc)
  set_cell_sort (Some given) x is = changed_sort (first_sort given) given x is

  extend_sort : (o : Option (List Sort)) (x : Sort) → with_sorts o (result_sort shapes decls Extend) ≡ Some x → sort_eq (pointer_sort x) sort.Bool ≡ false
  extend_sort None x is = absurd (cc)
  extend_sort (Some given) x is = changed_sort (first_sort given) given x is

  -- no index is left out, and no pointer of a class that is changed
  no_index : (s t : Term) → IsLeftOut t → two_fit sort_of (λ x y. sort_eq sort.Int y) (s ∷ t ∷ []) ≡ false
  no_index s t l = never (sort_of s) (λ x. on_sort (sort_of t) (sort_eq sort.Int)) (λ x is. left_sort t l (sort_eq sort.Int) refl)

  no_pointer : (s t : Term) → IsLeftOut t → ((x : Sort) → sort_of s ≡ Some x → sort_eq (pointer_sort x) sort.Bool ≡ false) → two_fit sort_of (λ x y. sort_eq (pointer_sort x) y) (s ∷ t ∷ []) ≡ false
  no_pointer s t l h = never (sort_of s) (λ x. on_sort (sort_of t) (sort_eq (pointer_sort x))) (λ x is. left_sort t l (sort_eq (pointer_sort x)) (h x is))

  -- what is changed is a class, or there is no fact about it
  data SeenClass (s : Term) (o : Option Term) : Type 0 where
    other_shape : o ≡ None → SeenClass s o
    changed : ((x : Sort) → sort_of s ≡ Some x → sort_eq (pointer_sort x) sort.Bool ≡ false) → SeenClass s o

  by_set_cell : (fact : Term → Term → Term → Term → Term) (s t : Term) → SeenClass s (about_set_cell fact (s ∷ t ∷ []))
  by_set_cell fact (term SetCell us) t = changed (λ x is. set_cell_sort (term_sorts shapes decls us) x is)
  by_set_cell fact (term h us) t = other_shape refl

  by_extend : (fact : Term → Term → Term → Term → Term) (s t : Term) → SeenClass s (about_extend fact (s ∷ t ∷ []))
  by_extend fact (term Extend us) t = changed (λ x is. extend_sort (term_sorts shapes decls us) x is)
  by_extend fact (term h us) t = other_shape refl

  -- ---- instances

  module _ (fits : FactsAreWhereSortsFit) where
    abbrev instance : SchemaKind → List Term → Option Symbol → SchemaInstance
    instance kind ts field = record { kind = kind; about = ts; field = field }

    abbrev has_fact : SchemaInstance → Bool
    has_fact i = is_some (instance_fact shapes decls i)

    -- the instances of a kind about these terms
    abbrev made : SchemaKind → List Term → List SchemaInstance
    made kind ts = filter has_fact (map (λ field. instance kind ts field) (fields_for shapes sort_of kind ts))

    -- there are none where there is no fact
    abbrev HasNone : SchemaKind → List Term → Option Symbol → Type 0
    HasNone kind ts field = schema_fact shapes decls kind ts field ≡ None

    unfit : (kind : SchemaKind) (ts : List Term) → sorts_fit shapes sort_of kind ts None ≡ false → HasNone kind ts None
    unfit kind ts e = fits shapes decls kind ts None ∙ ap (λ b. cond b (of_shape sort_of kind ts None) None) e

    shapeless : (kind : SchemaKind) (ts : List Term) (field : Option Symbol) → of_shape sort_of kind ts field ≡ None → HasNone kind ts field
    shapeless kind ts field e = ap (if_formula shapes decls) e

    -- then a kind whose instances name no field has none about these terms
    abbrev NoneMade : SchemaKind → List Term → Type 0
    NoneMade kind ts = filter has_fact (instance kind ts None ∷ []) ≡ []

    none_made : (kind : SchemaKind) (ts : List Term) → HasNone kind ts None → NoneMade kind ts
    none_made kind ts e = ap (λ o. cond (is_some o) (instance kind ts None ∷ []) []) e

    unshaped : (kind : SchemaKind) (ts : List Term) → of_shape sort_of kind ts None ≡ None → NoneMade kind ts
    unshaped kind ts e = none_made kind ts (shapeless kind ts None e)

    unsorted : (kind : SchemaKind) (ts : List Term) → sorts_fit shapes sort_of kind ts None ≡ false → NoneMade kind ts
    unsorted kind ts e = none_made kind ts (unfit kind ts e)

    -- nor has one whose instances name fields
    none_with_fields : (kind : SchemaKind) (ts : List Term) (fields : List (Option Symbol)) → ((field : Option Symbol) → HasNone kind ts field)
        → filter has_fact (map (λ field. instance kind ts field) fields) ≡ []
    none_with_fields kind ts [] h = refl
    none_with_fields kind ts (field ∷ fields) h =
        ap (λ o. cond (is_some o) (instance kind ts field ∷ filter has_fact (map (λ g. instance kind ts g) fields)) (filter has_fact (map (λ g. instance kind ts g) fields))) (h field)
        ∙ none_with_fields kind ts fields h

    -- ---- kinds about one term

    abbrev NoneOfOne : SchemaKind → Type 0
    NoneOfOne kind = (t : Term) → IsLeftOut t → made kind (t ∷ []) ≡ []

    put_same : NoneOfOne FieldPutSame
    put_same t (negated ts) = unshaped FieldPutSame (t ∷ []) refl
    put_same t (untrue ts) = unshaped FieldPutSame (t ∷ []) refl

    no_other_field : (t : Term) → IsLeftOut t → (field : Option Symbol) → of_shape sort_of FieldPutOther (t ∷ []) field ≡ None
    no_other_field t l None = refl
    no_other_field t (negated ts) (Some g) = refl
    no_other_field t (untrue ts) (Some g) = refl

    put_other : NoneOfOne FieldPutOther
    put_other t l = none_with_fields FieldPutOther (t ∷ []) (fields_of_first shapes sort_of (t ∷ [])) (λ field. shapeless FieldPutOther (t ∷ []) field (no_other_field t l field))

    to_nil : NoneOfOne PointerToNil
    to_nil t l = unsorted PointerToNil (t ∷ []) (left_sort t l is_class refl)

    car : NoneOfOne CarCons
    car t (negated ts) = unshaped CarCons (t ∷ []) refl
    car t (untrue ts) = unshaped CarCons (t ∷ []) refl

    cdr : NoneOfOne CdrCons
    cdr t (negated ts) = unshaped CdrCons (t ∷ []) refl
    cdr t (untrue ts) = unshaped CdrCons (t ∷ []) refl

    atom : NoneOfOne AtomCons
    atom t (negated ts) = unshaped AtomCons (t ∷ []) refl
    atom t (untrue ts) = unshaped AtomCons (t ∷ []) refl

    car_cdr : NoneOfOne ConsCarCdr
    car_cdr t l = unsorted ConsCarCdr (t ∷ []) (left_sort t l is_list refl)

    -- ---- kinds about two terms

    record NoneOfTwo (kind : SchemaKind) : Type 0 where
      first : (s t : Term) → IsLeftOut s → made kind (s ∷ t ∷ []) ≡ []
      second : (s t : Term) → IsLeftOut t → made kind (s ∷ t ∷ []) ≡ []

    store_same : NoneOfTwo SelectStoreSame
    store_same = record {
      first = λ s t l. unshaped SelectStoreSame (s ∷ t ∷ []) (no_store select_store_same s t l);
      second = λ s t l. unsorted SelectStoreSame (s ∷ t ∷ []) (no_index s t l);
    }

    store_other : NoneOfTwo SelectStoreOther
    store_other = record {
      first = λ s t l. unshaped SelectStoreOther (s ∷ t ∷ []) (no_store select_store_other s t l);
      second = λ s t l. unsorted SelectStoreOther (s ∷ t ∷ []) (no_index s t l);
    }

    -- where classes are changed
    of_class : (kind : SchemaKind) (s t : Term) → SeenClass s (of_shape sort_of kind (s ∷ t ∷ []) None)
        → sorts_fit shapes sort_of kind (s ∷ t ∷ []) None ≡ two_fit sort_of (λ x y. sort_eq (pointer_sort x) y) (s ∷ t ∷ []) → IsLeftOut t → NoneMade kind (s ∷ t ∷ [])
    of_class kind s t (other_shape e) same l = unshaped kind (s ∷ t ∷ []) e
    of_class kind s t (changed h) same l = unsorted kind (s ∷ t ∷ []) (same ∙ no_pointer s t l h)

    set_cell_same : NoneOfTwo CellSetCellSame
    set_cell_same = record {
      first = λ s t l. unshaped CellSetCellSame (s ∷ t ∷ []) (no_set_cell (cell_same SetCell) s t l);
      second = λ s t l. of_class CellSetCellSame s t (by_set_cell (cell_same SetCell) s t) refl l;
    }

    set_cell_other : NoneOfTwo CellSetCellOther
    set_cell_other = record {
      first = λ s t l. unshaped CellSetCellOther (s ∷ t ∷ []) (no_set_cell (cell_other SetCell) s t l);
      second = λ s t l. of_class CellSetCellOther s t (by_set_cell (cell_other SetCell) s t) refl l;
    }

    set_cell_members : NoneOfTwo PointerToSetCell
    set_cell_members = record {
      first = λ s t l. unshaped PointerToSetCell (s ∷ t ∷ []) (no_set_cell pointer_to_set_cell s t l);
      second = λ s t l. of_class PointerToSetCell s t (by_set_cell pointer_to_set_cell s t) refl l;
    }

    extend_same : NoneOfTwo CellExtendSame
    extend_same = record {
      first = λ s t l. unshaped CellExtendSame (s ∷ t ∷ []) (no_extend (cell_same Extend) s t l);
      second = λ s t l. of_class CellExtendSame s t (by_extend (cell_same Extend) s t) refl l;
    }

    extend_other : NoneOfTwo CellExtendOther
    extend_other = record {
      first = λ s t l. unshaped CellExtendOther (s ∷ t ∷ []) (no_extend (cell_other Extend) s t l);
      second = λ s t l. of_class CellExtendOther s t (by_extend (cell_other Extend) s t) refl l;
    }

    -- what is said of members of a class that is extended
    abbrev extended : Term → Term → Term → Term → Term
    extended c p v q = pointer_to_extend (nil_of (sort_of c)) c p v q

    extend_members : NoneOfTwo PointerToExtend
    extend_members = record {
      first = λ s t l. unshaped PointerToExtend (s ∷ t ∷ []) (no_extend extended s t l);
      second = λ s t l. of_class PointerToExtend s t (by_extend extended s t) refl l;
    }

    -- quotients
    quotient : NoneOfTwo DivMod
    quotient = record {
      first = λ s t l. unsorted DivMod (s ∷ t ∷ []) (left_sort s l (sort_eq sort.Int) refl);
      second = λ s t l. unshaped DivMod (s ∷ t ∷ []) (no_divisor div_mod s t l);
    }

    above_zero : NoneOfTwo ModOfNonNegative
    above_zero = record {
      first = λ s t l. unsorted ModOfNonNegative (s ∷ t ∷ []) (left_sort s l (sort_eq sort.Int) refl);
      second = λ s t l. unshaped ModOfNonNegative (s ∷ t ∷ []) (no_divisor mod_of_non_negative s t l);
    }

    below_zero : NoneOfTwo ModOfNonPositive
    below_zero = record {
      first = λ s t l. unsorted ModOfNonPositive (s ∷ t ∷ []) (left_sort s l (sort_eq sort.Int) refl);
      second = λ s t l. unshaped ModOfNonPositive (s ∷ t ∷ []) (no_divisor mod_of_non_positive s t l);
    }

    div_numerals : NoneOfTwo DivOfNumerals
    div_numerals = record {
      first = λ s t l. unshaped DivOfNumerals (s ∷ t ∷ []) (no_dividend div_of_numerals s t l);
      second = λ s t l. unshaped DivOfNumerals (s ∷ t ∷ []) (no_numeral div_of_numerals s t l);
    }

    mod_numerals : NoneOfTwo ModOfNumerals
    mod_numerals = record {
      first = λ s t l. unshaped ModOfNumerals (s ∷ t ∷ []) (no_dividend mod_of_numerals s t l);
      second = λ s t l. unshaped ModOfNumerals (s ∷ t ∷ []) (no_numeral mod_of_numerals s t l);
    }

    -- ---- all kinds

    of_each : (kind : SchemaKind) (test : Term → Bool) (us : List Term) → NoneOfOne kind → flat_map (made kind) (each (remaining us) test) ≡ flat_map (made kind) (each us test)
    of_each kind test us none = gathered_remaining (made kind) (λ t. t ∷ []) test us none

    of_pairs : (kind : SchemaKind) (test : Term → Term → Bool) (us : List Term) → NoneOfTwo kind → flat_map (made kind) (pairs (remaining us) test) ≡ flat_map (made kind) (pairs us test)
    of_pairs kind test us none =
        flat_flat (made kind) (λ s. map (λ t. s ∷ t ∷ []) (filter (test s) (remaining us))) (remaining us)
        ∙ (flat_map-passing remains (λ s. gathered (made kind) (λ t. s ∷ t ∷ []) (test s) (remaining us)) us
        (λ s e. gathered_nothing (made kind) (λ t. s ∷ t ∷ []) (test s) (remaining us) (λ t. none.first s t (left_out s e)))
        ∙ (flat_map-same (λ s. gathered (made kind) (λ t. s ∷ t ∷ []) (test s) (remaining us)) (λ s. gathered (made kind) (λ t. s ∷ t ∷ []) (test s) us) us
        (λ s. gathered_remaining (made kind) (λ t. s ∷ t ∷ []) (test s) us (λ t l. none.second s t l))
        ∙ sym (flat_flat (made kind) (λ s. map (λ t. s ∷ t ∷ []) (filter (test s) us)) us)))

    same_pairs : (kind : SchemaKind) (us : List Term) (one other : Term → Term → Bool) → ((s t : Term) → one s t ≡ other s t) → NoneOfTwo kind
        → flat_map (made kind) (pairs (remaining us) one) ≡ flat_map (made kind) (pairs us other)
    same_pairs kind us one other h none = ap (flat_map (made kind)) (pairs_by (remaining us) one other h) ∙ of_pairs kind other us none

    by_index : (kind : SchemaKind) (us : List Term) → NoneOfTwo kind → flat_map (made kind) (pairs (remaining us) (is_index sort_of (remaining us))) ≡ flat_map (made kind) (pairs us (is_index sort_of us))
    by_index kind us none = same_pairs kind us (is_index sort_of (remaining us)) (is_index sort_of us) (λ s t. same_index sort_of us s t) none

    by_pointer : (kind : SchemaKind) (us : List Term) → NoneOfTwo kind → flat_map (made kind) (pairs (remaining us) (is_pointer sort_of (remaining us))) ≡ flat_map (made kind) (pairs us (is_pointer sort_of us))
    by_pointer kind us none = same_pairs kind us (is_pointer sort_of (remaining us)) (is_pointer sort_of us) (λ s t. same_pointer sort_of us s t) none

    by_divisor : (kind : SchemaKind) (us : List Term) → NoneOfTwo kind → flat_map (made kind) (pairs (remaining us) (is_divided (remaining us))) ≡ flat_map (made kind) (pairs us (is_divided us))
    by_divisor kind us none = same_pairs kind us (is_divided (remaining us)) (is_divided us) (λ s t. same_divided us s t) none

    same_subjects : (kind : SchemaKind) (us : List Term) → flat_map (made kind) (subjects sort_of (remaining us) kind) ≡ flat_map (made kind) (subjects sort_of us kind)
    same_subjects SelectStoreSame us = by_index SelectStoreSame us store_same
    same_subjects SelectStoreOther us = by_index SelectStoreOther us store_other
    same_subjects FieldPutSame us = of_each FieldPutSame is_any us put_same
    same_subjects FieldPutOther us = of_each FieldPutOther is_any us put_other
    same_subjects CellSetCellSame us = by_pointer CellSetCellSame us set_cell_same
    same_subjects CellSetCellOther us = by_pointer CellSetCellOther us set_cell_other
    same_subjects PointerToSetCell us = by_pointer PointerToSetCell us set_cell_members
    same_subjects CellExtendSame us = by_pointer CellExtendSame us extend_same
    same_subjects CellExtendOther us = by_pointer CellExtendOther us extend_other
    same_subjects PointerToExtend us = by_pointer PointerToExtend us extend_members
    same_subjects PointerToNil us = of_each PointerToNil is_any us to_nil
    same_subjects CarCons us = of_each CarCons is_any us car
    same_subjects CdrCons us = of_each CdrCons is_any us cdr
    same_subjects AtomCons us = of_each AtomCons is_any us atom
    same_subjects ConsCarCdr us =
        ap (λ ts. flat_map (made ConsCarCdr) (map (λ t. t ∷ []) ts)) (filter_same (is_taken_apart (remaining us)) (is_taken_apart us) (remaining us) (λ t. same_taken_apart us t))
        ∙ of_each ConsCarCdr (is_taken_apart us) us car_cdr
    same_subjects DivMod us = by_divisor DivMod us quotient
    same_subjects ModOfNonNegative us = by_divisor ModOfNonNegative us above_zero
    same_subjects ModOfNonPositive us = by_divisor ModOfNonPositive us below_zero
    same_subjects DivOfNumerals us =
        same_pairs DivOfNumerals us (λ a k. is_used (remaining us) (two Div a k)) (λ a k. is_used us (two Div a k)) (λ a k. has-passing-same remains us (two Div a k) refl) div_numerals
    same_subjects ModOfNumerals us =
        same_pairs ModOfNumerals us (λ a k. is_used (remaining us) (two Mod a k)) (λ a k. is_used us (two Mod a k)) (λ a k. has-passing-same remains us (two Mod a k) refl) mod_numerals

    made_by : (kind : SchemaKind) (us : List Term) → instances_of shapes decls us kind ≡ flat_map (made kind) (subjects sort_of us kind)
    made_by kind us = filter_flat has_fact (λ ts. map (λ field. instance kind ts field) (fields_for shapes sort_of kind ts)) (subjects sort_of us kind)

    same_kind : (us : List Term) (kind : SchemaKind) → instances_of shapes decls (remaining us) kind ≡ instances_of shapes decls us kind
    same_kind us kind = made_by kind (remaining us) ∙ (same_subjects kind us ∙ sym (made_by kind us))

    facts-remaining : (us : List Term) → schema_facts shapes decls (remaining us) ≡ schema_facts shapes decls us
    facts-remaining us = ap (filter_map (instance_fact shapes decls)) (flat_map-same (instances_of shapes decls (remaining us)) (instances_of shapes decls us) kinds (same_kind us))

    -- terms that are the same but for what is left out have the same facts
    pub same-facts : (us vs : List Term) → remaining us ≡ remaining vs → schema_facts shapes decls us ≡ schema_facts shapes decls vs
    same-facts us vs e = sym (facts-remaining us) ∙ (ap (schema_facts shapes decls) e ∙ facts-remaining vs)
