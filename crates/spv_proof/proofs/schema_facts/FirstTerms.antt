-- The list of instances, by the first of their terms.
use Rattle.std.proofs.Common.{◌≡◌, ℕ, zero, suc, ◌+◌, ◌-◌, ◌<◌, ◌≤◌, arith, slice_get, Bool, true, false, cond, List, [], ◌∷◌, ◌++◌, map, filter, length, take, get_or, refl, sym, ap, ◌∙◌, subst, Option, Some, None, if◌then◌else◌}
use Rattle.std.specs.List.{flat_map}
use Rattle.std.proofs.lemmas.List.{map-append, append_assoc, take_more, append-nil}
use Rattle.std.proofs.lemmas.Bool.{false≢true}
use Rattle.std.proofs.lemmas.List.Elements.{filter-append}
use Rattle.std.proofs.lemmas.List.Folds.{flat_map-map}
use Rattle.std.proofs.lemmas.Option.{slice_get-get_or}
use Rattle.spv_logic.specs.declared.conditions.TermId.{TermId}
use Rattle.spv_logic.specs.declared.names.names.Symbol.{Symbol}
use Rattle.spv_logic.specs.declared.types.Sort.{Sort}
use Rattle.spv_logic.specs.declared.types.Field.{Field as RecordField}
use Rattle.spv_logic.specs.Terms.{Term}
use Rattle.spv_logic.specs.Sorts.{term_sort}
use Rattle.spv_schemas.specs.declared.kinds.SchemaKind.{SchemaKind}
use Rattle.spv_schemas.specs.declared.kinds.SchemaKind.TheVariants.{SelectStoreSame, SelectStoreOther, FieldPutSame, FieldPutOther, CellSetCellSame, CellSetCellOther, PointerToSetCell, CellExtendSame, CellExtendOther, PointerToExtend, PointerToNil, CarCons, CdrCons, AtomCons, ConsCarCdr, DivMod, ModOfNonNegative, ModOfNonPositive, DivOfNumerals, ModOfNumerals}
use Rattle.spv_schemas.specs.Kinds.{kinds, kind_of_number}
use Rattle.spv_schemas.specs.Instances.{SchemaInstance, instances_of, subjects, is_any, is_taken_apart, each, fields_for, names_in}
use Rattle.spv_term.specs.Arena.{Arena, AllBelow, tree}
use Rattle.spv_proof.specs.declared.schema_facts.groups.Link.{Link}
use Rattle.spv_proof.specs.declared.schema_facts.listing.Instance.{Instance}
use Rattle.spv_proof.specs.declared.schema_facts.uses.Subject.{Subject}
use Rattle.spv_proof.specs.declared.schema_facts.uses.Subject.TheVariants.{Any, Field, TakenApart, Array, Class, Division}
use Rattle.spv_proof.specs.schema_facts.Instances.{Adds, AllIn, instance, instance_in, instances_at, is_instance, pair, subjects_at}
use Rattle.spv_proof.specs.schema_facts.Uses.{ArePartners, is_paired, is_partner, subject_of}

-- ---- lists

mapped_choice : {X Y : Type 0} (f : X → Y) (b : Bool) (x : X) (ys : List Y) (xs : List X) → ys ≡ map f xs → cond b (f x ∷ ys) ys ≡ map f (cond b (x ∷ xs) xs)
mapped_choice f true x ys xs e = ap (λ zs. f x ∷ zs) e
mapped_choice f false x ys xs e = e

filter_mapped : {X Y : Type 0} (p : Y → Bool) (f : X → Y) (xs : List X) → filter p (map f xs) ≡ map f (filter (λ x. p (f x)) xs)
filter_mapped p f [] = refl
filter_mapped p f (x ∷ xs) = mapped_choice f (p (f x)) x (filter p (map f xs)) (filter (λ y. p (f y)) xs) (filter_mapped p f xs)

filter_joined : {X Y : Type 0} (p : Y → Bool) (f : X → List Y) (xs : List X) → filter p (flat_map f xs) ≡ flat_map (λ x. filter p (f x)) xs
filter_joined p f [] = refl
filter_joined p f (x ∷ xs) = filter-append p (f x) (flat_map f xs) ∙ ap (λ ys. filter p (f x) ++ ys) (filter_joined p f xs)

flat_append : {X Y : Type 0} (f : X → List Y) (xs ys : List X) → flat_map f (xs ++ ys) ≡ flat_map f xs ++ flat_map f ys
flat_append f [] ys = refl
flat_append f (x ∷ xs) ys = ap (λ zs. f x ++ zs) (flat_append f xs ys) ∙ sym (append_assoc (f x) (flat_map f xs) (flat_map f ys))

twice_joined : {X Y Z : Type 0} (f : Y → List Z) (g : X → List Y) (xs : List X) → flat_map f (flat_map g xs) ≡ flat_map (λ x. flat_map f (g x)) xs
twice_joined f g [] = refl
twice_joined f g (x ∷ xs) = flat_append f (g x) (flat_map g xs) ∙ ap (λ ys. flat_map f (g x) ++ ys) (twice_joined f g xs)

single_each : {X Y : Type 0} (f : X → Y) (xs : List X) → flat_map (λ x. f x ∷ []) xs ≡ map f xs
single_each f [] = refl
single_each f (x ∷ xs) = ap (λ ys. f x ∷ ys) (single_each f xs)

-- ---- the terms of instances, by the first one

each_at : (us : List Term) (test : Term → Bool) → each us test ≡ flat_map (λ s. if test s then (s ∷ []) ∷ [] else []) us
each_at [] test = refl
each_at (u ∷ us) test = by_case (test u) u (filter test us) (flat_map (λ s. if test s then (s ∷ []) ∷ [] else []) us) (each_at us test)
  where
    by_case : (b : Bool) (u : Term) (rest : List Term) (ts : List (List Term)) → map (λ t. t ∷ []) rest ≡ ts
        → map (λ t. t ∷ []) (cond b (u ∷ rest) rest) ≡ (if b then (u ∷ []) ∷ [] else []) ++ ts
    by_case true u rest ts e = ap (λ xs. (u ∷ []) ∷ xs) e
    by_case false u rest ts e = e

by_first : (sorts : Term → Option Sort) (us : List Term) (kind : SchemaKind) → subjects sorts us kind ≡ flat_map (subjects_at sorts us (subject_of kind)) us
by_first sorts us SelectStoreSame = refl
by_first sorts us SelectStoreOther = refl
by_first sorts us FieldPutSame = each_at us is_any
by_first sorts us FieldPutOther = each_at us is_any
by_first sorts us CellSetCellSame = refl
by_first sorts us CellSetCellOther = refl
by_first sorts us PointerToSetCell = refl
by_first sorts us CellExtendSame = refl
by_first sorts us CellExtendOther = refl
by_first sorts us PointerToExtend = refl
by_first sorts us PointerToNil = each_at us is_any
by_first sorts us CarCons = each_at us is_any
by_first sorts us CdrCons = each_at us is_any
by_first sorts us AtomCons = each_at us is_any
by_first sorts us ConsCarCdr = each_at us (is_taken_apart us)
by_first sorts us DivMod = refl
by_first sorts us ModOfNonNegative = refl
by_first sorts us ModOfNonPositive = refl
by_first sorts us DivOfNumerals = refl
by_first sorts us ModOfNumerals = refl

pub of_kind_by_first : (a : Arena) (us : List Term) (kind : SchemaKind) → instances_of a.shapes a.decls us kind ≡ flat_map (instances_at a us kind) us
of_kind_by_first a us kind =
    let sorts = term_sort a.shapes a.decls in
    let fields : List Term → List SchemaInstance = (λ ts. map (instance kind ts) (fields_for a.shapes sorts kind ts)) in
    ap (λ ts. filter (is_instance a) (flat_map fields ts)) (by_first sorts us kind)
    ∙ (ap (filter (is_instance a)) (twice_joined fields (subjects_at sorts us (subject_of kind)) us)
    ∙ filter_joined (is_instance a) (λ s. flat_map fields (subjects_at sorts us (subject_of kind) s)) us)

module _ (a : Arena) (us : List Term) (s : Term) where
  abbrev alone : SchemaKind → List SchemaInstance
  alone kind = filter (is_instance a) (instance kind (s ∷ []) None ∷ [])

  pub any_at : (kind : SchemaKind) → subject_of kind ≡ Any → alone kind ≡ instances_at a us kind s
  any_at FieldPutSame e = refl
  any_at PointerToNil e = refl
  any_at CarCons e = refl
  any_at CdrCons e = refl
  any_at AtomCons e = refl
  any_at kind e = absurd (cc)

  pub apart_at : (kind : SchemaKind) → subject_of kind ≡ TakenApart → is_taken_apart us s ≡ true → alone kind ≡ instances_at a us kind s
  apart_at ConsCarCdr e h = sym (ap (λ b. filter (is_instance a) (flat_map (λ ts. instance ConsCarCdr ts None ∷ []) (if b then (s ∷ []) ∷ [] else []))) h)
  apart_at kind e h = absurd (cc)

  pub whole_at : (kind : SchemaKind) → subject_of kind ≡ TakenApart → is_taken_apart us s ≡ false → [] ≡ instances_at a us kind s
  whole_at ConsCarCdr e h = sym (ap (λ b. filter (is_instance a) (flat_map (λ ts. instance ConsCarCdr ts None ∷ []) (if b then (s ∷ []) ∷ [] else []))) h)
  whole_at kind e h = absurd (cc)

  pub fields_at : (kind : SchemaKind) → subject_of kind ≡ Field → filter (is_instance a) (map (instance FieldPutOther (s ∷ [])) (names_in a.shapes (term_sort a.shapes a.decls s))) ≡ instances_at a us kind s
  fields_at FieldPutOther e = ap (filter (is_instance a)) (sym (append-nil (map (instance FieldPutOther (s ∷ [])) (names_in a.shapes (term_sort a.shapes a.decls s)))))
  fields_at kind e = absurd (cc)

  abbrev with_each : SchemaKind → List Term → List SchemaInstance
  with_each kind ts = filter (is_instance a) (map (λ t. instance kind (s ∷ t ∷ []) None) ts)

  paired : (kind : SchemaKind) (ts : List Term) → with_each kind ts ≡ filter (is_instance a) (flat_map (λ us. instance kind us None ∷ []) (map (λ t. s ∷ t ∷ []) ts))
  paired kind ts = ap (filter (is_instance a)) (by_list ts)
    where
      by_list : (ts : List Term) → map (λ t. instance kind (s ∷ t ∷ []) None) ts ≡ flat_map (λ us. instance kind us None ∷ []) (map (λ t. s ∷ t ∷ []) ts)
      by_list [] = refl
      by_list (t ∷ ts) = ap (λ is. instance kind (s ∷ t ∷ []) None ∷ is) (by_list ts)

  pub pair_at : (kind : SchemaKind) → is_paired (subject_of kind) ≡ true → with_each kind (filter (is_partner (term_sort a.shapes a.decls) us (subject_of kind) s) us) ≡ instances_at a us kind s
  pair_at SelectStoreSame e = paired SelectStoreSame (filter (is_partner (term_sort a.shapes a.decls) us (subject_of SelectStoreSame) s) us)
  pair_at SelectStoreOther e = paired SelectStoreOther (filter (is_partner (term_sort a.shapes a.decls) us (subject_of SelectStoreOther) s) us)
  pair_at CellSetCellSame e = paired CellSetCellSame (filter (is_partner (term_sort a.shapes a.decls) us (subject_of CellSetCellSame) s) us)
  pair_at CellSetCellOther e = paired CellSetCellOther (filter (is_partner (term_sort a.shapes a.decls) us (subject_of CellSetCellOther) s) us)
  pair_at PointerToSetCell e = paired PointerToSetCell (filter (is_partner (term_sort a.shapes a.decls) us (subject_of PointerToSetCell) s) us)
  pair_at CellExtendSame e = paired CellExtendSame (filter (is_partner (term_sort a.shapes a.decls) us (subject_of CellExtendSame) s) us)
  pair_at CellExtendOther e = paired CellExtendOther (filter (is_partner (term_sort a.shapes a.decls) us (subject_of CellExtendOther) s) us)
  pair_at PointerToExtend e = paired PointerToExtend (filter (is_partner (term_sort a.shapes a.decls) us (subject_of PointerToExtend) s) us)
  pair_at DivMod e = paired DivMod (filter (is_partner (term_sort a.shapes a.decls) us (subject_of DivMod) s) us)
  pair_at ModOfNonNegative e = paired ModOfNonNegative (filter (is_partner (term_sort a.shapes a.decls) us (subject_of ModOfNonNegative) s) us)
  pair_at ModOfNonPositive e = paired ModOfNonPositive (filter (is_partner (term_sort a.shapes a.decls) us (subject_of ModOfNonPositive) s) us)
  pair_at DivOfNumerals e = paired DivOfNumerals (filter (is_partner (term_sort a.shapes a.decls) us (subject_of DivOfNumerals) s) us)
  pair_at ModOfNumerals e = paired ModOfNumerals (filter (is_partner (term_sort a.shapes a.decls) us (subject_of ModOfNumerals) s) us)
  pair_at kind e = absurd (false≢true e)

map_twice : {X Y Z : Type 0} (g : Y → Z) (f : X → Y) (xs : List X) → map (λ x. g (f x)) xs ≡ map g (map f xs)
map_twice g f [] = refl
map_twice g f (x ∷ xs) = ap (λ ys. g (f x) ∷ ys) (map_twice g f xs)

pub pairs_at : (a : Arena) (used : List TermId) (kind : SchemaKind) (s : TermId) (subject : Subject) → subject_of kind ≡ subject → is_paired subject ≡ true
    → (links : List Link) → ArePartners a used subject s links → filter (is_instance a) (map (pair a kind s) links) ≡ instances_at a (map (tree a) used) kind (tree a s)
pairs_at a used kind s subject e two links partners =
    let us : List Term = map (tree a) used in
    let ids : List TermId = map (λ l. l.member) links in
    let of_id : TermId → SchemaInstance = (λ t. instance kind (tree a s ∷ tree a t ∷ []) None) in
    let of_term : Term → SchemaInstance = (λ t. instance kind (tree a s ∷ t ∷ []) None) in
    let passes : Term → Bool = is_partner (term_sort a.shapes a.decls) us subject (tree a s) in
    ap (filter (is_instance a)) (map_twice of_id (λ l. l.member) links)
    ∙ (filter_mapped (is_instance a) of_id ids
    ∙ (ap (map of_id) (partners.all kind e)
    ∙ (sym (filter_mapped (is_instance a) of_id (filter (λ t. passes (tree a t)) used))
    ∙ (ap (filter (is_instance a)) (map_twice of_term (tree a) (filter (λ t. passes (tree a t)) used) ∙ ap (map of_term) (sym (filter_mapped passes (tree a) used)))
    ∙ (ap (λ x. filter (is_instance a) (map of_term (filter (is_partner (term_sort a.shapes a.decls) us x (tree a s)) us))) (sym e)
    ∙ pair_at a us (tree a s) kind (ap is_paired e ∙ two))))))

pub paired_else : (x : Subject) → (x ≡ Any → ⊥) → (x ≡ Field → ⊥) → (x ≡ TakenApart → ⊥) → is_paired x ≡ true
paired_else Any n m k = absurd (n refl)
paired_else Field n m k = absurd (m refl)
paired_else TakenApart n m k = absurd (k refl)
paired_else Array n m k = refl
paired_else (Class h) n m k = refl
paired_else (Division r) n m k = refl

-- ---- the ends of lists

take_end : {X : Type 0} (xs : List X) (i : ℕ) → length xs ≤ i → take i xs ≡ xs
take_end [] zero h = refl
take_end [] (suc i) h = refl
take_end (x ∷ xs) zero h = absurd (omega arith)
take_end (x ∷ xs) (suc i) h = ap (λ ys. x ∷ ys) (take_end xs i (omega arith))

take_next : {X : Type 0} (xs : List X) (i : ℕ) (x : X) → slice_get xs i ≡ Some x → take i xs ++ x ∷ [] ≡ take (suc i) xs
take_next [] i x e = absurd (cc)
take_next (y ∷ xs) zero x e = let k : y ≡ x = cc in ap (λ z. z ∷ []) (sym k)
take_next (y ∷ xs) (suc i) x e = ap (λ ys. y ∷ ys) (take_next xs i x e)

-- the fields of a record, to the last
pub fields_listed : (a : Arena) (s : Term) (fields : List RecordField) (names : List (Option Symbol)) → map (λ field. Some field.name) fields ≡ names → (i : ℕ) → length fields ≤ i
    → filter (is_instance a) (map (λ field. instance FieldPutOther (s ∷ []) (Some field.name)) (take i fields)) ≡ filter (is_instance a) (map (instance FieldPutOther (s ∷ [])) names)
fields_listed a s fields names e i h =
    ap (λ fs. filter (is_instance a) (map (λ field. instance FieldPutOther (s ∷ []) (Some field.name)) fs)) (take_end fields i h)
    ∙ ap (filter (is_instance a)) (map_twice (instance FieldPutOther (s ∷ [])) (λ field. Some field.name) fields ∙ ap (map (instance FieldPutOther (s ∷ []))) e)

-- the used terms, to the last
pub kind_listed : (a : Arena) (kind : SchemaKind) (used ids : List TermId) → ids ≡ used → (i : ℕ) → length ids ≤ i
    → flat_map (λ t. instances_at a (map (tree a) used) kind (tree a t)) (take i ids) ≡ instances_of a.shapes a.decls (map (tree a) used) kind
kind_listed a kind used ids e i h =
    let us : List Term = map (tree a) used in
    ap (flat_map (λ t. instances_at a us kind (tree a t))) (take_end ids i h ∙ e)
    ∙ (sym (flat_map-map (instances_at a us kind) (tree a) used) ∙ sym (of_kind_by_first a us kind))

pub kinds_next : (n : ℕ) (kind : SchemaKind) → kind_of_number n ≡ Some kind → take (n - 1) kinds ++ kind ∷ [] ≡ take (n + 1 - 1) kinds
kinds_next zero kind e = absurd (cc)
kinds_next (suc m) kind e =
    let before : suc m - 1 ≡ m = omega arith in
    let after : suc m + 1 - 1 ≡ suc m = omega arith in
    ap (λ k. take k kinds ++ kind ∷ []) before ∙ (take_next kinds m kind e ∙ ap (λ k. take k kinds) (sym after))

pub kinds_there : (n : ℕ) → 1 ≤ n → n < 21 → kind_of_number n ≡ None → ⊥
kinds_there zero l h e = omega arith
kinds_there (suc m) l h e =
    let below : m < 20 = omega arith in
    let there : slice_get kinds m ≡ Some (get_or kinds m DivMod) = slice_get-get_or kinds m DivMod below in
    let wrong : None ≡ Some (get_or kinds m DivMod) = sym e ∙ there in cc

pub next_kind : (a : Arena) (used ids : List TermId) → ids ≡ used → (n : ℕ) (kind : SchemaKind) → kind_of_number n ≡ Some kind
    → flat_map (instances_of a.shapes a.decls (map (tree a) used)) (take (n - 1) kinds) ++ instances_of a.shapes a.decls (map (tree a) ids) kind
    ≡ flat_map (instances_of a.shapes a.decls (map (tree a) used)) (take (n + 1 - 1) kinds)
next_kind a used ids same n kind e =
    let of_kind : SchemaKind → List SchemaInstance = instances_of a.shapes a.decls (map (tree a) used) in
    ap (λ ts. flat_map of_kind (take (n - 1) kinds) ++ instances_of a.shapes a.decls (map (tree a) ts) kind) same
    ∙ (ap (λ is. flat_map of_kind (take (n - 1) kinds) ++ is) (sym (append-nil (of_kind kind)))
    ∙ (sym (flat_append of_kind (take (n - 1) kinds) (kind ∷ [])) ∙ ap (flat_map of_kind) (kinds_next n kind e)))

-- ---- instances more

module _ (a : Arena) where
  in_append : (found more : List Instance) → AllIn a found → AllIn a more → AllIn a (found ++ more)
  in_append [] more h k = k
  in_append (i ∷ found) more h k = (h.0, in_append found more h.1 k)

  pub adds_nothing : (found : List Instance) → Adds a found found []
  adds_nothing found = record { instances = sym (append-nil (map (instance_in a) found)); within = λ h. h }

  pub adds_none : (found : List Instance) (i : SchemaInstance) → is_instance a i ≡ false → Adds a found found (filter (is_instance a) (i ∷ []))
  adds_none found i e = subst (Adds a found found) (sym (ap (λ b. cond b (i ∷ []) []) e)) (adds_nothing found)

  pub adds_one : (found new : List Instance) (x : Instance) (i : SchemaInstance) → new ≡ found ++ x ∷ [] → instance_in a x ≡ i → is_instance a i ≡ true → AllBelow (length a.nodes) x.about
      → Adds a found new (filter (is_instance a) (i ∷ []))
  adds_one found new x i e is h k = record {
    instances = ap (map (instance_in a)) e ∙ (map-append (instance_in a) found (x ∷ []) ∙ ((λ j. map (instance_in a) found ++ is j ∷ []) ∙ ap (λ b. map (instance_in a) found ++ cond b (i ∷ []) []) (sym h)));
    within = λ old. subst (AllIn a) (sym e) (in_append found (x ∷ []) old (k, tt));
  }

  pub adds_both : (x y z : List Instance) (is js ks : List SchemaInstance) → Adds a x y is → Adds a y z js → is ++ js ≡ ks → Adds a x z ks
  adds_both x y z is js ks f g e = record {
    instances = g.instances ∙ (ap (λ ys. ys ++ js) f.instances ∙ (append_assoc (map (instance_in a) x) is js ∙ ap (λ ys. map (instance_in a) x ++ ys) e));
    within = λ h. g.within (f.within h);
  }

  -- one more of a list
  pub next_mapped : {X : Type 0} (f : X → SchemaInstance) (xs : List X) (i : ℕ) (d : X) → i < length xs
      → filter (is_instance a) (map f (take i xs)) ++ filter (is_instance a) (f (get_or xs i d) ∷ []) ≡ filter (is_instance a) (map f (take (i + 1) xs))
  next_mapped f xs i d h =
      sym (ap (λ ys. filter (is_instance a) (map f ys)) (take_more xs i d h)
      ∙ (ap (filter (is_instance a)) (map-append f (take i xs) (get_or xs i d ∷ [])) ∙ filter-append (is_instance a) (map f (take i xs)) (f (get_or xs i d) ∷ [])))

  pub next_joined : {X : Type 0} (f : X → List SchemaInstance) (xs : List X) (i : ℕ) (d : X) → i < length xs → flat_map f (take i xs) ++ f (get_or xs i d) ≡ flat_map f (take (i + 1) xs)
  next_joined f xs i d h =
      sym (ap (flat_map f) (take_more xs i d h) ∙ (flat_append f (take i xs) (get_or xs i d ∷ []) ∙ ap (λ ys. flat_map f (take i xs) ++ ys) (append-nil (f (get_or xs i d)))))
