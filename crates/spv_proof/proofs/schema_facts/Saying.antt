-- What each kind says of terms that have its shape and sorts that fit it.
use Rattle.std.proofs.Common.{◌≡◌, ◌<◌, Bool, true, false, List, [], ◌∷◌, map, length, refl, sym, ap, ◌∙◌, subst, Option, Some, None, is_some, nat_eq, if◌then◌else◌}
use Rattle.spv_logic.specs.declared.conditions.TermId.{TermId}
use Rattle.spv_logic.specs.declared.names.names.Symbol.{Symbol}
use Rattle.spv_logic.specs.declared.types.TypeId.{TypeId}
use Rattle.spv_logic.specs.declared.types.Sort.{Sort}
use Rattle.spv_logic.specs.declared.types.Sort.TheVariants as sort
use Rattle.spv_logic.specs.declared.operators.Head.TheVariants as head
use Rattle.spv_logic.specs.Terms.{Term, term, no_terms}
use Rattle.spv_logic.specs.Formulas.{negation, equation}
use Rattle.spv_logic.specs.Shapes.{field_sort_of, fields_of, is_list}
use Rattle.spv_logic.specs.Sorts.{term_sort}
use Rattle.spv_schemas.specs.declared.kinds.SchemaKind.{SchemaKind}
use Rattle.spv_schemas.specs.declared.kinds.SchemaKind.TheVariants.{FieldPutSame, FieldPutOther, PointerToExtend, PointerToNil, CarCons, CdrCons, AtomCons, ConsCarCdr}
use Rattle.spv_schemas.specs.Facts as facts
use Rattle.spv_schemas.specs.Facts.{one, two, implication, nil_of, about_extend, about_put_other}
use Rattle.spv_schemas.specs.SortsThatFit.{first_fits, is_class, has_field}
use Rattle.spv_term.specs.Arena.{Arena, IsArena, AllBelow, sort_at, tree}
use Rattle.spv_proof.specs.declared.schema_facts.facts.Change.{Change}
use Rattle.spv_proof.specs.declared.schema_facts.facts.FieldChange.{FieldChange}
use Rattle.spv_proof.specs.declared.schema_facts.facts.Pair.{Pair}
use Rattle.spv_proof.specs.declared.schema_facts.facts.SchemaFact.{SchemaFact}
use Rattle.spv_proof.specs.declared.schema_facts.facts.SchemaFact.TheVariants.{MembersExtended, NilIsNoMember, PartIs, SamePart, NoAtom, PairOfParts}
use Rattle.spv_proof.specs.schema_facts.Facts.{Says}
use Rattle.spv_proof.specs.schema_facts.Shapes.{IsFieldChange, IsPair, IsFitting, pointer_fits}
use Rattle.spv_proof.specs.schema_facts.Kinds.{fitting}
use Rattle.spv_proof.proofs.schema_facts.Fitted.{sort_there, first_passes, class_changed, choose_none}
use Rattle.spv_proof.proofs.schema_facts.Fields.{class_there}

-- a kind by another name
pub named : (a : Arena) (us : List Term) (f : SchemaFact) (kind k : SchemaKind) → kind ≡ k → Says a (fitting a k us None) f → Says a (fitting a kind us None) f
named a us f kind k e s = subst (λ x. Says a (fitting a x us None) f) (sym e) s

module _ (a : Arena) (ok : IsArena a) (us : List Term) where
  abbrev at : TermId → Term
  at t = tree a t

  abbrev sorts : Term → Option Sort
  sorts = term_sort a.shapes a.decls

  -- ---- changes

  nil_at : (t : TermId) (k : TypeId) → t.0 < length a.nodes → sort_at a t ≡ sort.Class k → nil_of (sorts (at t)) ≡ term (head.Nil k) no_terms
  nil_at t k h e = ap nil_of (sort_there a ok t h ∙ ap Some e)

  pub members_extended : (c : Change) → IsFitting a head.Extend about_extend pointer_fits us (Some c) → (k : TypeId) → sort_at a c.base ≡ sort.Class k
      → Says a (fitting a PointerToExtend us None) (MembersExtended k c)
  members_extended c f k e = record {
    is = f.fact (λ x p v q. facts.pointer_to_extend (nil_of (sorts x)) x p v q)
        ∙ ap Some (
        let nil = nil_at c.base k f.is.within.base e in
        λ i. implication (negation (equation (at c.place) (nil i)))
        (equation (two head.PointerTo (at c.other) (sym f.is.is i)) (two head.Or (equation (at c.place) (at c.other)) (two head.PointerTo (at c.other) (at c.base))))
        );
    within = ((class_there a ok c.base f.is.within.base k e, refl), f.is.within);
  }

  pub is_a_class : (c : Change) → IsFitting a head.Extend about_extend pointer_fits us (Some c) → ((k : TypeId) → sort_at a c.base ≡ sort.Class k → ⊥) → ⊥
  is_a_class c f other = let k = class_changed a ok head.Extend (λ given. refl) c f.is in other k.0 k.1

  -- ---- one term

  chosen : (b : Bool) (o : Option Term) → b ≡ true → (if b then o else None) ≡ o
  chosen b o e = ap (λ x. if x then o else None) e

  pub nil_is_no_member : (t : TermId) (k : TypeId) → us ≡ at t ∷ [] → t.0 < length a.nodes → sort_at a t ≡ sort.Class k → Says a (fitting a PointerToNil us None) (NilIsNoMember k t)
  nil_is_no_member t k e h s = record {
    is = ap (λ xs. fitting a PointerToNil xs None) e
        ∙ (chosen (first_fits sorts is_class (at t ∷ [])) (Some (facts.pointer_to_nil (nil_of (sorts (at t))) (at t))) (first_passes a ok is_class t [] h ∙ ap is_class s)
        ∙ ap (λ n. Some (facts.pointer_to_nil n (at t))) (nil_at t k h s));
    within = ((class_there a ok t h k s, refl), h);
  }

  pub pair_of_parts : (t : TermId) → us ≡ at t ∷ [] → t.0 < length a.nodes → sort_at a t ≡ sort.List → Says a (fitting a ConsCarCdr us None) (PairOfParts t)
  pair_of_parts t e h s = record {
    is = ap (λ xs. fitting a ConsCarCdr xs None) e
        ∙ chosen (first_fits sorts is_list (at t ∷ [])) (Some (facts.cons_car_cdr (at t))) (first_passes a ok is_list t [] h ∙ ap is_list s);
    within = h;
  }

  -- what a term is, where any sort fits
  pub any_sort : (o : List Term → Option Term) (t : TermId) (u : Term) → us ≡ at t ∷ [] → t.0 < length a.nodes → at t ≡ u
      → (if first_fits sorts (λ s. true) us then o us else None) ≡ o (u ∷ [])
  any_sort o t u e h is =
      ap (λ xs. if first_fits sorts (λ s. true) xs then o xs else None) e
      ∙ (chosen (first_fits sorts (λ s. true) (at t ∷ [])) (o (at t ∷ [])) (first_passes a ok (λ s. true) t [] h) ∙ ap (λ x. o (x ∷ [])) is)

  pub field_put_same : (c : FieldChange) → IsFieldChange a c → us ≡ at c.whole ∷ [] → Says a (fitting a FieldPutSame us None) (PartIs (head.Field c.field) c.whole c.value)
  field_put_same c i e = record {
    is = any_sort facts.about_put c.whole (two (head.Put c.field) (at c.base) (at c.value)) e i.whole i.is
        ∙ ap Some (ap (λ w. equation (one (head.Field c.field) w) (at c.value)) (sym i.is));
    within = ((refl, refl), i.whole, i.value);
  }

  pub car_cons : (p : Pair) → IsPair a p → us ≡ at p.whole ∷ [] → Says a (fitting a CarCons us None) (PartIs head.Car p.whole p.first)
  car_cons p i e = record {
    is = any_sort (facts.about_cons facts.car_cons) p.whole (two head.Cons (at p.first) (at p.second)) e i.whole i.is
        ∙ ap Some (ap (λ w. equation (one head.Car w) (at p.first)) (sym i.is));
    within = ((refl, refl), i.whole, i.first);
  }

  pub cdr_cons : (p : Pair) → IsPair a p → us ≡ at p.whole ∷ [] → Says a (fitting a CdrCons us None) (PartIs head.Cdr p.whole p.second)
  cdr_cons p i e = record {
    is = any_sort (facts.about_cons facts.cdr_cons) p.whole (two head.Cons (at p.first) (at p.second)) e i.whole i.is
        ∙ ap Some (ap (λ w. equation (one head.Cdr w) (at p.second)) (sym i.is));
    within = ((refl, refl), i.whole, i.second);
  }

  pub atom_cons : (p : Pair) → IsPair a p → us ≡ at p.whole ∷ [] → Says a (fitting a AtomCons us None) (NoAtom p.whole)
  atom_cons p i e = record {
    is = any_sort (facts.about_cons facts.atom_cons) p.whole (two head.Cons (at p.first) (at p.second)) e i.whole i.is
        ∙ ap Some (ap (λ w. negation (one head.Atom w)) (sym i.is));
    within = i.whole;
  }

  -- ---- another field

  tested : (c : FieldChange) → IsFieldChange a c → us ≡ at c.whole ∷ [] → (g : Symbol) (same there : Bool) → same ≡ nat_eq g.0 c.field.0
      → there ≡ is_some (field_sort_of (fields_of a.shapes (sort_at a c.whole)) g.0)
      → fitting a FieldPutOther us (Some g)
      ≡ (if there then (if same then None else Some (equation (one (head.Field g) (two (head.Put c.field) (at c.base) (at c.value))) (one (head.Field g) (at c.base)))) else None)
  tested c i e g same there s t =
      ap (λ xs. fitting a FieldPutOther xs (Some g)) e
      ∙ (λ j. if (first_passes a ok (has_field a.shapes (Some g)) c.whole [] i.whole ∙ sym t) j then (about_put_other (i.is j ∷ []) g) else None)
      ∙ ap (λ b. if there then (if b then None else Some (equation (one (head.Field g) (two (head.Put c.field) (at c.base) (at c.value))) (one (head.Field g) (at c.base)))) else None) (sym s)

  pub no_such_field : (c : FieldChange) → IsFieldChange a c → us ≡ at c.whole ∷ [] → (g : Symbol) (there : Bool)
      → there ≡ is_some (field_sort_of (fields_of a.shapes (sort_at a c.whole)) g.0) → there ≡ false → fitting a FieldPutOther us (Some g) ≡ None
  no_such_field c i e g there t f =
      tested c i e g (nat_eq g.0 c.field.0) there refl t
      ∙ ap (λ b. if b then (if nat_eq g.0 c.field.0 then None else Some (equation (one (head.Field g) (two (head.Put c.field) (at c.base) (at c.value))) (one (head.Field g) (at c.base)))) else None) f

  pub other_field : (c : FieldChange) → IsFieldChange a c → us ≡ at c.whole ∷ [] → (g : Symbol) (same there : Bool) → same ≡ nat_eq g.0 c.field.0 → same ≡ false
      → there ≡ is_some (field_sort_of (fields_of a.shapes (sort_at a c.whole)) g.0) → there ≡ true
      → Says a (fitting a FieldPutOther us (Some g)) (SamePart (head.Field g) c.whole c.base)
  other_field c i e g same there s f t h = record {
    is = tested c i e g same there s t
        ∙ ((λ j. if h j then (if f j then None else Some (equation (one (head.Field g) (two (head.Put c.field) (at c.base) (at c.value))) (one (head.Field g) (at c.base)))) else None)
        ∙ ap Some (ap (λ w. equation (one (head.Field g) w) (one (head.Field g) (at c.base))) (sym i.is)));
    within = ((refl, refl), i.whole, i.base);
  }

-- ---- where there is nothing to be said

no_list : (s : Sort) → (s ≡ sort.List → ⊥) → is_list s ≡ false
no_list sort.List n = absurd (n refl)
no_list _ n = refl

no_class : (s : Sort) → ((k : TypeId) → s ≡ sort.Class k → ⊥) → is_class s ≡ false
no_class (sort.Class k) n = absurd (n k refl)
no_class _ n = refl

module _ (a : Arena) (ok : IsArena a) where
  pub list_unsaid : (ts : List TermId) → AllBelow (length a.nodes) ts → ((t : TermId) → ts ≡ t ∷ [] → sort_at a t ≡ sort.List → ⊥) → fitting a ConsCarCdr (map (tree a) ts) None ≡ None
  list_unsaid [] h n = refl
  list_unsaid (t ∷ []) h n = (λ i. if (first_passes a ok is_list t [] h.0 ∙ no_list (sort_at a t) (n t refl)) i then Some (facts.cons_car_cdr (tree a t)) else None)
  list_unsaid (t ∷ u ∷ ts) h n = choose_none (first_fits (term_sort a.shapes a.decls) is_list (map (tree a) (t ∷ u ∷ ts))) None refl

  pub class_unsaid : (ts : List TermId) → AllBelow (length a.nodes) ts → ((t : TermId) (k : TypeId) → ts ≡ t ∷ [] → sort_at a t ≡ sort.Class k → ⊥) → fitting a PointerToNil (map (tree a) ts) None ≡ None
  class_unsaid [] h n = refl
  class_unsaid (t ∷ []) h n =
      (λ i. if (first_passes a ok is_class t [] h.0 ∙ no_class (sort_at a t) (λ k e. n t k refl e)) i then Some (facts.pointer_to_nil (nil_of (term_sort a.shapes a.decls (tree a t))) (tree a t)) else None)
  class_unsaid (t ∷ u ∷ ts) h n = choose_none (first_fits (term_sort a.shapes a.decls) is_class (map (tree a) (t ∷ u ∷ ts))) None refl
