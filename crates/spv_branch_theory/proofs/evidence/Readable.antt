-- What may be read of relations is what their literals say.
use Rattle.std.proofs.Common.{◌≡◌, ℕ, zero, suc, ◌+◌, Bool, List, [], ◌∷◌, ◌++◌, map, refl, sym, ap, ◌∙◌, Option, Some, None, arith, ℤ}
use mathlib.Core.Path.{ap₂}
use Rattle.std.specs.Prelude.{slice_get, is_some}
use Rattle.std.specs.List.{flat_map}
use Rattle.std.proofs.lemmas.Option.{same_Some}
use Rattle.spv_logic.specs.declared.operators.Head.{Head}
use Rattle.spv_logic.specs.declared.operators.Head.TheVariants.{Eq, Lt, Le}
use Rattle.spv_logic.specs.Terms.{Term}
use Rattle.spv_term.specs.Arena.{Arena, tree}
use Rattle.spv_atoms.specs.Atoms.{only_if}
use Rattle.spv_atoms.specs.Linear.{IdForm}
use Rattle.spv_atoms.specs.Order.{passing}
use Rattle.spv_tableau_rules.specs.tableaux.Bounds.{Bound}
use Rattle.spv_tableau_rules.specs.constraints.Sayings.{bounds_of, at_least, at_most}
use Rattle.spv_tableau_rules.specs.constraints.Relations.{number_sides}
use Rattle.spv_proof.specs.sums.Readings.{number_in}
use Rattle.spv_share.specs.declared.relations.Related.{Related}
use Rattle.spv_share.specs.Relations.{AreRelationsAmong, row_bounds, bounds_from}
use Rattle.spv_verdicts.specs.Rows.{head_of, head_in_front, relation_heads, sayings, readable}

-- ---- heads

abbrev pub heads : List Related → List Head
heads rels = map (λ r. r.head) rels

abbrev pub is_some_relation : (Term → Bool) → Term → Bool
is_some_relation test t = is_some (number_sides test t)

heads_passing : (test : Term → Bool) (ts : List Term) → relation_heads test ts ≡ map head_of (passing (is_some_relation test) ts)
heads_passing test [] = refl
heads_passing test (t ∷ ts) = by_case (number_sides test t) (heads_passing test ts)
  where
    by_case : (o : Option (Term × Term)) → relation_heads test ts ≡ map head_of (passing (is_some_relation test) ts)
        → head_in_front o t (relation_heads test ts) ≡ map head_of (only_if (is_some o) t ++ passing (is_some_relation test) ts)
    by_case None rest = rest
    by_case (Some st) rest = ap (λ hs. head_of t ∷ hs) rest

heads_of_atoms : (a : Arena) (rels : List Related) → ((row : ℕ) (r : Related) → slice_get rels row ≡ Some r → head_of (tree a r.atom) ≡ r.head) → map head_of (map (λ r. tree a r.atom) rels) ≡ heads rels
heads_of_atoms a [] h = refl
heads_of_atoms a (r ∷ rels) h = ap₂ (λ x xs. x ∷ xs) (h 0 r refl) (heads_of_atoms a rels (λ row q at. h (suc row) q at))

pub heads_are : (a : Arena) (ts : List Term) (rels : List Related) → ((row : ℕ) (r : Related) → slice_get rels row ≡ Some r → head_of (tree a r.atom) ≡ r.head) → AreRelationsAmong a ts rels → relation_heads (number_in a) ts ≡ heads rels
heads_are a ts rels h among = heads_passing (number_in a) ts ∙ ap (map head_of) (sym among) ∙ heads_of_atoms a rels h

-- ---- bounds

one_row : (row : ℕ) (k : ℤ) (h : Head) → flat_map (bounds_of row k) (sayings h) ≡ row_bounds row h k
one_row row k Eq = refl
one_row row k Lt = refl
one_row row k Le = refl
one_row row k q = refl

pub readable_sayable : (row : ℕ) (rels : List Related) (forms : List IdForm) → readable row (heads rels) forms ≡ bounds_from row rels forms
readable_sayable row [] forms = refl
readable_sayable row (r ∷ rels) [] = refl
readable_sayable row (r ∷ rels) (f ∷ forms) = ap₂ (λ xs ys. xs ++ ys) (one_row row f.constant r.head) (readable_sayable (suc row) rels forms)

-- ---- the relation of a bound

-- a bound is one of those of the relation on its row
pub record IsOfRow (start : ℕ) (rels : List Related) (forms : List IdForm) (b : Bound) : Type 0 where
  pub row : ℕ
  pub relation : Related
  pub form : IdForm
  pub row_is : b.row ≡ start + row
  pub related : slice_get rels row ≡ Some relation
  pub formed : slice_get forms row ≡ Some form
  pub place : ℕ
  pub there : slice_get (row_bounds b.row relation.head form.constant) place ≡ Some b

-- an item of two lists is one of the first, or one of the second
pub data IsPlaced (xs ys : List Bound) (b : Bound) : Type 0 where
  first : (i : ℕ) → slice_get xs i ≡ Some b → IsPlaced xs ys b
  second : (i : ℕ) → slice_get ys i ≡ Some b → IsPlaced xs ys b

placed : (xs ys : List Bound) (i : ℕ) (b : Bound) → slice_get (xs ++ ys) i ≡ Some b → IsPlaced xs ys b
placed [] ys i b e = second i e
placed (x ∷ xs) ys zero b e = first 0 e
placed (x ∷ xs) ys (suc i) b e = behind (placed xs ys i b e)
  where
    behind : IsPlaced xs ys b → IsPlaced (x ∷ xs) ys b
    behind (first j f) = first (suc j) f
    behind (second j f) = second j f

on_row : (row : ℕ) (h : Head) (k : ℤ) (i : ℕ) (b : Bound) → slice_get (row_bounds row h k) i ≡ Some b → b.row ≡ row
on_row row Eq k zero b e = sym (ap (λ (x : Bound). x.row) (same_Some (at_least row _) b e))
on_row row Eq k (suc zero) b e = sym (ap (λ (x : Bound). x.row) (same_Some (at_most row _) b e))
on_row row Eq k (suc (suc zero)) b e = sym (ap (λ (x : Bound). x.row) (same_Some (at_most row _) b e))
on_row row Eq k (suc (suc (suc zero))) b e = sym (ap (λ (x : Bound). x.row) (same_Some (at_least row _) b e))
on_row row Eq k (suc (suc (suc (suc i)))) b e = absurd (cc)
on_row row Lt k zero b e = sym (ap (λ (x : Bound). x.row) (same_Some (at_most row _) b e))
on_row row Lt k (suc zero) b e = sym (ap (λ (x : Bound). x.row) (same_Some (at_least row _) b e))
on_row row Lt k (suc (suc i)) b e = absurd (cc)
on_row row Le k zero b e = sym (ap (λ (x : Bound). x.row) (same_Some (at_most row _) b e))
on_row row Le k (suc zero) b e = sym (ap (λ (x : Bound). x.row) (same_Some (at_least row _) b e))
on_row row Le k (suc (suc i)) b e = absurd (cc)
on_row row q k i b e = absurd (cc)

pub of_row : (start : ℕ) (rels : List Related) (forms : List IdForm) (i : ℕ) (b : Bound) → slice_get (bounds_from start rels forms) i ≡ Some b → IsOfRow start rels forms b
of_row start [] forms i b e = absurd (cc)
of_row start (r ∷ rels) [] i b e = absurd (cc)
of_row start (r ∷ rels) (f ∷ forms) i b e = either (placed (row_bounds start r.head f.constant) (bounds_from (suc start) rels forms) i b e) (λ j g. of_row (suc start) rels forms j b g)
  where
    nothing : (n : ℕ) → n ≡ n + zero
    nothing n = omega arith

    moved : (n k : ℕ) → suc n + k ≡ n + suc k
    moved n k = omega arith

    behind : IsOfRow (suc start) rels forms b → IsOfRow start (r ∷ rels) (f ∷ forms) b
    behind h = record {
      row = suc h.row;
      relation = h.relation;
      form = h.form;
      row_is = h.row_is ∙ moved start h.row;
      related = h.related;
      formed = h.formed;
      place = h.place;
      there = h.there;
    }

    either : IsPlaced (row_bounds start r.head f.constant) (bounds_from (suc start) rels forms) b → ((j : ℕ) → slice_get (bounds_from (suc start) rels forms) j ≡ Some b → IsOfRow (suc start) rels forms b) → IsOfRow start (r ∷ rels) (f ∷ forms) b
    either (first j g) later =
        let on = on_row start r.head f.constant j b g in
        record {
          row = 0;
          relation = r;
          form = f;
          row_is = on ∙ nothing start;
          related = refl;
          formed = refl;
          place = j;
          there = ap (λ n. slice_get (row_bounds n r.head f.constant) j) on ∙ g;
        }
    either (second j g) later = behind (later j g)
