-- What may be read of the relations of atoms is what their literals say of their rows.
use Rattle.std.proofs.Common.{◌≡◌, ℕ, suc, Bool, List, [], ◌∷◌, ◌++◌, map, refl, sym, ap, ◌∙◌, Option, Some, None, ℤ}
use mathlib.Core.Path.{ap₂}
use Rattle.std.specs.Prelude.{slice_get, is_some}
use Rattle.std.specs.List.{flat_map}
use Rattle.spv_logic.specs.declared.operators.Head.{Head}
use Rattle.spv_logic.specs.declared.operators.Head.TheVariants.{Eq, Lt, Le}
use Rattle.spv_logic.specs.Terms.{Term}
use Rattle.spv_term.specs.Arena.{Arena, tree}
use Rattle.spv_atoms.specs.Atoms.{only_if}
use Rattle.spv_atoms.specs.Linear.{IdForm}
use Rattle.spv_atoms.specs.Order.{passing}
use Rattle.spv_tableau_rules.specs.constraints.Sayings.{bounds_of}
use Rattle.spv_tableau_rules.specs.constraints.Relations.{number_sides}
use Rattle.spv_proof.specs.sums.Readings.{number_in}
use Rattle.spv_share.specs.declared.relations.Related.{Related}
use Rattle.spv_share.specs.Relations.{AreRelationsAmong, row_bounds, bounds_from}
use Rattle.spv_verdicts.specs.Rows.{head_of, head_in_front, relation_heads, sayings, readable}

-- ---- heads

abbrev pub heads : List Related → List Head
heads rels = map (λ r. r.head) rels

abbrev pub is_some_relation : (Term → Bool) → Term → Bool
is_some_relation test t = is_some (number_sides test t)

heads_passing : (test : Term → Bool) (ts : List Term) → relation_heads test ts ≡ map head_of (passing (is_some_relation test) ts)
heads_passing test [] = refl
heads_passing test (t ∷ ts) = by_case (number_sides test t) (heads_passing test ts)
  where
    by_case : (o : Option (Term × Term)) → relation_heads test ts ≡ map head_of (passing (is_some_relation test) ts)
        → head_in_front o t (relation_heads test ts) ≡ map head_of (only_if (is_some o) t ++ passing (is_some_relation test) ts)
    by_case None rest = rest
    by_case (Some st) rest = ap (λ hs. head_of t ∷ hs) rest

heads_of_atoms : (a : Arena) (rels : List Related) → ((row : ℕ) (r : Related) → slice_get rels row ≡ Some r → head_of (tree a r.atom) ≡ r.head) → map head_of (map (λ r. tree a r.atom) rels) ≡ heads rels
heads_of_atoms a [] h = refl
heads_of_atoms a (r ∷ rels) h = ap₂ (λ x xs. x ∷ xs) (h 0 r refl) (heads_of_atoms a rels (λ row q at. h (suc row) q at))

pub heads_are : (a : Arena) (ts : List Term) (rels : List Related) → ((row : ℕ) (r : Related) → slice_get rels row ≡ Some r → head_of (tree a r.atom) ≡ r.head) → AreRelationsAmong a ts rels → relation_heads (number_in a) ts ≡ heads rels
heads_are a ts rels h among = heads_passing (number_in a) ts ∙ ap (map head_of) (sym among) ∙ heads_of_atoms a rels h

-- ---- bounds

one_row : (row : ℕ) (k : ℤ) (h : Head) → flat_map (bounds_of row k) (sayings h) ≡ row_bounds row h k
one_row row k Eq = refl
one_row row k Lt = refl
one_row row k Le = refl
one_row row k q = refl

pub readable_sayable : (row : ℕ) (rels : List Related) (forms : List IdForm) → readable row (heads rels) forms ≡ bounds_from row rels forms
readable_sayable row [] forms = refl
readable_sayable row (r ∷ rels) [] = refl
readable_sayable row (r ∷ rels) (f ∷ forms) = ap₂ (λ xs ys. xs ++ ys) (one_row row f.constant r.head) (readable_sayable (suc row) rels forms)
