-- Declarations that the walk went over: their types, variables and symbols are right, and no two have one name.
use Rattle.std.proofs.Common.{arith, ◌≡◌, ℕ, ◌<◌, ◌≤◌, Bool, true, false, ◌||◌, List, [], ◌∷◌, ◌++◌, map, length, Option, Some, None, ℤ, nat_lt, refl, sym, ap, ◌∙◌, subst}
use Rattle.std.specs.Prelude.{Ok}
use Rattle.std.specs.List.{list_any, list_all}
use Rattle.std.specs.Cmp.Derive.{both_true}
use Rattle.std.proofs.lemmas.Bool.{false≢true, lt-ltb, ltb-true}
use Rattle.std.proofs.lemmas.List.{append-nil, append_assoc, map-append, length-map}
use Rattle.std.proofs.lemmas.List.Folds.{list_any-append}
use Rattle.spv_logic.specs.declared.names.names.Symbol.{Symbol}
use Rattle.spv_logic.proofs.list.Tests.{left_true, right_true}
use Rattle.spv_logic.specs.declared.types.TypeId.{TypeId}
use Rattle.spv_logic.specs.declared.types.Sort.{Sort}
use Rattle.spv_logic.specs.declared.types.Sort.TheVariants as sort
use Rattle.spv_logic.specs.declared.types.Decl.{Decl}
use Rattle.spv_logic.specs.Sorts.{sort_in_range}
use Rattle.spv_tree.specs.declared.syntax.names.Name.{Name}
use Rattle.spv_tree.specs.declared.syntax.declarations.Const.{Const}
use Rattle.spv_tree.specs.declared.syntax.declarations.Typedef.{Typedef}
use Rattle.spv_tree.specs.declared.syntax.declarations.Vars.{Vars}
use Rattle.spv_tree.specs.declared.syntax.declarations.NameOrClass.{NameOrClass}
use Rattle.spv_tree.specs.declared.syntax.declarations.NameOrClass.TheVariants as written
use Rattle.spv_tree.specs.declared.syntax.declarations.SortName.{SortName}
use Rattle.spv_tree.specs.declared.syntax.declarations.SymbolText.{SymbolText}
use Rattle.spv_tree.specs.declared.syntax.declarations.Declarations.{Declarations}
use Rattle.spv_tree.specs.syntax.Types.{TypeDenoter}
use Rattle.spv_program.specs.declared.types.TypeForm.{TypeForm}
use Rattle.spv_program.specs.declared.types.TypeForm.TheVariants.{Integer, Boolean}
use Rattle.spv_program.specs.Lists.{item_at, same_name, found, names_differ}
use Rattle.spv_program.specs.Types.{form_at, sort_of, shape_of_form, type_exists, forms_ok}
use Rattle.spv_program.specs.Programs.{Program, shapes}
use Rattle.spv_program.specs.Typing.{symbol_ok}
use Rattle.spv_typing.specs.Outcomes.{after, each, all_of, twice}
use Rattle.spv_typing.specs.Known.{Meaning, OfType, OfList, OfConstant, OfPlace, OfStart, OfSymbol, OfRoutine, Known, Scope, program_names, at_top, meaning, is_free, is_free_for_call}
use Rattle.spv_typing.specs.Merging.{Written, Built, Merged, merged}
use Rattle.spv_typing.specs.TypeWalk.{all_names, constant, Reading, denoted}
use Rattle.spv_typing.specs.DeclarationWalk.{with_program, with_constant, with_types, with_variables, with_symbol, const_walk, TypePart, typedef_walk, with_merged, type_part_walk, NewType, is_type_name, type_walk, new_name, vars_walk, sort_named, class_named, sort_walk, sorts_in_brackets, symbol_walk, declarations_walk}
use Rattle.spv_type_soundness.proofs.well_typed.Outcomes.{fine, no_fault, same_value, went, held, behind_test}
use Rattle.spv_type_soundness.proofs.well_typed.Reached.{type_range}
use Rattle.spv_type_soundness.proofs.well_typed_programs.Differ.{or_left, or_right, name-refl, same_names}
use Rattle.spv_type_soundness.proofs.well_typed_programs.Finding.{pair, keys, found_all, any_turned, key_found}
use Rattle.spv_type_soundness.proofs.well_typed_programs.Labels.{each_keeps}
use Rattle.spv_type_soundness.proofs.well_typed_programs.Items.{Begins, item_map}
use Rattle.spv_type_soundness.proofs.well_typed_programs.RightForms.{GoodForms, forms_are_right}
use Rattle.spv_type_soundness.proofs.well_typed_programs.Merged.{FitsWritten, built_fits, named_fits, ranges_in, GoodWritten, merged_good, new_below, forms_before}
use Rattle.spv_type_soundness.proofs.well_typed_programs.Denoted.{begins_same, begins_then, begins_longer, begins_item, wider, FitsText, text_built, text_target, GoodText, TypesBelow, denoted_reads, built_good}
use Rattle.spv_type_soundness.proofs.well_typed_programs.Naming.{NamesApart, symbol_names, heading_names, fixed_names, names_in, RightNames, one_new, names_with, all_fresh, keys_typed, Meant, meant_number, meant_truth, meant_list, meant_constant, meant_type, meant_place, meant_symbol, meant_routine, meant}

abbrev type_or : TypeId → Meaning → TypeId
type_or other (OfType t) = t
type_or other _ = other

abbrev is_type : Meaning → Bool
is_type (OfType t) = true
is_type _ = false

same_type : {t u : TypeId} → OfType t ≡ OfType u → t ≡ u
same_type {t} {u} e = ap (type_or t) e

any_append : {X : Type 0} (test : X → Bool) (xs ys : List X) → list_any test (xs ++ ys) ≡ (list_any test xs || list_any test ys)
any_append test xs ys = list_any-append test xs ys

abbrev pub new_type : Merged → TypeId → NewType
new_type m t = record { forms = m.forms; type = m.new t }

abbrev pub typed_part : Known → Symbol → Reading → TypePart
typed_part k x t = record {
  known =
      with_program k (with_types k.program k.program.forms (k.program.types ++ pair x t.type ∷ []));
  written = t.written;
}

abbrev pub start_part : Known → TypePart
start_part k = record { known = k; written = map Built k.program.forms }

abbrev pub declaration : Symbol → List Sort → Sort → Decl
declaration x args s = record { name = x; args = args; result = s }

abbrev sort_name : ℕ → NameOrClass → SortName
sort_name line f = record { line = line; form = f }

-- ---- the types of a program so far

pub record FormsRight (forms : List TypeForm) : Type 0 where
  pub good : GoodForms forms
  pub begins : Begins (Integer ∷ Boolean ∷ []) forms

abbrev pub all_there : {X : Type 0} → List TypeForm → List (X × TypeId) → Bool
all_there forms xs = list_all (λ n. type_exists forms n.1) xs

pub exists_below : (forms : List TypeForm) (t : TypeId) → type_exists forms t ≡ true → t.0 < length forms
exists_below forms t h = ltb-true t.0 (length forms) h

pub below_exists : (forms : List TypeForm) (t : TypeId) → t.0 < length forms → type_exists forms t ≡ true
below_exists forms t h = lt-ltb t.0 (length forms) h

pub exists_longer : (forms more : List TypeForm) (t : TypeId) → Begins forms more → type_exists forms t ≡ true → type_exists more t ≡ true
exists_longer forms more t b h =
    below_exists more t (wider t.0 (length forms) (length more) (exists_below forms t h) (begins_longer forms more b))

pub all_longer : (forms more : List TypeForm) (xs : List (Symbol × TypeId)) → Begins forms more → all_there forms xs ≡ true
    → all_there more xs ≡ true
all_longer forms more [] b h = refl
all_longer forms more (n ∷ xs) b h =
    both_true (exists_longer forms more n.1 b (left_true _ _ h)) (all_longer forms more xs b (right_true (type_exists forms n.1) _ h))

pub all_append : {X : Type 0} (test : X → Bool) (xs ys : List X) → list_all test xs ≡ true → list_all test ys ≡ true
    → list_all test (xs ++ ys) ≡ true
all_append test [] ys h k = k
all_append test (x ∷ xs) ys h k = both_true (left_true _ _ h) (all_append test xs ys (right_true (test x) _ h) k)

pub all_typed : (forms : List TypeForm) (t : TypeId) (names : List Symbol) → type_exists forms t ≡ true
    → all_there forms (map (λ x. pair x t) names) ≡ true
all_typed forms t [] h = refl
all_typed forms t (x ∷ names) h = both_true h (all_typed forms t names h)

module _ (forms : List TypeForm) (right : FormsRight forms) where
  two_below : 2 ≤ length forms
  two_below = begins_longer (Integer ∷ Boolean ∷ []) forms right.begins

  pub number_there : type_exists forms (record { 0 = 0 }) ≡ true
  number_there = below_exists forms (record { 0 = 0 }) (first (length forms) two_below)
    where
      first : (n : ℕ) → 2 ≤ n → 0 < n
      first n h = omega arith

  pub truth_there : type_exists forms (record { 0 = 1 }) ≡ true
  truth_there = below_exists forms (record { 0 = 1 }) (second (length forms) two_below)
    where
      second : (n : ℕ) → 2 ≤ n → 1 < n
      second n h = omega arith

  pub first_form : form_at forms 0 ≡ Integer
  first_form = ap (λ l. form_at l 0) right.begins.is

  pub forms_pass : forms_ok forms ≡ true
  forms_pass = forms_are_right forms right.good

-- the sort of a type that is there
pub sort_there : (p : Program) (t : TypeId) → FormsRight p.forms → type_exists p.forms t ≡ true
    → sort_in_range (shapes p) (sort_of p.forms t) ≡ true
sort_there p t right h = type_range p None (forms_pass p.forms right) (first_form p.forms right) t h

pub class_there : (p : Program) (t : TypeId) → type_exists p.forms t ≡ true → sort_in_range (shapes p) (sort.Class t) ≡ true
class_there p t h = ap (nat_lt t.0) (length-map p.forms (shape_of_form p.forms)) ∙ h

shape_longer : (q p : Program) (t : TypeId) → Begins q.forms p.forms → nat_lt t.0 (length (shapes q)) ≡ true
    → nat_lt t.0 (length (shapes p)) ≡ true
shape_longer q p t b h =
    ap (nat_lt t.0) (length-map p.forms (shape_of_form p.forms))
    ∙ exists_longer q.forms p.forms t b (ap (nat_lt t.0) (sym (length-map q.forms (shape_of_form q.forms))) ∙ h)

pub range_longer : (q p : Program) (s : Sort) → Begins q.forms p.forms → sort_in_range (shapes q) s ≡ true
    → sort_in_range (shapes p) s ≡ true
range_longer q p sort.Int b h = refl
range_longer q p sort.Bool b h = refl
range_longer q p sort.List b h = refl
range_longer q p (sort.Ptr t) b h = shape_longer q p t b h
range_longer q p (sort.Whole t) b h = shape_longer q p t b h
range_longer q p (sort.Class t) b h = shape_longer q p t b h

ranges_longer : (q p : Program) (sorts : List Sort) → Begins q.forms p.forms → list_all (sort_in_range (shapes q)) sorts ≡ true
    → list_all (sort_in_range (shapes p)) sorts ≡ true
ranges_longer q p [] b h = refl
ranges_longer q p (s ∷ sorts) b h =
    both_true (range_longer q p s b (left_true _ _ h)) (ranges_longer q p sorts b (right_true (sort_in_range (shapes q) s) _ h))

pub symbols_longer : (q p : Program) (ds : List Decl) → Begins q.forms p.forms → list_all (symbol_ok q) ds ≡ true
    → list_all (symbol_ok p) ds ≡ true
symbols_longer q p [] b h = refl
symbols_longer q p (d ∷ ds) b h =
    let one = left_true _ _ h in
    both_true
    (both_true (ranges_longer q p d.args b (left_true _ _ one))
    (range_longer q p d.result b (right_true (list_all (sort_in_range (shapes q)) d.args) _ one)))
    (symbols_longer q p ds b (right_true (symbol_ok q d) _ h))

pub same_symbols : (q p : Program) (ds : List Decl) → q.forms ≡ p.forms → list_all (symbol_ok q) ds ≡ true
    → list_all (symbol_ok p) ds ≡ true
same_symbols q p ds e h = symbols_longer q p ds (record { more = []; is = sym e ∙ sym (append-nil q.forms) }) h

-- the types, variables and symbols of a program so far are right
pub record RightProgram (q : Program) : Type 0 where
  pub forms : FormsRight q.forms
  pub types : all_there q.forms q.types ≡ true
  pub variables : all_there q.forms q.variables ≡ true
  pub symbols : list_all (symbol_ok q) q.symbols ≡ true

pub record RightKnown (k : Known) : Type 0 where
  pub program : RightProgram k.program
  pub names : RightNames k

-- a type that a name of the program's scope stands for is there
pub type_meant : (k : Known) (x : Symbol) (t : TypeId) → RightProgram k.program → found (program_names k) x ≡ Some (OfType t)
    → type_exists k.program.forms t ≡ true
type_meant k x t r e = by_meaning (OfType t) refl (meant k x (OfType t) e)
  where
    by_meaning : (m : Meaning) → OfType t ≡ m → Meant k x m → type_exists k.program.forms t ≡ true
    by_meaning m h meant_number = subst (λ u. type_exists k.program.forms u ≡ true) (same_type (sym h))
        (number_there k.program.forms r.forms)
    by_meaning m h meant_truth = subst (λ u. type_exists k.program.forms u ≡ true) (same_type (sym h)) (truth_there k.program.forms r.forms)
    by_meaning m h meant_list = absurd (false≢true (sym (ap is_type h)))
    by_meaning m h (meant_constant z g) = absurd (false≢true (sym (ap is_type h)))
    by_meaning m h (meant_type u g) =
        subst (λ v. type_exists k.program.forms v ≡ true) (same_type (sym h))
        (found_all (type_exists k.program.forms) k.program.types x u r.types g)
    by_meaning m h (meant_place u g) = absurd (false≢true (sym (ap is_type h)))
    by_meaning m h (meant_symbol d g) = absurd (false≢true (sym (ap is_type h)))
    by_meaning m h (meant_routine d g) = absurd (false≢true (sym (ap is_type h)))

-- ---- types outside the TYPE part

pub record TypeKept (q : Program) (t : NewType) : Type 0 where
  pub forms : FormsRight t.forms
  pub begins : Begins q.forms t.forms
  pub there : type_exists t.forms t.type ≡ true

-- names that pointers may lead to are those of types that are there
pub written_good : (is_target : Symbol → Bool) (names : List (Symbol × TypeId)) (types : List Written)
    → ((x : Symbol) → is_target x ≡ true → list_any (same_name x) (keys names) ≡ true)
    → list_all (λ (n : Symbol × TypeId). nat_lt n.1.0 (length types)) names ≡ true → GoodText is_target types → GoodWritten names types
written_good is_target names types there below good = record { fits = λ i w e. by_text i w (good.fits i w e) }
  where
    by_text : (i : ℕ) (w : Written) → FitsText is_target (length types) (ranges_in types) i w
        → FitsWritten names (length types) (ranges_in types) i w
    by_text i w (text_built f h) = built_fits f h
    by_text i w (text_target x h) =
        let r = key_found names x (there x h) in
        named_fits x r.item r.is (ltb-true r.item.0 (length types)
        (found_all (λ (t : TypeId). nat_lt t.0 (length types)) names x r.item below r.is))

type_name_there : (p : Program) (x : Symbol) → is_type_name p x ≡ true → list_any (same_name x) (keys p.types) ≡ true
type_name_there p x h = sym (by_names p.types) ∙ h
  where
    by_names : (types : List (Symbol × TypeId))
        → list_any (λ (n : Symbol × TypeId). same_name n.0 x) types ≡ list_any (same_name x) (keys types)
    by_names [] = refl
    by_names (n ∷ types) = ap (λ b. b || list_any (λ (m : Symbol × TypeId). same_name m.0 x) types) (any_turned x n.0)
        ∙ ap (λ b. same_name x n.0 || b) (by_names types)

all_below : (forms : List TypeForm) (m : ℕ) (names : List (Symbol × TypeId)) → length forms ≤ m → all_there forms names ≡ true
    → list_all (λ (n : Symbol × TypeId). nat_lt n.1.0 m) names ≡ true
all_below forms m [] h e = refl
all_below forms m (n ∷ names) h e =
    both_true (lt-ltb n.1.0 m (wider n.1.0 (length forms) m (exists_below forms n.1 (left_true _ _ e)) h))
    (all_below forms m names h (right_true (type_exists forms n.1) _ e))

built_longer : (forms : List TypeForm) (types : List Written) → Begins (map Built forms) types → length forms ≤ length types
built_longer forms types b = subst (λ n. n ≤ length types) (length-map forms Built) (begins_longer (map Built forms) types b)

built_front : (forms : List TypeForm) (types : List Written) → Begins (map Built forms) types → (i : ℕ) (f : TypeForm)
    → item_at forms i ≡ Some f → item_at types i ≡ Some (Built f)
built_front forms types b i f e = begins_item (map Built forms) types i (Built f) b (item_map Built forms i f e)

-- the types of a scope are there
pub record TypesThere (s : Scope) : Type 0 where
  pub each : (x : Symbol) (t : TypeId) → meaning s x ≡ Some (OfType t) → type_exists s.known.program.forms t ≡ true

pub type_kept : (s : Scope) (d : TypeDenoter) (t : NewType) → RightProgram s.known.program → TypesThere s → type_walk s d ≡ Ok t
    → TypeKept s.known.program t
type_kept s d t right there e =
    let p = s.known.program in
    let start = map Built p.forms in
    let result = λ (r : Reading). fine (new_type (merged p.types r.written) r.type) in
    let one = went (denoted s (is_type_name p) start d) result t e in
    let below : TypesBelow (is_type_name p) s start = record {
      each = λ x u k. subst (λ n. u.0 < n) (sym (length-map p.forms Built)) (exists_below p.forms u (there.each x u k));
    } in
    let r = denoted_reads (is_type_name p) s d start one.value (built_good (is_type_name p) p.forms right.forms.good) below one.first in
    let types = one.value.written in
    let good = written_good (is_type_name p) p.types types (type_name_there p)
    (all_below p.forms (length types) p.types (built_longer p.forms types r.reads.begins) right.types) r.reads.good in
    let begins = forms_before p.types types good p.forms right.forms.good (built_front p.forms types r.reads.begins) in
    let forms = (merged p.types types).forms in
    subst (TypeKept p) (same_value one.rest) (record {
      forms = record {
        good = merged_good p.types types good;
        begins =
            begins_then (Integer ∷ Boolean ∷ []) p.forms forms right.forms.begins begins;
      };
      begins = begins;
      there = below_exists forms ((merged p.types types).new one.value.type) (new_below p.types types good one.value.type r.there);
    })

-- ---- constants

pub top_types : (k : Known) → RightProgram k.program → TypesThere (at_top k)
top_types k r = record { each = λ x t e. type_meant k x t r e }

pub const_right : (k l : Known) (c : Const) → RightKnown k → const_walk k c ≡ Ok l → RightKnown l
const_right k l c r e =
    let x = c.name.symbol in
    let next = after (constant (at_top k) c.value) (λ z. fine (with_program k (with_constant k.program x z))) in
    let free = held (is_free k x) (twice c.name) next l e in
    let one = went (constant (at_top k) c.value) (λ z. fine (with_program k (with_constant k.program x z))) l
    (behind_test (is_free k x) (twice c.name) next l e) in
    let after_it = with_program k (with_constant k.program x one.value) in
    let rest = keys k.program.types ++ (keys k.program.variables ++ (symbol_names k.program.symbols ++ heading_names k.headings)) in
    subst RightKnown (same_value one.rest) (record {
      program = record {
        forms = r.program.forms;
        types = r.program.types;
        variables = r.program.variables;
        symbols =
            same_symbols k.program after_it.program k.program.symbols refl r.program.symbols;
      };
      names = names_with k after_it [] (keys k.program.constants) (x ∷ []) rest refl
          (ap (λ l. l ++ rest) (map-append (λ (n : Symbol × ℤ). n.0) k.program.constants (pair x one.value ∷ []))) refl r.names
          (one_new k x free);
    })

-- ---- the TYPE part

pub record RightPart (is_target : Symbol → Bool) (part : TypePart) : Type 0 where
  pub names : RightNames part.known
  pub forms : FormsRight part.known.program.forms
  pub text : GoodText is_target part.written
  pub begins : Begins (map Built part.known.program.forms) part.written
  pub below : list_all (λ (n : Symbol × TypeId). nat_lt n.1.0 (length part.written)) part.known.program.types ≡ true
  pub variables : all_there part.known.program.forms part.known.program.variables ≡ true
  pub symbols : list_all (symbol_ok part.known.program) part.known.program.symbols ≡ true

numbers_longer : (n m : ℕ) (names : List (Symbol × TypeId)) → n ≤ m → list_all (λ (k : Symbol × TypeId). nat_lt k.1.0 n) names ≡ true
    → list_all (λ (k : Symbol × TypeId). nat_lt k.1.0 m) names ≡ true
numbers_longer n m [] h e = refl
numbers_longer n m (k ∷ names) h e =
    both_true (lt-ltb k.1.0 m (wider k.1.0 n m (ltb-true k.1.0 n (left_true _ _ e)) h))
    (numbers_longer n m names h (right_true (nat_lt k.1.0 n) _ e))

part_types : (is_target : Symbol → Bool) (part : TypePart) → RightPart is_target part
    → TypesBelow is_target (at_top part.known) part.written
part_types is_target part r = record { each = λ x t e. by_meaning x t (OfType t) refl (meant part.known x (OfType t) e) }
  where
    forms : List TypeForm
    forms = part.known.program.forms

    in_text : (t : TypeId) → type_exists part.known.program.forms t ≡ true → t.0 < length part.written
    in_text t h = wider t.0 (length part.known.program.forms) (length part.written) (exists_below part.known.program.forms t h)
        (built_longer part.known.program.forms part.written r.begins)

    by_meaning : (x : Symbol) (t : TypeId) (m : Meaning) → OfType t ≡ m → Meant part.known x m → t.0 < length part.written
    by_meaning x t m h meant_number =
        subst (λ (u : TypeId). u.0 < length part.written) (same_type (sym h))
        (in_text (record { 0 = 0 }) (number_there part.known.program.forms r.forms))
    by_meaning x t m h meant_truth =
        subst (λ (u : TypeId). u.0 < length part.written) (same_type (sym h))
        (in_text (record { 0 = 1 }) (truth_there part.known.program.forms r.forms))
    by_meaning x t m h meant_list = absurd (false≢true (sym (ap is_type h)))
    by_meaning x t m h (meant_constant z g) = absurd (false≢true (sym (ap is_type h)))
    by_meaning x t m h (meant_type u g) =
        subst (λ (v : TypeId). v.0 < length part.written) (same_type (sym h))
        (ltb-true u.0 (length part.written)
        (found_all (λ (v : TypeId). nat_lt v.0 (length part.written)) part.known.program.types x u r.below g))
    by_meaning x t m h (meant_place u g) = absurd (false≢true (sym (ap is_type h)))
    by_meaning x t m h (meant_symbol d g) = absurd (false≢true (sym (ap is_type h)))
    by_meaning x t m h (meant_routine d g) = absurd (false≢true (sym (ap is_type h)))

-- a further type has a name of its own
record NextPart (is_target : Symbol → Bool) (part next : TypePart) (x : Symbol) : Type 0 where
  right : RightPart is_target next
  named : (y : Symbol) → list_any (same_name y) (keys part.known.program.types) ≡ true
      → list_any (same_name y) (keys next.known.program.types) ≡ true
  here : list_any (same_name x) (keys next.known.program.types) ≡ true

typedef_right : (is_target : Symbol → Bool) (part next : TypePart) (d : Typedef) → RightPart is_target part
    → typedef_walk is_target part d ≡ Ok next → NextPart is_target part next d.name.symbol
typedef_right is_target part next d r e =
    let k = part.known in
    let p = k.program in
    let x = d.name.symbol in
    let result = λ (t : Reading). fine (typed_part k x t) in
    let step = after (denoted (at_top k) is_target part.written d.of) result in
    let free = held (is_free k x) (twice d.name) step next e in
    let one = went (denoted (at_top k) is_target part.written d.of) result next (behind_test (is_free k x) (twice d.name) step next e) in
    let t = one.value in
    let read = denoted_reads is_target (at_top k) d.of part.written t r.text (part_types is_target part r) one.first in
    let later = typed_part k x t in
    let rest = keys p.variables ++ (symbol_names p.symbols ++ heading_names k.headings) in
    let new_keys : keys (p.types ++ pair x t.type ∷ []) ≡ keys p.types ++ x ∷ [] =
    map-append (λ (n : Symbol × TypeId). n.0) p.types (pair x t.type ∷ []) in
    subst (λ (n : TypePart). NextPart is_target part n x) (same_value one.rest) (record {
      right = record {
        names = names_with k later.known (keys p.constants) (keys p.types) (x ∷ []) rest refl
            (ap (λ l. keys p.constants ++ (l ++ rest)) new_keys) refl r.names (one_new k x free);
        forms = r.forms;
        text = read.reads.good;
        begins = begins_then (map Built p.forms) part.written t.written r.begins read.reads.begins;
        below = all_append (λ (n : Symbol × TypeId). nat_lt n.1.0 (length t.written)) p.types (pair x t.type ∷ [])
            (numbers_longer (length part.written) (length t.written) p.types (begins_longer part.written t.written read.reads.begins)
            r.below)
            (both_true (lt-ltb t.type.0 (length t.written) read.there) refl);
        variables = r.variables;
        symbols = same_symbols p later.known.program p.symbols refl r.symbols;
      };
      named = λ y h. ap (list_any (same_name y)) new_keys
          ∙ (any_append (same_name y) (keys p.types) (x ∷ []) ∙ or_left (list_any (same_name y) (keys p.types)) _ h);
      here = ap (list_any (same_name x)) new_keys
          ∙ (any_append (same_name x) (keys p.types) (x ∷ [])
          ∙ or_right (list_any (same_name x) (keys p.types)) _ (or_left (same_name x x) false (name-refl x)));
    })

pub record AllParts (is_target : Symbol → Bool) (part next : TypePart) (ds : List Typedef) : Type 0 where
  pub right : RightPart is_target next
  pub named : (y : Symbol) → list_any (same_name y) (keys part.known.program.types) ≡ true
      → list_any (same_name y) (keys next.known.program.types) ≡ true
  pub there : (y : Symbol) → list_any (λ (d : Typedef). same_name d.name.symbol y) ds ≡ true
      → list_any (same_name y) (keys next.known.program.types) ≡ true

pub typedefs_right : (is_target : Symbol → Bool) (ds : List Typedef) (part next : TypePart) → RightPart is_target part
    → each (typedef_walk is_target) part ds ≡ Ok next → AllParts is_target part next ds
typedefs_right is_target [] part next r e =
    subst (λ (n : TypePart). AllParts is_target part n []) (same_value e)
    (record { right = r; named = λ y h. h; there = λ y h. absurd (false≢true h) })
typedefs_right is_target (d ∷ ds) part next r e =
    let one = went (typedef_walk is_target part d) (λ n. each (typedef_walk is_target) n ds) next e in
    let first = typedef_right is_target part one.value d r one.first in
    let rest = typedefs_right is_target ds one.value next first.right one.rest in
    record {
      right = rest.right;
      named = λ y h. rest.named y (first.named y h);
      there =
          λ y h. by_name y (same_name d.name.symbol y) refl h one.value.known.program.types next.known.program.types first.here rest.named
          rest.there;
    }
  where
    by_name : (y : Symbol) (b : Bool) → same_name d.name.symbol y ≡ b
        → (b || list_any (λ (c : Typedef). same_name c.name.symbol y) ds) ≡ true
        → (k l : List (Symbol × TypeId)) → list_any (same_name d.name.symbol) (keys k) ≡ true
        → ((z : Symbol) → list_any (same_name z) (keys k) ≡ true → list_any (same_name z) (keys l) ≡ true)
        → ((z : Symbol) → list_any (λ (c : Typedef). same_name c.name.symbol z) ds ≡ true → list_any (same_name z) (keys l) ≡ true)
        → list_any (same_name y) (keys l) ≡ true
    by_name y true i h k l here named there =
        named y (subst (λ z. list_any (same_name z) (keys k) ≡ true) (same_names d.name.symbol y i) here)
    by_name y false i h k l here named there = there y h

pub keys_renamed : (new : TypeId → TypeId) (types : List (Symbol × TypeId))
    → keys (map (λ (n : Symbol × TypeId). pair n.0 (new n.1)) types) ≡ keys types
keys_renamed new [] = refl
keys_renamed new (n ∷ types) = ap (λ l. n.0 ∷ l) (keys_renamed new types)

-- before the first type of the TYPE part
pub start_right : (is_target : Symbol → Bool) (k : Known) → RightKnown k → RightPart is_target (start_part k)
start_right is_target k r = record {
  names = r.names;
  forms = r.program.forms;
  text = built_good is_target k.program.forms r.program.forms.good;
  begins = begins_same (map Built k.program.forms);
  below = all_below k.program.forms (length (map Built k.program.forms)) k.program.types
      (at_least (length k.program.forms) (length (map Built k.program.forms)) (length-map k.program.forms Built)) r.program.types;
  variables = r.program.variables;
  symbols = r.program.symbols;
}
  where
    at_least : (n m : ℕ) → m ≡ n → n ≤ m
    at_least n m e = omega arith

pub part_right : (k l : Known) (ds : List Typedef) → RightKnown k → type_part_walk k ds ≡ Ok l → RightKnown l
part_right k l ds r e =
    let is_target = λ (x : Symbol). list_any (λ (d : Typedef). same_name d.name.symbol x) ds in
    let start = start_part k in
    let one = went (each (typedef_walk is_target) start ds) (λ part. fine (with_merged part)) l e in
    let all = typedefs_right is_target ds start one.value (start_right is_target k r) one.first in
    let part = one.value in
    let p = part.known.program in
    let good = written_good is_target p.types part.written all.there all.right.below all.right.text in
    let m = merged p.types part.written in
    let begins = forms_before p.types part.written good p.forms all.right.forms.good (built_front p.forms part.written all.right.begins) in
    let later = with_merged part in
    let rest = keys p.variables ++ (symbol_names p.symbols ++ heading_names part.known.headings) in
    let same : names_in part.known ≡ names_in later = ap (λ ts. keys p.constants ++ (ts ++ rest)) (sym (keys_renamed m.new p.types)) in
    subst RightKnown (same_value one.rest) (record {
      program = record {
        forms = record {
          good = merged_good p.types part.written good;
          begins =
              begins_then (Integer ∷ Boolean ∷ []) p.forms m.forms all.right.forms.begins begins;
        };
        types = renamed_there m.forms m.new (length part.written)
            (λ t h. below_exists m.forms (m.new t) (new_below p.types part.written good t h)) p.types all.right.below;
        variables = all_longer p.forms m.forms p.variables begins all.right.variables;
        symbols = symbols_longer p later.program p.symbols begins all.right.symbols;
      };
      names = record {
        differ = ap names_differ (sym same) ∙ all.right.names.differ;
        fixed = subst (λ ns. NamesApart ns (fixed_names part.known.start)) same all.right.names.fixed;
      };
    })
  where
    renamed_there : (forms : List TypeForm) (new : TypeId → TypeId) (n : ℕ) → ((t : TypeId) → t.0 < n → type_exists forms (new t) ≡ true)
        → (types : List (Symbol × TypeId)) → list_all (λ (k : Symbol × TypeId). nat_lt k.1.0 n) types ≡ true
        → all_there forms (map (λ (k : Symbol × TypeId). pair k.0 (new k.1)) types) ≡ true
    renamed_there forms new n h [] b = refl
    renamed_there forms new n h (k ∷ types) b =
        both_true (h k.1 (ltb-true k.1.0 n (left_true _ _ b))) (renamed_there forms new n h types (right_true (nat_lt k.1.0 n) _ b))

-- ---- variables

pub vars_right : (k l : Known) (v : Vars) → RightKnown k → vars_walk k v ≡ Ok l → RightKnown l
vars_right k l v r e =
    let p = k.program in
    let result = λ (names : List Symbol) (t : NewType). fine (with_program k (with_variables p t.forms (map (λ x. pair x t.type) names))) in
    let one = went (each (new_name (is_free k)) [] (all_names v.names)) (λ names. after (type_walk (at_top k) v.of) (result names)) l e in
    let two = went (type_walk (at_top k) v.of) (result one.value) l one.rest in
    let fresh = all_fresh (is_free k) (all_names v.names) one.value one.first in
    let t = two.value in
    let kept = type_kept (at_top k) v.of t r.program (top_types k r.program) two.first in
    let more = map (λ x. pair x t.type) one.value in
    let later = with_program k (with_variables p t.forms more) in
    let front = keys p.constants ++ keys p.types in
    let rest = symbol_names p.symbols ++ heading_names k.headings in
    let new_keys : keys (p.variables ++ more) ≡ keys p.variables ++ one.value =
    map-append (λ (n : Symbol × TypeId). n.0) p.variables more ∙ ap (λ l. keys p.variables ++ l) (keys_typed t.type one.value) in
    subst RightKnown (same_value two.rest) (record {
      program = record {
        forms = kept.forms;
        types = all_longer p.forms t.forms p.types kept.begins r.program.types;
        variables = all_append (λ (n : Symbol × TypeId). type_exists t.forms n.1) p.variables more
            (all_longer p.forms t.forms p.variables kept.begins r.program.variables) (all_typed t.forms t.type one.value kept.there);
        symbols = symbols_longer p later.program p.symbols kept.begins r.program.symbols;
      };
      names = names_with k later front (keys p.variables) one.value rest
          (sym (append_assoc (keys p.constants) (keys p.types) (keys p.variables ++ rest)))
          (ap (λ vs. keys p.constants ++ (keys p.types ++ (vs ++ rest))) new_keys
          ∙ sym (append_assoc (keys p.constants) (keys p.types) ((keys p.variables ++ one.value) ++ rest)))
          refl r.names (record { differ = fresh.differ; free = fresh.free });
    })

-- ---- declared symbols

module _ (k : Known) (r : RightProgram k.program) where
  abbrev range : Sort → Bool
  range s = sort_in_range (shapes k.program) s

  named_sort : (line : ℕ) (x : Name) (m : Option Meaning) (s : Sort) → meaning (at_top k) x.symbol ≡ m
      → sort_named k.program.forms line x m ≡ Ok s → range s ≡ true
  named_sort line x None s h e = absurd (no_fault e)
  named_sort line x (Some (OfType t)) s h e =
      subst (λ q. range q ≡ true) (same_value e) (sort_there k.program t r.forms (type_meant k x.symbol t r h))
  named_sort line x (Some OfList) s h e = subst (λ q. range q ≡ true) (same_value e) refl
  named_sort line x (Some (OfConstant z)) s h e = absurd (no_fault e)
  named_sort line x (Some (OfPlace t)) s h e = absurd (no_fault e)
  named_sort line x (Some (OfStart q)) s h e = absurd (no_fault e)
  named_sort line x (Some (OfSymbol d)) s h e = absurd (no_fault e)
  named_sort line x (Some (OfRoutine d)) s h e = absurd (no_fault e)

  named_class : (line : ℕ) (x : Name) (m : Option Meaning) (t : TypeId) → meaning (at_top k) x.symbol ≡ m → class_named line x m ≡ Ok t
      → type_exists k.program.forms t ≡ true
  named_class line x None t h e = absurd (no_fault e)
  named_class line x (Some (OfType u)) t h e =
      subst (λ v. type_exists k.program.forms v ≡ true) (same_value e) (type_meant k x.symbol u r h)
  named_class line x (Some OfList) t h e = absurd (no_fault e)
  named_class line x (Some (OfConstant z)) t h e = absurd (no_fault e)
  named_class line x (Some (OfPlace u)) t h e = absurd (no_fault e)
  named_class line x (Some (OfStart q)) t h e = absurd (no_fault e)
  named_class line x (Some (OfSymbol d)) t h e = absurd (no_fault e)
  named_class line x (Some (OfRoutine d)) t h e = absurd (no_fault e)

  form_sort : (line : ℕ) (f : NameOrClass) (s : Sort) → sort_walk k (sort_name line f) ≡ Ok s → range s ≡ true
  form_sort line (written.Name x) s e = named_sort line x (meaning (at_top k) x.symbol) s refl e
  form_sort line (written.Class x) s e =
      let one = went (class_named line x (meaning (at_top k) x.symbol)) (λ t. fine (sort.Class t)) s e in
      subst (λ q. range q ≡ true) (same_value one.rest)
      (class_there k.program one.value (named_class line x (meaning (at_top k) x.symbol) one.value refl one.first))

  walked_sort : (n : SortName) (s : Sort) → sort_walk k n ≡ Ok s → range s ≡ true
  walked_sort n s e = form_sort n.line n.form s e

  walked_sorts : (ns : List SortName) (sorts : List Sort) → all_of (sort_walk k) ns ≡ Ok sorts → list_all range sorts ≡ true
  walked_sorts [] sorts e = subst (λ ss. list_all range ss ≡ true) (same_value e) refl
  walked_sorts (n ∷ ns) sorts e =
      let one = went (sort_walk k n) (λ s. after (all_of (sort_walk k) ns) (λ others. fine (s ∷ others))) sorts e in
      let two = went (all_of (sort_walk k) ns) (λ others. fine (one.value ∷ others)) sorts one.rest in
      subst (λ ss. list_all range ss ≡ true) (same_value two.rest)
      (both_true (walked_sort n one.value one.first) (walked_sorts ns two.value two.first))

pub symbol_right : (k l : Known) (d : SymbolText) → RightKnown k → symbol_walk k d ≡ Ok l → RightKnown l
symbol_right k l d r e =
    let p = k.program in
    let x = d.name.symbol in
    let result = λ (args : List Sort) (s : Sort). fine (with_program k (with_symbol p (declaration x args s))) in
    let step = after (all_of (sort_walk k) (sorts_in_brackets d.arguments)) (λ args. after (sort_walk k d.result) (result args)) in
    let free = held (is_free_for_call k x) (twice d.name) step l e in
    let one = went (all_of (sort_walk k) (sorts_in_brackets d.arguments)) (λ args. after (sort_walk k d.result) (result args)) l
    (behind_test (is_free_for_call k x) (twice d.name) step l e) in
    let two = went (sort_walk k d.result) (result one.value) l one.rest in
    let new = declaration x one.value two.value in
    let later = with_program k (with_symbol p new) in
    let front = keys p.constants ++ (keys p.types ++ keys p.variables) in
    let rest = heading_names k.headings in
    let turn = λ (last : List Symbol). append_assoc (keys p.constants) (keys p.types ++ keys p.variables) last
    ∙ ap (λ l. keys p.constants ++ l) (append_assoc (keys p.types) (keys p.variables) last) in
    let new_names : symbol_names (p.symbols ++ new ∷ []) ≡ symbol_names p.symbols ++ x ∷ [] =
    map-append (λ (s : Decl). s.name) p.symbols (new ∷ []) in
    subst RightKnown (same_value two.rest) (record {
      program = record {
        forms = r.program.forms;
        types = r.program.types;
        variables = r.program.variables;
        symbols = all_append (symbol_ok later.program) p.symbols (new ∷ []) (same_symbols p later.program p.symbols refl r.program.symbols)
            (both_true (both_true (walked_sorts k r.program (sorts_in_brackets d.arguments) one.value one.first)
            (walked_sort k r.program d.result two.value two.first)) refl);
      };
      names = names_with k later front (symbol_names p.symbols) (x ∷ []) rest (sym (turn (symbol_names p.symbols ++ rest)))
          (ap (λ ss. keys p.constants ++ (keys p.types ++ (keys p.variables ++ (ss ++ rest)))) new_names
          ∙ sym (turn ((symbol_names p.symbols ++ x ∷ []) ++ rest)))
          refl r.names (one_new k x (left_true _ _ free));
    })

-- ---- all of them

pub declarations_right : (k l : Known) (d : Declarations) → RightKnown k → declarations_walk k d ≡ Ok l → RightKnown l
declarations_right k l d r e =
    let last = λ (c : Known). each symbol_walk c d.symbols in
    let third = λ (b : Known). after (each vars_walk b d.variables) last in
    let one = went (each const_walk k d.constants) (λ a. after (type_part_walk a d.types) third) l e in
    let two = went (type_part_walk one.value d.types) third l one.rest in
    let three = went (each vars_walk two.value d.variables) last l two.rest in
    let a = each_keeps RightKnown const_walk (λ s t x h f. const_right s t x h f) d.constants k one.value r one.first in
    let b = part_right one.value two.value d.types a two.first in
    let c = each_keeps RightKnown vars_walk (λ s t x h f. vars_right s t x h f) d.variables two.value three.value b three.first in
    each_keeps RightKnown symbol_walk (λ s t x h f. symbol_right s t x h f) d.symbols three.value l c three.rest
