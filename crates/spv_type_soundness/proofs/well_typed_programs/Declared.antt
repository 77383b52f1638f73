-- The declarations of a text are right, and nothing but declarations changes with them.
use Rattle.std.proofs.Common.{◌≡◌, ℕ, zero, suc, Bool, true, false, List, [], ◌∷◌, ◌++◌, map, length, Some, refl, sym, ap, ◌∙◌, subst}
use Rattle.std.specs.Prelude.{Ok}
use Rattle.std.specs.List.{list_any}
use Rattle.std.specs.Cmp.Derive.{both_true}
use Rattle.std.proofs.lemmas.Bool.{false≢true, eq-eqb}
use Rattle.spv_logic.specs.declared.names.names.Symbol.{Symbol}
use Rattle.spv_logic.specs.declared.types.TypeId.{TypeId}
use Rattle.spv_logic.specs.declared.types.Sort.{Sort}
use Rattle.spv_tree.specs.declared.syntax.declarations.Const.{Const}
use Rattle.spv_tree.specs.declared.syntax.declarations.Typedef.{Typedef}
use Rattle.spv_tree.specs.declared.syntax.declarations.Vars.{Vars}
use Rattle.spv_tree.specs.declared.syntax.declarations.SymbolText.{SymbolText}
use Rattle.spv_tree.specs.declared.syntax.declarations.Declarations.{Declarations}
use Rattle.spv_program.specs.declared.types.TypeForm.{TypeForm}
use Rattle.spv_program.specs.declared.types.TypeForm.TheVariants.{Integer, Boolean, Pointer}
use Rattle.spv_program.specs.Lists.{item_at, same_name, names_differ}
use Rattle.spv_program.specs.Programs.{Routine, Main, Program}
use Rattle.spv_program.specs.Typing.{declarations_ok}
use Rattle.spv_program.proofs.SortFacts.{nothing_there, some_is}
use Rattle.spv_typing.specs.Outcomes.{after, each, all_of, twice}
use Rattle.spv_typing.specs.Known.{KnownNames, Heading, Known, at_top, is_free, is_free_for_call, integer_type, boolean_type}
use Rattle.spv_typing.specs.TypeWalk.{all_names, constant, Reading, denoted}
use Rattle.spv_typing.specs.DeclarationWalk.{with_program, with_constant, with_types, with_variables, with_symbol, const_walk, TypePart, typedef_walk, with_merged, type_part_walk, NewType, type_walk, new_name, vars_walk, sort_walk, sorts_in_brackets, symbol_walk, declarations_walk}
use Rattle.spv_typing.specs.ProgramWalk.{titles_from, titles_of, known_at_first, with_main}
use Rattle.spv_type_soundness.proofs.well_typed.Outcomes.{fine, same_value, went, behind_test}
use Rattle.spv_type_soundness.specs.well_typed_programs.Programs.{DeclarationsAreRight}
use Rattle.spv_type_soundness.proofs.well_typed_programs.Finding.{pair, keys}
use Rattle.spv_type_soundness.proofs.well_typed_programs.Labels.{each_keeps}
use Rattle.spv_type_soundness.proofs.well_typed_programs.RightForms.{Fits, integer_fits, boolean_fits, ranges_of, GoodForms}
use Rattle.spv_type_soundness.proofs.well_typed_programs.Denoted.{begins_same}
use Rattle.spv_type_soundness.proofs.well_typed_programs.Naming.{symbol_names, heading_names}
use Rattle.spv_type_soundness.proofs.well_typed_programs.Declaring.{forms_pass, same_symbols, RightProgram, RightKnown, typed_part, start_part, declaration, declarations_right}

-- ---- what declarations leave alone

pub record Same (k l : Known) : Type 0 where
  pub start : l.start ≡ k.start
  pub routines : l.program.routines ≡ k.program.routines
  pub headings : l.headings ≡ k.headings
  pub awaited : l.awaited ≡ k.awaited

same_none : (k : Known) → Same k k
same_none k = record { start = refl; routines = refl; headings = refl; awaited = refl }

-- a program with other declarations and the same routines
same_with : (k l : Known) (p : Program) → p.routines ≡ k.program.routines → with_program k p ≡ l → Same k l
same_with k l p e h = subst (Same k) h (record { start = refl; routines = e; headings = refl; awaited = refl })

pub same_then : (j k l : Known) → Same j k → Same k l → Same j l
same_then j k l a b = record {
  start = b.start ∙ a.start;
  routines = b.routines ∙ a.routines;
  headings = b.headings ∙ a.headings;
  awaited = b.awaited ∙ a.awaited;
}

const_same : (k l : Known) (c : Const) → const_walk k c ≡ Ok l → Same k l
const_same k l c e =
    let x = c.name.symbol in
    let next = after (constant (at_top k) c.value) (λ z. fine (with_program k (with_constant k.program x z))) in
    let one = went (constant (at_top k) c.value) (λ z. fine (with_program k (with_constant k.program x z))) l
    (behind_test (is_free k x) (twice c.name) next l e) in
    same_with k l (with_constant k.program x one.value) refl (same_value one.rest)

typedef_same : (is_target : Symbol → Bool) (part next : TypePart) (d : Typedef) → typedef_walk is_target part d ≡ Ok next
    → Same part.known next.known
typedef_same is_target part next d e =
    let k = part.known in
    let result = λ (t : Reading). fine (typed_part k d.name.symbol t) in
    let step = after (denoted (at_top k) is_target part.written d.of) result in
    let one = went (denoted (at_top k) is_target part.written d.of) result next
    (behind_test (is_free k d.name.symbol) (twice d.name) step next e) in
    same_with k next.known (with_types k.program k.program.forms (k.program.types ++ pair d.name.symbol one.value.type ∷ [])) refl
    (ap (λ (n : TypePart). n.known) (same_value one.rest))

part_same : (k l : Known) (ds : List Typedef) → type_part_walk k ds ≡ Ok l → Same k l
part_same k l ds e =
    let is_target = λ (x : Symbol). list_any (λ (d : Typedef). same_name d.name.symbol x) ds in
    let one = went (each (typedef_walk is_target) (start_part k) ds) (λ part. fine (with_merged part)) l e in
    let inner = each_keeps (λ (n : TypePart). Same k n.known) (typedef_walk is_target)
    (λ s t d h f. same_then k s.known t.known h (typedef_same is_target s t d f)) ds (start_part k) one.value (same_none k) one.first in
    same_then k one.value.known l inner
    (subst (Same one.value.known) (same_value one.rest) (record { start = refl; routines = refl; headings = refl; awaited = refl }))

vars_same : (k l : Known) (v : Vars) → vars_walk k v ≡ Ok l → Same k l
vars_same k l v e =
    let p = k.program in
    let result = λ (names : List Symbol) (t : NewType). fine (with_program k (with_variables p t.forms (map (λ x. pair x t.type) names))) in
    let one = went (each (new_name (is_free k)) [] (all_names v.names)) (λ names. after (type_walk (at_top k) v.of) (result names)) l e in
    let two = went (type_walk (at_top k) v.of) (result one.value) l one.rest in
    same_with k l (with_variables p two.value.forms (map (λ x. pair x two.value.type) one.value)) refl (same_value two.rest)

symbol_same : (k l : Known) (d : SymbolText) → symbol_walk k d ≡ Ok l → Same k l
symbol_same k l d e =
    let p = k.program in
    let x = d.name.symbol in
    let result = λ (args : List Sort) (s : Sort). fine (with_program k (with_symbol p (declaration x args s))) in
    let step = after (all_of (sort_walk k) (sorts_in_brackets d.arguments)) (λ args. after (sort_walk k d.result) (result args)) in
    let one = went (all_of (sort_walk k) (sorts_in_brackets d.arguments)) (λ args. after (sort_walk k d.result) (result args)) l
    (behind_test (is_free_for_call k x) (twice d.name) step l e) in
    let two = went (sort_walk k d.result) (result one.value) l one.rest in
    same_with k l (with_symbol p (declaration x one.value two.value)) refl (same_value two.rest)

pub declarations_same : (k l : Known) (d : Declarations) → declarations_walk k d ≡ Ok l → Same k l
declarations_same k l d e =
    let last = λ (c : Known). each symbol_walk c d.symbols in
    let third = λ (b : Known). after (each vars_walk b d.variables) last in
    let one = went (each const_walk k d.constants) (λ a. after (type_part_walk a d.types) third) l e in
    let two = went (type_part_walk one.value d.types) third l one.rest in
    let three = went (each vars_walk two.value d.variables) last l two.rest in
    let a = each_keeps (Same k) const_walk (λ s t x h f. same_then k s t h (const_same s t x f)) d.constants k one.value (same_none k)
    one.first in
    let b = same_then k one.value two.value a (part_same one.value two.value d.types two.first) in
    let c = each_keeps (Same k) vars_walk (λ s t x h f. same_then k s t h (vars_same s t x f)) d.variables two.value three.value b
    three.first in
    each_keeps (Same k) symbol_walk (λ s t x h f. same_then k s t h (symbol_same s t x f)) d.symbols three.value l c three.rest

-- ---- a program before its first declaration

abbrev is_plain : TypeForm → Bool
is_plain (Pointer t) = false
is_plain _ = true

first_good : GoodForms (Integer ∷ Boolean ∷ [])
first_good = record {
  fits = λ i f e. fits i f e;
  settled = λ i j t e f. absurd (no_pointer i t e);
}
  where
    fits : (i : ℕ) (f : TypeForm) → item_at (Integer ∷ Boolean ∷ []) i ≡ Some f → Fits 2 (ranges_of (Integer ∷ Boolean ∷ [])) i f
    fits zero f e = subst (Fits 2 (ranges_of (Integer ∷ Boolean ∷ [])) 0) (some_is e) integer_fits
    fits (suc zero) f e = subst (Fits 2 (ranges_of (Integer ∷ Boolean ∷ [])) 1) (some_is e) boolean_fits
    fits (suc (suc i)) f e = absurd (nothing_there e)

    no_pointer : (i : ℕ) (t : TypeId) → item_at (Integer ∷ Boolean ∷ []) i ≡ Some (Pointer t) → ⊥
    no_pointer zero t e = false≢true (sym (ap is_plain (some_is e)))
    no_pointer (suc zero) t e = false≢true (sym (ap is_plain (some_is e)))
    no_pointer (suc (suc i)) t e = nothing_there e

pub first_right : (start : KnownNames) → RightKnown (known_at_first start)
first_right start = record {
  program = record {
    forms = record { good = first_good; begins = begins_same (Integer ∷ Boolean ∷ []) };
    types = refl;
    variables = refl;
    symbols = refl;
  };
  names = record { differ = refl; fixed = record { apart = λ x e. absurd (false≢true e) } };
}

-- ---- the program that declarations make

pub titles_length : (names : List (Symbol × TypeId)) (t : ℕ) (forms : List TypeForm) → length (titles_from names t forms) ≡ length forms
titles_length names t [] = refl
titles_length names t (f ∷ forms) = ap suc (titles_length names (suc t) forms)

abbrev first_names : KnownNames → Program → List (Symbol × TypeId)
first_names start p = pair start.integer integer_type ∷ pair start.boolean boolean_type ∷ p.types

-- right declarations, and routines whose names are none of theirs
pub declared_ok : (start : KnownNames) (p : Program) (m : Main) → RightProgram p
    → names_differ (keys p.constants
    ++ (keys p.types ++ (keys p.variables ++ (symbol_names p.symbols ++ map (λ (r : Routine). r.name) p.routines)))) ≡ true
    → declarations_ok (with_main start p m) ≡ true
declared_ok start p m r differ =
    both_true (forms_pass p.forms r.forms)
    (both_true (eq-eqb (length (titles_of start p)) (length p.forms) (titles_length (first_names start p) 0 p.forms))
    (both_true r.types (both_true r.variables (both_true (same_symbols p (with_main start p m) p.symbols refl r.symbols) differ))))

pub declarations_are_right : DeclarationsAreRight
declarations_are_right start d k m e =
    let right = declarations_right (known_at_first start) k d (first_right start) e in
    let same = declarations_same (known_at_first start) k d e in
    let no_heads : heading_names k.headings ≡ map (λ (r : Routine). r.name) k.program.routines =
    ap (map (λ (h : Heading). h.name)) same.headings ∙ sym (ap (map (λ (r : Routine). r.name)) same.routines) in
    declared_ok start k.program m right.program
    (ap (λ ns. names_differ (keys k.program.constants
    ++ (keys k.program.types ++ (keys k.program.variables ++ (symbol_names k.program.symbols ++ ns))))) (sym no_heads)
    ∙ right.names.differ)
