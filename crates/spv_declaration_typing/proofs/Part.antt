-- The TYPE part: the names that it declares, and its types one after the other.
use Rattle.std.proofs.Common.{◌≡◌, ℕ, suc, ◌<◌, ◌≤◌, ◌+◌, Bool, true, false, cond, ◌||◌, Option, Some, None, List, [], ◌∷◌, ◌++◌, map, drop, length, get_or, Ok, is_some, refl, sym, ap, ◌∙◌, subst, arith}
use Rattle.std.specs.List.{list_any}
use Rattle.std.proofs.lemmas.List.{append-nil, drop_all}
use Rattle.std.proofs.Math.Seq.{drop-cons}
use Rattle.spv_logic.specs.declared.names.names.Symbol.{Symbol}
use Rattle.spv_tree.specs.declared.syntax.declarations.Typedef.{Typedef}
use Rattle.spv_program.specs.Lists.{found, first_of, same_name}
use Rattle.spv_typing.specs.declared.faults.TypeFault.{TypeFault}
use Rattle.spv_typing.specs.Outcomes.{Outcome, after, each}
use Rattle.spv_typing.specs.Merging.{Built}
use Rattle.spv_typing.specs.Known.{Known}
use Rattle.spv_typing.specs.DeclarationWalk as spec
use Rattle.spv_environments.specs.Answers.{Stops}
use Rattle.spv_declaration_typing.specs.declared.pointer_types.written.Written.{Written}
use Rattle.spv_declaration_typing.proofs.type_typing.Each.{stops_after}
use Rattle.spv_declaration_typing.proofs.type_typing.NewFields.{found_append}
use Rattle.spv_declaration_typing.specs.Parts.{part_of, is_in}

abbrev named_so : Symbol → Typedef → Bool
named_so x d = same_name d.name.symbol x

-- the names so far, and those that are still to come
pub record NamesSoFar (types : List Typedef) (place : ℕ) (names : List (Symbol × ℕ)) : Type 0 where
  pub among : (x : Symbol) → (is_in names x || list_any (named_so x) (drop place types)) ≡ list_any (named_so x) types

pub no_names_yet : (types : List Typedef) (names : List (Symbol × ℕ)) → names ≡ [] → NamesSoFar types 0 names
no_names_yet types names none = record { among = λ x. ap (λ (l : List (Symbol × ℕ)). is_in l x || list_any (named_so x) types) none }

pub one_name_more : (types : List Typedef) (place : ℕ) (names grown : List (Symbol × ℕ)) (d : Typedef) → place < length types → d ≡ get_or types place d
    → ((y : Symbol) → is_in grown y ≡ (is_in names y || same_name d.name.symbol y)) → NamesSoFar types place names → NamesSoFar types (place + 1) grown
one_name_more types place names grown d within is more so_far = record {
  among = λ x.
      ap (λ (n : ℕ). is_in grown x || list_any (named_so x) (drop n types)) (further place)
      ∙ (ap (λ b. b || list_any (named_so x) (drop (suc place) types)) (more x)
      ∙ (grouped (is_in names x) (named_so x d) (list_any (named_so x) (drop (suc place) types))
      ∙ (ap (λ (l : List Typedef). is_in names x || list_any (named_so x) l) (sym (drop-cons types place d within ∙ ap (λ (y : Typedef). y ∷ drop (suc place) types) (sym is)))
      ∙ so_far.among x)));
}
  where
    further : (n : ℕ) → n + 1 ≡ suc n
    further n = omega arith

    grouped : (a b c : Bool) → ((a || b) || c) ≡ (a || (b || c))
    grouped true b c = refl
    grouped false b c = refl

pub all_names_known : (types : List Typedef) (place : ℕ) (names : List (Symbol × ℕ)) → length types ≤ place → NamesSoFar types place names
    → (x : Symbol) → is_in names x ≡ list_any (named_so x) types
all_names_known types place names past so_far x =
    sym (ap (λ (l : List Typedef). is_in names x || list_any (named_so x) l) (drop_all place types past) ∙ or_false (is_in names x)) ∙ so_far.among x
  where
    or_false : (b : Bool) → (b || false) ≡ b
    or_false true = refl
    or_false false = refl

one_in : (o : Option ℕ) (b : Bool) (line : ℕ) → is_some (first_of o (cond b (Some line) None)) ≡ (is_some o || b)
one_in (Some l) b line = refl
one_in None true line = refl
one_in None false line = refl

pub name_put : (old grown : List (Symbol × ℕ)) (x : Symbol) (line : ℕ) → grown ≡ old ++ (x, line) ∷ [] → (y : Symbol) → is_in grown y ≡ (is_in old y || same_name x y)
name_put old grown x line pushed y =
    ap (λ (l : List (Symbol × ℕ)). is_in l y) pushed ∙ (ap is_some (found_append old ((x, line) ∷ []) y) ∙ one_in (found old y) (same_name x y) line)

-- ---- the whole part

module _ (k : Known) (types : List Typedef) (names : List (Symbol × ℕ)) (known_names : (x : Symbol) → is_in names x ≡ list_any (named_so x) types)
    (start : List Written) (none : start ≡ []) where
  abbrev merging : spec.TypePart → Outcome Known
  merging part = Ok (spec.with_merged part)

  opened : spec.type_part_walk k types ≡ after (each (spec.typedef_walk (is_in names)) (part_of k start) types) merging
  opened =
      ap (λ (test : Symbol → Bool). after (each (spec.typedef_walk test) (record { known = k; written = map Built k.program.forms }) types) merging) (λ i x. sym (known_names x) i)
      ∙ ap (λ (part : spec.TypePart). after (each (spec.typedef_walk (is_in names)) part types) merging) begun
    where
      begun : (let part : spec.TypePart = record { known = k; written = map Built k.program.forms } in part) ≡ part_of k start
      begun = λ i. record { known = k; written = same i }
        where
          same : map Built k.program.forms ≡ (part_of k start).written
          same = sym (append-nil (map Built k.program.forms)) ∙ ap (λ (ws : List Written). (part_of k ws).written) (sym none)

  pub part_done : (later : Known) (grown : List Written) (whole : Known) → each (spec.typedef_walk (is_in names)) (part_of k start) types ≡ Ok (part_of later grown)
      → whole ≡ spec.with_merged (part_of later grown) → spec.type_part_walk k types ≡ Ok whole
  part_done later grown whole h is = opened ∙ (ap (λ (o : Outcome spec.TypePart). after o merging) h ∙ ap (λ (w : Known). let o : Outcome Known = Ok w in o) (sym is))

  pub part_stops : (e : TypeFault) → Stops e (each (spec.typedef_walk (is_in names)) (part_of k start) types) → Stops e (spec.type_part_walk k types)
  part_stops e h = subst (Stops e) (sym opened) (stops_after e (each (spec.typedef_walk (is_in names)) (part_of k start) types) merging h)
