-- What a rule file knows of a program: its types, and no symbols but its own.
use Rattle.std.proofs.Common.{◌≡◌, ℕ, ℤ, Bool, true, false, cond, List, [], ◌∷◌, ◌++◌, Option, Some, None, refl, sym, ap, ◌∙◌, subst}
use Rattle.std.specs.Prelude.{nat_eq, nat_lt, Ok}
use Rattle.std.specs.List.{list_all}
use Rattle.std.specs.Cmp.Derive.{both_true}
use Rattle.std.proofs.lemmas.Bool.{eqb-true}
use Rattle.std.proofs.lemmas.List.{append-nil, length-map}
use Rattle.spv_logic.proofs.list.Tests.{left_true, right_true}
use Rattle.spv_logic.specs.declared.names.names.Symbol.{Symbol}
use Rattle.spv_logic.specs.declared.types.TypeId.{TypeId}
use Rattle.spv_logic.specs.declared.types.Sort.{Sort}
use Rattle.spv_logic.specs.declared.types.Sort.TheVariants as sort
use Rattle.spv_logic.specs.declared.types.Decl.{Decl}
use Rattle.spv_logic.specs.Sorts.{declared, sort_in_range}
use Rattle.spv_tree.specs.declared.syntax.names.Name.{Name}
use Rattle.spv_tree.specs.declared.syntax.declarations.NameOrClass.TheVariants as written
use Rattle.spv_tree.specs.declared.syntax.declarations.NameOrClass.{NameOrClass}
use Rattle.spv_tree.specs.declared.syntax.rules.RuleVars.{RuleVars}
use Rattle.spv_program.specs.declared.types.TypeForm.{TypeForm}
use Rattle.spv_program.specs.Types.{type_exists, shape_of_form}
use Rattle.spv_program.specs.Programs.{Program, shapes}
use Rattle.spv_program.specs.Scopes as program
use Rattle.spv_program.specs.Typing.{symbol_ok}
use Rattle.spv_program.proofs.SortFacts.{nothing_there, some_is}
use Rattle.spv_typing.specs.Outcomes.{after, each}
use Rattle.spv_typing.specs.Known.{KnownNames, Known, OfType, OfList, OfConstant, OfPlace, OfStart, OfSymbol, OfRoutine, Meaning, is_free, meaning}
use Rattle.spv_typing.specs.TypeWalk.{all_names}
use Rattle.spv_typing.specs.DeclarationWalk.{with_program, with_constant, with_types, with_symbol, new_name, sort_named, class_named}
use Rattle.spv_type_soundness.specs.well_typed.Laws.{SeesAlike}
use Rattle.spv_type_soundness.proofs.well_typed.Outcomes.{fine, no_fault, same_value, went}
use Rattle.spv_type_soundness.proofs.well_typed.Names.{type_range}
use Rattle.spv_type_soundness.proofs.well_typed_programs.Declaring.{FormsRight, RightProgram, all_there, all_append, same_symbols}
use Rattle.spv_type_soundness.proofs.well_typed_programs.Seeing.{plain_starts, sees_starts, sees_alike}
use Rattle.spv_rule_files.specs.Outcomes.{fold}
use Rattle.spv_rule_files.specs.Scopes.{known_types, constant_if_free, type_if_free, symbol_if_free, rule_known, rule_scope, is_free_variable}
use Rattle.spv_rule_files.specs.Variables.{sort_in, of_sort, variables_walk}
use Rattle.spv_rule_files.proofs.Programs.{Declared}

-- a symbol behind others
declared_behind : (ds : List Decl) (d e : Decl) (x : ℕ) → declared (ds ++ d ∷ []) x ≡ Some e → (P : Type 0) → (declared ds x ≡ Some e → P)
    → (d.name.0 ≡ x → d ≡ e → P) → P
declared_behind [] d e x h P before last = by_name (nat_eq d.name.0 x) refl h
  where
    by_name : (b : Bool) → nat_eq d.name.0 x ≡ b → cond b (Some d) None ≡ Some e → P
    by_name true k f = last (eqb-true d.name.0 x k) (some_is f)
    by_name false k f = absurd (nothing_there f)
declared_behind (c ∷ ds) d e x h P before last = by_name (nat_eq c.name.0 x) refl h (λ f go. declared_behind ds d e x f P go last)
  where
    by_name : (b : Bool) → nat_eq c.name.0 x ≡ b → cond b (Some c) (declared (ds ++ d ∷ []) x) ≡ Some e
        → (declared (ds ++ d ∷ []) x ≡ Some e → (declared ds x ≡ Some e → P) → P) → P
    by_name true k f later = before (ap (λ b. cond b (Some c) (declared ds x)) k ∙ f)
    by_name false k f later = later f (λ g. before (ap (λ b. cond b (Some c) (declared ds x)) k ∙ g))

abbrev constant_when : Known → Symbol × ℤ → Known
constant_when k c = with_program k (with_constant k.program c.0 c.1)

abbrev type_when : Known → Symbol × TypeId → Known
type_when k n = with_program k (with_types k.program k.program.forms (k.program.types ++ (n.0, n.1) ∷ []))

abbrev symbol_when : Known → Decl → Known
symbol_when k d = with_program k (with_symbol k.program d)

module _ (p : Program) where
  pub record KnowsOf (k : Known) : Type 0 where
    pub forms : k.program.forms ≡ p.forms
    pub variables : k.program.variables ≡ []
    pub types : all_there p.forms k.program.types ≡ true
    pub right : list_all (symbol_ok p) k.program.symbols ≡ true
    pub symbols : (x : ℕ) (d : Decl) → declared k.program.symbols x ≡ Some d → declared p.symbols x ≡ Some d

  with_constant_known : (k : Known) (c : Symbol × ℤ) → KnowsOf k → KnowsOf (constant_if_free k c)
  with_constant_known k c h = by_case (is_free k c.0)
    where
      by_case : (b : Bool) → KnowsOf (cond b (constant_when k c) k)
      by_case true = record { forms = h.forms; variables = h.variables; types = h.types; right = h.right; symbols = h.symbols }
      by_case false = h

  with_type_known : (k : Known) (n : Symbol × TypeId) → type_exists p.forms n.1 ≡ true → KnowsOf k → KnowsOf (type_if_free k n)
  with_type_known k n there h = by_case (is_free k n.0)
    where
      by_case : (b : Bool) → KnowsOf (cond b (type_when k n) k)
      by_case true = record {
        forms = h.forms;
        variables = h.variables;
        types = all_append (λ (m : Symbol × TypeId). type_exists p.forms m.1) k.program.types ((n.0, n.1) ∷ []) h.types (both_true there refl);
        right = h.right;
        symbols = h.symbols;
      }
      by_case false = h

  with_symbol_known : (k : Known) (d : Decl) → symbol_ok p d ≡ true → declared p.symbols d.name.0 ≡ Some d → KnowsOf k → KnowsOf (symbol_if_free k d)
  with_symbol_known k d ok is h = by_case (is_free k d.name)
    where
      by_case : (b : Bool) → KnowsOf (cond b (symbol_when k d) k)
      by_case true = record {
        forms = h.forms;
        variables = h.variables;
        types = h.types;
        right = all_append (symbol_ok p) k.program.symbols (d ∷ []) h.right (both_true ok refl);
        symbols = λ x e f. declared_behind k.program.symbols d e x f (declared p.symbols x ≡ Some e) (λ g. h.symbols x e g)
            (λ name same. subst (λ (n : ℕ). declared p.symbols n ≡ Some e) name (is ∙ ap Some same));
      }
      by_case false = h

  constants_known : (k : Known) (cs : List (Symbol × ℤ)) → KnowsOf k → KnowsOf (fold constant_if_free k cs)
  constants_known k [] h = h
  constants_known k (c ∷ cs) h = constants_known (constant_if_free k c) cs (with_constant_known k c h)

  types_known : (k : Known) (ns : List (Symbol × TypeId)) → all_there p.forms ns ≡ true → KnowsOf k → KnowsOf (fold type_if_free k ns)
  types_known k [] there h = h
  types_known k (n ∷ ns) there h =
      types_known (type_if_free k n) ns (right_true (type_exists p.forms n.1) _ there) (with_type_known k n (left_true _ _ there) h)

  symbols_known : (k : Known) (ds : List Decl) → list_all (symbol_ok p) ds ≡ true → Declared p.symbols ds → KnowsOf k → KnowsOf (fold symbol_if_free k ds)
  symbols_known k [] ok is h = h
  symbols_known k (d ∷ ds) ok is h =
      symbols_known (symbol_if_free k d) ds (right_true (symbol_ok p d) _ ok) is.1 (with_symbol_known k d (left_true _ _ ok) is.0 h)

  pub knows : (start : KnownNames) → RightProgram p → Declared p.symbols p.symbols → KnowsOf (rule_known start p)
  knows start r is =
      symbols_known _ p.symbols r.symbols is
      (types_known _ p.types r.types
      (constants_known (known_types start p) p.constants
      (record { forms = refl; variables = refl; types = refl; right = refl; symbols = λ x d e. absurd (nothing_there e) })))

  -- ---- what is known is right, and what rules see

  module _ (k : Known) (h : KnowsOf k) (right : RightProgram p) where
    abbrev q : Program
    q = k.program

    pub right_known : RightProgram q
    right_known = record {
      forms = subst FormsRight (sym h.forms) right.forms;
      types = subst (λ (l : List TypeForm). all_there l q.types ≡ true) (sym h.forms) h.types;
      variables = subst (λ (l : List (Symbol × TypeId)). all_there q.forms l ≡ true) (sym h.variables) refl;
      symbols = same_symbols p q q.symbols (sym h.forms) h.right;
    }

    abbrev pub InRange : program.Scope → Type 0
    InRange vars = list_all (λ (n : Symbol × Sort). sort_in_range (shapes q) n.1) vars ≡ true

    pub sees : (vars : program.Scope) → InRange vars → SeesAlike (rule_scope k vars) vars
    sees vars all =
        subst (SeesAlike (rule_scope k vars))
        (ap (λ (l : List (Symbol × TypeId)). vars ++ program.with_sorts_of q l) h.variables ∙ append-nil vars)
        (sees_alike (rule_scope k vars) right_known (plain_starts q vars all) vars (sees_starts q vars))

    -- ---- variables

    there_as_shape : (t : TypeId) → type_exists q.forms t ≡ true → sort_in_range (shapes q) (sort.Class t) ≡ true
    there_as_shape t e = ap (nat_lt t.0) (length-map q.forms (shape_of_form q.forms)) ∙ e

    module _ (vars : program.Scope) (all : InRange vars) where
      named_range : (line : ℕ) (x : Name) (m : Option Meaning) (s : Sort) → meaning (rule_scope k vars) x.symbol ≡ m → sort_named q.forms line x m ≡ Ok s
          → sort_in_range (shapes q) s ≡ true
      named_range line x None s e f = absurd (no_fault f)
      named_range line x (Some (OfType t)) s e f =
          subst (λ r. sort_in_range (shapes q) r ≡ true) (same_value f)
          (type_range (rule_scope k vars) vars (sees vars all) t ((sees vars all).types x.symbol t e))
      named_range line x (Some OfList) s e f = subst (λ r. sort_in_range (shapes q) r ≡ true) (same_value f) refl
      named_range line x (Some (OfConstant n)) s e f = absurd (no_fault f)
      named_range line x (Some (OfPlace t)) s e f = absurd (no_fault f)
      named_range line x (Some (OfStart r)) s e f = absurd (no_fault f)
      named_range line x (Some (OfSymbol d)) s e f = absurd (no_fault f)
      named_range line x (Some (OfRoutine g)) s e f = absurd (no_fault f)

      class_there : (line : ℕ) (x : Name) (m : Option Meaning) (t : TypeId) → meaning (rule_scope k vars) x.symbol ≡ m → class_named line x m ≡ Ok t
          → type_exists q.forms t ≡ true
      class_there line x None t e f = absurd (no_fault f)
      class_there line x (Some (OfType u)) t e f =
          subst (λ v. type_exists q.forms v ≡ true) (same_value f) ((sees vars all).types x.symbol u e)
      class_there line x (Some OfList) t e f = absurd (no_fault f)
      class_there line x (Some (OfConstant n)) t e f = absurd (no_fault f)
      class_there line x (Some (OfPlace u)) t e f = absurd (no_fault f)
      class_there line x (Some (OfStart r)) t e f = absurd (no_fault f)
      class_there line x (Some (OfSymbol d)) t e f = absurd (no_fault f)
      class_there line x (Some (OfRoutine g)) t e f = absurd (no_fault f)

      written_range : (line : ℕ) (n : NameOrClass) (s : Sort) → sort_in (rule_scope k vars) (record { line = line; form = n }) ≡ Ok s
          → sort_in_range (shapes q) s ≡ true
      written_range line (written.Name x) s e = named_range line x (meaning (rule_scope k vars) x.symbol) s refl e
      written_range line (written.Class x) s e =
          let one = went (class_named line x (meaning (rule_scope k vars) x.symbol)) (λ t. fine (sort.Class t)) s e in
          subst (λ r. sort_in_range (shapes q) r ≡ true) (same_value one.rest)
          (there_as_shape one.value (class_there line x (meaning (rule_scope k vars) x.symbol) one.value refl one.first))

      all_of_sort : (s : Sort) (names : List Symbol) → sort_in_range (shapes q) s ≡ true → InRange (of_sort s names)
      all_of_sort s [] e = refl
      all_of_sort s (x ∷ names) e = both_true e (all_of_sort s names e)

      line_range : (v : RuleVars) (new : program.Scope) → variables_walk k vars v ≡ Ok new → InRange new
      line_range v new e =
          let made = λ (names : List Symbol) (s : Sort). fine (vars ++ of_sort s names) in
          let one = went (each (new_name (is_free_variable k vars)) [] (all_names v.names)) (λ names. after (sort_in (rule_scope k vars) v.sort) (made names)) new e in
          let two = went (sort_in (rule_scope k vars) v.sort) (made one.value) new one.rest in
          subst InRange (same_value two.rest)
          (all_append (λ (n : Symbol × Sort). sort_in_range (shapes q) n.1) vars (of_sort two.value one.value) all
          (all_of_sort two.value one.value (written_range v.sort.line v.sort.form two.value two.first)))

    pub variables_range : (vars : program.Scope) (trees : List RuleVars) (end : program.Scope) → InRange vars
        → each (variables_walk k) vars trees ≡ Ok end → InRange end
    variables_range vars [] end all e = subst InRange (same_value e) all
    variables_range vars (v ∷ trees) end all e =
        let one = went (variables_walk k vars v) (λ next. each (variables_walk k) next trees) end e in
        variables_range one.value trees end (line_range vars all v one.value one.first) one.rest
