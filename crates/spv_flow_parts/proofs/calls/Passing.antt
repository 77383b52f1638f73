-- What stands for the parameters of a routine at a call.
use Rattle.std.proofs.Common.{◌≡◌, ℕ, zero, suc, ◌+◌, ◌<◌, ◌≤◌, inl, inr, true, false, cond, ◌&&◌, nat_eq, List, [], ◌∷◌, ◌++◌, map, get_or, length, Option, Some, None, option_map, IfSome, refl, sym, ap, subst, ◌∙◌, arith}
use Rattle.std.proofs.lemmas.Bool.{cases_lt}
use Rattle.std.proofs.lemmas.Bool.Decides.{nat_tests}
use Rattle.std.proofs.lemmas.List.{length-map}
use Rattle.spv_logic.specs.declared.names.names.Symbol.{Symbol}
use Rattle.spv_logic.specs.declared.types.Sort.{Sort}
use Rattle.spv_logic.specs.declared.types.TypeId.{TypeId}
use Rattle.spv_logic.specs.declared.conditions.TermId.{TermId}
use Rattle.spv_logic.specs.declared.operators.Head.{Head}
use Rattle.spv_logic.specs.declared.operators.Head.TheVariants as head
use Rattle.spv_logic.specs.Terms.{Term, head_eq, sort_eq}
use Rattle.spv_logic.specs.Sorts.{term_sort}
use Rattle.spv_logic.specs.Substitution.{is_variable}
use Rattle.spv_logic.proofs.Equality.{head_eq-refl}
use Rattle.spv_term.specs.Arena.{Arena, Extends, tree}
use Rattle.spv_term.proofs.ArenaLemmas.{length-Extends, tree-Extends}
use Rattle.spv_term.specs.substitution.Images.{head_of}
use Rattle.spv_program.specs.declared.types.Item.{Item}
use Rattle.spv_program.specs.declared.types.Item.TheVariants.{Variable, Class}
use Rattle.spv_program.specs.Terms.{item_head}
use Rattle.spv_program.specs.declared.typed.programs.Formal.{Formal as FormalText}
use Rattle.spv_program.specs.typed.ProgramViews.{formal_of}
use Rattle.spv_program.specs.Lists.{same_name, found, first_of}
use Rattle.spv_program.specs.Types.{sort_of}
use Rattle.spv_program.specs.Programs.{Formal, Routine, Program, shapes}
use Rattle.spv_program.specs.Scopes.{item_sort, result_name, own_names, name_type, sort_or_int}
use Rattle.spv_program.specs.Calls as argument
use Rattle.spv_program.specs.Calls.{Argument, at_call, formal_head, present_argument, replacing}
use Rattle.spv_assign.specs.limited_steps.Makes.{IsTerm}
use Rattle.spv_assign.proofs.supply.FreshLemmas.{name_from}
use Rattle.spv_assign.specs.declared.structures.places.Target.{Target}
use Rattle.spv_assign.specs.structures.Targets.{IsTarget, target_in}
use Rattle.spv_assign.proofs.structures.Paths.{steps_stay, steps_there}
use Rattle.spv_flow_parts.specs.declared.calls.passed.Argument as code_argument
use Rattle.spv_flow_parts.specs.declared.calls.passed.Argument.TheVariants as code
use Rattle.spv_flow_parts.specs.body_tables.Tables.{formal_name}
use Rattle.spv_flow_parts.specs.leaves.Values.{IsTermIfThere}
use Rattle.spv_flow_parts.specs.calls.Arguments.{AreAfter, AreArguments, ArePresent, FitFormals, IsArgument, argument_in}
use Rattle.spv_flow_parts.proofs.Steps.{IsTerm-Extends}
use Rattle.spv_expression_terms.proofs.sort_table.Levels.{found_append}

-- ---- arenas that grow

module _ {a b : Arena} (more : Extends a b) where
  pub IsTarget-Extends : (d : Target) → IsTarget a d → IsTarget b d
  IsTarget-Extends d h = record {
    root = let longer = length-Extends more in let there = h.root in omega (arith, longer, there);
    variable = ap is_variable (ap head_of (tree-Extends more d.root h.root)) ∙ h.variable;
    pointer = there d.pointer h.pointer;
    path = steps_there more d.path h.path;
  }
    where
      there : (o : Option TermId) → IfSome o (λ q. q.0 < length a.nodes) → IfSome o (λ q. q.0 < length b.nodes)
      there None h = tt
      there (Some q) h = let longer = length-Extends more in let low = h in omega (arith, longer, low)

  pub target_in-Extends : (d : Target) → IsTarget a d → target_in b d ≡ target_in a d
  target_in-Extends d h =
      let root = ap head_of (tree-Extends more d.root h.root) in
      let pointer = same d.pointer h.pointer in
      let path = steps_stay more d.path h.path in
      λ i. record { root = root i; pointer = pointer i; path = path i }
    where
      same : (o : Option TermId) → IfSome o (λ q. q.0 < length a.nodes) → option_map (tree b) o ≡ option_map (tree a) o
      same None h = refl
      same (Some q) h = ap Some (tree-Extends more q h)

  pub IsArgument-Extends : (t : code_argument.Argument) (x : Argument) → IsArgument a t x → IsArgument b t x
  IsArgument-Extends (code.Given t) (argument.Given x) h = IsTerm-Extends t x more h
  IsArgument-Extends (code.AtPlace d) (argument.AtPlace e) h = (IsTarget-Extends d h.0, target_in-Extends d h.0 ∙ h.1)
  IsArgument-Extends (code.Given t) (argument.AtPlace e) h = absurd h
  IsArgument-Extends (code.AtPlace d) (argument.Given x) h = absurd h

  pub AreArguments-Extends : (ts : List code_argument.Argument) (xs : List Argument) → AreArguments a ts xs → AreArguments b ts xs
  AreArguments-Extends [] [] h = tt
  AreArguments-Extends (t ∷ ts) (x ∷ xs) h = (IsArgument-Extends t x h.0, AreArguments-Extends ts xs h.1)
  AreArguments-Extends [] (x ∷ xs) h = absurd h
  AreArguments-Extends (t ∷ ts) [] h = absurd h

  pub ArePresent-Extends : (ts : List TermId) (xs : List Argument) → ArePresent a ts xs → ArePresent b ts xs
  ArePresent-Extends [] [] h = tt
  ArePresent-Extends (t ∷ ts) (x ∷ xs) h = (IsTerm-Extends t (present_argument x) more h.0, ArePresent-Extends ts xs h.1)
  ArePresent-Extends [] (x ∷ xs) h = absurd h
  ArePresent-Extends (t ∷ ts) [] h = absurd h

  pub AreAfter-Extends : (ps : List (Head × TermId)) (qs : List (Head × Term)) → AreAfter a ps qs → AreAfter b ps qs
  AreAfter-Extends [] [] h = tt
  AreAfter-Extends (p ∷ ps) (q ∷ qs) h = (h.0, (IsTerm-Extends p.1 q.1 more h.1.0, AreAfter-Extends ps qs h.1.1))
  AreAfter-Extends [] (q ∷ qs) h = absurd h
  AreAfter-Extends (p ∷ ps) [] h = absurd h

-- ---- the argument that is given

pub argument_is : (a : Arena) (t : code_argument.Argument) (x : Argument) → IsArgument a t x → argument_in a t ≡ x
argument_is a (code.Given t) (argument.Given x) h = ap argument.Given h.is_tree
argument_is a (code.AtPlace d) (argument.AtPlace e) h = ap argument.AtPlace h.1
argument_is a (code.Given t) (argument.AtPlace e) h = absurd h
argument_is a (code.AtPlace d) (argument.Given x) h = absurd h

pub argument_itself : (a : Arena) (t : code_argument.Argument) (x : Argument) → IsArgument a t x → IsArgument a t (argument_in a t)
argument_itself a t x h = subst (IsArgument a t) (sym (argument_is a t x h)) h

-- ---- by their places

no_less : (n : ℕ) → n < 0 → ⊥
no_less n h = omega (arith, h)

less_by_one : (m n : ℕ) → suc m < suc n → m < n
less_by_one m n h = omega (arith, h)

pub present_at : (a : Arena) (now : List TermId) (arguments : List Argument) (place : ℕ) (t : TermId) (x : Argument) → ArePresent a now arguments → place < length now
    → IsTerm a (get_or now place t) (present_argument (get_or arguments place x))
present_at a [] arguments place t x h low = absurd (no_less place low)
present_at a (s ∷ now) [] place t x h low = absurd h
present_at a (s ∷ now) (y ∷ arguments) zero t x h low = h.0
present_at a (s ∷ now) (y ∷ arguments) (suc n) t x h low = present_at a now arguments n t x h.1 (less_by_one n (length now) low)

pub given_at : (a : Arena) (given : List code_argument.Argument) (arguments : List Argument) (place : ℕ) (t : code_argument.Argument) (x : Argument) → AreArguments a given arguments → place < length given
    → IsArgument a (get_or given place t) (get_or arguments place x)
given_at a [] arguments place t x h low = absurd (no_less place low)
given_at a (s ∷ given) [] place t x h low = absurd h
given_at a (s ∷ given) (y ∷ arguments) zero t x h low = h.0
given_at a (s ∷ given) (y ∷ arguments) (suc n) t x h low = given_at a given arguments n t x h.1 (less_by_one n (length given) low)

pub sort_at_place : (p : Program) (formals : List FormalText) (arguments : List Argument) (place : ℕ) (f : FormalText) (x : Argument) → FitFormals p (map formal_of formals) arguments → place < length formals
    → term_sort (shapes p) p.symbols (present_argument (get_or arguments place x)) ≡ Some (sort_of p.forms (get_or formals place f).of)
sort_at_place p [] arguments place f x h low = absurd (no_less place low)
sort_at_place p (g ∷ formals) [] place f x h low = absurd h
sort_at_place p (g ∷ formals) (y ∷ arguments) zero f x h low = h.0
sort_at_place p (g ∷ formals) (y ∷ arguments) (suc n) f x h low = sort_at_place p formals arguments n f x h.1 (less_by_one n (length formals) low)

pub present_count : (a : Arena) (now : List TermId) (arguments : List Argument) → ArePresent a now arguments → length now ≡ length arguments
present_count a [] [] h = refl
present_count a (t ∷ now) (x ∷ arguments) h = ap suc (present_count a now arguments h.1)
present_count a [] (x ∷ arguments) h = absurd h
present_count a (t ∷ now) [] h = absurd h

pub given_count : (a : Arena) (given : List code_argument.Argument) (arguments : List Argument) → AreArguments a given arguments → length given ≡ length arguments
given_count a [] [] h = refl
given_count a (t ∷ given) (x ∷ arguments) h = ap suc (given_count a given arguments h.1)
given_count a [] (x ∷ arguments) h = absurd h
given_count a (t ∷ given) [] h = absurd h

pub formals_count : (p : Program) (formals : List Formal) (arguments : List Argument) → FitFormals p formals arguments → length formals ≡ length arguments
formals_count p [] [] h = refl
formals_count p (f ∷ formals) (x ∷ arguments) h = ap suc (formals_count p formals arguments h.1)
formals_count p [] (x ∷ arguments) h = absurd h
formals_count p (f ∷ formals) [] h = absurd h

-- there are as many formals in the code as arguments
pub texts_count : (p : Program) (formals : List FormalText) (wanted : List Formal) (arguments : List Argument) → map formal_of formals ≡ wanted → FitFormals p wanted arguments → length formals ≡ length arguments
texts_count p formals wanted arguments are h = sym (length-map formals formal_of) ∙ ap (λ (l : List Formal). length l) are ∙ formals_count p wanted arguments h

-- ---- by their names

-- no parameter before a place has a name
pub record NoneBefore (name : Symbol) (formals : List FormalText) (d : FormalText) (place : ℕ) : Type 0 where
  pub each : (k : ℕ) → k < place → same_name (get_or formals k d).name name ≡ false

pub none_begin : (name : Symbol) (formals : List FormalText) (d : FormalText) → NoneBefore name formals d 0
none_begin name formals d = record { each = λ k low. absurd (no_less k low) }

pub none_next : (name : Symbol) (formals : List FormalText) (d : FormalText) (place : ℕ) → NoneBefore name formals d place → same_name (get_or formals place d).name name ≡ false → NoneBefore name formals d (place + 1)
none_next name formals d place h e = record { each = each }
  where
    each : (k : ℕ) → k < place + 1 → same_name (get_or formals k d).name name ≡ false
    each k low = elim (cases_lt k place) [
      | inl below ↦ h.each k below
      | inr above ↦ let same : place ≡ k = omega (arith, low, above) in subst (λ (j : ℕ). same_name (get_or formals j d).name name ≡ false) same e
    ]

none_behind : (name : Symbol) (f : FormalText) (formals : List FormalText) (d : FormalText) (place : ℕ) → NoneBefore name (f ∷ formals) d (suc place) → NoneBefore name formals d place
none_behind name f formals d place h = record { each = λ k low. h.each (suc k) (let e : suc k < suc place = omega (arith, low) in e) }

none_here : (name : Symbol) (f : FormalText) (formals : List FormalText) (d : FormalText) (place : ℕ) → NoneBefore name (f ∷ formals) d (suc place) → same_name f.name name ≡ false
none_here name f formals d place h = h.each 0 (let e : 0 < suc place = omega arith in e)

-- the first parameter of a name tells its type
type_found : (name : Symbol) (formals : List FormalText) (d : FormalText) (place : ℕ) → NoneBefore name formals d place → place < length formals → same_name (get_or formals place d).name name ≡ true
    → found (map formal_name (map formal_of formals)) name ≡ Some (get_or formals place d).of
type_found name [] d place h low e = absurd (no_less place low)
type_found name (f ∷ formals) d zero h low e = ap (λ b. cond b (Some f.of) (found (map formal_name (map formal_of formals)) name)) e
type_found name (f ∷ formals) d (suc n) h low e =
    ap (λ b. cond b (Some f.of) (found (map formal_name (map formal_of formals)) name)) (none_here name f formals d n h)
    ∙ type_found name formals d n (none_behind name f formals d n h) (less_by_one n (length formals) low) e

pub sort_found : (p : Program) (r : Routine) (name : Symbol) (formals : List FormalText) (d : FormalText) (place : ℕ) → map formal_of formals ≡ r.formals → NoneBefore name formals d place → place < length formals
    → same_name (get_or formals place d).name name ≡ true → item_sort p (Some r) (Variable name) ≡ sort_of p.forms (get_or formals place d).of
sort_found p r name formals d place are h low e = ap (λ o. sort_or_int (option_map (sort_of p.forms) o)) named
  where
    own : found (own_names r) name ≡ Some (get_or formals place d).of
    own =
        found_append (map formal_name r.formals) (result_name r.name r.result ++ r.locals) name
        ∙ ap (λ o. first_of o (found (result_name r.name r.result ++ r.locals) name))
        (ap (λ (fs : List Formal). found (map formal_name fs) name) (sym are) ∙ type_found name formals d place h low e)

    named : name_type p (Some r) name ≡ Some (get_or formals place d).of
    named = ap (λ o. first_of o (found p.variables name)) own

not_same : (x y : Symbol) → same_name x y ≡ false → nat_eq y.0 x.0 ≡ false
not_same x y e = let f : nat_eq x.0 y.0 ≡ false = e in grind (arith, nat_tests)

module _ (p : Program) (a : Arena) (name : Symbol) (s : Sort) where
  abbrev h : Head
  h = head.Var name s 0

  other_head : (f : FormalText) → same_name f.name name ≡ false → head_eq (head.Var name s 0) (formal_head p (formal_of f)) ≡ false
  other_head f e = ap (λ b. b && (sort_eq s (sort_of p.forms f.of) && nat_eq 0 0)) (not_same f.name name e)

  same_head : (f : FormalText) → same_name f.name name ≡ true → s ≡ sort_of p.forms f.of → head_eq (head.Var name s 0) (formal_head p (formal_of f)) ≡ true
  same_head f e of =
      let x = name_from f.name name e in
      (λ i. head_eq (head.Var name s 0) (head.Var (x i) (sym of i) 0)) ∙ head_eq-refl (head.Var name s 0)

  pub passed_there : (formals : List FormalText) (d : FormalText) (now : List TermId) (arguments : List Argument) (place : ℕ) (t : TermId) → NoneBefore name formals d place → place < length formals → length formals ≤ length now
      → ArePresent a now arguments → same_name (get_or formals place d).name name ≡ true → s ≡ sort_of p.forms (get_or formals place d).of
      → IsTermIfThere a (Some (get_or now place t)) (replacing (at_call p (map formal_of formals) arguments) (head.Var name s 0))
  passed_there [] d now arguments place t none low count present e of = absurd (no_less place low)
  passed_there (f ∷ formals) d [] arguments place t none low count present e of = absurd (let c : suc (length formals) ≤ 0 = count in omega (arith, c))
  passed_there (f ∷ formals) d (u ∷ now) [] place t none low count present e of = absurd present
  passed_there (f ∷ formals) d (u ∷ now) (x ∷ arguments) zero t none low count present e of =
      subst (λ b. IsTermIfThere a (Some u) (cond b (Some (present_argument x)) (replacing (at_call p (map formal_of formals) arguments) (head.Var name s 0)))) (sym (same_head f e of)) present.0
  passed_there (f ∷ formals) d (u ∷ now) (x ∷ arguments) (suc n) t none low count present e of =
      subst (λ b. IsTermIfThere a (Some (get_or now n t)) (cond b (Some (present_argument x)) (replacing (at_call p (map formal_of formals) arguments) (head.Var name s 0))))
      (sym (other_head f (none_here name f formals d n none)))
      (passed_there formals d now arguments n t (none_behind name f formals d n none) (less_by_one n (length formals) low)
      (let c : suc (length formals) ≤ suc (length now) = count in omega (arith, c)) present.1 e of)

  pub passed_absent : (formals : List FormalText) (d : FormalText) (arguments : List Argument) → NoneBefore name formals d (length formals) → replacing (at_call p (map formal_of formals) arguments) (head.Var name s 0) ≡ None
  passed_absent [] d arguments none = refl
  passed_absent (f ∷ formals) d [] none = refl
  passed_absent (f ∷ formals) d (x ∷ arguments) none =
      ap (λ b. cond b (Some (present_argument x)) (replacing (at_call p (map formal_of formals) arguments) (head.Var name s 0))) (other_head f (none_here name f formals d (length formals) none))
      ∙ passed_absent formals d arguments (none_behind name f formals d (length formals) none)

pub class_absent : (p : Program) (formals : List Formal) (arguments : List Argument) (t : TypeId) → replacing (at_call p formals arguments) (head.ClassVar t 0) ≡ None
class_absent p [] arguments t = refl
class_absent p (f ∷ formals) [] t = refl
class_absent p (f ∷ formals) (x ∷ arguments) t = class_absent p formals arguments t

-- ---- the parameter of a name

module _ (p : Program) (r : Routine) (name : Symbol) (formals : List FormalText) (d : FormalText) (now : List TermId) (arguments : List Argument) (place : ℕ) (are : map formal_of formals ≡ r.formals)
    (none : NoneBefore name formals d place) (a : Arena) (present : ArePresent a now arguments) where
  pub by_name : (t : TermId) → place < length formals → length formals ≤ length now → same_name (get_or formals place d).name name ≡ true
      → IsTermIfThere a (Some (get_or now place t)) (replacing (at_call p r.formals arguments) (head.Var name (item_sort p (Some r) (Variable name)) 0))
  by_name t low count e =
      subst (λ (fs : List Formal). IsTermIfThere a (Some (get_or now place t)) (replacing (at_call p fs arguments) (head.Var name (item_sort p (Some r) (Variable name)) 0))) are
      (passed_there p a name (item_sort p (Some r) (Variable name)) formals d now arguments place t none low count present e (sort_found p r name formals d place are none low e))

  pub by_no_name : length formals ≤ place → IsTermIfThere a None (replacing (at_call p r.formals arguments) (head.Var name (item_sort p (Some r) (Variable name)) 0))
  by_no_name past =
      subst (IsTermIfThere a None)
      (sym (ap (λ (fs : List Formal). replacing (at_call p fs arguments) (head.Var name (item_sort p (Some r) (Variable name)) 0)) (sym are)
      ∙ passed_absent p a name (item_sort p (Some r) (Variable name)) formals d arguments
      (record { each = λ k low. none.each k (omega (arith, low, past)) }))) tt

pub class_passed : (p : Program) (r : Routine) (arguments : List Argument) (item : Item) (t : TypeId) (a : Arena) → item ≡ Class t → IsTermIfThere a None (replacing (at_call p r.formals arguments) (item_head p (Some r) item))
class_passed p r arguments item t a is =
    subst (IsTermIfThere a None) (sym (ap (λ (i : Item). replacing (at_call p r.formals arguments) (item_head p (Some r) i)) is ∙ class_absent p r.formals arguments t)) tt
