-- Look-ups of items beside their list.
use Rattle.std.proofs.Common.{◌≡◌, ℕ, Bool, true, false, cond, ◌&&◌, ◌||◌, List, [], ◌∷◌, ◌++◌, map, Option, Some, None, is_some, refl, sym, ap, subst, ◌∙◌, nat_eq}
use Rattle.std.proofs.lemmas.Bool.{false≢true, eqb-true}
use Rattle.std.proofs.lemmas.List.{map-append}
use Rattle.std.proofs.lemmas.List.Folds.{list_any-append}
use Rattle.std.specs.List.{list_any}
use Rattle.spv_logic.specs.declared.names.names.Symbol.{Symbol}
use Rattle.spv_logic.specs.declared.types.TypeId.{TypeId}
use Rattle.spv_program.specs.declared.types.Item.{Item}
use Rattle.spv_program.specs.declared.types.Item.TheVariants.{Variable, Class}
use Rattle.spv_program.specs.Lists.{found, first_of, same_name}
use Rattle.spv_program.specs.Types.{same_item}
use Rattle.spv_program.specs.Programs.{GlobalItem, lists}
use Rattle.spv_program.specs.declared.typed.programs.GlobalItem.{GlobalItem as GlobalText}
use Rattle.spv_program.specs.typed.ProgramViews.{global_of}
use Rattle.spv_heading_typing.specs.Shared.{looked_up, says_true, Indexed}

pub nothing_indexed : Indexed [] [] []
nothing_indexed = record { listed = λ i. none i; changed = λ i. never i }
  where
    none : (i : Item) → false ≡ is_some (looked_up [] [] i)
    none (Variable x) = refl
    none (Class t) = refl

    never : (i : Item) → false ≡ says_true (looked_up [] [] i)
    never (Variable x) = refl
    never (Class t) = refl

-- one entry more in a table
found_last : {X : Type 0} (xs : List (Symbol × X)) (x y : Symbol) (b : X) → found (xs ++ (x, b) ∷ []) y ≡ first_of (found xs y) (cond (same_name x y) (Some b) None)
found_last [] x y b = refl
found_last (e ∷ xs) x y b = by_case (same_name e.0 y) (found_last xs x y b)
  where
    by_case : (c : Bool) → found (xs ++ (x, b) ∷ []) y ≡ first_of (found xs y) (cond (same_name x y) (Some b) None)
        → cond c (Some e.1) (found (xs ++ (x, b) ∷ []) y) ≡ first_of (cond c (Some e.1) (found xs y)) (cond (same_name x y) (Some b) None)
    by_case true later = refl
    by_case false later = later

is_there : (o : Option Bool) (same b : Bool) → is_some (first_of o (cond same (Some b) None)) ≡ (is_some o || (same || false))
is_there (Some c) same b = refl
is_there None true b = refl
is_there None false b = refl

says : (o : Option Bool) (same b : Bool) → (same ≡ true → o ≡ None) → says_true (first_of o (cond same (Some b) None)) ≡ (says_true o || ((same && (b || false)) || false))
says None true true h = refl
says None true false h = refl
says None false b h = refl
says (Some c) true b h = absurd (false≢true (sym (ap is_some (h refl))))
says (Some true) false b h = refl
says (Some false) false b h = refl

absent : (o : Option Bool) → is_some o ≡ false → o ≡ None
absent None h = refl
absent (Some b) h = absurd (false≢true (sym h))

-- the same name is the same entry
same_entry : (xs : List (Symbol × Bool)) (x y : Symbol) → found xs x ≡ None → same_name x y ≡ true → found xs y ≡ None
same_entry xs x y none same = ap (λ (n : ℕ). found xs (record { 0 = n })) (sym (eqb-true x.0 y.0 same)) ∙ none

any_last : (p : GlobalItem → Bool) (items : List GlobalItem) (g : GlobalItem) → list_any p (items ++ g ∷ []) ≡ (list_any p items || (p g || false))
any_last p items g = list_any-append p items (g ∷ [])

abbrev of_variable : Symbol → Bool → ℕ → GlobalItem
of_variable x is_var line = record { item = Variable x; is_var = is_var; line = line }

abbrev of_class : TypeId → Bool → ℕ → GlobalItem
of_class t is_var line = record { item = Class t; is_var = is_var; line = line }

-- nothing more of another kind
nothing_more : (a : Bool) → (a || (false || false)) ≡ a
nothing_more true = refl
nothing_more false = refl

module _ (items : List GlobalItem) (variables classes : List (Symbol × Bool)) (h : Indexed items variables classes) where
  pub variable_pushed : (x : Symbol) (is_var : Bool) (line : ℕ) → list_any (λ g. same_item g.item (Variable x)) items ≡ false
      → Indexed (items ++ record { item = Variable x; is_var = is_var; line = line } ∷ []) (variables ++ (x, is_var) ∷ []) classes
  variable_pushed x is_var line new = record { listed = listed; changed = changed }
    where
      none : found variables x ≡ None
      none = absent (found variables x) (sym (h.listed (Variable x)) ∙ new)

      listed : (i : Item) → list_any (λ g. same_item g.item i) (items ++ of_variable x is_var line ∷ []) ≡ is_some (looked_up (variables ++ (x, is_var) ∷ []) classes i)
      listed (Variable y) =
          any_last (λ g. same_item g.item (Variable y)) items (of_variable x is_var line)
          ∙ (ap (λ b. b || (same_name x y || false)) (h.listed (Variable y))
          ∙ (sym (is_there (found variables y) (same_name x y) is_var) ∙ ap is_some (sym (found_last variables x y is_var))))
      listed (Class t) = any_last (λ g. same_item g.item (Class t)) items (of_variable x is_var line) ∙ (nothing_more (list_any (λ g. same_item g.item (Class t)) items) ∙ h.listed (Class t))

      changed : (i : Item) → lists (items ++ of_variable x is_var line ∷ []) i true ≡ says_true (looked_up (variables ++ (x, is_var) ∷ []) classes i)
      changed (Variable y) =
          any_last (λ g. same_item g.item (Variable y) && (g.is_var || false)) items (of_variable x is_var line)
          ∙ (ap (λ b. b || ((same_name x y && (is_var || false)) || false)) (h.changed (Variable y))
          ∙ (sym (says (found variables y) (same_name x y) is_var (same_entry variables x y none)) ∙ ap says_true (sym (found_last variables x y is_var))))
      changed (Class t) = any_last (λ g. same_item g.item (Class t) && (g.is_var || false)) items (of_variable x is_var line) ∙ (nothing_more (lists items (Class t) true) ∙ h.changed (Class t))

  pub class_pushed : (t : TypeId) (is_var : Bool) (line : ℕ) → list_any (λ g. same_item g.item (Class t)) items ≡ false
      → Indexed (items ++ record { item = Class t; is_var = is_var; line = line } ∷ []) variables (classes ++ (record { 0 = t.0 }, is_var) ∷ [])
  class_pushed t is_var line new = record { listed = listed; changed = changed }
    where
      none : found classes (record { 0 = t.0 }) ≡ None
      none = absent (found classes (record { 0 = t.0 })) (sym (h.listed (Class t)) ∙ new)

      listed : (i : Item) → list_any (λ g. same_item g.item i) (items ++ of_class t is_var line ∷ []) ≡ is_some (looked_up variables (classes ++ (record { 0 = t.0 }, is_var) ∷ []) i)
      listed (Class u) =
          any_last (λ g. same_item g.item (Class u)) items (of_class t is_var line)
          ∙ (ap (λ b. b || (nat_eq t.0 u.0 || false)) (h.listed (Class u))
          ∙ (sym (is_there (found classes (record { 0 = u.0 })) (nat_eq t.0 u.0) is_var) ∙ ap is_some (sym (found_last classes (record { 0 = t.0 }) (record { 0 = u.0 }) is_var))))
      listed (Variable x) = any_last (λ g. same_item g.item (Variable x)) items (of_class t is_var line) ∙ (nothing_more (list_any (λ g. same_item g.item (Variable x)) items) ∙ h.listed (Variable x))

      changed : (i : Item) → lists (items ++ of_class t is_var line ∷ []) i true ≡ says_true (looked_up variables (classes ++ (record { 0 = t.0 }, is_var) ∷ []) i)
      changed (Class u) =
          any_last (λ g. same_item g.item (Class u) && (g.is_var || false)) items (of_class t is_var line)
          ∙ (ap (λ b. b || ((nat_eq t.0 u.0 && (is_var || false)) || false)) (h.changed (Class u))
          ∙ (sym (says (found classes (record { 0 = u.0 })) (nat_eq t.0 u.0) is_var (same_entry classes (record { 0 = t.0 }) (record { 0 = u.0 }) none))
          ∙ ap says_true (sym (found_last classes (record { 0 = t.0 }) (record { 0 = u.0 }) is_var))))
      changed (Variable x) = any_last (λ g. same_item g.item (Variable x) && (g.is_var || false)) items (of_class t is_var line) ∙ (nothing_more (lists items (Variable x) true) ∙ h.changed (Variable x))

  pub variable_absent : (x : Symbol) (i : Item) → i ≡ Variable x → list_any (λ g. same_item g.item i) items ≡ false → found variables x ≡ None
  variable_absent x i is new =
      absent (found variables x) (sym (h.listed (Variable x)) ∙ subst (λ (j : Item). list_any (λ g. same_item g.item j) items ≡ false) is new)

  pub class_absent : (t : TypeId) (name : Symbol) (i : Item) → name ≡ record { 0 = t.0 } → i ≡ Class t → list_any (λ g. same_item g.item i) items ≡ false → found classes name ≡ None
  class_absent t name i named is new =
      subst (λ (n : Symbol). found classes n ≡ None) (sym named)
      (absent (found classes (record { 0 = t.0 })) (sym (h.listed (Class t)) ∙ subst (λ (j : Item). list_any (λ g. same_item g.item j) items ≡ false) is new))

-- the tables of a list with one item more
module _ (items new : List GlobalText) (variables classes : List (Symbol × Bool)) (item : GlobalText) (h : Indexed (map global_of items) variables classes) (pushed : new ≡ items ++ item ∷ []) where
  mapped : map global_of new ≡ map global_of items ++ global_of item ∷ []
  mapped = ap (map global_of) pushed ∙ map-append global_of items (item ∷ [])

  pub variable_kept : (x : Symbol) (after : List (Symbol × Bool)) → item.item ≡ Variable x → list_any (λ g. same_item g.item item.item) (map global_of items) ≡ false
      → after ≡ variables ++ (x, item.is_var) ∷ [] → Indexed (map global_of new) after classes
  variable_kept x after is none put =
      subst (λ (l : List GlobalItem). Indexed l after classes) (sym mapped)
      (subst (λ (vs : List (Symbol × Bool)). Indexed (map global_of items ++ global_of item ∷ []) vs classes) (sym put)
      (subst (λ (i : Item). Indexed (map global_of items ++ record { item = i; is_var = item.is_var; line = item.line } ∷ []) (variables ++ (x, item.is_var) ∷ []) classes) (sym is)
      (variable_pushed (map global_of items) variables classes h x item.is_var item.line
      (subst (λ (i : Item). list_any (λ g. same_item g.item i) (map global_of items) ≡ false) is none))))

  pub class_kept : (t : TypeId) (name : Symbol) (after : List (Symbol × Bool)) → name ≡ record { 0 = t.0 } → item.item ≡ Class t
      → list_any (λ g. same_item g.item item.item) (map global_of items) ≡ false → after ≡ classes ++ (name, item.is_var) ∷ [] → Indexed (map global_of new) variables after
  class_kept t name after named is none put =
      subst (λ (l : List GlobalItem). Indexed l variables after) (sym mapped)
      (subst (λ (cs : List (Symbol × Bool)). Indexed (map global_of items ++ global_of item ∷ []) variables cs) (sym (put ∙ ap (λ (n : Symbol). classes ++ (n, item.is_var) ∷ []) named))
      (subst (λ (i : Item). Indexed (map global_of items ++ record { item = i; is_var = item.is_var; line = item.line } ∷ []) variables (classes ++ (record { 0 = t.0 }, item.is_var) ∷ [])) (sym is)
      (class_pushed (map global_of items) variables classes h t item.is_var item.line
      (subst (λ (i : Item). list_any (λ g. same_item g.item i) (map global_of items) ≡ false) is none))))
