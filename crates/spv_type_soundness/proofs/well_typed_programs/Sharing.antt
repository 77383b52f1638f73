-- Items of GLOBAL lists, and the variables among them.
use Rattle.std.proofs.Common.{◌≡◌, Bool, true, false, not, ◌||◌, List, [], ◌∷◌, ◌++◌, refl, sym, ap, ◌∙◌, subst}
use Rattle.std.specs.List.{list_any}
use Rattle.std.specs.Cmp.Derive.{both_true}
use Rattle.std.proofs.lemmas.Bool.{false≢true, eq-eqb}
use Rattle.spv_logic.specs.declared.names.names.Symbol.{Symbol}
use Rattle.spv_logic.proofs.list.Tests.{left_true, right_true}
use Rattle.spv_logic.specs.declared.types.TypeId.{TypeId}
use Rattle.spv_program.specs.declared.types.Item.{Item}
use Rattle.spv_program.specs.declared.types.Item.TheVariants.{Variable, Class}
use Rattle.spv_program.specs.Lists.{same_name, all_differ, names_differ}
use Rattle.spv_program.specs.Programs.{GlobalItem}
use Rattle.spv_program.specs.Types.{same_item}
use Rattle.spv_program.specs.Typing.{variables_among}
use Rattle.spv_program.proofs.ExpressionSorting.{same_types}
use Rattle.spv_type_soundness.proofs.well_typed_programs.Differ.{name-refl, same_names}
use Rattle.spv_type_soundness.proofs.well_typed_programs.Headings.{items_in}

pub item-refl : (i : Item) → same_item i i ≡ true
item-refl (Variable x) = name-refl x
item-refl (Class t) = eq-eqb t.0 t.0 refl

pub same_items : (i j : Item) → same_item i j ≡ true → i ≡ j
same_items (Variable x) (Variable y) h = ap Variable (same_names x y h)
same_items (Class t) (Class u) h = ap Class (same_types t u h)
same_items (Variable x) (Class u) h = absurd (false≢true h)
same_items (Class t) (Variable y) h = absurd (false≢true h)

pub item_turned : (i j : Item) → same_item i j ≡ same_item j i
item_turned i j = by_tests (same_item i j) refl (same_item j i) refl
  where
    by_tests : (a : Bool) → same_item i j ≡ a → (b : Bool) → same_item j i ≡ b → a ≡ b
    by_tests true e true f = refl
    by_tests false e false f = refl
    by_tests true e false f = absurd (false≢true (sym f ∙ subst (λ k. same_item j k ≡ true) (sym (same_items i j e)) (item-refl j)))
    by_tests false e true f = absurd (false≢true (sym e ∙ subst (λ k. same_item i k ≡ true) (sym (same_items j i f)) (item-refl i)))

pub any_items : (item : Item) (globals : List GlobalItem)
    → list_any (λ (g : GlobalItem). same_item g.item item) globals ≡ list_any (same_item item) (items_in globals)
any_items item [] = refl
any_items item (g ∷ globals) =
    ap (λ b. b || list_any (λ (k : GlobalItem). same_item k.item item) globals) (item_turned g.item item)
    ∙ ap (λ b. same_item item g.item || b) (any_items item globals)

pub variable_any : (x : Symbol) (items : List Item)
    → list_any (same_item (Variable x)) items ≡ list_any (same_name x) (variables_among items)
variable_any x [] = refl
variable_any x (Variable y ∷ items) = ap (λ b. same_name x y || b) (variable_any x items)
variable_any x (Class t ∷ items) = variable_any x items

pub variables_append : (items : List Item) (x : Symbol) → variables_among (items ++ Variable x ∷ []) ≡ variables_among items ++ x ∷ []
variables_append [] x = refl
variables_append (Variable y ∷ items) x = ap (λ l. y ∷ l) (variables_append items x)
variables_append (Class t ∷ items) x = variables_append items x

pub variables_class : (items : List Item) (t : TypeId) → variables_among (items ++ Class t ∷ []) ≡ variables_among items
variables_class [] t = refl
variables_class (Variable y ∷ items) t = ap (λ l. y ∷ l) (variables_class items t)
variables_class (Class u ∷ items) t = variables_class items t

pub variables_differ : (items : List Item) → all_differ same_item items ≡ true → names_differ (variables_among items) ≡ true
variables_differ [] h = refl
variables_differ (Variable x ∷ items) h =
    both_true (ap not (sym (variable_any x items)) ∙ left_true _ _ h)
    (variables_differ items (right_true (not (list_any (same_item (Variable x)) items)) _ h))
variables_differ (Class t ∷ items) h = variables_differ items (right_true (not (list_any (same_item (Class t)) items)) _ h)
