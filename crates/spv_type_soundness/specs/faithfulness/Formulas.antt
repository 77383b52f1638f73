-- From which trees annotations may come.
use Rattle.std.specs.Prelude.{◌≡◌, ℕ, true, List, [], ◌∷◌, Option, Some, None, option_map, ℤ}
use Rattle.spv_logic.specs.declared.names.names.Symbol.{Symbol}
use Rattle.spv_tree.specs.declared.syntax.names.Name.{Name}
use Rattle.spv_tree.specs.syntax.Formulas as tree
use Rattle.spv_program.specs.declared.operators.BuiltIn.{BuiltIn}
use Rattle.spv_program.specs.declared.operators.BuiltIn.TheVariants as known
use Rattle.spv_program.specs.Formulas.{Formula, Formulas, Annotation, Numeral, Boolean, NilOf, Named, ClassOf, Element, FieldOf, Content, Applied, Known, Negative, Calculated, Compared, Negated, Joined, Implied, no_formulas, formulas}
use Rattle.spv_typing.specs.Known.{Function, Select, Store, Put, Cell, SetCell, Extend, PointerTo, Car, Cdr, Cons, Atom}
use Rattle.spv_type_soundness.specs.faithfulness.Names.{View, constant_named, names_place, names_start, type_named, names_symbol, function_named}
use Rattle.spv_type_soundness.specs.faithfulness.Operators.{Given, Value, AtPlace, FieldName, Operators, FromFormula}

-- the operator that a function stands for; PUT has its field besides
abbrev pub operator_of : Function → Option BuiltIn
operator_of Select = Some known.Select
operator_of Store = Some known.Store
operator_of Put = None
operator_of Cell = Some known.Cell
operator_of SetCell = Some known.SetCell
operator_of Extend = Some known.Extend
operator_of PointerTo = Some known.PointerTo
operator_of Car = Some known.Car
operator_of Cdr = Some known.Cdr
operator_of Cons = Some known.Cons
operator_of Atom = Some known.Atom

abbrev pub formula_operators : View → Operators Formula
formula_operators v = record {
  numeral = Numeral;
  boolean = Boolean;
  nil_of = NilOf;
  negative = Negative;
  calculated = Calculated;
  compared = Compared;
  negated = Negated;
  joined = Joined;
  implied = λ a b. Some (Implied a b);
  class_of = λ line x. option_map (λ t. ClassOf line t) (type_named v x.symbol);
  element = λ t a i. Some (Element a i);
  field_of = λ t r f. Some (FieldOf r f);
  content_of = λ at t q. Some (Content at t q);
}

-- arguments that are values
abbrev pub and_more : Formula → Option Formulas → Option Formulas
and_more x None = None
and_more x (Some fs) = Some (formulas x fs)

abbrev pub values : List (Given Formula) → Option Formulas
values [] = Some no_formulas
values (Value x ∷ given) = and_more x (values given)
values (AtPlace x ∷ given) = None
values (FieldName f ∷ given) = None

module _ (v : View) where
  -- a name alone
  pub data Noted : Name → Formula → Type 0 where
    noted_constant : {x : Name} {z : ℤ} → constant_named v x.symbol ≡ Some z → Noted x (Numeral z)
    noted_variable : {x : Name} → names_place v x.symbol ≡ true → Noted x (Named x.line x.symbol)
    noted_start : {x : Name} → names_start v x.symbol ≡ true → Noted x (Named x.line x.symbol)
    noted_symbol : {x : Name} → names_symbol v x.symbol ≡ true → Noted x (Applied x.symbol no_formulas)

  -- a name with arguments
  pub data NotedWith : Name → List (Given Formula) → Formula → Type 0 where
    with_symbol : {x : Name} {given : List (Given Formula)} {fs : Formulas}
        → function_named v x.symbol ≡ None → names_symbol v x.symbol ≡ true → values given ≡ Some fs
        → NotedWith x given (Applied x.symbol fs)
    with_built_in : {x : Name} {b : Function} {o : BuiltIn} {given : List (Given Formula)} {fs : Formulas}
        → function_named v x.symbol ≡ Some b → operator_of b ≡ Some o → values given ≡ Some fs → NotedWith x given (Known o fs)
    with_put : {x : Name} {r w : Formula} {f : Symbol}
        → function_named v x.symbol ≡ Some Put → NotedWith x (Value r ∷ FieldName f ∷ Value w ∷ [])
        (Known (known.Put f) (formulas r (formulas w no_formulas)))

  -- a formula, and an annotation with the line on which its formula begins
  abbrev pub FormulaFrom : Formula → tree.Formula → Type 0
  FormulaFrom = FromFormula (formula_operators v) Noted Noted NotedWith

  pub data AnnotationFrom : Annotation → tree.Formula → Type 0 where
    annotation : {g : Formula} {line : ℕ} {r : tree.Relation} {c : tree.Conclusion}
        → FormulaFrom g (tree.formula line r c) → AnnotationFrom (record { formula = g; line = line }) (tree.formula line r c)

  pub data IfThere : Option Annotation → Option tree.Formula → Type 0 where
    not_there : IfThere None None
    there : {a : Annotation} {f : tree.Formula} → AnnotationFrom a f → IfThere (Some a) (Some f)
