-- How the parts of trees are kept apart: each as a tree of numbers that gives it back.
use Rattle.std.specs.Prelude.{ℕ, zero, suc, ◌≡◌, refl}
use base.Stored.{Gv, gnil, gnum, gcons, num}
use Rattle.spv_tree.specs.declared.syntax.lists.Several.{Several}
use Rattle.spv_tree.specs.declared.syntax.names.Name.{Name}
use Rattle.spv_tree.specs.declared.syntax.names.Scalar.{Scalar}
use Rattle.spv_tree.specs.declared.syntax.names.Scalar.TheVariants as scalar
use Rattle.spv_tree.specs.declared.syntax.names.Constant.{Constant}
use Rattle.spv_tree.specs.declared.syntax.operators.PlusOrMinus.{PlusOrMinus}
use Rattle.spv_tree.specs.declared.syntax.operators.PlusOrMinus.TheVariants as prefix
use Rattle.spv_tree.specs.declared.syntax.operators.Comparison.{Comparison}
use Rattle.spv_tree.specs.declared.syntax.operators.Comparison.TheVariants as comparison
use Rattle.spv_tree.specs.declared.syntax.operators.Adding.{Adding}
use Rattle.spv_tree.specs.declared.syntax.operators.Adding.TheVariants as adding
use Rattle.spv_tree.specs.declared.syntax.operators.Multiplying.{Multiplying}
use Rattle.spv_tree.specs.declared.syntax.operators.Multiplying.TheVariants as multiplying
use Rattle.spv_tree.specs.declared.syntax.operators.Direction.{Direction}
use Rattle.spv_tree.specs.declared.syntax.operators.Direction.TheVariants as direction
use Rattle.spv_logic.specs.list.Ways.{Way, head, tail, way_option, way_list}

-- ---- lists with a first item

module _ {A : Type 0} (w : Way A) where
  abbrev pub way_several : Way (Several A)
  way_several = record {
    to = λ s. gcons (w.to s.first) ((way_list w).to s.more);
    back = λ g. record { first = w.back (head g); more = (way_list w).back (tail g) };
    same = λ s i. record { first = w.same s.first i; more = (way_list w).same s.more i };
  }

-- ---- names and constants

abbrev pub way_name : Way Name
way_name = record {
  to = λ x. gcons (gnum x.line) (gnum x.symbol.0);
  back = λ g. record { line = num (head g); symbol = record { 0 = num (tail g) } };
  same = λ x. refl;
}

abbrev scalar_to : Scalar → Gv
scalar_to (scalar.Number n) = gnum n
scalar_to (scalar.Name x) = gcons (way_name.to x) gnil

abbrev scalar_back : Gv → Scalar
scalar_back (gcons x g) = scalar.Name (way_name.back x)
scalar_back g = scalar.Number (num g)

pub scalar_same : (s : Scalar) → scalar_back (scalar_to s) ≡ s
scalar_same (scalar.Number n) = refl
scalar_same (scalar.Name x) = refl

-- ---- operators

abbrev prefix_to : PlusOrMinus → Gv
prefix_to prefix.Plus = gnum 0
prefix_to prefix.Minus = gnum 1

abbrev prefix_by : ℕ → PlusOrMinus
prefix_by zero = prefix.Plus
prefix_by _ = prefix.Minus

pub prefix_same : (s : PlusOrMinus) → prefix_by (num (prefix_to s)) ≡ s
prefix_same prefix.Plus = refl
prefix_same prefix.Minus = refl

abbrev pub way_prefix : Way PlusOrMinus
way_prefix = record { to = prefix_to; back = λ g. prefix_by (num g); same = prefix_same }

abbrev pub way_constant : Way Constant
way_constant = record {
  to = λ c. gcons (gnum c.line) (gcons ((way_option way_prefix).to c.sign) (scalar_to c.value));
  back = λ g. record { line = num (head g); sign = (way_option way_prefix).back (head (tail g)); value = scalar_back (tail (tail g)) };
  same = λ c i. record { line = c.line; sign = (way_option way_prefix).same c.sign i; value = scalar_same c.value i };
}

abbrev comparison_to : Comparison → Gv
comparison_to comparison.Equal = gnum 0
comparison_to comparison.NotEqual = gnum 1
comparison_to comparison.Less = gnum 2
comparison_to comparison.AtMost = gnum 3
comparison_to comparison.Greater = gnum 4
comparison_to comparison.AtLeast = gnum 5

abbrev comparison_by : ℕ → Comparison
comparison_by zero = comparison.Equal
comparison_by (suc zero) = comparison.NotEqual
comparison_by (suc (suc zero)) = comparison.Less
comparison_by (suc (suc (suc zero))) = comparison.AtMost
comparison_by (suc (suc (suc (suc zero)))) = comparison.Greater
comparison_by _ = comparison.AtLeast

pub comparison_same : (o : Comparison) → comparison_by (num (comparison_to o)) ≡ o
comparison_same comparison.Equal = refl
comparison_same comparison.NotEqual = refl
comparison_same comparison.Less = refl
comparison_same comparison.AtMost = refl
comparison_same comparison.Greater = refl
comparison_same comparison.AtLeast = refl

abbrev pub way_comparison : Way Comparison
way_comparison = record { to = comparison_to; back = λ g. comparison_by (num g); same = comparison_same }

abbrev adding_to : Adding → Gv
adding_to adding.Plus = gnum 0
adding_to adding.Minus = gnum 1
adding_to adding.Or = gnum 2

abbrev adding_by : ℕ → Adding
adding_by zero = adding.Plus
adding_by (suc zero) = adding.Minus
adding_by _ = adding.Or

pub adding_same : (o : Adding) → adding_by (num (adding_to o)) ≡ o
adding_same adding.Plus = refl
adding_same adding.Minus = refl
adding_same adding.Or = refl

abbrev pub way_adding : Way Adding
way_adding = record { to = adding_to; back = λ g. adding_by (num g); same = adding_same }

abbrev multiplying_to : Multiplying → Gv
multiplying_to multiplying.Times = gnum 0
multiplying_to multiplying.Div = gnum 1
multiplying_to multiplying.Mod = gnum 2
multiplying_to multiplying.And = gnum 3

abbrev multiplying_by : ℕ → Multiplying
multiplying_by zero = multiplying.Times
multiplying_by (suc zero) = multiplying.Div
multiplying_by (suc (suc zero)) = multiplying.Mod
multiplying_by _ = multiplying.And

pub multiplying_same : (o : Multiplying) → multiplying_by (num (multiplying_to o)) ≡ o
multiplying_same multiplying.Times = refl
multiplying_same multiplying.Div = refl
multiplying_same multiplying.Mod = refl
multiplying_same multiplying.And = refl

abbrev pub way_multiplying : Way Multiplying
way_multiplying = record { to = multiplying_to; back = λ g. multiplying_by (num g); same = multiplying_same }

abbrev direction_to : Direction → Gv
direction_to direction.Up = gnum 0
direction_to direction.Down = gnum 1

abbrev direction_by : ℕ → Direction
direction_by zero = direction.Up
direction_by _ = direction.Down

pub direction_same : (d : Direction) → direction_by (num (direction_to d)) ≡ d
direction_same direction.Up = refl
direction_same direction.Down = refl

abbrev pub way_direction : Way Direction
way_direction = record { to = direction_to; back = λ g. direction_by (num g); same = direction_same }
