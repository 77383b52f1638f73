-- What the uses of statements tell of the places that they write, and of the calls in them.
use Rattle.std.proofs.Common.{◌≡◌, ℕ, Bool, true, false, not, ◌&&◌, List, [], ◌∷◌, ◌++◌, refl}
use Rattle.std.specs.List.{list_all}
use Rattle.std.specs.Cmp.Derive.{both_true}
use Rattle.spv_logic.proofs.list.Tests.{left_true, right_true}
use Rattle.spv_logic.specs.declared.names.names.Symbol.{Symbol}
use Rattle.spv_program.specs.declared.types.Item.TheVariants.{Class}
use Rattle.spv_program.specs.Expressions.{Expression, Designator, Selectors, Call, Arguments, Numeral, Boolean, NilOf, Read, Result, Through, Negative, Calculated, Compared, Negated, Joined, designator, no_selectors, at_index, at_field, at_cell, call, no_arguments, by_value, by_place}
use Rattle.spv_program.specs.Statements.{Statement, Arms, Empty, Assign, Perform, New, Sequence, If, Case, While, Repeat, For, Assert, no_arms, arm}
use Rattle.spv_program.specs.Uses.{Root, Shared, Use, has_cell, name_root, annotation_uses, expression_uses, designator_uses, selector_uses, call_uses, argument_uses, statement_uses, arms_uses, designator_calls, expression_calls, selector_calls, calls_with, argument_calls, statement_calls, arms_calls}
use Rattle.spv_program.specs.Frames.{root_behind, root_of, place_roots}
use Rattle.spv_frame_law.proofs.Records.{use_kept}
use Rattle.spv_writes.proofs.Lists.{all_left, all_right, all_both}

-- ---- places that are written

-- the root of a place that is written is among its uses
written_below : (keep : Root → Bool) (own : Symbol → Bool) (root : Root) (line : ℕ) (others : Selectors) → list_all (use_kept keep) (record { root = root; changes = true && not (has_cell others); line = line } ∷ selector_uses own true others) ≡ true → keep (root_behind root others) ≡ true
written_below keep own root line no_selectors all = left_true (keep root) true all
written_below keep own root line (at_index t e others) all =
    written_below keep own root line others
    (both_true (left_true (use_kept keep (record { root = root; changes = not (has_cell others); line = line })) _ all)
    (all_right (use_kept keep) (expression_uses own e) (selector_uses own true others) (right_true (use_kept keep (record { root = root; changes = not (has_cell others); line = line })) _ all)))
written_below keep own root line (at_field t f others) all = written_below keep own root line others all
written_below keep own root line (at_cell at t others) all = written_below keep own (Shared (Class t)) at others all

pub written_root : (keep : Root → Bool) (own : Symbol → Bool) (d : Designator) → list_all (use_kept keep) (designator_uses own true d) ≡ true → keep (root_of own d) ≡ true
written_root keep own (designator line x others) all = written_below keep own (name_root own x) line others all

-- the roots of VAR arguments are among the uses of the arguments
pub place_roots_kept : (keep : Root → Bool) (own : Symbol → Bool) (given : Arguments) → list_all (use_kept keep) (argument_uses own given) ≡ true → list_all keep (place_roots own given) ≡ true
place_roots_kept keep own no_arguments all = refl
place_roots_kept keep own (by_value e others) all = place_roots_kept keep own others (all_right (use_kept keep) (expression_uses own e) (argument_uses own others) all)
place_roots_kept keep own (by_place d others) all =
    both_true (written_root keep own d (all_left (use_kept keep) (designator_uses own true d) (argument_uses own others) all))
    (place_roots_kept keep own others (all_right (use_kept keep) (designator_uses own true d) (argument_uses own others) all))

-- ---- calls

-- where all that is written passes a test, so do the roots of the VAR arguments of each call
module _ (keep : Root → Bool) (own : Symbol → Bool) where
  abbrev pub placed : Call → Bool
  placed (call id line given) = list_all keep (place_roots own given)

  abbrev Kept : List Use → Type 0
  Kept us = list_all (use_kept keep) us ≡ true

  abbrev Placed : List Call → Type 0
  Placed cs = list_all placed cs ≡ true

  two_placed : (us vs : List Use) (cs ds : List Call) → Kept (us ++ vs) → (Kept us → Placed cs) → (Kept vs → Placed ds) → Placed (cs ++ ds)
  two_placed us vs cs ds all one two = all_both placed cs ds (one (all_left (use_kept keep) us vs all)) (two (all_right (use_kept keep) us vs all))

  mutual
    expression_placed : (e : Expression) → Kept (expression_uses own e) → Placed (expression_calls e)
    expression_placed (Numeral z) all = refl
    expression_placed (Boolean b) all = refl
    expression_placed (NilOf t) all = refl
    expression_placed (Read d) all = designator_placed d false all
    expression_placed (Result c) all = call_placed c all
    expression_placed (Through c line t others) all =
        two_placed (call_uses own c) (record { root = Shared (Class t); changes = false; line = line } ∷ selector_uses own false others) (calls_with c) (selector_calls others) all (call_placed c)
        (λ all. selector_placed others false (right_true (use_kept keep (record { root = Shared (Class t); changes = false; line = line })) _ all))
    expression_placed (Negative e) all = expression_placed e all
    expression_placed (Calculated o a b) all = two_placed (expression_uses own a) (expression_uses own b) (expression_calls a) (expression_calls b) all (expression_placed a) (expression_placed b)
    expression_placed (Compared o a b) all = two_placed (expression_uses own a) (expression_uses own b) (expression_calls a) (expression_calls b) all (expression_placed a) (expression_placed b)
    expression_placed (Negated e) all = expression_placed e all
    expression_placed (Joined o a b) all = two_placed (expression_uses own a) (expression_uses own b) (expression_calls a) (expression_calls b) all (expression_placed a) (expression_placed b)

    designator_placed : (d : Designator) (writes : Bool) → Kept (designator_uses own writes d) → Placed (designator_calls d)
    designator_placed (designator line x others) writes all =
        selector_placed others writes (right_true (use_kept keep (record { root = name_root own x; changes = writes && not (has_cell others); line = line })) _ all)

    selector_placed : (others : Selectors) (writes : Bool) → Kept (selector_uses own writes others) → Placed (selector_calls others)
    selector_placed no_selectors writes all = refl
    selector_placed (at_index t e others) writes all = two_placed (expression_uses own e) (selector_uses own writes others) (expression_calls e) (selector_calls others) all (expression_placed e) (selector_placed others writes)
    selector_placed (at_field t f others) writes all = selector_placed others writes all
    selector_placed (at_cell line t others) writes all =
        selector_placed others writes (right_true (use_kept keep (record { root = Shared (Class t); changes = writes && not (has_cell others); line = line })) _ all)

    call_placed : (c : Call) → Kept (call_uses own c) → Placed (calls_with c)
    call_placed (call id line given) all =
        all_both placed (argument_calls given) (call id line given ∷ []) (arguments_placed given all) (both_true (place_roots_kept keep own given all) refl)

    arguments_placed : (given : Arguments) → Kept (argument_uses own given) → Placed (argument_calls given)
    arguments_placed no_arguments all = refl
    arguments_placed (by_value e others) all = two_placed (expression_uses own e) (argument_uses own others) (expression_calls e) (argument_calls others) all (expression_placed e) (arguments_placed others)
    arguments_placed (by_place d others) all = two_placed (designator_uses own true d) (argument_uses own others) (designator_calls d) (argument_calls others) all (designator_placed d true) (arguments_placed others)

  mutual
    pub statement_placed : (s : Statement) → Kept (statement_uses own s) → Placed (statement_calls s)
    statement_placed Empty all = refl
    statement_placed (Assign d e) all = two_placed (designator_uses own true d) (expression_uses own e) (designator_calls d) (expression_calls e) all (designator_placed d true) (expression_placed e)
    statement_placed (Perform c) all = call_placed c all
    statement_placed (New line d t) all = designator_placed d true (all_left (use_kept keep) (designator_uses own true d) (record { root = Shared (Class t); changes = true; line = line } ∷ []) all)
    statement_placed (Sequence a b) all = two_placed (statement_uses own a) (statement_uses own b) (statement_calls a) (statement_calls b) all (statement_placed a) (statement_placed b)
    statement_placed (If line e a b) all =
        two_placed (expression_uses own e) (statement_uses own a ++ statement_uses own b) (expression_calls e) (statement_calls a ++ statement_calls b) all (expression_placed e)
        (λ all. two_placed (statement_uses own a) (statement_uses own b) (statement_calls a) (statement_calls b) all (statement_placed a) (statement_placed b))
    statement_placed (Case line e arms) all = two_placed (expression_uses own e) (arms_uses own arms) (expression_calls e) (arms_calls arms) all (expression_placed e) (arms_placed arms)
    statement_placed (While line f e s) all =
        two_placed (expression_uses own e) (statement_uses own s) (expression_calls e) (statement_calls s) (all_right (use_kept keep) (annotation_uses own f) (expression_uses own e ++ statement_uses own s) all) (expression_placed e) (statement_placed s)
    statement_placed (Repeat line f s e) all =
        two_placed (statement_uses own s) (expression_uses own e) (statement_calls s) (expression_calls e) (all_right (use_kept keep) (annotation_uses own f) (statement_uses own s ++ expression_uses own e) all) (statement_placed s) (expression_placed e)
    statement_placed (For line f count s) all =
        let counter : Use = record { root = name_root own count.variable; changes = true; line = line } in
        let rest = all_right (use_kept keep) (annotation_uses own f) (counter ∷ (expression_uses own count.first ++ (expression_uses own count.last ++ statement_uses own s))) all in
        two_placed (expression_uses own count.first) (expression_uses own count.last ++ statement_uses own s) (expression_calls count.first) (expression_calls count.last ++ statement_calls s) (right_true (use_kept keep counter) _ rest) (expression_placed count.first)
        (λ all. two_placed (expression_uses own count.last) (statement_uses own s) (expression_calls count.last) (statement_calls s) all (expression_placed count.last) (statement_placed s))
    statement_placed (Assert a) all = refl

    arms_placed : (arms : Arms) → Kept (arms_uses own arms) → Placed (arms_calls arms)
    arms_placed no_arms all = refl
    arms_placed (arm labels s others) all = two_placed (statement_uses own s) (arms_uses own others) (statement_calls s) (arms_calls others) all (statement_placed s) (arms_placed others)
