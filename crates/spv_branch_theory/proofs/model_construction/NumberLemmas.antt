-- The numbers of terms.
use Rattle.std.proofs.Common.{◌≡◌, ℕ, suc, ◌+◌, ◌<◌, get_or, Bool, true, false, cond, not, List, [], ◌∷◌, length, nat_lt, refl, sym, ap, ◌∙◌, Option, Some, None, arith, pos}
use Rattle.std.specs.List.{list_any, position, position_or_len}
use Rattle.std.proofs.lemmas.Bool.Decides.{nat_tests}
use Rattle.spv_logic.proofs.list.Tests.{left_false, right_false}
use Rattle.spv_whole.specs.Fraction.{Fraction, IsLowest, whole}
use Rattle.spv_frac.specs.rational.Rational.{Rational, number}
use Rattle.spv_frac.proofs.rational.Field.{number_is}
use Rattle.spv_logic.specs.declared.conditions.TermId.{TermId}
use Rattle.std.specs.Prelude.{slice_get}
use Rattle.std.proofs.lemmas.Option.{slice_get-get_or}
use Rattle.spv_term.specs.declared.nodes.Node.{Node}
use Rattle.spv_term.specs.Arena.{AllBelow}
use Rattle.spv_term.proofs.TreeLemmas.{AllBelow-at}
use Rattle.spv_congruence.specs.Keep.{IsNode}
use Rattle.spv_branch_theory.specs.model_construction.Firsts.{HasNodes}
use Rattle.spv_atoms.specs.Order.{same_id}
use Rattle.spv_tableau_rules.specs.tableaux.Forms.{part_ids}
use Rattle.spv_simplex.specs.State.{State, value_of, value_from}

-- a fraction that stands for a number
pub fraction_is : (f : Fraction) (r : Rational) → IsLowest f → number f ≡ r → f ≡ r.fraction
fraction_is f r lowest e = sym (number_is f lowest) ∙ ap (λ (x : Rational). x.fraction) e

all_before : (t : TermId) (ids : List TermId) → list_any (same_id t) ids ≡ false → position_or_len (same_id t) ids ≡ length ids
all_before t [] h = refl
all_before t (u ∷ ids) h =
    ap (λ b. cond (not b) (1 + position_or_len (same_id t) ids) 0) (left_false (same_id t u) (list_any (same_id t) ids) h)
    ∙ (ap (λ n. 1 + n) (all_before t ids (right_false (same_id t u) (list_any (same_id t) ids) h)) ∙ one_more (length ids))
  where
    one_more : (n : ℕ) → 1 + n ≡ suc n
    one_more n = omega arith

not_below_itself : (n : ℕ) → nat_lt n n ≡ false
not_below_itself n = grind (arith, nat_tests)

no_place : (t : TermId) (ids : List TermId) → list_any (same_id t) ids ≡ false → position (same_id t) ids ≡ None
no_place t ids h =
    ap (λ n. cond (nat_lt n (length ids)) (Some n) None) (all_before t ids h) ∙ ap (λ b. cond b (Some (length ids)) None) (not_below_itself (length ids))

-- what is no column has the value 0
pub no_column : (s : State) (t : TermId) → list_any (same_id t) (part_ids s.forms) ≡ false → (value_of s t).fraction ≡ whole (pos 0)
no_column s t h = ap (λ o. (value_from s o).fraction) (no_place t (part_ids s.forms) h)

-- ---- items

pub node_at : (nodes : List (Option Node)) (ids : List TermId) (flags : List Bool) (i : ℕ) (d : TermId) (e : Bool) → HasNodes nodes ids flags → i < length ids → length flags ≡ length ids → get_or flags i e ≡ true → IsNode nodes (get_or ids i d)
node_at nodes ids flags i d e h below many is =
    let within : i < length flags = omega (arith, below, many) in
    h.each i (get_or ids i d) (slice_get-get_or ids i d below) (slice_get-get_or flags i e within ∙ ap Some is)

pub item_in : (n : ℕ) (ids : List TermId) (i : ℕ) (d : TermId) → AllBelow n ids → i < length ids → (get_or ids i d).0 < n
item_in n ids i d h below = AllBelow-at n ids i (get_or ids i d) h (slice_get-get_or ids i d below)

pub flag_there : (flags : List Bool) (ids : List TermId) (i : ℕ) (e : Bool) → i < length ids → length flags ≡ length ids → slice_get flags i ≡ Some (get_or flags i e)
flag_there flags ids i e below many = slice_get-get_or flags i e (omega (arith, below, many))
