use Rattle.std.proofs.Common.{◌≡◌, ℕ, List, refl, sym, arith}
use Rattle.std.proofs.lemmas.Bool.{false≢true}
use Rattle.spv_logic.specs.Terms.{Term}
use Rattle.spv_proof_rules.specs.Accepted.{Open, Closed}
use Rattle.spv_models.proofs.split_trees.Trying.{order-known, start-live, below-live, above-live, equal-not-live, forced-not-live, arguments-not-live}
use Rattle.spv_models.proofs.split_trees.laws.law_examples.Goals as goal

other_number : (n : ℕ) → n ≡ 1 → n ≡ 2 → ⊥
other_number n e f = omega (arith, e, f)

opened : {fs : List Term} → Open fs ≡ Closed → ⊥
opened e = cc

pub returns-clause-atoms : goal.returns-clause-atoms
returns-clause-atoms c = refl

pub returns-clause-one_split : goal.returns-clause-one_split
returns-clause-one_split c = record {
  stands = (record { is_atom = refl; is_new = refl; live = start-live }, (refl, (below-live, (above-live, tt))));
  so_many = refl;
  one_open = refl;
}

pub returns-clause-number_of_splits : goal.returns-clause-number_of_splits
returns-clause-number_of_splits c k = other_number 1 refl k.so_many

pub returns-clause-twice_on_one_path : goal.returns-clause-twice_on_one_path
returns-clause-twice_on_one_path c k = false≢true (sym (k.stands.1.1.0.0.is_new))

pub returns-clause-clash_by_congruence : goal.returns-clause-clash_by_congruence
returns-clause-clash_by_congruence c k = equal-not-live k.stands.1.0.0.live

pub returns-clause-parts_of_its_kind : goal.returns-clause-parts_of_its_kind
returns-clause-parts_of_its_kind c k = k.stands.1.1.1

pub returns-clause-atom_of_the_search : goal.returns-clause-atom_of_the_search
returns-clause-atom_of_the_search c k = false≢true k.stands.0.is_atom

pub returns-clause-steps_that_end : goal.returns-clause-steps_that_end
returns-clause-steps_that_end c k = opened k.stands.1.0

pub returns-clause-order_is_known : goal.returns-clause-order_is_known
returns-clause-order_is_known c = order-known

pub returns-clause-evaluation_is_not_enough : goal.returns-clause-evaluation_is_not_enough
returns-clause-evaluation_is_not_enough c = refl

pub returns-clause-what_bounds_force : goal.returns-clause-what_bounds_force
returns-clause-what_bounds_force c live = forced-not-live live

pub returns-clause-arguments_are_asked : goal.returns-clause-arguments_are_asked
returns-clause-arguments_are_asked c live = arguments-not-live live
