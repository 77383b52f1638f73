-- Numbers in a set and in a list.
use Rattle.std.specs.Prelude.{◌≡◌, ℤ, List}
use Rattle.std.specs.BTreeSet.{BTreeSet, contains_by}
use Rattle.std.specs.List.{list_any}
use Rattle.std.specs.Ordering.{int_cmp, int_eq}

-- the numbers of the set are those of the list
pub record AreThose (sorted : BTreeSet ℤ) (listed : List ℤ) : Type 0 where
  pub each : (z : ℤ) → contains_by (int_cmp z) sorted ≡ list_any (int_eq z) listed
