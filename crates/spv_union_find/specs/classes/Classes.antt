-- Classes of numbers, as the joins that put them together, each with one number of each class as its label.
use Rattle.std.specs.Prelude.{◌≡◌, ◌≢◌, ℕ, zero, suc, ◌+◌, ◌-◌, ◌<◌, ◌≤◌, List, [], ◌∷◌, ◌++◌, take, length, fold, Option, Some, None, Bool, nat_eq, nat_le, nat_lt, slice_get, slice_set, slice_index_or, if◌then◌else◌, ◌⊎◌}
use Rattle.spv_union_find.specs.declared.classes.joins.Cause.{Cause}
use Rattle.spv_union_find.specs.declared.classes.joins.Join.{Join}
use Rattle.spv_union_find.specs.declared.classes.joins.Point.{Point}

-- what contracts see: how many numbers there are, and what was joined, in order
pub record Classes : Type 0 where
  pub count : ℕ
  pub joins : List Join

-- ---- labels

-- a label after one more join
abbrev pub one_label : ℕ → Join → ℕ
one_label l j = if nat_eq l j.lower then j.upper else l

-- the label of the class of a number, after these joins
abbrev pub label : List Join → ℕ → ℕ
label joins x = fold one_label x joins

-- ---- members

-- how many members a class has, by its label
abbrev pub with_size : (ℕ → ℕ) → Join → ℕ → ℕ
with_size f j l = if nat_eq l j.upper then f j.upper + f j.lower else f l

abbrev pub size : List Join → ℕ → ℕ
size joins = fold with_size (λ l. 1) joins

-- the next member of the same class, round about: a join links two rings into one
abbrev pub with_next : (ℕ → ℕ) → Join → ℕ → ℕ
with_next f j x = if nat_eq x j.lower then f j.upper else (if nat_eq x j.upper then f j.lower else f x)

abbrev pub next : List Join → ℕ → ℕ
next joins = fold with_next (λ x. x) joins

-- ---- joins

-- where the join stands that took a label away; the first join stands at this place
abbrev pub taken_from : ℕ → List Join → ℕ → Option ℕ
taken_from place [] x = None
taken_from place (j ∷ joins) x = if nat_eq x j.lower then Some place else taken_from (suc place) joins x

abbrev pub taken_at : List Join → ℕ → Option ℕ
taken_at joins x = taken_from 0 joins x

-- a join of two classes of numbers below a count
pub record IsJoin (count : ℕ) (before : List Join) (j : Join) : Type 0 where
  pub lower_in : j.lower < count
  pub upper_in : j.upper < count
  pub left_in : j.left < count
  pub right_in : j.right < count
  pub apart : j.lower ≢ j.upper
  pub lower_is : label before j.lower ≡ j.lower
  pub upper_is : label before j.upper ≡ j.upper
  pub sides : ((label before j.left ≡ j.lower) × (label before j.right ≡ j.upper)) ⊎ ((label before j.left ≡ j.upper) × (label before j.right ≡ j.lower))
  pub smaller : size before j.lower ≤ size before j.upper

pub record AreJoins (count : ℕ) (joins : List Join) : Type 0 where
  pub each : (i : ℕ) (j : Join) → slice_get joins i ≡ Some j → IsJoin count (take i joins) j

-- ---- points

-- what is kept for a number
abbrev pub point : List Join → ℕ → Point
point joins x = record { label = label joins x; size = size joins x; next = next joins x; taken = taken_at joins x }

abbrev pub point_at : List Point → ℕ → Point
point_at points x = slice_index_or points x (point [] 0)

pub record ArePoints (joins : List Join) (points : List Point) : Type 0 where
  pub each : (x : ℕ) → x < length points → point_at points x ≡ point joins x

-- the label of so many points on a ring is this one
abbrev pub with_label : Point → ℕ → Point
with_label p l = record p { label = l }

abbrev pub relabelled : List Point → ℕ → ℕ → ℕ → List Point
relabelled points at zero to = points
relabelled points at (suc n) to = relabelled (slice_set points at (with_label (point_at points at) to)) (point_at points at).next n to

abbrev pub made : ℕ → ℕ → ℕ → Option ℕ → Point
made l s n o = record { label = l; size = s; next = n; taken = o }

-- the points after one more join, which stands at this place
abbrev pub linked : List Point → ℕ → ℕ → ℕ → List Point
linked points lower upper place =
    slice_set
    (slice_set (relabelled points lower (point_at points lower).size upper) lower
    (made upper (point_at points lower).size (point_at points upper).next (Some place)))
    upper
    (made upper ((point_at points upper).size + (point_at points lower).size) (point_at points lower).next (point_at points upper).taken)

-- the points before a join
abbrev pub parted : List Point → ℕ → ℕ → List Point
parted points lower upper =
    slice_set
    (slice_set points lower (made (point_at points lower).label (point_at points lower).size (point_at points upper).next None))
    upper
    (made (point_at points upper).label ((point_at points upper).size - (point_at points lower).size) (point_at points lower).next (point_at points upper).taken)

abbrev pub unlinked : List Point → ℕ → ℕ → List Point
unlinked points lower upper = relabelled (parted points lower upper) lower (point_at points lower).size lower

-- the join of the classes of two numbers: the smaller class gets the other label
abbrev pub join_of : List Join → ℕ → ℕ → Cause → Join
join_of joins left right cause =
    if nat_le (size joins (label joins left)) (size joins (label joins right))
    then record { lower = label joins left; upper = label joins right; left = left; right = right; cause = cause }
    else record { lower = label joins right; upper = label joins left; left = left; right = right; cause = cause }

abbrev pub count_of : (ℕ → Bool) → ℕ → ℕ
count_of p zero = 0
count_of p (suc n) = if p n then suc (count_of p n) else count_of p n

-- how many numbers have this label
abbrev pub members : List Join → ℕ → ℕ → ℕ
members joins count l = count_of (λ x. nat_eq (label joins x) l) count

-- so many numbers on the ring of a number, from it on
abbrev pub ring_from : List Join → ℕ → ℕ → List ℕ
ring_from joins at zero = []
ring_from joins at (suc n) = at ∷ ring_from joins (next joins at) n

abbrev pub AreWithin : ℕ → List ℕ → Type 0
AreWithin count xs = (i x : ℕ) → slice_get xs i ≡ Some x → x < count

-- each number with this label is among these
abbrev pub HasMembers : Classes → ℕ → List ℕ → Type 0
HasMembers c l xs = (x : ℕ) → label c.joins x ≡ l → (i : ℕ) × (slice_get xs i ≡ Some x)

-- the last join that was needed to bring two numbers into one class
pub record IsLatest (joins : List Join) (x y m : ℕ) : Type 0 where
  pub within : m < length joins
  pub apart : label (take m joins) x ≢ label (take m joins) y
  pub same : label (take (suc m) joins) x ≡ label (take (suc m) joins) y

-- the first join that takes one of two labels away
pub record IsNextTaken (joins : List Join) (a b p : ℕ) : Type 0 where
  pub within : p < length joins
  pub before : (i : ℕ) (j : Join) → i < p → slice_get joins i ≡ Some j → (j.lower ≢ a) × (j.lower ≢ b)
  pub here : (j : Join) → slice_get joins p ≡ Some j → (j.lower ≡ a) ⊎ (j.lower ≡ b)

-- a place that is before a time
abbrev pub before_time : ℕ → Option ℕ → Option ℕ
before_time time None = None
before_time time (Some p) = if nat_lt p time then Some p else None
