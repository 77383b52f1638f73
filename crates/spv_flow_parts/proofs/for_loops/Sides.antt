-- The conditions of a FOR, put together.
use Rattle.std.proofs.Common.{◌≡◌, ◌<◌, ◌≤◌, ◌+◌, ℕ, true, List, [], ◌∷◌, ◌++◌, length, IfOk, IsErrAnd, Option, Some, None, option_map, refl, sym, ap, subst, ◌∙◌, arith}
use Rattle.std.proofs.lemmas.Bool.{false≢true}
use Rattle.std.proofs.lemmas.List.{length-map, length-append}
use Rattle.spv_logic.specs.declared.conditions.TermId.{TermId}
use Rattle.spv_logic.specs.Terms.{Term}
use Rattle.spv_logic.specs.Conditions as logic
use Rattle.spv_term.specs.declared.nodes.Condition.{Condition}
use Rattle.spv_term.specs.Arena.{Arena, tree}
use Rattle.spv_term.proofs.ArenaLemmas.{Extends-refl}
use Rattle.spv_term.specs.substitution.Parts.{is_part_of}
use Rattle.spv_program.specs.Supplies.{Supply}
use Rattle.spv_assign.specs.supply.Numbers.{AreThere}
use Rattle.spv_assign.specs.Conditions.{conditions_of}
use Rattle.spv_meaning.specs.Before.{assuming, all_assuming, assuming_if_there}
use Rattle.spv_assign.specs.declared.creation_trace.faults.GenFault.{GenFault}
use Rattle.spv_assign.specs.declared.creation_trace.faults.GenFault.TheVariants as fault
use Rattle.spv_assign.specs.creation_trace.Events.{Event, Terms, Conditions, terms_of, longest_list, Stops, Answers}
use Rattle.spv_assign.specs.creation_trace.StatementEvents.{counted}
use Rattle.spv_assign.proofs.creation_trace.Walks.{nothing_walked, part_first, terms_of_both}
use Rattle.spv_assign.specs.limited_steps.Makes.{IsTerm}
use Rattle.spv_flow_parts.specs.Walks.{AreThese, Listed, Comes}
use Rattle.spv_flow_parts.proofs.Steps.{comes_not}
use Rattle.spv_flow_parts.proofs.Conditions.{joined_comes, these_both, long_conditions}
use Rattle.spv_flow_parts.specs.for_loops.Counting.{side}

pub side_same : (a : Arena) (h : Option TermId) (t : TermId) (x : Option Term) (y : Term) (cs : List logic.Condition) (conditions under all : List Condition) → option_map (tree a) h ≡ x → IsTerm a t y → AreThese a conditions cs
    → AreThese a under (all_assuming (tree a t) (conditions_of a conditions)) → AreThese a all (assuming_if_there (option_map (tree a) h) (conditions_of a under)) → AreThese a all (side x y cs)
side_same a h t x y cs conditions under all known term these under_these all_these =
    let e = term.is_tree in
    let f = these.same in
    let g = under_these.same in
    record {
      same = all_these.same ∙ (λ i. assuming_if_there (known i) (g i)) ∙ (λ i. assuming_if_there x (all_assuming (e i) (f i)));
      in_range = all_these.in_range;
    }

pub long_side : (x : Option Term) (t : Term) (cs : List logic.Condition) → length (side x t cs) ≡ length cs
long_side None t cs = length-map cs (assuming t)
long_side (Some y) t cs = length-map (all_assuming t cs) (assuming y) ∙ length-map cs (assuming t)

-- ---- longer lists

conditions_are : (k l : ℕ) → Conditions k ≡ Conditions l → k ≡ l
conditions_are k l e = ap count e
  where
    count : Event → ℕ
    count (Terms ts) = 0
    count (Conditions n) = n

only_list : (k l : ℕ) (before after : List Event) → counted k ≡ before ++ Conditions l ∷ after → k ≡ l
only_list k l [] after e = ap first e
  where
    first : List Event → ℕ
    first [] = 0
    first (Terms ts ∷ events) = 0
    first (Conditions n ∷ events) = n
only_list k l (x ∷ before) after e = absurd (longer before (ap others e))
  where
    others : List Event → List Event
    others [] = []
    others (y ∷ ys) = ys

    longer : (xs : List Event) → [] ≡ xs ++ Conditions l ∷ after → ⊥
    longer [] f = cc
    longer (y ∷ ys) f = cc

-- where a list is too long, so is a longer one
pub counted_more : (k m : ℕ) (g : GenFault) (a : Arena) → k ≤ m → Stops g (counted k) a a → Stops g (counted m) a a
counted_more k m (fault.Conditions n) a more h =
    let same : k ≡ h.1.length = only_list k h.1.length h.1.before h.1.after h.1.parts in
    let long : longest_list < h.1.length = h.1.too_long in
    let longer : longest_list < m = omega (arith, same, long, more) in
    (h.0, record { before = []; length = m; after = []; parts = refl; walked = nothing_walked a; too_long = longer })
counted_more k m (fault.Terms n) a more h =
    let part : is_part_of (terms_of h.1.first ++ terms_of h.1.after) h.1.lacks.missing ≡ true = part_first (terms_of h.1.first) (terms_of h.1.after) h.1.lacks.missing h.1.lacks.part in
    absurd (false≢true (ap (λ (l : List Term). is_part_of l h.1.lacks.missing) (ap terms_of h.1.parts ∙ terms_of_both h.1.first h.1.after) ∙ part))
counted_more k m fault.Memory a more h = tt

-- ---- the three lists

module _ (a : Arena) (x : Option Term) (y z : Term) (bs cs ds : List logic.Condition) (begun fs ss : List Condition) (n : Supply) (numbers : AreThere a n)
    (b_these : AreThese a begun bs) (f_these : AreThese a fs (side x y cs)) (s_these : AreThese a ss (side x z ds)) where
  abbrev whole : List logic.Condition
  whole = bs ++ (side x y cs ++ side x z ds)

  abbrev count : ℕ
  count = length bs + (length cs + length ds)

  begun_long : length begun ≡ length bs
  begun_long = sym (long_conditions a begun) ∙ ap (λ (l : List logic.Condition). length l) b_these.same

  first_long : length fs ≡ length cs
  first_long = sym (long_conditions a fs) ∙ ap (λ (l : List logic.Condition). length l) f_these.same ∙ long_side x y cs

  second_long : length ss ≡ length ds
  second_long = sym (long_conditions a ss) ∙ ap (λ (l : List logic.Condition). length l) s_these.same ∙ long_side x z ds

  pub both_stop : (r : Listed) (g : GenFault) → IsErrAnd r (λ e. e ≡ g) → Stops g (counted (length fs + length ss)) a a → Comes r (record { conditions = whole; supply = n }) (counted count) a a n
  both_stop r g is stops =
      let first = first_long in
      let second = second_long in
      let more : length fs + length ss ≤ length bs + (length cs + length ds) = omega (arith, first, second) in
      comes_not (record { conditions = whole; supply = n }) n r g (counted count) is (Extends-refl a) (counted_more (length fs + length ss) count g a more stops)

  pub sides_come : (r : Listed) (both : List Condition) → both ≡ fs ++ ss → IfOk r (λ all. all.items ≡ begun ++ both) → Answers r (counted (length begun + length both)) a a
      → Comes r (record { conditions = whole; supply = n }) (counted count) a a n
  sides_come r both is joined answers =
      let begun_is = begun_long in
      let both_is : length both ≡ length cs + length ds =
      let first = first_long in
      let second = second_long in
      ap (λ (l : List Condition). length l) is ∙ length-append fs ss ∙ (λ i. first i + second i) in
      subst (λ k. Comes r (record { conditions = whole; supply = n }) (counted k) a a n) (λ i. begun_is i + both_is i)
      (joined_comes r begun both bs (side x y cs ++ side x z ds) a joined answers b_these
      (subst (λ (l : List Condition). AreThese a l (side x y cs ++ side x z ds)) (sym is) (these_both a fs ss (side x y cs) (side x z ds) f_these s_these)) n numbers)

-- the same by what was handed on
pub side_given : (a : Arena) (h : Option TermId) (t : TermId) (x : Option Term) (y : Term) (cs : List logic.Condition) (conditions under given all : List Condition) → given ≡ under → option_map (tree a) h ≡ x → IsTerm a t y → AreThese a conditions cs
    → AreThese a under (all_assuming (tree a t) (conditions_of a conditions)) → AreThese a all (assuming_if_there (option_map (tree a) h) (conditions_of a given)) → AreThese a all (side x y cs)
side_given a h t x y cs conditions under given all same known term these under_these all_these =
    side_same a h t x y cs conditions under all known term these under_these
    (subst (λ (l : List Condition). AreThese a all (assuming_if_there (option_map (tree a) h) (conditions_of a l))) same all_these)
