-- Lists of conditions whose formulas are of sort Bool.
use Rattle.std.proofs.Common.{List, [], ◌∷◌, ◌++◌, map, Option, Some, None}
use Rattle.spv_logic.specs.declared.types.Sort.TheVariants as sort
use Rattle.spv_logic.specs.declared.operators.Head.{Head}
use Rattle.spv_logic.specs.Terms.{Term}
use Rattle.spv_logic.specs.Substitution.{Replacement, substitute}
use Rattle.spv_logic.specs.Conditions.{Condition}
use Rattle.spv_program.specs.Programs.{Program}
use Rattle.spv_program.specs.Calls.{replacing}
use Rattle.spv_meaning.specs.Before.{all_assuming, assuming_if_there, replaced}
use Rattle.spv_rule_soundness.specs.condition_sorts.Sorted.{IsTruth, AreTruths, AreSorted}
use Rattle.spv_conditions.proofs.condition_sorts.Substituted.{Keeps, AllKeep, substituted, pairs_keep}

abbrev pub IfTruth : Program → Option Term → Type 0
IfTruth p None = Unit {0}
IfTruth p (Some t) = IsTruth p t

module _ (p : Program) where
  pub appended : (cs ds : List Condition) → AreSorted p cs → AreSorted p ds → AreSorted p (cs ++ ds)
  appended [] ds first second = second
  appended (c ∷ cs) ds first second = (first.0, appended cs ds first.1 second)

  pub assumed : (h : Term) (cs : List Condition) → IsTruth p h → AreSorted p cs → AreSorted p (all_assuming h cs)
  assumed h [] is all = tt
  assumed h (c ∷ cs) is all = (record { given = (is, all.0.given); goal = all.0.goal }, assumed h cs is all.1)

  pub assumed_there : (o : Option Term) (cs : List Condition) → IfTruth p o → AreSorted p cs → AreSorted p (assuming_if_there o cs)
  assumed_there None cs is all = all
  assumed_there (Some h) cs is all = assumed h cs is all

  all_placed : (by : Replacement) → Keeps p by → (ts : List Term) → AreTruths p ts → AreTruths p (map (substitute by) ts)
  all_placed by keeps [] all = tt
  all_placed by keeps (t ∷ ts) all = (substituted p by keeps t sort.Bool all.0, all_placed by keeps ts all.1)

  pub all_replaced : (pairs : List (Head × Term)) (cs : List Condition) → AllKeep p pairs → AreSorted p cs → AreSorted p (replaced pairs cs)
  all_replaced pairs [] keep all = tt
  all_replaced pairs (c ∷ cs) keep all = (
    record {
      given = all_placed (replacing pairs) (pairs_keep p pairs keep) c.claim.given all.0.given;
      goal = substituted p (replacing pairs) (pairs_keep p pairs keep) c.claim.goal sort.Bool all.0.goal;
    },
    all_replaced pairs cs keep all.1,
  )
