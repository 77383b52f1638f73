-- The labels of a CASE, of which no two are the same.
use Rattle.std.proofs.Common.{◌≡◌, true, not, List, [], ◌∷◌, ◌++◌, ℤ, refl, sym, ap, ◌∙◌, subst}
use Rattle.std.specs.Prelude.{Ok}
use Rattle.std.specs.List.{list_any}
use Rattle.std.specs.Ordering.{int_eq}
use Rattle.std.proofs.lemmas.List.{append-nil, append_assoc}
use Rattle.spv_logic.proofs.Equality.{int_eq-true, int_eq-refl}
use Rattle.spv_tree.specs.declared.syntax.names.Constant.{Constant}
use Rattle.spv_tree.specs.declared.syntax.lists.Several.{Several}
use Rattle.spv_program.specs.Lists.{all_differ}
use Rattle.spv_typing.specs.declared.faults.TypeFault.TheVariants.{LabelTwice}
use Rattle.spv_typing.specs.Outcomes.{Outcome, where_so, each}
use Rattle.spv_typing.specs.Known.{Scope}
use Rattle.spv_typing.specs.TypeWalk.{all_names, constant}
use Rattle.spv_typing.specs.StatementWalk.{new_label, new_labels, dropped}
use Rattle.spv_type_soundness.proofs.well_typed.Outcomes.{fine, same_value, went, held, behind_test}
use Rattle.spv_type_soundness.proofs.well_typed_programs.Differ.{differ_one, not_true}

-- what each step keeps, all steps keep
pub each_keeps : {S X : Type 0} (P : S → Type 0) (step : S → X → Outcome S) → ((s t : S) (x : X) → P s → step s x ≡ Ok t → P t)
    → (xs : List X) (s t : S) → P s → each step s xs ≡ Ok t → P t
each_keeps P step keeps [] s t h e = subst P (same_value e) h
each_keeps P step keeps (x ∷ xs) s t h e =
    let one = went (step s x) (λ next. each step next xs) t e in
    each_keeps P step keeps xs one.value t (keeps s one.value x h one.first) one.rest

-- more labels behind these, and no two of all are the same
pub record MoreLabels (before all : List ℤ) : Type 0 where
  pub more : List ℤ
  pub is : all ≡ before ++ more
  pub differ : all_differ int_eq all ≡ true

one_label : (s : Scope) (before labels all : List ℤ) (c : Constant) → MoreLabels before labels → new_label s labels c ≡ Ok all
    → MoreLabels before all
one_label s before labels all c h e =
    let one = went (constant s c) (λ z. where_so (not (list_any (int_eq z) labels)) (LabelTwice c.line z) (fine (labels ++ z ∷ []))) all
    e in
    let z = one.value in
    let fresh = held (not (list_any (int_eq z) labels)) (LabelTwice c.line z) (fine (labels ++ z ∷ [])) all one.rest in
    let same = same_value (behind_test (not (list_any (int_eq z) labels)) (LabelTwice c.line z) (fine (labels ++ z ∷ [])) all one.rest) in
    subst (MoreLabels before) same (record {
      more = h.more ++ z ∷ [];
      is = ap (λ ls. ls ++ z ∷ []) h.is ∙ append_assoc before h.more (z ∷ []);
      differ = differ_one int_eq int_eq-refl int_eq-true labels z h.differ (not_true (list_any (int_eq z) labels) fresh);
    })

pub labels_more : (s : Scope) (before all : List ℤ) (cs : Several Constant) → all_differ int_eq before ≡ true
    → new_labels s before cs ≡ Ok all → MoreLabels before all
labels_more s before all cs h e =
    each_keeps (MoreLabels before) (new_label s) (λ l m c k f. one_label s before l m c k f) (all_names cs) before all
    (record { more = []; is = sym (append-nil before); differ = h }) e

pub dropped_more : (before more : List ℤ) → dropped before (before ++ more) ≡ more
dropped_more [] more = refl
dropped_more (z ∷ before) more = dropped_more before more
