-- What was found is what a table calls for.
use Rattle.std.proofs.Common.{◌≡◌, ℕ, zero, suc, Bool, true, false, cond, List, [], ◌∷◌, ◌++◌, map, filter, length, Option, Some, None, is_some, Result, Ok, Err, IfErr, refl, sym, ap, ◌∙◌, subst, slice_get}
use Rattle.std.specs.List.{list_all, cons_option, filter_map}
use Rattle.std.specs.Result.{IsErrAnd}
use Rattle.std.specs.Cmp.Derive.{both_true}
use Rattle.std.proofs.lemmas.Bool.{false≢true}
use Rattle.spv_logic.proofs.list.Tests.{left_true, right_true}
use Rattle.spv_logic.specs.Terms.{Term}
use Rattle.spv_term.specs.declared.nodes.Condition.{Condition}
use Rattle.spv_term.specs.Arena.{Arena, IsArena, tree, sequent}
use Rattle.spv_table.specs.declared.table.Table.{Table}
use Rattle.spv_table.specs.Kept.{listed_over}
use Rattle.spv_proof_rules.specs.Rules.{Rule}
use Rattle.spv_proof_rules.specs.Effects.{Question}
use Rattle.spv_models.specs.leaf_models.Subterms.{subterms}
use Rattle.spv_models.specs.leaf_models.Tables.{formulas_of}
use Rattle.spv_rules.specs.declared.matching.faults.MatchFault.{MatchFault}
use Rattle.spv_rules.specs.declared.matching.instances.Instance as found_instance
use Rattle.spv_rules.specs.matching.Matches as matching
use Rattle.spv_rules.specs.matching.Matches.{Wide, after, matches}
use Rattle.spv_rules.specs.matching.Views as views
use Rattle.spv_rules.specs.matching.Views.{IsMatchFault}
use Rattle.spv_rules.specs.matching.Laws.{FoundInstancesSay}
use Rattle.spv_verdicts.specs.Verdicts as verdicts
use Rattle.spv_verdicts.specs.declared.answers.verdicts.Instance.{Instance}
use Rattle.spv_verdicts.specs.answers.Views.{InstancesIn, instances_in, pairs_in}
use Rattle.spv_rounds.specs.Claims.{formula_of, AllSay}
use Rattle.spv_rounds.specs.Rounds.{of_found, is_new, matched}
use Rattle.spv_rounds.specs.declared.knowing.known.Settled.{Settled}
use Rattle.spv_rounds.specs.knowing.Known.{IsSettled}
use Rattle.spv_rounds.specs.telling.Told.{settled_question, settled_members}
use Rattle.spv_rounds.specs.calling.Calling.{fresh}
use Rattle.spv_rounds.specs.judging.Judged.{Calls}
use Rattle.spv_rounds.proofs.calling.FreshLemmas.{fresh-called, fresh-there}

-- ---- each that is found says something

say-each : (f : verdicts.Instance → Option Term) (is : List verdicts.Instance) → list_all (λ i. is_some (f i)) is ≡ true → map f is ≡ map Some (filter_map f is)
say-each f [] h = refl
say-each f (i ∷ is) h = by_case (f i) refl (left_true (is_some (f i)) _ h) (say-each f is (right_true (is_some (f i)) _ h))
  where
    by_case : (o : Option Term) → f i ≡ o → is_some (f i) ≡ true → map f is ≡ map Some (filter_map f is) → f i ∷ map f is ≡ map Some (cons_option (f i) (filter_map f is))
    by_case None e some rest = absurd (false≢true (sym (ap is_some e) ∙ some))
    by_case (Some t) e some rest = (λ j. e j ∷ rest j) ∙ ap (λ o. map Some (cons_option o (filter_map f is))) (sym e)

all-found : (f : verdicts.Instance → Option Term) (xs : List matching.Instance) → ((k : ℕ) (i : matching.Instance) → slice_get xs k ≡ Some i → is_some (f (of_found i)) ≡ true) → (p : matching.Instance → Bool)
    → list_all (λ i. is_some (f i)) (map of_found (filter p xs)) ≡ true
all-found f [] h p = refl
all-found f (x ∷ xs) h p = by_case (p x) (all-found f xs (λ k. h (suc k)) p)
  where
    by_case : (b : Bool) → list_all (λ i. is_some (f i)) (map of_found (filter p xs)) ≡ true → list_all (λ i. is_some (f i)) (map of_found (cond b (x ∷ filter p xs) (filter p xs))) ≡ true
    by_case true rest = both_true (h zero x refl) rest
    by_case false rest = rest

-- ---- what a table calls for

module _ (rules : List Rule) (a : Arena) (c : Condition) (s : Settled) (is : IsSettled rules a c s) (table : Table) where
  abbrev q : Question
  q = settled_question rules s

  -- what the terms used come to
  pub same-outcome : matches s.terms.shapes s.terms.decls rules (subterms (formulas_of (sequent s.terms s.condition) ++ map (tree s.terms) s.formulas)) (listed_over s.terms table.values) ≡ matched q (settled_members s) (pairs_in s.terms table.values)
  same-outcome = ap (λ (fs : List Term). matches s.terms.shapes s.terms.decls rules (subterms (formulas_of (sequent s.terms s.condition) ++ fs)) (listed_over s.terms table.values)) is.are_formulas

  pub table-calls : IsArena s.terms → FoundInstancesSay → (found : List found_instance.Instance) → views.AllIn (length s.terms.nodes) found
      → matches s.terms.shapes s.terms.decls rules (subterms (formulas_of (sequent s.terms s.condition) ++ map (tree s.terms) s.formulas)) (listed_over s.terms table.values) ≡ Ok (map (views.instance_in s.terms) found)
      → (members : List Instance) → members ≡ fresh s.rounds found → Calls rules s table members
  table-calls ok law found there e members m =
      let new = is_new (settled_members s) in
      let xs = map (views.instance_in s.terms) found in
      let outcome : matched q (settled_members s) (pairs_in s.terms table.values) ≡ Ok xs = sym same-outcome ∙ e in
      let same : map of_found (filter new xs) ≡ instances_in s.terms members = fresh-called s.terms ok s.rounds is.rounds.there found there ∙ ap (instances_in s.terms) (sym m) in
      record {
        called = ap (λ r. after r (λ ys. Ok (map of_found (filter new ys)))) outcome ∙ ap (λ ys. Ok ys) same;
        there = subst (λ (ms : List Instance). InstancesIn s.terms ms) (sym m) (fresh-there s.terms s.rounds found there);
        say = subst (AllSay q) same (say-each (formula_of q) (map of_found (filter new xs)) (all-found (formula_of q) xs (λ k i at. law s.terms.shapes s.terms.decls rules _ _ xs e k i at) new));
      }

pub handed-on : {T : Type 0} (r : Result T MatchFault) (e : MatchFault) (Q : MatchFault → Type 0) → IsErrAnd r (λ f. f ≡ e) → Q e → IfErr r Q
handed-on (Ok x) e Q k h = tt
handed-on (Err f) e Q k h = subst Q (sym k) h
