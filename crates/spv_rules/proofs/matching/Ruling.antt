-- The instances of a rule at used terms, and of rules.
use Rattle.std.proofs.Common.{◌≡◌, ℕ, zero, suc, ◌<◌, ◌+◌, arith, Bor, true, false, List, [], ◌∷◌, length, map, fold, drop, Some, Result, Ok, refl, sym, ap, ◌∙◌, subst, cond, slice_get}
use Rattle.std.specs.List.{filter_map}
use Rattle.spv_logic.specs.declared.conditions.TermId.{TermId}
use Rattle.spv_logic.specs.declared.operators.Head.{Head}
use Rattle.spv_logic.specs.Terms.{Term, term, head_eq}
use Rattle.spv_term.specs.declared.nodes.Node.{Node}
use Rattle.spv_term.specs.Arena.{Arena, IsArena, tree}
use Rattle.spv_term.specs.substitution.Images.{head_at, head_of}
use Rattle.spv_rules.specs.declared.matching.faults.MatchFault.{MatchFault}
use Rattle.spv_rules.specs.declared.matching.bindings.Bound.{Bound}
use Rattle.spv_rules.specs.declared.matching.values.Setting.{Setting}
use Rattle.spv_rules.specs.declared.matching.instances.Instance.{Instance}
use Rattle.spv_rules.specs.matching.Matches as plain
use Rattle.spv_rules.specs.matching.Matches.{Wide, Found, after, behind, each, matched_all, arguments, instances_at, instance_with}
use Rattle.spv_rules.specs.matching.Views.{setting_in, instance_in, instances_here, instances_in, rule_found, rules_found, all_found, with_match, adding, AllIn, Adds, IsFound, IsMatchFault}
use Rattle.spv_table.specs.Kept.{listed_over}
use Rattle.spv_rules.specs.declared.rules.Rule.{Rule}
use Rattle.spv_rules.specs.RuleSets.{rule_in}
use Rattle.spv_rules.proofs.matching.Sequences.{each-map, stops_too, err_after}
use Rattle.spv_rules.proofs.matching.Pieces.{head-node}
use Rattle.spv_rules.proofs.matching.Adding.{matches_in, matches-in, added, added_stops}

-- the instances of matches
abbrev of_matches : plain.Setting → ℕ → Found → Result (List plain.Instance) Wide
of_matches m number found = after found (λ bs. Ok (filter_map (instance_with number m.variables) bs))

at_head : (m : plain.Setting) (number : ℕ) (x u : Term) → instances_at m number x u ≡ cond (head_eq (head_of x) (head_of u)) (of_matches m number (matched_all m (arguments x) (arguments u) ([] ∷ []))) (Ok [])
at_head m number (term h ps) u = refl

module _ (s : Setting) (number : ℕ) (trigger : TermId) (ok : IsArena s.patterns.now) (ok_terms : IsArena s.terms.now) (n k : Node) (at : slice_get s.patterns.now.nodes trigger.0 ≡ Some n) (u : TermId)
    (there : slice_get s.terms.now.nodes u.0 ≡ Some k) where
  abbrev whole : Found
  whole = matched_all (setting_in s) (arguments (tree s.patterns.now trigger)) (arguments (tree s.terms.now u)) ([] ∷ [])

  heads : head_eq (head_of (tree s.patterns.now trigger)) (head_of (tree s.terms.now u)) ≡ head_eq n.head k.head
  heads = (λ i. head_eq (head-node s.patterns.now ok trigger n at i) (head-node s.terms.now ok_terms u k there i))

  pub other_head : false ≡ head_eq n.head k.head → instances_here s number trigger u ≡ Ok []
  other_head e = at_head (setting_in s) number (tree s.patterns.now trigger) (tree s.terms.now u) ∙ ap (λ c. cond c (of_matches (setting_in s) number whole) (Ok [])) (heads ∙ sym e)

  pub same_head : true ≡ head_eq n.head k.head → instances_here s number trigger u ≡ of_matches (setting_in s) number whole
  same_head e = at_head (setting_in s) number (tree s.patterns.now trigger) (tree s.terms.now u) ∙ ap (λ c. cond c (of_matches (setting_in s) number whole) (Ok [])) (heads ∙ sym e)

pub nothing_added : (a : Arena) (old : List Instance) → AllIn (length a.nodes) old → Adds a (Ok []) old old
nothing_added a old h = record { same = refl; in_range = h }

-- the instances of matches come to those that were there
pub all_added : (s : Setting) (number : ℕ) (ok : IsArena s.terms.now) (outcome : Found) (found : List (List Bound)) (old new : List Instance) → AllIn (length s.terms.now.nodes) old → IsFound s.terms.now outcome found
    → new ≡ fold (with_match number s.variables.now) old found → Adds s.terms.now (of_matches (setting_in s) number outcome) old new
all_added s number ok outcome found old new h is e = record {
  same =
      ap (λ o. adding (map (instance_in s.terms.now) old) (of_matches (setting_in s) number o)) is.same
      ∙ (ap (λ (js : List plain.Instance). Ok js) (matches-in s.terms.now ok number s.variables.now found old h is.in_range) ∙ ap (λ js. Ok (map (instance_in s.terms.now) js)) (sym e));
  in_range = subst (AllIn (length s.terms.now.nodes)) (sym e) (matches_in s.terms.now ok number s.variables.now found old h is.in_range);
}

pub matches_stop : (a : Arena) (m : plain.Setting) (number : ℕ) (outcome : Found) (e : MatchFault) → IsMatchFault a outcome e → IsMatchFault a (of_matches m number outcome) e
matches_stop a m number outcome = stops_too a outcome (of_matches m number outcome) (err_after outcome _)

-- ---- rules

-- the instances of a rule over ids
pub of_rule : (rules : Arena) (r : Rule) (s : Setting) (number : ℕ) → s.patterns.now ≡ rules → s.variables.now ≡ map (head_at rules) r.variables
    → plain.instances_of s.terms.now.shapes s.terms.now.decls (map (tree s.terms.now) s.used.now) (listed_over s.terms.now s.table.now.values) number (rule_in rules r) ≡ instances_in s number r.trigger s.used.now
of_rule rules r s number e f =
    each-map (instances_at (plain.setting s.terms.now.shapes s.terms.now.decls (map (tree s.terms.now) s.used.now) (listed_over s.terms.now s.table.now.values) (rule_in rules r)) number (tree rules r.trigger)) (tree s.terms.now) s.used.now
    ∙ (λ i. each (λ u. instances_at (record { shapes = s.terms.now.shapes; decls = s.terms.now.decls; used = map (tree s.terms.now) s.used.now; listed = listed_over s.terms.now s.table.now.values; variables = sym f i }) number
    (tree (sym e i) r.trigger) (tree s.terms.now u)) s.used.now)

-- with the rules that are left, the instances so far come to the whole
pub record GathersRules (rules : Arena) (s : Setting) (whole : Result (List plain.Instance) Wide) (found : List Instance) (number : ℕ) (left : List Rule) : Type 0 where
  pub same : adding (map (instance_in s.terms.now) found) (rules_found rules s number left) ≡ whole
  pub in_range : AllIn (length s.terms.now.nodes) found

module _ (rules : Arena) (s : Setting) (whole : Result (List plain.Instance) Wide) (found : List Instance) (number : ℕ) (left rest : List Rule) (r : Rule) (is : left ≡ r ∷ rest) (g : GathersRules rules s whole found number left) where
  here : GathersRules rules s whole found number (r ∷ rest)
  here = subst (GathersRules rules s whole found number) is g

  pub rules_next : (new : List Instance) → Adds s.terms.now (rule_found rules s number r) found new → GathersRules rules s whole new (number + 1) rest
  rules_next new h = record { same = sym (added s.terms.now found new (rule_found rules s number r) (rules_found rules s (number + 1) rest) h) ∙ here.same; in_range = h.in_range }

  pub rules_stop : (e : MatchFault) → IsMatchFault s.terms.now (rule_found rules s number r) e → IsMatchFault s.terms.now whole e
  rules_stop = added_stops s.terms.now found (rule_found rules s number r) (rules_found rules s (number + 1) rest) whole here.same

pub rules_begin : (rules : Arena) (s : Setting) (found : List Instance) (list : List Rule) → found ≡ [] → GathersRules rules s (all_found rules s list) found 1 list
rules_begin rules s [] list e = record { same = refl; in_range = tt }
rules_begin rules s (i ∷ found) list e = cc

pub rules_end : (rules : Arena) (s : Setting) (found : List Instance) (list left : List Rule) (number : ℕ) → left ≡ [] → GathersRules rules s (all_found rules s list) found number left → all_found rules s list ≡ Ok (map (instance_in s.terms.now) found)
rules_end rules s found list left number is g = let h = subst (GathersRules rules s (all_found rules s list) found number) is g in sym h.same

-- what is found with a rule's own variables is what the rule finds
pub own_rule : (rules : Arena) (s : Setting) (heads : Bor (List Head)) (number place : ℕ) (q r : Rule) → s.patterns.now ≡ rules → heads.now ≡ map (head_at rules) q.variables → number ≡ place + 1
    → (list : List Rule) → slice_get list place ≡ Some q → slice_get list place ≡ Some r → instances_in (record s { variables = heads }) number q.trigger s.used.now ≡ rule_found rules s (place + 1) r
own_rule rules s heads number place q r e f is list at there =
    let same : q ≡ r = some_same (sym at ∙ there) in
    sym (of_rule rules q (record s { variables = heads }) number e f) ∙ (λ i. rule_found rules s (is i) (same i))
  where
    some_same : {q r : Rule} → Some q ≡ Some r → q ≡ r
    some_same e = cc

-- the rule at a place, and those behind it
pub record RuleAt (list : List Rule) (place : ℕ) : Type 0 where
  pub rule : Rule
  pub there : slice_get list place ≡ Some rule
  pub rest : drop place list ≡ rule ∷ drop (place + 1) list

pub rule_at : (list : List Rule) (place : ℕ) → place < length list → RuleAt list place
rule_at [] place below = absurd (omega (arith, below))
rule_at (r ∷ list) zero below = record { rule = r; there = refl; rest = refl }
rule_at (r ∷ list) (suc k) below = let h = rule_at list k (omega (arith, below)) in
    let next : suc (k + 1) ≡ suc k + 1 = omega arith in
    record { rule = h.rule; there = h.there; rest = h.rest ∙ ap (λ m. h.rule ∷ drop m (r ∷ list)) next }
