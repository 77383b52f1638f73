-- Variables and rules that are made one after the other.
use Rattle.std.specs.Prelude.{IsTrue}
use Rattle.std.specs.List.{list_all}
use Rattle.spv_logic.proofs.list.Tests.{left_true, right_true}
use Rattle.spv_logic.specs.Sorts.{sort_in_range}
use Rattle.std.proofs.Common.{◌≡◌, true, zero, ℕ, suc, ◌+◌, ◌<◌, List, [], ◌∷◌, ◌++◌, map, take, length, get_or, ◌≤◌, slice_get, Some, refl, sym, ap, ◌∙◌, subst, arith}
use Rattle.spv_logic.specs.declared.conditions.TermId.{TermId}
use Rattle.spv_logic.specs.declared.names.names.Symbol.{Symbol}
use Rattle.spv_logic.specs.declared.types.Sort.{Sort}
use Rattle.spv_logic.specs.declared.operators.Head.TheVariants as head
use Rattle.spv_program.specs.Scopes.{Scope}
use Rattle.spv_program.proofs.SortFacts.{nothing_there, some_is}
use Rattle.spv_program.proofs.ordered_map.Putting.{one_more}
use Rattle.std.proofs.lemmas.List.{map-append, take_all}
use Rattle.std.proofs.lemmas.Option.{slice_get-get_or}
use Rattle.std.proofs.Math.Seq.{take-suc}
use Rattle.spv_term.specs.Arena.{Arena, AllBelow, Extends, tree}
use Rattle.spv_term.specs.substitution.Images.{head_of, head_at}
use Rattle.spv_term.proofs.ArenaLemmas.{Extends-refl, Extends-trans, length-Extends, tree-Extends, AllBelow-Extends}
use Rattle.spv_rules.specs.declared.rules.Rule.{Rule}
use Rattle.spv_rules.specs.RuleSets.{rule_in, IsProper, IsRule, AreRules}
use Rattle.spv_proof_rules.specs.Rules as plain
use Rattle.spv_rules.proofs.Growing.{rule_in-Extends, IsRule-Extends, AreRules-pushed}
use Rattle.spv_rule_files.specs.declared.rules.TypedRule.{TypedRule}
use Rattle.spv_rule_files.specs.rule_terms.RuleTerms.{variable_head, rule_of}
use Rattle.spv_rule_files.specs.rule_terms.Sound.{IsSound, AreSound}

-- ---- variables

below_pushed : (n : ℕ) (ts : List TermId) (t : TermId) → AllBelow n ts → t.0 < n → AllBelow n (ts ++ t ∷ [])
below_pushed n [] t h below = (below, tt)
below_pushed n (u ∷ ts) t h below = (h.0, below_pushed n ts t h.1 below)

heads_kept : (old new : Arena) → Extends old new → (ts : List TermId) → AllBelow (length old.nodes) ts → map (head_at new) ts ≡ map (head_at old) ts
heads_kept old new more [] h = refl
heads_kept old new more (t ∷ ts) h =
    ap (λ k. k ∷ map (head_at new) ts) (ap head_of (tree-Extends more t h.0)) ∙ ap (λ l. head_at old t ∷ l) (heads_kept old new more ts h.1)

pub record VariablesSoFar (start now : Arena) (vars : Scope) (place : ℕ) (made : List TermId) : Type 0 where
  pub grows : Extends start now
  pub below : AllBelow (length now.nodes) made
  pub heads : map (head_at now) made ≡ map variable_head (take place vars)

pub no_variables : (start : Arena) (vars : Scope) (made : List TermId) → made ≡ [] → VariablesSoFar start start vars 0 made
no_variables start vars made none = record {
  grows = Extends-refl start;
  below = subst (AllBelow (length start.nodes)) (sym none) tt;
  heads = ap (map (head_at start)) none;
}

pub variable_more : (start now next : Arena) (vars : Scope) (place : ℕ) (made : List TermId) (x : Symbol) (s : Sort) (t : TermId) (new : List TermId)
    → VariablesSoFar start now vars place made → slice_get vars place ≡ Some (x, s) → Extends now next → head_at next t ≡ head.Var x s 0
    → t.0 < length next.nodes → new ≡ made ++ t ∷ [] → VariablesSoFar start next vars (place + 1) new
variable_more start now next vars place made x s t new so_far at more is below put = record {
  grows = Extends-trans so_far.grows more;
  below = subst (AllBelow (length next.nodes)) (sym put) (below_pushed (length next.nodes) made t (AllBelow-Extends more made so_far.below) below);
  heads =
      ap (map (head_at next)) put
      ∙ (map-append (head_at next) made (t ∷ [])
      ∙ (ap (λ l. l ++ head_at next t ∷ []) (heads_kept now next more made so_far.below ∙ so_far.heads)
      ∙ (ap (λ k. map variable_head (take place vars) ++ k ∷ []) is ∙ one_more variable_head [] vars place (x, s) at)));
}

-- ---- rules

rules_kept : (old new : Arena) → Extends old new → (rules : List Rule) → ((k : ℕ) (r : Rule) → slice_get rules k ≡ Some r → IsRule old r)
    → map (rule_in new) rules ≡ map (rule_in old) rules
rules_kept old new more [] h = refl
rules_kept old new more (r ∷ rules) h =
    ap (λ k. k ∷ map (rule_in new) rules) (rule_in-Extends more r (h 0 r refl))
    ∙ ap (λ l. rule_in old r ∷ l) (rules_kept old new more rules (λ k u e. h (suc k) u e))

pub rule_put : (old new : Arena) (made put : List Rule) (one : Rule) (r : TypedRule) → AreRules old made → Extends old new → rule_in new one ≡ rule_of r
    → put ≡ made ++ one ∷ [] → map (rule_in new) put ≡ map (rule_in old) made ++ rule_of r ∷ []
rule_put old new made put one r are more is e =
    ap (map (rule_in new)) e
    ∙ (map-append (rule_in new) made (one ∷ [])
    ∙ (ap (λ l. l ++ rule_in new one ∷ []) (rules_kept old new more made are.each) ∙ ap (λ k. map (rule_in old) made ++ k ∷ []) is))

pub rules_put : (old new : Arena) (made put : List Rule) (one : Rule) → AreRules old made → Extends old new → IsRule new one → put ≡ made ++ one ∷ []
    → AreRules new put
rules_put old new made put one are more is e =
    subst (AreRules new) (sym e)
    (AreRules-pushed new made one (record { each = λ k r g. IsRule-Extends more r (are.each k r g) }) is)

pub record RulesSoFar (start now : Arena) (rules : List TypedRule) (place : ℕ) (made : List Rule) : Type 0 where
  pub grows : Extends start now
  pub are_rules : AreRules now made
  pub are : map (rule_in now) made ≡ map rule_of (take place rules)

pub no_rules : (start : Arena) (rules : List TypedRule) (made : List Rule) → made ≡ [] → RulesSoFar start start rules 0 made
no_rules start rules made none = record {
  grows = Extends-refl start;
  are_rules = subst (AreRules start) (sym none) (record { each = λ k r e. absurd (nothing_there e) });
  are = ap (map (rule_in start)) none;
}

next_taken : (rules : List TypedRule) (place : ℕ) (d : TypedRule) → place < length rules → map rule_of (take place rules) ++ rule_of (get_or rules place d) ∷ [] ≡ map rule_of (take (place + 1) rules)
next_taken rules place d within =
    sym (map-append rule_of (take place rules) (get_or rules place d ∷ []))
    ∙ ap (map rule_of) (sym (take-suc rules place d within) ∙ ap (λ n. take n rules) (sym (further place)))
  where
    further : (n : ℕ) → n + 1 ≡ suc n
    further n = omega arith

pub rule_more : (start now next : Arena) (rules : List TypedRule) (place : ℕ) (made new : List Rule) (d : TypedRule) → RulesSoFar start now rules place made
    → place < length rules → map (rule_in next) new ≡ map (rule_in now) made ++ rule_of (get_or rules place d) ∷ [] → AreRules next new → Extends now next
    → RulesSoFar start next rules (place + 1) new
rule_more start now next rules place made new d so_far within is are more = record {
  grows = Extends-trans so_far.grows more;
  are_rules = are;
  are = is ∙ (ap (λ l. l ++ rule_of (get_or rules place d) ∷ []) so_far.are ∙ next_taken rules place d within);
}

pub sound_later : (start now : Arena) (rules : List TypedRule) (place : ℕ) (d : TypedRule) → AreSound start.shapes start.decls rules → Extends start now
    → place < length rules → IsSound now.shapes now.decls (get_or rules place d)
sound_later start now rules place d sound more within =
    subst (λ ss. IsSound ss now.decls (get_or rules place d)) (sym more.shapes)
    (subst (λ ds. IsSound start.shapes ds (get_or rules place d)) (sym more.decls)
    (sound.each place (get_or rules place d) (slice_get-get_or rules place d within)))

pub rules_all : (now : Arena) (rules : List TypedRule) (place : ℕ) (made : List Rule) → length rules ≤ place
    → map (rule_in now) made ≡ map rule_of (take place rules) → map (rule_in now) made ≡ map rule_of rules
rules_all now rules place made past are = are ∙ ap (map rule_of) (take_all place rules past)

-- ---- the parts of a rule

abbrev rule_with : List TermId → TermId → TermId → Rule
rule_with vars t f = record { variables = vars; trigger = t; formula = f }

pub rule_is : (first second third : Arena) (r : TypedRule) (vars : List TermId) (t f : TermId) → map (head_at first) vars ≡ (rule_of r).replaced
    → AllBelow (length first.nodes) vars → Extends first second → tree second t ≡ (rule_of r).trigger → t.0 < length second.nodes → Extends second third
    → tree third f ≡ (rule_of r).formula → rule_in third (rule_with vars t f) ≡ rule_of r
rule_is first second third r vars t f heads below one is there two says =
    let a = heads_kept first third (Extends-trans one two) vars below ∙ heads in
    let b = tree-Extends two t there ∙ is in
    λ i. record { replaced = a i; trigger = b i; formula = says i }

pub rule_is_one : (start first second third : Arena) (r : TypedRule) (vars : List TermId) (t f : TermId) → IsSound start.shapes start.decls r → Extends start first
    → map (head_at first) vars ≡ (rule_of r).replaced → AllBelow (length first.nodes) vars → Extends first second → tree second t ≡ (rule_of r).trigger
    → t.0 < length second.nodes → Extends second third → tree third f ≡ (rule_of r).formula → f.0 < length third.nodes → IsRule third (rule_with vars t f)
rule_is_one start first second third r vars t f sound before heads below one is there two says last =
    let all = Extends-trans before (Extends-trans one two) in
    let same = rule_is first second third r vars t f heads below one is there two says in
    let longer = length-Extends two in
    record {
      variables = AllBelow-Extends (Extends-trans one two) vars below;
      trigger = omega (arith, longer, there);
      formula = last;
      proper =
          subst (λ (u : plain.Rule). IsProper third.shapes third.decls u) (sym same)
          (subst (λ ss. IsProper ss third.decls (rule_of r)) (sym all.shapes) (subst (λ ds. IsProper start.shapes ds (rule_of r)) (sym all.decls) sound.proper));
    }

pub sort_at_place : (start now : Arena) (vars : Scope) (place : ℕ) (x : Symbol) (s : Sort) → Extends start now
    → list_all (λ (v : Symbol × Sort). sort_in_range start.shapes v.1) vars ≡ true → slice_get vars place ≡ Some (x, s) → IsTrue (sort_in_range now.shapes s)
sort_at_place start now vars place x s more all at =
    subst (λ ss. sort_in_range ss s ≡ true) (sym more.shapes) (of_all vars place all at)
  where
    of_all : (vars : Scope) (place : ℕ) → list_all (λ (v : Symbol × Sort). sort_in_range start.shapes v.1) vars ≡ true → slice_get vars place ≡ Some (x, s)
        → sort_in_range start.shapes s ≡ true
    of_all [] place h e = absurd (nothing_there e)
    of_all (v ∷ vars) zero h e =
        subst (λ (w : Symbol × Sort). sort_in_range start.shapes w.1 ≡ true) (some_is e) (left_true (sort_in_range start.shapes v.1) _ h)
    of_all (v ∷ vars) (suc place) h e = of_all vars place (right_true (sort_in_range start.shapes v.1) _ h) e
