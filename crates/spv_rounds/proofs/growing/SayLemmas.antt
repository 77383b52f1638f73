-- What rules say of the terms of instances, made one after the other.
use Rattle.std.proofs.Common.{◌≡◌, ℕ, zero, suc, ◌+◌, ◌<◌, ◌≤◌, Bool, true, false, cond, List, [], ◌∷◌, ◌++◌, map, take, length, get_or, slice_get, Option, Some, None, refl, sym, ap, ◌∙◌, subst, arith}
use Rattle.std.specs.List.{list_all}
use Rattle.std.specs.Option.{option_map}
use Rattle.std.specs.Cmp.Derive.{both_true}
use Rattle.std.proofs.lemmas.List.{take_more, take_all, map_push}
use Rattle.std.proofs.lemmas.Option.{same_Some, slice_get-map}
use Rattle.spv_logic.specs.declared.conditions.TermId.{TermId}
use Rattle.spv_logic.specs.declared.types.Sort.TheVariants as sort
use Rattle.spv_logic.specs.declared.types.Shape.{Shape}
use Rattle.spv_logic.specs.declared.types.Decl.{Decl}
use Rattle.spv_logic.specs.Terms.{Term}
use Rattle.spv_logic.specs.Sorts.{term_sort}
use Rattle.spv_logic.specs.Substitution.{substitute}
use Rattle.spv_logic.proofs.list.Tests.{left_true, right_true}
use Rattle.spv_term.specs.Arena.{Arena, AllBelow, Extends, tree}
use Rattle.spv_term.proofs.TreeLemmas.{AllBelow-append}
use Rattle.spv_term.proofs.ArenaLemmas.{Extends-refl, Extends-trans, AllBelow-Extends, map_tree-Extends}
use Rattle.spv_atoms.specs.Atoms.{has_sort, is_truth}
use Rattle.spv_proof_rules.specs.Rules as plain
use Rattle.spv_proof_rules.specs.Rules.{placed, have_sorts, instance, instance_of, numbered_rule}
use Rattle.spv_rules.specs.declared.rules.Rule.{Rule}
use Rattle.spv_rules.specs.RuleSets.{RuleSet, AreRules, rule_in, rules_in}
use Rattle.spv_rules.proofs.Placed.{placed_keep, substituted}
use Rattle.spv_verdicts.specs.declared.answers.verdicts.Instance.{Instance}
use Rattle.spv_verdicts.specs.answers.Views.{InstancesIn, instance_in, instances_in}
use Rattle.spv_rounds.specs.growing.Growth.{says, AreSaid}

-- ---- what a rule says is true or false

none_there : {X : Type 0} {x : X} → None ≡ Some x → ⊥
none_there e = cc

said-there : (shapes : List Shape) (decls : List Decl) (r : plain.Rule) (ts : List Term) (f : Term) (b : Bool) → have_sorts shapes decls r.replaced ts ≡ b → cond b (Some (substitute (placed r.replaced ts) r.formula)) None ≡ Some f
    → (have_sorts shapes decls r.replaced ts ≡ true) × (substitute (placed r.replaced ts) r.formula ≡ f)
said-there shapes decls r ts f true e k = (e, same_Some _ _ k)
said-there shapes decls r ts f false e k = absurd (none_there k)

module _ (s : RuleSet) (are : AreRules s.arena s.list) where
  rule-at : (k : ℕ) (o : Option Rule) → slice_get s.list k ≡ o → (ts : List Term) (f : Term) → instance_of s.arena.shapes s.arena.decls (option_map (rule_in s.arena) o) ts ≡ Some f → term_sort s.arena.shapes s.arena.decls f ≡ Some sort.Bool
  rule-at k None at ts f e = absurd (none_there e)
  rule-at k (Some r) at ts f e =
      let p = rule_in s.arena r in
      let h = said-there s.arena.shapes s.arena.decls p ts f (have_sorts s.arena.shapes s.arena.decls p.replaced ts) refl e in
      ap (term_sort s.arena.shapes s.arena.decls) (sym h.1)
      ∙ substituted s.arena.shapes s.arena.decls (placed p.replaced ts) (placed_keep s.arena.shapes s.arena.decls p.replaced ts h.0) p.formula sort.Bool (are.each k r at).proper.truth

  pub instance-truth : (number : ℕ) (ts : List Term) (f : Term) → instance_of s.arena.shapes s.arena.decls (numbered_rule (rules_in s) number) ts ≡ Some f → term_sort s.arena.shapes s.arena.decls f ≡ Some sort.Bool
  instance-truth zero ts f e = absurd (none_there e)
  instance-truth (suc k) ts f e = rule-at k (slice_get s.list k) refl ts f (ap (λ o. instance_of s.arena.shapes s.arena.decls o ts) (sym (slice_get-map (rule_in s.arena) s.list k)) ∙ e)

  pub said-truth : (shapes : List Shape) (decls : List Decl) → s.arena.shapes ≡ shapes → s.arena.decls ≡ decls → (number : ℕ) (ts : List Term) (f : Term) → instance_of shapes decls (numbered_rule (rules_in s) number) ts ≡ Some f → is_truth shapes decls f ≡ true
  said-truth shapes decls e d number ts f h =
      (λ i. has_sort sort.Bool (term_sort (sym e i) (sym d i) f))
      ∙ ap (has_sort sort.Bool) (instance-truth number ts f ((λ i. instance_of (e i) (d i) (numbered_rule (rules_in s) number) ts) ∙ h))

-- ---- one after the other

pub instance-at : (a : Arena) (members : List Instance) → InstancesIn a members → (k : ℕ) (i : Instance) → k < length members → i ≡ get_or members k i → AllBelow (length a.nodes) i.values
instance-at a members h k i less is = subst (λ (j : Instance). AllBelow (length a.nodes) j.values) (sym is) (at members h k i less)
  where
    at : (ms : List Instance) → InstancesIn a ms → (n : ℕ) (d : Instance) → n < length ms → AllBelow (length a.nodes) (get_or ms n d).values
    at [] g n d l = absurd (omega arith)
    at (m ∷ ms) g zero d l = g.0
    at (m ∷ ms) g (suc n) d l = at ms g.1 n d (omega arith)

-- what is said of the first members
pub record Saying (rules : List plain.Rule) (old : Arena) (members : List Instance) (now : Arena) (made : List TermId) : Type 0 where
  pub grows : Extends old now
  pub said : AreSaid rules old members now made

pub saying-begins : (rules : List plain.Rule) (old : Arena) (members : List Instance) (made : List TermId) → made ≡ [] → Saying rules old (take 0 members) old made
saying-begins rules old members made e = subst (Saying rules old [] old) (sym e) (record { grows = Extends-refl old; said = record { there = tt; same = refl; truths = refl } })

all-push : {X : Type 0} (p : X → Bool) (xs : List X) (x : X) → list_all p xs ≡ true → p x ≡ true → list_all p (xs ++ x ∷ []) ≡ true
all-push p [] x h k = both_true k refl
all-push p (y ∷ xs) x h k = both_true (left_true (p y) (list_all p xs) h) (all-push p xs x (right_true (p y) (list_all p xs) h) k)

module _ (rules : List plain.Rule) (old now new : Arena) (members : List Instance) (k : ℕ) (i : Instance) (made after : List TermId) (t : TermId)
    (less : k < length members) (is : i ≡ get_or members k i) (there : InstancesIn old members) (s : Saying rules old (take k members) now made) (more : Extends now new) (e : after ≡ made ++ t ∷ []) where
  pub saying-more : t.0 < length new.nodes → says rules now.shapes now.decls (instance_in now i) ≡ Some (tree new t) → is_truth now.shapes now.decls (tree new t) ≡ true → Saying rules old (take (k + 1) members) new after
  saying-more within says_it truth =
      let g = s.grows in
      let values = instance-at old members there k i less is in
      let one : says rules old.shapes old.decls (instance_in old i) ≡ Some (tree new t) =
      (λ j. instance_of (sym g.shapes j) (sym g.decls j) (numbered_rule rules i.rule) (sym (map_tree-Extends g i.values values) j)) ∙ says_it in
      let stays : map (tree new) made ≡ map (tree now) made = map_tree-Extends more made s.said.there in
      subst (Saying rules old (take (k + 1) members) new) (sym e) (record {
        grows = Extends-trans g more;
        said = record {
          there = AllBelow-append (length new.nodes) made (t ∷ []) (AllBelow-Extends more made s.said.there) (within, tt);
          same = ap (λ (ms : List Instance). map (says rules old.shapes old.decls) (instances_in old ms)) (take_more members k i less ∙ ap (λ (j : Instance). take k members ++ j ∷ []) (sym is))
              ∙ (ap (map (says rules old.shapes old.decls)) (map_push (instance_in old) (take k members) i)
              ∙ (map_push (says rules old.shapes old.decls) (instances_in old (take k members)) (instance_in old i)
              ∙ ((λ j. s.said.same j ++ one j ∷ [])
              ∙ (ap (λ ts. map Some ts ++ Some (tree new t) ∷ []) (sym stays) ∙ (sym (map_push Some (map (tree new) made) (tree new t)) ∙ ap (map Some) (sym (map_push (tree new) made t)))))));
          truths = ap (list_all (is_truth old.shapes old.decls)) (map_push (tree new) made t)
              ∙ all-push (is_truth old.shapes old.decls) (map (tree new) made) (tree new t) (ap (list_all (is_truth old.shapes old.decls)) stays ∙ s.said.truths) ((λ j. is_truth (sym g.shapes j) (sym g.decls j) (tree new t)) ∙ truth);
        };
      })

pub saying-ends : (rules : List plain.Rule) (old now : Arena) (members : List Instance) (k : ℕ) (made : List TermId) → length members ≤ k → Saying rules old (take k members) now made → AreSaid rules old members now made
saying-ends rules old now members k made le s = subst (λ (ms : List Instance). AreSaid rules old ms now made) (take_all k members le) s.said
