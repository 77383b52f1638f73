-- Rules over an arena that grows.
use Rattle.std.proofs.Common.{◌≡◌, ℕ, zero, suc, List, [], ◌∷◌, ◌++◌, map, length, slice_get, Some, refl, sym, subst, arith}
use Rattle.std.proofs.lemmas.Option.{same_Some}
use Rattle.spv_logic.specs.declared.conditions.TermId.{TermId}
use Rattle.spv_logic.specs.declared.types.Shape.{Shape}
use Rattle.spv_logic.specs.declared.types.Decl.{Decl}
use Rattle.spv_term.specs.Arena.{Arena, AllBelow, Extends}
use Rattle.spv_term.specs.substitution.Images.{head_of, head_at}
use Rattle.spv_term.proofs.ArenaLemmas.{length-Extends, tree-Extends, AllBelow-Extends}
use Rattle.spv_rules.specs.declared.rules.Rule.{Rule}
use Rattle.spv_rules.specs.RuleSets.{IsProper, IsRule, AreRules, rule_in, RuleStays}

heads-Extends : {old new : Arena} → Extends old new → (ts : List TermId) → AllBelow (length old.nodes) ts → map (head_at new) ts ≡ map (head_at old) ts
heads-Extends more [] b = refl
heads-Extends more (t ∷ ts) b = λ i. head_of (tree-Extends more t b.0 i) ∷ heads-Extends more ts b.1 i

pub rule_in-Extends : {old new : Arena} → Extends old new → (r : Rule) → IsRule old r → rule_in new r ≡ rule_in old r
rule_in-Extends more r is = λ i. record {
  replaced = heads-Extends more r.variables is.variables i;
  trigger = tree-Extends more r.trigger is.trigger i;
  formula = tree-Extends more r.formula is.formula i;
}

pub IsRule-Extends : {old new : Arena} → Extends old new → (r : Rule) → IsRule old r → IsRule new r
IsRule-Extends {old} {new} more r is =
    let le = length-Extends more in
    let t = is.trigger in
    let f = is.formula in
    record {
      variables = AllBelow-Extends more r.variables is.variables;
      trigger = omega (arith, le, t);
      formula = omega (arith, le, f);
      proper = subst (IsProper new.shapes new.decls) (sym (rule_in-Extends more r is))
          (subst (λ (ss : List Shape). IsProper ss new.decls (rule_in old r)) (sym more.shapes) (subst (λ (ds : List Decl). IsProper old.shapes ds (rule_in old r)) (sym more.decls) is.proper));
    }

pub RuleStays-Extends : {old new : Arena} → Extends old new → RuleStays old new
RuleStays-Extends more = record { same = rule_in-Extends more; stays = IsRule-Extends more }

get-pushed : {X : Type 0} (P : X → Type 0) (xs : List X) (y : X) → ((i : ℕ) (x : X) → slice_get xs i ≡ Some x → P x) → P y
    → (i : ℕ) (x : X) → slice_get (xs ++ y ∷ []) i ≡ Some x → P x
get-pushed P [] y all of zero x e = subst P (same_Some y x e) of
get-pushed P [] y all of (suc i) x e = absurd cc
get-pushed P (z ∷ xs) y all of zero x e = all zero x e
get-pushed P (z ∷ xs) y all of (suc i) x e = get-pushed P xs y (λ j. all (suc j)) of i x e

-- rules with one more
pub AreRules-pushed : (a : Arena) (list : List Rule) (r : Rule) → AreRules a list → IsRule a r → AreRules a (list ++ r ∷ [])
AreRules-pushed a list r are is = record { each = get-pushed (IsRule a) list r are.each is }
