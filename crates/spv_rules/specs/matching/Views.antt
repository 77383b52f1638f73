-- Matches over the ids of an arena.
use Rattle.std.specs.Prelude.{◌≡◌, ℕ, ◌<◌, Bool, ◌&&◌, List, [], ◌∷◌, ◌++◌, map, length, nat_eq, Option, Some, None, Result, Ok, Err, if◌then◌else◌}
use Rattle.std.specs.List.{list_any}
use Rattle.spv_logic.specs.declared.conditions.TermId.{TermId}
use Rattle.spv_logic.specs.declared.operators.Head.{Head}
use Rattle.spv_logic.specs.Terms.{head_eq}
use Rattle.spv_term.specs.Arena.{Arena, AllBelow, ids_eq, tree}
use Rattle.spv_term.specs.substitution.Images.{head_at}
use Rattle.spv_table.specs.Kept.{PairsIn, listed_over}
use Rattle.spv_rules.specs.declared.matching.faults.MatchFault.{MatchFault}
use Rattle.spv_rules.specs.declared.matching.faults.MatchFault.TheVariants.{Wide, Memory}
use Rattle.spv_rules.specs.declared.matching.values.Setting.{Setting}
use Rattle.spv_rules.specs.declared.matching.bindings.Bound.{Bound}
use Rattle.spv_rules.specs.declared.matching.patterns.Meeting.{Meeting}
use Rattle.spv_rules.specs.declared.matching.instances.Instance.{Instance}
use Rattle.spv_rules.specs.declared.rules.Rule.{Rule}
use Rattle.spv_rules.specs.RuleSets.{rule_in}
use Rattle.spv_rules.specs.matching.Matches as plain

-- what is matched with
abbrev pub setting_in : Setting → plain.Setting
setting_in s = record {
  shapes = s.terms.now.shapes;
  decls = s.terms.now.decls;
  used = map (tree s.terms.now) s.used.now;
  listed = listed_over s.terms.now s.table.now.values;
  variables = s.variables.now;
}

-- the used terms and those of the table are in the arena
pub record IsSetting (s : Setting) : Type 0 where
  pub used : AllBelow (length s.terms.now.nodes) s.used.now
  pub values : PairsIn s.terms.now s.table.now.values

-- ---- faults

-- but for want of memory, the definition stops at this term, too, which is in the arena
abbrev pub IsMatchFault : {A : Type 0} → Arena → Result A plain.Wide → MatchFault → Type 0
IsMatchFault a outcome (Wide t w) = (outcome ≡ Err (tree a t, w)) × (t.0 < length a.nodes)
IsMatchFault a outcome Memory = Unit {0}

-- ---- matches

abbrev pub bindings_in : Arena → List Bound → plain.Bindings
bindings_in a b = map (λ p. (p.variable, tree a p.term)) b

abbrev pub all_in : Arena → List (List Bound) → List plain.Bindings
all_in a found = map (bindings_in a) found

-- the id of the term that a variable has met
abbrev pub bound_id : List Bound → Head → Option TermId
bound_id [] x = None
bound_id (p ∷ b) x = if head_eq p.variable x then Some p.term else bound_id b x

-- the terms that variables have met are in the arena
abbrev pub AreBound : ℕ → List Bound → Type 0
AreBound count [] = Unit {0}
AreBound count (p ∷ b) = (p.term.0 < count) × AreBound count b

abbrev pub AllBound : ℕ → List (List Bound) → Type 0
AllBound count [] = Unit {0}
AllBound count (b ∷ found) = AreBound count b × AllBound count found

-- these are all matches
pub record IsFound (a : Arena) (outcome : plain.Found) (found : List (List Bound)) : Type 0 where
  pub same : outcome ≡ Ok (all_in a found)
  pub in_range : AllBound (length a.nodes) found

-- the matches came behind those that were there
pub record GoesOn (a : Arena) (outcome : plain.Found) (old new : List (List Bound)) : Type 0 where
  pub same : plain.behind (Ok (all_in a old)) outcome ≡ Ok (all_in a new)
  pub in_range : AllBound (length a.nodes) new

-- ---- patterns

-- what a pattern gives with a term, after these bindings
abbrev pub matched_in : Setting → Meeting → plain.Found
matched_in s m = plain.matched (setting_in s) (tree s.patterns.now m.pattern) (tree s.terms.now m.term) (bindings_in s.terms.now m.bound.now)

-- what it gives after other ones
abbrev pub matched_after : Setting → TermId → TermId → List Bound → plain.Found
matched_after s p t b = plain.matched (setting_in s) (tree s.patterns.now p) (tree s.terms.now t) (bindings_in s.terms.now b)

-- what its arguments give with those of a used term
abbrev pub inside_in : Setting → Meeting → TermId → plain.Found
inside_in s m u = plain.matched_all (setting_in s) (plain.arguments (tree s.patterns.now m.pattern)) (plain.arguments (tree s.terms.now u)) (bindings_in s.terms.now m.bound.now ∷ [])

-- what an application gives with a term by one used term, and by these
abbrev pub met_by_in : Setting → Meeting → TermId → plain.Found
met_by_in s m u =
    plain.met_by (setting_in s) (head_at s.patterns.now m.pattern) (tree s.terms.now m.term)
    (λ v. plain.matched_all (setting_in s) (plain.arguments (tree s.patterns.now m.pattern)) (plain.arguments v) (bindings_in s.terms.now m.bound.now ∷ [])) (tree s.terms.now u)

abbrev pub applied_in : Setting → Meeting → List TermId → plain.Found
applied_in s m us = plain.each (met_by_in s m) us

-- all ids are in their arenas
pub record IsMeeting (s : Setting) (m : Meeting) : Type 0 where
  pub setting : IsSetting s
  pub pattern : m.pattern.0 < length s.patterns.now.nodes
  pub term : m.term.0 < length s.terms.now.nodes
  pub bound : AreBound (length s.terms.now.nodes) m.bound.now

-- ---- instances

abbrev pub instance_in : Arena → Instance → plain.Instance
instance_in a i = record { rule = i.rule; values = map (tree a) i.values }

abbrev pub AllIn : ℕ → List Instance → Type 0
AllIn count [] = Unit {0}
AllIn count (i ∷ found) = AllBelow count i.values × AllIn count found

-- the ids of the terms of variables, where each has met one
abbrev pub id_before : Option TermId → Option (List TermId) → Option (List TermId)
id_before (Some t) (Some ts) = Some (t ∷ ts)
id_before _ _ = None

abbrev pub ids_of : List Bound → List Head → Option (List TermId)
ids_of b [] = Some []
ids_of b (x ∷ xs) = id_before (bound_id b x) (ids_of b xs)

-- whether two instances are the same
abbrev pub instance_eq : Instance → Instance → Bool
instance_eq i j = nat_eq i.rule j.rule && ids_eq i.values j.values

-- instances with one more, where it is new
abbrev pub with_instance : List Instance → Instance → List Instance
with_instance done i = if list_any (instance_eq i) done then done else done ++ i ∷ []

-- with the instance of a match, if each variable has met a term
abbrev pub with_ids : ℕ → List Instance → Option (List TermId) → List Instance
with_ids number done None = done
with_ids number done (Some ts) = with_instance done (record { rule = number; values = ts })

abbrev pub with_match : ℕ → List Head → List Instance → List Bound → List Instance
with_match number variables done b = with_ids number done (ids_of b variables)

-- instances with those that are found, each where it is new
abbrev pub adding : List plain.Instance → Result (List plain.Instance) plain.Wide → Result (List plain.Instance) plain.Wide
adding done found = plain.after found (λ is. Ok (plain.with_instances done is))

-- the instances of a rule of this number and this trigger at a used term, and at these
abbrev pub instances_here : Setting → ℕ → TermId → TermId → Result (List plain.Instance) plain.Wide
instances_here s number trigger u = plain.instances_at (setting_in s) number (tree s.patterns.now trigger) (tree s.terms.now u)

abbrev pub instances_in : Setting → ℕ → TermId → List TermId → Result (List plain.Instance) plain.Wide
instances_in s number trigger us = plain.each (instances_here s number trigger) us

-- the instances of a rule over ids, of rules of which the first has this number, and of all, each once
abbrev pub rule_found : Arena → Setting → ℕ → Rule → Result (List plain.Instance) plain.Wide
rule_found rules s number r =
    plain.instances_of s.terms.now.shapes s.terms.now.decls (map (tree s.terms.now) s.used.now) (listed_over s.terms.now s.table.now.values) number (rule_in rules r)

abbrev pub rules_found : Arena → Setting → ℕ → List Rule → Result (List plain.Instance) plain.Wide
rules_found rules s number list =
    plain.numbered s.terms.now.shapes s.terms.now.decls (map (tree s.terms.now) s.used.now) (listed_over s.terms.now s.table.now.values) number (map (rule_in rules) list)

abbrev pub all_found : Arena → Setting → List Rule → Result (List plain.Instance) plain.Wide
all_found rules s list = plain.matches s.terms.now.shapes s.terms.now.decls (map (rule_in rules) list) (map (tree s.terms.now) s.used.now) (listed_over s.terms.now s.table.now.values)

-- the instances came to those that were there
pub record Adds (a : Arena) (outcome : Result (List plain.Instance) plain.Wide) (old new : List Instance) : Type 0 where
  pub same : adding (map (instance_in a) old) outcome ≡ Ok (map (instance_in a) new)
  pub in_range : AllIn (length a.nodes) new
