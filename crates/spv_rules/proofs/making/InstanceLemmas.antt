-- Instances of rules: the pieces of one, and the rule of a number.
use Rattle.std.proofs.Common.{◌≡◌, ℕ, suc, ◌<◌, Bool, true, false, cond, ◌&&◌, List, [], ◌∷◌, map, length, slice_get, Some, None, is_some, sym, ap, ◌∙◌, subst, Result, Ok, Err, IfOk, IfErr}
use mathlib.Core.Path.{fun_ext}
use Rattle.std.specs.Option.{option_map}
use Rattle.std.proofs.lemmas.List.{append-nil, length-map}
use Rattle.std.proofs.lemmas.Option.{slice_get-map}
use Rattle.spv_logic.specs.declared.conditions.TermId.{TermId}
use Rattle.spv_logic.specs.declared.types.Sort.TheVariants as sort
use Rattle.spv_logic.specs.declared.operators.Head.{Head}
use Rattle.spv_logic.specs.Terms.{Term, head_eq, heads_pass, sort_eq}
use Rattle.spv_logic.specs.Fits.{on_sort}
use Rattle.spv_logic.specs.Sorts.{term_sort, variable_sort}
use Rattle.spv_logic.specs.Substitution.{is_variable, substitute}
use Rattle.spv_term.specs.declared.nodes.Node.{Node}
use Rattle.spv_term.specs.Arena.{Arena, IsArena, AllBelow, tree, sort_at}
use Rattle.spv_term.specs.substitution.Images.{head_at}
use Rattle.spv_term.proofs.ArenaLemmas.{IsWellSorted-arena}
use Rattle.spv_proof_rules.specs.Rules as plain
use Rattle.spv_proof_rules.specs.Rules.{placed, have_sorts, instance, instance_of, numbered_rule}
use Rattle.spv_rules.specs.declared.making.pieces.Piece.{Piece}
use Rattle.spv_rules.specs.declared.rules.Rule.{Rule}
use Rattle.spv_rules.specs.RuleSets.{RuleSet, IsRule, rule_in, rules_in}
use Rattle.spv_rules.specs.making.Pieces.{put_all, enough, AllStand, IsSketch, ArePieces}
use Rattle.spv_rules.specs.making.Sketching.{id_for, pieces_of}
use Rattle.spv_rules.proofs.Placed.{placed_keep, substituted, placed-ids, id_for-variable, id_for-below, may_stand, heads-arena, sorts_many}
use Rattle.spv_rules.proofs.making.Put.{put-term, enough-term, stand-term}
use Rattle.spv_rules.proofs.making.Sketched.{head-node}

-- ---- the pieces of an instance

module _ (a b : Arena) (ok : IsArena a) (r : Rule) (is : IsRule a r) (values : List TermId) (below : AllBelow (length b.nodes) values)
    (shapes : a.shapes ≡ b.shapes) (decls : a.decls ≡ b.decls) (fits : have_sorts b.shapes b.decls (rule_in a r).replaced (map (tree b) values) ≡ true) where
  abbrev xs : List Head
  xs = map (head_at a) r.variables

  abbrev pub said : Term
  said = substitute (placed xs (map (tree b) values)) (tree a r.formula)

  same-replacement : (λ (h : Head). option_map (tree b) (id_for xs values h)) ≡ placed xs (map (tree b) values)
  same-replacement = fun_ext (λ h. sym (placed-ids (tree b) xs values h))

  is_variables : (h : Head) (u : TermId) → id_for xs values h ≡ Some u → is_variable h ≡ true
  is_variables = id_for-variable xs values is.proper.variables

  there : (h : Head) (u : TermId) → id_for xs values h ≡ Some u → u.0 < length b.nodes
  there = id_for-below (length b.nodes) xs values below

  abbrev sketched : List Piece
  sketched = pieces_of (id_for xs values) (tree a r.formula)

  is-sketch : IsSketch b sketched said
  is-sketch = record {
    one = ap (put_all (tree b) []) (sym (append-nil sketched))
        ∙ (put-term (id_for xs values) is_variables (tree b) (tree a r.formula) [] [] ∙ ap (λ by. substitute by (tree a r.formula) ∷ []) same-replacement);
    enough = ap (enough 0) (sym (append-nil sketched)) ∙ enough-term (id_for xs values) is_variables (tree a r.formula) [] 0;
    stand = subst (AllStand b) (append-nil sketched)
        (stand-term (id_for xs values) is_variables b there (tree a r.formula) [] (ap (λ ss. heads_pass (may_stand ss) (tree a r.formula)) (sym shapes) ∙ heads-arena a ok r.formula is.formula) tt);
  }

  pub are-pieces : (ps : List Piece) → ps ≡ sketched → ArePieces b ps said
  are-pieces ps e = subst (λ qs. ArePieces b qs said) (sym e) (record {
    sketch = is-sketch;
    sorted = ap is_some (substituted b.shapes b.decls (placed xs (map (tree b) values)) (placed_keep b.shapes b.decls xs (map (tree b) values) fits) (tree a r.formula) sort.Bool
        ((λ i. term_sort (sym shapes i) (sym decls i) (tree a r.formula)) ∙ is.proper.truth));
  })

  pub many : length r.variables ≡ length values
  many = sym (length-map r.variables (head_at a)) ∙ (sorts_many b.shapes b.decls xs (map (tree b) values) fits ∙ length-map values (tree b))

-- ---- the id that stands in the place of a head

module _ (a : Arena) (ok : IsArena a) (h : Head) (variables values : List TermId) (x t : TermId) (xs ts : List TermId) (front : variables ≡ x ∷ xs) (first : values ≡ t ∷ ts) (n : Node) (at : slice_get a.nodes x.0 ≡ Some n) where
  id_for-front : (b : Bool) → head_eq n.head h ≡ b → id_for (map (head_at a) variables) values h ≡ cond b (Some t) (id_for (map (head_at a) xs) ts h)
  id_for-front b e =
      (λ i. id_for (map (head_at a) (front i)) (first i) h) ∙ ap (λ c. cond c (Some t) (id_for (map (head_at a) xs) ts h)) (ap (λ k. head_eq k h) (head-node a ok x n at) ∙ e)

  pub id_for-found : head_eq n.head h ≡ true → id_for (map (head_at a) variables) values h ≡ Some t
  id_for-found e = id_for-front true e

  pub id_for-passed : head_eq n.head h ≡ false → id_for (map (head_at a) variables) values h ≡ id_for (map (head_at a) xs) ts h
  id_for-passed e = id_for-front false e

-- ---- whether terms have the sorts of variables

module _ (a b : Arena) (ok : IsArena a) (ok_b : IsArena b) (variables values : List TermId) (x t : TermId) (xs ts : List TermId) (front : variables ≡ x ∷ xs) (first : values ≡ t ∷ ts)
    (n : Node) (at : slice_get a.nodes x.0 ≡ Some n) (there : t.0 < length b.nodes) where
  sorts-front : (c : Bool) → sort_eq (variable_sort n.head) (sort_at b t) ≡ c
      → have_sorts b.shapes b.decls (map (head_at a) variables) (map (tree b) values) ≡ (c && have_sorts b.shapes b.decls (map (head_at a) xs) (map (tree b) ts))
  sorts-front c e =
      (λ i. have_sorts b.shapes b.decls (map (head_at a) (front i)) (map (tree b) (first i)))
      ∙ ap (λ d. d && have_sorts b.shapes b.decls (map (head_at a) xs) (map (tree b) ts))
      ((λ i. on_sort (IsWellSorted-arena b ok_b t there i) (sort_eq (variable_sort (head-node a ok x n at i)))) ∙ e)

  pub sorts-fail : sort_eq (variable_sort n.head) (sort_at b t) ≡ false → have_sorts b.shapes b.decls (map (head_at a) variables) (map (tree b) values) ≡ false
  sorts-fail e = sorts-front false e

  pub sorts-passed : sort_eq (variable_sort n.head) (sort_at b t) ≡ true
      → have_sorts b.shapes b.decls (map (head_at a) variables) (map (tree b) values) ≡ have_sorts b.shapes b.decls (map (head_at a) xs) (map (tree b) ts)
  sorts-passed e = sorts-front true e

-- ---- the rule of a number

pub numbered_there : (s : RuleSet) (number k : ℕ) (r : Rule) → number ≡ suc k → slice_get s.list k ≡ Some r → numbered_rule (rules_in s) number ≡ Some (rule_in s.arena r)
numbered_there s number k r e at = ap (numbered_rule (rules_in s)) e ∙ (slice_get-map (rule_in s.arena) s.list k ∙ ap (option_map (rule_in s.arena)) at)

module _ (s : RuleSet) (a : Arena) (number : ℕ) (ts : List Term) (r : plain.Rule) (is : numbered_rule (rules_in s) number ≡ Some r) where
  -- what it says, where it may be had
  pub instance-said : have_sorts a.shapes a.decls r.replaced ts ≡ true → instance_of a.shapes a.decls (numbered_rule (rules_in s) number) ts ≡ Some (substitute (placed r.replaced ts) r.formula)
  instance-said e = ap (λ o. instance_of a.shapes a.decls o ts) is ∙ ap (λ b. cond b (Some (substitute (placed r.replaced ts) r.formula)) None) e

  pub instance-none : have_sorts a.shapes a.decls r.replaced ts ≡ false → instance_of a.shapes a.decls (numbered_rule (rules_in s) number) ts ≡ None
  instance-none e = ap (λ o. instance_of a.shapes a.decls o ts) is ∙ ap (λ b. cond b (Some (substitute (placed r.replaced ts) r.formula)) None) e

pub value-there : (n : ℕ) (values : List TermId) (t : TermId) (ts : List TermId) → values ≡ t ∷ ts → AllBelow n values → t.0 < n
value-there n values t ts e h = (subst (AllBelow n) e h).0

pub values-rest : (n : ℕ) (values : List TermId) (t : TermId) (ts : List TermId) → values ≡ t ∷ ts → AllBelow n values → AllBelow n ts
values-rest n values t ts e h = (subst (AllBelow n) e h).1

-- ---- answers

pub if_ok : {T E : Type 0} (r : Result T E) (P Q : T → Type 0) → IfOk r P → ((x : T) → P x → Q x) → IfOk r Q
if_ok (Ok x) P Q p go = go x p
if_ok (Err e) P Q p go = tt

pub if_err : {T E : Type 0} (r : Result T E) (P Q : E → Type 0) → IfErr r P → ((x : E) → P x → Q x) → IfErr r Q
if_err (Ok x) P Q p go = tt
if_err (Err e) P Q p go = go e p
