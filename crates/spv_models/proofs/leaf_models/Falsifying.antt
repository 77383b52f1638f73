-- The table of a leaf is a table, its formulas have their truth, and it falsifies the condition.
use Rattle.std.proofs.Common.{◌≡◌, ◌⊎◌, inl, inr, ℕ, Bool, true, false, List, [], ◌∷◌, map, pos, refl, sym, ap, ◌∙◌, subst, Option, Some, None, Ok, Err, Result}
use Rattle.std.specs.Prelude.{is_some, slice_get}
use Rattle.std.proofs.lemmas.Option.{same_Some}
use Rattle.spv_whole.specs.Fraction.{Fraction, whole}
use Rattle.spv_logic.specs.declared.types.Shape.{Shape}
use Rattle.spv_logic.specs.declared.types.Decl.{Decl}
use Rattle.spv_logic.specs.Terms.{Term}
use Rattle.spv_logic.specs.Conditions.{Sequent}
use Rattle.spv_atoms.specs.Atoms.{is_truth}
use Rattle.spv_atoms.specs.Order.{passing}
use Rattle.spv_atoms.proofs.Members.{has, has-left, has-last}
use Rattle.spv_table.specs.declared.operations.WideValue.{WideValue}
use Rattle.spv_table.specs.Values.{Outcome, truth_value, is_true, value, holding, holds}
use Rattle.spv_table.specs.Tables.{IsTable}
use Rattle.spv_models.specs.leaf_models.Subterms.{subterms, is_listed}
use Rattle.spv_models.specs.leaf_models.Leaves.{Leaf, IsLeaf, truth_at}
use Rattle.spv_models.specs.leaf_models.Tables.{truth_number, number_at, table, formulas_of, Falsifies}
use Rattle.spv_models.specs.leaf_models.Laws.{listed_at}
use Rattle.spv_models.proofs.leaf_models.Closed.{subterms-has}
use Rattle.spv_models.proofs.leaf_models.Lookups.{passing-parts, beside-terms, beside-at}
use Rattle.spv_models.proofs.leaf_models.Outcomes.{true-value}
use Rattle.spv_models.proofs.leaf_models.Alike.{alike-number}
use Rattle.spv_models.proofs.leaf_models.Values.{right, truth-at}

pub table-terms : (shapes : List Shape) (decls : List Decl) (fs : List Term) (leaf : Leaf) → map (λ (p : Term × Fraction). p.0) (table shapes decls fs leaf) ≡ passing is_listed (subterms fs)
table-terms shapes decls fs leaf = beside-terms (number_at shapes decls (subterms fs) leaf) (passing is_listed (subterms fs))

module _ (shapes : List Shape) (decls : List Decl) (fs : List Term) (leaf : Leaf) (ok : IsLeaf shapes decls fs leaf) where
  abbrev pairs : List (Term × Fraction)
  pairs = table shapes decls fs leaf

  abbrev number : Term → Fraction
  number = number_at shapes decls (subterms fs) leaf

  -- a row is a listed subterm with its number
  record IsRow (p : Term × Fraction) : Type 0 where
    among : has (subterms fs) p.0 ≡ true
    listed : is_listed p.0 ≡ true
    is : p.1 ≡ number p.0

  row : (i : ℕ) (p : Term × Fraction) → slice_get pairs i ≡ Some p → IsRow p
  row i p e =
      let b = beside-at number (passing is_listed (subterms fs)) i p e in
      let q = passing-parts is_listed (subterms fs) p.0 b.among in
      record { among = q.among; listed = q.passes; is = b.is }

  zero_or_one : (o : Option Bool) → (truth_number o ≡ whole (pos 0)) ⊎ (truth_number o ≡ whole (pos 1))
  zero_or_one None = inl refl
  zero_or_one (Some false) = inl refl
  zero_or_one (Some true) = inr refl

  pub is-table : IsTable shapes decls pairs
  is-table = record {
    alike = λ i j p q e f a. let r = row i p e in let s = row j q f in
        r.is ∙ (alike-number shapes decls fs leaf ok p.0 q.0 r.among s.among r.listed s.listed a ∙ sym s.is);
    truths = λ i p e h. let r = row i p e in
        subst (λ (x : Fraction). (x ≡ whole (pos 0)) ⊎ (x ≡ whole (pos 1))) (sym (r.is ∙ truth-at shapes decls fs leaf ok p.0 h)) (zero_or_one (truth_at (is_truth shapes decls) leaf.given p.0));
  }

  pub truth-there : (t : Term) → has (subterms fs) t ≡ true → is_truth shapes decls t ≡ true → is_some (truth_at (is_truth shapes decls) leaf.given t) ≡ true
  truth-there t m h = ap is_some ((right shapes decls fs leaf ok t m).truths h).is

  pub truth-value : (t : Term) (x : Fraction) (b : Bool) → has (subterms fs) t ≡ true → is_truth shapes decls t ≡ true → truth_at (is_truth shapes decls) leaf.given t ≡ Some b → value (listed_at shapes decls fs leaf) t ≡ Ok x → x ≡ truth_value b
  truth-value t x b m h is e =
      let r = (right shapes decls fs leaf ok t m).truths h in
      r.value_is.is x e ∙ ap truth_value (same_Some r.holds b (sym r.is ∙ is))

  held : (o : Outcome) (b c : Bool) → holding o ≡ Ok b → ((x : Fraction) → o ≡ Ok x → x ≡ truth_value c) → c ≡ b
  held (Err w) b c e h = absurd (stopped e)
    where
      stopped : holding (Err w) ≡ Ok b → ⊥
      stopped f = cc
  held (Ok x) b c e h = sym (ap is_true (h x refl) ∙ true-value c) ∙ of_ok e
    where
      of_ok : holding (Ok x) ≡ Ok b → is_true x ≡ b
      of_ok f = cc

  pub formula-holds : (f : Term) (b : Bool) → has fs f ≡ true → holds (listed_at shapes decls fs leaf) f ≡ Ok b → truth_at (is_truth shapes decls) leaf.given f ≡ Some b
  formula-holds f b m e =
      let r = (right shapes decls fs leaf ok f (subterms-has fs f m)).truths (ok.formulas f m) in
      r.is ∙ ap Some (held (value (listed_at shapes decls fs leaf) f) b r.holds e r.value_is.is)

module _ (shapes : List Shape) (decls : List Decl) (c : Sequent) (leaf : Leaf) (ok : IsLeaf shapes decls (formulas_of c) leaf) where
  abbrev truth_of : Term → Option Bool
  truth_of t = truth_at (is_truth shapes decls) leaf.given t

  abbrev result : Term → Result Bool WideValue
  result f = holds (listed_at shapes decls (formulas_of c) leaf) f

  -- a formula that no operation stops has the truth that is known
  holds_as : (f : Term) (b : Bool) → has (formulas_of c) f ≡ true → truth_of f ≡ Some b → (d : Bool) × (result f ≡ Ok d) → result f ≡ Ok b
  holds_as f b m is known = known.1 ∙ ap (λ (d : Bool). Ok d) (same_Some known.0 b (sym (formula-holds shapes decls (formulas_of c) leaf ok f known.0 m known.1) ∙ is))

  pub table-falsifies : ((f : Term) → has c.given f ≡ true → truth_of f ≡ Some true) → truth_of c.goal ≡ Some false → ((f : Term) → has (formulas_of c) f ≡ true → (b : Bool) × (result f ≡ Ok b))
      → Falsifies shapes decls c (table shapes decls (formulas_of c) leaf)
  table-falsifies given goal known = record {
    lists = table-terms shapes decls (formulas_of c) leaf;
    is_table = is-table shapes decls (formulas_of c) leaf ok;
    given_true = λ f m. let there = has-left c.given (c.goal ∷ []) f m in holds_as f true there (given f m) (known f there);
    goal_false = let there = has-last c.given c.goal in holds_as c.goal false there goal (known c.goal there);
  }
