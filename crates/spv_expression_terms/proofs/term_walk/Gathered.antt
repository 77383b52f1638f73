-- The outermost calls of an expression, made one after the other, are its calls; and its term has their values in their places.
use Rattle.std.proofs.Common.{◌≡◌, ℕ, zero, suc, List, [], ◌∷◌, ◌++◌, take, drop, length, Option, Some, None, refl, sym, ap, ◌∙◌, arith}
use Rattle.std.proofs.lemmas.List.{append_assoc, append-nil}
use Rattle.spv_logic.specs.declared.names.names.Symbol.{Symbol}
use Rattle.spv_logic.specs.declared.operators.Head.{Head}
use Rattle.spv_logic.specs.declared.operators.Head.TheVariants as head
use Rattle.spv_logic.specs.Terms.{Term}
use Rattle.spv_program.specs.Expressions.{Expression, Selectors, Call, Numeral, Boolean, NilOf, Read, Result, Through, Negative, Calculated, Compared, Negated, Joined, designator, no_selectors, at_index, at_field, at_cell, call}
use Rattle.spv_program.specs.Programs.{Routine, Program, routine_at}
use Rattle.spv_program.specs.Supplies.{Supply}
use Rattle.spv_program.specs.Places.{ToElement, further, cell_behind}
use Rattle.spv_program.specs.Terms.{alone, unary, binary, negative, head_of_arithmetic, comparing, head_of_connective}
use Rattle.spv_program.specs.ExpressionTerms.{Placed, Argued, with_term, with_terms, read_at, at_start, to_element, to_field, to_cell, called_in, valued, placed, selected, called, argued}
use Rattle.spv_expression_terms.specs.term_walk.ExpressionTerms.{variable_at}
use Rattle.spv_expression_terms.specs.term_walk.OuterCalls.{outer_calls, selectors_outer_calls, for_first, for_others, filled, filled_behind, filled_target, head_of, MadeCalls, made_calls}
use Rattle.spv_expression_terms.specs.term_walk.Laws.{variable_head, valued_of, placed_of}
use Rattle.spv_expression_terms.proofs.term_walk.Filled.{present_filled}

-- ---- lists

first_of_both : {X : Type 0} (xs ys : List X) (n : ℕ) → length xs ≡ n → take n (xs ++ ys) ≡ xs
first_of_both [] ys n e = ap (λ k. take k ys) (sym e)
first_of_both (x ∷ xs) ys zero e = absurd (omega (arith, e))
first_of_both (x ∷ xs) ys (suc n) e = let rest : length xs ≡ n = omega (arith, e) in ap (λ zs. x ∷ zs) (first_of_both xs ys n rest)

second_of_both : {X : Type 0} (xs ys : List X) (n : ℕ) → length xs ≡ n → drop n (xs ++ ys) ≡ ys
second_of_both [] ys n e = ap (λ k. drop k ys) (sym e)
second_of_both (x ∷ xs) ys zero e = absurd (omega (arith, e))
second_of_both (x ∷ xs) ys (suc n) e = let rest : length xs ≡ n = omega (arith, e) in second_of_both xs ys n rest

-- ---- calls

called_alone : (p : Program) (o : Option Routine) (line : ℕ) (given : Argued) → alone (head_of (called_in p o line given).term) ≡ (called_in p o line given).term
called_alone p None line given = refl
called_alone p (Some r) line given = refl

module _ (p : Program) (here : Option Routine) where
  call_alone : (n : Supply) (c : Call) → alone (head_of (called p here n c).term) ≡ (called p here n c).term
  call_alone n (call r line given) = called_alone p (routine_at p r) line (argued p here n given)

  -- a variable for each call
  pub as_many : (n : Supply) (cs : List Call) → length (made_calls p here n cs).variables ≡ length cs
  as_many n [] = refl
  as_many n (c ∷ cs) = ap suc (as_many (called p here n c).supply cs)

  abbrev both : MadeCalls → MadeCalls → MadeCalls
  both g h = record { variables = g.variables ++ h.variables; calls = g.calls ++ h.calls; supply = h.supply }

  -- calls behind others
  made_both : (n : Supply) (xs ys : List Call) → made_calls p here n (xs ++ ys) ≡ both (made_calls p here n xs) (made_calls p here (made_calls p here n xs).supply ys)
  made_both n [] ys = refl
  made_both n (c ∷ xs) ys =
      let first = called p here n c in
      let rest = made_both first.supply xs ys in
      let others = made_calls p here first.supply xs in
      let last = made_calls p here others.supply ys in
      (λ i. record { variables = head_of first.term ∷ (rest i).variables; calls = first.calls ++ (rest i).calls; supply = (rest i).supply })
      ∙ (λ i. record { variables = head_of first.term ∷ (others.variables ++ last.variables); calls = sym (append_assoc first.calls others.calls last.calls) i; supply = last.supply })

  abbrev heads : Symbol → Head
  heads = variable_head p here

  -- variables for an expression and for what follows it
  first_is : (n : Supply) (e : Expression) (others : List Head) → for_first e ((made_calls p here n (outer_calls e)).variables ++ others) ≡ (made_calls p here n (outer_calls e)).variables
  first_is n e others = first_of_both (made_calls p here n (outer_calls e)).variables others (length (outer_calls e)) (as_many n (outer_calls e))

  others_are : (n : Supply) (e : Expression) (others : List Head) → for_others e ((made_calls p here n (outer_calls e)).variables ++ others) ≡ others
  others_are n e others = second_of_both (made_calls p here n (outer_calls e)).variables others (length (outer_calls e)) (as_many n (outer_calls e))

  -- two operands
  two_filled : (f : Term → Term → Term) (n : Supply) (a b : Expression)
      → valued p here n a ≡ valued_of p here a (made_calls p here n (outer_calls a))
      → valued p here (made_calls p here n (outer_calls a)).supply b
      ≡ valued_of p here b (made_calls p here (made_calls p here n (outer_calls a)).supply (outer_calls b))
      → with_terms f (valued p here n a) (λ m. valued p here m b)
      ≡ record {
        term = f (filled heads (for_first a (made_calls p here n (outer_calls a ++ outer_calls b)).variables) a)
            (filled heads (for_others a (made_calls p here n (outer_calls a ++ outer_calls b)).variables) b);
        calls = (made_calls p here n (outer_calls a ++ outer_calls b)).calls;
        supply = (made_calls p here n (outer_calls a ++ outer_calls b)).supply;
      }
  two_filled f n a b first second =
      let g = made_calls p here n (outer_calls a) in
      let h = made_calls p here g.supply (outer_calls b) in
      let before = first_is n a h.variables in
      let behind = others_are n a h.variables in
      ap (λ v. with_terms f v (λ m. valued p here m b)) first
      ∙ (ap (λ w. with_terms f (valued_of p here a g) (λ m. w)) second
      ∙ ((λ i. record { term = f (filled heads (sym before i) a) (filled heads (sym behind i) b); calls = g.calls ++ h.calls; supply = h.supply })
      ∙ ap (λ (m : MadeCalls). record { term = f (filled heads (for_first a m.variables) a) (filled heads (for_others a m.variables) b); calls = m.calls; supply = m.supply }) (sym (made_both n (outer_calls a) (outer_calls b)))))

  mutual
    -- an expression's calls are its outermost ones, made in turn, and its term has their values in their places
    pub value_gathered : (n : Supply) (e : Expression) → valued p here n e ≡ valued_of p here e (made_calls p here n (outer_calls e))
    value_gathered n (Numeral z) = refl
    value_gathered n (Boolean b) = refl
    value_gathered n (NilOf t) = refl
    value_gathered n (Read (designator line x others)) =
        ap read_at (selected_gathered (at_start n (heads x)) others)
        ∙ (λ i. record {
          term = present_filled heads (made_calls p here n (selectors_outer_calls others)).variables (variable_at (heads x)) others i;
          calls = (made_calls p here n (selectors_outer_calls others)).calls;
          supply = (made_calls p here n (selectors_outer_calls others)).supply;
        })
    value_gathered n (Result c) =
        let v = called p here n c in λ i. record { term = sym (call_alone n c) i; calls = sym (append-nil v.calls) i; supply = v.supply }
    value_gathered n (Through c line t others) =
        let v = called p here n c in
        let g = made_calls p here v.supply (selectors_outer_calls others) in
        ap read_at (selected_gathered (to_cell t v) others)
        ∙ ((λ i. record { term = present_filled heads g.variables (cell_behind t v.term) others i; calls = v.calls ++ g.calls; supply = g.supply })
        ∙ (λ i. record { term = filled_behind heads g.variables (binary head.Cell (alone (head.ClassVar t 0)) (sym (call_alone n c) i)) others; calls = v.calls ++ g.calls; supply = g.supply }))
    value_gathered n (Negative e) = ap (with_term negative) (value_gathered n e)
    value_gathered n (Calculated o a b) =
        two_filled (binary (head_of_arithmetic o)) n a b (value_gathered n a) (value_gathered (made_calls p here n (outer_calls a)).supply b)
    value_gathered n (Compared o a b) = two_filled (comparing o) n a b (value_gathered n a) (value_gathered (made_calls p here n (outer_calls a)).supply b)
    value_gathered n (Negated e) = ap (with_term (unary head.Not)) (value_gathered n e)
    value_gathered n (Joined o a b) =
        two_filled (binary (head_of_connective o)) n a b (value_gathered n a) (value_gathered (made_calls p here n (outer_calls a)).supply b)

    -- the same of the place that selectors lead to from a place
    selected_gathered : (d : Placed) (others : Selectors) → selected p here d others ≡ placed_of p here d others (made_calls p here d.supply (selectors_outer_calls others))
    selected_gathered d no_selectors = λ i. record { target = d.target; calls = sym (append-nil d.calls) i; supply = d.supply }
    selected_gathered d (at_index t e others) =
        let g = made_calls p here d.supply (outer_calls e) in
        let h = made_calls p here g.supply (selectors_outer_calls others) in
        let before = first_is d.supply e h.variables in
        let behind = others_are d.supply e h.variables in
        let next : Placed = record { target = further (ToElement (filled heads g.variables e)) d.target; calls = d.calls ++ g.calls; supply = g.supply } in
        ap (λ v. selected p here (to_element d (λ m. v)) others) (value_gathered d.supply e)
        ∙ (selected_gathered next others
        ∙ ((λ i. record {
          target = filled_target heads (sym behind i) (further (ToElement (filled heads (sym before i) e)) d.target) others;
          calls = append_assoc d.calls g.calls h.calls i;
          supply = h.supply;
        })
        ∙ ap (λ (m : MadeCalls). placed_of p here d (at_index t e others) m) (sym (made_both d.supply (outer_calls e) (selectors_outer_calls others)))))
    selected_gathered d (at_field t f others) = selected_gathered (to_field f d) others
    selected_gathered d (at_cell line t others) = selected_gathered (to_cell t (read_at d)) others

  pub place_gathered : (n : Supply) (line : ℕ) (x : Symbol) (others : Selectors)
      → placed p here n (designator line x others) ≡ placed_of p here (at_start n (heads x)) others (made_calls p here n (selectors_outer_calls others))
  place_gathered n line x others = selected_gathered (at_start n (heads x)) others
