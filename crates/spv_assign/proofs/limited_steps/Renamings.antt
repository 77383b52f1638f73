-- A variable and a fresh one in its place.
use Rattle.std.proofs.Common.{◌≡◌, true, [], ◌∷◌, ◌++◌, Result, Ok, Err, IfOk, refl, sym, ap, subst, ◌∙◌, arith}
use Rattle.std.proofs.lemmas.Bool.{or_left}
use Rattle.spv_logic.specs.declared.conditions.TermId.{TermId}
use Rattle.spv_logic.specs.declared.operators.Head.{Head}
use Rattle.spv_logic.specs.Substitution.{is_variable}
use Rattle.spv_logic.specs.Terms.{Term}
use Rattle.spv_term.specs.declared.nodes.TermFault.{TermFault}
use Rattle.spv_term.specs.declared.nodes.TermFault.TheVariants.{Size}
use Rattle.spv_term.specs.Arena.{Arena, Extends, sort_at}
use Rattle.spv_term.proofs.ArenaLemmas.{tree-Extends, sort_at-Extends, length-Extends}
use Rattle.spv_term.specs.substitution.Images.{head_of, head_at}
use Rattle.spv_term.specs.substitution.Parts.{is_part, is_part_of, AddsOnly, Lacks}
use Rattle.spv_term.proofs.substitution.PartLemmas.{is_part-refl}
use Rattle.spv_program.specs.Supplies.{Supply, Fresh, fresh_like}
use Rattle.spv_program.specs.Terms.{alone}
use Rattle.spv_assign.specs.supply.Numbers.{Taken, IsFresh, AreThere}
use Rattle.spv_assign.specs.declared.creation_trace.faults.GenFault.{GenFault}
use Rattle.spv_assign.specs.creation_trace.Events.{Walked, Stops}
use Rattle.spv_assign.specs.creation_trace.StatementEvents.{one, several}
use Rattle.spv_assign.proofs.creation_trace.Walks.{walked_behind, stopped_behind}
use Rattle.spv_assign.proofs.creation_trace.Covering.{AreCovered, covered_more, covered_nothing, covered_stops, same_walk}
use Rattle.spv_assign.specs.limited_steps.Makes.{IsTerm, Makes, IsFreshPair}
use Rattle.spv_assign.proofs.limited_steps.Limits.{only_part, lacks_one}

pub ok_at : {T E : Type 0} (P : T → Type 0) (r : Result T E) (x : T) → r ≡ Ok x → IfOk r P → P x
ok_at {T} {E} P r x is h = subst (λ (s : Result T E). IfOk s P) is h

first_of_two : (x y : Term) → AreCovered (x ∷ []) (x ∷ y ∷ [])
first_of_two x y = covered_more x [] (x ∷ y ∷ []) (or_left (is_part x x) (is_part_of (y ∷ []) x) (is_part-refl x)) (covered_nothing (x ∷ y ∷ []))

-- ---- what the pair makes

pub stops_at_one : (x y : Term) (e : GenFault) (a b : Arena) → Stops e (one x) a b → Stops e (several (x ∷ y ∷ [])) a b
stops_at_one x y e a b stops = covered_stops (one x) refl (x ∷ y ∷ []) (first_of_two x y) e a b stops

pub stops_at_two : (x y : Term) (e : GenFault) (a b c : Arena) → Walked (one x) a b → Stops e (several (y ∷ [])) b c → Stops e (several (x ∷ y ∷ [])) a c
stops_at_two x y e a b c first stops =
    covered_stops (one x ++ several (y ∷ [])) refl (x ∷ y ∷ []) (record { each = λ z h. h }) e a c (stopped_behind e (one x) (several (y ∷ [])) a b c first stops)

pub walked_two : (x y : Term) (a b c : Arena) → Walked (one x) a b → Walked (several (y ∷ [])) b c → Walked (several (x ∷ y ∷ [])) a c
walked_two x y a b c first rest = same_walk (one x ++ several (y ∷ [])) (several (x ∷ y ∷ [])) a c refl tt (walked_behind (one x) (several (y ∷ [])) first rest)

-- ---- the fresh one

module _ (b c : Arena) (from : TermId) (h : Head) (n : Supply) (is : IsTerm b from (alone h)) where
  same_head : head_at b from ≡ h
  same_head = ap head_of is.is_tree

  same_fresh : fresh_like (head_at b from) n ≡ fresh_like h n
  same_fresh = ap (λ (g : Head). fresh_like g n) same_head

  pub fresh_makes : (taken : Taken) (r : Result TermId TermFault) → IfOk r (λ u. IsFresh c u taken (fresh_like (head_at b from) n)) → Extends b c
      → AddsOnly b c (alone (fresh_like (head_at b from) n).head) → (AreThere b n → r ≡ Err Size → Lacks c (alone (fresh_like (head_at b from) n).head)) → AreThere b n
      → Makes r b c (alone (fresh_like h n).head ∷ [])
  fresh_makes taken (Ok u) fresh grows only size there =
      subst (λ (f : Fresh). Makes {X = TermId} (Ok u) b c (alone f.head ∷ [])) same_fresh (record {
        grows = grows;
        there = (record { id = u; there = fresh.there; is_tree = fresh.is_tree }, tt);
        only = only_part b c (alone (fresh_like (head_at b from) n).head) only;
        size = λ e. cc;
      })
  fresh_makes taken (Err e) fresh grows only size there =
      subst (λ (f : Fresh). Makes {X = TermId} (Err e) b c (alone f.head ∷ [])) same_fresh (record {
        grows = grows;
        there = tt;
        only = only_part b c (alone (fresh_like (head_at b from) n).head) only;
        size = λ full. lacks_one c (alone (fresh_like (head_at b from) n).head) (size there full);
      })

  pub is_fresh_pair : (taken : Taken) (to : TermId) → is_variable h ≡ true → Extends b c → IsFresh c to taken (fresh_like (head_at b from) n) → sort_at c to ≡ sort_at b from
      → IsFreshPair c taken (from, to) h n
  is_fresh_pair taken to variable grows fresh sorts =
      let stays = tree-Extends grows from is.there in
      record {
        pair = record {
          variable_there = let longer = length-Extends grows in let there = is.there in omega (arith, there, longer);
          term_there = fresh.there;
          variable = ap is_variable (ap head_of stays ∙ same_head) ∙ variable;
          same_sort = sorts ∙ sym (sort_at-Extends grows from is.there);
        };
        variable = stays ∙ is.is_tree;
        fresh = fresh.is_tree ∙ ap (λ (f : Fresh). alone f.head) same_fresh;
        supply = fresh.supply ∙ ap (λ (f : Fresh). f.supply) same_fresh;
      }
