-- What cited facts give to terms of an arena, by the terms' ids.
use Rattle.std.specs.Prelude.{◌≡◌, ◌<◌, Bool, true, ◌&&◌, ◌||◌, List, map, length, Option, Some, None}
use Rattle.std.specs.List.{list_any, flat_map}
use Rattle.std.specs.Map.{lookup}
use Rattle.indexmap.specs.IndexMap.{insert_entry}
use Rattle.spv_logic.specs.declared.conditions.TermId.{TermId}
use Rattle.spv_logic.specs.Terms.{term_eq}
use Rattle.spv_logic.specs.Formulas.{below}
use Rattle.spv_term.specs.Arena.{Arena, tree}
use Rattle.spv_atoms.specs.Order.{same_id}
use Rattle.spv_atoms.specs.Tables.{assigned, or_else}
use Rattle.spv_proof_rules.specs.Evaluation.{given_by, cites}
use Rattle.spv_proof_steps.specs.declared.known.Order.{Order}
use Rattle.spv_proof_steps.specs.declared.known.Known.{Known}

abbrev pub same_pair : Order → Order → Bool
same_pair p q = same_id p.low q.low && same_id p.high q.high

-- values with one more, where the term has none
abbrev pub value_unless : Option Bool → List (TermId × Bool) → TermId → Bool → List (TermId × Bool)
value_unless (Some v) values t value = values
value_unless None values t value = insert_entry same_id values t value

abbrev pub with_value : List (TermId × Bool) → TermId → Bool → List (TermId × Bool)
with_value values t value = value_unless (lookup (same_id t) values) values t value

-- ---- one fact

-- where no value was given before, there is the one that the fact gives
pub record AddsValues (a : Arena) (fact : TermId) (old new : List (TermId × Bool)) : Type 0 where
  pub same : (t : TermId) → t.0 < length a.nodes → lookup (same_id t) new ≡ or_else (lookup (same_id t) old) (assigned (given_by true (tree a fact)) (tree a t))

-- one term is below another as before, or as the fact says
pub record AddsOrder (a : Arena) (fact : TermId) (old new : List Order) : Type 0 where
  pub same : (s t : TermId) → s.0 < length a.nodes → t.0 < length a.nodes
      → list_any (same_pair (record { low = s; high = t })) new ≡ (list_any (same_pair (record { low = s; high = t })) old || term_eq (below (tree a s) (tree a t)) (tree a fact))

-- ---- all facts

pub record GivesValues (a : Arena) (cited : List TermId) (values : List (TermId × Bool)) : Type 0 where
  pub same : (t : TermId) → t.0 < length a.nodes → lookup (same_id t) values ≡ assigned (flat_map (given_by true) (map (tree a) cited)) (tree a t)

pub record GivesOrders (a : Arena) (cited : List TermId) (orders : List Order) : Type 0 where
  pub same : (s t : TermId) → s.0 < length a.nodes → t.0 < length a.nodes
      → list_any (same_pair (record { low = s; high = t })) orders ≡ cites (map (tree a) cited) (below (tree a s) (tree a t))

pub record IsKnown (a : Arena) (cited : List TermId) (known : Known) : Type 0 where
  pub values : GivesValues a cited known.values
  pub orders : GivesOrders a cited known.orders
