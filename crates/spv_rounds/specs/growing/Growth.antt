-- What rules say of the terms of instances, made in an arena.
use Rattle.std.specs.Prelude.{◌≡◌, ◌+◌, true, List, map, length, Option, Some}
use Rattle.std.specs.List.{list_all}
use Rattle.spv_logic.specs.declared.conditions.TermId.{TermId}
use Rattle.spv_logic.specs.declared.types.Shape.{Shape}
use Rattle.spv_logic.specs.declared.types.Decl.{Decl}
use Rattle.spv_logic.specs.Terms.{Term}
use Rattle.spv_term.specs.Arena.{Arena, AllBelow, tree}
use Rattle.spv_atoms.specs.Atoms.{is_truth}
use Rattle.spv_proof_rules.specs.Rules.{Rule, numbered_rule, instance_of}
use Rattle.spv_verdicts.specs.Verdicts as verdicts
use Rattle.spv_verdicts.specs.declared.answers.verdicts.Instance.{Instance}
use Rattle.spv_table.specs.declared.table.Table.{Table}
use Rattle.spv_term.specs.declared.nodes.Condition.{Condition}
use Rattle.spv_verdicts.specs.declared.answers.verdicts.Round.{Round}
use Rattle.spv_verdicts.specs.answers.Views.{instances_in}
use Rattle.spv_rounds.specs.declared.knowing.known.Known.{Known}
use Rattle.spv_rounds.specs.knowing.Known.{IsKnown, members_in}
use Rattle.spv_rounds.specs.moving.Moves.{PairsMoved, InstancesMoved}

-- what an instance of these rules says
abbrev pub says : List Rule → List Shape → List Decl → verdicts.Instance → Option Term
says rules shapes decls i = instance_of shapes decls (numbered_rule rules i.rule) i.values

-- what instances say stands in an arena that grew, and each is true or false
pub record AreSaid (rules : List Rule) (old : Arena) (members : List Instance) (new : Arena) (made : List TermId) : Type 0 where
  pub there : AllBelow (length new.nodes) made
  pub same : map (says rules old.shapes old.decls) (instances_in old members) ≡ map Some (map (tree new) made)
  pub truths : list_all (is_truth old.shapes old.decls) (map (tree new) made) ≡ true

-- a round of another arena, with this table and these members
pub record RoundFound (a b : Arena) (table : Table) (members : List Instance) (r : Round) : Type 0 where
  pub pairs : PairsMoved a b table.values r.table.values
  pub all : InstancesMoved a b members r.members

-- what is known grew by a round with these members
pub record Grew (rules : List Rule) (a : Arena) (c : Condition) (limits : verdicts.Limits) (old : Known) (members : List Instance) (new : Known) : Type 0 where
  pub known : IsKnown rules a c limits new
  pub more : length (members_in new.terms new.rounds.items) ≡ length (members_in old.terms old.rounds.items) + length members
