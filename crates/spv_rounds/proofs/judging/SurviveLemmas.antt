-- A table in which all holds makes a verdict.
use Rattle.std.proofs.Common.{◌≡◌, ℕ, suc, ◌+◌, ◌<◌, ◌≤◌, Bool, List, [], ◌∷◌, ◌++◌, map, take, drop, length, Ok, Err, sym, ap, ◌∙◌, subst, arith, slice_get}
use Rattle.std.proofs.lemmas.List.{append-nil, length-map, length-append, length-take, take-map, take-append-drop, map-append, map_push}
use Rattle.spv_logic.specs.declared.conditions.TermId.{TermId}
use Rattle.spv_term.specs.declared.nodes.Condition.{Condition}
use Rattle.spv_term.specs.Arena.{Arena, tree}
use Rattle.spv_table.specs.declared.operations.WideValue.{WideValue}
use Rattle.spv_table.specs.declared.table.Table.{Table}
use Rattle.spv_table.specs.Kept.{PairsIn}
use Rattle.spv_proof_rules.specs.Rules.{Rule}
use Rattle.spv_proof_rules.specs.Effects.{Question}
use Rattle.spv_proof_rules.specs.Stand.{question, question_under}
use Rattle.spv_verdicts.specs.Verdicts as verdicts
use Rattle.spv_verdicts.specs.Verdicts.{Limits, condition_atoms}
use Rattle.spv_verdicts.specs.declared.answers.verdicts.Instance.{Instance}
use Rattle.spv_verdicts.specs.declared.answers.verdicts.Round.{Round}
use Rattle.spv_verdicts.specs.declared.answers.verdicts.Unproved.{Unproved}
use Rattle.spv_verdicts.specs.declared.answers.verdicts.Wide.TheVariants as wide
use Rattle.spv_verdicts.specs.declared.answers.verdicts.Limit.TheVariants as limit
use Rattle.spv_verdicts.specs.declared.answers.verdicts.Verdict.TheVariants as verdict
use Rattle.spv_verdicts.specs.answers.Views.{InstancesIn, RoundsIn, CasesIn, branch_in, case_in, instance_in, instances_in, pairs_in, round_in, rounds_in}
use Rattle.spv_rounds.specs.Claims.{formulas, AllSay, FalsifiesWith}
use Rattle.spv_rounds.specs.Rounds.{called, matched, IsRound, AreRounds, members_of}
use Rattle.spv_rounds.specs.Right.{in_match, IsDecidedByRounds}
use Rattle.spv_rounds.specs.declared.knowing.known.Settled.{Settled}
use Rattle.spv_rounds.specs.knowing.Known.{IsSettled, members_in}
use Rattle.spv_rounds.specs.telling.Told.{all_members, settled_question, settled_members}
use Rattle.spv_rounds.specs.judging.Judged.{IsUnprovedIn, Calls}
use Rattle.spv_rounds.proofs.knowing.SettleLemmas.{over}
use Rattle.spv_rounds.proofs.Branching.{own-atoms, taken-there}
use Rattle.spv_rounds.proofs.growing.GrowLemmas.{members-more, grown-more, say-both}
use Rattle.spv_rounds.proofs.telling.ToldLemmas.{members-are, members-there}

module _ (rules : List Rule) (a : Arena) (c : Condition) (limits : Limits) (s : Settled) (is : IsSettled rules a c s) where
  abbrev q : Question
  q = settled_question rules s

  abbrev ms : List verdicts.Instance
  ms = settled_members s

  -- no further instance is called for
  pub survives : (u : Unproved) → IsUnprovedIn rules s u → called q ms (pairs_in s.terms u.table.values) ≡ Ok [] → (own : List (TermId × Bool)) → own ≡ take (length (condition_atoms (question s.terms s.condition))) u.branch → (CasesIn s.terms u.branch → CasesIn s.terms own)
      → (instances : List Instance) → instances ≡ all_members s.rounds
      → IsDecidedByRounds rules a c limits (record { terms = s.terms; condition = s.condition; verdict = verdict.Unproved (record { branch = own; table = u.table; instances = instances }) })
  survives u found nothing own first there instances e =
      let old = found.right.survives in
      let n = length (condition_atoms q) in
      let branch_is : branch_in s.terms own ≡ take n (branch_in s.terms u.branch) = ap (branch_in s.terms) first ∙ sym (take-map (case_in s.terms) n u.branch) in
      let same : instances_in s.terms instances ≡ ms = ap (instances_in s.terms) e ∙ members-are s.terms s.rounds in
      record {
        claim = is.claim;
        shapes = is.shapes;
        decls = is.decls;
        terms_in = (there found.cases, found.pairs, subst (InstancesIn s.terms) (sym e) (members-there s.terms s.rounds is.rounds.there));
        right = record {
          say = subst (AllSay q) (sym same) is.rounds.say;
          falsifies = subst (λ (xs : List verdicts.Instance). FalsifiesWith q xs (pairs_in s.terms u.table.values)) (sym same) old.falsifies;
          atoms = ap (map (λ p. p.0)) branch_is ∙ own-atoms q (formulas q ms) (branch_in s.terms u.branch) old.atoms;
          truths = λ i p at. old.truths i p (taken-there n (branch_in s.terms u.branch) i p (ap (λ b. slice_get b i) (sym branch_is) ∙ at));
          no_more = ap (λ xs. called q xs (pairs_in s.terms u.table.values)) same ∙ nothing;
          rounds = rounds_in s.terms s.rounds;
          grown = is.rounds.grown;
          members = same;
        };
      }

  -- a test of a match meets a value that is too wide
  pub stops-wide : length ms ≤ limits.instances → (table : Table) (t : TermId) (w : WideValue) → PairsIn s.terms table.values → t.0 < length s.terms.nodes → FalsifiesWith q ms (pairs_in s.terms table.values)
      → matched q ms (pairs_in s.terms table.values) ≡ Err (tree s.terms t, w)
      → IsDecidedByRounds rules a c limits (record { terms = s.terms; condition = s.condition; verdict = verdict.GaveUp s.rounds (limit.Number (wide.Value table t w.op w.left w.right)) })
  stops-wide few table t w there t_in falsifies e = record {
    claim = is.claim;
    shapes = is.shapes;
    decls = is.decls;
    terms_in = (is.rounds.there, (there, t_in));
    right = record { say = is.rounds.say; grown = is.rounds.grown; reached = (few, in_match falsifies e) };
  }

  -- one instance more than there may be
  module _ (table : Table) (there : PairsIn s.terms table.values) (falsifies : FalsifiesWith q ms (pairs_in s.terms table.values)) (found : List Instance) (calls : Calls rules s table found) (count : ℕ) (members : List Instance) (cut : members ≡ take count found)
      (rounds : List Round) (pushed : rounds ≡ s.rounds ++ record { table = table; members = members } ∷ []) (some : 0 < count) (enough : count ≤ length found) (sum : length ms + count ≡ suc limits.instances) where
    abbrev added : verdicts.Round
    added = record { table = pairs_in s.terms table.values; members = instances_in s.terms members }

    abbrev others : List verdicts.Instance
    others = instances_in s.terms (drop count found)

    parts : instances_in s.terms found ≡ instances_in s.terms members ++ others
    parts = ap (instances_in s.terms) (sym (take-append-drop count found)) ∙ (map-append (instance_in s.terms) (take count found) (drop count found) ∙ ap (λ xs. instances_in s.terms xs ++ others) (sym cut))

    many : length (instances_in s.terms members) ≡ count
    many =
        let one = length-map members (instance_in s.terms) in
        let two = ap length cut in
        let three = length-take count found in
        omega (arith, one, two, three, enough)

    is_round : IsRound q ms added
    is_round = record {
      falsifies = falsifies;
      others = others;
      called = calls.called ∙ ap Ok parts;
      some = let m = many in omega (arith, m, some);
    }

    rounds_are : rounds_in s.terms rounds ≡ rounds_in s.terms s.rounds ++ added ∷ []
    rounds_are = ap (rounds_in s.terms) pushed ∙ map_push (round_in s.terms) s.rounds _

    members_are : members_of (rounds_in s.terms rounds) ≡ ms ++ instances_in s.terms members
    members_are = ap members_of rounds_are ∙ members-more (rounds_in s.terms s.rounds) added

    instances-front : (xs ys : List Instance) → InstancesIn s.terms (xs ++ ys) → InstancesIn s.terms xs
    instances-front [] ys h = tt
    instances-front (x ∷ xs) ys h = (h.0, instances-front xs ys h.1)

    members_there : InstancesIn s.terms members
    members_there = subst (InstancesIn s.terms) (sym cut) (instances-front (take count found) (drop count found) (subst (InstancesIn s.terms) (sym (take-append-drop count found)) calls.there))

    there-more : (rs : List Round) → RoundsIn s.terms rs → RoundsIn s.terms (rs ++ record { table = table; members = members } ∷ [])
    there-more [] h = (there, members_there, tt)
    there-more (r ∷ rs) h = (h.0, h.1, there-more rs h.2)

    pub too-many : IsDecidedByRounds rules a c limits (record { terms = s.terms; condition = s.condition; verdict = verdict.GaveUp rounds limit.Instances })
    too-many = record {
      claim = is.claim;
      shapes = is.shapes;
      decls = is.decls;
      terms_in = (subst (RoundsIn s.terms) (sym pushed) (there-more s.rounds is.rounds.there), tt);
      right = record {
        say = subst (AllSay q) (sym members_are) (say-both q ms (instances_in s.terms members) others is.rounds.say (subst (AllSay q) parts calls.say));
        grown = subst (λ (rs : List verdicts.Round). AreRounds q [] rs) (sym rounds_are) (grown-more q [] (rounds_in s.terms s.rounds) added is.rounds.grown is_round);
        reached =
            let all = ap length members_are in
            let both = length-append ms (instances_in s.terms members) in
            let m = many in
            omega (arith, all, both, m, sum);
      };
    }

-- ---- a round more

pub room-is : (s : Settled) (rounds : List Round) (left most : ℕ) → rounds ≡ s.rounds → left + length (all_members rounds) ≡ most → length (settled_members s) + left ≡ most
room-is s rounds left most e h =
    let all = ap length (members-are s.terms s.rounds) in
    let same = length-map (all_members s.rounds) (instance_in s.terms) in
    let its = ap (λ rs. length (all_members rs)) e in
    omega (arith, all, same, its, h)

module _ (rules : List Rule) (a : Arena) (c : Condition) (s : Settled) (is : IsSettled rules a c s) (table : Table) (falsifies : FalsifiesWith (settled_question rules s) (settled_members s) (pairs_in s.terms table.values)) (found : List Instance) (calls : Calls rules s table found) (some : 0 < length found) where
  back-question : over (tree a) (settled_question rules s) ≡ question_under rules a c
  back-question =
      let ss = is.shapes in
      let ds = is.decls in
      let e = is.claim.claim in
      λ i. record { shapes = ss i; decls = ds i; at = tree a; sequent = e i; rules = rules }

  pub round-of : (k : Arena) (rounds : List Round) → rounds_in s.terms s.rounds ≡ rounds_in k rounds → (members : List Instance) → members ≡ found
      → IsRound (question_under rules a c) (members_in k rounds) (record { table = pairs_in s.terms table.values; members = instances_in s.terms members })
  round-of k rounds same members e =
      subst (λ (q : Question). IsRound q (members_in k rounds) (record { table = pairs_in s.terms table.values; members = instances_in s.terms members })) back-question
      (subst (λ (ms : List verdicts.Instance). IsRound (over (tree a) (settled_question rules s)) ms (record { table = pairs_in s.terms table.values; members = instances_in s.terms members })) (ap members_of same)
      (record {
        falsifies = falsifies;
        others = [];
        called = calls.called ∙ ap Ok (ap (instances_in s.terms) (sym e) ∙ sym (append-nil (instances_in s.terms members)));
        some =
            let many = length-map members (instance_in s.terms) in
            let its = ap length e in
            omega (arith, many, its, some);
      }))

pub nothing-called : (rules : List Rule) (s : Settled) (table : Table) (found : List Instance) → length found ≡ 0 → Calls rules s table found → called (settled_question rules s) (settled_members s) (pairs_in s.terms table.values) ≡ Ok []
nothing-called rules s table [] none calls = calls.called
nothing-called rules s table (i ∷ found) none calls = absurd (omega (arith, none))
