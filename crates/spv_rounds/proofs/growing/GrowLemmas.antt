-- What is known grows by a round.
use Rattle.std.proofs.Common.{◌≡◌, suc, ◌+◌, ◌<◌, ◌≤◌, true, List, [], ◌∷◌, ◌++◌, map, length, Option, Some, None, refl, sym, ap, ◌∙◌, subst, arith}
use Rattle.std.specs.List.{list_all, cons_option, filter_map}
use Rattle.std.proofs.lemmas.List.{append_assoc, append-nil, map-append, map_push, length-append, length-map}
use Rattle.std.proofs.lemmas.List.Elements.{filter_map-append}
use Rattle.spv_whole.specs.Fraction.{Fraction}
use Rattle.spv_logic.specs.declared.conditions.TermId.{TermId}
use Rattle.spv_logic.specs.declared.types.Shape.{Shape}
use Rattle.spv_logic.specs.declared.types.Decl.{Decl}
use Rattle.spv_logic.specs.declared.operators.Head.TheVariants.{False}
use Rattle.spv_logic.specs.Conditions.{Sequent}
use Rattle.spv_logic.specs.Formulas.{negation}
use Rattle.spv_logic.specs.Terms.{Term, term, no_terms}
use Rattle.spv_logic.proofs.list.Tests.{left_true, right_true}
use Rattle.spv_term.specs.declared.nodes.Condition.{Condition}
use Rattle.spv_term.specs.Arena.{Arena, AllBelow, Extends, tree}
use Rattle.spv_term.proofs.TreeLemmas.{AllBelow-append}
use Rattle.spv_term.proofs.ArenaLemmas.{AllBelow-Extends, map_tree-Extends, tree-Extends, length-Extends, KeepsOld-Extends}
use Rattle.spv_atoms.specs.Atoms.{is_truth}
use Rattle.spv_table.specs.Kept.{PairsIn}
use Rattle.spv_table.specs.declared.table.Table.{Table}
use Rattle.spv_proof_rules.specs.Rules.{Rule}
use Rattle.spv_proof_rules.specs.Effects.{Question}
use Rattle.spv_proof_rules.specs.Stand.{question, question_under}
use Rattle.spv_models.specs.leaf_models.Laws.{AreFormulas}
use Rattle.spv_models.specs.leaf_models.Tables.{formulas_of}
use Rattle.spv_verdicts.specs.Verdicts as verdicts
use Rattle.spv_verdicts.specs.declared.answers.verdicts.Instance.{Instance}
use Rattle.spv_verdicts.specs.declared.answers.verdicts.Round.{Round}
use Rattle.spv_verdicts.specs.answers.Views.{InstancesIn, RoundsIn, instance_in, instances_in, pairs_in, round_in, rounds_in}
use Rattle.spv_rounds.specs.Claims.{formula_of, formulas, AllSay, claim}
use Rattle.spv_rounds.specs.Rounds.{IsRound, AreRounds, members_of}
use Rattle.spv_rounds.specs.moving.Moves.{PairsMoved, InstancesMoved, RoundsMoved}
use Rattle.spv_rounds.specs.declared.knowing.known.Known.{Known}
use Rattle.spv_rounds.specs.knowing.Known.{IsClaim, RoundsStand, IsKnown, members_in}
use Rattle.spv_rounds.specs.growing.Growth.{says, AreSaid, RoundFound, Grew}
use Rattle.spv_rounds.proofs.knowing.BeginLemmas.{AllTruths, each-truth, truths-each, both, first}

-- ---- rounds stay as an arena grows

module _ {a b : Arena} (more : Extends a b) where
  pairs-stay : (ps : List (TermId × Fraction)) → PairsIn a ps → PairsMoved a b ps ps
  pairs-stay [] h = record { there = tt; same = refl }
  pairs-stay (p ∷ ps) h =
      let rest = pairs-stay ps h.1 in
      let le = length-Extends more in
      let below = h.0 in
      record { there = (omega (arith, le, below), rest.there); same = λ i. (tree-Extends more p.0 h.0 i, p.1) ∷ rest.same i }

  instances-stay : (is : List Instance) → InstancesIn a is → InstancesMoved a b is is
  instances-stay [] h = record { there = tt; same = refl }
  instances-stay (j ∷ is) h =
      let rest = instances-stay is h.1 in
      record { there = (AllBelow-Extends more j.values h.0, rest.there); same = λ i. record { rule = j.rule; values = map_tree-Extends more j.values h.0 i } ∷ rest.same i }

  pub rounds-stay : (rs : List Round) → RoundsIn a rs → RoundsMoved a b rs rs
  rounds-stay [] h = record { there = tt; same = refl }
  rounds-stay (r ∷ rs) h =
      let pairs = pairs-stay r.table.values h.0 in
      let members = instances-stay r.members h.1 in
      let rest = rounds-stay rs h.2 in
      record { there = (pairs.there, members.there, rest.there); same = λ i. record { table = pairs.same i; members = members.same i } ∷ rest.same i }

  pub claim-stays : (s : Arena) (c : Condition) (fs : List Term) (d : Condition) → IsClaim s c fs a d → IsClaim s c fs b d
  claim-stays s c fs d is =
      let le = length-Extends more in
      let below = is.goal_in in
      record {
        given_in = AllBelow-Extends more d.given is.given_in;
        goal_in = omega (arith, le, below);
        claim = (KeepsOld-Extends more).conditions d is.given_in is.goal_in ∙ is.claim;
        origin = is.origin;
        shapes = more.shapes ∙ is.shapes;
        decls = more.decls ∙ is.decls;
      }

-- rounds that stand for the same
pub stand-same : (q : Question) (a b : Arena) (rs ss : List Round) → RoundsStand q a rs → RoundsMoved a b rs ss → RoundsStand q b ss
stand-same q a b rs ss s m = record {
  there = m.there;
  grown = subst (λ (xs : List verdicts.Round). AreRounds q [] xs) (sym m.same) s.grown;
  say = subst (λ (xs : List verdicts.Round). AllSay q (members_of xs)) (sym m.same) s.say;
}

pub known-stays : (rules : List Rule) (a : Arena) (c : Condition) (limits : verdicts.Limits) (k : Known) (n : Arena) → Extends k.terms n → IsKnown rules a c limits k → IsKnown rules a c limits (record { terms = n; claim = k.claim; rounds = k.rounds })
known-stays rules a c limits k n more is =
    let q = question_under rules a c in
    let m = rounds-stay more k.rounds.items is.rounds.there in
    let same : members_in n k.rounds.items ≡ members_in k.terms k.rounds.items = ap members_of m.same in
    record {
      is_claim = subst (λ ms. IsClaim a c (formulas q ms) n k.claim) (sym same) (claim-stays more a c (formulas q (members_in k.terms k.rounds.items)) k.claim is.is_claim);
      rounds = stand-same q k.terms n k.rounds.items k.rounds.items is.rounds m;
      few = subst (λ (ms : List verdicts.Instance). length ms ≤ limits.instances) (sym same) is.few;
      are_formulas = subst (λ ms. AreFormulas a.shapes a.decls (formulas_of (claim (question a c) (formulas q ms)).sequent)) (sym same) is.are_formulas;
    }

-- ---- one round more

pub members-more : (rs : List verdicts.Round) (r : verdicts.Round) → members_of (rs ++ r ∷ []) ≡ members_of rs ++ r.members
members-more [] r = append-nil r.members
members-more (s ∷ rs) r = ap (λ is. s.members ++ is) (members-more rs r) ∙ sym (append_assoc s.members (members_of rs) r.members)

pub grown-more : (q : Question) (known : List verdicts.Instance) (rs : List verdicts.Round) (r : verdicts.Round) → AreRounds q known rs → IsRound q (known ++ members_of rs) r → AreRounds q known (rs ++ r ∷ [])
grown-more q known [] r h is = (subst (λ (ms : List verdicts.Instance). IsRound q ms r) (append-nil known) is, tt)
grown-more q known (s ∷ rs) r h is = (h.0, grown-more q (known ++ s.members) rs r h.1 (subst (λ (ms : List verdicts.Instance). IsRound q ms r) (sym (append_assoc known s.members (members_of rs))) is))

said-all : (f : verdicts.Instance → Option Term) (is : List verdicts.Instance) (fs : List Term) → map f is ≡ map Some fs → filter_map f is ≡ fs
said-all f [] [] e = refl
said-all f [] (t ∷ fs) e = absurd (cc)
said-all f (i ∷ is) [] e = absurd (cc)
said-all f (i ∷ is) (t ∷ fs) e =
    let one : f i ≡ Some t = cc in
    let rest : map f is ≡ map Some fs = cc in
    ap (λ o. cons_option o (filter_map f is)) one ∙ ap (λ ts. t ∷ ts) (said-all f is fs rest)

module _ (q : Question) (ms more : List verdicts.Instance) (fs : List Term) (said : map (formula_of q) more ≡ map Some fs) where
  formulas-more : formulas q (ms ++ more) ≡ formulas q ms ++ fs
  formulas-more = filter_map-append (formula_of q) ms more ∙ ap (λ ts. formulas q ms ++ ts) (said-all (formula_of q) more fs said)

  say-more : AllSay q ms → AllSay q (ms ++ more)
  say-more h =
      map-append (formula_of q) ms more
      ∙ ((λ i. h i ++ said i)
      ∙ (sym (map-append Some (formulas q ms) fs) ∙ ap (map Some) (sym formulas-more)))

filter_map-short : {X Y : Type 0} (f : X → Option Y) (xs : List X) → length (filter_map f xs) ≤ length xs
filter_map-short f [] = omega arith
filter_map-short {X} {Y} f (x ∷ xs) = by_case (f x) (filter_map-short f xs)
  where
    by_case : (o : Option Y) → length (filter_map f xs) ≤ length xs → length (cons_option o (filter_map f xs)) ≤ suc (length xs)
    by_case None h = omega (arith, h)
    by_case (Some y) h = omega (arith, h)

tails : {X : Type 0} (x y : X) (xs ys : List X) → x ∷ xs ≡ y ∷ ys → xs ≡ ys
tails x y xs ys e = cc

shorter : {X Y : Type 0} (f : X → Option Y) (xs : List X) → length xs + 1 ≡ length (filter_map f xs) → ⊥
shorter f xs e = let le = filter_map-short f xs in omega (arith, e, le)

say-front : {X Y : Type 0} (f : X → Option Y) (xs ys : List X) → map f (xs ++ ys) ≡ map Some (filter_map f (xs ++ ys)) → map f xs ≡ map Some (filter_map f xs)
say-front f [] ys h = refl
say-front {X} {Y} f (x ∷ xs) ys h = by_case (f x) refl h (λ rest. say-front f xs ys rest)
  where
    sum : f x ∷ map f (xs ++ ys) ≡ map Some (filter_map f (xs ++ ys)) → length (xs ++ ys) + 1 ≡ length (filter_map f (xs ++ ys))
    sum k =
        let one = ap length k in
        let two = length-map (xs ++ ys) f in
        let three = length-map (filter_map f (xs ++ ys)) (λ (y : Y). Some y) in
        omega (arith, one, two, three)

    by_case : (o : Option Y) → f x ≡ o → f x ∷ map f (xs ++ ys) ≡ map Some (cons_option (f x) (filter_map f (xs ++ ys))) → (map f (xs ++ ys) ≡ map Some (filter_map f (xs ++ ys)) → map f xs ≡ map Some (filter_map f xs)) → f x ∷ map f xs ≡ map Some (cons_option (f x) (filter_map f xs))
    by_case None e k later = absurd (shorter f (xs ++ ys) (sum (k ∙ ap (λ o. map Some (cons_option o (filter_map f (xs ++ ys)))) e)))
    by_case (Some y) e k later =
        let rest : map f (xs ++ ys) ≡ map Some (filter_map f (xs ++ ys)) = tails (f x) (Some y) (map f (xs ++ ys)) (map Some (filter_map f (xs ++ ys))) (k ∙ ap (λ o. map Some (cons_option o (filter_map f (xs ++ ys)))) e) in
        (λ j. e j ∷ later rest j) ∙ ap (λ o. map Some (cons_option o (filter_map f xs))) (sym e)

pub say-both : (q : Question) (ms xs ys : List verdicts.Instance) → AllSay q ms → AllSay q (xs ++ ys) → AllSay q (ms ++ xs)
say-both q ms xs ys h k = say-more q ms xs (formulas q xs) (say-front (formula_of q) xs ys k) h

-- ---- truths

all-truths : (shapes : List Shape) (decls : List Decl) (fs : List Term) → list_all (is_truth shapes decls) fs ≡ true → AllTruths shapes decls fs
all-truths shapes decls [] h = tt
all-truths shapes decls (f ∷ fs) h = (left_true (is_truth shapes decls f) (list_all (is_truth shapes decls) fs) h, all-truths shapes decls fs (right_true (is_truth shapes decls f) (list_all (is_truth shapes decls) fs) h))

formulas-grow : (a : Arena) (c : Condition) (fs gs : List Term) → AreFormulas a.shapes a.decls (formulas_of (claim (question a c) fs).sequent) → list_all (is_truth a.shapes a.decls) gs ≡ true
    → AreFormulas a.shapes a.decls (formulas_of (claim (question a c) (fs ++ gs)).sequent)
formulas-grow a c fs gs are more =
    let s = a.shapes in
    let x = a.decls in
    let q = question a c in
    let old = first s x (claim q fs).sequent.given (term False no_terms ∷ []) (truths-each s x (formulas_of (claim q fs).sequent) are) in
    let all = both s x ((claim q fs).sequent.given ++ gs) (term False no_terms ∷ []) (both s x (claim q fs).sequent.given gs old (all-truths s x gs more)) (refl, tt) in
    each-truth s x (formulas_of (claim q (fs ++ gs)).sequent)
    (subst (λ (ts : List Term). AllTruths s x (ts ++ term False no_terms ∷ [])) (append_assoc q.sequent.given (negation q.sequent.goal ∷ fs) gs) all)

-- ---- all of it

module _ (rules : List Rule) (a : Arena) (c : Condition) (limits : verdicts.Limits) (k new : Known) (from : Arena) (table : Table) (members : List Instance) (r : Round) (made : List TermId)
    (is : IsKnown rules a c limits k) (found : RoundFound from k.terms table members r) (more : Extends k.terms new.terms) (said : AreSaid rules k.terms r.members new.terms made)
    (given : new.claim.given ≡ k.claim.given ++ made) (goal : new.claim.goal ≡ k.claim.goal) (origin : new.claim.origin ≡ k.claim.origin) (rounds : new.rounds.items ≡ k.rounds.items ++ r ∷ [])
    (is_round : IsRound (question_under rules a c) (members_in k.terms k.rounds.items) (record { table = pairs_in from table.values; members = instances_in from members }))
    (few : length (members_in k.terms k.rounds.items) + length members ≤ limits.instances) where
  abbrev q : Question
  q = question_under rules a c

  abbrev ms : List verdicts.Instance
  ms = members_in k.terms k.rounds.items

  abbrev js : List verdicts.Instance
  js = instances_in from members

  abbrev fs : List Term
  fs = map (tree new.terms) made

  abbrev added : verdicts.Round
  added = record { table = pairs_in from table.values; members = js }

  -- the round in the arena that grew
  table_stays : PairsMoved k.terms new.terms r.table.values r.table.values
  table_stays = pairs-stay more r.table.values found.pairs.there

  members_stay : InstancesMoved k.terms new.terms r.members r.members
  members_stay = instances-stay more r.members found.all.there

  round_is : round_in new.terms r ≡ added
  round_is = λ i. record { table = (table_stays.same ∙ found.pairs.same) i; members = (members_stay.same ∙ found.all.same) i }

  old_rounds : RoundsMoved k.terms new.terms k.rounds.items k.rounds.items
  old_rounds = rounds-stay more k.rounds.items is.rounds.there

  rounds_are : rounds_in new.terms new.rounds.items ≡ rounds_in k.terms k.rounds.items ++ added ∷ []
  rounds_are = ap (rounds_in new.terms) rounds ∙ (map_push (round_in new.terms) k.rounds.items r ∙ (λ i. old_rounds.same i ++ round_is i ∷ []))

  members_are : members_in new.terms new.rounds.items ≡ ms ++ js
  members_are = ap members_of rounds_are ∙ members-more (rounds_in k.terms k.rounds.items) added

  -- what its members say
  they_say : map (formula_of q) js ≡ map Some fs
  they_say =
      ap (map (formula_of q)) (sym found.all.same)
      ∙ ((λ i. map (says rules (sym is.is_claim.shapes i) (sym is.is_claim.decls i)) (instances_in k.terms r.members)) ∙ said.same)

  all_formulas : formulas q (members_in new.terms new.rounds.items) ≡ formulas q ms ++ fs
  all_formulas = ap (formulas q) members_are ∙ formulas-more q ms js fs they_say

  stays : IsClaim a c (formulas q ms) new.terms k.claim
  stays = claim-stays more a c (formulas q ms) k.claim is.is_claim

  new_claim : IsClaim a c (formulas q ms ++ fs) new.terms new.claim
  new_claim = record {
    given_in = subst (AllBelow (length new.terms.nodes)) (sym given) (AllBelow-append (length new.terms.nodes) k.claim.given made stays.given_in said.there);
    goal_in = subst (λ (t : TermId). t.0 < length new.terms.nodes) (sym goal) stays.goal_in;
    claim =
        let its : map (tree new.terms) new.claim.given ≡ (claim (question a c) (formulas q ms ++ fs)).sequent.given =
        ap (map (tree new.terms)) given
        ∙ (map-append (tree new.terms) k.claim.given made
        ∙ (ap (λ (s : Sequent). s.given ++ fs) stays.claim ∙ append_assoc (question a c).sequent.given (negation (question a c).sequent.goal ∷ formulas q ms) fs)) in
        let last : tree new.terms new.claim.goal ≡ term False no_terms = ap (tree new.terms) goal ∙ ap (λ (s : Sequent). s.goal) stays.claim in
        λ i. record { given = its i; goal = last i };
    origin = origin ∙ stays.origin;
    shapes = stays.shapes;
    decls = stays.decls;
  }

  as_many : length (members_in new.terms new.rounds.items) ≡ length ms + length members
  as_many =
      let all = ap length members_are ∙ length-append ms js in
      let its = length-map members (instance_in from) in
      omega (arith, all, its)

  all_there : RoundsIn new.terms new.rounds.items
  all_there = subst (RoundsIn new.terms) (sym rounds) (there-more k.rounds.items old_rounds.there)
    where
      there-more : (rs : List Round) → RoundsIn new.terms rs → RoundsIn new.terms (rs ++ r ∷ [])
      there-more [] h = (table_stays.there, members_stay.there, tt)
      there-more (s ∷ rs) h = (h.0, h.1, there-more rs h.2)

  pub known-grows : Grew rules a c limits k members new
  known-grows = record {
    known = record {
      is_claim = subst (λ (ts : List Term). IsClaim a c ts new.terms new.claim) (sym all_formulas) new_claim;
      rounds = record {
        there = all_there;
        grown = subst (λ (xs : List verdicts.Round). AreRounds q [] xs) (sym rounds_are) (grown-more q [] (rounds_in k.terms k.rounds.items) added is.rounds.grown is_round);
        say = subst (AllSay q) (sym members_are) (say-more q ms js fs they_say is.rounds.say);
      };
      few = let many = as_many in omega (arith, many, few);
      are_formulas = subst (λ (ts : List Term). AreFormulas a.shapes a.decls (formulas_of (claim (question a c) ts).sequent)) (sym all_formulas)
          (formulas-grow a c (formulas q ms) fs is.are_formulas ((λ i. list_all (is_truth (sym is.is_claim.shapes i) (sym is.is_claim.decls i)) fs) ∙ said.truths));
    };
    more = as_many;
  }
