-- What a listing is read as, over plain variables.
use Rattle.std.proofs.Common.{◌≡◌, ℕ, ◌<◌, ◌≤◌, Bool, true, false, ◌&&◌, nat_lt, Some, List, [], ◌∷◌, ◌++◌, map, length, fold, refl, sym, ap, subst, ◌∙◌, append_assoc, arith}
use Rattle.std.specs.List.{list_all, flat_map, filter}
use Rattle.std.proofs.lemmas.Bool.{lt-ltb, le-ltb}
use Rattle.std.proofs.lemmas.List.{map-append}
use Rattle.spv_logic.specs.declared.operators.Head.{Head}
use Rattle.spv_logic.specs.Terms.{Term, term}
use Rattle.spv_logic.specs.Conditions.{Sequent}
use Rattle.spv_logic.proofs.list.Tests.{and_false}
use Rattle.spv_term.specs.declared.nodes.Node.{Node}
use Rattle.spv_term.specs.Arena.{Arena, IsArena, with_tree, trees_of, trees_in}
use Rattle.spv_term.proofs.TreeLemmas.{length-trees_of}
use Rattle.spv_atoms.specs.Atoms.{with_terms}
use Rattle.spv_proof_rules.specs.Stops.{layers}
use Rattle.spv_search_terms.specs.condition_copy.Copies.{all_terms}
use Rattle.spv_search_terms.specs.subterms.Gaining.{Gains, Stops}
use Rattle.spv_search_terms.proofs.subterms.GainLemmas.{longer}
use Rattle.spv_listing_values.specs.declared.data.Header.{Header}
use Rattle.spv_listing_values.specs.declared.data.ProofNode.{ProofNode}
use Rattle.spv_listing_values.specs.declared.data.Verdict as said
use Rattle.spv_listing_values.specs.declared.data.Verdict.TheVariants as verdict
use Rattle.spv_listing_values.specs.declared.data.Claim.{Claim}
use Rattle.spv_listing_values.specs.declared.texts.Text.{Text}
use Rattle.spv_listing_values.specs.Written.{Written}
use Rattle.spv_listing_values.specs.Mapped.{node_at, verdict_at, claim_terms}
use Rattle.spv_listing_values.specs.Places.{Flat, trees, tree, flats_of}
use Rattle.spv_listing_values.specs.Entries.{written_claim}
use Rattle.spv_listing_values.proofs.Numerals.{both_true}
use Rattle.spv_rechecking.specs.declared.written_terms.leaves.Leaves.{Leaves}
use Rattle.spv_rechecking.specs.written_terms.Standing.{Vocabulary, is_leaf, top, stands}
use Rattle.spv_rechecking.specs.written_terms.Read.{head_read}
use Rattle.spv_rechecking.specs.Rechecked.{Recheck, leaves, vocabulary, term_of, proof_of, has_node, header_eq, is_about, is_readable, is_same, is_node, known, nodes_of, Other, TooMany, Reads, reading_by, reading}
use Rattle.spv_rechecking.specs.Made.{vocabulary_in}
use Rattle.spv_rechecking.proofs.Standing.{all_named_stand, heads_stand, none_named}
use Rattle.spv_rechecking.proofs.Order.{table_order}

-- ---- the words of an arena that has the terms of a condition alone

tops_on : (done : List Term) (ns : List Node) → map top (fold with_tree done ns) ≡ map top done ++ map (λ n. n.head) ns
tops_on done [] = sym (empty (map top done))
  where
    empty : (hs : List Head) → hs ++ [] ≡ hs
    empty [] = refl
    empty (h ∷ hs) = ap (λ l. h ∷ l) (empty hs)
tops_on done (n ∷ ns) =
    tops_on (with_tree done n) ns
    ∙ (ap (λ hs. hs ++ map (λ (m : Node). m.head) ns) (map-append top done (term n.head (trees_in done n.args) ∷ []))
    ∙ append_assoc (map top done) (n.head ∷ []) (map (λ (m : Node). m.head) ns))

pub leaves_are : (a : Arena) (c : Sequent) → trees_of a.nodes ≡ all_terms c → filter is_leaf (map (λ n. n.head) a.nodes) ≡ leaves c
leaves_are a c e = ap (filter is_leaf) (sym (tops_on [] a.nodes) ∙ ap (map top) e)

pub same_vocabulary : (r : Recheck) (l : Leaves) (a : Arena) (c : Sequent) → trees_of a.nodes ≡ all_terms c → l.heads.items ≡ filter is_leaf (map (λ n. n.head) a.nodes)
    → vocabulary_in r.names r.titles l a ≡ vocabulary r a.shapes a.decls c
same_vocabulary r l a c e found =
    let same : l.heads.items ≡ leaves c = found ∙ leaves_are a c e in
    λ i. record { words = record { names = r.names; titles = r.titles; leaves = same i }; shapes = a.shapes; decls = a.decls }

-- ---- a listing over its places

proof_mapped : {T U : Type 0} (f : T → U) (v : said.Verdict T) → proof_of (verdict_at f v) ≡ map (node_at f) (proof_of v)
proof_mapped f (verdict.Proved nodes) = refl
proof_mapped f (verdict.Unproved branch instances table) = refl
proof_mapped f (verdict.GaveUp l) = refl

node_mapped : {T U : Type 0} (f : T → U) (nodes : List (ProofNode T)) → has_node (map (node_at f) nodes) ≡ has_node nodes
node_mapped f [] = refl
node_mapped f (n ∷ nodes) = refl

pub about_same : (header : Header) (fs : List Flat) (claim : Claim Text) → is_about header (written_claim fs claim) ≡ is_about header claim
about_same header fs claim = ap (λ b. header_eq claim.header header && b) (ap has_node (proof_mapped (tree fs) claim.verdict) ∙ node_mapped (tree fs) (proof_of claim.verdict))

pub said_nodes : (v : Vocabulary) (fs : List Flat) (claim : Claim Text) → nodes_of v (written_claim fs claim) ≡ map (node_at (term_of v)) (map (node_at (tree fs)) (proof_of claim.verdict))
said_nodes v fs claim = ap (map (node_at (term_of v))) (proof_mapped (tree fs) claim.verdict)

-- ---- what it is read as

module _ (v : Vocabulary) (most : ℕ) (header : Header) (c : Sequent) (e : Claim Written) where
  abbrev many : Bool
  many = nat_lt most (length (known v c e))

  abbrev fits : Bool
  fits = is_same v c e && list_all (is_node v.words.names) (nodes_of v e)

  pub not_readable : is_readable v header e ≡ false → reading v most header c (Some e) ≡ Other
  not_readable h = ap (λ b. reading_by b many fits (known v c e) (nodes_of v e)) h

  pub not_about : is_about header e ≡ false → reading v most header c (Some e) ≡ Other
  not_about h = not_readable (ap (λ b. b && list_all (stands v) (claim_terms e)) h)

  pub not_standing : list_all (stands v) (claim_terms e) ≡ false → reading v most header c (Some e) ≡ Other
  not_standing h = not_readable (and_false (is_about header e) (list_all (stands v) (claim_terms e)) h)

  module _ (about : is_about header e ≡ true) (all : list_all (stands v) (claim_terms e) ≡ true) where
    readable : is_readable v header e ≡ true
    readable = both_true (is_about header e) (list_all (stands v) (claim_terms e)) about all

    pub too_many : most < length (known v c e) → reading v most header c (Some e) ≡ TooMany
    too_many h = λ i. reading_by (readable i) (lt-ltb most (length (known v c e)) h i) fits (known v c e) (nodes_of v e)

    module _ (room : length (known v c e) ≤ most) where
      few : many ≡ false
      few = le-ltb most (length (known v c e)) room

      pub not_fitting : fits ≡ false → reading v most header c (Some e) ≡ Other
      not_fitting h = λ i. reading_by (readable i) (few i) (h i) (known v c e) (nodes_of v e)

      pub is_read : fits ≡ true → reading v most header c (Some e) ≡ Reads (known v c e) (nodes_of v e)
      is_read h = λ i. reading_by (readable i) (few i) (h i) (known v c e) (nodes_of v e)

-- ---- the terms that there are

module _ (v : Vocabulary) (a : Arena) (c : Sequent) (terms_are : trees_of a.nodes ≡ all_terms c) (fs : List Flat) (e : Claim Written) (table : fs ≡ flats_of (claim_terms e)) where
  -- the same that the definition keeps
  module _ (all : list_all (stands v) (claim_terms e) ≡ true) where
    pub known_are : with_terms (trees_of a.nodes) (map (term_of v) (trees fs)) ≡ known v c e
    known_are = table_order v (trees_of a.nodes) fs (claim_terms e) table all ∙ ap (λ xs. with_terms xs (flat_map layers (map (term_of v) (claim_terms e)))) terms_are

    pub stops_many : Stops a (map (term_of v) (trees fs)) → a.most < length (known v c e)
    stops_many s = subst (λ xs. a.most < length xs) known_are s.more

    pub more_than_all : (most : ℕ) → most < length (all_terms c) → most < length (known v c e)
    more_than_all most h = let more = longer (all_terms c) (flat_map layers (map (term_of v) (claim_terms e))) in omega (arith, h, more)

    pub gained_known : (b : Arena) → Gains a b (map (term_of v) (trees fs)) → trees_of b.nodes ≡ known v c e
    gained_known b g = g.terms ∙ known_are

    pub gained_few : (b : Arena) → IsArena b → Gains a b (map (term_of v) (trees fs)) → length (known v c e) ≤ a.most
    gained_few b ok g =
        let size : length (known v c e) ≡ length b.nodes = ap length (sym (gained_known b g)) ∙ length-trees_of b.nodes in
        let room = ok.room in
        let most : b.most ≡ a.most = g.grows.most in
        omega (arith, size, room, most)

  pub all_stand : (heads : List Head) → map (head_read v) (trees fs) ≡ map Some heads → list_all (stands v) (claim_terms e) ≡ true
  all_stand heads h = all_named_stand v fs (claim_terms e) table (heads_stand v (trees fs) heads h)

  pub one_fails : list_all (stands v) (trees fs) ≡ false → list_all (stands v) (claim_terms e) ≡ false
  one_fails h = none_named v fs (claim_terms e) table h
