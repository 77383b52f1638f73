use Rattle.std.proofs.Common.{◌<◌, length, arith, refl, sym, Bor, List, ℕ, []}
use Rattle.spv_tree.specs.declared.tokens.token.Word.{Word}
use Rattle.spv_tree.specs.declared.tokens.token.Word.TheVariants.{And}
use Rattle.spv_lexer.proofs.LookUps.{lookup-here}
use Rattle.spv_lexer.proofs.words.find.Goals as goal

-- what stands past the end of the table in the goals
past_end : Bor (List ℕ) × Word
past_end = (record { ref_ptr = (0, 0); now = [] }, And)

pub returns-then-eq : goal.returns-then-eq
unfolding past_end
returns-then-eq c =
    let within : c.loop-spelling.spelling-index < length c.args.entries.now = omega arith in
    rw (c.loop-spelling.invariant, lookup-here c.args.text.now c.args.entries.now c.loop-spelling.spelling-index past_end within, sym c.if-eq.ensures) refl

pub loop-spelling-preserved : goal.loop-spelling-preserved
unfolding past_end
loop-spelling-preserved c =
    let within : c.loop-spelling.spelling-index < length c.args.entries.now = omega arith in
    rw (c.loop-spelling.invariant, lookup-here c.args.text.now c.args.entries.now c.loop-spelling.spelling-index past_end within, sym c.if-eq.ensures) refl
