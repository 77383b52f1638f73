use Rattle.std.proofs.Common.{◌+◌, ◌-◌, ℕ, List, ◌++◌, length, take, drop, Option, Some, None, ap, sym, ◌∙◌, append_assoc, arith}
use Rattle.std.proofs.Math.Seq.{take-add}
use Rattle.std.proofs.lemmas.List.{take_all, length-drop}
use Rattle.std.specs.Io.KnownBytes.{Appends}
use Rattle.spv_io.proofs.std_sink.write_whole.Goals as goal

-- the first bytes, and then some of the rest
appends_more : (old mid new : Option (List ℕ)) (bytes : List ℕ) (done count : ℕ) → Appends old mid (take done bytes) → Appends mid new (take count (drop done bytes)) → Appends old new (take (done + count) bytes)
appends_more None mid new bytes done count h k = tt
appends_more (Some xs) None new bytes done count h k = absurd h
appends_more (Some xs) (Some ys) None bytes done count h k = k
appends_more (Some xs) (Some ys) (Some zs) bytes done count h k =
    k ∙ ap (λ l. l ++ take count (drop done bytes)) h ∙ append_assoc xs (take done bytes) (take count (drop done bytes)) ∙ ap (λ l. xs ++ l) (sym (take-add done count bytes))

pub loop-done-preserved : goal.loop-done-preserved
loop-done-preserved g c =
    let bytes = c.args.bytes.now in
    let done = c.loop-done.done in
    let rest = take_all (length bytes - done) (drop done bytes) (omega (arith, length-drop done bytes)) in
    let bound = rw rest at c.in-Ok.ensures.bound in
    record {
      in_range = omega (arith, length-drop done bytes);
      appended = appends_more _ (g.W.Write.contents c.loop-done.writer) _ _ _ _ c.loop-done.invariant.appended (rw rest at c.in-Ok.ensures.bytes);
    }
