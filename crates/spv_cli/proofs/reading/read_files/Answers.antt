use Rattle.std.proofs.Common.{◌≡◌, ◌∙◌, ◌+◌, ℕ, List, [], Option, Some, Err, Bor, map, ap, subst, inl}
use Rattle.std.specs.Prelude.{slice_get}
use Rattle.std.specs.List.{slice_index_or}
use Rattle.std.proofs.lemmas.Option.{slice_get-get_or}
use Rattle.spv_io.proofs.Pieces.{on_err}
use Rattle.spv_cli.specs.Gathering.{AreFirstOf}
use Rattle.spv_cli.proofs.InOrder.{asked_in_part, asked_up_to, map_last, more_asked, more_texts, rose_from}
use Rattle.spv_cli.proofs.reading.read_files.Goals as goal

pub loop-file-preserved : goal.loop-file-preserved
loop-file-preserved g c =
    let i = c.loop-file.file-index in
    let files = c.args.files.now in
    let file : Bor (List ℕ) = slice_index_or files i (record { ref_ptr = (0, 0); now = [] }) in
    let at : slice_get files i ≡ Some file = slice_get-get_or files i (record { ref_ptr = (0, 0); now = [] }) c.loop-file-test.true in
    let told = g.T.Texts.told c.args.texts.now in
    let first : AreFirstOf told file.now c.in-Ok.text.items = subst (λ (t : List ℕ → Option (List ℕ)). AreFirstOf t file.now c.in-Ok.text.items) c.loop-file.invariant.told c.in-Ok.ensures.text in
    record {
      told = c.in-Ok.ensures.told ∙ c.loop-file.invariant.told;
      asked = more_asked (g.T.Texts.asked c.args.texts.now) _ (g.T.Texts.asked c.read.new.self) files i file at c.loop-file.invariant.asked c.in-Ok.ensures.asked_ok;
      faults = c.in-Ok.ensures.faults_ok ∙ c.loop-file.invariant.faults;
      texts = more_texts told files i file _ _ c.in-Ok.text.items at (ap (map (λ text. text.items)) c.in_ok-push-in-Ok.ensures.items ∙ map_last (λ text. text.items) c.loop-file.read.items c.in-Ok.text) c.loop-file.invariant.texts first;
    }

pub returns-in_err-push-in-Ok-clause-memory : goal.returns-in_err-push-in-Ok-clause-memory
returns-in_err-push-in-Ok-clause-memory g c =
    let i = c.loop-file.file-index in
    let files = c.args.files.now in
    let file : Bor (List ℕ) = slice_index_or files i (record { ref_ptr = (0, 0); now = [] }) in
    let at : slice_get files i ≡ Some file = slice_get-get_or files i (record { ref_ptr = (0, 0); now = [] }) c.loop-file-test.true in
    on_err c.from_residual.result (record {
      asked = asked_in_part _ _ files (i + 1) (more_asked (g.T.Texts.asked c.args.texts.now) _ (g.T.Texts.asked c.read.new.self) files i file at c.loop-file.invariant.asked c.in-Ok.ensures.asked_ok);
      faults = inl (c.in-Ok.ensures.faults_ok ∙ c.loop-file.invariant.faults);
    })

pub returns-in-Err-Failed-clause-gathered : goal.returns-in-Err-Failed-clause-gathered
returns-in-Err-Failed-clause-gathered g c =
    let i = c.loop-file.file-index in
    let files = c.args.files.now in
    let file : Bor (List ℕ) = slice_index_or files i (record { ref_ptr = (0, 0); now = [] }) in
    let at : slice_get files i ≡ Some file = slice_get-get_or files i (record { ref_ptr = (0, 0); now = [] }) c.loop-file-test.true in
    record {
      asked = asked_up_to (g.T.Texts.asked c.args.texts.now) _ (g.T.Texts.asked c.read.new.self) files i file at c.loop-file.invariant.asked (c.in-Err-Failed.ensures.asked_failed (ap Err c.in-Err-Failed.field-0-is));
      rose = rose_from c.loop-file.invariant.faults (c.in-Err-Failed.ensures.rose (ap Err c.in-Err-Failed.field-0-is));
    }

pub returns-in-Err-Memory-clause-memory : goal.returns-in-Err-Memory-clause-memory
returns-in-Err-Memory-clause-memory g c =
    let i = c.loop-file.file-index in
    record {
      asked = asked_in_part (g.T.Texts.asked c.args.texts.now) (g.T.Texts.asked c.read.new.self) c.args.files.now i (c.in-Err-Memory.ensures.asked_memory (ap Err c.in-Err-Memory.field-0-is) ∙ c.loop-file.invariant.asked);
      faults = inl (c.in-Err-Memory.ensures.faults_memory (ap Err c.in-Err-Memory.field-0-is) ∙ c.loop-file.invariant.faults);
    }
