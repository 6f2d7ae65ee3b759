use Rattle.std.proofs.Common.{◌≡◌, ◌+◌, take, ◌++◌, ◌∷◌, [], arith, sym, ap, subst, ◌∙◌}
use Rattle.std.proofs.lemmas.List.{take_more}
use Rattle.sql_keeper.specs.declared.stores.Commit.{Commit}
use Rattle.sql_keeper.specs.Log.{rows_after, after_commit}
use Rattle.rows_model.specs.Rows.{Tables}
use Rattle.run_audit.specs.Notes.{IsLed}
use Rattle.run_audit.proofs.StateLemmas.{rows-push}
use Rattle.run_audit.proofs.notes.notes_of.Goals as goal

pub loop-commit-preserved : goal.loop-commit-preserved
loop-commit-preserved c =
    let log = take c.loop-commit.commit-index c.args.log.now in
    let commit = c.commit-item.result in
    let opening = c.args.opening.now in
    let was = c.loop-commit.invariant in
    let more : take (c.loop-commit.commit-index + 1) c.args.log.now ≡ log ++ commit ∷ [] =
    take_more c.args.log.now c.loop-commit.commit-index commit (omega arith) ∙ ap (λ (x : Commit). log ++ x ∷ []) (sym c.commit-item.is) in
    let led : c.make.new.rows ≡ rows_after opening (log ++ commit ∷ []) =
    c.in_ok-is_made.ensures.led ∙ ap (λ (rows : Tables). after_commit rows commit) was.rows_are ∙ sym (rows-push opening log commit) in
    let is_led : IsLed c.in_ok-is_made.is_made commit (rows_after opening log) c.make.new.rows =
    subst (λ (rows : Tables). IsLed c.in_ok-is_made.is_made commit rows c.make.new.rows) was.rows_are c.in_ok-is_made.ensures in
    record {
      rows_are = rw more led;
      notes_are = rw more (c.in_ok-add.ensures.notes opening log was.notes_are is_led);
      same_keys = λ key. c.in_ok-add.ensures.knows key ∙ was.same_keys key;
    }
