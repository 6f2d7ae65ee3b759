use Rattle.std.proofs.Common.{◌≡◌, ◌+◌, ◌==◌, ◌&&◌, cond, length, sym, ap, subst, ◌∙◌, Bool, true, false}
use Rattle.std.proofs.lemmas.List.{length_push}
use Rattle.std.proofs.lemmas.Result.{on_ok_weaker}
use Rattle.rows_model.specs.Changes.{footprint, has_key}
use Rattle.sql_keeper.specs.Log.{rows_after}
use Rattle.run_audit.specs.Answers.{noted, pushed, renewed}
use Rattle.run_audit.specs.Numbers.{number_of}
use Rattle.run_audit.specs.Notes.{IsLed}
use Rattle.run_audit.proofs.FootLemmas.{foot-in_order}
use Rattle.run_audit.proofs.NoteLemmas.{answers-more, answers-stay, numbers-more}
use Rattle.run_audit.proofs.notes.Notes.add.Goals as goal

pub note_keys-requires : goal.note_keys-requires
note_keys-requires c =
    let is : footprint c.args.commit.now.txn ≡ c.as_slice-2.result.now = sym (c.as_slice-2.ensures.value ∙ c.in_ok-keys.ensures) in
    rw is at (foot-in_order c.args.commit.now.txn)

pub returns-then-not-is_made-clause-notes : goal.returns-then-not-is_made-clause-notes
returns-then-not-is_made-clause-notes c = λ opening log are led.
    let txn = c.args.commit.now.txn in
    let keys : c.as_slice.result.now ≡ footprint txn = c.as_slice.ensures.value ∙ c.in_ok-keys.ensures in
    let number : c.args.self.now.count + 1 ≡ length log + 1 = ap (λ n. n + 1) are.count in
    let led' : IsLed false c.args.commit.now (rows_after opening log) c.args.rows.now =
    subst (λ (b : Bool). IsLed b c.args.commit.now (rows_after opening log) c.args.rows.now) c.if-not-is_made.true led in
    record {
      answers = answers-stay opening log c.args.commit.now c.args.rows.now c.args.self.now.answers led' are.answers;
      numbers = numbers-more log c.args.commit.now c.args.self.now.numbers c.note_number.new.numbers are.numbers
          (λ hold. c.in_ok-note_number.ensures hold
          ∙ (λ i. cond ((c.args.commit.now.sid.number == hold.sid.number) && has_key hold.key (keys i)) (number i) (number_of hold c.args.self.now.numbers)));
      count = number ∙ sym (length_push log c.args.commit.now);
    }

pub returns-clause-notes : goal.returns-clause-notes
returns-clause-notes c = λ opening log are led.
    let txn = c.args.commit.now.txn in
    let keys : c.as_slice.result.now ≡ footprint txn = c.as_slice.ensures.value ∙ c.in_ok-keys.ensures in
    let keys' : c.as_slice-2.result.now ≡ footprint txn = c.as_slice-2.ensures.value ∙ c.in_ok-keys.ensures in
    let number : c.args.self.now.count + 1 ≡ length log + 1 = ap (λ n. n + 1) are.count in
    let led' : IsLed true c.args.commit.now (rows_after opening log) c.args.rows.now =
    subst (λ (b : Bool). IsLed b c.args.commit.now (rows_after opening log) c.args.rows.now) c.if-not-is_made.false led in
    on_ok_weaker c.note_keys.result
    (λ notes. record {
      answers = answers-more opening log c.args.commit.now c.args.rows.now c.args.self.now.answers c.note_keys.new.answers led' are.answers
          (λ key. notes key
          ∙ (λ i. cond (has_key key (keys' i)) (pushed (number i) (renewed key txn c.args.rows.now) (noted key c.args.self.now.answers))
          (noted key c.args.self.now.answers)));
      numbers = numbers-more log c.args.commit.now c.args.self.now.numbers c.note_number.new.numbers are.numbers
          (λ hold. c.in_ok-note_number.ensures hold
          ∙ (λ i. cond ((c.args.commit.now.sid.number == hold.sid.number) && has_key hold.key (keys i)) (number i) (number_of hold c.args.self.now.numbers)));
      count = number ∙ sym (length_push log c.args.commit.now);
    })
    c.note_keys.ensures
