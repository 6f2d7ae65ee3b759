use Rattle.std.proofs.Common.{rules, ◌≡◌, ◌<◌, List, length, take, arith, sym, subst}
use Rattle.std.proofs.lemmas.List.{take_all}
use Rattle.rows_model.specs.Rows.{Tables}
use Rattle.shard_dump.specs.declared.rows.DumpRow.{DumpRow}
use Rattle.shard_dump.specs.Loads.{AreAnswers, HasAsked}
use Rattle.shard_dump.proofs.LoadLemmas.{asked_more}
use Rattle.shard_dump.proofs.asked.are_answers.Goals as goal

pub loop-row-preserved : goal.loop-row-preserved
loop-row-preserved g c =
    let same : c.row-item.result.value ≡ c.in_ok-answer.answer.value = search rules in
    let inside : c.loop-row.row-index < length c.args.rows.now = omega arith in
    let asked : HasAsked c.args.store.now c.ask.new.self = search rules in
    record {
      answers = asked_more c.row-item.result.key c.row-item.result.value c.in_ok-answer.answer.value c.args.store.now c.loop-row.store c.ask.new.self
          c.args.rows.now c.loop-row.row-index c.row-item.result c.requires.log c.loop-row.invariant.asked c.loop-row.invariant.answers inside
          (sym c.row-item.is) same c.in_ok-answer.ensures.tells;
      asked = asked;
    }

pub returns-clause-answers : goal.returns-clause-answers
returns-clause-answers g c = λ done.
    let all : take c.loop-row.row-index c.args.rows.now ≡ c.args.rows.now = take_all c.loop-row.row-index c.args.rows.now (omega arith) in
    let known : AreAnswers c.loop-row.store.known_rows c.args.store.now.ledger.opening c.args.rows.now =
    subst (λ (rows : List DumpRow). AreAnswers c.loop-row.store.known_rows c.args.store.now.ledger.opening rows) all c.loop-row.invariant.answers in
    subst (λ (t : Tables). AreAnswers c.loop-row.store.known_rows t c.args.rows.now) (sym c.loop-row.invariant.asked.opening) known
