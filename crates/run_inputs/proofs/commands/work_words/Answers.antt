use Rattle.std.proofs.Common.{◌≡◌, arith, rules}
use Rattle.std.specs.Prelude.{codes}
use Rattle.run_inputs.proofs.WorkLemmas.{six, work_and_five, works, numbers, some_by, told_by}
use Rattle.run_inputs.proofs.commands.work_words.Goals as goal

pub returns-clause-found : goal.returns-clause-found
returns-clause-found c =
    let all =
    six c.args.words.now _ _ _ _ _ _ (omega arith) c.word-item.is c.members-item.is c.sessions-item.is c.workers-item.is c.shards-item.is c.seed-item.is in
    let first : c.word-item.result.items ≡ codes "work" = search rules in
    let words = work_and_five (λ word. word.items) c.args.words.now
    _ _ _ _ _ _ _ _ _ _ _ all first c.deref.ensures.value c.deref-2.ensures.value c.deref-3.ensures.value c.deref-4.ensures.value c.deref-5.ensures.value in
    some_by c.spec_of.result _ _ c.spec_of.ensures.found (works _ _ _ _ _ _ words)

pub returns-clause-told : goal.returns-clause-told
returns-clause-told c =
    let all =
    six c.args.words.now _ _ _ _ _ _ (omega arith) c.word-item.is c.members-item.is c.sessions-item.is c.workers-item.is c.shards-item.is c.seed-item.is in
    let first : c.word-item.result.items ≡ codes "work" = search rules in
    let words = work_and_five (λ word. word.items) c.args.words.now
    _ _ _ _ _ _ _ _ _ _ _ all first c.deref.ensures.value c.deref-2.ensures.value c.deref-3.ensures.value c.deref-4.ensures.value c.deref-5.ensures.value in
    λ spec h. told_by c.spec_of.result _ _ _ _ _ c.spec_of.ensures.found c.spec_of.ensures.none spec (numbers _ _ _ _ _ _ words spec h)
