use Rattle.door_workers.proofs.EndLemmas.{fresh-sides, reads-same, writes-same, line-ended}
use Rattle.door_workers.proofs.workers.work.Goals as goal

pub hand_back-requires-clause-ended : goal.hand_back-requires-clause-ended
hand_back-requires-clause-ended g c κs outlives = λ fresh.
    let accepted = c.in-Some-accepted.line in
    let served = c.serve_line-end.new.line in
    let finished = c.finish.new.self in
    let laws = g.met.D.Line.Line g.world.𝓛 g.world.𝓜 g.world.𝓡 ((λ s x. x), (λ x. x), (λ x. x), λ x. x) in
    let sides = fresh-sides _ _ _ _ _ _ _ (laws.reading accepted) (laws.writing accepted) (c.in-Some-accepted.ensures.unused fresh) in
    let reads = reads-same _ _ _ _ _ _ _ _ (laws.reading served) (laws.reading finished) c.finish.ensures.keeps_left c.finish.ensures.keeps_given
    c.finish.ensures.no_read_fault in
    let writes = writes-same _ _ _ _ _ _ (laws.writing served) (laws.writing finished) c.finish.ensures.keeps_taken c.finish.ensures.no_write_fault in
    line-ended _ _ _ _ _ _ _ _ _ _ _ _ c.serve_line-end.result c.serve_line-end.ensures.served sides reads writes
