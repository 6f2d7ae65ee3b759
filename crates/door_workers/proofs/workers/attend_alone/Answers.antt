use Rattle.std.proofs.Common.{◌+◌, ◌∙◌}
use Rattle.door_workers.proofs.EndLemmas.{fresh-sides, reads-same, writes-same, line-ended, served-same, served-next}
use Rattle.door_workers.proofs.StandLemmas.{room-more}
use Rattle.door_workers.proofs.workers.attend_alone.Goals as goal

pub hand_back-requires-clause-room : goal.hand_back-requires-clause-room
hand_back-requires-clause-room g c κs within =
    let before = c.requires.stands in
    let stood = c.loop.invariant.1 before.0 before.1 before.2 in
    let now = c.in-Some-accept.ensures.line before.0 before.1 stood.0 0 stood.1 in
    room-more _ before.1 stood.0 0 _ _ now.most_is now.few now.room now.have_ends

pub loop-preserved : goal.loop-preserved
loop-preserved g c = (
  c.hand_back.ensures.same_door ∙ (c.accept.ensures.same_door ∙ c.loop.invariant.0),
  (λ first most before.
      let stood = c.loop.invariant.1 first most before in
      (stood.0 + 1, c.hand_back.ensures.stands first most stood.0 0 (c.in-Some-accept.ensures.line first most stood.0 0 stood.1))),
  (λ fresh. c.hand_back.ensures.stays_fresh (c.accept.ensures.stays_fresh (c.loop.invariant.2 fresh))),
  (λ fresh before are.
      let accepted = c.in-Some-accept.line in
      let served = c.serve_line-end.new.line in
      let finished = c.finish.new.self in
      let unused = c.in-Some-accept.ensures.unused (c.loop.invariant.2 fresh) in
      let laws = g.met.D.Line.Line g.world.𝓛 g.world.𝓜 g.world.𝓡 ((λ s x. x), (λ x. x), (λ x. x), λ x. x) in
      let sides = fresh-sides _ _ _ _ _ _ _ (laws.reading accepted) (laws.writing accepted) unused in
      let reads = reads-same _ _ _ _ _ _ _ _ (laws.reading served) (laws.reading finished) c.finish.ensures.keeps_left c.finish.ensures.keeps_given
      c.finish.ensures.no_read_fault in
      let writes = writes-same _ _ _ _ _ _ (laws.writing served) (laws.writing finished) c.finish.ensures.keeps_taken c.finish.ensures.no_write_fault in
      let ended = line-ended _ _ _ _ _ _ _ _ _ _ _ _ c.serve_line-end.result c.serve_line-end.ensures.served sides reads writes in
      served-next _ c.args.at.now.so_far.most _ _ before _ _ _ _ (c.accept.ensures.most ∙ c.loop.invariant.4) c.hand_back.ensures.noted
      (served-same _ _ _ before _ _ c.accept.ensures.keeps_ends c.accept.ensures.keeps_closed (c.loop.invariant.3 fresh before are))
      c.hand_back.ensures.handed_back ended),
  c.hand_back.ensures.most ∙ (c.accept.ensures.most ∙ c.loop.invariant.4),
)

pub returns-in_default-clause-stands : goal.returns-in_default-clause-stands
returns-in_default-clause-stands g c = λ first most before.
    let stood = c.loop.invariant.1 first most before in
    (stood.0, c.in_default.ensures.none first most stood.0 0 stood.1)

pub returns-in_default-clause-handed_back : goal.returns-in_default-clause-handed_back
returns-in_default-clause-handed_back g c = λ fresh before are.
    served-same _ _ _ before _ _ c.accept.ensures.keeps_ends c.accept.ensures.keeps_closed (c.loop.invariant.3 fresh before are)
