use Rattle.iq_outside.proofs.CopyingStates.{HasWritten-more}
use Rattle.iq_outside.proofs.copying.write_all.Goals as goal

pub loop-written-preserved : goal.loop-written-preserved
loop-written-preserved g c =
    HasWritten-more _ _ _ _ _ _ _ _ _ _ _ _ c.loop-written.invariant c.in-Ok.ensures.takes
    c.in-Ok.ensures.within c.in-Ok.ensures.no_fault c.in-Ok.ensures.keeps_reading
