use Rattle.std.proofs.Common.{refl}
use Rattle.callers.proofs.PartLemmas.{beginning}
use Rattle.callers.proofs.RunLemmas.{two-alike}
use Rattle.callers.proofs.runs.run_twice.Goals as goal

pub returns-clause-alike : goal.returns-clause-alike
returns-clause-alike g c =
    two-alike c.texts_tell_scripts.ensures c.runs_are_determined.ensures
    c.replay-first.result.status c.replay-then.result.status _ _ _ _ _ _ _ _ c.replay-first.result.written c.replay-then.result.written
    c.replay-first.ensures.ended c.replay-then.ensures.ended refl refl c.replay-first.ensures.started c.replay-then.ensures.started
    c.requires.told c.requires.one_text c.requires.empty c.requires.empty_too

pub returns-clause-begins : goal.returns-clause-begins
returns-clause-begins g c =
    beginning c.texts_tell_scripts.ensures c.runs_are_determined.ensures c.runs_go_on.ensures
    c.replay-first.result.status c.replay-then.result.status _ _ _ _ _ _ _ _ c.replay-first.result.written c.replay-then.result.written
    c.replay-first.ensures.ended c.replay-then.ensures.ended refl refl c.replay-first.ensures.started c.replay-then.ensures.started
    c.requires.told c.requires.one_text c.requires.empty c.requires.empty_too
