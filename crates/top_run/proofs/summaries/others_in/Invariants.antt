use Rattle.std.proofs.Common.{◌≡◌, take}
use Rattle.top_run.specs.Works.{bypasses_in, rejected_in}
use Rattle.top_run.proofs.summaries.others_in.Given as goal

-- the sums are those over the transcripts so far
abbrev pub invariant-loop-transcript : goal.invariant-loop-transcript
invariant-loop-transcript l =
    let before = take l.transcript-index l.transcripts in
    (l.others.bypasses ≡ bypasses_in before) × (l.others.rejected ≡ rejected_in before)
