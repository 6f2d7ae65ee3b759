use Rattle.std.proofs.Common.{List, [], ◌++◌, subst, refl, ◌∙◌}
use Rattle.run_inputs.specs.declared.scripts.Act.{Act}
use Rattle.top_run.specs.Runs.{calls_of}
use Rattle.core_history.specs.Cores.{origin_of}
use Rattle.top_run.specs.Plays.{Stops, IsStopped}
use Rattle.top_run.proofs.PlayLemmas.{on_err}
use Rattle.top_run.proofs.RunLemmas.{can_start, stands_new, stands_played, stopped_at_act, stopped_before_end, stopped_at_end, finished, few_shards}
use Rattle.top_run.proofs.runs.play_script.Goals as goal

pub play_acts-requires : goal.play_acts-requires
play_acts-requires g c =
    rw c.into_acts.ensures (can_start c.args.core.now c.args.script.shape c.args.script.acts
    (g.W.Sink.taken c.args.sink.now) c.args.tally.now c.requires.playable c.requires.new c.requires.nothing)

pub returns-in_err-play_acts-clause-some : goal.returns-in_err-play_acts-clause-some
returns-in_err-play_acts-clause-some g c =
    let taken = g.W.Sink.taken c.args.sink.now in
    let taken' = g.W.Sink.taken c.play_acts.new.sink in
    let origin = origin_of c.args.script.shape c.args.core.now in
    let new = stands_new c.args.core.now c.args.script.shape taken c.args.tally.now c.requires.new c.requires.nothing in
    let stops = subst (λ (acts : List Act). Stops c.play_acts.new.core origin ([] ++ calls_of acts) taken taken' c.play_acts.new.tally) c.into_acts.ensures
    (c.in_err-play_acts.ensures.some origin [] taken new) in
    on_err {P = IsStopped c.play_acts.new.core origin c.args.script.acts taken taken' c.play_acts.new.tally} c.from_residual.result
    (stopped_at_act c.play_acts.new.core origin c.args.script.acts taken taken' c.play_acts.new.tally stops)

pub last_line-requires : goal.last_line-requires
last_line-requires g c =
    let stands = stands_played c.args.core.now c.play_acts.new.core c.args.script.shape c.args.script.acts _ _ _ c.args.tally.now c.play_acts.new.tally
    c.requires.new c.requires.nothing c.into_acts.ensures c.in_ok-play_acts.ensures.all in
    few_shards c.play_acts.new.core _ _ c.args.script.acts _ _ c.play_acts.new.tally stands c.requires.playable

pub returns-in_err-line-clause-some : goal.returns-in_err-line-clause-some
returns-in_err-line-clause-some g c =
    let taken = g.W.Sink.taken c.args.sink.now in
    let taken' = g.W.Sink.taken c.play_acts.new.sink in
    let stands = stands_played c.args.core.now c.play_acts.new.core c.args.script.shape c.args.script.acts _ taken taken' c.args.tally.now c.play_acts.new.tally
    c.requires.new c.requires.nothing c.into_acts.ensures c.in_ok-play_acts.ensures.all in
    let origin = origin_of c.args.script.shape c.args.core.now in
    on_err {P = IsStopped c.play_acts.new.core origin c.args.script.acts taken taken' c.play_acts.new.tally} c.from_residual-in_err-line.result
    (stopped_before_end c.play_acts.new.core origin c.args.script.acts taken taken' c.play_acts.new.tally stands)

pub returns-in_err-print-clause-some : goal.returns-in_err-print-clause-some
returns-in_err-print-clause-some g c =
    let taken = g.W.Sink.taken c.args.sink.now in
    let taken' = g.W.Sink.taken c.play_acts.new.sink in
    let taken'' = g.W.Sink.taken c.print.new.sink in
    let origin = origin_of c.args.script.shape c.args.core.now in
    let stands = stands_played c.args.core.now c.play_acts.new.core c.args.script.shape c.args.script.acts _ taken taken' c.args.tally.now c.play_acts.new.tally
    c.requires.new c.requires.nothing c.into_acts.ensures c.in_ok-play_acts.ensures.all in
    let cut = c.in_err-print.ensures.some taken _ stands.prints in
    on_err {P = IsStopped c.play_acts.new.core origin c.args.script.acts taken taken''
    (record { written = c.print.new.written; faulted = c.play_acts.new.tally.faulted })} c.from_residual-in_err-print.result
    (stopped_at_end c.play_acts.new.core origin c.args.script.acts taken taken' taken'' c.play_acts.new.tally
    (record { written = c.print.new.written; faulted = c.play_acts.new.tally.faulted }) cut.0 cut.1 stands
    (cut.2 ∙ c.as_slice.ensures.value ∙ c.in_ok-line.ensures _ _ stands.at.kept) cut.3)

pub returns-clause-all : goal.returns-clause-all
returns-clause-all g c =
    let taken = g.W.Sink.taken c.args.sink.now in
    let taken' = g.W.Sink.taken c.play_acts.new.sink in
    let stands = stands_played c.args.core.now c.play_acts.new.core c.args.script.shape c.args.script.acts _ taken taken' c.args.tally.now c.play_acts.new.tally
    c.requires.new c.requires.nothing c.into_acts.ensures c.in_ok-play_acts.ensures.all in
    finished c.play_acts.new.core _ c.args.script.acts taken taken' (g.W.Sink.taken c.print.new.sink) c.play_acts.new.tally
    (record { written = c.print.new.written; faulted = c.play_acts.new.tally.faulted }) c.as_slice.result.now stands
    (c.as_slice.ensures.value ∙ c.in_ok-line.ensures _ _ stands.at.kept) (c.in_ok-print.ensures.all taken _ stands.prints) refl
