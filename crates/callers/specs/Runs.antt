-- What is said of whole runs to who makes them.
use Rattle.std.specs.Prelude.{ℕ, ◌≡◌, ◌<◌, ◌≤◌, Bool, true, All, List, [], ◌∷◌, ◌++◌, length, Option, Some, IfSome, IsSome, slice_get}
use Rattle.rows_model.specs.declared.keys.QKey.{QKey}
use Rattle.rows_model.specs.declared.keys.Sid.{Sid}
use Rattle.std.specs.Option.{ForSome}
use Rattle.rows_model.specs.Rows.{Tables, start_tables}
use Rattle.rows_model.specs.Query.{answer}
use Rattle.rows_model.specs.Changes.{touches}
use Rattle.key_shard.specs.declared.steps.Ended.{Ended}
use Rattle.key_shard.specs.declared.steps.Step.{Step}
use Rattle.key_shard.specs.declared.steps.Step.TheVariants.{Hit, Released}
use Rattle.key_shard.specs.Answers.{Legal}
use Rattle.shard_dump.specs.declared.rows.Dump.{Dump}
use Rattle.cache_file.specs.Files.{SameElsewhere}
use Rattle.cache_file.specs.Texts.{IsCacheText}
use Rattle.sql_keeper.specs.declared.keepers.Place.{Place}
use Rattle.sql_keeper.specs.declared.keepers.Place.TheVariants as places
use Rattle.sql_keeper.specs.declared.stores.Commit.{Commit}
use Rattle.sql_keeper.specs.Faults.{HaveFailed}
use Rattle.sql_keeper.specs.Fresh.{Fresh, Covered}
use Rattle.sql_keeper.specs.Log.{rows_after, state}
use Rattle.session_client.specs.declared.plans.Shape.{Shape}
use Rattle.run_inputs.specs.declared.scripts.Act.{Act}
use Rattle.top_run.specs.declared.runs.Status.{Status}
use Rattle.top_run.specs.declared.runs.Status.TheVariants as status
use Rattle.run_audit.specs.declared.findings.Finding.{Finding}
use Rattle.run_audit.specs.declared.findings.Finding.TheVariants as finding
use Rattle.run_inputs.specs.declared.loads.WorkSpec.{WorkSpec}
use Rattle.conn_server.specs.declared.ends.LineEnd.{LineEnd}
use Rattle.run_words.specs.declared.words.ServeSpec.{ServeSpec}
use Rattle.top_run.specs.Runs.{IsRead, Prints, Tells, Left}
use Rattle.run_words.specs.Words.{most_served}
use Rattle.door_workers.specs.Attending.{HaveEnds, IsEnough}
use Rattle.top_run.specs.declared.serves.Begun.{Begun}
use Rattle.top_run.specs.Begins.{Beginning, BeginsAs, Files, FilesSeen}
use Rattle.top_run.specs.Saves.{HasText, right_in}
use Rattle.top_run.specs.Serves.{serve_shape, serve_rolls, serve_text, line_count}
use Rattle.top_run.specs.Warms.{HaveTakenOver, HitsHaveValues}
use Rattle.top_run.specs.Works.{IsLeft, IsSummarized, hub_terms, work_shape}

-- A run at a fresh place, over a keeper that tells its rows for good, which began with these rows and has those at its end: it
-- began with the rows of as many members as its script says, no hit is stale, each commit is covered, and the rows at the end
-- are those after the log.
pub record IsFreshRun (left_old left_new : Option (List ℕ)) (opening : Tables)
    (rows : Option Tables) (log : List Commit) (histories : List (List Step)) : Type 0 where
  pub shape : Shape
  pub acts : List Act
  pub read : IsRead left_old left_new shape acts
  pub opened : opening ≡ start_tables shape.members
  pub fresh : Fresh opening log histories
  pub covered : Covered log histories
  pub rows_are : rows ≡ Some (rows_after opening log)

-- A run at a place that held these rows, which began with those and whose keeper tells these at its end: it began with
-- what the place held, where that is told, and a fresh place held as many members as its script says, and no links. No
-- hit is stale, each commit is covered, and the rows at the end are those after the log.
pub record IsRunAt (place : Place) (held : ℕ → Option Tables) (left_old left_new : Option (List ℕ)) (opening : Tables)
    (log : List Commit) (histories : List (List Step)) (rows : Tables) : Type 0 where
  pub shape : Shape
  pub acts : List Act
  pub read : IsRead left_old left_new shape acts
  pub opened : ForSome (held shape.members) (λ there. opening ≡ there)
  pub opened_fresh : place ≡ places.Fresh → opening ≡ start_tables shape.members
  pub fresh : Fresh opening log histories
  pub covered : Covered log histories
  pub rows_are : rows ≡ rows_after opening log

-- A load of these words ended Done: its summary was written, and each commit is covered. Where the keeper tells its rows, no
-- hit is stale and the audit was clean; and where the words name no file, the opening rows are as many members as the load
-- says, and no links.
pub record IsCleanLoad (place : Place) (spec : WorkSpec) (before after : Tells) (left : Left) (written : ℕ) : Type 0 where
  pub opening : Tables
  pub opening_is : left.opening ≡ Some opening
  pub opened : place ≡ places.Fresh → ForSome after.rows (λ _. opening ≡ start_tables spec.members)
  pub covered : Covered left.log left.histories
  pub fresh : IsSome after.rows → Fresh opening left.log left.histories
  pub found : Finding
  pub summary_is : IsSummarized spec opening left.log left.histories before.taken after.taken written found
  pub clean : IsSome after.rows → found ≡ finding.Clean

-- A load of these words over a keeper that tells its rows for good ended Done: its summary was written, each commit is
-- covered, no hit is stale and the audit was clean; and where the words name no file, the opening rows are as many members as
-- the load says, and no links.
pub record IsFreshLoad (place : Place) (spec : WorkSpec) (taken_old taken_new : Option (List ℕ)) (left : Left) (written : ℕ) : Type 0 where
  pub opening : Tables
  pub opening_is : left.opening ≡ Some opening
  pub opened : place ≡ places.Fresh → opening ≡ start_tables spec.members
  pub covered : Covered left.log left.histories
  pub fresh : Fresh opening left.log left.histories
  pub summary_is : IsSummarized spec opening left.log left.histories taken_old taken_new written finding.Clean

-- Two loads ended Done, and this was left by those that ended before the second, and by that. The second began with the rows after the
-- first log, and each of its histories begins with the steps by which the rows were loaded that were still right in the first cache. The
-- commits of both are covered. Where the keeper tells its rows no hit of either is stale, and a hit on such a row has its value, unless
-- a commit of the second load touches its key.
pub record HaveTakenOverRight (spec : WorkSpec) (rows : Option Tables) (earlier : List Left) (left : Left) : Type 0 where
  pub first : Left
  pub only : earlier ≡ first ∷ []
  pub opening : Tables
  pub opening_is : first.opening ≡ Some opening
  pub opening_anew : left.opening ≡ Some (rows_after opening first.log)
  pub taken_over : HaveTakenOver (work_shape spec) first.log first.histories left.histories
  pub covered_first : Covered first.log first.histories
  pub covered : Covered left.log left.histories
  pub fresh_first : IsSome rows → Fresh opening first.log first.histories
  pub fresh : IsSome rows → Fresh (rows_after opening first.log) left.log left.histories
  pub hits : IsSome rows → HitsHaveValues first.log first.histories left.log left.histories

-- What is known of how a server's cache began.
abbrev pub known_of : FilesSeen → FilesSeen → Tables → Option Tables → ℕ → Beginning
known_of files_before files_after opening rows failed = record {
  files_before = files_before;
  files_after = files_after;
  opening = opening;
  rows = rows;
  failed = failed;
}

-- A server ended Done: so many connections were served as were asked for, or the door said that no more come, as it did where no
-- number was asked for. There is an end for each of a number of connections. The sink took all that a server writes, with the number
-- that were served; how the cache began is in it where the words name a file for that. Of each shard there are the last steps of a
-- legal history. So many calls of the keeper failed as its count of faults tells.
pub record IsDoneServer (spec : ServeSpec) (taken_old taken_new : Option (List ℕ)) (files_before files_after : FilesSeen)
    (faults_old faults_new : ℕ) (rows : Option Tables) (left : Left) (ended : Bool) (ends : List LineEnd) (written : ℕ) : Type 0 where
  pub lines : ℕ
  pub few : IfSome (most_served spec.conns) (λ most. lines ≤ most)
  pub have_ends : HaveEnds (most_served spec.conns) lines ends
  pub served : IsEnough (most_served spec.conns) lines ended
  pub opening : Tables
  pub opening_is : left.opening ≡ Some opening
  pub failed : ℕ
  pub since : HaveFailed faults_old failed faults_new
  pub begun : Begun
  pub begins_as : BeginsAs spec.warm spec.shards (known_of files_before files_after opening rows failed) begun
  pub prints : Prints taken_old taken_new (serve_text begun (line_count lines)) written
  pub as_many : length left.histories ≡ spec.shards
  pub legal : (place : ℕ) (history : List Step) → slice_get left.histories place ≡ Some history → IsLeft (serve_shape spec) serve_rolls place history

-- A dump is right for the shard of this number, of which a server leaves the last steps of a legal history beside this log: it has the
-- rows of exactly those entries of this history that may stand there and that are right on the rows after the log. So each value is its
-- key's answer on these.
pub record IsRightDump (spec : ServeSpec) (opening : Tables) (log : List Commit) (histories : List (List Step)) (place : ℕ) (dump : Dump) : Type 0 where
  pub steps : List Step
  pub is_left : slice_get histories place ≡ Some steps
  pub given_up : List Step
  pub legal : Legal (hub_terms (serve_shape spec) serve_rolls place) (given_up ++ steps)
  pub rows_are : dump.rows ≡ right_in (rows_after opening log) (given_up ++ steps)
  pub right : All (λ row. row.value ≡ answer row.key (rows_after opening log)) dump.rows

-- The text is that of a cache with as many shards as the words say, of which each dump is right for what a server leaves.
pub record IsRightCache (spec : ServeSpec) (left : Left) (text : List ℕ) : Type 0 where
  pub opening : Tables
  pub opening_is : left.opening ≡ Some opening
  pub dumps : List Dump
  pub is_text : IsCacheText spec.shards text dumps
  pub each : (place : ℕ) (dump : Dump) → slice_get dumps place ≡ Some dump → IsRightDump spec opening left.log left.histories place dump

-- A server ended Done whose words name a file at this path for its cache. Where the file tells what it has, it has a cache that is right.
-- Each other file has what it had.
pub record HasSavedRight (path : List ℕ) (spec : ServeSpec) (left : Left) (old new : Files) : Type 0 where
  pub saved : HasText (IsRightCache spec left) (new path)
  pub others : SameElsewhere path old new

-- A hit behind a release of the key, in a history that has the earliest step first: between them and around them are any steps.
pub record IsHitBehind (history : List Step) (key : QKey) (writer : Sid) (value : List ℕ) (stamp : ℕ) : Type 0 where
  pub before : List Step
  pub token : ℕ
  pub how : Ended
  pub between : List Step
  pub reader : Sid
  pub floor : ℕ
  pub after : List Step
  pub steps : history ≡ before ++ Released key writer token how ∷ (between ++ Hit key reader floor value stamp ∷ after)

-- Each hit behind a session's release of the key holds that session's commit, where that touches the key:
-- it is among the first commits, as many as the stamp says, and the value is the key's answer after these.
abbrev pub HitsHoldCommits : Tables → List Commit → List (List Step) → Type 0
HitsHoldCommits opening log histories =
    (shard place : ℕ) (history : List Step) (commit : Commit) (key : QKey) (value : List ℕ) (stamp : ℕ)
    → slice_get histories shard ≡ Some history → slice_get log place ≡ Some commit → touches commit.txn key ≡ true
    → IsHitBehind history key commit.sid value stamp
    → (place < stamp) × (value ≡ answer key (state opening log stamp))

-- Nothing that was handed in failed: all was run, or the text says nothing to run, or memory ran out.
abbrev pub IsUnharmed : Status → Type 0
IsUnharmed status.Done = Unit {0}
IsUnharmed status.Usage = ⊥
IsUnharmed (status.Script line kind) = Unit {0}
IsUnharmed status.Memory = Unit {0}
IsUnharmed status.ReadFault = ⊥
IsUnharmed status.WriteFault = ⊥
IsUnharmed status.DoorFault = ⊥
IsUnharmed status.KeepFault = ⊥
IsUnharmed status.FileFault = ⊥
IsUnharmed (status.Spent shard) = ⊥

-- Two runs came to the same: their sinks tell the same bytes, as many were counted, their keepers
-- tell the same rows, and they began with the same rows and leave the same log and histories.
pub record AreAlike (after after' : Tells) (left left' : Left) (written written' : ℕ) : Type 0 where
  pub bytes : after'.taken ≡ after.taken
  pub counts : written' ≡ written
  pub rows : after'.rows ≡ after.rows
  pub openings : left'.opening ≡ left.opening
  pub logs : left'.log ≡ left.log
  pub histories : left'.histories ≡ left.histories

-- What one sink took is the first part of what another took.
pub record IsBeginning (some all : Option (List ℕ)) : Type 0 where
  pub printed : List ℕ
  pub more : List ℕ
  pub part_is : some ≡ Some printed
  pub whole_is : all ≡ Some (printed ++ more)
