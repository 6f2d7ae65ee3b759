-- What is so at the end of a command, by its words.
use Rattle.std.specs.Prelude.{ℕ, ◌≡◌, ◌++◌, List, [], Option, None, Result, Ok, Err}
use Rattle.sql_keeper.specs.declared.keepers.Place.{Place}
use Rattle.top_run.specs.declared.runs.Status.{Status}
use Rattle.top_run.specs.declared.runs.Status.TheVariants as status
use Rattle.run_words.specs.declared.words.Words.{Words}
use Rattle.run_words.specs.declared.words.Words.TheVariants as words
use Rattle.run_words.specs.declared.words.WordsFault.{WordsFault}
use Rattle.run_words.specs.declared.words.WordsFault.TheVariants as fault
use Rattle.top_run.specs.Runs.{Tells, Left, Prints, IsUnasked, IsNotStarted, Ended}
use Rattle.top_run.specs.Serves.{Course, IsUnserved, ServeEnded}
use Rattle.iq_outside.specs.Outside.{LineRecord}
use Rattle.conn_server.specs.declared.ends.LineEnd.{LineEnd}
use Rattle.door_workers.specs.Ends.{AreHandedBack, AreServed}
use Rattle.run_words.specs.Words.{AreWords, most_served}
use Rattle.run_words.specs.Reading.{AreReadAs, IsRead}
use Rattle.top_run.specs.Works.{WorkEnded}
use Rattle.top_run.specs.Warms.{WarmEnded}
use Rattle.cache_file.specs.Files.{SameTexts}
use Rattle.top_run.specs.Begins.{Files}
use Rattle.top_run.specs.Saves.{SavesAt}
use Rattle.rows_model.specs.Rows.{Tables}
use Rattle.top_run.specs.declared.runs.Phase.{Phase}

-- The source is as before.
pub record IsUnread (before after : Tells) : Type 0 where
  pub left : after.left ≡ before.left
  pub count : after.reads_failed ≡ before.reads_failed

-- What was written of a text at such an end: all of it, or the first bytes of it at a write that failed.
abbrev pub IsTextPart : Status → List ℕ → List ℕ → Type 0
IsTextPart status.Done text printed = printed ≡ text
IsTextPart status.WriteFault text printed = (more : List ℕ) × (printed ++ more ≡ text)
IsTextPart other text printed = ⊥

-- A text was asked for, and nothing was run.
pub record IsTextPrinted (text : List ℕ) (ended : Status) (before after : Tells) (left : Left) (written : ℕ) : Type 0 where
  pub printed : List ℕ
  pub is_part : IsTextPart ended text printed
  pub prints : Prints before.taken after.taken printed written
  pub unasked : IsUnasked before after
  pub no_opening : left.opening ≡ None
  pub no_log : left.log ≡ []
  pub no_histories : left.histories ≡ []

-- Nothing was read, written or started.
pub record IsRefused (course : Course) : Type 0 where
  pub same : course.after ≡ course.before
  pub nothing : IsNotStarted course.before course.after course.left course.written
  pub none_earlier : course.earlier ≡ []
  pub unserved : IsUnserved course

-- What is so at an end, by what the words were read as: a script is replayed from the source; loads and a server
-- read nothing; a text that was asked for is written; and words that can't be read do nothing. The course of the run
-- is told by its place: that which a command names, or any where none is named.
abbrev pub EndedAs : Result Words WordsFault → Status → (Place → Course) → Type 0
EndedAs (Ok (words.Replay place)) ended courses =
    let course = courses place in
    Ended ended course.held course.before course.after course.left course.written × IsUnserved course
EndedAs (Ok (words.Work place spec)) ended courses =
    let course = courses place in
    IsUnread course.before course.after
    × WorkEnded ended spec course.held course.before course.after course.left course.written
    × IsUnserved course
EndedAs (Ok (words.Warm place spec)) ended courses =
    let course = courses place in
    IsUnread course.before course.after × WarmEnded ended spec course × IsUnserved course
EndedAs (Ok (words.Serve place spec)) ended courses =
    let course = courses place in IsUnread course.before course.after × ServeEnded ended spec course
EndedAs (Ok (words.Page text)) ended courses =
    (place : Place)
    → IsUnread (courses place).before (courses place).after
    × IsTextPrinted text.items ended (courses place).before (courses place).after (courses place).left (courses place).written
    × IsUnserved (courses place)
EndedAs (Err fault.Usage) ended courses = (ended ≡ status.Usage) × ((place : Place) → IsRefused (courses place))
EndedAs (Err fault.Memory) ended courses = (ended ≡ status.Memory) × ((place : Place) → IsRefused (courses place))

-- The words are no command: neither word for word, nor as they are read.
pub record AreNoCommand (words : List (List ℕ)) : Type 0 where
  pub no_words : (command : Words) → AreWords words command → ⊥
  pub no_reading : (command : Words) → AreReadAs words command → ⊥

-- The words can be read so: as a command or as asking for a text, or they are none, or memory runs out.
abbrev pub IsReading : List (List ℕ) → Result Words WordsFault → Type 0
IsReading words (Ok command) = IsRead words command
IsReading words (Err fault.Usage) = AreNoCommand words
IsReading words (Err fault.Memory) = Unit {0}

-- What is so at an end of a command, by its words, where the course of the run is told by its place. Words that are
-- those of a command, word for word, end as this command, at the place that they name. Others end as what they are
-- read as.
pub record CommandEnded (words : List (List ℕ)) (ended : Status) (courses : Place → Course) : Type 0 where
  pub worded : (command : Words) → AreWords words command → EndedAs (Ok command) ended courses
  pub read : Result Words WordsFault
  pub is_reading : IsReading words read
  pub ended_as : EndedAs read ended courses

-- How the lines of a command ended that were handed back to a door which told these before and tells these after. Only a server that
-- stays until no more come keeps no ends.
abbrev pub LinesEnded : Result Words WordsFault → List LineEnd → Option (List LineRecord) → Option (List LineRecord) → Type 0
LinesEnded (Ok (words.Serve place spec)) ends before after = AreServed (most_served spec.conns) ends before after
LinesEnded other ends before after = AreHandedBack ends before after

-- How they ended, by the words of the command: words that are those of a command, word for word, end as this command. Others end as
-- what they are read as.
pub record AreLines (words : List (List ℕ)) (ends : List LineEnd) (before after : Option (List LineRecord)) : Type 0 where
  pub worded : (command : Words) → AreWords words command → LinesEnded (Ok command) ends before after
  pub read : Result Words WordsFault
  pub is_reading : IsReading words read
  pub ended : LinesEnded read ends before after

-- What loads left that ended before: of other commands than the run of two loads there is none.
abbrev pub LeavesEarlier : Result Words WordsFault → List Phase → Type 0
LeavesEarlier (Ok (words.Warm place spec)) earlier = Unit {0}
LeavesEarlier other earlier = earlier ≡ []

-- So it is, by the words of the command: words that are those of a command, word for word, leave what this command does. Others leave
-- what is left of what they are read as.
pub record AreEarlier (words : List (List ℕ)) (earlier : List Phase) : Type 0 where
  pub worded : (command : Words) → AreWords words command → LeavesEarlier (Ok command) earlier
  pub read : Result Words WordsFault
  pub is_reading : IsReading words read
  pub left : LeavesEarlier read earlier

-- What the files at paths have at the end: a server may have saved its cache. Other commands touch none.
abbrev pub SavedAs : Result Words WordsFault → Status → Option Tables → Left → Files → Files → Type 0
SavedAs (Ok (words.Serve place spec)) ended rows left old new = SavesAt spec.warm ended spec rows left old new
SavedAs other ended rows left old new = SameTexts old new

-- So it is, by the words of the command: words that are those of a command, word for word, save what this command does. Others save what
-- they are read as.
pub record AreSaved (words : List (List ℕ)) (ended : Status) (rows : Option Tables) (left : Left) (old new : Files) : Type 0 where
  pub worded : (command : Words) → AreWords words command → SavedAs (Ok command) ended rows left old new
  pub read : Result Words WordsFault
  pub is_reading : IsReading words read
  pub saved : SavedAs read ended rows left old new
