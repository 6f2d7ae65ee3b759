-- What is there between two loads of which the second takes over what is still right.
use Rattle.std.specs.Prelude.{Bool, ℕ, ◌≡◌, ◌≢◌, ◌<◌, ◌≤◌, ◌-◌, ◌^◌, false, List, [], ◌∷◌, ◌++◌, length, drop, map, All, AllPairs}
use Rattle.std.specs.Prelude.{Option, Some, None, IfSome, IsSome, is_none, slice_get, unwrap_or, vec_capacity}
use Rattle.std.specs.Prelude.{Vec}
use Rattle.std.specs.Global.{Global}
use Rattle.std.specs.List.{list_any}
use Rattle.std.specs.Option.{ForSome}
use Rattle.rows_model.specs.declared.keys.QKey.{QKey}
use Rattle.rows_model.specs.declared.keys.Sid.{Sid}
use Rattle.rows_model.specs.Rows.{Tables}
use Rattle.rows_model.specs.Changes.{touches}
use Rattle.rows_model.specs.Query.{answer}
use Rattle.key_shard.specs.declared.steps.Step.{Step}
use Rattle.key_shard.specs.declared.steps.Step.TheVariants.{Lease, Stored}
use Rattle.key_shard.specs.Answers.{IsAtHome, Legal}
use Rattle.key_shard.specs.Past.{Terms, entry, recorded, standing}
use Rattle.key_shard.specs.Shards.{ShardView, past_of}
use Rattle.sql_keeper.specs.declared.stores.Commit.{Commit}
use Rattle.sql_keeper.specs.Fresh.{Covered, Fresh}
use Rattle.sql_keeper.specs.Log.{rows_after, state}
use Rattle.sql_keeper.specs.Sessions.{is_open}
use Rattle.sql_keeper.specs.Stores.{StoreView}
use Rattle.session_client.specs.declared.plans.Plan.{Plan}
use Rattle.session_client.specs.declared.plans.Shape.{Shape}
use Rattle.session_client.specs.Plans.{IsPlan}
use Rattle.core_history.specs.Machine.{log_cap}
use Rattle.log_word.specs.Passes.{WordView}
use Rattle.shard_lock.specs.Names.{AreAll, AreLegal}
use Rattle.gate_workers.specs.Rows.{DeskView, RowView, AllWork}
use Rattle.run_audit.specs.declared.findings.Finding.{Finding}
use Rattle.run_audit.specs.Findings.{histories_in}
use Rattle.run_inputs.specs.declared.loads.WorkSpec.{WorkSpec}
use Rattle.run_inputs.specs.Loads.{load}
use Rattle.shard_dump.specs.declared.rows.DumpRow.{DumpRow}
use Rattle.shard_dump.specs.declared.rows.Dump.{Dump}
use Rattle.shard_dump.specs.Dumps.{dump_of, is_touched}
use Rattle.shard_dump.specs.Loads.{HasRows, loaded_steps}
use Rattle.shard_dump.specs.Loads.{AreRight as AreRightOn}
use Rattle.shard_dump.specs.Texts.{IsDumpText, dump_text}
use Rattle.top_run.specs.declared.plays.Stop.{Stop}
use Rattle.top_run.specs.declared.plays.Stop.TheVariants as stop
use Rattle.top_run.specs.declared.runs.Status.{Status}
use Rattle.top_run.specs.declared.runs.Status.TheVariants as status
use Rattle.top_run.specs.declared.hubs.HubParts.{HubParts}
use Rattle.top_run.specs.declared.runs.Phase.{Phase}
use Rattle.top_run.specs.declared.dumps.Dumped.{Dumped}
use Rattle.top_run.specs.declared.works.Ready.{Ready}
use Rattle.top_run.specs.declared.serves.Ready.{Ready as ServeReady}
use Rattle.run_words.specs.declared.words.ServeSpec.{ServeSpec}
use Rattle.run_words.specs.Words.{most_served}
use Rattle.bound_hub.specs.Ties.{IsNewShard}
use Rattle.top_run.specs.Ready.{IsNewWord}
use Rattle.top_run.specs.Runs.{Left, Prints}
use Rattle.top_run.specs.Serves.{BeginsBy, phase_left, serve_rolls, serve_shape}
use Rattle.top_run.specs.Works.{work_shape, hub_terms, first_spent, AreUnspent, HaveSessions, IsSummary}
use Rattle.top_run.specs.Warms.{dump_lines, first_of, rows_in}

-- ---- a hub whose shards were loaded

-- A step by which rows are loaded is one: a lease that is given, or a value that is stored.
abbrev pub LoadsOnly : Step → Type 0
LoadsOnly (Lease key sid floor now token deadline) = Unit {0}
LoadsOnly (Stored key token now value stamp evicted) = Unit {0}
LoadsOnly other = ⊥

-- The steps of a shard since it was handed in, the earliest first, where these were the steps before, the latest first.
abbrev pub since_of : (ℕ → List Step) → ShardView → List Step
since_of before shard = drop (length (before shard.terms.no)) shard.history

abbrev pub since_in : (ℕ → List Step) → List ShardView → List (List Step)
since_in before shards = map (since_of before) shards

-- A shard goes on from the steps before.
pub record GoesOn (before : ℕ → List Step) (shard : ShardView) : Type 0 where
  pub more : List Step
  pub goes_on : past_of shard ≡ more ++ before shard.terms.no

-- Each worker has run its plans on a desk of its own, and these are their transcripts. Each plan has had a session of its own, which
-- the steps since tell of, unless a shard with one of the histories has drawn its last token.
pub record HaveRunSince (plans : List (List Plan)) (histories since : List (List Step)) (transcripts : List (List RowView)) : Type 0 where
  pub before : List DeskView
  pub after : List DeskView
  pub work : AllWork plans before after transcripts
  pub sessions : AreUnspent histories → HaveSessions plans since

-- Each entry of the shards that no later commit of the log touches is right on the rows after the log.
abbrev pub IsRightBehind : Tables → List Commit → ShardView → Type 0
IsRightBehind opening log shard =
    (key : QKey) (value : List ℕ) (stamp : ℕ) → IsAtHome shard.terms key → entry key (past_of shard) ≡ Some (value, stamp)
    → is_touched log key stamp ≡ false → value ≡ answer key (rows_after opening log)

abbrev pub AreRight : Tables → List Commit → List ShardView → Type 0
AreRight opening log shards = All (IsRightBehind opening log) shards

-- A key that no commit of the log touches has the answer after so many of them that it has on the opening rows.
abbrev pub KeepsAnswers : Tables → List Commit → Type 0
KeepsAnswers opening log =
    (key : QKey) → list_any (λ commit. touches commit.txn key) log ≡ false → (n : ℕ) → n ≤ length log
    → answer key (state opening log n) ≡ answer key opening

-- ---- the dumps

-- The number of the bytes is that of the text.
abbrev pub HasBytes : Dumped → Type 0
HasBytes dumped = dumped.bytes ≡ length (dump_text dumped.dump)

-- This is the dump of the shard, beside this log, with the number of the bytes of its text.
pub record IsDumped (log : List Commit) (shard : ShardView) (dumped : Dumped) : Type 0 where
  pub dump_is : dumped.dump ≡ dump_of log shard
  pub right : IsDumpText (dump_text dumped.dump) dumped.dump
  pub bytes_are : HasBytes dumped

-- The lines of these dumps.
abbrev pub lines_in : List Dumped → List ℕ
lines_in dumps = dump_lines (map (λ (dumped : Dumped). dumped.dump) dumps)

-- These are the dumps of the shards, each in its place.
pub record AreDumped (log : List Commit) (shards : List ShardView) (dumps : List Dumped) : Type 0 where
  pub as_many : length dumps ≡ length shards
  pub each : (place : ℕ) (shard : ShardView) (dumped : Dumped) → slice_get shards place ≡ Some shard → slice_get dumps place ≡ Some dumped
      → IsDumped log shard dumped

-- ---- loading

-- Rows can be loaded into a shard, beside a store: the shard has made no step and let no grant out, its first token is 1, and leases live.
-- The keys are its own, no two are the same, and there is room for them. Where the keeper tells its rows, each value is right there.
pub record CanLoad (known_rows : Option Tables) (opening : Tables) (rows : List DumpRow) (shard : ShardView) : Type 0 where
  pub new : shard.history ≡ []
  pub none_out : shard.out ≡ []
  pub from_one : shard.terms.first ≡ 1
  pub lively : 1 ≤ shard.terms.life
  pub home : All (λ row. IsAtHome shard.terms row.key) rows
  pub differ : AllPairs (λ row later. row.key ≢ later.key) rows
  pub room : length rows ≤ shard.terms.room
  pub few : shard.terms.room < 2 ^ 32
  pub answers : IsSome known_rows → All (λ row. row.value ≡ answer row.key opening) rows

-- A session loaded these rows into such a shard, which has made no other step: they are its entries. No grant is out, and no key has a
-- lease or a quarantine. Where the keeper tells its rows, each entry is right on these.
pub record IsLoadedWith (known_rows : Option Tables) (opening : Tables) (rows : List DumpRow) (old new : ShardView) : Type 0 where
  pub terms_are : new.terms ≡ old.terms
  pub none_out : new.out ≡ []
  pub who : Sid
  pub now : ℕ
  pub steps : new.history ≡ loaded_steps new.terms who now new.terms.first rows
  pub has : HasRows (past_of new) rows
  pub no_leases : (key : QKey) → recorded key (past_of new) ≡ None
  pub no_quars : (key : QKey) → standing key (past_of new) ≡ []
  pub legal : Legal new.terms new.history
  pub right : IsSome known_rows → AreRightOn opening (past_of new)
  pub answers : IsSome known_rows → All (λ row. row.value ≡ answer row.key opening) rows

-- Each dump can be loaded into the shard of its place.
pub record CanLoadAll (known_rows : Option Tables) (opening : Tables) (dumps : List Dumped) (shards : List ShardView) : Type 0 where
  pub as_many : length dumps ≡ length shards
  pub each : (place : ℕ) (shard : ShardView) (dumped : Dumped) → slice_get shards place ≡ Some shard → slice_get dumps place ≡ Some dumped
      → CanLoad known_rows opening dumped.dump.rows shard

-- And so it was.
pub record AreLoaded (known_rows : Option Tables) (opening : Tables) (dumps : List Dumped) (olds news : List ShardView) : Type 0 where
  pub as_many : length news ≡ length olds
  pub each : (place : ℕ) (old new : ShardView) (dumped : Dumped) → slice_get olds place ≡ Some old → slice_get news place ≡ Some new
      → slice_get dumps place ≡ Some dumped → IsLoadedWith known_rows opening dumped.dump.rows old new

-- Of a store only sessions that read have begun since: all else is as before.
pub record KeepsOn (old new : StoreView) : Type 0 where
  pub opening_is : new.ledger.opening ≡ old.ledger.opening
  pub log_is : new.ledger.log ≡ old.ledger.log
  pub cap_is : new.ledger.cap ≡ old.ledger.cap
  pub failed_is : new.ledger.failed ≡ old.ledger.failed
  pub told_is : new.known_rows ≡ old.known_rows
  pub faults_are : new.faults ≡ old.faults
  pub none_open : ((who : Sid) → is_open who old.ledger.sessions ≡ false) → (who : Sid) → is_open who new.ledger.sessions ≡ false

-- The steps that the shards have made, by their places, the latest first.
abbrev pub before_of : List ShardView → ℕ → List Step
before_of shards place = unwrap_or (slice_get (map past_of shards) place) []

-- ---- what is written behind something

-- The summary was written behind these bytes.
pub record IsToldBehind (spec : WorkSpec) (opening : Tables) (log : List Commit) (histories : List (List Step))
    (taken_old taken_new : Option (List ℕ)) (front : List ℕ) (written : ℕ) (found : Finding) : Type 0 where
  pub text : List ℕ
  pub is_summary : IsSummary spec opening log histories found text
  pub prints : Prints taken_old taken_new (front ++ text) written

-- The first bytes of a summary were written behind these bytes.
pub record IsCutBehind (spec : WorkSpec) (opening : Tables) (log : List Commit) (histories : List (List Step))
    (taken_old taken_new : Option (List ℕ)) (front : List ℕ) (written : ℕ) : Type 0 where
  pub found : Finding
  pub text : List ℕ
  pub is_summary : IsSummary spec opening log histories found text
  pub printed : List ℕ
  pub more : List ℕ
  pub parts : printed ++ more ≡ text
  pub prints : Prints taken_old taken_new (front ++ printed) written

-- What was written where a run stopped before its summary was: the first bytes of it at a write that failed, and nothing for want of memory.
abbrev pub IsHaltedBehind : WorkSpec → Tables → List Commit → List (List Step) → Option (List ℕ) → Option (List ℕ) → List ℕ → ℕ → Stop → Type 0
IsHaltedBehind spec opening log histories taken_old taken_new front written stop.WriteFault =
    IsCutBehind spec opening log histories taken_old taken_new front written
IsHaltedBehind spec opening log histories taken_old taken_new front written stop.Memory = Prints taken_old taken_new front written

-- The status of a run that stopped for this.
abbrev pub stop_status : Stop → Status
stop_status stop.WriteFault = status.WriteFault
stop_status stop.Memory = status.Memory

-- ---- what is known of the first load

-- What is left of a store and shards with these histories.
abbrev pub left_by : StoreView → List ShardView → Left
left_by store shards = record { opening = Some store.ledger.opening; log = store.ledger.log; histories = histories_in shards }

-- A load was run over a store and whole shards. Each history is legal, each commit is covered. Where the keeper tells its rows, each hit
-- is fresh, and each entry that no later commit touches is right on the rows after the log.
pub record HasRunLoad (spec : WorkSpec) (store : StoreView) (shards : List ShardView) : Type 0 where
  pub all : AreAll (hub_terms (work_shape spec) false) shards
  pub as_many : length shards ≡ spec.shards
  pub legal : AreLegal shards
  pub cap_is : store.ledger.cap ≡ log_cap
  pub fresh : IsSome store.known_rows → Fresh store.ledger.opening store.ledger.log (histories_in shards)
  pub covered : Covered store.ledger.log (histories_in shards)
  pub right : IsSome store.known_rows → AreRight store.ledger.opening store.ledger.log shards

-- There is room for the histories of the shards, and for one phase.
pub record HasRooms (shards : List ShardView) (histories : Vec (Vec Step Global) Global) (earlier : Vec Phase Global) : Type 0 where
  pub no_histories : histories.items ≡ []
  pub for_histories : length shards ≤ vec_capacity histories
  pub none_earlier : earlier.items ≡ []
  pub for_one : 1 ≤ vec_capacity earlier

-- What the first load left, of these phases.
abbrev pub left_in : List Phase → Left
left_in phases = first_of (map phase_left phases)

-- A store was made anew, which takes so many commits: none is in its log, and no session is open. Where its keeper tells its rows, they are
-- its opening rows.
pub record IsAnew (most : ℕ) (store : StoreView) : Type 0 where
  pub no_log : store.ledger.log ≡ []
  pub cap_is : store.ledger.cap ≡ most
  pub none_open : (who : Sid) → is_open who store.ledger.sessions ≡ false
  pub told_is : ForSome store.known_rows (λ known. known ≡ store.ledger.opening)

-- A store was made anew over the rows after the log of what the first load left, which began with these rows. That is kept, and so is its
-- least shard that is spent.
pub record IsHalf (opening : Tables) (store : StoreView) (earlier : List Phase) (spent : Option ℕ) : Type 0 where
  pub only : map phase_left earlier ≡ left_in earlier ∷ []
  pub anew : IsAnew log_cap store
  pub opening_is : store.ledger.opening ≡ rows_after opening (left_in earlier).log
  pub spent_is : spent ≡ first_spent (left_in earlier).histories

-- The rows of a dump are those that are dumped of a shard with this history, which has these terms. They can be loaded into a new one.
pub record IsToLoad (terms : Terms) (log : List Commit) (history : List Step) (known_rows : Option Tables) (opening : Tables) (rows : List DumpRow) : Type 0 where
  pub rows_are : rows ≡ rows_in log history
  pub home : All (λ row. IsAtHome terms row.key) rows
  pub differ : AllPairs (λ row later. row.key ≢ later.key) rows
  pub room : length rows ≤ terms.room
  pub answers : IsSome known_rows → All (λ row. row.value ≡ answer row.key opening) rows

-- There is such a dump for each shard of the first load, in its place.
pub record AreToLoad (spec : WorkSpec) (left : Left) (known_rows : Option Tables) (opening : Tables) (dumps : List Dumped) : Type 0 where
  pub as_many : length dumps ≡ spec.shards
  pub histories : length left.histories ≡ spec.shards
  pub each : (place : ℕ) (history : List Step) (dumped : Dumped) → slice_get left.histories place ≡ Some history → slice_get dumps place ≡ Some dumped
      → IsToLoad (hub_terms (work_shape spec) false place) left.log history known_rows opening dumped.dump.rows

-- The rows that are dumped of each shard of a load that left this.
abbrev pub rows_left : Left → List (List DumpRow)
rows_left left = map (rows_in left.log) left.histories

-- There are the plans of the load for each of its workers, and a hub's shards, which loaded these rows beside this store, with room for
-- their histories.
pub record IsReadyAnew (spec : WorkSpec) (known_rows : Option Tables) (opening : Tables) (rows : List (List DumpRow)) (ready : Ready) : Type 0 where
  pub plans : All (λ list. All IsPlan list.items) ready.plans.items
  pub are_load : map (λ list. list.items) ready.plans.items ≡ load spec
  pub workers : length ready.plans.items ≡ spec.workers
  pub dumps : List Dumped
  pub rows_are : map (λ (dumped : Dumped). dumped.dump.rows) dumps ≡ rows
  pub olds : List ShardView
  pub many : length dumps ≡ length olds
  pub all : AreAll (hub_terms (work_shape spec) false) olds
  pub as_many : length olds ≡ spec.shards
  pub loaded : AreLoaded known_rows opening dumps olds ready.parts.hub.shards.items
  pub one_each : ready.parts.hub.ledger.parts ≡ spec.shards
  pub word : IsNewWord spec.shards ready.parts.hub
  pub none : ready.parts.histories.items ≡ []
  pub room : spec.shards ≤ vec_capacity ready.parts.histories

-- A server's shard is new, and this is the dump of a shard of its place.
pub record IsEmptyFor (dump : Dump) (shard : ShardView) : Type 0 where
  pub new : shard.history ≡ []
  pub none_out : shard.out ≡ []
  pub from_one : shard.terms.first ≡ 1
  pub lively : 1 ≤ shard.terms.life
  pub room_is : shard.terms.room ≡ 4096
  pub number : dump.shard ≡ shard.terms.no
  pub count : dump.count ≡ shard.terms.count
  pub right : IsDumpText (dump_text dump) dump

-- Of a store only sessions that read have begun since, and its keeper was asked, which may have failed.
pub record AsksOn (old new : StoreView) : Type 0 where
  pub opening_is : new.ledger.opening ≡ old.ledger.opening
  pub log_is : new.ledger.log ≡ old.ledger.log
  pub cap_is : new.ledger.cap ≡ old.ledger.cap
  pub tells : IsSome new.known_rows → IsSome old.known_rows
  pub never_falls : old.faults ≤ new.faults
  pub none_open : ((who : Sid) → is_open who old.ledger.sessions ≡ false) → (who : Sid) → is_open who new.ledger.sessions ≡ false

-- Shards that have their places for their numbers can be handed to a hub that names the steps that they made. Their histories are legal.
pub record AreToServe (terms : ℕ → Terms) (known_rows : Option Tables) (opening : Tables) (shards : List ShardView) : Type 0 where
  pub all : AreAll terms shards
  pub legal : AreLegal shards
  pub new : (before : ℕ → List Step) → ((place : ℕ) → before place ≡ before_of shards place)
      → All (IsNewShard opening before (is_none known_rows)) shards

-- There are the shards of a server's hub, new or with what was taken over, beside this store, and room for what it leaves.
pub record IsServeReadyAnew (spec : ServeSpec) (known_rows : Option Tables) (opening : Tables) (ready : ServeReady) : Type 0 where
  pub shards : AreToServe (hub_terms (serve_shape spec) serve_rolls) known_rows opening ready.parts.hub.shards.items
  pub as_many : length ready.parts.hub.shards.items ≡ spec.shards
  pub one_each : ready.parts.hub.ledger.parts ≡ spec.shards
  pub word : IsNewWord spec.shards ready.parts.hub
  pub none : ready.parts.histories.items ≡ []
  pub room : spec.shards ≤ vec_capacity ready.parts.histories
  pub no_ends : ready.ends.items ≡ []
  pub for_ends : IfSome (most_served spec.conns) (λ most. most ≤ vec_capacity ready.ends)
  pub begins : BeginsBy spec.warm ready.begun

-- The name of a hub names what is run over it: the store as it was made anew, the ledger and the word, and the steps that the
-- shards made.
pub record NamesAnew (shape : Shape) (rolls : Bool) (store : StoreView) (count start : Option ℕ) (terms : ℕ → Terms) (opening : Tables) (cap : ℕ)
    (known_rows : Option Tables) (name parts : ℕ) (word : WordView) (before : ℕ → List Step) (begun failed : ℕ) (made : HubParts) : Type 0 where
  pub terms_are : (place : ℕ) → terms place ≡ hub_terms shape rolls place
  pub opening_is : store.ledger.opening ≡ opening
  pub cap_is : cap ≡ store.ledger.cap
  pub told_is : known_rows ≡ store.known_rows
  pub start_is : start ≡ count
  pub ledger : (made.ledger.name ≡ name) × (made.ledger.parts ≡ parts)
  pub word_is : made.word.0 ≡ word
  pub before_is : (place : ℕ) → before place ≡ before_of made.shards.items place
  pub begun_is : begun ≡ length store.ledger.sessions
  pub failed_is : failed ≡ store.ledger.failed
  pub few_failed : failed ≤ 2 ^ 64 - 1
