-- What is there between two loads: dumps, their lines, and rows that are loaded.
use Rattle.std.proofs.Common.{ℕ, zero, suc, ◌≡◌, ◌≢◌, ◌≤◌, ◌<◌, ◌+◌, ◌-◌, List, [], ◌∷◌, ◌++◌, All, AllPairs, length, map, reverse, take, get_or, refl, sym, ap, subst, ◌∙◌, inl, inr, ⊎_elim, arith, append_assoc, length-append}
use Rattle.std.specs.Prelude.{Bool, true, false, cond, ◌==◌, ◌||◌, ◌⊎◌, is_none, is_some, Option, Some, None, Result, Ok, Err, IfErr, OnOk, IsSome, slice_get, option_map, unwrap_or, codes, decimal}
use Rattle.std.specs.List.{AllByRecursion, remove}
use Rattle.std.specs.Option.{ForSome}
use Rattle.std.proofs.lemmas.Bool.{false≢true}
use Rattle.std.proofs.lemmas.List.{append-nil, length-map, reverse-append, take_more}
use Rattle.std.proofs.lemmas.List.Elements.{All-get_or}
use Rattle.std.proofs.lemmas.Option.{slice_get-map, slice_get_within, get_or_from_slice_get}
use Rattle.rows_model.specs.declared.keys.QKey.{QKey}
use Rattle.rows_model.specs.declared.keys.Sid.{Sid}
use Rattle.rows_model.specs.Query.{answer}
use Rattle.rows_model.specs.Rows.{Tables}
use Rattle.key_shard.specs.declared.steps.Step.{Step}
use Rattle.key_shard.specs.Answers.{IsAtHome}
use Rattle.key_shard.specs.Past.{Terms, entry, next_token}
use Rattle.key_shard.specs.Permit.{Permit}
use Rattle.key_shard.specs.Shards.{ShardView, past_of, is_out}
use Rattle.key_freshness.proofs.KnownLemmas.{stands-pushed, stands-within}
use Rattle.sql_keeper.specs.declared.stores.Commit.{Commit}
use Rattle.sql_keeper.specs.declared.stores.Phase.{Phase}
use Rattle.sql_keeper.specs.declared.stores.Phase.TheVariants as phase
use Rattle.sql_keeper.specs.Sessions.{closed, is_open, may_commit}
use Rattle.sql_keeper.specs.Stores.{Ledger, StoreView, rebased, rows_of as store_rows, with_session}
use Rattle.bound_hub.specs.Facts.{IsFirst, IsQuiet}
use Rattle.bound_hub.specs.Ties.{IsNewShard}
use Rattle.shard_dump.specs.declared.rows.DumpRow.{DumpRow}
use Rattle.shard_dump.specs.declared.rows.Dump.{Dump}
use Rattle.shard_dump.specs.Dumps.{dump_of, is_touched, rows_of}
use Rattle.shard_dump.specs.Faults.{Gives}
use Rattle.shard_dump.specs.declared.faults.LoadFault.{LoadFault}
use Rattle.shard_dump.specs.declared.faults.LoadFault.TheVariants as load_faults
use Rattle.shard_dump.specs.Loads.{HasLoaded, HasSpent, IsBlank, IsEmpty, IsFirstStranger, StopsStore, loaded_steps, steps_for}
use Rattle.shard_dump.specs.Loads.{AreRight as AreRightOn}
use Rattle.shard_dump.specs.Texts.{IsDumpText, dump_text}
use Rattle.top_run.specs.declared.dumps.Dumped.{Dumped}
use Rattle.key_shard.specs.Answers.{IsLegalPast, Legal}
use Rattle.key_shard.specs.Past.{order}
use Rattle.sql_keeper.specs.Log.{rows_after}
use Rattle.shard_lock.specs.Names.{IsNamed}
use Rattle.run_inputs.specs.declared.loads.WorkSpec.{WorkSpec}
use Rattle.shard_dump.proofs.DumpLemmas.{rows_by_entries, rows_in_room}
use Rattle.shard_dump.proofs.ShardLemmas.{has, order_has, order_home}
use Rattle.rows_model.specs.Key.{same_key}
use Rattle.rows_model.proofs.SameKey.{same_key-true}
use Rattle.top_run.specs.Works.{hub_terms, work_shape}
use Rattle.top_run.specs.Warms.{dump_line}
use Rattle.top_run.specs.Warming.{AreDumped, AreLoaded, AreToLoad, CanLoad, CanLoadAll, HasBytes, HasRunLoad, IsRightBehind, IsToLoad, left_by, IsDumped, IsLoadedWith, KeepsOn, LoadsOnly, lines_in}

-- ---- the lines of dumps

three : (t a b c n : List ℕ) → ((((t ++ a) ++ b) ++ c) ++ n) ≡ t ++ ((a ++ (b ++ c)) ++ n)
three t a b c n = simp append_assoc

inner-three : (a1 d1 a2 d2 a3 d3 : List ℕ) → (a1 ++ d1) ++ ((a2 ++ d2) ++ (a3 ++ d3)) ≡ a1 ++ (d1 ++ (a2 ++ (d2 ++ (a3 ++ d3))))
inner-three a1 d1 a2 d2 a3 d3 = simp append_assoc

-- the line of a dump behind some text
pub dump_line_is : (text : List ℕ) (dump : Dump)
    → ((((text ++ (codes "dump " ++ decimal dump.shard)) ++ (codes " " ++ decimal (length dump.rows)))
    ++ (codes " " ++ decimal (length (dump_text dump)))) ++ 10 ∷ [])
    ≡ text ++ dump_line dump
unfolding dump_line
dump_line_is text dump =
    three text (codes "dump " ++ decimal dump.shard) (codes " " ++ decimal (length dump.rows)) (codes " " ++ decimal (length (dump_text dump))) (10 ∷ [])
    ∙ ap (λ (line : List ℕ). text ++ (line ++ 10 ∷ [])) (inner-three (codes "dump ") (decimal dump.shard) (codes " ")
    (decimal (length dump.rows)) (codes " ") (decimal (length (dump_text dump))))

-- the lines of dumps with one more behind them
lines_push : (dumps : List Dumped) (one : Dumped) → lines_in (dumps ++ one ∷ []) ≡ lines_in dumps ++ dump_line one.dump
lines_push [] one = append-nil (dump_line one.dump)
lines_push (first ∷ dumps) one =
    ap (λ (l : List ℕ). dump_line first.dump ++ l) (lines_push dumps one) ∙ sym (append_assoc (dump_line first.dump) (lines_in dumps) (dump_line one.dump))

pub lines_more : (text lines : List ℕ) (dumps : List Dumped) (i : ℕ) (one : Dumped) → i < length dumps → one ≡ get_or dumps i one
    → text ≡ lines_in (take i dumps) → lines ≡ text ++ dump_line one.dump → lines ≡ lines_in (take (i + 1) dumps)
lines_more text lines dumps i one below is before now =
    now ∙ ap (λ (l : List ℕ). l ++ dump_line one.dump) before
    ∙ sym (lines_push (take i dumps) one)
    ∙ ap (λ (l : List Dumped). lines_in l) (sym (take_more dumps i one below ∙ ap (λ (x : Dumped). take i dumps ++ x ∷ []) (sym is)))

-- ---- the dumps of shards

-- a text that was dumped is read as the dump
pub dumped_of : (log : List Commit) (shard : ShardView) (read : Dump) (text : List ℕ) (bytes : ℕ)
    → IsDumpText text (dump_of log shard) → Gives (Ok read) (dump_of log shard) → bytes ≡ length text
    → IsDumped log shard (record { dump = read; bytes = bytes })
dumped_of log shard read text bytes is gives long =
    let written : text ≡ dump_text read = is.written ∙ ap dump_text (sym gives) in
    record {
      dump_is = gives;
      right = subst (λ (d : Dump). IsDumpText (dump_text d) d) (sym gives) (subst (λ (t : List ℕ). IsDumpText t (dump_of log shard)) is.written is);
      bytes_are = long ∙ ap (λ (t : List ℕ). length t) written;
    }

-- the dumps of the first shards, with one more behind them
pub dumped_more : (log : List Commit) (shards : List ShardView) (dumps : List Dumped) (i : ℕ) (shard : ShardView) (one : Dumped) → i < length shards
    → shard ≡ get_or shards i shard → length (take i shards) ≡ i → AreDumped log (take i shards) dumps → IsDumped log shard one
    → AreDumped log (take (i + 1) shards) (dumps ++ one ∷ [])
dumped_more log shards dumps i shard one below is many before now =
    let next : take (i + 1) shards ≡ take i shards ++ shard ∷ [] =
    take_more shards i shard below ∙ ap (λ (s : ShardView). take i shards ++ s ∷ []) (sym is) in
    subst (λ (l : List ShardView). AreDumped log l (dumps ++ one ∷ [])) (sym next)
    (record {
      as_many = length-append dumps (one ∷ []) ∙ ap (λ n. n + 1) before.as_many ∙ sym (length-append (take i shards) (shard ∷ []));
      each = λ place some dumped there here. by some dumped place
          (stands-pushed (take i shards) shard some place there) (stands-pushed dumps one dumped place here);
    })
  where
    by : (some : ShardView) (dumped : Dumped) (place : ℕ)
        → (slice_get (take i shards) place ≡ Some some) ⊎ ((place ≡ length (take i shards)) × (shard ≡ some))
        → (slice_get dumps place ≡ Some dumped) ⊎ ((place ≡ length dumps) × (one ≡ dumped)) → IsDumped log some dumped
    by some dumped place (inl a) (inl b) = before.each place some dumped a b
    by some dumped place (inr a) (inr b) = subst (λ (s : ShardView). IsDumped log s dumped) a.1 (subst (λ (d : Dumped). IsDumped log shard d) b.1 now)
    by some dumped place (inl a) (inr b) =
        let within = slice_get_within (take i shards) place some a in
        let many = before.as_many in
        let end = b.0 in
        absurd (omega (arith, within, many, end))
    by some dumped place (inr a) (inl b) =
        let within = slice_get_within dumps place dumped b in
        let many = before.as_many in
        let end = a.0 in
        absurd (omega (arith, within, many, end))

-- all of them have their bytes
pub all_bytes : (log : List Commit) (shards : List ShardView) (dumps : List Dumped) → AreDumped log shards dumps → All HasBytes dumps
all_bytes log shards dumps are = λ place d below.
    let dumped = get_or dumps place d in
    let here = stands-within dumps place below in
    let many = are.as_many in
    let there = stands-within shards place (omega (arith, below, many)) in
    subst HasBytes (sym (get_or_from_slice_get dumps place here.0 d here.1)) (are.each place there.0 here.0 there.1 here.1).bytes_are

-- ---- a shard that was loaded

-- its steps are leases and stored values
loads_push : (steps : List Step) (one : Step) → AllByRecursion LoadsOnly steps → LoadsOnly one → AllByRecursion LoadsOnly (steps ++ one ∷ [])
loads_push [] one all is = (is, tt)
loads_push (first ∷ steps) one all is = (all.0, loads_push steps one all.1 is)

loads_reversed : (steps : List Step) → AllByRecursion LoadsOnly steps → AllByRecursion LoadsOnly (reverse steps)
loads_reversed [] all = tt
loads_reversed (one ∷ steps) all =
    subst (AllByRecursion LoadsOnly) (sym (reverse-append (one ∷ []) steps)) (loads_push (reverse steps) one (loads_reversed steps all.1) all.0)

loads_of : (terms : Terms) (who : Sid) (now token : ℕ) (rows : List DumpRow) → AllByRecursion LoadsOnly (loaded_steps terms who now token rows)
loads_of terms who now token [] = tt
loads_of terms who now token (row ∷ rows) = (tt, (tt, loads_of terms who now (token + 1) rows))

pub loaded_only : (known_rows : Option Tables) (opening : Tables) (rows : List DumpRow) (old new : ShardView) → IsLoadedWith known_rows opening rows old new
    → AllByRecursion LoadsOnly (past_of new)
loaded_only known_rows opening rows old new h =
    subst (λ (steps : List Step). AllByRecursion LoadsOnly (reverse steps)) (sym h.steps)
    (loads_reversed (loaded_steps new.terms h.who h.now new.terms.first rows) (loads_of new.terms h.who h.now new.terms.first rows))

-- an entry of it has stamp 0, and is right where the keeper tells its rows
entry_first : (known_rows : Option Tables) (opening : Tables) (key : QKey) (found : Option (List ℕ × ℕ))
    → ((value : List ℕ) (stamp : ℕ) → found ≡ Some (value, stamp) → stamp ≡ 0)
    → (IsSome known_rows → (value : List ℕ) (stamp : ℕ) → found ≡ Some (value, stamp) → (stamp ≡ 0) × (value ≡ answer key opening))
    → IsFirst opening (is_none known_rows) key found
entry_first known_rows opening key None zero_stamp right = tt
entry_first None opening key (Some found) zero_stamp right = (zero_stamp found.0 found.1 refl, λ is. absurd (false≢true (sym is)))
entry_first (Some rows) opening key (Some found) zero_stamp right = (zero_stamp found.0 found.1 refl, λ is. (right refl found.0 found.1 refl).1)

zero_of : (key : QKey) (row : Option DumpRow) (value : List ℕ) (stamp : ℕ) → option_map {U = List ℕ × ℕ} (λ (r : DumpRow). (r.value, 0)) row ≡ Some (value, stamp) → stamp ≡ 0
zero_of key None value stamp is = absurd cc
zero_of key (Some row) value stamp is = sym (ap (λ (o : Option (List ℕ × ℕ)). (unwrap_or o (value, stamp)).1) is)

-- a shard that was loaded can be handed to a hub that names its steps
pub loaded_is_new : (known_rows : Option Tables) (opening : Tables) (rows : List DumpRow) (before : ℕ → List Step) (old new : ShardView)
    → IsLoadedWith known_rows opening rows old new → 1 ≤ new.terms.first → past_of new ≡ before new.terms.no → IsNewShard opening before (is_none known_rows) new
loaded_is_new known_rows opening rows before old new h from_one named =
    let at : (P : List Step → Type 0) → P (past_of new) → P (before new.terms.no) = λ P here. subst P named here in
    record {
      from_one = from_one;
      past_is = named;
      quiet = at IsQuiet (λ key. (h.no_quars key, h.no_leases key));
      entries = λ key. at (λ past. IsFirst opening (is_none known_rows) key (entry key past))
          (entry_first known_rows opening key (entry key (past_of new))
          (λ value stamp is. zero_of key _ value stamp (sym (h.has.entries key) ∙ is))
          (λ some value stamp is. h.right some key value stamp is));
      drawn = λ permit out. absurd (false≢true (sym (ap (λ (all : List Permit). is_out (record new { out = all }) permit) h.none_out) ∙ out));
    }

-- ---- a store that was made anew

none_closed : (one : Option Phase) → may_commit (option_map closed one) ≡ false
none_closed None = refl
none_closed (Some phase.Reads) = refl
none_closed (Some phase.Open) = refl
none_closed (Some phase.Committed) = refl
none_closed (Some phase.Ended) = refl

-- no session of it is open
pub rebased_closed : (ledger : Ledger) (who : Sid) → is_open who (rebased ledger).sessions ≡ false
rebased_closed ledger who = by (who.number == 0)
  where
    by : (b : Bool) → may_commit (cond b None (slice_get (map closed ledger.sessions) (who.number - 1))) ≡ false
    by true = refl
    by false = ap may_commit (slice_get-map closed ledger.sessions (who.number - 1)) ∙ none_closed (slice_get ledger.sessions (who.number - 1))

-- where the keeper tells its rows, they are its opening rows
pub told_anew : (old new : StoreView) → new.ledger ≡ rebased old.ledger → new.known_rows ≡ old.known_rows → ForSome old.known_rows (λ known. known ≡ store_rows old.ledger)
    → ForSome new.known_rows (λ known. known ≡ new.ledger.opening)
told_anew old new is same h = λ rows there. h rows (sym same ∙ there) ∙ sym (ap (λ (l : Ledger). l.opening) is)

-- a store of which only sessions to read began is as before in all that is told at the end
pub keeps_same : (store : StoreView) → KeepsOn store store
keeps_same store = record {
  opening_is = refl;
  log_is = refl;
  cap_is = refl;
  failed_is = refl;
  told_is = refl;
  faults_are = refl;
  none_open = λ closed who. closed who;
}

pub keeps_both : (a b c : StoreView) → KeepsOn a b → KeepsOn b c → KeepsOn a c
keeps_both a b c h k = record {
  opening_is = k.opening_is ∙ h.opening_is;
  log_is = k.log_is ∙ h.log_is;
  cap_is = k.cap_is ∙ h.cap_is;
  failed_is = k.failed_is ∙ h.failed_is;
  told_is = k.told_is ∙ h.told_is;
  faults_are = k.faults_are ∙ h.faults_are;
  none_open = λ closed who. k.none_open (h.none_open closed) who;
}

phase_with_reader : (sessions : List Phase) (place : ℕ) → may_commit (slice_get sessions place) ≡ false
    → may_commit (slice_get (sessions ++ phase.Reads ∷ []) place) ≡ false
phase_with_reader [] zero none = refl
phase_with_reader [] (suc place) none = refl
phase_with_reader (first ∷ sessions) zero none = none
phase_with_reader (first ∷ sessions) (suc place) none = phase_with_reader sessions place none

reader_closed : (who : Sid) (sessions : List Phase) → is_open who sessions ≡ false → is_open who (sessions ++ phase.Reads ∷ []) ≡ false
reader_closed who sessions none = by (who.number == 0) none
  where
    by : (b : Bool) → may_commit (cond b None (slice_get sessions (who.number - 1))) ≡ false
        → may_commit (cond b None (slice_get (sessions ++ phase.Reads ∷ []) (who.number - 1))) ≡ false
    by true none = refl
    by false none = phase_with_reader sessions (who.number - 1) none

pub keeps_session : (old new : StoreView) → new.ledger ≡ with_session false old.ledger → new.known_rows ≡ old.known_rows → new.faults ≡ old.faults → KeepsOn old new
keeps_session old new is same faults = record {
  opening_is = ap (λ (l : Ledger). l.opening) is;
  log_is = ap (λ (l : Ledger). l.log) is;
  cap_is = ap (λ (l : Ledger). l.cap) is;
  failed_is = ap (λ (l : Ledger). l.failed) is;
  told_is = same;
  faults_are = faults;
  none_open = λ closed who. ap (λ (l : Ledger). is_open who l.sessions) is ∙ reader_closed who old.ledger.sessions (closed who);
}

keeps_none : (old new : StoreView) → new.ledger ≡ old.ledger → new.known_rows ≡ old.known_rows → new.faults ≡ old.faults → KeepsOn old new
keeps_none old new is same faults = record {
  opening_is = ap (λ (l : Ledger). l.opening) is;
  log_is = ap (λ (l : Ledger). l.log) is;
  cap_is = ap (λ (l : Ledger). l.cap) is;
  failed_is = ap (λ (l : Ledger). l.failed) is;
  told_is = same;
  faults_are = faults;
  none_open = λ closed who. ap (λ (l : Ledger). is_open who l.sessions) is ∙ closed who;
}

-- so it is whatever a load answers
pub keeps_loaded : (old new : StoreView) (answer : Result ℕ LoadFault) → OnOk answer (new.ledger ≡ with_session false old.ledger)
    → IfErr answer (StopsStore old new) → new.known_rows ≡ old.known_rows → new.faults ≡ old.faults → KeepsOn old new
keeps_loaded old new (Ok count) ok err same faults = keeps_session old new ok same faults
keeps_loaded old new (Err (load_faults.Stranger row)) ok err same faults = keeps_none old new err same faults
keeps_loaded old new (Err (load_faults.Spent next)) ok err same faults = keeps_session old new err same faults
keeps_loaded old new (Err load_faults.Memory) ok err same faults =
    ⊎_elim (λ h. keeps_session old new h same faults) (λ h. keeps_none old new h same faults) err

-- ---- loading into a new shard

-- it has no entry and no lease
pub new_blank : (shard : ShardView) → shard.history ≡ [] → IsEmpty shard
new_blank shard new key =
    subst (λ (history : List Step). IsBlank (reverse history) key) (sym new) (record { no_quars = refl; no_lease = refl; no_entry = refl })

-- its first lease has its first token
first_token : (shard : ShardView) → shard.history ≡ [] → next_token shard.terms (past_of shard) ≡ shard.terms.first
first_token shard new = subst (λ (history : List Step). next_token shard.terms (reverse history) ≡ shard.terms.first) (sym new) (omega arith)

pub loaded_with : (known_rows : Option Tables) (opening : Tables) (rows : List DumpRow) (old new : ShardView) (who : Sid) (now : ℕ)
    → CanLoad known_rows opening rows old → HasLoaded who now rows old new → (IsSome known_rows → AreRightOn opening (past_of new)) → Legal new.terms new.history
    → IsLoadedWith known_rows opening rows old new
loaded_with known_rows opening rows old new who now can h right legal = record {
  terms_are = h.gained.terms;
  none_out = h.gained.out ∙ can.none_out;
  who = who;
  now = now;
  steps = h.gained.history ∙ ap (λ (before : List Step). before ++ steps_for who now old rows) can.new
      ∙ ap (λ (t : ℕ). loaded_steps old.terms who now t rows) (first_token old can.new)
      ∙ ap (λ (terms : Terms). loaded_steps terms who now terms.first rows) (sym h.gained.terms);
  has = h.has;
  no_leases = h.no_leases;
  no_quars = h.no_quars;
  legal = legal;
  right = right;
  answers = can.answers;
}

-- no row of it is another shard's
pub no_stranger : (known_rows : Option Tables) (opening : Tables) (rows : List DumpRow) (shard : ShardView) (number : ℕ) → CanLoad known_rows opening rows shard
    → IsFirstStranger shard rows number → ⊥
no_stranger known_rows opening rows shard number can h =
    h.away (subst (λ (row : DumpRow). IsAtHome shard.terms row.key) (get_or_from_slice_get rows number h.row h.row h.there)
    (All-get_or (λ (row : DumpRow). IsAtHome shard.terms row.key) rows number h.row (slice_get_within rows number h.row h.there) can.home))

-- and it never lacks a token
pub no_spent : (known_rows : Option Tables) (opening : Tables) (rows : List DumpRow) (who : Sid) (now next : ℕ) (old new : ShardView) → CanLoad known_rows opening rows old
    → HasSpent who now next rows old new → ⊥
no_spent known_rows opening rows who now next old new can h =
    let drawn = h.drawn in
    let last = h.last in
    let first = first_token old can.new ∙ can.from_one in
    let parts : length rows ≡ length h.front + length (h.row ∷ h.more) = ap (λ (l : List DumpRow). length l) h.parts ∙ length-append h.front (h.row ∷ h.more) in
    let room = can.room in
    let few = can.few in
    absurd (omega (arith, drawn, last, first, parts, room, few))

-- ---- loading into all

-- those that were loaded, with one more behind them
pub loaded_more : (known_rows : Option Tables) (opening : Tables) (dumps : List Dumped) (olds news : List ShardView) (dumped : Dumped) (old new : ShardView)
    → length dumps ≡ length olds → AreLoaded known_rows opening dumps olds news → IsLoadedWith known_rows opening dumped.dump.rows old new
    → AreLoaded known_rows opening (dumps ++ dumped ∷ []) (olds ++ old ∷ []) (news ++ new ∷ [])
loaded_more known_rows opening dumps olds news dumped old new many before now = record {
  as_many = length-append news (new ∷ []) ∙ ap (λ n. n + 1) before.as_many ∙ sym (length-append olds (old ∷ []));
  each = λ place a b d at_a at_b at_d. by place a b d (stands-pushed olds old a place at_a) (stands-pushed news new b place at_b) (stands-pushed dumps dumped d place at_d);
}
  where
    by : (place : ℕ) (a b : ShardView) (d : Dumped) → (slice_get olds place ≡ Some a) ⊎ ((place ≡ length olds) × (old ≡ a))
        → (slice_get news place ≡ Some b) ⊎ ((place ≡ length news) × (new ≡ b)) → (slice_get dumps place ≡ Some d) ⊎ ((place ≡ length dumps) × (dumped ≡ d))
        → IsLoadedWith known_rows opening d.dump.rows a b
    by place a b d (inl x) (inl y) (inl z) = before.each place a b d x y z
    by place a b d (inr x) (inr y) (inr z) =
        subst (λ (s : ShardView). IsLoadedWith known_rows opening d.dump.rows s b) x.1
        (subst (λ (s : ShardView). IsLoadedWith known_rows opening d.dump.rows old s) y.1
        (subst (λ (e : Dumped). IsLoadedWith known_rows opening e.dump.rows old new) z.1 now))
    by place a b d (inl x) (inr y) z =
        let within = slice_get_within olds place a x in let end = y.0 in let same = before.as_many in absurd (omega (arith, within, end, same))
    by place a b d (inl x) (inl y) (inr z) =
        let within = slice_get_within olds place a x in let end = z.0 in absurd (omega (arith, within, end, many))
    by place a b d (inr x) (inl y) z =
        let within = slice_get_within news place b y in let end = x.0 in let same = before.as_many in absurd (omega (arith, within, end, same))
    by place a b d (inr x) (inr y) (inl z) =
        let within = slice_get_within dumps place d z in let end = x.0 in absurd (omega (arith, within, end, many))

-- some shards in front were loaded with the dumps in front, and the others can be
pub record AreLoadedSoFar (known_rows : Option Tables) (opening : Tables) (all : List Dumped) (olds : List ShardView) (dumps : List Dumped)
    (shards news : List ShardView) : Type 0 where
  pub fronts : List ShardView
  pub texts : List Dumped
  pub shards_are : olds ≡ fronts ++ shards
  pub dumps_are : all ≡ texts ++ dumps
  pub many : length texts ≡ length fronts
  pub loaded : AreLoaded known_rows opening texts fronts news
  pub can : CanLoadAll known_rows opening dumps shards

-- none is at first
pub none_loaded : (known_rows : Option Tables) (opening : Tables) (dumps : List Dumped) (shards news : List ShardView) → news ≡ []
    → CanLoadAll known_rows opening dumps shards → AreLoadedSoFar known_rows opening dumps shards dumps shards news
none_loaded known_rows opening dumps shards news none can = record {
  fronts = [];
  texts = [];
  shards_are = refl;
  dumps_are = refl;
  many = refl;
  loaded = subst (AreLoaded known_rows opening [] []) (sym none) (record { as_many = refl; each = λ place old new dumped at. absurd cc });
  can = can;
}

-- then the next is
pub loaded_next : (known_rows : Option Tables) (opening : Tables) (all : List Dumped) (olds : List ShardView) (dumps others : List Dumped)
    (shards rest news : List ShardView) (shard new : ShardView) (dumped : Dumped) → 0 < length shards → shard ≡ get_or shards 0 shard → rest ≡ remove shards 0
    → dumped ≡ get_or dumps 0 dumped → others ≡ remove dumps 0 → IsLoadedWith known_rows opening dumped.dump.rows shard new
    → AreLoadedSoFar known_rows opening all olds dumps shards news → AreLoadedSoFar known_rows opening all olds others rest (news ++ new ∷ [])
loaded_next known_rows opening all olds dumps others [] rest news shard new dumped some first left front behind now was = absurd (omega (arith, some))
loaded_next known_rows opening all olds [] others (one ∷ later) rest news shard new dumped some first left front behind now was =
    let many = was.can.as_many in
    absurd (omega (arith, many))
loaded_next known_rows opening all olds (text ∷ texts) others (one ∷ later) rest news shard new dumped some first left front behind now was =
    let many = was.can.as_many in
    let is = subst (λ (s : ShardView). IsLoadedWith known_rows opening text.dump.rows s new) first
    (subst (λ (d : Dumped). IsLoadedWith known_rows opening d.dump.rows shard new) front now) in
    record {
      fronts = was.fronts ++ one ∷ [];
      texts = was.texts ++ text ∷ [];
      shards_are = was.shards_are ∙ sym (append_assoc was.fronts (one ∷ []) later) ∙ ap (λ (l : List ShardView). (was.fronts ++ one ∷ []) ++ l) (sym left);
      dumps_are = was.dumps_are ∙ sym (append_assoc was.texts (text ∷ []) texts) ∙ ap (λ (l : List Dumped). (was.texts ++ text ∷ []) ++ l) (sym behind);
      many = length-append was.texts (text ∷ []) ∙ ap (λ n. n + 1) was.many ∙ sym (length-append was.fronts (one ∷ []));
      loaded = loaded_more known_rows opening was.texts was.fronts news text one new was.many was.loaded is;
      can = subst (λ (l : List Dumped). CanLoadAll known_rows opening l rest) (sym behind)
          (subst (CanLoadAll known_rows opening texts) (sym left)
          (record { as_many = omega (arith, many); each = λ place s d there here. was.can.each (suc place) s d there here }));
    }

-- the next can be loaded
pub can_next : (known_rows : Option Tables) (opening : Tables) (all : List Dumped) (olds : List ShardView) (dumps : List Dumped) (shards news : List ShardView)
    (shard : ShardView) (dumped : Dumped) → 0 < length shards → shard ≡ get_or shards 0 shard → dumped ≡ get_or dumps 0 dumped
    → AreLoadedSoFar known_rows opening all olds dumps shards news → CanLoad known_rows opening dumped.dump.rows shard
can_next known_rows opening all olds dumps [] news shard dumped some first front was = absurd (omega (arith, some))
can_next known_rows opening all olds [] (one ∷ later) news shard dumped some first front was =
    let many = was.can.as_many in
    absurd (omega (arith, many))
can_next known_rows opening all olds (text ∷ texts) (one ∷ later) news shard dumped some first front was =
    subst (λ (s : ShardView). CanLoad known_rows opening dumped.dump.rows s) (sym first)
    (subst (λ (d : Dumped). CanLoad known_rows opening d.dump.rows one) (sym front) (was.can.each 0 one text refl refl))

-- at last all are
pub all_loaded_so : (known_rows : Option Tables) (opening : Tables) (all : List Dumped) (olds : List ShardView) (dumps : List Dumped) (shards news : List ShardView)
    → length shards ≡ 0 → AreLoadedSoFar known_rows opening all olds dumps shards news → AreLoaded known_rows opening all olds news
all_loaded_so known_rows opening all olds (text ∷ texts) [] news none was =
    let many = was.can.as_many in
    absurd (omega (arith, many))
all_loaded_so known_rows opening all olds dumps (one ∷ later) news none was = absurd cc
all_loaded_so known_rows opening all olds [] [] news none was =
    subst (λ (l : List Dumped). AreLoaded known_rows opening l olds news) (sym (was.dumps_are ∙ append-nil was.texts))
    (subst (λ (l : List ShardView). AreLoaded known_rows opening was.texts l news) (sym (was.shards_are ∙ append-nil was.fronts)) was.loaded)

-- what is so beside a store is so beside it later
pub beside_still : (P : Option Tables → Tables → Type 0) (old new : StoreView) → KeepsOn old new → P old.known_rows old.ledger.opening
    → P new.known_rows new.ledger.opening
beside_still P old new keeps h =
    subst (λ (rows : Option Tables). P rows new.ledger.opening) (sym keeps.told_is) (subst (P old.known_rows) (sym keeps.opening_is) h)

-- and was so before
pub beside_before : (P : Option Tables → Tables → Type 0) (old new : StoreView) → KeepsOn old new → P new.known_rows new.ledger.opening
    → P old.known_rows old.ledger.opening
beside_before P old new keeps h =
    subst (λ (rows : Option Tables). P rows old.ledger.opening) keeps.told_is (subst (P new.known_rows) keeps.opening_is h)

-- ---- the dumps of the first load can be loaded

home_among : (terms : Terms) (key : QKey) (ks : List QKey) → AllByRecursion (IsAtHome terms) ks → has key ks ≡ true → IsAtHome terms key
home_among terms key [] all there = absurd (false≢true there)
home_among terms key (k ∷ ks) all there = by (same_key key k) refl there (λ behind. home_among terms key ks all.1 behind)
  where
    by : (b : Bool) → same_key key k ≡ b → (b || has key ks) ≡ true → (has key ks ≡ true → IsAtHome terms key) → IsAtHome terms key
    by true is there behind = subst (IsAtHome terms) (sym (same_key-true key k is)) all.0
    by false is there behind = behind there

-- the key of an entry is the shard's
entry_home : (terms : Terms) (past : List Step) (key : QKey) → IsLegalPast terms past → (value : List ℕ) (stamp : ℕ) → entry key past ≡ Some (value, stamp)
    → IsAtHome terms key
entry_home terms past key legal value stamp found =
    home_among terms key (order past) (order_home terms past legal) (order_has past key (ap (λ (o : Option (List ℕ × ℕ)). is_some o) found))

-- the rows of a shard's dump, where its entries that no later commit touches are right
pub to_load : (terms : Terms) (log : List Commit) (shard : ShardView) (dumped : Dumped) (before known_rows : Option Tables) (first opening : Tables)
    → shard.terms ≡ terms → 1 ≤ terms.room → Legal shard.terms shard.history → IsDumped log shard dumped → (IsSome known_rows → IsSome before)
    → opening ≡ rows_after first log → (IsSome before → IsRightBehind first log shard)
    → IsToLoad terms log shard.history known_rows opening dumped.dump.rows
to_load terms log shard dumped before known_rows first opening same some legal is tells anew right =
    let dump = dump_of log shard in
    let rows : dumped.dump.rows ≡ rows_of log (past_of shard) = ap (λ (d : Dump). d.rows) is.dump_is in
    let here = subst (λ (d : Dump). IsDumpText (dump_text d) d) is.dump_is is.right in
    let at : (P : List DumpRow → Type 0) → P (rows_of log (past_of shard)) → P dumped.dump.rows = λ P h. subst P (sym rows) h in
    let home : All (λ (row : DumpRow). IsAtHome terms row.key) (rows_of log (past_of shard)) =
    λ i d below. subst (λ (t : Terms). IsAtHome t (get_or (rows_of log (past_of shard)) i d).key) same (here.rows.each i d below).at_home in
    record {
      rows_are = rows;
      home = at (All (λ (row : DumpRow). IsAtHome terms row.key)) home;
      differ = at (AllPairs (λ (row later : DumpRow). row.key ≢ later.key)) here.rows.differ;
      room = at (λ l. length l ≤ terms.room)
          (subst (λ (t : Terms). length (rows_of log (past_of shard)) ≤ t.room) same
          (rows_in_room log shard legal (subst (λ (t : Terms). 1 ≤ t.room) (sym same) some)));
      answers = λ known_rows. at (All (λ (row : DumpRow). row.value ≡ answer row.key opening))
          (rows_by_entries log (past_of shard) (λ (row : DumpRow). row.value ≡ answer row.key opening)
          (λ key value stamp found none. entry_right key value stamp found none (tells known_rows)) (reverse (order (past_of shard))));
    }
  where
    entry_right : (key : QKey) (value : List ℕ) (stamp : ℕ) → entry key (past_of shard) ≡ Some (value, stamp) → is_touched log key stamp ≡ false
        → IsSome before → value ≡ answer key opening
    entry_right key value stamp found none known_rows =
        right known_rows key value stamp (entry_home shard.terms (past_of shard) key legal value stamp found) found none ∙ ap (answer key) (sym anew)

pub to_load_all : (spec : WorkSpec) (store : StoreView) (shards : List ShardView) (dumps : List Dumped) (known_rows : Option Tables) (opening : Tables)
    → HasRunLoad spec store shards → AreDumped store.ledger.log shards dumps → (IsSome known_rows → IsSome store.known_rows)
    → opening ≡ rows_after store.ledger.opening store.ledger.log → AreToLoad spec (left_by store shards) known_rows opening dumps
to_load_all spec store shards dumps known_rows opening run are tells anew = record {
  as_many = are.as_many ∙ run.as_many;
  histories = length-map shards (λ (s : ShardView). s.history) ∙ run.as_many;
  each = λ place history dumped at here.
      let there = unmapped (λ (s : ShardView). s.history) (slice_get shards place) history
      (sym (slice_get-map (λ (s : ShardView). s.history) shards place) ∙ at) in
      let shard = there.0 in
      let terms = hub_terms (work_shape spec) false place in
      let same : shard.terms ≡ terms =
      at_place (IsNamed (hub_terms (work_shape spec) false)) shards place shard run.all.named there.1
      ∙ ap (hub_terms (work_shape spec) false) (run.all.placed place shard there.1) in
      subst (λ (steps : List Step). IsToLoad terms store.ledger.log steps known_rows opening dumped.dump.rows) there.2
      (to_load terms store.ledger.log shard dumped store.known_rows known_rows store.ledger.opening opening same (omega arith)
      (at_place (λ (s : ShardView). Legal s.terms s.history) shards place shard run.legal there.1)
      (are.each place shard dumped there.1 here) tells anew
      (λ some. at_place (IsRightBehind store.ledger.opening store.ledger.log) shards place shard (run.right some) there.1));
}
  where
    at_place : (P : ShardView → Type 0) (shards : List ShardView) (place : ℕ) (shard : ShardView) → All P shards → slice_get shards place ≡ Some shard → P shard
    at_place P shards place shard all is =
        subst P (get_or_from_slice_get shards place shard shard is) (All-get_or P shards place shard (slice_get_within shards place shard is) all)

    unmapped : (f : ShardView → List Step) (o : Option ShardView) (steps : List Step) → option_map f o ≡ Some steps
        → (shard : ShardView) × (o ≡ Some shard) × (f shard ≡ steps)
    unmapped f None steps is = absurd cc
    unmapped f (Some shard) steps is = (shard, refl, cc)
