-- What a server leaves in the file of its cache.
use Rattle.std.proofs.Common.{ℕ, ◌≡◌, ◌≤◌, ◌<◌, ◌+◌, ◌-◌, ◌^◌, zero, suc, List, [], ◌∷◌, ◌++◌, All, length, length-append, map, get_or, refl, sym, ap, subst, ◌∙◌, inl, inr, arith}
use Rattle.std.proofs.lemmas.Bool.{false≢true}
use Rattle.std.specs.Prelude.{◌≢◌, ◌⊎◌, Bool, true, false, Option, Some, None, IsSome, slice_get, option_map, Vec}
use Rattle.std.specs.Global.{Global}
use Rattle.std.proofs.lemmas.List.{map-append}
use Rattle.std.proofs.lemmas.List.Elements.{All-get_or}
use Rattle.std.proofs.lemmas.Option.{slice_get-map, slice_get_within, get_or_from_slice_get}
use Rattle.iq_outside.specs.Outside.{Rose}
use Rattle.rows_model.specs.Rows.{Tables}
use Rattle.rows_model.specs.Query.{answer}
use Rattle.key_shard.specs.declared.steps.Step.{Step}
use Rattle.key_shard.specs.Answers.{Legal}
use Rattle.key_shard.specs.Past.{Terms}
use Rattle.key_freshness.proofs.KnownLemmas.{stands-pushed, stands-within}
use Rattle.key_shard.specs.Shards.{ShardView, kept_of, past_of}
use Rattle.sql_keeper.specs.declared.faults.KeepFault.{KeepFault}
use Rattle.sql_keeper.specs.declared.faults.KeepFault.TheVariants as causes
use Rattle.sql_keeper.specs.Faults.{has_failed}
use Rattle.sql_keeper.specs.Log.{rows_after}
use Rattle.sql_keeper.specs.Stores.{Ledger, StoreView, rows_of, with_call}
use Rattle.shard_lock.specs.Names.{AreAll, AreLegal, IsNamed, IsNamedStore}
use Rattle.shard_dump.specs.declared.rows.Dump.{Dump}
use Rattle.shard_dump.specs.declared.rows.DumpRow.{DumpRow}
use Rattle.shard_dump.specs.Answered.{AreAmong, IsAnswered, IsAnsweredText, entry_rows}
use Rattle.shard_dump.proofs.AnsweredLemmas.{answered_right}
use Rattle.shard_dump.specs.Texts.{IsDumpText, dump_text}
use Rattle.cache_file.specs.Files.{Told, SameTexts}
use Rattle.cache_file.specs.Texts.{cache_text}
use Rattle.session_client.specs.declared.plans.Shape.{Shape}
use Rattle.run_words.specs.declared.words.ServeSpec.{ServeSpec}
use Rattle.top_run.specs.declared.runs.Status.{Status}
use Rattle.top_run.specs.declared.runs.Status.TheVariants as status
use Rattle.top_run.specs.Plays.{start_status}
use Rattle.top_run.specs.Runs.{Left, kept_in, is_keep_fault}
use Rattle.top_run.specs.Begins.{Files}
use Rattle.top_run.specs.Saves.{EndsSaved, HasText, IsCacheOf, IsDumpedOf, IsSavedText, SavesAt, entries_in, right_in}
use Rattle.conn_server.specs.declared.ends.LineEnd.{LineEnd}
use Rattle.door_workers.specs.DoorSeen.{DoorSeen}
use Rattle.top_run.specs.declared.serves.Begun.{Begun}
use Rattle.top_run.specs.declared.serves.Begun.TheVariants as cache
use Rattle.top_run.specs.Serves.{BeginsBy, IsAttended, IsServedText, serve_rolls, serve_shape}
use Rattle.top_run.specs.Works.{hub_terms}
use Rattle.top_run.proofs.WorkLemmas.{given_up_by, given_up-kept, left_of}

at_place : (P : ShardView → Type 0) (shards : List ShardView) (place : ℕ) (shard : ShardView) → All P shards → slice_get shards place ≡ Some shard → P shard
at_place P shards place shard all is =
    subst P (get_or_from_slice_get shards place shard shard is) (All-get_or P shards place shard (slice_get_within shards place shard is) all)

-- a mapped value is that of a value
unmapped : {X : Type 0} (f : ShardView → X) (o : Option ShardView) (value : X) → option_map f o ≡ Some value
    → (shard : ShardView) × (o ≡ Some shard) × (f shard ≡ value)
unmapped f None value is = absurd cc
unmapped f (Some shard) value is = (shard, refl, cc)

-- the shards of a hub have room for few entries where its shape says so
pub rooms_of : (shape : Shape) (rolls : Bool) (terms : ℕ → Terms) (shards : List ShardView) → ((place : ℕ) → terms place ≡ hub_terms shape rolls place)
    → AreAll terms shards → shape.room ≤ 65536 → All (λ (shard : ShardView). shard.terms.room ≤ 65536) shards
rooms_of shape rolls terms shards are all few = λ place default below.
    let shard = get_or shards place default in
    let same : shard.terms.room ≡ shape.room = ap (λ (t : Terms). t.room) (all.named place default below ∙ are shard.terms.no) in
    omega (arith, same, few)

-- ---- the end of a server that saves nothing

-- all was done
abbrev pub is_done : Status → Bool
is_done status.Done = true
is_done other = false

-- nothing is saved
pub unsaved_at : (path : Option (Vec ℕ Global)) (ended : Status) (spec : ServeSpec) (rows : Option Tables) (left : Left) (old new : Files) → is_done ended ≡ false
    → SameTexts old new → SavesAt path ended spec rows left old new
unsaved_at None ended spec rows left old new undone same = same
unsaved_at (Some path) status.Done spec rows left old new undone same = absurd (false≢true (sym undone))
unsaved_at (Some path) status.Usage spec rows left old new undone same = same
unsaved_at (Some path) (status.Script line kind) spec rows left old new undone same = same
unsaved_at (Some path) status.ReadFault spec rows left old new undone same = same
unsaved_at (Some path) status.WriteFault spec rows left old new undone same = same
unsaved_at (Some path) status.DoorFault spec rows left old new undone same = same
unsaved_at (Some path) status.KeepFault spec rows left old new undone same = same
unsaved_at (Some path) (status.Spent shard) spec rows left old new undone same = same
unsaved_at (Some path) status.FileFault spec rows left old new undone same = same
unsaved_at (Some path) status.Memory spec rows left old new undone same = same

-- what is saved is so since the files had what they had before
pub saves_since : (path : Option (Vec ℕ Global)) (ended : Status) (spec : ServeSpec) (rows : Option Tables) (left : Left) (old mid new : Files)
    → SameTexts old mid → SavesAt path ended spec rows left mid new → SavesAt path ended spec rows left old new
saves_since None ended spec rows left old mid new same h = λ other. h other ∙ same other
saves_since (Some path) status.Done spec rows left old mid new same h =
    record {
      saved = h.saved;
      tells = λ some. h.tells (subst (λ (found : Told). IsSome found) (sym (same path.items)) some);
      others = λ other away. h.others other away ∙ same other;
    }
saves_since (Some path) status.Usage spec rows left old mid new same h = λ other. h other ∙ same other
saves_since (Some path) (status.Script line kind) spec rows left old mid new same h = λ other. h other ∙ same other
saves_since (Some path) status.ReadFault spec rows left old mid new same h = λ other. h other ∙ same other
saves_since (Some path) status.WriteFault spec rows left old mid new same h = λ other. h other ∙ same other
saves_since (Some path) status.DoorFault spec rows left old mid new same h = λ other. h other ∙ same other
saves_since (Some path) status.KeepFault spec rows left old mid new same h = λ other. h other ∙ same other
saves_since (Some path) (status.Spent shard) spec rows left old mid new same h = λ other. h other ∙ same other
saves_since (Some path) status.FileFault spec rows left old mid new same h = λ other. h other ∙ same other
saves_since (Some path) status.Memory spec rows left old mid new same h = λ other. h other ∙ same other

pub rose_since : (old mid new : ℕ) → old ≤ mid → Rose mid new → Rose old new
rose_since old mid new never (inl rose) = inl (omega (arith, never, rose))
rose_since old mid new never (inr last) = inr last

-- a server whose keeper didn't start has saved nothing
pub unstarted : (cause : KeepFault) → is_done (start_status cause) ≡ false
unstarted causes.Failed = refl
unstarted causes.Memory = refl

pub no_file_fault : (cause : KeepFault) → start_status cause ≢ status.FileFault
no_file_fault causes.Failed is = cc
no_file_fault causes.Memory is = cc

-- ---- the end of a server, behind which its cache may be saved

-- it ends as it had ended; or all was done, and the cache wasn't saved
abbrev pub EndsAs : Option (Vec ℕ Global) → Status → Status → Type 0
EndsAs path before after =
    (after ≡ before)
    ⊎ (IsSome path × (before ≡ status.Done) × ((after ≡ status.FileFault) ⊎ ((after ≡ status.KeepFault) ⊎ (after ≡ status.Memory))))

pub ends_as : (path : Option (Vec ℕ Global)) (before after : Status) (known : Option Tables) (rows : Tables) (shards : List ShardView) (old new : Files)
    → EndsSaved path before after known rows shards old new → EndsAs path before after
ends_as None before after known rows shards old new ends = inl ends.0
ends_as (Some path) status.Done status.Done known rows shards old new ends = inl refl
ends_as (Some path) status.Done status.Usage known rows shards old new ends = absurd ends
ends_as (Some path) status.Done (status.Script line kind) known rows shards old new ends = absurd ends
ends_as (Some path) status.Done status.ReadFault known rows shards old new ends = absurd ends
ends_as (Some path) status.Done status.WriteFault known rows shards old new ends = absurd ends
ends_as (Some path) status.Done status.DoorFault known rows shards old new ends = absurd ends
ends_as (Some path) status.Done (status.Spent shard) known rows shards old new ends = absurd ends
ends_as (Some path) status.Done status.FileFault known rows shards old new ends = inr (refl, refl, inl refl)
ends_as (Some path) status.Done status.KeepFault known rows shards old new ends = inr (refl, refl, inr (inl refl))
ends_as (Some path) status.Done status.Memory known rows shards old new ends = inr (refl, refl, inr (inr refl))
ends_as (Some path) status.Usage after known rows shards old new ends = inl ends.0
ends_as (Some path) (status.Script line kind) after known rows shards old new ends = inl ends.0
ends_as (Some path) status.ReadFault after known rows shards old new ends = inl ends.0
ends_as (Some path) status.WriteFault after known rows shards old new ends = inl ends.0
ends_as (Some path) status.DoorFault after known rows shards old new ends = inl ends.0
ends_as (Some path) status.KeepFault after known rows shards old new ends = inl ends.0
ends_as (Some path) (status.Spent shard) after known rows shards old new ends = inl ends.0
ends_as (Some path) status.FileFault after known rows shards old new ends = inl ends.0
ends_as (Some path) status.Memory after known rows shards old new ends = inl ends.0

not_new : (path : Option (Vec ℕ Global)) (begun : Begun) → IsSome path → BeginsBy path begun → begun ≢ cache.New
not_new None begun some begins = absurd (false≢true some)
not_new (Some path) begun some begins = begins

-- what is so of each end that saves nothing is so of it
pub by_end : (P : Status → Type 0) (path : Option (Vec ℕ Global)) (before after : Status) → EndsAs path before after
    → (P status.Done → P status.FileFault) → (P status.Done → P status.KeepFault) → (P status.Done → P status.Memory) → P before → P after
by_end P path before after (inl same) faulty failed short h = subst P (sym same) h
by_end P path before after (inr (some, done, inl is)) faulty failed short h = subst P (sym is) (faulty (subst P done h))
by_end P path before after (inr (some, done, inr (inl is))) faulty failed short h = subst P (sym is) (failed (subst P done h))
by_end P path before after (inr (some, done, inr (inr is))) faulty failed short h = subst P (sym is) (short (subst P done h))

-- what was written is so
text_saved : (path : Option (Vec ℕ Global)) (begun : Begun) (before after : Status) (lines : ℕ) (printed : List ℕ) → BeginsBy path begun
    → EndsAs path before after → IsServedText begun before lines printed → IsServedText begun after lines printed
text_saved path begun before after lines printed begins (inl same) h = subst (λ (e : Status). IsServedText begun e lines printed) (sym same) h
text_saved path begun before after lines printed begins (inr (some, done, inl is)) h =
    subst (λ (e : Status). IsServedText begun e lines printed) (sym is)
    (not_new path begun some begins, subst (λ (e : Status). IsServedText begun e lines printed) done h)
text_saved path begun before after lines printed begins (inr (some, done, inr (inl is))) h =
    subst (λ (e : Status). IsServedText begun e lines printed) (sym is)
    (not_new path begun some begins, subst (λ (e : Status). IsServedText begun e lines printed) done h)
text_saved path begun before after lines printed begins (inr (some, done, inr (inr is))) h =
    subst (λ (e : Status). IsServedText begun e lines printed) (sym is)
    (inr (not_new path begun some begins, subst (λ (e : Status). IsServedText begun e lines printed) done h))

done_before : (path : Option (Vec ℕ Global)) (before after : Status) → EndsAs path before after → after ≡ status.Done → before ≡ status.Done
done_before path before after (inl same) done = sym same ∙ done
done_before path before after (inr (some, is, other)) done = is

-- and what is so of sink, door and lines
pub attended_saved : (spec : ServeSpec) (begun : Begun) (before after : Status) (taken_old taken_new : Option (List ℕ)) (door_before door_after : DoorSeen)
    (ends : List LineEnd) (written : ℕ) → BeginsBy spec.warm begun → EndsAs spec.warm before after
    → IsAttended spec begun before taken_old taken_new door_before door_after ends written
    → IsAttended spec begun after taken_old taken_new door_before door_after ends written
attended_saved spec begun before after taken_old taken_new door_before door_after ends written begins how h = record {
  lines = h.lines;
  few = h.few;
  have_ends = h.have_ends;
  counted = h.counted;
  given_back = h.given_back;
  all = λ done. h.all (done_before spec.warm before after how done);
  printed = h.printed;
  bound = h.bound;
  is_text = text_saved spec.warm begun before after _ h.printed begins how h.is_text;
  prints = h.prints;
}

-- ---- the store once it was asked for the cache

-- where it can't tell, nothing is written
pub asked_in_vain : (path : Vec ℕ Global) (cause : KeepFault) (known : Option Tables) (rows : Tables) (shards : List ShardView) (files : Files)
    → EndsSaved (Some path) status.Done (start_status cause) known rows shards files files
asked_in_vain path causes.Failed known rows shards files = λ other. refl
asked_in_vain path causes.Memory known rows shards files = λ other. refl

-- and the end tells a fault exactly where a call failed
pub failed_as : (cause : KeepFault) → is_keep_fault (start_status cause) ≡ has_failed cause
failed_as causes.Failed = refl
failed_as causes.Memory = refl

pub called_opening : (failed : Bool) (ledger : Ledger) → (with_call failed ledger).opening ≡ ledger.opening
called_opening true ledger = refl
called_opening false ledger = refl

pub called_log : (failed : Bool) (ledger : Ledger) → (with_call failed ledger).log ≡ ledger.log
called_log true ledger = refl
called_log false ledger = refl

pub called_cap : (failed : Bool) (ledger : Ledger) → (with_call failed ledger).cap ≡ ledger.cap
called_cap true ledger = refl
called_cap false ledger = refl

pub called_rows : (failed : Bool) (ledger : Ledger) → rows_of (with_call failed ledger) ≡ rows_of ledger
called_rows true ledger = refl
called_rows false ledger = refl

-- the count of calls that failed stands still at the end of its type, and else only rises
pub called_more : (failed : Bool) (ledger : Ledger) → ledger.failed ≤ 2 ^ 64 - 1 → ledger.failed ≤ (with_call failed ledger).failed
called_more true ledger few = grind (arith, few)
called_more false ledger few = omega arith

-- it is the store that was named, as long as its ledger is
pub still_named : (opening : Tables) (cap : ℕ) (known_rows : Option Tables) (start : Option ℕ) (was now : StoreView) (failed : Bool)
    → now.ledger ≡ with_call failed was.ledger → (IsSome now.known_rows → IsSome was.known_rows) → was.faults ≤ now.faults
    → IsNamedStore opening cap known_rows start was → IsNamedStore opening cap known_rows start now
still_named opening cap known_rows start was now failed called tells never named = record {
  opening_is = ap (λ (l : Ledger). l.opening) called ∙ called_opening failed was.ledger ∙ named.opening_is;
  cap_is = ap (λ (l : Ledger). l.cap) called ∙ called_cap failed was.ledger ∙ named.cap_is;
  known_before = λ some. named.known_before (tells some);
  never_fell = λ first is. let fell = named.never_fell first is in omega (arith, fell, never);
}

-- ---- the text of a cache

-- what is dumped of a shard is so too where the keeper tells less
answered_since : (before after : Option Tables) (rows : Tables) (shard : ShardView) (dump : Dump) → (IsSome after → IsSome before)
    → IsAnswered before rows shard dump → IsAnswered after rows shard dump
answered_since before after rows shard dump tells is = record {
  shard_is = is.shard_is;
  count_is = is.count_is;
  among = is.among;
  right = λ some. is.right (tells some);
}

-- the texts of the dumps of the first shards
pub record AreTexts (known : Option Tables) (rows : Tables) (shards : List ShardView) (count : ℕ) (texts : List (Vec ℕ Global)) : Type 0 where
  pub dumps : List Dump
  pub as_many : length dumps ≡ count
  pub are : map (λ (text : Vec ℕ Global). text.items) texts ≡ map dump_text dumps
  pub each : (place : ℕ) (shard : ShardView) (dump : Dump) → slice_get shards place ≡ Some shard → slice_get dumps place ≡ Some dump
      → IsDumpText (dump_text dump) dump × IsAnswered known rows shard dump

pub no_texts : (known : Option Tables) (rows : Tables) (shards : List ShardView) → AreTexts known rows shards 0 []
no_texts known rows shards = record { dumps = []; as_many = refl; are = refl; each = λ place shard dump at here. absurd (none_there place here) }
  where
    none_there : (place : ℕ) {dump : Dump} → slice_get [] place ≡ Some dump → ⊥
    none_there zero is = cc
    none_there (suc place) is = cc

-- with one more behind them
pub texts_more : (before after : Option Tables) (rows : Tables) (shards : List ShardView) (i : ℕ) (texts : List (Vec ℕ Global)) (shard : ShardView)
    (text : Vec ℕ Global) → (IsSome after → IsSome before) → i < length shards → shard ≡ get_or shards i shard
    → IsAnsweredText after rows shard text.items → AreTexts before rows shards i texts → AreTexts after rows shards (i + 1) (texts ++ text ∷ [])
texts_more before after rows shards i texts shard text tells below is one so_far = record {
  dumps = so_far.dumps ++ one.dump ∷ [];
  as_many = let many = so_far.as_many in length-append so_far.dumps (one.dump ∷ []) ∙ ap (λ (n : ℕ). n + 1) many;
  are = map-append (λ (t : Vec ℕ Global). t.items) texts (text ∷ []) ∙ ap (λ (l : List (List ℕ)). l ++ text.items ∷ []) so_far.are
      ∙ ap (λ (t : List ℕ). map dump_text so_far.dumps ++ t ∷ []) one.is_text.written
      ∙ sym (map-append dump_text so_far.dumps (one.dump ∷ []));
  each = λ place found dump at here. by place found dump at (stands-pushed so_far.dumps one.dump dump place here);
}
  where
    here_now : IsDumpText (dump_text one.dump) one.dump
    here_now = subst (λ (t : List ℕ). IsDumpText t one.dump) one.is_text.written one.is_text

    same_shard : (found : ShardView) (place : ℕ) → slice_get shards place ≡ Some found → place ≡ length so_far.dumps → shard ≡ found
    same_shard found place at last =
        is ∙ ap (λ (n : ℕ). get_or shards n shard) (sym (last ∙ so_far.as_many)) ∙ get_or_from_slice_get shards place found shard at

    by : (place : ℕ) (found : ShardView) (dump : Dump) → slice_get shards place ≡ Some found
        → (slice_get so_far.dumps place ≡ Some dump) ⊎ ((place ≡ length so_far.dumps) × (one.dump ≡ dump))
        → IsDumpText (dump_text dump) dump × IsAnswered after rows found dump
    by place found dump at (inl there) =
        let old = so_far.each place found dump at there in (old.0, answered_since before after rows found dump tells old.1)
    by place found dump at (inr (last, same)) =
        subst (λ (d : Dump). IsDumpText (dump_text d) d × IsAnswered after rows found d) same
        (here_now, subst (λ (s : ShardView). IsAnswered after rows s one.dump) (same_shard found place at last) one.answered)

-- so far they are those of a cache
pub texts_are_cache : (known : Option Tables) (rows : Tables) (shards : List ShardView) (texts : List (Vec ℕ Global)) (text : List ℕ)
    → AreTexts known rows shards (length shards) texts → text ≡ cache_text (map (λ (t : Vec ℕ Global). t.items) texts) → IsCacheOf known rows shards text
texts_are_cache known rows shards texts text are is = record {
  dumps = are.dumps;
  as_many = are.as_many;
  text_is = is ∙ ap cache_text are.are;
  each = are.each;
}

module _ (spec : ServeSpec) (terms : ℕ → Terms) (store : StoreView) (shards : List ShardView)
    (are_terms : (place : ℕ) → terms place ≡ hub_terms (serve_shape spec) serve_rolls place) (all : AreAll terms shards) (many : length shards ≡ spec.shards)
    (legal : AreLegal shards) where
  terms_at : (place : ℕ) (shard : ShardView) → slice_get shards place ≡ Some shard → shard.terms ≡ hub_terms (serve_shape spec) serve_rolls place
  terms_at place shard at = at_place (IsNamed terms) shards place shard all.named at ∙ ap terms (all.placed place shard at) ∙ are_terms place

  -- the dump of a shard is that of the steps that it leaves
  dumped_of : (place : ℕ) (shard : ShardView) (dump : Dump) → slice_get shards place ≡ Some shard
      → IsAnswered store.known_rows (rows_of store.ledger) shard dump
      → IsDumpedOf (hub_terms (serve_shape spec) serve_rolls place) store.known_rows store.ledger.opening store.ledger.log (kept_of shard) dump
  dumped_of place shard dump at is =
      let parts : given_up_by shard ++ kept_of shard ≡ shard.history = given_up-kept shard in
      let rows = rows_after store.ledger.opening store.ledger.log in
      record {
        given_up = given_up_by shard;
        legal = subst (λ (h : List Step). Legal (hub_terms (serve_shape spec) serve_rolls place) h) (sym parts)
            (subst (λ (t : Terms). Legal t shard.history) (terms_at place shard at)
            (at_place (λ (s : ShardView). Legal s.terms s.history) shards place shard legal at));
        among = subst (λ (h : List Step). AreAmong dump.rows (entries_in h)) (sym parts) is.among;
        rows_are = λ some. subst (λ (h : List Step). dump.rows ≡ right_in rows h) (sym parts) (is.right some);
        right = λ some.
            subst (All (λ (row : DumpRow). row.value ≡ answer row.key rows)) (sym (is.right some)) (answered_right rows (entry_rows (past_of shard)));
      }

  -- the text of all dumps is that of what a server leaves
  pub saved_text : (text : List ℕ) → IsCacheOf store.known_rows (rows_of store.ledger) shards text
      → IsSavedText spec store.known_rows (left_of store (kept_in shards)) text
  saved_text text is = record {
    opening = store.ledger.opening;
    opening_is = refl;
    dumps = is.dumps;
    are_dumps = record {
      all = is.as_many ∙ many;
      in_order = λ place dump at.
          let below : place < length shards = subst (λ (n : ℕ). place < n) is.as_many (slice_get_within is.dumps place dump at) in
          let there = stands-within shards place below in
          let shard = there.0 in
          let one = is.each place shard dump there.1 at in
          record {
            shard_is = one.1.shard_is ∙ all.placed place shard there.1;
            count_is = one.1.count_is ∙ at_place (λ (s : ShardView). s.terms.count ≡ length shards) shards place shard all.counted there.1 ∙ many;
            right = one.0.right;
            rows = one.0.rows;
          };
    };
    text_is = is.text_is;
    each = λ place steps dump at here.
        let there = unmapped kept_of (slice_get shards place) steps (sym (slice_get-map kept_of shards place) ∙ at) in
        let shard = there.0 in
        subst (λ (s : List Step). IsDumpedOf (hub_terms (serve_shape spec) serve_rolls place) store.known_rows store.ledger.opening store.ledger.log s dump) there.2
        (dumped_of place shard dump there.1 (is.each place shard dump there.1 here).1);
  }

  -- so what is saved at the end is what the server leaves
  told_text : (found : Told) → HasText (IsCacheOf store.known_rows (rows_of store.ledger) shards) found
      → HasText (IsSavedText spec store.known_rows (left_of store (kept_in shards))) found
  told_text found is = λ known here. let has = is known here in (has.0, has.1, saved_text has.0 has.2)

  pub saves_at : (path : Option (Vec ℕ Global)) (before after : Status) (old new : Files) → EndsSaved path before after store.known_rows (rows_of store.ledger) shards old new
      → SavesAt path after spec store.known_rows (left_of store (kept_in shards)) old new
  saves_at None before after old new ends = ends.1
  saves_at (Some path) status.Done status.Done old new ends = record { saved = told_text (new path.items) ends.0; tells = ends.1; others = ends.2 }
  saves_at (Some path) status.Done status.Usage old new ends = absurd ends
  saves_at (Some path) status.Done (status.Script line kind) old new ends = absurd ends
  saves_at (Some path) status.Done status.ReadFault old new ends = absurd ends
  saves_at (Some path) status.Done status.WriteFault old new ends = absurd ends
  saves_at (Some path) status.Done status.DoorFault old new ends = absurd ends
  saves_at (Some path) status.Done (status.Spent shard) old new ends = absurd ends
  saves_at (Some path) status.Done status.FileFault old new ends = ends
  saves_at (Some path) status.Done status.KeepFault old new ends = ends
  saves_at (Some path) status.Done status.Memory old new ends = ends
  saves_at (Some path) status.Usage after old new ends =
      unsaved_at (Some path) after spec store.known_rows (left_of store (kept_in shards)) old new (ap is_done ends.0) ends.1
  saves_at (Some path) (status.Script line kind) after old new ends =
      unsaved_at (Some path) after spec store.known_rows (left_of store (kept_in shards)) old new (ap is_done ends.0) ends.1
  saves_at (Some path) status.ReadFault after old new ends =
      unsaved_at (Some path) after spec store.known_rows (left_of store (kept_in shards)) old new (ap is_done ends.0) ends.1
  saves_at (Some path) status.WriteFault after old new ends =
      unsaved_at (Some path) after spec store.known_rows (left_of store (kept_in shards)) old new (ap is_done ends.0) ends.1
  saves_at (Some path) status.DoorFault after old new ends =
      unsaved_at (Some path) after spec store.known_rows (left_of store (kept_in shards)) old new (ap is_done ends.0) ends.1
  saves_at (Some path) status.KeepFault after old new ends =
      unsaved_at (Some path) after spec store.known_rows (left_of store (kept_in shards)) old new (ap is_done ends.0) ends.1
  saves_at (Some path) (status.Spent shard) after old new ends =
      unsaved_at (Some path) after spec store.known_rows (left_of store (kept_in shards)) old new (ap is_done ends.0) ends.1
  saves_at (Some path) status.FileFault after old new ends =
      unsaved_at (Some path) after spec store.known_rows (left_of store (kept_in shards)) old new (ap is_done ends.0) ends.1
  saves_at (Some path) status.Memory after old new ends =
      unsaved_at (Some path) after spec store.known_rows (left_of store (kept_in shards)) old new (ap is_done ends.0) ends.1
