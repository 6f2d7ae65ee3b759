-- Each session of a load leaves a step in the kept histories that names it.
use Rattle.std.proofs.Common.{ℕ, suc, ◌≡◌, ◌+◌, ◌-◌, ◌^◌, ◌<◌, ◌≤◌, ◌==◌, Bool, true, false, cond, List, [], ◌∷◌, ◌++◌, All, length, reverse, map, take, drop}
use Rattle.std.proofs.Common.{Option, Some, None, refl, sym, ap, subst, ◌∙◌, inl, inr, ◌⊎◌, ⊎_elim, arith, append_assoc, length-append}
use Rattle.std.specs.Prelude.{count_by, sum_by, slice_get, option_map, is_some}
use Rattle.std.specs.List.{AllByRecursion, IsDistinct, list_any, range_with_len}
use Rattle.std.proofs.lemmas.Bool.{false≢true, cases_Bool, eq-eqb, eqb-true, lt-ltb, or_left, or_right}
use Rattle.std.proofs.lemmas.List.{append-nil, drop_all, drop_at, length-map, length-reverse, reverse-append, reverse-reverse, take_all}
use Rattle.std.proofs.lemmas.List.Elements.{All-get_or, All-head, All-tail, All-weaker}
use Rattle.std.proofs.lemmas.List.Sorted.{list_any-IsPermutation, IsPermutation-reverse}
use Rattle.std.proofs.lemmas.List.Sums.{sum_by-cons}
use Rattle.std.proofs.lemmas.Map.Keys.{IsDistinct-cons, IsDistinct-head, IsDistinct-tail}
use Rattle.std.proofs.lemmas.Option.{same_Some, slice_get-map, slice_get_within, get_or_from_slice_get}
use Rattle.rows_model.specs.declared.keys.QKey.{QKey}
use Rattle.rows_model.specs.declared.keys.Sid.{Sid}
use Rattle.rows_model.specs.declared.keys.Kind.TheVariants.{Profile, Blocked}
use Rattle.rows_model.specs.declared.changes.Change.{Change}
use Rattle.rows_model.specs.declared.changes.Change.TheVariants.{Invite, Accept, Reject, Thaw, Rename, Block}
use Rattle.rows_model.specs.Changes.{IsTxn, foot_of, footprint, has_key, touches}
use Rattle.rows_model.specs.Key.{same_key}
use Rattle.rows_model.specs.Placement.{shard_of}
use Rattle.rows_model.specs.Rows.{Tables}
use Rattle.rows_model.proofs.FootprintLemmas.{footprints_are_exact_is}
use Rattle.rows_model.proofs.PlacementLemmas.{shard_below}
use Rattle.rows_model.proofs.SameKey.{same_key-refl}
use Rattle.lease_table.specs.declared.records.Mode.{Mode}
use Rattle.lease_table.specs.declared.records.Mode.TheVariants.{Invalidate, Refresh, Delta}
use Rattle.key_shard.specs.declared.replies.ShardFault.TheVariants as faults
use Rattle.key_shard.specs.declared.steps.Ended.{Ended}
use Rattle.key_shard.specs.declared.steps.Ended.TheVariants as ended
use Rattle.key_shard.specs.declared.steps.Step.{Step}
use Rattle.key_shard.specs.declared.steps.Step.TheVariants as step
use Rattle.key_shard.specs.Past.{Terms, draws, entry}
use Rattle.key_shard.specs.Shards.{ShardView}
use Rattle.sql_keeper.specs.Stores.{StoreView}
use Rattle.session_client.specs.declared.plans.Plan.{Plan}
use Rattle.session_client.specs.declared.plans.Plan.TheVariants.{Read, Write}
use Rattle.session_client.specs.declared.replies.Fault.{Fault}
use Rattle.session_client.specs.declared.replies.Fault.TheVariants as fault
use Rattle.session_client.specs.declared.replies.Outcome.{Outcome}
use Rattle.session_client.specs.declared.replies.Reply.{Reply}
use Rattle.session_client.specs.declared.replies.Wanted.TheVariants as wanted
use Rattle.session_client.specs.Belongs.{Belongs}
use Rattle.session_client.specs.Desks.{Exchange, Began, Asked, IsFirst}
use Rattle.session_client.specs.Plans.{IsPlan, mode_on, writes}
use Rattle.session_client.specs.Wants.{wants, done_by, is_nothing, has_all, quarantine_as, quarantine_or_then, after_fault, fault_outcome, writing_of}
use Rattle.key_shard.proofs.LegalLemmas.{every-append}
use Rattle.key_freshness.specs.Marks.{key_of}
use Rattle.key_freshness.proofs.KnownLemmas.{stands-within}
use Rattle.core_history.proofs.ListLemmas.{count-append}
use Rattle.rows_model.proofs.FitLemmas.{count_cons}
use Rattle.log_word.specs.declared.events.Short.{Short}
use Rattle.log_word.specs.declared.events.ShortKind.{ShortKind}
use Rattle.log_word.specs.declared.events.ShortKind.TheVariants as kinds
use Rattle.log_word.specs.declared.events.StoreEvent.{StoreEvent}
use Rattle.log_word.specs.declared.events.StoreEvent.TheVariants.{Begin}
use Rattle.log_word.specs.declared.seen.Seen.{Seen}
use Rattle.log_word.specs.Events.{begins, has_begun, AreInOrder, MayFollow}
use Rattle.log_word.specs.Lists.{Among, IsStart, steps_of}
use Rattle.log_word.specs.Passes.{PassView}
use Rattle.log_word.specs.Steps.{IsBeginning}
use Rattle.log_word.proofs.StartLemmas.{all_mono, start_trans}
use Rattle.log_word.proofs.ViewLemmas.{beginning_same}
use Rattle.shard_lock.specs.Names.{AreAll}
use Rattle.bound_hub.specs.Parts.{IsLeft}
use Rattle.bound_hub.specs.Shorts.{kind_of_end, short_of, shorts_of}
use Rattle.bound_hub.specs.Spent.{SeesSpent}
use Rattle.bound_desk.specs.Bound.{BoundDeskView}
use Rattle.bound_desk.specs.Records.{has_session, IsNamed, ShowsFirst, began_in, AreCallsSeen, IsRecordSeen}
use Rattle.bound_desk.proofs.RecordLemmas.{among_goes_on, record_goes_on}
use Rattle.gate_workers.specs.Rows.{DeskView, RowView, Went, IsRow, AreRows, AllWork, short_of_memory, with_calls, desk_view}
use Rattle.run_audit.specs.Findings.{histories_in}
use Rattle.run_inputs.specs.declared.loads.WorkSpec.{WorkSpec}
use Rattle.run_inputs.specs.Loads.{IsWork, load, plan_at, sessions_of}
use Rattle.run_inputs.proofs.LoadLemmas.{plan_at_is}
use Rattle.top_run.specs.Ready.{AreNewDesks, AreNewViews, AreRecorded, AsksFirst, HaveWorked}
use Rattle.top_run.specs.Works.{names, AreUnspent, IsNamedIn}
use Rattle.top_run.specs.Warming.{HaveRunSince, since_of, since_in}

-- ---- what a session asks for first

-- each change touches a key
foot_key : (change : Change) → (key : QKey) × (has_key key (foot_of change) ≡ true)
foot_key (Invite a b) = let key : QKey = record { kind = Profile; id = b } in (key, or_left (same_key key key) _ (same_key-refl key))
foot_key (Accept a b) = let key : QKey = record { kind = Profile; id = a } in (key, or_left (same_key key key) _ (same_key-refl key))
foot_key (Reject a b) = let key : QKey = record { kind = Profile; id = b } in (key, or_left (same_key key key) _ (same_key-refl key))
foot_key (Thaw a b) = let key : QKey = record { kind = Profile; id = a } in (key, or_left (same_key key key) _ (same_key-refl key))
foot_key (Rename a name) = let key : QKey = record { kind = Profile; id = a } in (key, or_left (same_key key key) _ (same_key-refl key))
foot_key (Block a b) = let key : QKey = record { kind = Blocked; id = a } in (key, or_left (same_key key key) _ (same_key-refl key))

-- so does each transaction
txn_key : (txn : List Change) → IsTxn txn → (key : QKey) × (touches txn key ≡ true)
txn_key [] h = let some = h.some in absurd (omega (arith, some))
txn_key (change ∷ more) h = let one = foot_key change in (one.0, or_left (has_key one.0 (foot_of change)) _ one.1)

-- some keys have a first
some_key : (keys : List QKey) (key : QKey) → has_key key keys ≡ true → (first : QKey) × (rest : List QKey) × (keys ≡ first ∷ rest)
some_key [] key h = absurd (false≢true h)
some_key (first ∷ rest) key h = (first, rest, refl)

first_key : (txn : List Change) → IsTxn txn → (first : QKey) × (rest : List QKey) × (footprint txn ≡ first ∷ rest)
first_key txn h = let touched = txn_key txn h in some_key (footprint txn) touched.0 ((footprints_are_exact_is txn).exact touched.0 ∙ touched.1)

quarantine_is_first : (mode : Mode) (key : QKey) (txn : List Change) → IsFirst true (quarantine_as mode key txn)
quarantine_is_first Invalidate key txn = tt
quarantine_is_first Refresh key txn = tt
quarantine_is_first Delta key txn = tt

-- a reader gets its key, and a writer quarantines the first of its keys
asks_first : (plan : Plan) → AsksFirst plan → IsFirst (writes plan) (wants plan false [])
asks_first (Read key floor) h = tt
asks_first (Write mode txn) h =
    let first = first_key txn h in
    subst (λ keys. IsFirst true (quarantine_or_then (writing_of (Write mode txn)) [] (slice_get keys 0))) (sym first.2)
    (quarantine_is_first (mode_on mode first.0) first.0 txn)
asks_first other h = absurd h

-- ---- what it is told first

-- the first of what was heard, which is listed with the latest first
abbrev FirstHeard : Reply → List Reply → Type 0
FirstHeard reply [] = ⊥
FirstHeard reply (last ∷ []) = last ≡ reply
FirstHeard reply (last ∷ (next ∷ heard)) = FirstHeard reply (next ∷ heard)

-- a session that has heard something began, and asked for the first thing that it wants
record HasAsked (who : Sid) (plan : Plan) (heard : List Reply) (calls : List Exchange) : Type 0 where
  reply : Reply
  rest : List Exchange
  calls_are : calls ≡ rest ++ Asked who (wants plan false []) reply ∷ Began (writes plan) who ∷ []
  first : FirstHeard reply heard
  none_began : began_in rest ≡ []

has_asked : (who : Sid) (plan : Plan) (short : Bool) (last : Reply) (heard : List Reply) (calls : List Exchange)
    → Went who plan short (last ∷ heard) calls → HasAsked who plan (last ∷ heard) calls
has_asked who plan short last [] calls h = record {
  reply = last;
  rest = [];
  calls_are = h.6 ∙ (λ i. Asked who (wants plan (h.2.0 i) []) last ∷ h.2.1 i);
  first = refl;
  none_began = refl;
}
has_asked who plan short last (next ∷ heard) calls h =
    let e = has_asked who plan h.0 next heard h.1 h.2 in
    let call : Exchange = Asked who (wants plan h.0 (next ∷ heard)) last in
    record {
      reply = e.reply;
      rest = call ∷ e.rest;
      calls_are = h.6 ∙ ap (λ l. call ∷ l) e.calls_are;
      first = e.first;
      none_began = e.none_began;
    }

-- one whose plan asks first has heard something once it wants nothing more
has_heard : (who : Sid) (plan : Plan) (short : Bool) (heard : List Reply) (calls : List Exchange) → AsksFirst plan
    → Went who plan short heard calls → wants plan short heard ≡ wanted.Nothing → HasAsked who plan heard calls
has_heard who plan short [] calls asks h over =
    absurd (none_first (writes plan) (subst (IsFirst (writes plan)) (ap (λ s. wants plan s []) (sym h.0) ∙ over) (asks_first plan asks)))
  where
    none_first : (writing : Bool) → IsFirst writing wanted.Nothing → ⊥
    none_first true f = f
    none_first false f = f
has_heard who plan short (last ∷ heard) calls asks h over = has_asked who plan short last heard calls h

-- ---- where memory ran out at once

failed_same : (a b : Outcome) → Some a ≡ Some b → b ≡ a
failed_same a b e = sym (same_Some a b e)

-- a reader that is told of a fault wants nothing more
read_alone : (who : Sid) (key : QKey) (floor : ℕ) (cause : Fault) (short : Bool) (last : Reply) (heard : List Reply) (calls : List Exchange)
    → Went who (Read key floor) short (last ∷ heard) calls → FirstHeard (Reply.Fault cause) (last ∷ heard) → heard ≡ []
read_alone who key floor cause short last [] calls h first = refl
read_alone who key floor cause short last (next ∷ heard) calls h first =
    let alone = read_alone who key floor cause h.0 next heard h.1 h.2 first in
    let is : next ≡ Reply.Fault cause = subst (λ l. FirstHeard (Reply.Fault cause) (next ∷ l)) alone first in
    absurd (h.3 ((λ i. wants (Read key floor) h.0 (is i ∷ alone i))))

-- a writer that is told of one at once ends its session, and wants nothing more
none_had : (txn : List Change) (mode : Mode) → IsTxn txn → has_all (writing_of (Write mode txn)) [] ≡ false
none_had txn mode h =
    let long = ap length (first_key txn h).2 in
    ap (λ b. cond b false true) (lt-ltb 0 (length (footprint txn)) (omega (arith, long)))

ended_only : (who : Sid) (reply : Reply) → Belongs who wanted.End reply → (was : Bool) × (reply ≡ Reply.End was)
ended_only who (Reply.End was) h = (was, refl)
ended_only who other h = absurd h

write_alone : (who : Sid) (mode : Mode) (txn : List Change) (cause : Fault) (short : Bool) (last : Reply) (heard : List Reply) (calls : List Exchange)
    → IsTxn txn → Went who (Write mode txn) short (last ∷ heard) calls → FirstHeard (Reply.Fault cause) (last ∷ heard)
    → (heard ≡ []) ⊎ ((was : Bool) × (last ∷ heard ≡ Reply.End was ∷ Reply.Fault cause ∷ []))
write_alone who mode txn cause short last [] calls is h first = inl refl
write_alone who mode txn cause short last (next ∷ heard) calls is h first =
    ⊎_elim
    (λ alone.
    let same : next ≡ Reply.Fault cause = subst (λ l. FirstHeard (Reply.Fault cause) (next ∷ l)) alone first in
    let asked : wants (Write mode txn) h.0 (next ∷ heard) ≡ wanted.End =
    (λ i. wants (Write mode txn) h.0 (same i ∷ alone i)) ∙ ap (λ b. after_fault b (writing_of (Write mode txn)) []) (none_had txn mode is) in
    let was = ended_only who last (subst (λ w. Belongs who w last) asked h.4) in
    inr (was.0, λ i. was.1 i ∷ same i ∷ alone i))
    (λ two. absurd (h.3 (ap (wants (Write mode txn) h.0) two.1)))
    (write_alone who mode txn cause h.0 next heard h.1 is h.2 first)

-- so a session whose first request was told of want of memory failed for it
memory_ended : (who : Sid) (plan : Plan) (short : Bool) (heard : List Reply) (calls : List Exchange) (over : Outcome) → AsksFirst plan
    → Went who plan short heard calls → wants plan short heard ≡ wanted.Nothing → done_by plan short heard ≡ Some over
    → FirstHeard (Reply.Fault fault.Memory) heard → over ≡ short_of_memory
memory_ended who plan short [] calls over asks h none done first = absurd first
memory_ended who (Read key floor) short (last ∷ heard) calls over asks h none done first =
    let alone = read_alone who key floor fault.Memory short last heard calls h first in
    let same : last ≡ Reply.Fault fault.Memory = subst (λ l. FirstHeard (Reply.Fault fault.Memory) (last ∷ l)) alone first in
    failed_same short_of_memory over (sym (λ i. done_by (Read key floor) short (same i ∷ alone i)) ∙ done)
memory_ended who (Write mode txn) short (last ∷ heard) calls over asks h none done first =
    let writing = writing_of (Write mode txn) in
    ⊎_elim
    (λ alone.
    let same : last ≡ Reply.Fault fault.Memory = subst (λ l. FirstHeard (Reply.Fault fault.Memory) (last ∷ l)) alone first in
    let ends : wants (Write mode txn) short (last ∷ heard) ≡ wanted.End =
    (λ i. wants (Write mode txn) short (same i ∷ alone i)) ∙ ap (λ b. after_fault b writing []) (none_had txn mode asks) in
    let no : wanted.End ≡ wanted.Nothing = sym ends ∙ none in
    absurd (false≢true (ap is_nothing no)))
    (λ two.
    let outcome_is : done_by (Write mode txn) short (last ∷ heard) ≡ Some short_of_memory =
    ap (done_by (Write mode txn) short) two.1 ∙ ap (λ b. fault_outcome b short_of_memory None) (none_had txn mode asks) in
    failed_same short_of_memory over (sym outcome_is ∙ done))
    (write_alone who mode txn fault.Memory short last heard calls asks h first)
memory_ended who plan short (last ∷ heard) calls over asks h none done first = absurd asks

-- ---- a step in short that names a session is of a step that names it

short_names : (s : Step) (has : Bool) (who : Sid) → has_session (short_of s has).kind ≡ true → (short_of s has).sid ≡ who → names who s ≡ true
short_names (step.Hit on sid floor value stamp) has who kind is = eq-eqb sid.number who.number (ap (λ (s : Sid). s.number) is)
short_names (step.Lease on sid floor now token deadline) has who kind is = eq-eqb sid.number who.number (ap (λ (s : Sid). s.number) is)
short_names (step.Again on sid floor now stands) has who kind is = eq-eqb sid.number who.number (ap (λ (s : Sid). s.number) is)
short_names (step.Own on sid) has who kind is = eq-eqb sid.number who.number (ap (λ (s : Sid). s.number) is)
short_names (step.Stored on token now value stamp evicted) has who kind is = absurd (false≢true kind)
short_names (step.Void on token now) has who kind is = absurd (false≢true kind)
short_names (step.Granted on sid mode shift now token deadline) has who kind is = eq-eqb sid.number who.number (ap (λ (s : Sid). s.number) is)
short_names (step.Held on sid mode) has who kind is = eq-eqb sid.number who.number (ap (λ (s : Sid). s.number) is)
short_names (step.Refused on sid mode holder held) has who kind is = eq-eqb sid.number who.number (ap (λ (s : Sid). s.number) is)
short_names (step.Released on sid token how) has who kind is = eq-eqb sid.number who.number (ap (λ (s : Sid). s.number) is)
short_names (step.Gone on sid token) has who kind is = eq-eqb sid.number who.number (ap (λ (s : Sid). s.number) is)
short_names (step.Raised on sid token) has who kind is = eq-eqb sid.number who.number (ap (λ (s : Sid). s.number) is)
short_names (step.Shared on sid token holder) has who kind is = eq-eqb sid.number who.number (ap (λ (s : Sid). s.number) is)
short_names (step.Renewed on sid token now deadline) has who kind is = eq-eqb sid.number who.number (ap (λ (s : Sid). s.number) is)

step_names : (before more : List Step) (who : Sid) (short : Short) → Among short (shorts_of before more) → has_session short.kind ≡ true
    → short.sid ≡ who → list_any (names who) more ≡ true
step_names before [] who short h kind is = absurd h
step_names before (s ∷ more) who short h kind is =
    ⊎_elim
    (λ here.
    or_left (names who s) (list_any (names who) more)
    (short_names s _ who (subst (λ (x : Short). has_session x.kind ≡ true) (sym here) kind) (ap (λ (x : Short). x.sid) here ∙ is)))
    (λ there. or_right (names who s) (list_any (names who) more) (step_names before more who short there kind is))
    h

-- ---- tokens that were drawn, told by the steps in short

abbrev draws_kind : ShortKind → Bool
draws_kind kinds.Lease = true
draws_kind kinds.Granted = true
draws_kind other = false

abbrev draws_short : Short → Bool
draws_short short = draws_kind short.kind

end_draws : (how : Ended) → draws_kind (kind_of_end how) ≡ false
end_draws ended.Keep = refl
end_draws ended.Drop = refl
end_draws (ended.Put value stamp evicted) = refl
end_draws (ended.Shift by stamp) = refl

short_draws : (s : Step) (has : Bool) → draws_short (short_of s has) ≡ draws s
short_draws (step.Hit on sid floor value stamp) has = refl
short_draws (step.Lease on sid floor now token deadline) has = refl
short_draws (step.Again on sid floor now stands) has = refl
short_draws (step.Own on sid) has = refl
short_draws (step.Stored on token now value stamp evicted) has = refl
short_draws (step.Void on token now) has = refl
short_draws (step.Granted on sid mode shift now token deadline) has = refl
short_draws (step.Held on sid mode) has = refl
short_draws (step.Refused on sid mode holder held) has = refl
short_draws (step.Released on sid token how) has = end_draws how
short_draws (step.Gone on sid token) has = refl
short_draws (step.Raised on sid token) has = refl
short_draws (step.Shared on sid token holder) has = refl
short_draws (step.Renewed on sid token now deadline) has = refl

shorts_draw : (before more : List Step) → count_by draws_short (shorts_of before more) ≡ count_by draws more
shorts_draw before [] = refl
shorts_draw before (s ∷ more) =
    let has = is_some (entry (key_of s) (s ∷ more ++ before)) in
    count_cons draws_short (short_of s has) (shorts_of before more)
    ∙ (λ i. cond (short_draws s has i) 1 0 + shorts_draw before more i)
    ∙ sym (count_cons draws s more)

-- what comes later gives no token back
start_draws : (before early late : List Step) → IsStart (shorts_of before early) (shorts_of before late) → count_by draws early ≤ count_by draws late
start_draws before early late h =
    let all : count_by draws_short (shorts_of before late) ≡ count_by draws_short h.0 + count_by draws_short (shorts_of before early) =
    ap (count_by draws_short) h.1 ∙ count-append draws_short h.0 (shorts_of before early) in
    let one = shorts_draw before early in
    let other = shorts_draw before late in
    omega (arith, all, one, other)

reverse_draws : (past : List Step) → count_by draws (reverse past) ≡ count_by draws past
reverse_draws [] = refl
reverse_draws (s ∷ past) =
    let parts : count_by draws (reverse (s ∷ past)) ≡ count_by draws (reverse past) + count_by draws (s ∷ []) =
    ap (count_by draws) (reverse-append (s ∷ []) past) ∙ count-append draws (reverse past) (s ∷ []) in
    let rest = reverse_draws past in
    let one = count_cons draws s [] in
    let all = count_cons draws s past in
    omega (arith, parts, rest, one, all)

-- ---- what a hub leaves

-- the steps of a shard since it was handed in are those behind the steps before
since_is : (before : ℕ → List Step) (shard : ShardView) (more : List Step) → reverse shard.history ≡ more ++ before shard.terms.no
    → reverse (since_of before shard) ≡ more
since_is before shard more goes_on =
    let base = before shard.terms.no in
    let whole : shard.history ≡ reverse base ++ reverse more =
    sym (reverse-reverse shard.history) ∙ ap (λ (l : List Step). reverse l) goes_on ∙ reverse-append more base in
    let behind : since_of before shard ≡ reverse more =
    ap (λ (l : List Step). drop (length base) l) whole
    ∙ drop_at (reverse base) (reverse more) (length base) (omega (arith, length-reverse base)) in
    ap (λ (l : List Step). reverse l) behind ∙ reverse-reverse more

module _ (opening : Tables) (terms : ℕ → Terms) (before : ℕ → List Step)
    (from_one : (place : ℕ) → (terms place).first ≡ 1) (store : StoreView) (seen : Seen) (shards : List ShardView) (all : AreAll terms shards)
    (left : All (IsLeft opening before store seen) shards) where
  at_place : (P : ShardView → Type 0) (place : ℕ) (shard : ShardView) → All P shards → slice_get shards place ≡ Some shard → P shard
  at_place P place shard each is =
      subst P (get_or_from_slice_get shards place shard shard is) (All-get_or P shards place shard (slice_get_within shards place shard is) each)

  -- the shard of a key
  record HasHome (key : QKey) : Type 0 where
    shard : ShardView
    there : slice_get shards (shard_of key (length shards)) ≡ Some shard
    number : shard.terms.no ≡ shard_of key (length shards)
    kept : IsLeft opening before store seen shard

  home_of : (key : QKey) → HasHome key
  home_of key =
      let home = shard_of key (length shards) in
      let there = stands-within shards home (shard_below key (length shards) all.some) in
      record {
        shard = there.0;
        there = there.1;
        number = all.placed home there.0 there.1;
        kept = at_place (IsLeft opening before store seen) home there.0 left there.1;
      }

  all_since : (shard : ShardView) (kept : IsLeft opening before store seen shard) → reverse (since_of before shard) ≡ kept.more
  all_since shard kept = since_is before shard kept.more kept.goes_on

  -- a session that a step names that was seen is named in the histories
  named_in : (who : Sid) (old : Seen) → IsBeginning old seen → IsNamed (length shards) who old → IsNamedIn (since_in before shards) who
  named_in who old begins h =
      let home = home_of h.step.key in
      let shard = home.shard in
      let number = shard.terms.no in
      let place = shard_of h.step.key (length shards) in
      let in_seen : Among h.step (steps_of number seen.steps) =
      subst (λ n. Among h.step (steps_of n seen.steps)) (sym home.number)
      (among_goes_on h.step (steps_of place old.steps) (steps_of place seen.steps) (begins.steps place) h.among) in
      let in_more = among_goes_on h.step (steps_of number seen.steps) (shorts_of (before number) home.kept.more) home.kept.shorts_are in_seen in
      record {
        place = place;
        history = since_of before shard;
        there = slice_get-map (since_of before) shards place ∙ ap (λ (o : Option ShardView). option_map (since_of before) o) home.there;
        named = list_any-IsPermutation (names who) (since_of before shard) (reverse (since_of before shard)) (IsPermutation-reverse (since_of before shard))
            ∙ ap (list_any (names who)) (all_since shard home.kept) ∙ step_names (before number) home.kept.more who h.step in_more h.kind h.named;
      }

  -- no shard is seen to have no token left, where none has drawn its last
  not_spent : AreUnspent (histories_in shards) → (key : QKey) (old : Seen) → IsBeginning old seen
      → SeesSpent terms before (shard_of key (length shards)) old (faults.Spent 0) → ⊥
  not_spent unspent key old begins h =
      let home = home_of key in
      let shard = home.shard in
      let number = shard.terms.no in
      let place = shard_of key (length shards) in
      let begins_all : IsStart (shorts_of (before place) h.more) (shorts_of (before place) home.kept.more) =
      start_trans (shorts_of (before place) h.more) (steps_of place old.steps) (shorts_of (before place) home.kept.more) h.shorts_are
      (start_trans (steps_of place old.steps) (steps_of place seen.steps) (shorts_of (before place) home.kept.more) (begins.steps place)
      (subst (λ n. IsStart (steps_of n seen.steps) (shorts_of (before n) home.kept.more)) home.number home.kept.shorts_are)) in
      let few : count_by draws shard.history < 2 ^ 64 - 2 =
      subst (λ (history : List Step). count_by draws history < 2 ^ 64 - 2)
      (get_or_from_slice_get (histories_in shards) place shard.history shard.history in_place)
      (All-get_or (λ (history : List Step). count_by draws history < 2 ^ 64 - 2) (histories_in shards) place shard.history
      (slice_get_within (histories_in shards) place shard.history in_place) unspent) in
      let some = start_draws (before place) h.more home.kept.more begins_all in
      let here : count_by draws shard.history ≡ count_by draws home.kept.more + count_by draws (before number) =
      sym (reverse_draws shard.history) ∙ ap (count_by draws) home.kept.goes_on ∙ count-append draws home.kept.more (before number) in
      let same : count_by draws (before number) ≡ count_by draws (before place) = ap (λ n. count_by draws (before n)) home.number in
      let drawn : count_by draws (h.more ++ before place) ≡ count_by draws h.more + count_by draws (before place) =
      count-append draws h.more (before place) in
      let last = h.last in
      let first = from_one place in
      omega (arith, few, some, here, same, drawn, last, first)
    where
      in_place : slice_get (histories_in shards) (shard_of key (length shards)) ≡ Some (home_of key).shard.history
      in_place = slice_get-map (λ (s : ShardView). s.history) shards (shard_of key (length shards))
          ∙ ap (λ (o : Option ShardView). option_map (λ (s : ShardView). s.history) o) (home_of key).there

  -- ---- the sessions of a worker

  -- what a first request leaves is a step that names the session, unless memory ran out
  first_is_named : (who : Sid) (reply : Reply) → AreUnspent (histories_in shards) → ShowsFirst terms before (length shards) who reply seen
      → (reply ≡ Reply.Fault fault.Memory → ⊥) → IsNamedIn (since_in before shards) who
  first_is_named who (Reply.Fault fault.Memory) unspent h had = absurd (had refl)
  first_is_named who (Reply.Fault fault.Keep) unspent h had = absurd h
  first_is_named who (Reply.Fault fault.Spent) unspent h had = absurd (not_spent unspent h.0 seen (beginning_same seen) h.1)
  first_is_named who other unspent h had = named_in who seen (beginning_same seen) h

  calls_behind : (worker : ℕ) (more calls : List Exchange) → AreCallsSeen terms before (length shards) worker (more ++ calls) seen
      → AreCallsSeen terms before (length shards) worker calls seen
  calls_behind worker [] calls h = h
  calls_behind worker (call ∷ more) calls h = calls_behind worker more calls h.1

  began_both : (more calls : List Exchange) → began_in (more ++ calls) ≡ began_in more ++ began_in calls
  began_both [] calls = refl
  began_both (Began writes who ∷ more) calls = ap (λ l. who ∷ l) (began_both more calls)
  began_both (Asked who request reply ∷ more) calls = began_both more calls

  -- a session of a row is named, and is the one that its calls began
  row_is_named : (worker : ℕ) (plan : Plan) (calls behind : List Exchange) (row : RowView) → AsksFirst plan → AreUnspent (histories_in shards)
      → IsRow plan calls row → AreCallsSeen terms before (length shards) worker (calls ++ behind) seen
      → IsNamedIn (since_in before shards) row.sid × (began_in calls ≡ row.sid ∷ [])
  row_is_named worker plan calls behind row asks unspent is h =
      let run = is.has_run in
      let asked = has_heard row.sid plan run.short run.heard calls asks run.went run.over in
      let call : Exchange = Asked row.sid (wants plan false []) asked.reply in
      let begin : Exchange = Began (writes plan) row.sid in
      let whole : calls ++ behind ≡ asked.rest ++ (call ∷ begin ∷ behind) =
      ap (λ l. l ++ behind) asked.calls_are ∙ append_assoc asked.rest (call ∷ begin ∷ []) behind in
      let here = calls_behind worker asked.rest (call ∷ begin ∷ behind)
      (subst (λ l. AreCallsSeen terms before (length shards) worker l seen) whole h) in
      let shows = here.0 (row.sid, writes plan) refl refl (asks_first plan asks) in (
        first_is_named row.sid asked.reply unspent shows
            (λ memory. is.had_memory (memory_ended row.sid plan run.short run.heard calls row.outcome asks run.went run.over run.ended
            (subst (λ t. FirstHeard t run.heard) memory asked.first))),
        ap began_in asked.calls_are ∙ began_both asked.rest (call ∷ begin ∷ []) ∙ ap (λ l. l ++ row.sid ∷ []) asked.none_began,
      )

  -- so are all sessions of a worker
  record AreNamed (plans : List Plan) (calls : List Exchange) : Type 0 where
    named : AllByRecursion (IsNamedIn (since_in before shards)) (began_in calls)
    as_many : length (began_in calls) ≡ length plans

  rows_are_named : (worker : ℕ) (plans : List Plan) (calls behind : List Exchange) (rows : List RowView) → AllByRecursion AsksFirst plans
      → AreUnspent (histories_in shards) → AreRows plans calls rows → AreCallsSeen terms before (length shards) worker (calls ++ behind) seen
      → AreNamed plans calls
  rows_are_named worker [] calls behind [] asks unspent h seen_calls =
      record { named = subst (λ l. AllByRecursion (IsNamedIn (since_in before shards)) (began_in l)) (sym h) tt; as_many = ap (λ l. length (began_in l)) h }
  rows_are_named worker [] calls behind (row ∷ rows) asks unspent h seen_calls = absurd h
  rows_are_named worker (plan ∷ plans) calls behind [] asks unspent h seen_calls = absurd h
  rows_are_named worker (plan ∷ plans) calls behind (row ∷ rows) asks unspent h seen_calls =
      let first = h.0 in
      let later = h.1 in
      let whole : calls ++ behind ≡ later ++ (first ++ behind) = ap (λ l. l ++ behind) h.4 ∙ append_assoc later first behind in
      let parts = subst (λ l. AreCallsSeen terms before (length shards) worker l seen) whole seen_calls in
      let one = row_is_named worker plan first behind row asks.0 unspent h.2 (calls_behind worker later (first ++ behind) parts) in
      let rest = rows_are_named worker plans later (first ++ behind) rows asks.1 unspent h.3 parts in
      let began : began_in calls ≡ began_in later ++ row.sid ∷ [] =
      ap began_in h.4 ∙ began_both later first ∙ ap (λ l. began_in later ++ l) one.1 in
      record {
        named = subst (AllByRecursion (IsNamedIn (since_in before shards))) (sym began)
            (every-append (IsNamedIn (since_in before shards)) (began_in later) (row.sid ∷ []) rest.named (one.0, tt));
        as_many =
            let many = ap (λ (l : List Sid). length l) began ∙ length-append (began_in later) (row.sid ∷ []) in
            let less = rest.as_many in omega (arith, many, less);
      }

  -- ---- the sessions of all workers

  -- a worker of at least this number began the session
  record IsBegunFrom (least : ℕ) (who : Sid) : Type 0 where
    worker : ℕ
    writes_it : Bool
    above : least ≤ worker
    begin : Among (Begin who worker writes_it) seen.events

  began_by : (worker : ℕ) (calls : List Exchange) → AreCallsSeen terms before (length shards) worker calls seen
      → AllByRecursion (λ who. (writing : Bool) × Among (Begin who worker writing) seen.events) (began_in calls)
  began_by worker [] h = tt
  began_by worker (Began writing who ∷ calls) h = ((writing, h.0), began_by worker calls h.1)
  began_by worker (Asked who request reply ∷ calls) h = began_by worker calls h.1

  begun_from : (worker : ℕ) (calls : List Exchange) → AreCallsSeen terms before (length shards) worker calls seen
      → AllByRecursion (IsBegunFrom worker) (began_in calls)
  begun_from worker calls h =
      all_mono (λ who one. record { worker = worker; writes_it = one.0; above = omega arith; begin = one.1 }) (began_in calls) (began_by worker calls h)

  from_less : (worker : ℕ) (sids : List Sid) → AllByRecursion (IsBegunFrom (suc worker)) sids → AllByRecursion (IsBegunFrom worker) sids
  from_less worker sids h =
      all_mono (λ who one. let above = one.above in record { worker = one.worker; writes_it = one.writes_it; above = omega (arith, above); begin = one.begin })
      sids h

  -- a session that has a Begin has begun
  has_one : (who : Sid) (worker : ℕ) (writing : Bool) (events : List StoreEvent) → Among (Begin who worker writing) events → has_begun who.number events ≡ true
  has_one who worker writing [] h = absurd h
  has_one who worker writing (event ∷ events) h =
      ⊎_elim
      (λ here. subst (λ e. list_any (begins who.number) (e ∷ events) ≡ true) (sym here)
      (or_left (begins who.number (Begin who worker writing)) (list_any (begins who.number) events) (eq-eqb who.number who.number refl)))
      (λ there. or_right (begins who.number event) (list_any (begins who.number) events) (has_one who worker writing events there))
      h

  of_begin : (one other : Sid) (a b : ℕ) (x y : Bool) → Begin one a x ≡ Begin other b y → a ≡ b
  of_begin one other a b x y e = cc

  -- one session is begun by one worker
  one_worker : (one other : Sid) (a b : ℕ) (x y : Bool) → one.number ≡ other.number → (events : List StoreEvent) → AreInOrder events
      → Among (Begin one a x) events → Among (Begin other b y) events → a ≡ b
  one_worker one other a b x y same [] order h k = absurd h
  one_worker one other a b x y same (event ∷ events) order h k =
      ⊎_elim
      (λ here. ⊎_elim
      (λ there. of_begin one other a b x y (sym here ∙ there))
      (λ later. absurd (false≢true (sym (subst (λ e. MayFollow events e) here order.0)
      ∙ ap (λ n. has_begun n events) same ∙ has_one other b y events later)))
      k)
      (λ later. ⊎_elim
      (λ there. absurd (false≢true (sym (subst (λ e. MayFollow events e) there order.0)
      ∙ ap (λ n. has_begun n events) (sym same) ∙ has_one one a x events later)))
      (λ still. one_worker one other a b x y same events order.1 later still)
      k)
      h

  apart_from : AreInOrder seen.events → (least : ℕ) (who : Sid) (writing : Bool) → Among (Begin who least writing) seen.events
      → (others : List Sid) → AllByRecursion (IsBegunFrom (suc least)) others → AllByRecursion (λ (other : Sid). (who.number == other.number) ≡ false) others
  apart_from order least who writing begin others h =
      all_mono
      (λ other one.
      ⊎_elim
      (λ same.
      let above = one.above in
      let is = one_worker who other least one.worker writing one.writes_it (eqb-true who.number other.number same) seen.events order begin one.begin in
      absurd (omega (arith, above, is)))
      (λ differ. differ)
      (cases_Bool (who.number == other.number)))
      others h

  both_distinct : AreInOrder seen.events → (least : ℕ) (sids others : List Sid)
      → IsDistinct (λ (one other : Sid). one.number == other.number) sids → IsDistinct (λ (one other : Sid). one.number == other.number) others
      → AllByRecursion (λ who. (writing : Bool) × Among (Begin who least writing) seen.events) sids → AllByRecursion (IsBegunFrom (suc least)) others
      → IsDistinct (λ (one other : Sid). one.number == other.number) (sids ++ others)
  both_distinct order least [] others d e h k = e
  both_distinct order least (who ∷ sids) others d e h k =
      let same : Sid → Sid → Bool = λ one other. one.number == other.number in
      IsDistinct-cons same who (sids ++ others)
      (every-append (λ (other : Sid). (who.number == other.number) ≡ false) sids others (IsDistinct-head same who sids d)
      (apart_from order least who h.0.0 h.0.1 others k))
      (both_distinct order least sids others (IsDistinct-tail same who sids d) e h.1 k)

  none_differ : IsDistinct (λ (one other : Sid). one.number == other.number) []
  unfolding IsDistinct
  none_differ = tt

  -- what the workers from some number on have run
  record AreAllNamed (least : ℕ) (plans : List (List Plan)) : Type 0 where
    sids : List Sid
    as_many : length sids ≡ sum_by (λ (list : List Plan). length list) plans
    differ : IsDistinct (λ (one other : Sid). one.number == other.number) sids
    named : AllByRecursion (IsNamedIn (since_in before shards)) sids
    begun : AllByRecursion (IsBegunFrom least) sids

  workers_are_named : AreInOrder seen.events → AreUnspent (histories_in shards) → (least : ℕ) (plans : List (List Plan)) (olds news : List DeskView) (rows : List (List RowView))
      → AllByRecursion (AllByRecursion AsksFirst) plans → AllWork plans olds news rows → AreNewViews least olds
      → AreRecorded terms before (length shards) seen news → AreAllNamed least plans
  workers_are_named order unspent least [] [] [] [] asks work new recorded =
      record { sids = []; as_many = refl; differ = none_differ; named = tt; begun = tt }
  workers_are_named order unspent least (list ∷ plans) (old ∷ olds) (now ∷ news) (rows ∷ more) asks work new recorded =
      let one = work.0 in
      let rest = workers_are_named order unspent (suc least) plans olds news more asks.1 work.1 new.2 recorded.1 in
      let calls : now.calls ≡ Some (one.calls ++ []) = ap (λ (d : DeskView). d.calls) one.works ∙ ap (with_calls one.calls) new.0 in
      let worker : now.worker ≡ Some least = ap (λ (d : DeskView). d.worker) one.works ∙ new.1 in
      let record_seen = recorded.0 (one.calls ++ []) calls least worker in
      let each = record_seen.each in
      let here = rows_are_named least list one.calls [] rows asks.0 unspent one.rows_of each in
      let same : one.calls ++ [] ≡ one.calls = append-nil one.calls in
      let mine = begun_from least one.calls (subst (λ l. AreCallsSeen terms before (length shards) least l seen) same each) in
      let apart = subst (λ l. IsDistinct (λ (a b : Sid). a.number == b.number) (began_in l)) same record_seen.once in
      record {
        sids = began_in one.calls ++ rest.sids;
        as_many =
            let both = length-append (began_in one.calls) rest.sids in
            let all = sum_by-cons (λ (l : List Plan). length l) list plans in
            let first = here.as_many in
            let others = rest.as_many in
            omega (arith, both, all, first, others);
        differ = both_distinct order least (began_in one.calls) rest.sids apart rest.differ (began_by least one.calls (subst (λ l. AreCallsSeen terms before (length shards) least l seen) same each)) rest.begun;
        named = every-append (IsNamedIn (since_in before shards)) (began_in one.calls) rest.sids here.named rest.named;
        begun = every-append (IsBegunFrom least) (began_in one.calls) rest.sids mine (from_less least rest.sids rest.begun);
      }
  workers_are_named order unspent least [] (old ∷ olds) news rows asks work new recorded = absurd work
  workers_are_named order unspent least [] [] (now ∷ news) rows asks work new recorded = absurd work
  workers_are_named order unspent least [] [] [] (row ∷ rows) asks work new recorded = absurd work
  workers_are_named order unspent least (list ∷ plans) [] news rows asks work new recorded = absurd work
  workers_are_named order unspent least (list ∷ plans) (old ∷ olds) [] rows asks work new recorded = absurd work
  workers_are_named order unspent least (list ∷ plans) (old ∷ olds) (now ∷ news) [] asks work new recorded = absurd work

  -- so all plans have had sessions that the steps since tell of
  pub have_run : AreInOrder seen.events → (plans : List (List Plan)) (transcripts : List (List RowView)) (passes : List PassView)
      → AllByRecursion (AllByRecursion AsksFirst) plans → All (λ (pass : PassView). IsBeginning pass.seen seen) passes
      → HaveWorked terms before (length shards) plans transcripts passes
      → HaveRunSince plans (histories_in shards) (since_in before shards) transcripts
  have_run order plans transcripts passes asks begins h = record {
    before = h.olds;
    after = h.news;
    work = h.work;
    sessions = λ unspent.
        let begun : IsBeginning h.pass.seen seen = subst (λ (l : List PassView). All (λ (pass : PassView). IsBeginning pass.seen seen) l) h.one begins 0 h.pass (omega arith) in
        let named = workers_are_named order unspent 0 plans h.olds h.news transcripts asks h.work h.new (recorded_goes_on h.news h.pass.seen begun h.recorded) in
        record { sids = named.sids; as_many = named.as_many; differ = named.differ; named = named.named };
  }
    where
      recorded_goes_on : (news : List DeskView) (old : Seen) → IsBeginning old seen → AreRecorded terms before (length shards) old news
          → AreRecorded terms before (length shards) seen news
      recorded_goes_on [] old begins h = tt
      recorded_goes_on (desk ∷ news) old begins h = (
        λ calls is worker at. record_goes_on terms before (length shards) worker calls old seen begins (h.0 calls is worker at),
        recorded_goes_on news old begins h.1,
      )

-- new desks tell that they are
pub new_views : (record_of : BoundDeskView → Option (List Exchange)) (tends worker : BoundDeskView → Option ℕ) (desks : List BoundDeskView) (place : ℕ)
    → ((desk : BoundDeskView) → record_of desk ≡ Some desk.calls) → ((desk : BoundDeskView) → worker desk ≡ Some desk.worker)
    → AreNewDesks place desks → AreNewViews place (map (desk_view record_of tends worker) desks)
new_views record_of tends worker [] place calls at new = tt
new_views record_of tends worker (desk ∷ desks) place calls at new = (
  calls desk ∙ ap (λ (l : List Exchange). Some l) new.1,
  at desk ∙ ap (λ (n : ℕ). Some n) new.0,
  new_views record_of tends worker desks (suc place) calls at new.2,
)

-- what is seen of the calls of all desks is told by them
pub recorded_views : (record_of : BoundDeskView → Option (List Exchange)) (tends worker : BoundDeskView → Option ℕ)
    (terms : ℕ → Terms) (before : ℕ → List Step) (shards : ℕ) (seen : Seen) (desks : List BoundDeskView)
    → ((desk : BoundDeskView) → record_of desk ≡ Some desk.calls) → ((desk : BoundDeskView) → worker desk ≡ Some desk.worker)
    → All (λ (desk : BoundDeskView). IsRecordSeen terms before shards desk.worker desk.calls seen) desks
    → AreRecorded terms before shards seen (map (desk_view record_of tends worker) desks)
recorded_views record_of tends worker terms before shards seen [] calls at h = tt
recorded_views record_of tends worker terms before shards seen (desk ∷ desks) calls at h = (
  λ listed is number there.
      let same : desk.calls ≡ listed = same_Some desk.calls listed (sym (calls desk) ∙ is) in
      let same_number : desk.worker ≡ number = same_Some desk.worker number (sym (at desk) ∙ there) in
      subst (λ n. IsRecordSeen terms before shards n listed seen) same_number
      (subst (λ l. IsRecordSeen terms before shards desk.worker l seen) same
      (All-head (λ (d : BoundDeskView). IsRecordSeen terms before shards d.worker d.calls seen) desk desks h)),
  recorded_views record_of tends worker terms before shards seen desks calls at
      (All-tail (λ (d : BoundDeskView). IsRecordSeen terms before shards d.worker d.calls seen) desk desks h),
)

-- there are as many desks behind the work as before it
work_long : (plans : List (List Plan)) (olds news : List DeskView) (rows : List (List RowView)) → AllWork plans olds news rows → length news ≡ length olds
work_long [] [] [] [] work = refl
work_long (list ∷ plans) (old ∷ olds) (now ∷ news) (row ∷ rows) work = ap (λ n. suc n) (work_long plans olds news rows work.1)
work_long [] (old ∷ olds) news rows work = absurd work
work_long [] [] (now ∷ news) rows work = absurd work
work_long [] [] [] (row ∷ rows) work = absurd work
work_long (list ∷ plans) [] news rows work = absurd work
work_long (list ∷ plans) (old ∷ olds) [] rows work = absurd work
work_long (list ∷ plans) (old ∷ olds) (now ∷ news) [] work = absurd work

-- what is left of a list behind as many others is nothing
others_alone : (news olds : List BoundDeskView) (many : ℕ) → length news ≡ length olds → length olds ≡ many
    → take many (news ++ drop (length news) olds) ≡ news
others_alone news olds many same is =
    ap (λ (l : List BoundDeskView). take many (news ++ l)) (drop_all (length news) olds (omega (arith, same)))
    ∙ ap (take many) (append-nil news) ∙ take_all many news (omega (arith, same, is))

-- desks that were new have run the plans, and one pass has seen what each left
pub worked_over : (record_of : BoundDeskView → Option (List Exchange)) (tends worker : BoundDeskView → Option ℕ) (terms : ℕ → Terms) (before : ℕ → List Step) (shards : ℕ)
    (plans : List (List Plan)) (lent olds news : List BoundDeskView) (many : ℕ) (rows : List (List RowView)) (pass : PassView) (passes some : List PassView)
    → ((desk : BoundDeskView) → record_of desk ≡ Some desk.calls) → ((desk : BoundDeskView) → worker desk ≡ Some desk.worker)
    → lent ≡ olds → AreNewDesks 0 olds → length olds ≡ many
    → AllWork plans (map (desk_view record_of tends worker) lent) (map (desk_view record_of tends worker) news) rows
    → All (λ (desk : BoundDeskView). IsRecordSeen terms before shards desk.worker desk.calls pass.seen) (take many (news ++ drop (length news) olds))
    → passes ≡ some ++ pass ∷ [] → some ≡ [] → HaveWorked terms before shards plans rows passes
worked_over record_of tends worker terms before shards plans lent olds news many rows pass passes some calls at same new is work recorded all none =
    let view : BoundDeskView → DeskView = desk_view record_of tends worker in
    let long : length news ≡ length olds =
    sym (length-map news view) ∙ work_long plans (map view lent) (map view news) rows work ∙ length-map lent view ∙ ap (λ (l : List BoundDeskView). length l) same in
    record {
      olds = map view lent;
      news = map view news;
      work = work;
      new = subst (λ (l : List BoundDeskView). AreNewViews 0 (map view l)) (sym same) (new_views record_of tends worker olds 0 calls at new);
      pass = pass;
      one = all ∙ ap (λ (l : List PassView). l ++ pass ∷ []) none;
      recorded =
          recorded_views record_of tends worker terms before shards pass.seen news calls at
          (subst (λ (l : List BoundDeskView). All (λ (desk : BoundDeskView). IsRecordSeen terms before shards desk.worker desk.calls pass.seen) l)
          (others_alone news olds many long is) recorded);
    }

-- the last desk is taken from those that are left
pub desk_last : (now all done rest : List BoundDeskView) (last : BoundDeskView) → all ≡ now ++ done → now ≡ rest ++ last ∷ []
    → all ≡ rest ++ last ∷ done
desk_last now all done rest last is parts = is ∙ ap (λ (l : List BoundDeskView). l ++ done) parts ∙ append_assoc rest (last ∷ []) done

-- what was seen of desks is still seen
pub all_recorded : (terms : ℕ → Terms) (before : ℕ → List Step) (shards : ℕ) (old new : Seen) (desks : List BoundDeskView) → IsBeginning old new
    → All (λ (desk : BoundDeskView). IsRecordSeen terms before shards desk.worker desk.calls old) desks
    → All (λ (desk : BoundDeskView). IsRecordSeen terms before shards desk.worker desk.calls new) desks
all_recorded terms before shards old new desks begins h =
    All-weaker (λ (desk : BoundDeskView). IsRecordSeen terms before shards desk.worker desk.calls old)
    (λ (desk : BoundDeskView). IsRecordSeen terms before shards desk.worker desk.calls new)
    (λ desk. record_goes_on terms before shards desk.worker desk.calls old new begins) desks h

-- a plan of a load reads or writes
abbrev IsDrawn : Plan → Type 0
IsDrawn (Read key floor) = Unit {0}
IsDrawn (Write mode txn) = Unit {0}
IsDrawn other = ⊥

drawn_by_share : (b : Bool) (key : QKey) (mode : Mode) (txn : List Change) → IsDrawn (cond b (Read key 0) (Write mode txn))
drawn_by_share true key mode txn = tt
drawn_by_share false key mode txn = tt

is_drawn : (spec : WorkSpec) (session : ℕ) → IsDrawn (plan_at spec session)
unfolding plan_at
is_drawn spec session = drawn_by_share _ _ _ _

-- so it asks for a key first
drawn_asks : (plan : Plan) → IsPlan plan → IsDrawn plan → AsksFirst plan
drawn_asks (Read key floor) is d = tt
drawn_asks (Write mode txn) is d = is
drawn_asks other is d = absurd d

plan_asks : (spec : WorkSpec) (session : ℕ) → IsWork spec → AsksFirst (plan_at spec session)
plan_asks spec session h = drawn_asks (plan_at spec session) (plan_at_is spec session h) (is_drawn spec session)

pub load_asks : (spec : WorkSpec) → IsWork spec → AllByRecursion (AllByRecursion AsksFirst) (load spec)
unfolding load
load_asks spec h = lists (range_with_len 0 spec.workers)
  where
    plans : (sessions : List ℕ) → AllByRecursion AsksFirst (map (plan_at spec) sessions)
    plans [] = tt
    plans (session ∷ sessions) = (plan_asks spec session h, plans sessions)

    lists : (workers : List ℕ) → AllByRecursion (AllByRecursion AsksFirst) (map (λ worker. map (plan_at spec) (sessions_of spec worker)) workers)
    lists [] = tt
    lists (worker ∷ workers) = (plans (sessions_of spec worker), lists workers)
