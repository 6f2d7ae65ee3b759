-- What a desk's pass has seen of its calls stays so, and holds with one more call.
use Rattle.std.proofs.Common.{ℕ, ◌≡◌, ◌==◌, ◌&&◌, if◌then◌else◌, ◌-◌, ◌^◌, Bool, true, false, List, [], ◌∷◌, ◌++◌, Option, Some, None, Result, Ok, Err, IfErr}
use Rattle.std.proofs.Common.{ℤ, refl, sym, ap, subst, ◌∙◌, inl, inr, ⊎_elim}
use Rattle.std.specs.List.{IsDistinct, AllByRecursion, list_any}
use Rattle.std.specs.Option.{ForSome}
use Rattle.std.proofs.lemmas.Bool.{false≢true, and_parts, cases_Bool, eq-eqb, eqb-true, or_left, or_right}
use Rattle.std.proofs.lemmas.Map.Keys.{IsDistinct-cons}
use Rattle.std.proofs.lemmas.Option.{none-some, same_Some}
use Rattle.rows_model.specs.declared.keys.QKey.{QKey}
use Rattle.rows_model.specs.declared.keys.Sid.{Sid}
use Rattle.rows_model.specs.Placement.{shard_of}
use Rattle.lease_table.specs.declared.records.Mode.{Mode}
use Rattle.key_shard.specs.declared.replies.Got.{Got}
use Rattle.key_shard.specs.declared.replies.Got.TheVariants as got
use Rattle.key_shard.specs.declared.replies.QAnswer.{QAnswer}
use Rattle.key_shard.specs.declared.replies.QAnswer.TheVariants as quarantine
use Rattle.key_shard.specs.declared.replies.ShardFault.{ShardFault}
use Rattle.key_shard.specs.declared.replies.ShardFault.TheVariants as faults
use Rattle.key_shard.specs.declared.steps.Step.{Step}
use Rattle.key_shard.specs.Past.{Terms, draws, next_token}
use Rattle.key_shard.specs.Permit.{Permit}
use Rattle.key_shard.specs.Shards.{ShardView, past_of, refusal, Refuses}
use Rattle.session_client.specs.declared.replies.Fault.TheVariants as fault
use Rattle.session_client.specs.declared.replies.Reply.{Reply}
use Rattle.session_client.specs.declared.replies.Wanted.{Wanted}
use Rattle.session_client.specs.declared.replies.Wanted.TheVariants as wanted
use Rattle.session_client.specs.Desks.{Exchange, Began, Asked, IsFirst}
use Rattle.executor.specs.OnShard.{fault_of}
use Rattle.executor.specs.Requests.{key_of}
use Rattle.log_word.specs.declared.events.Short.{Short}
use Rattle.log_word.specs.declared.events.StoreEvent.{StoreEvent}
use Rattle.log_word.specs.declared.events.StoreEvent.TheVariants.{Begin}
use Rattle.log_word.specs.declared.seen.Seen.{Seen}
use Rattle.log_word.specs.Events.{begins, has_begun}
use Rattle.log_word.specs.Lists.{Among, IsStart, steps_of}
use Rattle.log_word.specs.Steps.{IsBeginning}
use Rattle.log_word.proofs.StartLemmas.{all_mono, start_is, start_trans}
use Rattle.bound_hub.specs.Gets.{got_short, IsLastStep}
use Rattle.bound_hub.specs.Shorts.{shorts_of}
use Rattle.bound_hub.specs.Spent.{HasNoToken, HasSeenAll, IsSeenSpent, SeesSpent}
use Rattle.bound_hub.specs.Stores.{ShowsBegin}
use Rattle.bound_hub.specs.StepShorts.{quarantine_short}
use Rattle.desk_book.specs.Books.{Book, first_book}
use Rattle.desk_book.specs.Borne.{IsBorne, IsForm, IsPut}
use Rattle.desk_book.specs.Made.{made_in}
use Rattle.desk_book.specs.declared.forms.Form.{Form}
use Rattle.desk_book.specs.declared.made.Made.{Made}
use Rattle.desk_book.specs.declared.made.Made.TheVariants as made
use Rattle.bound_desk.specs.Records.{has_session, IsNamed, ShowsFirst, latest_in, began_in, IsCallSeen, AreCallsSeen, IsRecordSeen, IsFreshBook}

-- what is among some is among more
pub among_more : {A : Type 0} (a : A) (more early : List A) → Among a early → Among a (more ++ early)
among_more a [] early h = h
among_more a (x ∷ more) early h = inr (among_more a more early h)

pub among_goes_on : {A : Type 0} (a : A) (early late : List A) → IsStart early late → Among a early → Among a late
among_goes_on a early late s h = subst (Among a) (sym s.1) (among_more a s.0 early h)

-- a step that named a session is still seen
named_goes_on : (shards : ℕ) (who : Sid) (old new : Seen) → IsBeginning old new → IsNamed shards who old → IsNamed shards who new
named_goes_on shards who old new begins h =
    let shard = shard_of h.step.key shards in
    record {
      step = h.step;
      among = among_goes_on h.step (steps_of shard old.steps) (steps_of shard new.steps) (begins.steps shard) h.among;
      kind = h.kind;
      named = h.named;
    }

-- nor is a shard given a token back
spent_goes_on : (terms : Terms) (before : List Step) (number : ℕ) (old new : Seen) → IsBeginning old new
    → IsSeenSpent terms before number old → IsSeenSpent terms before number new
spent_goes_on terms before number old new begins h = record {
  more = h.more;
  shorts_are = start_trans (shorts_of before h.more) (steps_of number old.steps) (steps_of number new.steps) h.shorts_are (begins.steps number);
  last = h.last;
}

-- what a first request leaves is still seen
shows_goes_on : (terms : ℕ → Terms) (before : ℕ → List Step) (shards : ℕ) (who : Sid) (reply : Reply) (old new : Seen) → IsBeginning old new
    → ShowsFirst terms before shards who reply old → ShowsFirst terms before shards who reply new
shows_goes_on terms before shards who (Reply.Fault fault.Memory) old new begins h = tt
shows_goes_on terms before shards who (Reply.Fault fault.Keep) old new begins h = absurd h
shows_goes_on terms before shards who (Reply.Fault fault.Spent) old new begins h =
    (let number = shard_of h.0 shards in (h.0, spent_goes_on (terms number) (before number) number old new begins h.1))
shows_goes_on terms before shards who other old new begins h = named_goes_on shards who old new begins h

-- so is a call, and so are all calls
call_goes_on : (terms : ℕ → Terms) (before : ℕ → List Step) (shards worker : ℕ) (latest : Option (Sid × Bool)) (call : Exchange) (old new : Seen)
    → IsBeginning old new → IsCallSeen terms before shards worker latest call old → IsCallSeen terms before shards worker latest call new
call_goes_on terms before shards worker latest (Began writes who) old new begins h =
    among_goes_on (Begin who worker writes) old.events new.events begins.events h
call_goes_on terms before shards worker latest (Asked who request reply) old new begins h =
    λ first is same asked. shows_goes_on terms before shards who reply old new begins (h first is same asked)

calls_go_on : (terms : ℕ → Terms) (before : ℕ → List Step) (shards worker : ℕ) (calls : List Exchange) (old new : Seen)
    → IsBeginning old new → AreCallsSeen terms before shards worker calls old → AreCallsSeen terms before shards worker calls new
calls_go_on terms before shards worker [] old new begins h = tt
calls_go_on terms before shards worker (call ∷ calls) old new begins h = (
  call_goes_on terms before shards worker (latest_in calls) call old new begins h.0,
  calls_go_on terms before shards worker calls old new begins h.1,
)

pub record_goes_on : (terms : ℕ → Terms) (before : ℕ → List Step) (shards worker : ℕ) (calls : List Exchange) (old new : Seen)
    → IsBeginning old new → IsRecordSeen terms before shards worker calls old → IsRecordSeen terms before shards worker calls new
record_goes_on terms before shards worker calls old new begins h = record {
  each = calls_go_on terms before shards worker calls old new begins h.each;
  once = h.once;
}

-- a session whose Begin is seen has begun
begun_by : (who : Sid) (worker : ℕ) (writes : Bool) (events : List StoreEvent) → Among (Begin who worker writes) events
    → has_begun who.number events ≡ true
begun_by who worker writes [] h = absurd h
begun_by who worker writes (event ∷ events) h =
    ⊎_elim
    (λ here. subst (λ e. list_any (begins who.number) (e ∷ events) ≡ true) (sym here)
    (or_left (begins who.number (Begin who worker writes)) (list_any (begins who.number) events) (eq-eqb who.number who.number refl)))
    (λ there. or_right (begins who.number event) (list_any (begins who.number) events) (begun_by who worker writes events there))
    h

-- so each session of the record has
began_has_begun : (terms : ℕ → Terms) (before : ℕ → List Step) (shards worker : ℕ) (calls : List Exchange) (seen : Seen)
    → AreCallsSeen terms before shards worker calls seen → AllByRecursion (λ (who : Sid). has_begun who.number seen.events ≡ true) (began_in calls)
began_has_begun terms before shards worker [] seen h = tt
began_has_begun terms before shards worker (Began writes who ∷ calls) seen h =
    (begun_by who worker writes seen.events h.0, began_has_begun terms before shards worker calls seen h.1)
began_has_begun terms before shards worker (Asked who request reply ∷ calls) seen h = began_has_begun terms before shards worker calls seen h.1

-- a session that hasn't begun is none of those that have
differs : (who : Sid) (events : List StoreEvent) → has_begun who.number events ≡ false → (other : Sid)
    → has_begun other.number events ≡ true → (who.number == other.number) ≡ false
differs who events none other some =
    ⊎_elim
    (λ same. absurd (false≢true (sym none ∙ ap (λ n. has_begun n events) (eqb-true who.number other.number same) ∙ some)))
    (λ differ. differ)
    (cases_Bool (who.number == other.number))

-- a session that begins
pub record_with_begin : (terms : ℕ → Terms) (before : ℕ → List Step) (shards worker begun_before : ℕ) (writes : Bool) (calls : List Exchange) (old new : Seen) (who : Sid)
    → IsBeginning old new → has_begun who.number old.events ≡ false → ShowsBegin begun_before worker writes new who
    → IsRecordSeen terms before shards worker calls old → IsRecordSeen terms before shards worker (Began writes who ∷ calls) new
record_with_begin terms before shards worker begun_before writes calls old new who goes none shows h = record {
  each = (subst (Among (Begin who worker writes)) (sym shows.last) (inl refl), calls_go_on terms before shards worker calls old new goes h.each);
  once =
      IsDistinct-cons (λ (one other : Sid). one.number == other.number) who (began_in calls)
      (all_mono (λ other some. differs who old.events none other some) (began_in calls) (began_has_begun terms before shards worker calls old h.each))
      h.once;
}

-- a request with its reply
pub record_with_reply : (terms : ℕ → Terms) (before : ℕ → List Step) (shards worker : ℕ) (calls : List Exchange) (old new : Seen) (who : Sid) (request : Wanted) (reply : Reply)
    → IsBeginning old new → ForSome (latest_in calls) (λ first. first.0 ≡ who → IsFirst first.1 request → ShowsFirst terms before shards who reply new)
    → IsRecordSeen terms before shards worker calls old → IsRecordSeen terms before shards worker (Asked who request reply ∷ calls) new
record_with_reply terms before shards worker calls old new who request reply begins shows h = record {
  each = (shows, calls_go_on terms before shards worker calls old new begins h.each);
  once = h.once;
}

-- the step of a get names its session, on its key
pub record Names (key : QKey) (who : Sid) (step : Short) : Type 0 where
  pub on : step.key ≡ key
  pub kind : has_session step.kind ≡ true
  pub named : step.sid ≡ who

got_names : (key : QKey) (who : Sid) (answer : Got) (has : Bool) → Names key who (got_short key who answer has)
got_names key who (got.Hit value stamp) has = record { on = refl; kind = refl; named = refl }
got_names key who (got.Lease token) has = record { on = refl; kind = refl; named = refl }
got_names key who (got.Again stands) has = record { on = refl; kind = refl; named = refl }
got_names key who got.Own has = record { on = refl; kind = refl; named = refl }

-- so does that of a quarantine
quarantine_names : (key : QKey) (who : Sid) (mode : Mode) (by : ℤ) (answer : QAnswer) (has : Bool)
    → Names key who (quarantine_short key who mode by answer has)
quarantine_names key who mode by (quarantine.Granted grant old) has = record { on = refl; kind = refl; named = refl }
quarantine_names key who mode by quarantine.Held has = record { on = refl; kind = refl; named = refl }
quarantine_names key who mode by (quarantine.Refused holder held) has = record { on = refl; kind = refl; named = refl }

-- a step that is the last of its key's shard is among the shard's steps
last_names : (shards : ℕ) (key : QKey) (step : Short) (who : Sid) (seen : Seen) → Names key who step
    → IsLastStep (shard_of key shards) step seen → IsNamed shards who seen
last_names shards key step who seen names last = record {
  step = step;
  among =
      subst (λ k. Among step (steps_of (shard_of k shards) seen.steps)) (sym names.on) (subst (Among step) (sym last.1) (inl refl));
  kind = names.kind;
  named = names.named;
}

pub got_is_first : (terms : ℕ → Terms) (before : ℕ → List Step) (shards : ℕ) (key : QKey) (who : Sid) (answer : Got) (has : Bool) (seen : Seen)
    → IsLastStep (shard_of key shards) (got_short key who answer has) seen → ShowsFirst terms before shards who (Reply.Got answer) seen
got_is_first terms before shards key who answer has seen last =
    last_names shards key (got_short key who answer has) who seen (got_names key who answer has) last

pub quarantine_is_first : (terms : ℕ → Terms) (before : ℕ → List Step) (shards : ℕ) (key : QKey) (who : Sid) (mode : Mode) (by : ℤ) (answer : QAnswer) (has : Bool) (seen : Seen)
    → IsLastStep (shard_of key shards) (quarantine_short key who mode by answer has) seen → ShowsFirst terms before shards who (Reply.Quar answer) seen
quarantine_is_first terms before shards key who mode by answer has seen last =
    last_names shards key (quarantine_short key who mode by answer has) who seen (quarantine_names key who mode by answer has) last

-- a shard that refused had no token left, or there was no memory
pub refused_is_first : (terms : ℕ → Terms) (before : ℕ → List Step) (shards : ℕ) (key : QKey) (who : Sid) (fault : ShardFault) (seen : Seen)
    → SeesSpent terms before (shard_of key shards) seen fault → ShowsFirst terms before shards who (Reply.Fault (fault_of fault)) seen
refused_is_first terms before shards key who (faults.Spent next) seen h = (key, h)
refused_is_first terms before shards key who faults.Memory seen h = tt
refused_is_first terms before shards key who (faults.Stranger shard) seen h = tt

-- a shard that refuses for want of a token has none left
drawn_out : (home out : Bool) (next place token : ℕ)
    → (if home then (if out then Some (faults.Spent next) else None) else Some (faults.Stranger place)) ≡ Some (faults.Spent token) → out ≡ true
drawn_out true true next place token e = refl
drawn_out true false next place token e = absurd (none-some (faults.Spent token) e)
drawn_out false out next place token e = absurd cc

refused_by : (shard : ShardView) (key : QKey) (step : Step) (token : ℕ) → refusal shard key step ≡ Some (faults.Spent token)
    → next_token shard.terms (past_of shard) ≡ 2 ^ 64 - 1
refused_by shard key step token e =
    let next = next_token shard.terms (past_of shard) in
    let out = drawn_out (shard_of key shard.terms.count == shard.terms.no) (draws step && (next == 2 ^ 64 - 1)) next (shard_of key shard.terms.count) token e in
    eqb-true next (2 ^ 64 - 1) (and_parts (draws step) (next == 2 ^ 64 - 1) out).1

same_fault : {X : Type 0} (a b : ShardFault) (x y : Result X ShardFault) → x ≡ Err a → y ≡ Err b → x ≡ y → a ≡ b
same_fault a b x y e f g = cc

refused_as : (X : Type 0) (shard : ShardView) (fault : ShardFault) (found : Option ShardFault)
    → ((token : ℕ) → found ≡ Some (faults.Spent token) → next_token shard.terms (past_of shard) ≡ 2 ^ 64 - 1)
    → Refuses {X = X} found (Err fault) → HasNoToken shard fault
refused_as X shard (faults.Spent next) (Some cause) gives e = gives next (ap (λ f. Some f) (sym (same_fault (faults.Spent next) cause (Err (faults.Spent next)) (Err cause) refl refl e)))
refused_as X shard (faults.Spent next) None gives e = absurd e
refused_as X shard faults.Memory found gives e = tt
refused_as X shard (faults.Stranger place) found gives e = tt

pub none_is_left : {X : Type 0} (shard : ShardView) (key : QKey) (step : Step) (result : Result X ShardFault)
    → Refuses (refusal shard key step) result → IfErr result (HasNoToken shard)
none_is_left shard key step (Ok answer) h = tt
none_is_left {X} shard key step (Err fault) h = refused_as X shard fault (refusal shard key step) (refused_by shard key step) h

-- and that is seen, once each of its steps is
pub spent_is_seen : (terms : ℕ → Terms) (before : ℕ → List Step) (shard : ShardView) (seen : Seen) (fault : ShardFault)
    → shard.terms ≡ terms shard.terms.no → HasSeenAll (before shard.terms.no) shard seen → HasNoToken shard fault
    → SeesSpent terms before shard.terms.no seen fault
spent_is_seen terms before shard seen (faults.Spent next) named all none = record {
  more = all.more;
  shorts_are = start_is (shorts_of (before shard.terms.no) all.more) (steps_of shard.terms.no seen.steps) (sym all.shorts_are);
  last = ap (λ (t : Terms). next_token t (all.more ++ before shard.terms.no)) (sym named) ∙ ap (next_token shard.terms) (sym all.goes_on) ∙ none;
}
spent_is_seen terms before shard seen faults.Memory named all none = tt
spent_is_seen terms before shard seen (faults.Stranger place) named all none = tt

-- the book of a session that has just begun bears out its first request
borne_at_first : (who : Sid) (writes : Bool) (request : Wanted) → IsFirst writes request → IsBorne (first_book who writes) who request
borne_at_first who writes (wanted.Get key floor) h = tt
borne_at_first who true (wanted.QaReg key) h = (eq-eqb who.number who.number refl, refl, refl)
borne_at_first who true (wanted.QaRead key) h = (eq-eqb who.number who.number refl, refl, refl)
borne_at_first who true (wanted.Delta key by) h = (eq-eqb who.number who.number refl, refl, refl)
borne_at_first who true request h = absurd h
borne_at_first who false request h = absurd h

-- so that is made as it is asked for
pub made_at_first : (book : Book) (who : Sid) (writes : Bool) (request : Wanted) (found : Form) → IsForm book who request found
    → book ≡ first_book who writes → IsFirst writes request → made_in found who request ≡ made.One request
made_at_first book who writes request found h fresh first =
    let borne = subst (λ b. IsBorne b who request) (sym fresh) (borne_at_first who writes request first) in
    ap (λ f. made_in f who request) (h.borne.1 borne)

-- and it is no release with a new value
pub no_put_at_first : (writes : Bool) (request : Wanted) → IsFirst writes request → IsPut request → ⊥
no_put_at_first writes (wanted.Get key floor) h put = put
no_put_at_first true (wanted.QaReg key) h put = put
no_put_at_first true (wanted.QaRead key) h put = put
no_put_at_first true (wanted.Delta key by) h put = put
no_put_at_first true request h put = absurd h
no_put_at_first false request h put = absurd h

-- before its first call a desk has nothing to be seen, and a fresh book
pub nothing_recorded : (terms : ℕ → Terms) (before : ℕ → List Step) (shards worker : ℕ) (calls : List Exchange) (seen : Seen) → calls ≡ []
    → IsRecordSeen terms before shards worker calls seen
unfolding IsDistinct
nothing_recorded terms before shards worker calls seen none =
    subst (λ l. IsRecordSeen terms before shards worker l seen) (sym none) (record { each = tt; once = tt })

pub nothing_begun : (calls : List Exchange) (book : Book) → calls ≡ [] → IsFreshBook calls book
nothing_begun calls book none = λ first is. absurd (none-some first (sym (ap latest_in none) ∙ is))

-- behind a request its book isn't said to be fresh
pub asked_since : (calls earlier : List Exchange) (who : Sid) (request : Wanted) (reply : Reply) (book : Book) → calls ≡ Asked who request reply ∷ earlier
    → IsFreshBook calls book
asked_since calls earlier who request reply book e = λ first is. absurd (none-some first (sym (ap latest_in e) ∙ is))

-- behind a begin it is
pub begun_since : (calls earlier : List Exchange) (who : Sid) (writes : Bool) (book : Book) → calls ≡ Began writes who ∷ earlier → book ≡ first_book who writes
    → IsFreshBook calls book
begun_since calls earlier who writes book e fresh = λ first is.
    let same : (who, writes) ≡ first = same_Some (who, writes) first (sym (ap latest_in e) ∙ is) in
    fresh ∙ ap (λ (one : Sid × Bool). first_book one.0 one.1) same

-- a request with its reply, in a record that is said to have it in front
pub record_as_asked : (terms : ℕ → Terms) (before : ℕ → List Step) (shards worker : ℕ) (calls now : List Exchange) (old new : Seen) (who : Sid) (request : Wanted) (reply : Reply)
    → now ≡ Asked who request reply ∷ calls → IsBeginning old new
    → ForSome (latest_in calls) (λ first. first.0 ≡ who → IsFirst first.1 request → ShowsFirst terms before shards who reply new)
    → IsRecordSeen terms before shards worker calls old → IsRecordSeen terms before shards worker now new
record_as_asked terms before shards worker calls now old new who request reply is goes shows h =
    subst (λ l. IsRecordSeen terms before shards worker l new) (sym is)
    (record_with_reply terms before shards worker calls old new who request reply goes shows h)

-- the first request of a session that has just begun leaves what it shows, where it was made as it is asked for
pub shows_where_fresh : (terms : ℕ → Terms) (before : ℕ → List Step) (shards : ℕ) (calls : List Exchange) (book : Book) (new : Seen) (who : Sid) (request : Wanted) (reply : Reply)
    → IsFreshBook calls book → ((writes : Bool) → book ≡ first_book who writes → IsFirst writes request → ShowsFirst terms before shards who reply new)
    → ForSome (latest_in calls) (λ first. first.0 ≡ who → IsFirst first.1 request → ShowsFirst terms before shards who reply new)
shows_where_fresh terms before shards calls book new who request reply fresh shows = λ first is same asked.
    shows first.1 (fresh first is ∙ ap (λ (s : Sid). first_book s first.1) same) asked

-- what is made as it is asked for is that request, and nothing else
pub one_is : (one other : Wanted) (result : Result Made Wanted) → result ≡ Ok (made.One one) → result ≡ Ok (made.One other) → one ≡ other
one_is one other result e f = cc

-- nor is it dropped, told at once or refused
pub not_dropped : (session : Sid) (grant : Permit) (other : Wanted) (made_of : Made) (result : Result Made Wanted) → result ≡ Ok made_of
    → made_of ≡ made.EndDrop session grant → result ≡ Ok (made.One other) → ⊥
not_dropped session grant other made_of result e f h = cc

pub not_told : (reply : Reply) (other : Wanted) (made_of : Made) (result : Result Made Wanted) → result ≡ Ok made_of → made_of ≡ made.Answered reply
    → result ≡ Ok (made.One other) → ⊥
not_told reply other made_of result e f h = cc

pub not_back : (back other : Wanted) (result : Result Made Wanted) → result ≡ Err back → result ≡ Ok (made.One other) → ⊥
not_back back other result e h = cc

-- a first request is of a key
pub first_has_key : (writes : Bool) (request : Wanted) → IsFirst writes request → key_of request ≡ None → ⊥
first_has_key writes (wanted.Get key floor) h e = none-some key (sym e)
first_has_key true (wanted.QaReg key) h e = none-some key (sym e)
first_has_key true (wanted.QaRead key) h e = none-some key (sym e)
first_has_key true (wanted.Delta key by) h e = none-some key (sym e)
first_has_key true request h e = absurd h
first_has_key false request h e = absurd h
