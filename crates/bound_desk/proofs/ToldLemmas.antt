-- What each call of a desk shows stays so, and holds with one more call.
use Rattle.std.proofs.Common.{ℕ, ◌≡◌, Bool, true, false, IsTrue, List, [], ◌∷◌, Some, None, Ok, refl, sym, ap, subst, ◌∙◌, inl, inr}
use Rattle.std.proofs.lemmas.Bool.{false≢true}
use Rattle.std.proofs.lemmas.Option.{none-some}
use Rattle.rows_model.specs.declared.keys.QKey.{QKey}
use Rattle.rows_model.specs.declared.keys.Sid.{Sid}
use Rattle.rows_model.specs.Rows.{Tables}
use Rattle.key_shard.specs.declared.replies.Rel.{Rel}
use Rattle.key_shard.specs.declared.replies.Rel.TheVariants as rel
use Rattle.key_shard.specs.declared.steps.Step.{Step}
use Rattle.key_shard.specs.Past.{Terms}
use Rattle.key_shard.specs.Permit.{Permit}
use Rattle.session_client.specs.Belongs.{Belongs}
use Rattle.session_client.specs.Desks.{Exchange, Began, Asked}
use Rattle.session_client.specs.declared.replies.Reply.{Reply}
use Rattle.session_client.specs.declared.replies.Wanted.{Wanted}
use Rattle.session_client.specs.declared.replies.Wanted.TheVariants as wanted
use Rattle.executor.specs.Requests.{key_of}
use Rattle.log_word.specs.declared.seen.Seen.{Seen}
use Rattle.log_word.specs.Steps.{IsBeginning}
use Rattle.log_word.proofs.ViewLemmas.{beginning_same, beginning_trans}
use Rattle.sql_keeper.specs.declared.faults.KeepFault.{KeepFault}
use Rattle.sql_keeper.specs.declared.faults.KeepFault.TheVariants as keep
use Rattle.sql_keeper.specs.Faults.{has_failed}
use Rattle.bound_hub.specs.Stores.{SeesFailure, ShowsEnd}
use Rattle.desk_book.specs.Books.{Book, empty_book, first_book, noted_for, without_grant}
use Rattle.desk_book.specs.Borne.{IsForm}
use Rattle.desk_book.specs.declared.forms.Form.TheVariants as form
use Rattle.desk_book.specs.declared.made.Made.TheVariants as made
use Rattle.bound_desk.specs.AtStore.{fault_of_keeper, ShowsAtStore}
use Rattle.bound_desk.specs.Faults.{ShowsFault}
use Rattle.bound_desk.specs.Safe.{drop_reply}
use Rattle.bound_desk.specs.Shown.{ShowsDrop, ShowsReply}
use Rattle.bound_desk.specs.Told.{book_after, IsMadeAs, IsEndDrop, IsAnswered, AreShown}

module _ (opening : Tables) (cap : ℕ) (terms : ℕ → Terms) (before : ℕ → List Step) (shards : ℕ) where
  -- before its first call a desk has an empty book, and nothing to show
  pub nothing_shown : (calls : List Exchange) (book : Book) (seen : Seen) → calls ≡ [] → book ≡ empty_book
      → AreShown opening cap terms before shards calls book seen
  nothing_shown calls book seen none empty = subst (λ l. AreShown opening cap terms before shards l book seen) (sym none) empty

  -- what calls showed they still show
  pub shown_goes_on : (calls : List Exchange) (book : Book) (old new : Seen) → IsBeginning old new
      → AreShown opening cap terms before shards calls book old → AreShown opening cap terms before shards calls book new
  shown_goes_on [] book old new begins h = h
  shown_goes_on (Began writes who ∷ calls) book old new begins h = (h.0, h.1, h.2, beginning_trans h.2 old new h.3 begins, h.4)
  shown_goes_on (Asked who request reply ∷ calls) book old new begins h = (h.0, h.1, h.2, beginning_trans h.2 old new h.3 begins, h.4, h.5)

  -- a book that says the same
  pub shown_by_same : (calls : List Exchange) (book same : Book) (seen : Seen) → same ≡ book
      → AreShown opening cap terms before shards calls book seen → AreShown opening cap terms before shards calls same seen
  shown_by_same calls book same seen is h = subst (λ b. AreShown opening cap terms before shards calls b seen) (sym is) h

  -- a session that begins
  pub shown_with_begin : (writes : Bool) (who : Sid) (calls now : List Exchange) (book since : Book) (old new : Seen) → now ≡ Began writes who ∷ calls
      → book ≡ first_book who writes → IsBeginning old new → AreShown opening cap terms before shards calls since old
      → AreShown opening cap terms before shards now book new
  shown_with_begin writes who calls now book since old new is fresh begins h =
      subst (λ l. AreShown opening cap terms before shards l book new) (sym is) (fresh, since, old, begins, h)

  -- a request with its reply
  pub shown_with_reply : (who : Sid) (request : Wanted) (reply : Reply) (calls now : List Exchange) (since book : Book) (old new : Seen)
      → now ≡ Asked who request reply ∷ calls → IsAnswered opening cap terms before shards who request reply since book old new
      → AreShown opening cap terms before shards calls since old → AreShown opening cap terms before shards now book new
  shown_with_reply who request reply calls now since book old new is answered h =
      subst (λ l. AreShown opening cap terms before shards l book new) (sym is) (since, old, new, beginning_same new, answered, h)

  -- a request on a shard tells nothing of the store
  not_at_store : (key : QKey) (book : Book) (who : Sid) (request : Wanted) (reply : Reply) (old new : Seen) → key_of request ≡ Some key
      → ShowsAtStore opening cap book who request reply old new
  not_at_store key book who (wanted.Get on floor) reply old new e = tt
  not_at_store key book who (wanted.Set on token value stamp) reply old new e = tt
  not_at_store key book who (wanted.QaReg on) reply old new e = tt
  not_at_store key book who (wanted.QaRead on) reply old new e = tt
  not_at_store key book who (wanted.Delta on by) reply old new e = tt
  not_at_store key book who (wanted.Dar grant) reply old new e = tt
  not_at_store key book who (wanted.Sar grant value stamp) reply old new e = tt
  not_at_store key book who (wanted.Apply grant stamp) reply old new e = tt
  not_at_store key book who (wanted.Abort grant) reply old new e = tt
  not_at_store key book who (wanted.Raise grant) reply old new e = tt
  not_at_store key book who (wanted.Renew grant) reply old new e = tt
  not_at_store key book who wanted.Nothing reply old new e = tt
  not_at_store key book who (wanted.Ask on) reply old new e = absurd (none-some key e)
  not_at_store key book who (wanted.Staged on txn) reply old new e = absurd (none-some key e)
  not_at_store key book who (wanted.Commit txn grants) reply old new e = absurd (none-some key e)
  not_at_store key book who wanted.End reply old new e = absurd (none-some key e)

  pub made_on_shard : (key : QKey) (who : Sid) (request : Wanted) (reply : Reply) (book after : Book) (old new : Seen) → key_of request ≡ Some key
      → ShowsReply opening before shards who request reply new → ShowsFault terms before shards request reply new → after ≡ book_after who request reply book
      → IsMadeAs opening cap terms before shards who request reply book after old new
  made_on_shard key who request reply book after old new at shows refused noted = record {
    on_shard = shows;
    refused = refused;
    at_store = not_at_store key book who request reply old new at;
    noted = noted;
  }

  -- nor does one at the store tell anything of a shard
  not_on_shard : (who : Sid) (request : Wanted) (reply : Reply) (new : Seen) → key_of request ≡ None
      → ShowsReply opening before shards who request reply new × ShowsFault terms before shards request reply new
  not_on_shard who (wanted.Ask key) reply new e = (tt, tt)
  not_on_shard who (wanted.Staged key txn) reply new e = (tt, tt)
  not_on_shard who (wanted.Commit txn grants) reply new e = (tt, tt)
  not_on_shard who wanted.End reply new e = (tt, tt)
  not_on_shard who wanted.Nothing reply new e = (tt, tt)
  not_on_shard who (wanted.Get key floor) reply new e = absurd (none-some key (sym e))
  not_on_shard who (wanted.Set key token value stamp) reply new e = absurd (none-some key (sym e))
  not_on_shard who (wanted.QaReg key) reply new e = absurd (none-some key (sym e))
  not_on_shard who (wanted.QaRead key) reply new e = absurd (none-some key (sym e))
  not_on_shard who (wanted.Delta key by) reply new e = absurd (none-some key (sym e))
  not_on_shard who (wanted.Dar grant) reply new e = absurd (none-some grant.key (sym e))
  not_on_shard who (wanted.Sar grant value stamp) reply new e = absurd (none-some grant.key (sym e))
  not_on_shard who (wanted.Apply grant stamp) reply new e = absurd (none-some grant.key (sym e))
  not_on_shard who (wanted.Abort grant) reply new e = absurd (none-some grant.key (sym e))
  not_on_shard who (wanted.Raise grant) reply new e = absurd (none-some grant.key (sym e))
  not_on_shard who (wanted.Renew grant) reply new e = absurd (none-some grant.key (sym e))

  pub made_at_store : (who : Sid) (request : Wanted) (reply : Reply) (book after : Book) (old new : Seen) → key_of request ≡ None
      → ShowsAtStore opening cap book who request reply old new → after ≡ book_after who request reply book
      → IsMadeAs opening cap terms before shards who request reply book after old new
  made_at_store who request reply book after old new at shows noted =
      let none = not_on_shard who request reply new at in
      record { on_shard = none.0; refused = none.1; at_store = shows; noted = noted }

  -- nothing is made of nothing
  pub made_of_nothing : (who : Sid) (reply : Reply) (book : Book) (old new : Seen)
      → IsMadeAs opening cap terms before shards who wanted.Nothing reply book book old new
  made_of_nothing who reply book old new = record { on_shard = tt; refused = tt; at_store = tt; noted = refl }

  -- a get is made as it is asked for, by each book
  get_is_borne : (book : Book) (who : Sid) (key : QKey) (floor : ℕ) → IsForm book who (wanted.Get key floor) form.AsAsked
  get_is_borne book who key floor = record { borne = ((λ _. tt), (λ _. refl)); odd = λ none. absurd (none tt) }

  pub get_is_answered : (who : Sid) (key : QKey) (floor : ℕ) (reply : Reply) (book after : Book) (old new : Seen) → Belongs who (wanted.Get key floor) reply
      → IsBeginning old new → ShowsReply opening before shards who (wanted.Get key floor) reply new
      → ShowsFault terms before shards (wanted.Get key floor) reply new → after ≡ book_after who (wanted.Get key floor) reply book
      → IsAnswered opening cap terms before shards who (wanted.Get key floor) reply book after old new
  get_is_answered who key floor reply book after old new belongs begins shows refused noted = record {
    proper = tt;
    belongs = belongs;
    begins = begins;
    way = Ok (made.One (wanted.Get key floor));
    by_book = (form.AsAsked, get_is_borne book who key floor, refl);
    shown = made_on_shard key who (wanted.Get key floor) reply book after old new refl shows refused noted;
  }

  -- an end and a drop behind it
  pub ended_and_dropped : (who session : Sid) (grant : Permit) (raises : Bool) (reply : Reply) (answer : Rel) (was : Bool) (book between_book after : Book) (old between new : Seen)
      → IsBeginning old between → IsBeginning between new → ShowsEnd session between was → reply ≡ drop_reply raises answer → ShowsDrop shards grant answer new
      → between_book ≡ book → after ≡ noted_for who (without_grant grant) between_book
      → IsEndDrop shards who session grant raises reply book after old new
  ended_and_dropped who session grant raises reply answer was book between_book after old between new goes on ended told dropped same noted = record {
    between = between;
    was = was;
    goes = goes;
    goes_on = on;
    ended = ended;
    answer = answer;
    told = told;
    dropped = dropped;
    noted = inl (noted ∙ ap (λ b. noted_for who (without_grant grant) b) same);
  }

  -- an end alone
  pub ended_alone : (who session : Sid) (grant : Permit) (raises : Bool) (reply : Reply) (was : Bool) (book after : Book) (old new : Seen)
      → IsBeginning old new → ShowsEnd session new was → was ≡ false → reply ≡ drop_reply raises rel.Gone → after ≡ book
      → IsEndDrop shards who session grant raises reply book after old new
  ended_alone who session grant raises reply was book after old new goes ended closed told same = record {
    between = new;
    was = was;
    goes = goes;
    goes_on = beginning_same new;
    ended = ended;
    answer = rel.Gone;
    told = told;
    dropped = λ differs. absurd (differs refl);
    noted = inr (same, closed, refl);
  }

-- a question that the keeper didn't answer
pub unanswered : (opening : Tables) (cap : ℕ) (book : Book) (who : Sid) (key : QKey) (fault : KeepFault) (old new : Seen) → SeesFailure (has_failed fault) old new
    → ShowsAtStore opening cap book who (wanted.Ask key) (Reply.Fault (fault_of_keeper fault)) old new
unanswered opening cap book who key keep.Failed old new h = h
unanswered opening cap book who key keep.Memory old new h = tt

-- a session that isn't said to be over wasn't open
pub closed_by : (was over : Bool) → (IsTrue was → IsTrue over) → over ≡ false → was ≡ false
closed_by true over gives e = absurd (false≢true (sym e ∙ gives refl))
closed_by false over gives e = refl
