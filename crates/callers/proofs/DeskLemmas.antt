-- A hit of a desk is fresh for its caller.
use Rattle.std.proofs.Common.{ℕ, ◌≡◌, ◌||◌, Bool, true, false, List, [], ◌∷◌, All, Option, Some, None, IsSome, is_none, Result, Ok, Err, ap, subst, sym, ◌∙◌, refl, ⊎_elim}
use Rattle.std.specs.List.{list_any}
use Rattle.std.proofs.lemmas.Bool.{false≢true, cases_Bool}
use Rattle.std.proofs.lemmas.List.Folds.{list_any-append}
use Rattle.rows_model.specs.declared.keys.QKey.{QKey}
use Rattle.rows_model.specs.declared.keys.Sid.{Sid}
use Rattle.rows_model.specs.Placement.{shard_of}
use Rattle.rows_model.specs.Rows.{Tables}
use Rattle.key_shard.specs.declared.replies.Got.TheVariants as got
use Rattle.key_shard.specs.declared.steps.Ended.TheVariants as ended
use Rattle.key_shard.specs.declared.steps.Step.{Step}
use Rattle.key_shard.specs.declared.steps.Step.TheVariants as step
use Rattle.session_client.specs.Belongs.{Belongs}
use Rattle.session_client.specs.Desks.{Exchange, Asked, Began}
use Rattle.session_client.specs.declared.replies.Reply.{Reply as AReply}
use Rattle.session_client.specs.declared.replies.Reply.TheVariants as Reply
use Rattle.session_client.specs.declared.replies.Wanted.{Wanted}
use Rattle.session_client.specs.declared.replies.Wanted.TheVariants as wanted
use Rattle.sql_keeper.specs.Fresh as fresh
use Rattle.log_word.specs.declared.events.Short.{Short}
use Rattle.log_word.specs.declared.seen.Seen.{Seen}
use Rattle.log_word.specs.Lists.{IsStart, steps_of}
use Rattle.log_word.specs.Steps.{IsBeginning}
use Rattle.log_word.proofs.ViewLemmas.{beginning_trans}
use Rattle.bound_hub.specs.Knowns.{commits_of}
use Rattle.bound_hub.specs.Shorts.{short_of, shorts_of}
use Rattle.bound_desk.specs.Shown.{ShowsReply}
use Rattle.bound_desk.specs.Told.{AreShown, IsAnswered, IsMadeBy, IsShownAs}
use Rattle.desk_book.specs.Books.{Book}
use Rattle.desk_book.specs.Made.{made_in}
use Rattle.desk_book.specs.declared.forms.Form.{Form}
use Rattle.desk_book.specs.declared.forms.Form.TheVariants as form
use Rattle.desk_book.specs.declared.made.Made.{Made}
use Rattle.desk_book.specs.declared.made.Made.TheVariants as made
use Rattle.key_shard.specs.Past.{Terms}
use Rattle.callers.specs.Desks.{releases, Always, AreServed, HoldsOwn, IsNoOlderThan, IsServedFresh, IsServedHit, IsRunning}

-- a step that releases the key in short releases it
releases_it : (key : QKey) (who : Sid) (s : Step) (has : Bool) → releases key who.number (short_of s has) ≡ true → fresh.releases key who s ≡ true
releases_it key who (step.Released on sid token ended.Keep) has is = is
releases_it key who (step.Released on sid token ended.Drop) has is = is
releases_it key who (step.Released on sid token (ended.Put value stamp evicted)) has is = is
releases_it key who (step.Released on sid token (ended.Shift by stamp)) has is = is
releases_it key who (step.Hit on sid floor value stamp) has is = absurd (false≢true is)
releases_it key who (step.Lease on sid floor now token deadline) has is = absurd (false≢true is)
releases_it key who (step.Again on sid floor now stands) has is = absurd (false≢true is)
releases_it key who (step.Own on sid) has is = absurd (false≢true is)
releases_it key who (step.Stored on token now value stamp evicted) has is = absurd (false≢true is)
releases_it key who (step.Void on token now) has is = absurd (false≢true is)
releases_it key who (step.Granted on sid mode shift now token deadline) has is = absurd (false≢true is)
releases_it key who (step.Held on sid mode) has is = absurd (false≢true is)
releases_it key who (step.Refused on sid mode holder held) has is = absurd (false≢true is)
releases_it key who (step.Gone on sid token) has is = absurd (false≢true is)
releases_it key who (step.Raised on sid token) has is = absurd (false≢true is)
releases_it key who (step.Shared on sid token holder) has is = absurd (false≢true is)
releases_it key who (step.Renewed on sid token now deadline) has is = absurd (false≢true is)

either : (a b c d : Bool) → (a ≡ true → c ≡ true) → (b ≡ true → d ≡ true) → (a || b) ≡ true → (c || d) ≡ true
either true b c d left right is = ap (λ x. x || d) (left refl)
either false b true d left right is = refl
either false b false d left right is = right is

-- and so of all steps of a shard
released_among : (key : QKey) (who : Sid) (before more : List Step) → list_any (releases key who.number) (shorts_of before more) ≡ true
    → list_any (fresh.releases key who) more ≡ true
released_among key who before [] is = absurd (false≢true is)
released_among key who before (s ∷ more) is =
    either _ _ (fresh.releases key who s) (list_any (fresh.releases key who) more) (releases_it key who s _) (released_among key who before more) is

right_one : (a b : Bool) → b ≡ true → (a || b) ≡ true
right_one true b is = refl
right_one false b is = is

-- what was seen before is seen behind
pub still_among : (p : Short → Bool) (old new : List Short) → IsStart old new → list_any p old ≡ true → list_any p new ≡ true
still_among p old new start is =
    ap (λ (l : List Short). list_any p l) start.1 ∙ list_any-append p start.0 old ∙ right_one (list_any p start.0) (list_any p old) is

pub served_fresh : (opening : Tables) (before : ℕ → List Step) (shards : ℕ) (who : Sid) (key : QKey) (floor : ℕ) (old new : Seen) (value : List ℕ) (stamp : ℕ)
    → Belongs who (wanted.Get key floor) (Reply.Got (got.Hit value stamp)) → IsBeginning old new
    → ShowsReply opening before shards who (wanted.Get key floor) (Reply.Got (got.Hit value stamp)) new
    → IsServedFresh IsRunning opening shards old new key floor value stamp
served_fresh opening before shards who key floor old new value stamp belongs begins shows = record {
  floor_met = belongs;
  known = λ running. (shows.2 running).2.known;
  right = λ running. (shows.2 running).2.right;
  current = λ running place commit at touched released.
      let hit = shows.2 running in
      let number = shard_of key shards in
      let p = releases key commit.sid.number in
      let now = still_among p (steps_of number old.steps) (steps_of number new.steps) (begins.steps number) released in
      hit.2.current place commit at touched
      (released_among key commit.sid (before number) hit.0 (subst (λ (l : List Short). list_any p l ≡ true) hit.1 now));
}

-- where the store still tells its rows it told them before
pub running_before : (early late : Seen) → IsBeginning early late → late.stopped ≡ false → early.stopped ≡ false
running_before early late begins run =
    ⊎_elim (λ is. absurd (false≢true (sym run ∙ begins.stopped is))) (λ no. no) (cases_Bool early.stopped)

hit_always : (opening : Tables) (shards : ℕ) (calls : List Exchange) (before after : Seen) (key : QKey) (floor : ℕ) (value : List ℕ) (stamp : ℕ) → after.stopped ≡ false
    → IsServedHit IsRunning opening shards calls before after key floor value stamp → IsServedHit Always opening shards calls before after key floor value stamp
hit_always opening shards calls before after key floor value stamp run h = record {
  fresh = record {
    floor_met = h.fresh.floor_met;
    known = λ _. h.fresh.known run;
    right = λ _. h.fresh.right run;
    current = λ _. h.fresh.current run;
  };
  own = λ _. h.own run;
  no_older = λ _. h.no_older run;
}

-- so what is said of calls needs no premise then
pub always_served : (opening : Tables) (shards : ℕ) (calls : List Exchange) (seen : Seen) → seen.stopped ≡ false
    → AreServed IsRunning opening shards calls seen → AreServed Always opening shards calls seen
always_served opening shards [] seen run h = tt
always_served opening shards (Asked who (wanted.Get key floor) (Reply.Got (got.Hit value stamp)) ∷ calls) seen run h =
    let now = running_before h.1 seen h.3 run in (
      h.0,
      h.1,
      h.2,
      h.3,
      hit_always opening shards calls h.0 h.1 key floor value stamp now h.4,
      always_served opening shards calls h.0 (running_before h.0 h.1 h.2 now) h.5,
    )
always_served opening shards (call ∷ calls) seen run h = (h.0, h.1, always_served opening shards calls h.0 (running_before h.0 seen h.1 run) h.2)

-- rows that are told are there
pub some_rows : {X : Type 0} (rows : Option X) → IsSome rows → is_none rows ≡ false
some_rows (Some x) is = refl
some_rows None is = absurd (false≢true is)

-- a get is made as it is asked for, in each form
get_made : (found : Form) (who : Sid) (key : QKey) (floor : ℕ) → made_in found who (wanted.Get key floor) ≡ made.One (wanted.Get key floor)
get_made form.AsAsked who key floor = refl
get_made form.VoidSet who key floor = refl
get_made form.NoValue who key floor = refl
get_made form.DropOnly who key floor = refl
get_made (form.EndDrop session) who key floor = refl
get_made form.Shared who key floor = refl
get_made (form.Refused mode) who key floor = refl
get_made form.NotCommitted who key floor = refl
get_made form.HeldAlone who key floor = refl

module _ (opening : Tables) (cap : ℕ) (terms : ℕ → Terms) (before : ℕ → List Step) (shards : ℕ) where
  pub get_shown : (who : Sid) (key : QKey) (floor : ℕ) (reply : AReply) (since book : Book) (old new : Seen) (way : Result Made Wanted)
      → IsMadeBy since who (wanted.Get key floor) way → IsShownAs opening cap terms before shards who (wanted.Get key floor) reply way since book old new
      → ShowsReply opening before shards who (wanted.Get key floor) reply new
  get_shown who key floor reply since book old new (Ok one) by_book shown =
      let as_asked = subst (λ m. IsShownAs opening cap terms before shards who (wanted.Get key floor) reply (Ok m) since book old new)
      (by_book.2 ∙ get_made by_book.0 who key floor) shown in
      as_asked.on_shard
  get_shown who key floor reply since book old new (Err back) by_book shown = absurd by_book.0
