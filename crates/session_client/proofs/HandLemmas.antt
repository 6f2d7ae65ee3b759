-- What a writer has in hand, and what it wants by that.
use Rattle.std.proofs.Common.{append-nil, ◌≡◌, ◌+◌, ◌<◌, ◌≤◌, ℕ, zero, suc, Bool, false, List, [], ◌∷◌, length, map, take, drop, set}
use Rattle.std.proofs.Common.{get_or, Option, Some, None, slice_get, count_by, refl, ap, sym, subst, ◌∙◌, arith}
use Rattle.rows_model.specs.declared.keys.QKey.{QKey}
use Rattle.rows_model.specs.declared.changes.Change.{Change}
use Rattle.lease_table.specs.declared.records.Mode.{Mode}
use Rattle.lease_table.specs.declared.records.Mode.TheVariants as modes
use Rattle.key_shard.specs.Permit.{Permit}
use Rattle.std.specs.Prelude.{IfSome, Result, Ok, Err, MatchResult}
use Rattle.session_client.specs.declared.replies.Outcome.{Outcome}
use Rattle.session_client.specs.declared.replies.Outcome.TheVariants as outcomes
use Rattle.session_client.specs.declared.replies.Reply.{Reply}
use Rattle.session_client.specs.declared.replies.Reply.TheVariants as Reply
use Rattle.session_client.specs.declared.replies.Wanted.{Wanted}
use Rattle.session_client.specs.declared.replies.Wanted.TheVariants as wanted
use Rattle.session_client.specs.declared.stages.Next.{Next}
use Rattle.session_client.specs.declared.stages.Release.{Release}
use Rattle.session_client.specs.declared.stages.Release.TheVariants as releases
use Rattle.session_client.specs.declared.stages.WriteStage.{WriteStage}
use Rattle.session_client.specs.declared.stages.WriteStage.TheVariants as stages
use Rattle.session_client.specs.Follows.{CommitAwaits, HasNew, IsEnding, IsNext, IsOut, PartsFollow, WriteIsReady, write_is_over}
use Rattle.session_client.specs.Plans.{mode_on}
use Rattle.session_client.specs.Wants.{Given, Writing, Then, Commits, Looks, Quits, Raises, Renews, Drops, given, granted, released, is_had, is_nothing}
use Rattle.session_client.specs.Wants.{quarantine_as, quarantine_next, quarantine_or_then, raise_or_commit, renew_or_commit, turned, release_after, release_of, finish, write_wants, commit_with}
use Rattle.session_client.specs.Wants.{commit_outcome, end_outcome}
use Rattle.session_client.specs.Grants.{GrantsView}
use Rattle.session_client.specs.Wants as wants
use Rattle.session_client.specs.Writers.{HandView, HasRoom, IsNewBeside, release_as, old_value, renewed, all_renewed, new_values}
use Rattle.session_client.proofs.WantCases.{permits, granted-given}

-- what is at a place is in front of the list without what comes before it
pub at_place : {X : Type 0} (xs : List X) (n : ℕ) → slice_get (drop n xs) 0 ≡ slice_get xs n
at_place [] zero = refl
at_place [] (suc n) = refl
at_place (x ∷ xs) zero = refl
at_place (x ∷ xs) (suc n) = at_place xs n

suc-plus : (n : ℕ) → suc n ≡ n + 1
suc-plus n = omega arith

drop_suc : {X : Type 0} (xs : List X) (n : ℕ) → drop 1 (drop n xs) ≡ drop (suc n) xs
drop_suc [] zero = refl
drop_suc [] (suc n) = refl
drop_suc (x ∷ xs) zero = refl
drop_suc (x ∷ xs) (suc n) = drop_suc xs n

-- what is left of a list's end without its first is the end that begins one later
pub drop_more : {X : Type 0} (xs : List X) (n : ℕ) → drop 1 (drop n xs) ≡ drop (n + 1) xs
drop_more xs n = drop_suc xs n ∙ ap (λ m. drop m xs) (suc-plus n)

-- the grant at a place is that of what was given there
pub record IsOfGiven (ones : List Given) (n : ℕ) (grant : Permit) : Type 0 where
  pub one : Given
  pub at : slice_get ones n ≡ Some one
  pub permit : one.permit ≡ grant

some_same : {X : Type 0} {a b : X} → Some a ≡ Some b → a ≡ b
some_same e = cc

of_permit : (ones : List Given) (n : ℕ) (grant : Permit) → slice_get (permits ones) n ≡ Some grant → IsOfGiven ones n grant
of_permit [] n grant e = elim (none_some e) [ ]
  where
    none_some : None ≡ Some grant → ⊥
    none_some e = cc
of_permit (one ∷ ones) zero grant e = record { one = one; at = refl; permit = some_same e }
of_permit (one ∷ ones) (suc n) grant e =
    let found = of_permit ones n grant e in
    record { one = found.one; at = found.at; permit = found.permit }

-- the first grant in hand is that of what was given next
pub next_given : (heard : List Reply) (n : ℕ) (items : List Permit) (grant : Permit)
    → items ≡ drop n (granted heard) → slice_get items 0 ≡ Some grant → IsOfGiven (given heard) n grant
next_given heard n items grant left first =
    of_permit (given heard) n grant (ap (λ l. slice_get l n) (sym (granted-given heard))
    ∙ sym (at_place (granted heard) n) ∙ ap (λ l. slice_get l 0) (sym left) ∙ first)

none_past : (ones : List Given) (n : ℕ) → drop n (permits ones) ≡ [] → slice_get ones n ≡ None
none_past [] n e = refl
none_past (one ∷ ones) zero e = cc
none_past (one ∷ ones) (suc n) e = none_past ones n e

-- where no grant is left, nothing was given next
pub none_given : (heard : List Reply) (n : ℕ) → drop n (granted heard) ≡ [] → slice_get (given heard) n ≡ None
none_given heard n e = none_past (given heard) n (ap (λ l. drop n l) (sym (granted-given heard)) ∙ e)

-- the value beside the first grant in hand is that of what was given next
new_here : (txn : List Change) (ones : List Given) (values : List (Option (List ℕ))) (n : ℕ) (one : Given) (value : Option (List ℕ))
    → values ≡ new_values txn (drop n ones) → slice_get ones n ≡ Some one → slice_get values 0 ≡ Some value → value ≡ renewed txn one.permit (old_value one)
new_here txn [] values n one value e at first = cc
new_here txn (other ∷ ones) values zero one value e at first =
    let same : other ≡ one = some_same at in
    some_same (sym first ∙ ap (λ l. slice_get l 0) e) ∙ ap (λ (o : Given). renewed txn o.permit (old_value o)) same
new_here txn (other ∷ ones) values (suc n) one value e at first = new_here txn ones values n one value e at first

pub next_new : (how : Release) (txn : List Change) (ones : List Given) (values : List (Option (List ℕ))) (n : ℕ) (one : Given) (value : Option (List ℕ))
    → HasNew how txn (drop n ones) values → slice_get ones n ≡ Some one → slice_get values 0 ≡ Some value → IsNewBeside how txn one value
next_new releases.Keep txn ones values n one value h at first = tt
next_new releases.Drop txn ones values n one value h at first = tt
next_new (releases.Finish number) txn ones values n one value h at first = new_here txn ones values n one value h at first

drop_new : (txn : List Change) (ones : List Given) (n : ℕ) → drop 1 (new_values txn (drop n ones)) ≡ new_values txn (drop (suc n) ones)
drop_new txn [] zero = refl
drop_new txn [] (suc n) = refl
drop_new txn (one ∷ ones) zero = refl
drop_new txn (one ∷ ones) (suc n) = drop_new txn ones n

-- the values behind it are those beside the other grants
pub rest_new : (how : Release) (txn : List Change) (ones : List Given) (values : List (Option (List ℕ))) (n : ℕ)
    → HasNew how txn (drop n ones) values → HasNew how txn (drop (n + 1) ones) (drop 1 values)
rest_new releases.Keep txn ones values n h = tt
rest_new releases.Drop txn ones values n h = tt
rest_new (releases.Finish number) txn ones values n h =
    ap (λ (l : List (Option (List ℕ))). drop 1 l) h ∙ drop_new txn ones n ∙ ap (λ m. new_values txn (drop m ones)) (suc-plus n)

-- the old values beside what was given become its new ones
pub renewed_all : (txn : List Change) (ones : List Given) → all_renewed txn (permits ones) (map old_value ones) ≡ new_values txn ones
renewed_all txn [] = refl
renewed_all txn (one ∷ ones) = ap (λ (l : List (Option (List ℕ))). renewed txn one.permit (old_value one) ∷ l) (renewed_all txn ones)

next_step : (txn : List Change) (grants : List Permit) (values : List (Option (List ℕ))) (i : ℕ) (d : Permit) (old : Option (List ℕ))
    → i < length grants → length values ≡ length grants
    → set (all_renewed txn (take i grants) values) i (renewed txn (get_or grants i d) (get_or (all_renewed txn (take i grants) values) i old))
    ≡ all_renewed txn (take (suc i) grants) values
next_step txn [] values i d old less same = absurd (omega (arith, less))
next_step txn (grant ∷ grants) [] i d old less same = absurd (omega (arith, same))
next_step txn (grant ∷ grants) (value ∷ values) zero d old less same = refl
next_step txn (grant ∷ grants) (value ∷ values) (suc i) d old less same =
    ap (λ (l : List (Option (List ℕ))). renewed txn grant value ∷ l) (next_step txn grants values i d old (omega (arith, less)) (omega (arith, same)))

-- with the next value renewed, one more is
pub renewed_next : (txn : List Change) (grants : List Permit) (values now : List (Option (List ℕ))) (i : ℕ) (grant : Permit) (old new : Option (List ℕ))
    → i < length grants → length values ≡ length grants
    → now ≡ all_renewed txn (take i grants) values → grant ≡ get_or grants i grant
    → new ≡ renewed txn grant (get_or now i old) → set now i new ≡ all_renewed txn (take (i + 1) grants) values
renewed_next txn grants values now i grant old new less same so_far at renew =
    ap (λ v. set now i v) (renew ∙ ap (λ g. renewed txn g (get_or now i old)) at)
    ∙ ap (λ l. set l i (renewed txn (get_or grants i grant) (get_or l i old))) so_far
    ∙ next_step txn grants values i grant old less same ∙ ap (λ n. all_renewed txn (take n grants) values) (suc-plus i)

some_within : {X : Type 0} (xs : List X) (i : ℕ) → i < length xs → slice_get xs i ≡ None → ⊥
some_within [] i less e = omega (arith, less)
some_within (x ∷ xs) zero less e = cc
some_within (x ∷ xs) (suc i) less e = some_within xs i (omega (arith, less)) e

-- what is wanted while something is
quarantines : (m : Mode) (key : QKey) (txn : List Change) → is_nothing (quarantine_as m key txn) ≡ false
quarantines modes.Invalidate key txn = refl
quarantines modes.Refresh key txn = refl
quarantines modes.Delta key txn = refl

finishes : (m : Mode) (txn : List Change) (number : ℕ) (one : Given) → is_nothing (finish m txn number one) ≡ false
finishes modes.Invalidate txn number one = refl
finishes modes.Refresh txn number one = refl
finishes modes.Delta txn number one = refl

lets_go : (how : wants.Release) (txn : List Change) (one : Given) → is_nothing (release_of txn how (Some one)) ≡ false
lets_go wants.Keeps txn one = refl
lets_go wants.Drops txn one = refl
lets_go (wants.Finishes number) txn one = finishes one.permit.mode txn number one

raises : (writing : Writing) (heard : List Reply) (o : Option Permit) → is_nothing (raise_or_commit writing heard o) ≡ false
raises writing heard (Some grant) = refl
raises writing heard None = refl

renews : (writing : Writing) (heard : List Reply) (o : Option Permit) → is_nothing (renew_or_commit writing heard o) ≡ false
renews writing heard (Some grant) = refl
renews writing heard None = refl

asks : (writing : Writing) (heard : List Reply) (o : Option QKey)
    → slice_get writing.keys (count_by is_had heard) ≡ o → count_by is_had heard < length writing.keys
    → is_nothing (quarantine_or_then writing heard o) ≡ false
asks writing heard (Some key) at within = quarantines (mode_on writing.mode key) key writing.txn
asks writing heard None at within = absurd (some_within writing.keys (count_by is_had heard) within at)

-- the first of a list that has one
pub record HasFirst (items : List Permit) : Type 0 where
  pub grant : Permit
  pub first : slice_get items 0 ≡ Some grant

has_first : (items : List Permit) → 1 ≤ length items → HasFirst items
has_first [] h = absurd (omega (arith, h))
has_first (grant ∷ items) h = record { grant = grant; first = refl }

goes_on : (txn : List Change) (how : wants.Release) (heard : List Reply) (items : List Permit)
    → items ≡ drop (released heard) (granted heard) → 1 ≤ length items
    → is_nothing (release_of txn how (slice_get (given heard) (released heard))) ≡ false
goes_on txn how heard items left some =
    let front = has_first items some in
    let next = next_given heard (released heard) items front.grant left front.first in
    subst (λ o. is_nothing (release_of txn how o) ≡ false) (sym next.at) (lets_go how txn next.one)

-- a writer that isn't at its end wants something
pub wants_more : (next : Next) (writing : Writing) (hand : HandView) (stage : WriteStage) (short : Bool) (heard : List Reply)
    → HasRoom next writing.keys hand stage → WriteIsReady stage → write_is_over stage ≡ false
    → PartsFollow writing hand stage short heard → is_nothing (write_wants writing short heard) ≡ false
wants_more next writing hand (stages.Quarantining count txn) short heard room ready over h =
    let less = room.0 in
    let counted = h.1 in
    ap is_nothing h.0 ∙ asks writing heard (slice_get writing.keys (count_by is_had heard)) refl (omega (arith, less, counted))
wants_more next writing hand (stages.Getting key txn) short heard room ready over h = ap is_nothing h.0
wants_more next writing hand (stages.Staging key txn) short heard room ready over h = ap is_nothing h.0
wants_more next writing hand stages.Asking short heard room ready over h = absurd ready
wants_more next writing hand (stages.Raising place txn) short heard room ready over h =
    ap is_nothing h.0 ∙ raises writing heard (slice_get (granted heard) (turned heard))
wants_more next writing hand (stages.Raised place txn) short heard room ready over h = absurd ready
wants_more next writing hand (stages.Renewing place txn) short heard room ready over h =
    ap is_nothing h.0 ∙ renews writing heard (slice_get (granted heard) (turned heard))
wants_more next writing hand (stages.Renewed place txn) short heard room ready over h = absurd ready
wants_more next writing hand (stages.Ready txn) short heard room ready over h = ap is_nothing h.0
wants_more next writing hand stages.Committing short heard room ready over h = absurd ready
wants_more next writing hand (stages.Ending ended) short heard room ready over h = ap is_nothing h.0
wants_more next writing hand (stages.Releasing ended how) short heard room ready over h =
    ap is_nothing h.0 ∙ goes_on writing.txn (release_as how) heard hand.grants.items h.1.0 room.0
wants_more next writing hand (stages.Returning ended how back) short heard room ready over h = absurd ready
wants_more next writing hand (stages.Dropping ended how) short heard room ready over h =
    ap is_nothing h.0 ∙ goes_on writing.txn wants.Drops heard hand.grants.items h.1.0 room.0
wants_more next writing hand (stages.Done ended) short heard room ready over h = cc

-- a writer that isn't done isn't at its end
pub not_over : (stage : WriteStage) → ((ended : Outcome) → stage ≡ stages.Done ended → ⊥) → write_is_over stage ≡ false
not_over (stages.Done ended) not_done = absurd (not_done ended refl)
not_over stage not_done = refl

-- the next quarantine is that of the next key
pub asks_next : (writing : Writing) (heard : List Reply) (count : ℕ) (key : QKey) → count_by is_had heard ≡ count → slice_get writing.keys count ≡ Some key
    → quarantine_next writing heard ≡ quarantine_as (mode_on writing.mode key) key writing.txn
asks_next writing heard count key counted at =
    ap (quarantine_or_then writing heard) (ap (λ n. slice_get writing.keys n) counted ∙ at)

next_back : (back : Option Permit) (grant : Permit) (heard : List Reply)
    → IfSome back (λ note. note ≡ grant) → slice_get (granted heard) (released heard) ≡ Some grant → IsNext back heard
next_back None grant heard same at = tt
next_back (Some note) grant heard same at = at ∙ ap (λ (g : Permit). Some g) (sym same)

-- a writer that hands out its first grant, with the value beside it, has the others
pub after_take : (writing : Writing) (hand : HandView) (ended : Outcome)
    (how : Release) (back : Option Permit) (grant : Permit) (short : Bool) (heard : List Reply)
    → slice_get hand.grants.items 0 ≡ Some grant → IfSome back (λ note. note ≡ grant) → PartsFollow writing hand (stages.Releasing ended how) short heard
    → PartsFollow writing (record {
      room = hand.room;
      given = hand.given;
      grants = record { items = drop 1 hand.grants.items; room = hand.grants.room };
      values = drop 1 hand.values;
    }) (stages.Returning ended how back) short heard
after_take writing hand ended how back grant short heard first same (wanted, ending) =
    let (items, values, way, outcome) = ending in
    let at = sym (at_place (granted heard) (released heard)) ∙ ap (λ l. slice_get l 0) (sym items) ∙ first in (
      next_back back grant heard same at,
      (
        ap (λ (l : List Permit). drop 1 l) items ∙ drop_more (granted heard) (released heard),
        rest_new how writing.txn (given heard) hand.values (released heard) values,
        way,
        outcome,
      ),
    )

-- and so where that grant came back, and has no value beside it
pub after_take_alone : (writing : Writing) (hand : HandView) (ended : Outcome) (how : Release) (short : Bool) (heard : List Reply)
    → PartsFollow writing hand (stages.Dropping ended how) short heard
    → PartsFollow writing (record {
      room = hand.room;
      given = hand.given;
      grants = record { items = drop 1 hand.grants.items; room = hand.grants.room };
      values = hand.values;
    }) (stages.Returning ended how None) short heard
after_take_alone writing hand ended how short heard (wanted, ending) =
    let (items, values, way, outcome) = ending in
    (tt, (ap (λ (l : List Permit). drop 1 l) items ∙ drop_more (granted heard) (released heard), values, way, outcome))

-- the next release is that of the first grant in hand, with the value beside it
pub next_release : (writing : Writing) (hand : HandView) (ended : Outcome)
    (how : Release) (grant : Permit) (value : Option (List ℕ)) (request : Wanted) (short : Bool) (heard : List Reply)
    → slice_get hand.grants.items 0 ≡ Some grant → slice_get hand.values 0 ≡ Some value
    → ((one : Given) (txn : List Change) → one.permit ≡ grant → IsNewBeside how txn one value → request ≡ release_of txn (release_as how) (Some one))
    → PartsFollow writing hand (stages.Releasing ended how) short heard → request ≡ write_wants writing short heard
next_release writing hand ended how grant value request short heard first beside release (wanted, ending) =
    let (items, values, way, outcome) = ending in
    let next = next_given heard (released heard) hand.grants.items grant items first in
    release next.one writing.txn next.permit (next_new how writing.txn (given heard) hand.values (released heard) next.one value values next.at beside)
    ∙ ap (release_of writing.txn (release_as how)) (sym next.at) ∙ sym wanted

-- where it came back, its value is dropped
pub next_drop : (writing : Writing) (hand : HandView) (ended : Outcome) (how : Release) (grant : Permit) (short : Bool) (heard : List Reply)
    → slice_get hand.grants.items 0 ≡ Some grant → PartsFollow writing hand (stages.Dropping ended how) short heard
    → wanted.Dar grant ≡ write_wants writing short heard
next_drop writing hand ended how grant short heard first (wants, ending) =
    let (items, values, way, outcome) = ending in
    let next = next_given heard (released heard) hand.grants.items grant items first in
    ap wanted.Dar (sym next.permit) ∙ ap (release_of writing.txn Drops) (sym next.at) ∙ sym wants

in_front : (xs : List Permit) (n : ℕ) (x : Permit) → slice_get xs n ≡ Some x → x ∷ drop (suc n) xs ≡ drop n xs
in_front [] n x e = cc
in_front (y ∷ xs) zero x e = ap (λ (z : Permit). z ∷ xs) (sym (some_same e))
in_front (y ∷ xs) (suc n) x e = in_front xs n x e

-- a grant that came back is in front again
pub after_back : (writing : Writing) (hand : HandView) (ended : Outcome)
    (how : Release) (back : Option Permit) (grant : Permit) (short : Bool) (heard : List Reply)
    → back ≡ Some grant → PartsFollow writing hand (stages.Returning ended how back) short heard
    → PartsFollow writing (record {
      room = hand.room;
      given = hand.given;
      grants = record { items = grant ∷ hand.grants.items; room = hand.grants.room };
      values = hand.values;
    }) (stages.Dropping ended how) short (Reply.SarBack grant ∷ heard)
after_back writing hand ended how back grant short heard named (next, ending) =
    let (items, values, way, outcome) = ending in
    let at : slice_get (granted heard) (released heard) ≡ Some grant = subst (λ o. IsNext o heard) named next in
    let same = append-nil (granted heard) in
    let all = append-nil (given heard) in (
      refl,
      (
        ap (λ (l : List Permit). grant ∷ l) (items ∙ ap (λ m. drop m (granted heard)) (sym (suc-plus (released heard))))
            ∙ in_front (granted heard) (released heard) grant at
            ∙ ap (λ l. drop (released heard) l) (sym same),
        subst (λ l. HasNew how writing.txn (drop (released heard + 1) l) hand.values) (sym all) values,
        way,
        outcome,
      ),
    )

ended_so : (next : Then) (ended : Outcome) → end_outcome next (Some ended) ≡ Some ended
ended_so Commits ended = refl
ended_so (Looks key) ended = refl
ended_so Quits ended = refl
ended_so Raises ended = refl
ended_so Renews ended = refl

-- a writer that was told of its commit, with memory for the new values, finishes its grants
pub committed_wants : (writing : Writing) (number : ℕ) (txn : List Change) (back : GrantsView) (short : Bool) (heard : List Reply) → short ≡ false
    → write_wants writing short (Reply.Committed number txn back ∷ heard)
    ≡ release_of writing.txn (wants.Finishes number)
    (slice_get (given (Reply.Committed number txn back ∷ heard)) (released (Reply.Committed number txn back ∷ heard)))
committed_wants writing number txn back short heard roomy =
    ap (λ b. release_of writing.txn (release_after b (Some number))
    (slice_get (given (Reply.Committed number txn back ∷ heard)) (released (Reply.Committed number txn back ∷ heard)))) roomy

-- it has its grants again, and the new values beside them
pub after_commit : (writing : Writing) (hand : HandView) (number room : ℕ) (txn : List Change) (back : GrantsView) (short : Bool) (heard : List Reply)
    → CommitAwaits writing.txn (record { items = hand.given; room = room }) (Reply.Committed number txn back)
    → hand.given ≡ granted heard → IsOut hand short heard
    → IsEnding writing (record { room = hand.room; given = hand.given; grants = back; values = all_renewed txn hand.given hand.values })
    (outcomes.Committed number) (releases.Finish number)
    (released (Reply.Committed number txn back ∷ heard)) (released (Reply.Committed number txn back ∷ heard)) short (Reply.Committed number txn back ∷ heard)
after_commit writing hand number room txn back short heard awaits is_so (values, none, before, roomy) =
    let same = append-nil (granted heard) in
    let all = append-nil (given heard) in (
      awaits.1.same ∙ is_so ∙ ap (λ m. drop m (granted heard)) (sym none) ∙ ap (λ l. drop (released heard) l) (sym same),
      ap (λ l. all_renewed txn l hand.values) (is_so ∙ granted-given heard)
          ∙ ap (λ l. all_renewed txn (permits (given heard)) l) values ∙ renewed_all txn (given heard)
          ∙ ap (λ l. new_values l (given heard)) awaits.0 ∙ ap (λ m. new_values writing.txn (drop m (given heard))) (sym none)
          ∙ ap (λ l. new_values writing.txn (drop (released heard) l)) (sym all),
      ap (λ b. release_after b (Some number)) (sym roomy),
      ended_so writing.next (commit_outcome short number) ∙ ap (λ b. Some (commit_outcome b number)) roomy,
    )

-- what holds however a result came out holds with what each outcome gives
pub with_fact : {T E : Type 0} (r : Result T E) (A : Type 0) (P : T → Type 0) (Q : E → Type 0)
    → A → MatchResult r P Q → MatchResult r (λ x. A × P x) (λ e. A × Q e)
with_fact (Ok x) A P Q a h = (a, h)
with_fact (Err e) A P Q a h = (a, h)

-- past its end a list has nothing
none_past_end : {X : Type 0} (xs : List X) (n : ℕ) → length xs ≤ n → slice_get xs n ≡ None
none_past_end [] n h = refl
none_past_end (x ∷ xs) zero h = absurd (omega (arith, h))
none_past_end (x ∷ xs) (suc n) h = none_past_end xs n (omega (arith, h))

commit_is : (writing : Writing) (hand : HandView) (txn : List Change) (heard : List Reply)
    → txn ≡ writing.txn → hand.grants.items ≡ granted heard → hand.grants.room ≡ length writing.keys
    → wanted.Commit txn hand.grants ≡ commit_with writing heard
commit_is writing hand txn heard same items roomy = λ i. wanted.Commit (same i) (record { items = items i; room = roomy i })

-- a writer that has raised its last quarantine commits, and so does one that has renewed its last
pub commits_raised : (writing : Writing) (hand : HandView) (place : ℕ) (txn : List Change) (short : Bool) (heard : List Reply)
    → length hand.grants.items ≤ place → PartsFollow writing hand (stages.Raising place txn) short heard
    → wanted.Commit txn hand.grants ≡ write_wants writing short heard
commits_raised writing hand place txn short heard past (wants, turn, same, hands) =
    let (items, roomy, values, kept, number, outcome, ample) = hands in
    let long = ap (λ (l : List Permit). length l) items in
    let over = none_past_end (granted heard) (turned heard) (omega (arith, past, turn, long)) in
    commit_is writing hand txn heard same items roomy ∙ ap (raise_or_commit writing heard) (sym over) ∙ sym wants

pub commits_renewed : (writing : Writing) (hand : HandView) (place : ℕ) (txn : List Change) (short : Bool) (heard : List Reply)
    → length hand.grants.items ≤ place → PartsFollow writing hand (stages.Renewing place txn) short heard
    → wanted.Commit txn hand.grants ≡ write_wants writing short heard
commits_renewed writing hand place txn short heard past (wants, turn, same, hands) =
    let (items, roomy, values, kept, number, outcome, ample) = hands in
    let long = ap (λ (l : List Permit). length l) items in
    let over = none_past_end (granted heard) (turned heard) (omega (arith, past, turn, long)) in
    commit_is writing hand txn heard same items roomy ∙ ap (renew_or_commit writing heard) (sym over) ∙ sym wants
